-- An entry is added to the log, or taken back.
use Rattle.std.proofs.Common.{◌≡◌, inl, inr, ⊎_elim, ℕ, ◌≤◌, ◌⊎◌, ◌++◌, Bool, true, false, if◌then◌else◌, List, [], ◌∷◌, length, take, Option, Some, None, Result, Ok, Err, OnOk, refl, sym, ◌∙◌, ap, ap₂, subst, true≢false}
use Rattle.log_store.specs.Names.{same_which, is_among}
use Rattle.log_store.specs.Lines.{Log, Records, over, latest, task_of, lines_of, task_by, made_by, changed, bytes_of}
use Rattle.log_store.specs.Disk.{Files, File, Firm, Missing, Disk, Leaves, taken, Appended, Cut, FlushedLog}
use Rattle.log_store.specs.Sound.{shown, shown_file, resolved, moves, kept, Loads, OneOf, IsSound}
use Rattle.log_store.specs.Making.{large_by, later_or, large_of, AreReady, Ready, Covers, IsMaybe, TakenBack, Added, Cleaned}
use Rattle.log_store.specs.declared.edit.Edit.{Edit}
use Rattle.log_store.specs.declared.edit.What.{What}
use Rattle.log_store.specs.declared.edit.What.TheVariants as what
use Rattle.log_store.specs.declared.edit.Line.{Line}
use Rattle.log_store.specs.declared.edit.Task.{Task}
use Rattle.log_store.specs.declared.edit.Task.TheVariants as task
use Rattle.log_store.specs.declared.folder.Fault.{Fault}
use Rattle.log_store.specs.declared.staging.Undone.{Undone}
use Rattle.log_store.specs.declared.staging.Undone.TheVariants as undone
use Rattle.log_store.specs.declared.which.Which.{Which}
use Rattle.log_store.specs.declared.which.FileName.TheVariants.{Record, New}
use Rattle.log_store.proofs.Steps.{one_step, and_then, weaker, on_ok}
use Rattle.log_store.proofs.lemmas.Logs.{says_append}

-- what a record's last line makes of it
abbrev pub Told : Option Task → Option (List ℕ) → Option (List ℕ) → Option (List ℕ) → Type 0
Told None new before after = after ≡ before
Told (Some (task.Put bytes)) new before after = after ≡ Some bytes
Told (Some (task.Moves k)) new before after = (bytes : List ℕ) × (new ≡ Some bytes) × (after ≡ Some bytes)
Told (Some task.Goes) new before after = after ≡ None

line_by : Bool → What → Option Task
line_by b w = if b then Some (task_by w) else None

-- by an edit's line, where none is behind it
told_here : (b : Bool) (w : What) (before after : Option (List ℕ)) → after ≡ (if b then made_by w else before) → Told (if b then Some (task_by w) else None) (if b then large_by w else None) before after
told_here true (what.Put p) before after is = is
told_here true (what.Large p) before after is = (bytes_of p, refl, is)
told_here true what.Goes before after is = is
told_here false w before after is = is

told_on : (t : Option Task) (b : Bool) (w : What) (new before after : Option (List ℕ)) → (t ≡ None → new ≡ None) → Told t new (if b then made_by w else before) after
    → Told (over t (if b then Some (task_by w) else None)) (later_or new (if b then large_by w else None)) before after
told_on None b w new before after none told =
    subst (λ (o : Option (List ℕ)). Told (if b then Some (task_by w) else None) (later_or o (if b then large_by w else None)) before after) (sym (none refl)) (told_here b w before after told)
told_on (Some (task.Put bytes)) b w new before after none told = told
told_on (Some (task.Moves k)) b w new before after none told = (told.0, ap (λ (o : Option (List ℕ)). later_or o (if b then large_by w else None)) told.1, told.2)
told_on (Some task.Goes) b w new before after none told = told

is_some : Option Task → Type 0
is_some None = ⊥
is_some (Some t) = Unit {0}

none_over : (t : Option Task) (b : Bool) (w : What) (new : Option (List ℕ)) → (t ≡ None → new ≡ None) → over t (if b then Some (task_by w) else None) ≡ None → later_or new (if b then large_by w else None) ≡ None
unfolding is_some
none_over None true w new none is = absurd (subst is_some is tt)
none_over None false w new none is = ap (λ (o : Option (List ℕ)). later_or o None) (none refl)
none_over (Some t) b w new none is = absurd (subst is_some is tt)

pub none_new : (edits : List Edit) (n : Which) → latest (lines_of edits) n ≡ None → large_of edits n ≡ None
none_new [] n is = refl
none_new (e ∷ es) n is = none_over (latest (lines_of es) n) (same_which n e.which) e.what (large_of es n) (none_new es n) is

pub told_edits : (edits : List Edit) (records : Records) (n : Which) → Told (latest (lines_of edits) n) (large_of edits n) (records n) (changed edits records n)
told_edits [] records n = refl
told_edits (e ∷ es) records n =
    let on : Records = λ m. if same_which m e.which then made_by e.what else records m in
    told_on (latest (lines_of es) n) (same_which n e.which) e.what (large_of es n) (records n) (changed es on n) (none_new es n) (told_edits es on n)

seen_told : (t u : Option Task) (new before after : Option (List ℕ)) (f g : File) → Told t new before after → ((bytes : List ℕ) → new ≡ Some bytes → f ≡ Firm bytes) → shown_file u f g ≡ kept before → shown_file (over t u) f g ≡ kept after
seen_told None u new before after f g told ready was = was ∙ ap kept (sym told)
seen_told (Some (task.Put bytes)) u new before after f g told ready was = ap kept (sym told)
seen_told (Some (task.Moves k)) u new before after f g told ready was = ap (λ (h : File). taken h g) (ready told.0 told.1) ∙ ap kept (sym told.2)
seen_told (Some task.Goes) u new before after f g told ready was = ap kept (sym told)

left_told : (t u : Option Task) (new before after : Option (List ℕ)) (f g : Option (List ℕ)) → Told t new before after → ((bytes : List ℕ) → new ≡ Some bytes → f ≡ Some bytes) → shown u f g ≡ before → shown (over t u) f g ≡ after
left_told None u new before after f g told ready was = was ∙ sym told
left_told (Some (task.Put bytes)) u new before after f g told ready was = sym told
left_told (Some (task.Moves k)) u new before after f g told ready was = ap (λ (h : Option (List ℕ)). resolved h g) (ready told.0 told.1) ∙ sym told.2
left_told (Some task.Goes) u new before after f g told ready was = sym told

free_over : (t u : Option Task) → moves t ≡ false → moves u ≡ false → moves (over t u) ≡ false
free_over None u a b = b
free_over (Some t) u a b = a

take_all_of : (xs : Log) → take (length xs) xs ≡ xs
take_all_of [] = refl
take_all_of (x ∷ xs) = ap (λ (ys : Log). x ∷ ys) (take_all_of xs)

take_front : (xs : Log) (y : List Line) → take (length xs) (xs ++ y ∷ []) ≡ xs
take_front [] y = refl
take_front (x ∷ xs) y = ap (λ (ys : Log). x ∷ ys) (take_front xs y)

module _ (edits : List Edit) (records : Records) (past : List Records) (pending : List Which) (old new : Disk) (s : IsSound records past pending old) (ready : AreReady edits old)
    (r : Result (Unit {0}) Fault) (did : Appended old new (lines_of edits) r) where
  abbrev grown : Log
  grown = old.entries ++ lines_of edits ∷ []

  pub loads_before : (c : Files) (l : Log) → new.may_leave c l → Loads old.entries c records
  loads_before c l left = let from = did.crash c l left in s.whole c from.0 from.1

  loads_after : (c : Files) (l : Log) → new.may_leave c l → Loads grown c (changed edits records)
  loads_after c l left n = let from = did.crash c l left in
      ap (λ (t : Option Task). shown t (c (New n)) (c (Record n))) (says_append old.entries (lines_of edits) n)
      ∙ left_told (latest (lines_of edits) n) (task_of old.entries n) (large_of edits n) (records n) (changed edits records n) (c (New n)) (c (Record n))
      (told_edits edits records n) (λ bytes is. (ready n bytes is).1 c from.0 from.1) (s.whole c from.0 from.1 n)

  pub one_of : (c : Files) (l : Log) → new.may_leave c l → OneOf (changed edits records ∷ records ∷ past) c l
  one_of c l left = let from = did.crash c l left in ⊎_elim
      (λ is. inr (subst (λ (k : Log). OneOf (records ∷ past) c k) (sym is) (s.each c from.0 from.1)))
      (λ is. inl (subst (λ (k : Log). Loads k c (changed edits records)) (sym is) (loads_after c l left)))
      from.2

  pub leaves : Leaves old new (OneOf (changed edits records ∷ records ∷ past))
  leaves = one_step (OneOf (changed edits records ∷ records ∷ past)) did.time one_of

  seen_same : (n : Which) → shown_file (task_of old.entries n) (new.seen (New n)) (new.seen (Record n)) ≡ kept (records n)
  seen_same n = ap₂ (shown_file (task_of old.entries n)) (did.seen (New n)) (did.seen (Record n)) ∙ s.seen n

  seen_after : (n : Which) → shown_file (task_of grown n) (new.seen (New n)) (new.seen (Record n)) ≡ kept (changed edits records n)
  seen_after n = ap (λ (t : Option Task). shown_file t (new.seen (New n)) (new.seen (Record n))) (says_append old.entries (lines_of edits) n)
      ∙ seen_told (latest (lines_of edits) n) (task_of old.entries n) (large_of edits n) (records n) (changed edits records n) (new.seen (New n)) (new.seen (Record n))
      (told_edits edits records n) (λ bytes is. did.seen (New n) ∙ (ready n bytes is).0) (seen_same n)

  free_grown : (more : List Which) → Covers pending edits more → (n : Which) → is_among n more ≡ false → moves (task_of grown n) ≡ false
  free_grown more covers n is = let parts = covers n is in
      ap moves (says_append old.entries (lines_of edits) n) ∙ free_over (latest (lines_of edits) n) (task_of old.entries n) parts.1 (s.free n parts.0)

  made_by_entries : new.entries ≡ grown → (more : List Which) → Covers pending edits more → IsSound (changed edits records) (records ∷ past) more new
  made_by_entries is more covers = record {
    seen = λ n. ap (λ (l : Log). shown_file (task_of l n) (new.seen (New n)) (new.seen (Record n))) is ∙ seen_after n;
    whole = λ c l left. subst (λ (k : Log). Loads k c (changed edits records)) (sym is) (loads_after c l left);
    each = one_of;
    free = λ n no_one. ap (λ (l : Log). moves (task_of l n)) is ∙ free_grown more covers n no_one;
    free_left = λ c l left n no_one. let from = did.crash c l left in ⊎_elim
        (λ same. ap (λ (k : Log). moves (task_of k n)) same ∙ s.free_left c from.0 from.1 n (covers n no_one).0)
        (λ same. ap (λ (k : Log). moves (task_of k n)) same ∙ free_grown more covers n no_one)
        from.2;
  }

  pub made : OnOk r ((more : List Which) → Covers pending edits more → IsSound (changed edits records) (records ∷ past) more new)
  made = on_ok r made_by_entries did.done

  pub maybe : IsMaybe edits records past pending old.entries new
  maybe = record { entries = did.whole; seen = seen_same; whole = loads_before; each = one_of; free = s.free }

module _ (edits : List Edit) (records : Records) (past : List Records) (pending : List Which) (before : Log) (count : ℕ) (is : count ≡ length before) (d0 d1 : Disk) (m : IsMaybe edits records past pending before d0) (r : Result (Unit {0}) Fault) (cut : Cut d0 d1 count r) where
  taken_off : take count d0.entries ≡ before
  taken_off = ⊎_elim
      (λ same. ap₂ (λ (k : ℕ) (l : Log). take k l) is same ∙ take_all_of before)
      (λ same. ap₂ (λ (k : ℕ) (l : Log). take k l) is same ∙ take_front before (lines_of edits))
      m.entries

  whole_1 : (c : Files) (l : Log) → d1.may_leave c l → Loads before c records
  whole_1 c l left = let from = cut.crash c l left in m.whole c from.0 from.1

  pub one_of_1 : (c : Files) (l : Log) → d1.may_leave c l → OneOf (changed edits records ∷ records ∷ past) c l
  one_of_1 c l left = let from = cut.crash c l left in ⊎_elim
      (λ same. subst (λ (k : Log). OneOf (changed edits records ∷ records ∷ past) c k) (sym same) (m.each c from.0 from.1))
      (λ same. inr (inl (subst (λ (k : Log). Loads k c records) (sym (same ∙ taken_off)) (m.whole c from.0 from.1))))
      from.2

  pub leaves_1 : Leaves d0 d1 (OneOf (changed edits records ∷ records ∷ past))
  leaves_1 = one_step (OneOf (changed edits records ∷ records ∷ past)) cut.time one_of_1

pub back_fails : (edits : List Edit) (records : Records) (past : List Records) (pending : List Which) (before : Log) (count : ℕ) → count ≡ length before → (d0 d1 : Disk) → IsMaybe edits records past pending before d0
    → (e : Fault) → Cut d0 d1 count (Err e) → TakenBack edits records past pending d0 d1 (Err e)
back_fails edits records past pending before count is d0 d1 m e cut = record {
  leaves = leaves_1 edits records past pending before count is d0 d1 m (Err e) cut;
  left = one_of_1 edits records past pending before count is d0 d1 m (Err e) cut;
  done = tt;
}

pub taken_back : (edits : List Edit) (records : Records) (past : List Records) (pending : List Which) (before : Log) (count : ℕ) → count ≡ length before → (d0 d1 d2 : Disk) → IsMaybe edits records past pending before d0
    → Cut d0 d1 count (Ok tt) → (r : Result (Unit {0}) Fault) → FlushedLog d1 d2 r → TakenBack edits records past pending d0 d2 r
taken_back edits records past pending before count is d0 d1 d2 m cut r did =
    let entries : d2.entries ≡ before = did.entries ∙ cut.done ∙ taken_off edits records past pending before count is d0 d1 m (Ok tt) cut in
    let left : ((c : Files) (l : Log) → d2.may_leave c l → OneOf (changed edits records ∷ records ∷ past) c l) = λ c l now. one_of_1 edits records past pending before count is d0 d1 m (Ok tt) cut c l (did.crash c l now) in
    let whole : ((c : Files) (l : Log) → d2.may_leave c l → Loads before c records) = λ c l now. whole_1 edits records past pending before count is d0 d1 m (Ok tt) cut c l (did.crash c l now) in
    record {
      leaves = and_then (OneOf (changed edits records ∷ records ∷ past)) (leaves_1 edits records past pending before count is d0 d1 m (Ok tt) cut) (one_step (OneOf (changed edits records ∷ records ∷ past)) did.time left);
      left = left;
      done = on_ok r (λ all. record {
        seen = λ n. ap (λ (l : Log). shown_file (task_of l n) (d2.seen (New n)) (d2.seen (Record n))) entries
            ∙ ap₂ (shown_file (task_of before n)) (did.seen (New n) ∙ cut.seen (New n)) (did.seen (Record n) ∙ cut.seen (Record n)) ∙ m.seen n;
        whole = λ c l now. subst (λ (k : Log). Loads k c records) (sym entries) (whole c l now);
        each = λ c l now. inl (subst (λ (k : Log). Loads k c records) (sym (all c l now ∙ entries)) (whole c l now));
        free = λ n no_one. ap (λ (l : Log). moves (task_of l n)) entries ∙ m.free n no_one;
        free_left = λ c l now n no_one. ap (λ (l : Log). moves (task_of l n)) (all c l now ∙ entries) ∙ m.free n no_one;
      }) did.done;
    }

-- added, or taken back
module _ (edits : List Edit) (records : Records) (past : List Records) (pending : List Which) (old mid : Disk) (s : IsSound records past pending old) (ready : AreReady edits old) where
  pub added : Appended old mid (lines_of edits) (Ok tt) → Added edits records past pending old mid (Ok tt)
  added did = record {
    leaves = leaves edits records past pending old mid s ready (Ok tt) did;
    left = one_of edits records past pending old mid s ready (Ok tt) did;
    made = made edits records past pending old mid s ready (Ok tt) did;
    before = tt;
  }

  pub maybe_of : (e : Fault) → Appended old mid (lines_of edits) (Err e) → IsMaybe edits records past pending old.entries mid
  maybe_of e did = maybe edits records past pending old mid s ready (Err e) did

  pub not_added : (e : Fault) → Appended old mid (lines_of edits) (Err e) → (new : Disk) → TakenBack edits records past pending mid new (Ok tt) → Added edits records past pending old new (Err undone.Before)
  not_added e did new back = record {
    leaves = and_then (OneOf (changed edits records ∷ records ∷ past)) (leaves edits records past pending old mid s ready (Err e) did) back.leaves;
    left = back.left;
    made = tt;
    before = back.done;
  }

  pub in_doubt : (e : Fault) → Appended old mid (lines_of edits) (Err e) → (new : Disk) (x : Fault) → TakenBack edits records past pending mid new (Err x) → Added edits records past pending old new (Err undone.InDoubt)
  in_doubt e did new x back = record {
    leaves = and_then (OneOf (changed edits records ∷ records ∷ past)) (leaves edits records past pending old mid s ready (Err e) did) back.leaves;
    left = back.left;
    made = tt;
    before = tt;
  }

-- what a change comes to whose new files were removed
pub cleaned_added : (edits : List Edit) (records : Records) (past : List Records) (pending : List Which) (old mid new : Disk) → Added edits records past pending old mid (Err undone.Before) → Cleaned records past pending mid new
    → Added edits records past pending old new (Err undone.Before)
cleaned_added edits records past pending old mid new a c = record {
  leaves = and_then (OneOf (changed edits records ∷ records ∷ past)) a.leaves (weaker (λ f l o. inr o) c.leaves);
  left = λ f l left. inr (c.sound.each f l left);
  made = tt;
  before = c.sound;
}

pub cleaned_ready : (edits : List Edit) (records : Records) (past : List Records) (pending : List Which) (old mid new : Disk) (e : Fault) → Ready edits records past pending old mid (Err e) → Cleaned records past pending mid new
    → Added edits records past pending old new (Err undone.Before)
cleaned_ready edits records past pending old mid new e a c = record {
  leaves = and_then (OneOf (changed edits records ∷ records ∷ past)) (weaker (λ f l o. inr o) a.leaves) (weaker (λ f l o. inr o) c.leaves);
  left = λ f l left. inr (c.sound.each f l left);
  made = tt;
  before = c.sound;
}

pub ready_added : (edits : List Edit) (records : Records) (past : List Records) (pending : List Which) (old mid new : Disk) (r : Result (Unit {0}) Undone) → Ready edits records past pending old mid (Ok tt) → Added edits records past pending mid new r
    → Added edits records past pending old new r
ready_added edits records past pending old mid new r a b = record {
  leaves = and_then (OneOf (changed edits records ∷ records ∷ past)) (weaker (λ f l o. inr o) a.leaves) b.leaves;
  left = b.left;
  made = b.made;
  before = b.before;
}
