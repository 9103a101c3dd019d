-- New files are written and removed that no log names.
use Rattle.std.proofs.Common.{◌≡◌, inl, inr, ⊎_elim, ℕ, ◌≤◌, ◌⊎◌, Bool, true, false, if◌then◌else◌, List, [], ◌∷◌, length, get_or, take, drop, take_all, ◌-◌, Option, Some, None, Result, Ok, Err, OnOk, refl, sym, ◌∙◌, ap, ap₂, subst, true≢false, arith}
use Rattle.log_store.specs.Names.{same, same_which, is_among}
use Rattle.log_store.specs.Lines.{Log, Records, task_of, is_large, is_large_what, has_large, is_clear, bytes_of}
use Rattle.log_store.specs.Disk.{Files, File, Firm, Disk, Leaves, Agrees, Only, Removed, FlushedFolder}
use Rattle.log_store.specs.Sound.{shown, shown_file, moves, kept, Loads, OneOf, IsSound, WroteFirm}
use Rattle.log_store.specs.Making.{large_by, later_or, large_of, HasNew, Staged, AreReady, Ready, Cleaned}
use Rattle.log_store.specs.declared.edit.Edit.{Edit}
use Rattle.log_store.specs.declared.edit.Parts.{Parts}
use Rattle.log_store.specs.declared.edit.What.{What}
use Rattle.log_store.specs.declared.edit.What.TheVariants as what
use Rattle.log_store.specs.declared.edit.Task.{Task}
use Rattle.log_store.specs.declared.edit.Task.TheVariants as task
use Rattle.log_store.specs.declared.folder.Fault.{Fault}
use Rattle.log_store.specs.declared.which.Which.{Which}
use Rattle.log_store.specs.declared.which.FileName.TheVariants.{Record, New}
use Rattle.log_store.proofs.Steps.{one_step, and_then, weaker, nothing, on_ok}
use Rattle.log_store.proofs.lemmas.Logs.{same_or_not}

-- what the log doesn't name doesn't matter
seen_unnamed : (t : Option Task) → moves t ≡ false → (a b x : File) → shown_file t a x ≡ shown_file t b x
seen_unnamed None is a b x = refl
seen_unnamed (Some (task.Put bytes)) is a b x = refl
seen_unnamed (Some (task.Moves k)) is a b x = absurd (true≢false is)
seen_unnamed (Some task.Goes) is a b x = refl

left_unnamed : (t : Option Task) → moves t ≡ false → (a b x : Option (List ℕ)) → shown t a x ≡ shown t b x
left_unnamed None is a b x = refl
left_unnamed (Some (task.Put bytes)) is a b x = refl
left_unnamed (Some (task.Moves k)) is a b x = absurd (true≢false is)
left_unnamed (Some task.Goes) is a b x = refl

loads_unnamed : (n : Which) (l : Log) (c d : Files) (r : Records) → moves (task_of l n) ≡ false → Only (New n) d c → Loads l d r → Loads l c r
loads_unnamed n l c d r is only loads m = ⊎_elim
    (λ at. left_unnamed (task_of l m) (ap (λ (k : Which). moves (task_of l k)) at ∙ is) (c (New m)) (d (New m)) (c (Record m))
    ∙ ap (λ (o : Option (List ℕ)). shown (task_of l m) (d (New m)) o) (only (Record m) refl) ∙ loads m)
    (λ ne. ap₂ (shown (task_of l m)) (only (New m) ne) (only (Record m) refl) ∙ loads m)
    (same_or_not m n)

one_unnamed : (n : Which) (l : Log) (c d : Files) (rs : List Records) → moves (task_of l n) ≡ false → Only (New n) d c → OneOf rs d l → OneOf rs c l
one_unnamed n l c d [] is only o = o
one_unnamed n l c d (r ∷ rs) is only (inl loads) = inl (loads_unnamed n l c d r is only loads)
one_unnamed n l c d (r ∷ rs) is only (inr o) = inr (one_unnamed n l c d rs is only o)

-- what a cut might have left before, but for this new file
abbrev pub But : Which → Disk → Files → Log → Type 0
But n old c l = (d : Files) × old.may_leave d l × Only (New n) d c

module _ (records : Records) (past : List Records) (pending : List Which) (n : Which) (free : is_among n pending ≡ false) (old : Disk) (s : IsSound records past pending old) where
  pub one_but : (c : Files) (l : Log) → But n old c l → OneOf (records ∷ past) c l
  one_but c l from = one_unnamed n l c from.0 (records ∷ past) (s.free_left from.0 l from.1 n free) from.2 (s.each from.0 l from.1)

  module _ (new : Disk) (others : Only (New n) old.seen new.seen) (entries : new.entries ≡ old.entries) (crash : (c : Files) (l : Log) → new.may_leave c l → But n old c l) where
    seen_but : (m : Which) → shown_file (task_of old.entries m) (new.seen (New m)) (new.seen (Record m)) ≡ kept (records m)
    seen_but m = ⊎_elim
        (λ at. seen_unnamed (task_of old.entries m) (ap (λ (k : Which). moves (task_of old.entries k)) at ∙ s.free n free) (new.seen (New m)) (old.seen (New m)) (new.seen (Record m))
        ∙ ap (λ (f : File). shown_file (task_of old.entries m) (old.seen (New m)) f) (others (Record m) refl) ∙ s.seen m)
        (λ ne. ap₂ (shown_file (task_of old.entries m)) (others (New m) ne) (others (Record m) refl) ∙ s.seen m)
        (same_or_not m n)

    pub sound_but : IsSound records past pending new
    sound_but = record {
      seen = λ m. ap (λ (l : Log). shown_file (task_of l m) (new.seen (New m)) (new.seen (Record m))) entries ∙ seen_but m;
      whole = λ c l left. let from = crash c l left in
          subst (λ (k : Log). Loads k c records) (sym entries) (loads_unnamed n old.entries c from.0 records (s.free n free) from.2 (s.whole from.0 l from.1));
      each = λ c l left. one_but c l (crash c l left);
      free = λ m is. ap (λ (l : Log). moves (task_of l m)) entries ∙ s.free m is;
      free_left = λ c l left m is. let from = crash c l left in s.free_left from.0 l from.1 m is;
    }

pub clear_here : (e : Edit) (es : List Edit) (pending : List Which) (p : Parts) → e.what ≡ what.Large p → is_clear (e ∷ es) pending ≡ true → is_among e.which pending ≡ false
clear_here e es pending p is clear = by (is_among e.which pending) refl
  where
    by : (b : Bool) → is_among e.which pending ≡ b → is_among e.which pending ≡ false
    by true at = absurd (true≢false (sym clear
        ∙ ap (λ (w : What). if is_large_what w then (if is_among e.which pending then false else is_clear es pending) else is_clear es pending) is
        ∙ ap (λ (b : Bool). if b then false else is_clear es pending) at))
    by false at = at

clear_by : (a b c : Bool) → (if a then (if b then false else c) else c) ≡ true → c ≡ true
clear_by true true c is = absurd (true≢false (sym is))
clear_by true false c is = is
clear_by false b c is = is

pub clear_later : (e : Edit) (es : List Edit) (pending : List Which) → is_clear (e ∷ es) pending ≡ true → is_clear es pending ≡ true
clear_later e es pending is = clear_by (is_large e) (is_among e.which pending) (is_clear es pending) is

clear_one_by : (a b c : Bool) → (if a then (if b then false else c) else c) ≡ true → (if a then (if b then false else true) else true) ≡ true
clear_one_by true true c is = is
clear_one_by true false c is = refl
clear_one_by false b c is = refl

pub clear_first : (e : Edit) (es : List Edit) (pending : List Which) → is_clear (e ∷ es) pending ≡ true → is_clear (e ∷ []) pending ≡ true
clear_first e es pending is = clear_one_by (is_large e) (is_among e.which pending) (is_clear es pending) is

module _ (e : Edit) (p : Parts) (is : e.what ≡ what.Large p) (records : Records) (past : List Records) (pending : List Which) (old new : Disk)
    (s : IsSound records past pending old) (clear : is_clear (e ∷ []) pending ≡ true) where
  new_here : (n : Which) → new.seen (New e.which) ≡ Firm (bytes_of p) → Only (New e.which) old.seen new.seen → HasNew (large_of (e ∷ []) n) old new n
  new_here n wrote others = by (same_or_not n e.which)
    where
      by_false : same_which n e.which ≡ false → HasNew (large_of (e ∷ []) n) old new n
      by_false ne = subst (λ (b : Bool). HasNew (if b then large_by e.what else None) old new n) (sym ne) (others (New n) ne)

      by_bool : (b : Bool) → same_which n e.which ≡ b → n ≡ e.which → HasNew (large_of (e ∷ []) n) old new n
      by_bool true at eq = subst (λ (b : Bool). HasNew (if b then large_by e.what else None) old new n) (sym at)
          (subst (λ (w : What). HasNew (large_by w) old new n) (sym is) (subst (λ (m : Which). new.seen (New m) ≡ Firm (bytes_of p)) (sym eq) wrote))
      by_bool false at eq = by_false at

      by : (n ≡ e.which) ⊎ (same_which n e.which ≡ false) → HasNew (large_of (e ∷ []) n) old new n
      by (inl eq) = by_bool (same_which n e.which) refl eq
      by (inr ne) = by_false ne

  pub stages : (r : Result (Unit {0}) Fault) → WroteFirm old new (New e.which) (bytes_of p) r → Staged (e ∷ []) records past pending old new r
  stages r wrote =
      let free = clear_here e [] pending p is clear in
      record {
        leaves = weaker (one_but records past pending e.which free old s) wrote.leaves;
        sound = sound_but records past pending e.which free old s new wrote.others wrote.entries wrote.crash;
        entries = wrote.entries;
        done = on_ok r (λ firm n. new_here n firm wrote.others) wrote.done;
      }

  pub cleans : (r : Result (Unit {0}) Fault) → Removed old new (New e.which) r → Cleaned records past pending old new
  cleans r did =
      let free = clear_here e [] pending p is clear in
      let sound = sound_but records past pending e.which free old s new did.others did.entries (λ c l left. let from = did.crash c l left in (from.0, from.1, from.2)) in
      record { leaves = one_step (OneOf (records ∷ past)) did.time sound.each; sound = sound }

pub cleaned_on : (records : Records) (past : List Records) (pending : List Which) (old mid new : Disk) → Cleaned records past pending old mid → Cleaned records past pending mid new → Cleaned records past pending old new
cleaned_on records past pending old mid new a b = record { leaves = and_then (OneOf (records ∷ past)) a.leaves b.leaves; sound = b.sound }

pub cleaned_none : (records : Records) (past : List Records) (pending : List Which) (d : Disk) → IsSound records past pending d → Cleaned records past pending d d
cleaned_none records past pending d s = record { leaves = nothing (OneOf (records ∷ past)); sound = s }

has_on : (later here : Option (List ℕ)) (old mid new : Disk) (n : Which) → HasNew here old mid n → HasNew later mid new n → HasNew (later_or later here) old new n
has_on None None old mid new n a b = b ∙ a
has_on None (Some x) old mid new n a b = b ∙ a
has_on (Some y) here old mid new n a b = b

pub staged_on : (e : Edit) (es : List Edit) (records : Records) (past : List Records) (pending : List Which) (old mid new : Disk) (r : Result (Unit {0}) Fault)
    → Staged (e ∷ []) records past pending old mid (Ok tt) → Staged es records past pending mid new r → Staged (e ∷ es) records past pending old new r
staged_on e es records past pending old mid new r a b = record {
  leaves = and_then (OneOf (records ∷ past)) a.leaves b.leaves;
  sound = b.sound;
  entries = b.entries ∙ a.entries;
  done = on_ok r (λ each n. has_on (large_of es n) (if same_which n e.which then large_by e.what else None) old mid new n (a.done n) (each n)) b.done;
}

agrees_firm : (f : File) (o : Option (List ℕ)) (b : List ℕ) → f ≡ Firm b → Agrees f o → o ≡ Some b
agrees_firm f o b is agrees = subst (λ (g : File). Agrees g o) is agrees

has_some : (o : Option (List ℕ)) (b : List ℕ) (old new : Disk) (n : Which) → o ≡ Some b → HasNew o old new n → new.seen (New n) ≡ Firm b
has_some o b old new n is has = subst (λ (p : Option (List ℕ)). HasNew p old new n) is has

pub readied : (edits : List Edit) (records : Records) (past : List Records) (pending : List Which) (d0 d1 d2 : Disk) (r : Result (Unit {0}) Fault)
    → Staged edits records past pending d0 d1 (Ok tt) → FlushedFolder d1 d2 r → Ready edits records past pending d0 d2 r
readied edits records past pending d0 d1 d2 r s did =
    let sound : IsSound records past pending d2 = record {
      seen = λ n. ap₂ (shown_file (task_of d2.entries n)) (did.seen (New n)) (did.seen (Record n)) ∙ ap (λ (l : Log). shown_file (task_of l n) (d1.seen (New n)) (d1.seen (Record n))) did.entries ∙ s.sound.seen n;
      whole = λ c l left. subst (λ (k : Log). Loads k c records) (sym did.entries) (s.sound.whole c l (did.crash c l left));
      each = λ c l left. s.sound.each c l (did.crash c l left);
      free = λ n is. ap (λ (l : Log). moves (task_of l n)) did.entries ∙ s.sound.free n is;
      free_left = λ c l left n is. s.sound.free_left c l (did.crash c l left) n is;
    } in
    record {
      leaves = and_then (OneOf (records ∷ past)) s.leaves (one_step (OneOf (records ∷ past)) did.time sound.each);
      sound = sound;
      entries = did.entries ∙ s.entries;
      done = on_ok r (λ agrees n bytes is.
          let firm = did.seen (New n) ∙ has_some (large_of edits n) bytes d0 d1 n is (s.done n) in
          (firm, λ c l left. agrees_firm (d2.seen (New n)) (c (New n)) bytes firm (agrees c l left (New n)))) did.done;
    }

none_by : (b : Bool) (w : What) → is_large_what w ≡ false → (if b then large_by w else None) ≡ None
none_by true (what.Put p) is = refl
none_by true (what.Large p) is = absurd (true≢false is)
none_by true what.Goes is = refl
none_by false w is = refl

none_step : (a b : Bool) → (if a then true else b) ≡ false → (a ≡ false) × (b ≡ false)
none_step true b is = absurd (true≢false is)
none_step false b is = (refl, is)

pub none_large : (edits : List Edit) (n : Which) → has_large edits ≡ false → large_of edits n ≡ None
none_large [] n is = refl
none_large (e ∷ es) n is =
    let parts = none_step (is_large e) (has_large es) is in
    ap (λ (o : Option (List ℕ)). later_or o (if same_which n e.which then large_by e.what else None)) (none_large es n parts.1) ∙ none_by (same_which n e.which) e.what parts.0

some_is : Option (List ℕ) → Type 0
some_is None = ⊥
some_is (Some b) = Unit {0}

none_not_some : (o : Option (List ℕ)) (b : List ℕ) → o ≡ None → o ≡ Some b → ⊥
unfolding some_is
none_not_some o b none is = subst some_is (sym is ∙ none) tt

pub ready_none : (edits : List Edit) (records : Records) (past : List Records) (pending : List Which) (d : Disk) → IsSound records past pending d → has_large edits ≡ false
    → Ready edits records past pending d d (Ok tt)
ready_none edits records past pending d s no_one = record {
  leaves = nothing (OneOf (records ∷ past));
  sound = s;
  entries = refl;
  done = λ n bytes is. absurd (none_not_some (large_of edits n) bytes (none_large edits n no_one) is);
}

-- edits are their first one and the rest
pub front_edit : (xs : List Edit) (d : Edit) → 1 ≤ length xs → xs ≡ get_or xs 0 d ∷ take (length xs - 1) (drop 1 xs)
front_edit [] d le = absurd (omega arith)
front_edit (a ∷ rest) d le = ap (λ (ys : List Edit). a ∷ ys) (sym (take_all (length (a ∷ rest) - 1) rest (omega arith)))

module _ (xs : List Edit) (d : Edit) (le : 1 ≤ length xs) (pending : List Which) (clear : is_clear xs pending ≡ true) where
  clear_both : is_clear (get_or xs 0 d ∷ take (length xs - 1) (drop 1 xs)) pending ≡ true
  clear_both = ap (λ (ys : List Edit). is_clear ys pending) (sym (front_edit xs d le)) ∙ clear

  pub clear_front : is_clear (get_or xs 0 d ∷ []) pending ≡ true
  clear_front = clear_first (get_or xs 0 d) (take (length xs - 1) (drop 1 xs)) pending clear_both

  pub clear_rest : is_clear (take (length xs - 1) (drop 1 xs)) pending ≡ true
  clear_rest = clear_later (get_or xs 0 d) (take (length xs - 1) (drop 1 xs)) pending clear_both

pub staged_front : (xs : List Edit) (d : Edit) → 1 ≤ length xs → (records : Records) (past : List Records) (pending : List Which) (old mid new : Disk) (r : Result (Unit {0}) Fault)
    → Staged (get_or xs 0 d ∷ []) records past pending old mid (Ok tt) → Staged (take (length xs - 1) (drop 1 xs)) records past pending mid new r → Staged xs records past pending old new r
staged_front xs d le records past pending old mid new r a b =
    subst (λ (ys : List Edit). Staged ys records past pending old new r) (sym (front_edit xs d le)) (staged_on (get_or xs 0 d) (take (length xs - 1) (drop 1 xs)) records past pending old mid new r a b)

pub get_first : (xs : List Edit) → 1 ≤ length xs → Edit
get_first [] le = absurd (omega arith)
get_first (a ∷ rest) le = a

-- what `stage` goes by
pub ruleset by_stage = (clear_first, clear_later, staged_on)
