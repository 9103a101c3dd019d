-- The log is carried out.
use Rattle.std.proofs.Common.{◌≡◌, inl, inr, ⊎_elim, ℕ, ◌<◌, ◌≤◌, ◌⊎◌, ◌++◌, Bool, true, false, if◌then◌else◌, List, [], ◌∷◌, length, get_or, take, drop, take_all, ◌-◌, Option, Some, None, Result, Ok, Err, OnOk, refl, sym, ◌∙◌, ap, ap₂, subst, true≢false, arith}
use Rattle.log_store.specs.Names.{same, same_which, is_among}
use Rattle.log_store.specs.Lines.{Log, Records, over, latest, task_of, all_lines, names}
use Rattle.log_store.specs.Disk.{Files, File, Missing, Loose, Firm, Disk, Leaves, Passes, Agrees, Landed, Only, Same, taken, Moved, MovedOnDisk, Wrote, Flushed, Renamed, Removed, FlushedFolder, FlushedAll, firmed, FlushedLog, Cut, Stayed, Looked}
use Rattle.log_store.specs.Sound.{kept, resolved, shown, shown_file, moves, Loads, OneOf, IsSound, IsFirm, IsAtRest, IsQuiet, IsRest, AreThere, AreWritten, AreLeft, WroteFirm, LineDone, Passed, Redone, Finished, Emptied, Carried, UnlessInDoubt, unfinished_by}
use Rattle.log_store.specs.Store.{Relieved, HoldsRecords}
use Rattle.store.specs.declared.store.StoreError.{StoreError}
use Rattle.store.specs.declared.store.StoreError.TheVariants as errors
use Rattle.log_store.specs.declared.carrying.Unfinished.{Unfinished}
use Rattle.log_store.specs.declared.carrying.Unfinished.TheVariants as unfinished
use Rattle.log_store.specs.declared.edit.Line.{Line}
use Rattle.log_store.specs.declared.edit.Task.{Task}
use Rattle.log_store.specs.declared.edit.Task.TheVariants as task
use Rattle.log_store.specs.declared.folder.Fault.{Fault}
use Rattle.log_store.specs.declared.which.Which.{Which}
use Rattle.log_store.specs.declared.which.FileName.{FileName}
use Rattle.log_store.specs.declared.which.FileName.TheVariants.{Record, New}
use Rattle.log_store.proofs.Steps.{one_step, and_then, weaker, nothing, on_ok, always, looked_one, looked_on}
use Rattle.log_store.proofs.lemmas.Logs.{is_same, self, same_or_not, all_say, not_named, named, at_front, behind, some_not_none}

-- what a cut might have left before, but for the files of a record
abbrev pub Beside : Which → Disk → Files → Log → Type 0
Beside n old c l = (d : Files) × old.may_leave d l × ((x : FileName) → same x (Record n) ≡ false → same x (New n) ≡ false → c x ≡ d x)

-- nothing but the files of a record is another
pub record Touched (n : Which) (old new : Disk) : Type 0 where
  pub others : (x : FileName) → same x (Record n) ≡ false → same x (New n) ≡ false → new.seen x ≡ old.seen x
  pub entries : new.entries ≡ old.entries
  pub crash : (c : Files) (l : Log) → new.may_leave c l → Beside n old c l

pub touched_record : {n : Which} {old new : Disk} → Only (Record n) old.seen new.seen → new.entries ≡ old.entries
    → ((c : Files) (l : Log) → new.may_leave c l → (d : Files) × old.may_leave d l × Only (Record n) d c) → Touched n old new
touched_record only entries crash = record {
  others = λ x r s. only x r;
  entries = entries;
  crash = λ c l left. let from = crash c l left in (from.0, from.1, λ x r s. from.2 x r);
}

pub touched_removed : {n : Which} {old new : Disk} (r : Result (Unit {0}) Fault) → Removed old new (Record n) r → Touched n old new
touched_removed r did = touched_record did.others did.entries (λ c l left. let from = did.crash c l left in (from.0, from.1, from.2))

pub touched_new : {n : Which} {old new : Disk} (r : Result (Unit {0}) Fault) → Removed old new (New n) r → Touched n old new
touched_new r did = record {
  others = λ x r s. did.others x s;
  entries = did.entries;
  crash = λ c l left. let from = did.crash c l left in (from.0, from.1, λ x r s. from.2 x s);
}

-- what the log says itself doesn't depend on files
seen_by_log : (o : Option Task) (t : Task) → o ≡ Some t → moves (Some t) ≡ false → (a b c d : File) → shown_file o a b ≡ shown_file o c d
seen_by_log o (task.Put bytes) is stays a b c d = ap (λ (p : Option Task). shown_file p a b) is ∙ sym (ap (λ (p : Option Task). shown_file p c d) is)
seen_by_log o (task.Moves k) is stays a b c d = absurd (true≢false stays)
seen_by_log o task.Goes is stays a b c d = ap (λ (p : Option Task). shown_file p a b) is ∙ sym (ap (λ (p : Option Task). shown_file p c d) is)

left_by_log : (o : Option Task) (t : Task) → o ≡ Some t → moves (Some t) ≡ false → (a b c d : Option (List ℕ)) → shown o a b ≡ shown o c d
left_by_log o (task.Put bytes) is stays a b c d = ap (λ (p : Option Task). shown p a b) is ∙ sym (ap (λ (p : Option Task). shown p c d) is)
left_by_log o (task.Moves k) is stays a b c d = absurd (true≢false stays)
left_by_log o task.Goes is stays a b c d = ap (λ (p : Option Task). shown p a b) is ∙ sym (ap (λ (p : Option Task). shown p c d) is)

pub firm_loads : {records : Records} {d : Disk} → IsFirm records d → (c : Files) (l : Log) → d.may_leave c l → Loads l c records
firm_loads {records} f c l left = subst (λ (k : Log). Loads k c records) (sym (f.log c l left)) (f.whole c l left)

-- the files of a record whose bytes the log has, or that goes, may be any
module _ (records : Records) (n : Which) (t : Task) (stays : moves (Some t) ≡ false) (old : Disk) (f : IsFirm records old) (is : task_of old.entries n ≡ Some t) where
  whole_beside : (c : Files) (l : Log) → Beside n old c l → Loads old.entries c records
  whole_beside c l from m = ⊎_elim
      (λ at. left_by_log (task_of old.entries m) t (ap (task_of old.entries) at ∙ is) stays (c (New m)) (c (Record m)) (from.0 (New m)) (from.0 (Record m)) ∙ f.whole from.0 l from.1 m)
      (λ ne. ap₂ (shown (task_of old.entries m)) (from.2 (New m) refl ne) (from.2 (Record m) ne refl) ∙ f.whole from.0 l from.1 m)
      (same_or_not m n)

  pub loads_beside : (c : Files) (l : Log) → Beside n old c l → Loads l c records
  loads_beside c l from = subst (λ (k : Log). Loads k c records) (sym (f.log from.0 l from.1)) (whole_beside c l from)

  module _ (new : Disk) (did : Touched n old new) where
    seen_touched : (m : Which) → shown_file (task_of old.entries m) (new.seen (New m)) (new.seen (Record m)) ≡ kept (records m)
    seen_touched m = ⊎_elim
        (λ at. seen_by_log (task_of old.entries m) t (ap (task_of old.entries) at ∙ is) stays (new.seen (New m)) (new.seen (Record m)) (old.seen (New m)) (old.seen (Record m)) ∙ f.seen m)
        (λ ne. ap₂ (shown_file (task_of old.entries m)) (did.others (New m) refl ne) (did.others (Record m) ne refl) ∙ f.seen m)
        (same_or_not m n)

    pub firm_touched : IsFirm records new
    firm_touched = record {
      seen = λ m. ap (λ (l : Log). shown_file (task_of l m) (new.seen (New m)) (new.seen (Record m))) did.entries ∙ seen_touched m;
      log = λ c l left. let from = did.crash c l left in f.log from.0 l from.1 ∙ sym did.entries;
      whole = λ c l left. subst (λ (k : Log). Loads k c records) (sym did.entries) (whole_beside c l (did.crash c l left));
    }

is_put : (records : Records) (n : Which) (bytes : List ℕ) (d : Disk) → IsFirm records d → task_of d.entries n ≡ Some (task.Put bytes) → Firm bytes ≡ kept (records n)
is_put records n bytes d f is = sym (ap (λ (o : Option Task). shown_file o (d.seen (New n)) (d.seen (Record n))) is) ∙ f.seen n

is_gone : (records : Records) (n : Which) (d : Disk) → IsFirm records d → task_of d.entries n ≡ Some task.Goes → Missing ≡ kept (records n)
is_gone records n d f is = sym (ap (λ (o : Option Task). shown_file o (d.seen (New n)) (d.seen (Record n))) is) ∙ f.seen n

module _ (records : Records) (n : Which) (bytes : List ℕ) (old mid : Disk) (f : IsFirm records old) (is : task_of old.entries n ≡ Some (task.Put bytes)) where
  wrote_firm : (r : Result (Unit {0}) Fault) → Wrote old mid (Record n) bytes r → IsFirm records mid
  wrote_firm r wrote = firm_touched records n (task.Put bytes) refl old f is mid (touched_record wrote.others wrote.entries wrote.crash)

  wrote_leaves : (r : Result (Unit {0}) Fault) → Wrote old mid (Record n) bytes r → Leaves old mid (λ c l. Loads l c records)
  wrote_leaves r wrote = one_step (λ c l. Loads l c records) wrote.time (firm_loads (wrote_firm r wrote))

  pub put_fails : (e : Fault) → Wrote old mid (Record n) bytes (Err e) → LineDone records n old mid (Err e)
  put_fails e wrote = record {
    leaves = wrote_leaves (Err e) wrote;
    firm = wrote_firm (Err e) wrote;
    others = λ m ne. wrote.others (Record m) ne;
    entries = wrote.entries;
    done = tt;
  }

  pub put_done : (new : Disk) (r : Result (Unit {0}) Fault) → Wrote old mid (Record n) bytes (Ok tt) → Removed mid new (New n) r → LineDone records n old new r
  put_done new r wrote removed =
      let g : IsFirm records mid = wrote_firm (Ok tt) wrote in
      let at : task_of mid.entries n ≡ Some (task.Put bytes) = ap (λ (l : Log). task_of l n) wrote.entries ∙ is in
      let h : IsFirm records new = firm_touched records n (task.Put bytes) refl mid g at new (touched_new r removed) in
      record {
        leaves = and_then (λ c l. Loads l c records) (wrote_leaves (Ok tt) wrote) (one_step (λ c l. Loads l c records) removed.time (firm_loads h));
        firm = h;
        others = λ m ne. removed.others (Record m) refl ∙ wrote.others (Record m) ne;
        entries = removed.entries ∙ wrote.entries;
        done = on_ok r (λ u. ap firmed (removed.others (Record n) refl ∙ wrote.done) ∙ is_put records n bytes old f is) (always r);
      }

-- a file is written, and flushed
pub not_written : (old new : Disk) (name : FileName) (bytes : List ℕ) (r q : Result (Unit {0}) Fault) → OnOk q (new.seen name ≡ Firm bytes) → Wrote old new name bytes r → WroteFirm old new name bytes q
not_written old new name bytes r q none did = record {
  leaves = one_step (λ c l. (d : Files) × old.may_leave d l × Only name d c) did.time did.crash;
  others = did.others;
  entries = did.entries;
  crash = did.crash;
  done = none;
}

pub written_firm : (d0 d1 d2 : Disk) (name : FileName) (bytes : List ℕ) (r : Result (Unit {0}) Fault) → Wrote d0 d1 name bytes (Ok tt) → Flushed d1 d2 name r → WroteFirm d0 d2 name bytes r
written_firm d0 d1 d2 name bytes r wrote did =
    let crash : ((c : Files) (l : Log) → d2.may_leave c l → (d : Files) × d0.may_leave d l × Only name d c) = λ c l left. wrote.crash c l (did.crash c l left) in
    record {
      leaves = and_then (λ c l. (d : Files) × d0.may_leave d l × Only name d c) (one_step (λ c l. (d : Files) × d0.may_leave d l × Only name d c) wrote.time wrote.crash) (one_step (λ c l. (d : Files) × d0.may_leave d l × Only name d c) did.time crash);
      others = λ x ne. did.others x ne ∙ wrote.others x ne;
      entries = did.entries ∙ wrote.entries;
      crash = crash;
      done = on_ok r (λ firm. firm bytes wrote.done) did.done;
    }

module _ (records : Records) (n : Which) (old mid : Disk) (f : IsFirm records old) (is : task_of old.entries n ≡ Some task.Goes) where
  removed_firm : (r : Result (Unit {0}) Fault) → Removed old mid (Record n) r → IsFirm records mid
  removed_firm r removed = firm_touched records n task.Goes refl old f is mid (touched_removed r removed)

  pub drop_fails : (e : Fault) → Removed old mid (Record n) (Err e) → LineDone records n old mid (Err e)
  drop_fails e removed = record {
    leaves = one_step (λ c l. Loads l c records) removed.time (firm_loads (removed_firm (Err e) removed));
    firm = removed_firm (Err e) removed;
    others = λ m ne. removed.others (Record m) ne;
    entries = removed.entries;
    done = tt;
  }

  pub drop_done : (new : Disk) (r : Result (Unit {0}) Fault) → Removed old mid (Record n) (Ok tt) → Removed mid new (New n) r → LineDone records n old new r
  drop_done new r first second =
      let g : IsFirm records mid = removed_firm (Ok tt) first in
      let at : task_of mid.entries n ≡ Some task.Goes = ap (λ (l : Log). task_of l n) first.entries ∙ is in
      let h : IsFirm records new = firm_touched records n task.Goes refl mid g at new (touched_new r second) in
      record {
        leaves = and_then (λ c l. Loads l c records) (one_step (λ c l. Loads l c records) first.time (firm_loads g)) (one_step (λ c l. Loads l c records) second.time (firm_loads h));
        firm = h;
        others = λ m ne. second.others (Record m) refl ∙ first.others (Record m) ne;
        entries = second.entries ∙ first.entries;
        done = on_ok r (λ u. ap firmed (second.others (Record n) refl ∙ first.done) ∙ is_gone records n old f is) (always r);
      }

is_firm : File → Type 0
is_firm Missing = ⊥
is_firm (Loose b) = ⊥
is_firm (Firm b) = Unit {0}

is_loose : File → Type 0
is_loose Missing = ⊥
is_loose (Loose b) = Unit {0}
is_loose (Firm b) = ⊥

bytes_there : File → Type 0
bytes_there Missing = Unit {0}
bytes_there (Loose b) = ⊥
bytes_there (Firm b) = ⊥

bytes_of : File → List ℕ
bytes_of Missing = []
bytes_of (Loose b) = b
bytes_of (Firm b) = b

pub kept_missing : (a : Option (List ℕ)) → Missing ≡ kept a → None ≡ a
unfolding bytes_there
kept_missing None e = refl
kept_missing (Some x) e = absurd (subst bytes_there e tt)

pub kept_loose : (b : List ℕ) (a : Option (List ℕ)) → Loose b ≡ kept a → ⊥
unfolding is_loose
kept_loose b None e = subst is_loose e tt
kept_loose b (Some x) e = subst is_loose e tt

pub kept_firm : (b : List ℕ) (a : Option (List ℕ)) → Firm b ≡ kept a → Some b ≡ a
unfolding is_firm bytes_of
kept_firm b None e = absurd (subst is_firm e tt)
kept_firm b (Some x) e = ap (λ (f : File). Some (bytes_of f)) e

pub agrees_kept : (f : File) (o a : Option (List ℕ)) → Agrees f o → f ≡ kept a → o ≡ a
agrees_kept Missing o a is e = is ∙ kept_missing a e
agrees_kept (Loose b) o a is e = absurd (kept_loose b a e)
agrees_kept (Firm b) o a is e = is ∙ kept_firm b a e

pub landed : (f g : File) (o a : Option (List ℕ)) → Landed f o → taken f g ≡ kept a → o ≡ a
landed Missing g o a l e = absurd l
landed (Loose b) g o a l e = absurd (kept_loose b a e)
landed (Firm b) g o a l e = l ∙ kept_firm b a e

pub firmed_kept : (a : Option (List ℕ)) → firmed (kept a) ≡ kept a
firmed_kept None = refl
firmed_kept (Some b) = refl

-- flushing files leaves what they stand for
firmed_shown : (t : Option Task) (a b : File) → shown_file t (firmed a) (firmed b) ≡ firmed (shown_file t a b)
firmed_shown None a b = refl
firmed_shown (Some (task.Put bytes)) a b = refl
firmed_shown (Some (task.Moves k)) Missing b = refl
firmed_shown (Some (task.Moves k)) (Loose x) b = refl
firmed_shown (Some (task.Moves k)) (Firm x) b = refl
firmed_shown (Some task.Goes) a b = refl

-- a new file takes its place
module _ (records : Records) (n : Which) (k : ℕ) (old new : Disk) (f : IsFirm records old) (is : task_of old.entries n ≡ Some (task.Moves k)) (r : Result (Unit {0}) Fault) (did : Renamed old new n r) where
  at_n : (a b : File) → shown_file (task_of old.entries n) a b ≡ taken a b
  at_n a b = ap (λ (o : Option Task). shown_file o a b) is

  was : taken (old.seen (New n)) (old.seen (Record n)) ≡ kept (records n)
  was = sym (at_n (old.seen (New n)) (old.seen (Record n))) ∙ f.seen n

  moved_here : Moved old.seen new.seen n → shown_file (task_of old.entries n) (new.seen (New n)) (new.seen (Record n)) ≡ kept (records n)
  moved_here mv = at_n (new.seen (New n)) (new.seen (Record n)) ∙ ap (λ (g : File). taken g (new.seen (Record n))) mv.gone ∙ mv.there ∙ was

  seen_moved : (m : Which) → Moved old.seen new.seen n → shown_file (task_of old.entries m) (new.seen (New m)) (new.seen (Record m)) ≡ kept (records m)
  seen_moved m mv = ⊎_elim
      (λ at. subst (λ (j : Which). shown_file (task_of old.entries j) (new.seen (New j)) (new.seen (Record j)) ≡ kept (records j)) (sym at) (moved_here mv))
      (λ ne. ap₂ (shown_file (task_of old.entries m)) (mv.others (New m) ne refl) (mv.others (Record m) refl ne) ∙ f.seen m)
      (same_or_not m n)

  seen_after : (m : Which) → shown_file (task_of old.entries m) (new.seen (New m)) (new.seen (Record m)) ≡ kept (records m)
  seen_after m = ⊎_elim
      (λ s. ap₂ (shown_file (task_of old.entries m)) (s (New m)) (s (Record m)) ∙ f.seen m)
      (λ mv. seen_moved m mv) did.whole

  left_here : (d c : Files) → MovedOnDisk (old.seen (New n)) d c n → shown (task_of old.entries n) (c (New n)) (c (Record n)) ≡ records n
  left_here d c mv = ap (λ (o : Option Task). shown o (c (New n)) (c (Record n))) is ∙ ap (λ (o : Option (List ℕ)). resolved o (c (Record n))) mv.gone
      ∙ landed (old.seen (New n)) (old.seen (Record n)) (c (Record n)) (records n) mv.there was

  left_moved : (d c : Files) (l : Log) → old.may_leave d l → MovedOnDisk (old.seen (New n)) d c n → Loads old.entries c records
  left_moved d c l left mv m = ⊎_elim
      (λ at. subst (λ (j : Which). shown (task_of old.entries j) (c (New j)) (c (Record j)) ≡ records j) (sym at) (left_here d c mv))
      (λ ne. ap₂ (shown (task_of old.entries m)) (mv.others (New m) ne refl) (mv.others (Record m) refl ne) ∙ f.whole d l left m)
      (same_or_not m n)

  left_after : (c : Files) (l : Log) → new.may_leave c l → Loads old.entries c records
  left_after c l left = let from = did.crash c l left in ⊎_elim
      (λ s m. ap₂ (shown (task_of old.entries m)) (s (New m)) (s (Record m)) ∙ f.whole from.0 l from.1 m)
      (λ mv. left_moved from.0 c l from.1 mv) from.2

  firm_after : IsFirm records new
  firm_after = record {
    seen = λ m. ap (λ (l : Log). shown_file (task_of l m) (new.seen (New m)) (new.seen (Record m))) did.entries ∙ seen_after m;
    log = λ c l left. let from = did.crash c l left in f.log from.0 l from.1 ∙ sym did.entries;
    whole = λ c l left. subst (λ (j : Log). Loads j c records) (sym did.entries) (left_after c l left);
  }

  pub moved_done : LineDone records n old new r
  moved_done = record {
    leaves = one_step (λ c l. Loads l c records) did.time (firm_loads firm_after);
    firm = firm_after;
    others = λ m ne. ⊎_elim (λ s. s (Record m)) (λ mv. mv.others (Record m) refl ne) did.whole;
    entries = did.entries;
    done = on_ok r (λ mv. ap firmed (mv.there ∙ was) ∙ firmed_kept (records n)) did.done;
  }

-- the next line was carried out, or needn't be
module _ (records : Records) (line : Line) (rest : List Line) (old : Disk) (f : IsFirm records old) (so : IsRest (line ∷ rest) records old) where
  pub says : latest rest line.which ≡ None → task_of old.entries line.which ≡ Some line.task
  says none = let at = at_front line rest none in ⊎_elim (λ is. absurd (some_not_none (latest (line ∷ rest) line.which) line.task at is)) (λ is. sym is ∙ at) (so.part line.which)

  part_on : (n : Which) → (latest rest n ≡ None) ⊎ (latest rest n ≡ task_of old.entries n)
  part_on n = part_by (latest rest n) refl
    where
      part_by : (o : Option Task) → latest rest n ≡ o → (latest rest n ≡ None) ⊎ (latest rest n ≡ task_of old.entries n)
      part_by None is = inl is
      part_by (Some t) is =
          let here : Option Task = (if same_which n line.which then Some line.task else None) in
          let whole : latest (line ∷ rest) n ≡ Some t = ap (λ (o : Option Task). over o here) is in
          inr (is ∙ sym whole ∙ ⊎_elim (λ none. absurd (some_not_none (latest (line ∷ rest) n) t whole none)) (λ e. e) (so.part n))

  pub passed : names rest line.which ≡ true → IsRest rest records old
  passed is = record {
    part = part_on;
    done = λ n none. ⊎_elim
        (λ at. let found = named rest line.which is in absurd (some_not_none (latest rest line.which) found.0 found.1 (ap (latest rest) (sym at) ∙ none)))
        (λ ne. so.done n (behind line rest n ne ∙ none))
        (same_or_not n line.which);
  }

  pub carried : (new : Disk) (r : Result (Unit {0}) Fault) → latest rest line.which ≡ None → LineDone records line.which old new r → Passed rest records old new r
  carried new r none did = record {
    leaves = did.leaves;
    firm = did.firm;
    entries = did.entries;
    done = on_ok r (λ at_n. record {
      part = λ n. ⊎_elim (λ is. inl is) (λ is. inr (is ∙ ap (λ (l : Log). task_of l n) (sym did.entries))) (part_on n);
      done = λ n is. ⊎_elim
          (λ at. subst (λ (m : Which). firmed (new.seen (Record m)) ≡ kept (records m)) (sym at) at_n)
          (λ ne. ap firmed (did.others n ne) ∙ so.done n (behind line rest n ne ∙ is))
          (same_or_not n line.which);
    }) did.done;
  }

pub passes : (records : Records) (rest : List Line) (d : Disk) → IsFirm records d → IsRest rest records d → Passed rest records d d (Ok tt)
passes records rest d f so = record { leaves = nothing (λ c l. Loads l c records); firm = f; entries = refl; done = so }

pub redo_on : (records : Records) (rest : List Line) (old mid new : Disk) (r : Result (Unit {0}) Fault) → Passed rest records old mid (Ok tt) → Redone records mid new r → Redone records old new r
redo_on records rest old mid new r did more = record {
  leaves = and_then (λ c l. Loads l c records) did.leaves more.leaves;
  firm = more.firm;
  entries = more.entries ∙ did.entries;
  done = more.done;
}

-- lines are their first one and the rest
pub rest_front : (xs : List Line) (first : Line) → first ≡ get_or xs 0 first → 1 ≤ length xs → (records : Records) (old : Disk) → IsRest xs records old → IsRest (first ∷ take (length xs - 1) (drop 1 xs)) records old
rest_front [] first is le records old so = absurd (omega arith)
rest_front (a ∷ rest) first is le records old so =
    subst (λ (x : Line). IsRest (x ∷ take (length (a ∷ rest) - 1) rest) records old) (sym is) (subst (λ (ys : List Line). IsRest (a ∷ ys) records old) (sym (take_all (length (a ∷ rest) - 1) rest (omega arith))) so)

pub redo_ends : (records : Records) (d : Disk) → IsFirm records d → IsRest [] records d → Redone records d d (Ok tt)
redo_ends records d f so = record { leaves = nothing (λ c l. Loads l c records); firm = f; entries = refl; done = λ n. so.done n refl }

-- nothing of the log was carried out yet
pub begins : (records : Records) (lines : List Line) (d : Disk) → IsFirm records d → lines ≡ all_lines d.entries → IsRest lines records d
begins records lines d f is = record {
  part = λ n. inr (ap (λ (xs : List Line). latest xs n) is ∙ all_say d.entries n);
  done = λ n none. ap firmed (sym (ap (λ (o : Option Task). shown_file o (d.seen (New n)) (d.seen (Record n))) (sym (all_say d.entries n) ∙ ap (λ (xs : List Line). latest xs n) (sym is) ∙ none)) ∙ f.seen n) ∙ firmed_kept (records n);
}

-- between a sound folder and one whose log is on the disk
pub firm_flush : (records : Records) (past : List Records) (pending : List Which) (old new : Disk) → IsSound records past pending old → FlushedLog old new (Ok tt) → IsFirm records new
firm_flush records past pending old new s did = record {
  seen = λ n. ap₂ (shown_file (task_of new.entries n)) (did.seen (New n)) (did.seen (Record n)) ∙ ap (λ (l : Log). shown_file (task_of l n) (old.seen (New n)) (old.seen (Record n))) did.entries ∙ s.seen n;
  log = did.done;
  whole = λ c l left. subst (λ (k : Log). Loads k c records) (sym did.entries) (s.whole c l (did.crash c l left));
}

pub sound_flush : (records : Records) (past : List Records) (pending : List Which) (old new : Disk) (r : Result (Unit {0}) Fault) → IsSound records past pending old → FlushedLog old new r → IsSound records past pending new
sound_flush records past pending old new r s did = record {
  seen = λ n. ap₂ (shown_file (task_of new.entries n)) (did.seen (New n)) (did.seen (Record n)) ∙ ap (λ (l : Log). shown_file (task_of l n) (old.seen (New n)) (old.seen (Record n))) did.entries ∙ s.seen n;
  whole = λ c l left. subst (λ (k : Log). Loads k c records) (sym did.entries) (s.whole c l (did.crash c l left));
  each = λ c l left. s.each c l (did.crash c l left);
  free = λ n is. ap (λ (l : Log). moves (task_of l n)) did.entries ∙ s.free n is;
  free_left = λ c l left n is. s.free_left c l (did.crash c l left) n is;
}

-- a firm folder is sound
pub firm_sound : (records : Records) (past : List Records) (pending : List Which) (d : Disk) → IsFirm records d → ((n : Which) → is_among n pending ≡ false → moves (task_of d.entries n) ≡ false) → IsSound records past pending d
firm_sound records past pending d f free = record {
  seen = f.seen;
  whole = f.whole;
  each = λ c l left. inl (firm_loads f c l left);
  free = free;
  free_left = λ c l left n is. ap (λ (k : Log). moves (task_of k n)) (f.log c l left) ∙ free n is;
}

pub free_same : (pending : List Which) (old new : Disk) → new.entries ≡ old.entries → ((n : Which) → is_among n pending ≡ false → moves (task_of old.entries n) ≡ false)
    → (n : Which) → is_among n pending ≡ false → moves (task_of new.entries n) ≡ false
free_same pending old new is free n no_one = ap (λ (l : Log). moves (task_of l n)) is ∙ free n no_one

pub sound_each : (records : Records) (past : List Records) (pending : List Which) (d : Disk) → IsSound records past pending d → (c : Files) (l : Log) → d.may_leave c l → OneOf (records ∷ past) c l
sound_each records past pending d s c l left = s.each c l left

module _ (records : Records) (past : List Records) (pending : List Which) (lines : List Line) (d0 d1 : Disk) (s : IsSound records past pending d0) where
  pub flush_fails : (e : Fault) → FlushedLog d0 d1 (Err e) → Finished records past pending d0 d1 (Err e)
  flush_fails e did =
      let t : IsSound records past pending d1 = sound_flush records past pending d0 d1 (Err e) s did in
      record { leaves = one_step (OneOf (records ∷ past)) did.time t.each; sound = t; entries = did.entries; done = tt }

  module _ (flushed : FlushedLog d0 d1 (Ok tt)) where
    pub firm_1 : IsFirm records d1
    firm_1 = firm_flush records past pending d0 d1 s flushed

    pub rest_1 : lines ≡ all_lines d0.entries → IsRest lines records d1
    rest_1 is = begins records lines d1 firm_1 (is ∙ ap all_lines (sym flushed.entries))

    leaves_1 : Leaves d0 d1 (OneOf (records ∷ past))
    leaves_1 = one_step (OneOf (records ∷ past)) flushed.time (λ c l left. inl (firm_loads firm_1 c l left))

    module _ (d2 : Disk) (r : Result (Unit {0}) Fault) (redone : Redone records d1 d2 r) where
      leaves_2 : Leaves d0 d2 (OneOf (records ∷ past))
      leaves_2 = and_then (OneOf (records ∷ past)) leaves_1 (weaker (λ c l loads. inl loads) redone.leaves)

      same_2 : d2.entries ≡ d0.entries
      same_2 = redone.entries ∙ flushed.entries

      sound_2 : IsSound records past pending d2
      sound_2 = firm_sound records past pending d2 redone.firm (free_same pending d0 d2 same_2 s.free)

    pub redo_failed : (d2 : Disk) (e : Fault) → Redone records d1 d2 (Err e) → Finished records past pending d0 d2 (Err e)
    redo_failed d2 e redone = record { leaves = leaves_2 d2 (Err e) redone; sound = sound_2 d2 (Err e) redone; entries = same_2 d2 (Err e) redone; done = tt }

    module _ (d2 d3 : Disk) (redone : Redone records d1 d2 (Ok tt)) (r : Result (Unit {0}) Fault) (did : FlushedAll d2 d3 r) where
      seen_3 : (n : Which) → shown_file (task_of d2.entries n) (d3.seen (New n)) (d3.seen (Record n)) ≡ kept (records n)
      seen_3 n = ⊎_elim
          (λ s. ap₂ (shown_file (task_of d2.entries n)) (s (New n)) (s (Record n)) ∙ redone.firm.seen n)
          (λ s. ap₂ (shown_file (task_of d2.entries n)) (s (New n)) (s (Record n)) ∙ firmed_shown (task_of d2.entries n) (d2.seen (New n)) (d2.seen (Record n)) ∙ ap firmed (redone.firm.seen n) ∙ firmed_kept (records n))
          did.seen

      firm_3 : IsFirm records d3
      firm_3 = record {
        seen = λ n. ap (λ (l : Log). shown_file (task_of l n) (d3.seen (New n)) (d3.seen (Record n))) did.entries ∙ seen_3 n;
        log = λ c l left. redone.firm.log c l (did.crash c l left) ∙ sym did.entries;
        whole = λ c l left. subst (λ (k : Log). Loads k c records) (sym did.entries) (redone.firm.whole c l (did.crash c l left));
      }

      there_3 : ((x : FileName) → d3.seen x ≡ firmed (d2.seen x)) → AreThere records d3
      there_3 s n = s (Record n) ∙ redone.done n

      pub finished : Finished records past pending d0 d3 r
      finished = record {
        leaves = and_then (OneOf (records ∷ past)) (leaves_2 d2 (Ok tt) redone) (one_step (OneOf (records ∷ past)) did.time (λ c l left. inl (firm_loads firm_3 c l left)));
        sound = firm_sound records past pending d3 firm_3 (free_same pending d0 d3 (did.entries ∙ same_2 d2 (Ok tt) redone) s.free);
        entries = did.entries ∙ same_2 d2 (Ok tt) redone;
        done = on_ok r (λ both. record {
          firm = firm_3;
          there = there_3 both.0;
          left = λ c l left n. agrees_kept (d3.seen (Record n)) (c (Record n)) (records n) (both.1 c l left (Record n)) (there_3 both.0 n);
        }) did.done;
      }

pub front_line : (xs : List Line) (x : Line) → 1 ≤ length xs → x ≡ get_or xs 0 x → xs ≡ x ∷ take (length xs - 1) (drop 1 xs)
front_line [] x le is = absurd (omega arith)
front_line (a ∷ rest) x le is = ap₂ (λ (y : Line) (ys : List Line). y ∷ ys) (sym is) (sym (take_all (length (a ∷ rest) - 1) rest (omega arith)))

-- a quiet folder is sound, whatever is pending
pub quiet_sound : (records : Records) (past : List Records) (pending : List Which) (d : Disk) → IsQuiet records d → IsSound records past pending d
quiet_sound records past pending d q = record {
  seen = λ n. ap (λ (l : Log). shown_file (task_of l n) (d.seen (New n)) (d.seen (Record n))) q.entries ∙ q.there n;
  whole = λ c l left. subst (λ (k : Log). Loads k c records) (sym q.entries) (q.left c l left);
  each = λ c l left. inl (subst (λ (k : Log). Loads k c records) (sym (q.log c l left)) (q.left c l left));
  free = λ n is. ap (λ (l : Log). moves (task_of l n)) q.entries;
  free_left = λ c l left n is. ap (λ (k : Log). moves (task_of k n)) (q.log c l left);
}

pub stayed_sound : (records : Records) (past : List Records) (pending : List Which) (old new : Disk) → IsSound records past pending old → Stayed old new → IsSound records past pending new
stayed_sound records past pending old new s did = record {
  seen = λ n. ap₂ (shown_file (task_of new.entries n)) (did.seen (New n)) (did.seen (Record n)) ∙ ap (λ (l : Log). shown_file (task_of l n) (old.seen (New n)) (old.seen (Record n))) did.entries ∙ s.seen n;
  whole = λ c l left. subst (λ (k : Log). Loads k c records) (sym did.entries) (s.whole c l (did.crash c l left));
  each = λ c l left. s.each c l (did.crash c l left);
  free = λ n is. ap (λ (l : Log). moves (task_of l n)) did.entries ∙ s.free n is;
  free_left = λ c l left n is. s.free_left c l (did.crash c l left) n is;
}

pub stayed_leaves : (records : Records) (past : List Records) (pending : List Which) (old new : Disk) → IsSound records past pending old → Stayed old new → Leaves old new (OneOf (records ∷ past))
stayed_leaves records past pending old new s did = one_step (OneOf (records ∷ past)) did.time (λ c l left. s.each c l (did.crash c l left))

pub not_finished : (records : Records) (past : List Records) (pending : List Which) (d1 d2 : Disk) (e : Fault) → Finished records past pending d1 d2 (Err e) → Carried records past pending d1 d2 (Err unfinished.Failed)
not_finished records past pending d1 d2 e f = record { leaves = f.leaves; left = f.sound.each; kept = f.sound; done = tt }

pub emptied : (records : Records) (past : List Records) (pending : List Which) (d1 d2 d3 : Disk) → Finished records past pending d1 d2 (Ok tt) → Emptied records d2 d3 (Ok tt) → Carried records past pending d1 d3 (Ok tt)
emptied records past pending d1 d2 d3 f e = record {
  leaves = and_then (OneOf (records ∷ past)) f.leaves (weaker (λ c l loads. inl loads) e.leaves);
  left = λ c l left. inl (e.left c l left);
  kept = quiet_sound records past pending d3 e.done;
  done = e.done;
}

pub not_emptied : (records : Records) (past : List Records) (pending : List Which) (d1 d2 d3 : Disk) (x : Fault) → Finished records past pending d1 d2 (Ok tt) → Emptied records d2 d3 (Err x) → Carried records past pending d1 d3 (Err unfinished.InDoubt)
not_emptied records past pending d1 d2 d3 x f e = record {
  leaves = and_then (OneOf (records ∷ past)) f.leaves (weaker (λ c l loads. inl loads) e.leaves);
  left = λ c l left. inl (e.left c l left);
  kept = tt;
  done = tt;
}

pub says_all : (lines : List Line) (d0 d1 : Disk) → Stayed d0 d1 → lines ≡ all_lines d0.entries → lines ≡ all_lines d1.entries
says_all lines d0 d1 looked is = is ∙ ap all_lines (sym looked.entries)

pub carried_looked : (records : Records) (past : List Records) (pending : List Which) (d0 d1 d2 : Disk) (r : Result (Unit {0}) Unfinished) → IsSound records past pending d0 → Stayed d0 d1 → Carried records past pending d1 d2 r → Carried records past pending d0 d2 r
carried_looked records past pending d0 d1 d2 r s looked c = record {
  leaves = and_then (OneOf (records ∷ past)) (stayed_leaves records past pending d0 d1 s looked) c.leaves;
  left = c.left;
  kept = c.kept;
  done = c.done;
}

unless : (why : StoreError) (P : Type 0) → P → UnlessInDoubt (Err (unfinished_by why)) P
unless errors.Failed P p = p
unless errors.Memory P p = p

pub not_read : (records : Records) (past : List Records) (pending : List Which) (d0 d1 : Disk) (why : StoreError) → IsSound records past pending d0 → Stayed d0 d1 → Carried records past pending d0 d1 (Err (unfinished_by why))
not_read records past pending d0 d1 why s looked =
    let t : IsSound records past pending d1 = stayed_sound records past pending d0 d1 s looked in
    record { leaves = stayed_leaves records past pending d0 d1 s looked; left = t.each; kept = unless why (IsSound records past pending d1) t; done = tt }

pub looked_sound : (records : Records) (past : List Records) (pending : List Which) (old new : Disk) → IsSound records past pending old → Looked old new → IsSound records past pending new
looked_sound records past pending old new s did = record {
  seen = λ n. ap₂ (shown_file (task_of new.entries n)) (did.seen (New n)) (did.seen (Record n)) ∙ ap (λ (l : Log). shown_file (task_of l n) (old.seen (New n)) (old.seen (Record n))) did.entries ∙ s.seen n;
  whole = λ c l left. subst (λ (k : Log). Loads k c records) (sym did.entries) (s.whole c l (did.crash c l left));
  each = λ c l left. s.each c l (did.crash c l left);
  free = λ n is. ap (λ (l : Log). moves (task_of l n)) did.entries ∙ s.free n is;
  free_left = λ c l left n is. s.free_left c l (did.crash c l left) n is;
}

-- a store's folder is looked at
pub relieved_by_looks : (records : Records) (past : List Records) (pending : List Which) (doubt : Bool) (old new : Disk) → IsSound records past pending old → Looked old new → Relieved records past pending doubt old new
relieved_by_looks records past pending doubt old new s did = record {
  leaves = weaker s.each did.leaves;
  left = λ c l left. s.each c l (did.crash c l left);
  held = λ is. looked_sound records past pending old new s did;
}

pub relieved_on : (records : Records) (past : List Records) (first second : List Which) (a b : Bool) (old mid new : Disk) → Relieved records past first a old mid → Relieved records past second b mid new → Relieved records past second b old new
relieved_on records past first second a b old mid new x y = record { leaves = and_then (OneOf (records ∷ past)) x.leaves y.leaves; left = y.left; held = y.held }

pub redo_none : (records : Records) (lines : List Line) (d : Disk) → length lines < 1 → IsFirm records d → IsRest lines records d → Redone records d d (Ok tt)
redo_none records [] d lt f so = redo_ends records d f so
redo_none records (x ∷ rest) d lt f so = absurd (omega (arith, lt))

pub redo_stops : (records : Records) (rest : List Line) (old new : Disk) (e : Fault) (q : Result (Unit {0}) Fault) → OnOk q (AreWritten records new) → Passed rest records old new (Err e) → Redone records old new q
redo_stops records rest old new e q none did = record { leaves = did.leaves; firm = did.firm; entries = did.entries; done = none }
