-- What a store holds between calls.
use Rattle.std.proofs.Common.{◌≡◌, inl, inr, ⊎_elim, ℕ, ◌⊎◌, ◌++◌, Bool, true, false, List, [], ◌∷◌, Result, Ok, Err, OnOk, OnErr, refl, sym, ◌∙◌, ap, subst, true≢false}
use Rattle.log_store.specs.Names.{is_among}
use Rattle.log_store.specs.Lines.{Log, Records, changed, is_clear, larges}
use Rattle.log_store.specs.Disk.{Files, Disk, Leaves, Stayed, Looked}
use Rattle.log_store.specs.Sound.{OneOf, IsSound, Carried, UnlessInDoubt}
use Rattle.log_store.specs.Making.{Added, IfBefore}
use Rattle.log_store.specs.Store.{HoldsRecords, Relieved, Applied}
use Rattle.log_store.specs.declared.carrying.Unfinished.{Unfinished}
use Rattle.log_store.specs.declared.carrying.Unfinished.TheVariants as unfinished
use Rattle.log_store.specs.declared.edit.Edit.{Edit}
use Rattle.log_store.specs.declared.staging.Undone.{Undone}
use Rattle.log_store.specs.declared.staging.Undone.TheVariants as undone
use Rattle.log_store.specs.declared.which.Which.{Which}
use Rattle.log_store.proofs.Steps.{and_then, weaker, nothing, if_err, looked_one}
use Rattle.log_store.proofs.lemmas.Logs.{covers, all_clear}
use Rattle.log_store.proofs.Redo.{quiet_sound, looked_sound, relieved_by_looks, relieved_on}

pub held_looked : (records : Records) (past : List Records) (pending more : List Which) (doubt : Bool) (old new : Disk) → IsSound records past pending old → Looked old new → more ≡ pending → HoldsRecords records past more doubt new
held_looked records past pending more doubt old new s did is = λ sure. subst (λ (p : List Which). IsSound records past p new) (sym is) (looked_sound records past pending old new s did)

pub looked_first : (records : Records) (past : List Records) (pending more : List Which) (doubt : Bool) (d0 d1 d2 : Disk) → IsSound records past pending d0 → Looked d0 d1 → Relieved records past more doubt d1 d2 → Relieved records past more doubt d0 d2
looked_first records past pending more doubt d0 d1 d2 s did r = relieved_on records past pending more doubt doubt d0 d1 d2 (relieved_by_looks records past pending doubt d0 d1 s did) r

pub stayed_last : (records : Records) (past : List Records) (pending : List Which) (doubt : Bool) (d0 d1 d2 : Disk) → Relieved records past pending doubt d0 d1 → doubt ≡ false → Stayed d1 d2 → Relieved records past pending doubt d0 d2
stayed_last records past pending doubt d0 d1 d2 r sure did = relieved_on records past pending pending doubt doubt d0 d1 d2 r (relieved_by_looks records past pending doubt d1 d2 (r.held sure) (looked_one did))

pub clear_empty : (edits : List Edit) (pending : List Which) → pending ≡ [] → is_clear edits pending ≡ true
clear_empty edits pending is = ap (is_clear edits) is ∙ all_clear edits

pub clear_either : (edits : List Edit) (pending more : List Which) → is_clear edits pending ≡ true → (more ≡ []) ⊎ (more ≡ pending) → is_clear edits more ≡ true
clear_either edits pending more is e = ⊎_elim (λ empty. clear_empty edits more empty) (λ same. ap (is_clear edits) same ∙ is) e

pub applied : (edits : List Edit) (records : Records) (past : List Records) (pending more : List Which) (doubt : Bool) (old new : Disk) → doubt ≡ false → more ≡ pending ++ larges edits → Added edits records past pending old new (Ok tt)
    → Applied edits records past more doubt old new (Ok tt)
applied edits records past pending more doubt old new sure is a = record {
  leaves = a.leaves;
  left = a.left;
  made = (sure, a.made more (covers pending more edits is));
  failed = tt;
}

-- what was carried out before a change
pub relieved_applied : (edits : List Edit) (records : Records) (past : List Records) (first pending : List Which) (a doubt : Bool) (old mid new : Disk) (r : Result (Unit {0}) Unfinished) → Relieved records past first a old mid → Applied edits records past pending doubt mid new r
    → Applied edits records past pending doubt old new r
relieved_applied edits records past first pending a doubt old mid new r x y = record {
  leaves = and_then (OneOf (changed edits records ∷ records ∷ past)) (weaker (λ c l o. inr o) x.leaves) y.leaves;
  left = y.left;
  made = y.made;
  failed = y.failed;
}

-- a change that failed, and was tried again
pub applied_again : (edits : List Edit) (records : Records) (past : List Records) (first pending : List Which) (a doubt : Bool) (old mid new : Disk) (e : Unfinished) (r : Result (Unit {0}) Unfinished) → Applied edits records past first a old mid (Err e)
    → Applied edits records past pending doubt mid new r → Applied edits records past pending doubt old new r
applied_again edits records past first pending a doubt old mid new e r x y = record {
  leaves = and_then (OneOf (changed edits records ∷ records ∷ past)) x.leaves y.leaves;
  left = y.left;
  made = y.made;
  failed = y.failed;
}

pub not_relieved : (edits : List Edit) (records : Records) (past : List Records) (pending : List Which) (doubt : Bool) (old new : Disk) (r : Result (Unit {0}) Unfinished)
    → OnOk r ((doubt ≡ false) × IsSound (changed edits records) (records ∷ past) pending new) → Relieved records past pending doubt old new → Applied edits records past pending doubt old new r
not_relieved edits records past pending doubt old new r none x = record {
  leaves = weaker (λ c l o. inr o) x.leaves;
  left = λ c l left. inr (x.left c l left);
  made = none;
  failed = failed_by r x.held;
}
  where
    failed_by : (q : Result (Unit {0}) Unfinished) → HoldsRecords records past pending doubt new → OnErr q (HoldsRecords records past pending doubt new)
    failed_by (Ok u) h = tt
    failed_by (Err e) h = h

more_pending : (records : Records) (past : List Records) (pending more : List Which) (d : Disk) → ((n : Which) → is_among n more ≡ false → is_among n pending ≡ false) → IsSound records past pending d → IsSound records past more d
more_pending records past pending more d stays s = record {
  seen = s.seen;
  whole = s.whole;
  each = s.each;
  free = λ n is. s.free n (stays n is);
  free_left = λ c l left n is. s.free_left c l left n (stays n is);
}

-- memory ran out as a change's records were noted
pub not_noted : (edits : List Edit) (records : Records) (past : List Records) (pending more : List Which) (doubt : Bool) (d : Disk) (r : Result (Unit {0}) Unfinished)
    → OnOk r ((doubt ≡ false) × IsSound (changed edits records) (records ∷ past) more d) → ((n : Which) → is_among n more ≡ false → is_among n pending ≡ false) → IsSound records past pending d
    → Applied edits records past more doubt d d r
not_noted edits records past pending more doubt d r none stays s = record {
  leaves = nothing (OneOf (changed edits records ∷ records ∷ past));
  left = λ c l left. inr (s.each c l left);
  made = none;
  failed = if_err r (λ sure. more_pending records past pending more d stays s);
}

pub not_applied : (edits : List Edit) (records : Records) (past : List Records) (pending more : List Which) (doubt : Bool) (old new : Disk) (u : Undone) (e : Unfinished) → u ≡ undone.Before
    → ((n : Which) → is_among n more ≡ false → is_among n pending ≡ false) → Added edits records past pending old new (Err u) → Applied edits records past more doubt old new (Err e)
not_applied edits records past pending more doubt old new u e is stays a = record {
  leaves = a.leaves;
  left = a.left;
  made = tt;
  failed = λ sure. more_pending records past pending more new stays (subst (λ (v : Undone). IfBefore (Err v) (IsSound records past pending new)) is a.before);
}

pub perhaps_applied : (edits : List Edit) (records : Records) (past : List Records) (pending more : List Which) (doubt : Bool) (old new : Disk) (u : Undone) (e : Unfinished) → doubt ≡ true
    → Added edits records past pending old new (Err u) → Applied edits records past more doubt old new (Err e)
perhaps_applied edits records past pending more doubt old new u e is a = record {
  leaves = a.leaves;
  left = a.left;
  made = tt;
  failed = λ sure. absurd (true≢false (sym is ∙ sure));
}

-- what a log that was carried out leaves a store with
pub relieved_quiet : (records : Records) (past : List Records) (first pending : List Which) (doubt : Bool) (old new : Disk) → Carried records past first old new (Ok tt) → Relieved records past pending doubt old new
relieved_quiet records past first pending doubt old new c = record { leaves = c.leaves; left = c.left; held = λ sure. quiet_sound records past pending new c.done }

pub relieved_failed : (records : Records) (past : List Records) (pending : List Which) (doubt : Bool) (old new : Disk) (e : Unfinished) → e ≡ unfinished.Failed → Carried records past pending old new (Err e) → Relieved records past pending doubt old new
relieved_failed records past pending doubt old new e is c = record {
  leaves = c.leaves;
  left = c.left;
  held = λ sure. subst (λ (x : Unfinished). UnlessInDoubt (Err x) (IsSound records past pending new)) is c.kept;
}

pub relieved_starved : (records : Records) (past : List Records) (pending : List Which) (doubt : Bool) (old new : Disk) (e : Unfinished) → e ≡ unfinished.Memory → Carried records past pending old new (Err e) → Relieved records past pending doubt old new
relieved_starved records past pending doubt old new e is c = record {
  leaves = c.leaves;
  left = c.left;
  held = λ sure. subst (λ (x : Unfinished). UnlessInDoubt (Err x) (IsSound records past pending new)) is c.kept;
}

pub relieved_doubt : (records : Records) (past : List Records) (first pending : List Which) (doubt : Bool) (old new : Disk) (r : Result (Unit {0}) Unfinished) → doubt ≡ true → Carried records past first old new r → Relieved records past pending doubt old new
relieved_doubt records past first pending doubt old new r is c = record { leaves = c.leaves; left = c.left; held = λ sure. absurd (true≢false (sym is ∙ sure)) }
