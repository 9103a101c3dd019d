-- Steps of a folder that follow each other.
use Rattle.std.proofs.Common.{refl, ◌∙◌, ◌≡◌, inl, inr, ⊎_elim, ℕ, ◌≤◌, ◌⊎◌, arith, Result, Ok, Err, OnErr, OnOk, IfOk}
use Rattle.lb_base.specs.Causes.{Rose}
use Rattle.log_store.specs.Lines.{Log}
use Rattle.log_store.specs.Disk.{Files, Disk, Leaves, Passes, Same, Stayed, Looked}
use Rattle.log_store.specs.declared.folder.Fault.{Fault}

pub one_step : {old new : Disk} (P : Files → Log → Type 0) → Passes old new → ((c : Files) (l : Log) → new.may_leave c l → P c l) → Leaves old new P
one_step P time here = record {
  later = time.later;
  each = λ t c l le since. ⊎_elim (λ past. inl past) (λ now. inr (here c l now)) (time.nothing_else t c l le since);
}

pub and_then : {old mid new : Disk} (P : Files → Log → Type 0) → Leaves old mid P → Leaves mid new P → Leaves old new P
and_then P a b = record {
  later = omega (arith, a.later, b.later);
  each = λ t c l le since. ⊎_elim (λ past. a.each t c l le past) (λ now. inr now) (b.each t c l (omega (arith, le, a.later)) since);
}

pub weaker : {old new : Disk} {P Q : Files → Log → Type 0} → ((c : Files) (l : Log) → P c l → Q c l) → Leaves old new P → Leaves old new Q
weaker to l = record { later = l.later; each = λ t c k le since. ⊎_elim (λ past. inl past) (λ p. inr (to c k p)) (l.each t c k le since) }

pub nothing : {d : Disk} (P : Files → Log → Type 0) → Leaves d d P
nothing P = record { later = omega arith; each = λ t c l le since. inl since }

pub on_ok : {A : Type 0} {E : Type 0} {X Y : Type 0} (r : Result A E) → (X → Y) → OnOk r X → OnOk r Y
on_ok (Ok u) to x = to x
on_ok (Err e) to x = tt

pub always : {A : Type 0} {E : Type 0} (r : Result A E) → OnOk r (Unit {0})
always (Ok u) = tt
always (Err e) = tt

-- what stayed through calls
pub looked_one : {old new : Disk} → Stayed old new → Looked old new
looked_one {old} {new} a = record { leaves = one_step old.may_leave a.time a.crash; seen = a.seen; entries = a.entries; crash = a.crash }

pub looked_on : {old mid new : Disk} → Looked old mid → Looked mid new → Looked old new
looked_on {old} a b = record {
  leaves = and_then old.may_leave a.leaves (weaker a.crash b.leaves);
  seen = λ x. b.seen x ∙ a.seen x;
  entries = b.entries ∙ a.entries;
  crash = λ c l left. a.crash c l (b.crash c l left);
}

pub looked_none : {d : Disk} → Looked d d
looked_none {d} = record { leaves = nothing d.may_leave; seen = λ x. refl; entries = refl; crash = λ c l left. left }

pub if_ok : {A : Type 0} {E : Type 0} {X Y : A → Type 0} (r : Result A E) → ((a : A) → X a → Y a) → IfOk r X → IfOk r Y
if_ok (Ok a) to x = to a x
if_ok (Err e) to x = tt

pub if_err : {A : Type 0} {E : Type 0} {X : Type 0} (r : Result A E) → X → OnErr r X
if_err (Ok a) x = tt
if_err (Err e) x = x

-- a fault of the second of two calls
pub rose_behind : {A : Type 0} {E : Type 0} (r : Result A E) (a b c : ℕ) → a ≤ b → OnErr r (Rose b c) → OnErr r (Rose a c)
rose_behind (Ok u) a b c le rose = tt
rose_behind (Err e) a b c le rose = omega (arith, le, rose)
