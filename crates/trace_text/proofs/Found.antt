-- A fact of what was read, if anything was.
use Rattle.std.proofs.Common.{◌≡◌, Option, Some, None, Bool, true, false, subst}
use Rattle.std.specs.Prelude.{cond}
use Rattle.command_text.specs.Fields.{◌>>=◌}

abbrev pub Of : {A : Type 0} → (A → Type 0) → Option A → Type 0
Of P None = Unit {0}
Of P (Some a) = P a

pub of_it : {A : Type 0} (P : A → Type 0) (o : Option A) (a : A) → Of P o → o ≡ Some a → P a
of_it P o a h e = subst (λ x. Of P x) e h

pub of_then : {A B : Type 0} (P : A → Type 0) (Q : B → Type 0) (o : Option A) (f : A → Option B) → Of P o → ((a : A) → P a → Of Q (f a)) → Of Q (o >>= f)
of_then P Q None f h go = tt
of_then P Q (Some a) f h go = go a h

pub of_either : {A : Type 0} (P : A → Type 0) (b : Bool) (x y : Option A) → Of P x → Of P y → Of P (cond b x y)
of_either P true x y h k = h
of_either P false x y h k = k

pub of_any : {A : Type 0} (o : Option A) → Of (λ a. Unit {0}) o
of_any None = tt
of_any (Some a) = tt
