-- What is read from a text, if anything, is such.
use Rattle.std.proofs.Common.{◌≡◌, Option, Some, None, Bool, true, false, refl, subst, if◌then◌else◌}
use Rattle.command_text.specs.Fields.{◌>>=◌}

-- what is read, if anything, is such
abbrev pub Gives : {A : Type 0} → (A → Type 0) → Option A → Type 0
Gives P o = (x : _) → o ≡ Some x → P x

pub gives_some : {A : Type 0} (P : A → Type 0) (x : A) → P x → Gives P (Some x)
gives_some P x h y e = subst P (by e) h
  where
    by : Some x ≡ Some y → x ≡ y
    by q = cc

pub gives_none : {A : Type 0} (P : A → Type 0) → Gives P None
gives_none P y e = absurd cc

pub gives_if : {A : Type 0} (P : A → Type 0) (b : Bool) (x y : Option A) → Gives P x → Gives P y → Gives P (if b then x else y)
gives_if P true x y g h = g
gives_if P false x y g h = h

pub gives_after : {A B : Type 0} (Q : A → Type 0) (P : B → Type 0) (o : Option A) (f : A → Option B) → Gives Q o → ((x : A) → Q x → Gives P (f x)) → Gives P (o >>= f)
gives_after Q P None f g h = gives_none P
gives_after Q P (Some x) f g h = h x (g x refl)

pub gives_then : {A B : Type 0} (P : B → Type 0) (o : Option A) (f : A → Option B) → ((x : A) → Gives P (f x)) → Gives P (o >>= f)
gives_then P None f h = gives_none P
gives_then P (Some x) f h = h x
