-- What was read from all that was left is one of the values wanted, and spelled so; what is spelled so is read.
use Rattle.std.proofs.Common.{◌≡◌, ℕ, List, Result, Ok, Err, ◌∙◌, sym}
use Rattle.std.specs.Prelude.{IfOk}
use Rattle.xdr_codec.specs.declared.fault.ReadError.{ReadError}
use Rattle.xdr_codec.specs.Format.{Format, Input, IsBytes, GivesAll, whole_at}
use Rattle.xdr_codec.specs.Whole.{whole_found, only_by}

pub found : {M : Type 0} (f : Format M) (Is : M → Type 0) (spell : M → List ℕ) → ((m : M) → f.Fits m → Is m) → ((m : M) → spell m ≡ f.spell m) → (i : Input) (r : Result M ReadError) → GivesAll r (whole_at i.at f i.rest) → IfOk r (λ m. IsBytes i.rest → Is m × (i.rest ≡ spell m))
found f Is spell fit same i (Ok m) gives = λ fits. let w = whole_found i.at f i.rest m fits gives in (fit m w.0, w.1 ∙ sym (same m))
found f Is spell fit same i (Err e) gives = tt

pub only : {M : Type 0} (f : Format M) (Is : M → Type 0) (spell : M → List ℕ) → ((m : M) → Is m → f.Fits m) → ((m : M) → spell m ≡ f.spell m) → (i : Input) (r : Result M ReadError) → GivesAll r (whole_at i.at f i.rest) → (m : M) → Is m → i.rest ≡ spell m → GivesAll r (Ok m)
only f Is spell fits same i r gives m is e = only_by i.at f i.rest r gives m (fits m is) (e ∙ same m)
