-- What is no text isn't found to be one.
use Rattle.std.proofs.Common.{◌≡◌, ℕ, List, Bool, true, false, refl}
use Rattle.std.specs.Str.{IsUtf8, is_utf8}
use Rattle.std.proofs.lemmas.Str.{IsUtf8-from_is_utf8}

no_text_by : (bs : List ℕ) (b : Bool) → is_utf8 bs ≡ b → (IsUtf8 bs → ⊥) → is_utf8 bs ≡ false
no_text_by bs true e wrong = absurd (wrong (IsUtf8-from_is_utf8 bs e))
no_text_by bs false e wrong = e

pub no_text : (bs : List ℕ) → (IsUtf8 bs → ⊥) → is_utf8 bs ≡ false
no_text bs wrong = no_text_by bs (is_utf8 bs) refl wrong
