-- Letters of names are a text.
use Rattle.std.proofs.Common.{◌≡◌, ℕ, zero, suc, ◌<◌, List, [], ◌∷◌, Bool, true, false, ◌&&◌, ◌==◌, not, nat_le, length, arith, refl}
use Rattle.std.specs.List.{list_all}
use Rattle.std.specs.Str.{IsAscii, IsUtf8}
use Rattle.std.proofs.lemmas.Bool.Decides.{nat_tests}
use Rattle.std.proofs.lemmas.Str.{IsUtf8-from_ascii}
use Rattle.limits.specs.declared.TheConstants.{NAME_MOST}
use Rattle.command_text.specs.Fields.{is_letter, is_text}
use Rattle.lbfs_client.specs.Lines.{is_local}

both : (a b : Bool) → (a && b) ≡ true → (a ≡ true) × (b ≡ true)
both true true h = (refl, refl)
both true false h = cc
both false b h = cc

letter_ascii : (b : ℕ) → is_letter b ≡ true → b < 128
letter_ascii b h = grind (arith, nat_tests)

letters_ascii : (text : List ℕ) → list_all is_letter text ≡ true → IsAscii text
letters_ascii [] h i = omega arith
letters_ascii (b ∷ bs) h zero = letter_ascii b (both (is_letter b) (list_all is_letter bs) h).0
letters_ascii (b ∷ bs) h (suc i) = letters_ascii bs (both (is_letter b) (list_all is_letter bs) h).1 i

text_utf8 : (text : List ℕ) → is_text text ≡ true → IsUtf8 text
text_utf8 text h = IsUtf8-from_ascii text (letters_ascii text (both (not (length text == 0)) (list_all is_letter text) h).1)

pub letters_utf8 : (text : List ℕ) → is_local text ≡ true → IsUtf8 text
letters_utf8 text h = text_utf8 text (both (is_text text) (nat_le (length text) NAME_MOST) h).0
