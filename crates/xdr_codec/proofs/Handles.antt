-- A handle of this file system's form, and the number of its file.
use Rattle.std.proofs.Common.{◌≡◌, ℕ, true, List, ◌++◌, length, drop, refl, sym, ap, ◌∙◌, arith, length-drop}
use Rattle.std.specs.Prelude.{eqb}
use Rattle.std.specs.Int.{w64, to_be_bytes, from_be_bytes}
use Rattle.std.specs.List.{starts_with}
use Rattle.std.proofs.lemmas.Bool.Decides.{Decides-eqb}
use Rattle.std.proofs.lemmas.Nat.{be_bytes_8}
use Rattle.std.proofs.lemmas.Slice.Eq.{starts_is}
use Rattle.xdr_codec.specs.Format.{IsBytes}
use Rattle.xdr_codec.specs.Laws.{IsBytes-drop}
use Rattle.xdr_codec.specs.Handle.{handle_mark, handle_bytes}

pub own_form : (bytes : List ℕ) → IsBytes bytes → length bytes ≡ 16 → starts_with eqb bytes handle_mark ≡ true → bytes ≡ handle_bytes (from_be_bytes w64 (drop 8 bytes))
own_form bytes fits len starts =
    let parts : bytes ≡ handle_mark ++ drop 8 bytes = (starts_is Decides-eqb bytes handle_mark true (sym starts)).0 refl in
    let back : to_be_bytes w64 (from_be_bytes w64 (drop 8 bytes)) ≡ drop 8 bytes = be_bytes_8 (drop 8 bytes) _ (omega (arith, length-drop 8 bytes)) (IsBytes-drop 8 bytes fits) refl in
    parts ∙ ap (λ (t : List ℕ). handle_mark ++ t) (sym back)
