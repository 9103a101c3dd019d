-- Handles (RFC 1813, section 2.6: nfs_fh3), and those that this file system gives.
use Rattle.std.proofs.Common.{◌≡◌, ℕ, ◌≤◌, List, [], ◌∷◌, ◌++◌, length, take, drop, replicate, Option, Some, None, sym, ap, ◌∙◌, arith, length-take-le, take-append-drop}
use Rattle.std.specs.Prelude.{eqb, ◌==◌, ◌&&◌, if◌then◌else◌}
use Rattle.std.specs.Int.{w64, to_be_bytes, from_be_bytes}
use Rattle.std.specs.List.{starts_with}
use Rattle.limits.specs.declared.TheConstants.{HANDLE_MOST}
use Rattle.xdr_codec.specs.Format.{Format}
use Rattle.xdr_codec.specs.Xdr.{opaque_form}

abbrev pub handle_form : Format (List ℕ)
handle_form = opaque_form HANDLE_MOST

-- "LB01", and four zeros
abbrev pub handle_mark : List ℕ
handle_mark = 76 ∷ 66 ∷ 48 ∷ 49 ∷ 0 ∷ 0 ∷ 0 ∷ 0 ∷ []

-- the handle that this file system gives for a file's number
abbrev pub handle_bytes : ℕ → List ℕ
handle_bytes id = handle_mark ++ to_be_bytes w64 id

-- the number of the file, where these bytes are a handle of this file system's form
abbrev pub file_of : List ℕ → Option ℕ
file_of bytes = if (length bytes == 16) && starts_with eqb bytes handle_mark then Some (from_be_bytes w64 (drop 8 bytes)) else None

-- ---- how a handle holds its bytes: so many of an array, with zeros behind them

abbrev pub zeros_behind : ℕ → List ℕ
zeros_behind len = drop len (replicate HANDLE_MOST 0)

abbrev pub IsHeld : ℕ → List ℕ → Type 0
IsHeld len held = (len ≤ HANDLE_MOST) × (length held ≡ HANDLE_MOST) × (drop len held ≡ zeros_behind len)

-- the bytes alone say how they are held
pub len_back : (len : ℕ) (held : List ℕ) → IsHeld len held → length (take len held) ≡ len
len_back len held is = length-take-le len held (omega (arith, is.0, is.1))

pub held_back : (len : ℕ) (held : List ℕ) → IsHeld len held → take len held ++ zeros_behind (length (take len held)) ≡ held
held_back len held is =
    ap (λ (n : ℕ). take len held ++ zeros_behind n) (len_back len held is)
    ∙ (ap (λ (t : List ℕ). take len held ++ t) (sym is.2) ∙ take-append-drop len held)
