-- The pieces of a temporary file, joined one after the other.
use Rattle.std.proofs.Common.{◌≡◌, refl, sym, ap, ◌∙◌, ℕ, ◌+◌, ◌≤◌, List, [], ◌∷◌, ◌++◌, length, Option, Some, None, Bool, true, false, true≢false, length-append, arith}
use Rattle.std.specs.Prelude.{◌==◌, is_some, if◌then◌else◌}
use Rattle.std.specs.Option.{option_map}
use Rattle.temp_files.specs.Pieces.{Piece, StandApart, joined, all_bytes, size_most}

-- bytes before those that are there, if any are
abbrev pub behind : List ℕ → Option (List ℕ) → Option (List ℕ)
behind w o = option_map (λ bytes. w ++ bytes) o

-- ---- whether they come to anything

is_some_map : (w : List ℕ) (o : Option (List ℕ)) → is_some (behind w o) ≡ is_some o
is_some_map w None = refl
is_some_map w (Some b) = refl

-- a piece that begins at this place
pub cover_step : (at size : ℕ) (p : Piece) (ps : List Piece) → (p.0 == at) ≡ true → is_some (joined at size (p ∷ ps)) ≡ is_some (joined (at + length p.1) size ps)
cover_step at size p ps is =
    ap (λ b. is_some (if b then behind p.1 (joined (at + length p.1) size ps) else None)) is
    ∙ is_some_map p.1 (joined (at + length p.1) size ps)

-- a piece that begins elsewhere
pub cover_stop : (at size : ℕ) (p : Piece) (ps : List Piece) → (p.0 == at) ≡ false → is_some (joined at size (p ∷ ps)) ≡ false
cover_stop at size p ps is = ap (λ b. is_some (if b then behind p.1 (joined (at + length p.1) size ps) else None)) is

-- no further piece
pub cover_end : (at size : ℕ) → is_some (joined at size []) ≡ (at == size)
cover_end at size = by (at == size)
  where
    by : (b : Bool) → is_some {T = List ℕ} (if b then Some [] else None) ≡ b
    by true = refl
    by false = refl

pub none_some : (o : Option (List ℕ)) → is_some o ≡ false → None ≡ o
none_some None h = refl
none_some (Some b) h = absurd (true≢false h)

-- pieces that stand apart from a place on are within the limit
pub within_most : (at : ℕ) (ps : List Piece) → StandApart at ps → at ≤ size_most
within_most at [] a = a
within_most at (p ∷ ps) a = let later = within_most (p.0 + length p.1) ps a.2 in let begins = a.0 in omega arith

some_same : (b c : List ℕ) → Some b ≡ Some c → b ≡ c
some_same b c e = cc

none_differs : (b : List ℕ) → None ≡ Some b → ⊥
none_differs b e = cc

-- what is whole for a size has that many bytes
pub joined_size : (at size : ℕ) (ps : List Piece) (bytes : List ℕ) → joined at size ps ≡ Some bytes → at + length bytes ≡ size
joined_size at size [] bytes h = by (at == size) refl h
  where
    by : (b : Bool) → (at == size) ≡ b → (if b then Some [] else None) ≡ Some bytes → at + length bytes ≡ size
    by true e g = grind (arith, e, ap length (some_same [] bytes g))
    by false e g = absurd (none_differs bytes g)
joined_size at size (p ∷ ps) bytes h = by (p.0 == at) (joined (at + length p.1) size ps) (joined_size (at + length p.1) size ps) h
  where
    by : (b : Bool) (o : Option (List ℕ)) → ((rest : List ℕ) → o ≡ Some rest → (at + length p.1) + length rest ≡ size) → (if b then behind p.1 o else None) ≡ Some bytes → at + length bytes ≡ size
    by true (Some rest) e g = omega (arith, e rest refl, ap length (some_same (p.1 ++ rest) bytes g), length-append p.1 rest)
    by true None e g = absurd (none_differs bytes g)
    by false o e g = absurd (none_differs bytes g)

-- what the pieces come to is their bytes
pub joined_all : (at size : ℕ) (ps : List Piece) (bytes : List ℕ) → joined at size ps ≡ Some bytes → bytes ≡ all_bytes ps
joined_all at size [] bytes h = by (at == size) h
  where
    by : (b : Bool) → (if b then Some [] else None) ≡ Some bytes → bytes ≡ []
    by true g = sym (some_same [] bytes g)
    by false g = absurd (none_differs bytes g)
joined_all at size (p ∷ ps) bytes h = by (p.0 == at) (joined (at + length p.1) size ps) (joined_all (at + length p.1) size ps) h
  where
    by : (b : Bool) (o : Option (List ℕ)) → ((rest : List ℕ) → o ≡ Some rest → rest ≡ all_bytes ps) → (if b then behind p.1 o else None) ≡ Some bytes → bytes ≡ p.1 ++ all_bytes ps
    by true (Some rest) e g = sym (some_same (p.1 ++ rest) bytes g) ∙ ap (λ t. p.1 ++ t) (e rest refl)
    by true None e g = absurd (none_differs bytes g)
    by false o e g = absurd (none_differs bytes g)

-- so where they come to something, it is their bytes, as many as the size
pub whole_is : (size : ℕ) (ps : List Piece) → is_some (joined 0 size ps) ≡ true → Some (all_bytes ps) ≡ joined 0 size ps
whole_is size ps h = by (joined 0 size ps) refl h
  where
    by : (o : Option (List ℕ)) → joined 0 size ps ≡ o → is_some o ≡ true → Some (all_bytes ps) ≡ o
    by None e g = absurd (true≢false (sym g))
    by (Some bytes) e g = ap Some (sym (joined_all 0 size ps bytes e))

pub whole_length : (size : ℕ) (ps : List Piece) → is_some (joined 0 size ps) ≡ true → length (all_bytes ps) ≡ size
whole_length size ps h = omega (arith, joined_size 0 size ps (all_bytes ps) (sym (whole_is size ps h)))
