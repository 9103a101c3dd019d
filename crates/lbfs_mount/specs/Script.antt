-- The lines that come from a source, one by one.
use Rattle.std.specs.Prelude.{◌≡◌, ℕ, ◌+◌, List, [], ◌∷◌, ◌++◌, length, Bool, true, false, ◌==◌}
use Rattle.std.specs.List.{list_any}
use Rattle.command_text.specs.Parts.{lines_of}

-- whether a line ends in these bytes, by a line feed (10)
abbrev pub has_feed : List ℕ → Bool
has_feed bytes = list_any (λ b. b == 10) bytes

-- the lines that came and were not given yet, what came behind them, how many bytes came, and whether the input has ended
pub record Coming : Type 0 where
  pub lines : List (List ℕ)
  pub rest : List ℕ
  pub taken : ℕ
  pub ended : Bool

abbrev pub nothing_yet : Coming
nothing_yet = record { lines = []; rest = []; taken = 0; ended = false }

-- all lines that are given from now on if these bytes come
abbrev pub coming : Coming → List ℕ → List (List ℕ)
coming k bytes = k.lines ++ lines_of (k.rest ++ bytes)

-- nothing follows once the input has ended
abbrev pub MayFollow : Coming → List ℕ → Type 0
MayFollow k more = k.ended ≡ true → more ≡ []

-- these bytes were taken and nothing was given: whatever follows them, all lines that are to come still are
pub record Takes (old : Coming) (bytes : List ℕ) (new : Coming) : Type 0 where
  pub same : (more : List ℕ) → MayFollow new more → coming old (bytes ++ more) ≡ coming new more
  pub count : new.taken ≡ old.taken + length bytes

-- these bytes were taken and a line was given: it stands before all lines that are to come, whatever follows these bytes
pub record Gives (old : Coming) (bytes line : List ℕ) (new : Coming) : Type 0 where
  pub first : (more : List ℕ) → MayFollow new more → coming old (bytes ++ more) ≡ line ∷ coming new more
  pub count : new.taken ≡ old.taken + length bytes
