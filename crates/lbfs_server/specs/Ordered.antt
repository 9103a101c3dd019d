-- Turns in their order. Other threads' turns may stand before, between and behind these.
use Rattle.std.specs.Prelude.{List, [], ◌∷◌}
use mathlib.Core.List.{IsPrefix}
use Rattle.turn_post.specs.declared.journaled.Journaled.{Ghosts}
use Rattle.turn_post.specs.declared.post.Pass.{Pass}
use Rattle.turn_post.specs.Passes.{seen}

module _ {V E A : Type 0} {g : Ghosts V E} (turn : A → (before behind : Pass V E g) → Type 0) where
  -- a turn for each of these, behind that of the one before
  abbrev pub InOrder : List A → (before behind : Pass V E g) → Type 0
  InOrder [] before behind = IsPrefix (seen before) (seen behind)
  InOrder (one ∷ later) before behind = (between : Pass V E g) × turn one before between × InOrder later between behind
