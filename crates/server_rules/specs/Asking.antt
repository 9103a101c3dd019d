-- Whether a store that was asked has failed.
use Rattle.std.specs.Prelude.{ℕ, Bool, true, false}
use Rattle.lb_base.specs.Causes.{Rose}

-- a store that failed has counted it
abbrev pub IsFault : Bool → ℕ → ℕ → Type 0
IsFault false before after = Unit {0}
IsFault true before after = Rose before after
