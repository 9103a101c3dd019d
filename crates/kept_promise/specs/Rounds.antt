-- Rounds of deliveries on a session.
use Rattle.std.specs.Prelude.{ℕ, zero, suc}
use Rattle.trace_replay.specs.World.{World}
use Rattle.trace_replay.specs.Delivery.{round}

-- so many rounds, each both deliveries of all that is on its way
abbrev pub rounds : ℕ → World → (number server at : ℕ) → World
rounds zero w number server at = w
rounds (suc k) w number server at = rounds k (round w number server at) number server at
