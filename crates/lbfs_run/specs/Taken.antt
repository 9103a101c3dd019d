-- Lines of which none is refused.
use Rattle.std.specs.Prelude.{◌≡◌, ℕ, List, Ok}
use Rattle.trace_replay.specs.Timed.{Timed}
use Rattle.trace_replay.specs.Lines.{applied_from}

abbrev pub AreTaken : (from : Timed) → (number : ℕ) → (lines : List (List ℕ)) → Type 0
AreTaken from number lines = (to : Timed) × (next : ℕ) × (applied_from from number lines ≡ Ok (to, next))
