-- What is said of a line that is asked for and of a run that goes on, as results.
use Rattle.std.proofs.Common.{◌≡◌, ℕ, ◌+◌, Bool, true, false, List, [], ◌++◌, Result, Ok, Err}
use Rattle.trace_replay.specs.Run.{refused}
use Rattle.kept_promise.proofs.Common.{LineFault, Refused, Turn, World, turned, ended, run_from, Moment, turn_moments, moments_from}

abbrev pub asking : Turn → Result Turn LineFault
asking t = Ok t

pub turn_is : (s t : Turn) → asking s ≡ asking t → s ≡ t
turn_is s t e = cc

pub refused_line : {A : Type 0} (f : LineFault) (t : Turn) → Err f ≡ asking t → A
refused_line f t e = absurd cc

abbrev pub whole : World → Result World Refused
whole w = Ok w

pub no_world : {A : Type 0} (r : Refused) (v : World) → Err r ≡ whole v → A
no_world r v e = absurd cc

pub world_is : (w v : World) → whole w ≡ whole v → w ≡ v
world_is w v e = cc

pub ended_is : (w v : World) (n : ℕ) (b : Bool) → ended w n b ≡ Ok v → w ≡ v
ended_is w v n true e = no_world _ v e
ended_is w v n false e = world_is w v e

abbrev pub ran_by : World → ℕ → List (List ℕ) → Result Turn LineFault → Result World Refused
ran_by w n ls r = elim r [ Err f ↦ Err (refused n f) | Ok t ↦ run_from (turned w t) (n + 1) ls ]

abbrev pub moments_by : World → ℕ → List (List ℕ) → Result Turn LineFault → List Moment
moments_by w n ls r = elim r [ Err f ↦ [] | Ok t ↦ turn_moments w t ++ moments_from (turned w t) (n + 1) ls ]
