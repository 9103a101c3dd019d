-- What a line asks for by which a client gets the items of a cache file.
use Rattle.std.proofs.Common.{◌≡◌, ℕ, List, Option, Some, None, Bool, true, false}
use Rattle.std.specs.Prelude.{nat_lt, Result, Ok, Err}
use Rattle.command_text.specs.Content.{content_length}
use Rattle.command_text.specs.declared.content.Part.{Part}
use Rattle.trace_text.specs.declared.refusal.LineFault.{LineFault}
use Rattle.trace_text.specs.declared.refusal.LineFault.TheVariants.{Grammar}
use Rattle.trace_ends.specs.Session.{Seat, may_warm}
use Rattle.trace_ends.specs.declared.adjusting.Adjustment.TheVariants as adjustment
use Rattle.trace_replay.specs.Run.{file_most, warm_sized, warm_if, warm_asks}
use Rattle.trace_replay.specs.declared.turn.Turn.{Turn}
use Rattle.trace_replay.specs.declared.turn.Turn.TheVariants as turn

abbrev pub warms_turn : ℕ → List Part → Turn
warms_turn c content = turn.Adjust (adjustment.Warm c content)

abbrev asks_for : Turn → Result Turn LineFault
asks_for t = Ok t

refused : (f : LineFault) (s t : Turn) → Err f ≡ asks_for t → asks_for s ≡ asks_for t
refused f s t e = absurd cc

of_size : (long : Bool) (s t : Turn) → warm_sized long s ≡ asks_for t → asks_for s ≡ asks_for t
of_size true s t e = refused _ s t e
of_size false s t e = e

of_may : (may : Bool) (c : ℕ) (content : List Part) (t : Turn) → warm_if may c content ≡ asks_for t → asks_for (warms_turn c content) ≡ asks_for t
of_may true c content t e = of_size (nat_lt file_most (content_length content)) (warms_turn c content) t e
of_may false c content t e = refused Grammar (warms_turn c content) t e

-- where it is taken it is that turn
pub warm_taken : (c : ℕ) (content : List Part) (o : Option Seat) (t : Turn) → warm_asks c content o ≡ Ok t → Ok (warms_turn c content) ≡ asks_for t
warm_taken c content None t e = refused Grammar (warms_turn c content) t e
warm_taken c content (Some seat) t e = of_may (may_warm seat) c content t e
