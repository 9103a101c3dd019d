-- What a line in place asks for is within its bounds.
use Rattle.std.proofs.Common.{◌≡◌, ℕ, List, Option, Some, None, Bool, true, false, sym, subst, length}
use Rattle.std.specs.Prelude.{nat_lt, nat_le, Result, Ok, Err, IfOk}
use Rattle.command_text.specs.Content.{content_length}
use Rattle.command_text.specs.declared.content.Part.{Part}
use Rattle.trace_text.specs.Reading.{IsTimely}
use Rattle.trace_text.specs.declared.line.Line.{Line}
use Rattle.trace_text.specs.declared.line.Line.TheVariants as line
use Rattle.trace_text.specs.declared.refusal.LineFault.{LineFault}
use Rattle.trace_text.specs.declared.refusal.LineFault.TheVariants.{Grammar, Limit, Clock}
use Rattle.trace_replay.specs.declared.stage.Stage.{Stage}
use Rattle.trace_replay.specs.declared.stage.Stage.TheVariants as stage
use Rattle.trace_ends.specs.declared.adjusting.Adjustment.TheVariants as adjustment
use Rattle.trace_replay.specs.declared.turn.Turn.{Turn}
use Rattle.trace_replay.specs.declared.turn.Turn.TheVariants as turn
use Rattle.trace_ends.specs.Core.{Core}
use Rattle.trace_ends.specs.Session.{Seat}
use Rattle.trace_ends.specs.Numbers.{numbered}
use Rattle.trace_replay.specs.World.{World}
use Rattle.trace_replay.specs.Run.{raw_joins_within, line_most, file_most, asks_if, place_for, sized, file_asks, directory_asks, joins_within, joins_if, event_asks, asks_at, asks, asks_within, asked}
use Rattle.trace_replay.specs.Turns.{IsTurnBounded}
use Rattle.trace_replay.proofs.lemmas.Warming.{warms_turn, warm_taken}

abbrev asking : Turn → Result Turn LineFault
asking t = Ok t

turn_is : (s t : Turn) → asking s ≡ asking t → s ≡ t
turn_is s t e = cc

refused_line : {A : Type 0} (f : LineFault) (t : Turn) → Err f ≡ asking t → A
refused_line f t e = absurd cc

within : (b : Bool) (r : Result Turn LineFault) (t : Turn) → asks_within b r ≡ asking t → r ≡ asking t
within true r t e = e
within false (Err Grammar) t e = refused_line Grammar t e
within false (Err (Limit w)) t e = refused_line _ t e
within false (Err (Clock f)) t e = refused_line _ t e
within false (Ok s) t e = refused_line _ t e

taken : (s t : Turn) → IsTurnBounded s → asking s ≡ asking t → IsTurnBounded t
taken s t h e = subst (λ (x : Turn). IsTurnBounded x) (turn_is s t e) h

when : (b : Bool) (s t : Turn) → IsTurnBounded s → asks_if b s ≡ asking t → IsTurnBounded t
when true s t h e = taken s t h e
when false s t h e = refused_line Grammar t e

within_room : (b : Bool) (c : ℕ) (t : Turn) → joins_within b c ≡ asking t → IsTurnBounded t
within_room true c t e = taken (turn.Join c) t tt e
within_room false c t e = refused_line _ t e

unless_linked : (linked has_room : Bool) (c : ℕ) (t : Turn) → (elim linked as (λ (x : Bool). Result Turn LineFault) [ true ↦ Err Grammar | false ↦ joins_within has_room c ]) ≡ asking t → IsTurnBounded t
unless_linked true has_room c t e = refused_line Grammar t e
unless_linked false has_room c t e = within_room has_room c t e

joining : (standing c : ℕ) (o : Option Seat) (t : Turn) → joins_if standing c o ≡ asking t → IsTurnBounded t
joining standing c None t e = refused_line Grammar t e
joining standing c (Some seat) t e = unless_linked seat.client.linked _ c t e

raw_joining : (room : Bool) (t : Turn) → raw_joins_within room ≡ asking t → IsTurnBounded t
raw_joining true t e = taken turn.RawJoin t tt e
raw_joining false t e = refused_line _ t e

event : (k : Core) (l : Line) (t : Turn) → IsTimely l → event_asks k l ≡ asking t → IsTurnBounded t
event k (line.Join c r s) t h e = joining (length k.server.sessions) c (numbered k.seats c) t e
event k (line.Do c r d) t h e = when _ (turn.Do c r d) t tt e
event k (line.Up n a s) t h e = when _ (turn.Up n a s) t h e
event k (line.Down n a r) t h e = when _ (turn.Down n a r) t tt e
event k (line.Settle s) t h e = taken (turn.Settle s) t h e
event k (line.Cut c r) t h e = when _ (turn.Cut c) t tt e
event k (line.Hang n s) t h e = when _ (turn.Hang n) t tt e
event k (line.RawJoin s) t h e = raw_joining _ t e
event k (line.Raw n bytes) t h e = when _ (turn.Raw n bytes) t tt e
event k (line.Pass n m s r) t h e = when _ (turn.Pass n m s r) t h e
event k (line.Forge w key file offset count) t h e = when _ (turn.Adjust (adjustment.Forge w key (record { file = file; offset = offset; count = count }))) t tt e
event k (line.Clear w) t h e = when _ (turn.Adjust (adjustment.Clear w)) t tt e
event k (line.Evict c file) t h e = when _ (turn.Adjust (adjustment.Evict c file)) t tt e
event k (line.Warm c content) t h e = taken (warms_turn c content) t tt (warm_taken c content (numbered k.seats c) t e)
event k l t h e = refused_line Grammar t e

of_size : (long much : Bool) (dir : ℕ) (name : List ℕ) (content : List Part) (t : Turn) → sized long much (turn.File dir name content) ≡ asking t → IsTurnBounded t
of_size true much dir name content t e = refused_line _ t e
of_size false true dir name content t e = refused_line _ t e
of_size false false dir name content t e = taken (turn.File dir name content) t tt e

file : (place : Option ℕ) (size : ℕ) (name : List ℕ) (content : List Part) (t : Turn) → file_asks place size name content ≡ asking t → IsTurnBounded t
file None size name content t e = refused_line Grammar t e
file (Some dir) size name content t e = of_size (nat_lt file_most (content_length content)) _ dir name content t e

directory : (place : Option ℕ) (name : List ℕ) (t : Turn) → directory_asks place name ≡ asking t → IsTurnBounded t
directory None name t e = refused_line Grammar t e
directory (Some dir) name t e = taken (turn.Dir dir name) t tt e

at_files : (w : World) (l : Line) (t : Turn) → IsTimely l → asks_at w stage.Files l ≡ asking t → IsTurnBounded t
at_files w (line.Dir spot) t h e = directory (place_for w.core.server.tree spot) spot.name t e
at_files w (line.File spot content) t h e = file (place_for w.core.server.tree spot) w.size spot.name content t e
at_files w l t h e = event w.core l t h e

at_version : (w : World) (l : Line) (t : Turn) → asks_at w stage.Version l ≡ asking t → IsTurnBounded t
at_version w (line.Version v) t e = taken (turn.Version v) t tt e
at_version w l t e = refused_line Grammar t e

at_term : (w : World) (l : Line) (t : Turn) → asks_at w stage.Term l ≡ asking t → IsTurnBounded t
at_term w (line.Term n) t e = taken (turn.Term n) t tt e
at_term w l t e = refused_line Grammar t e

at_drift : (w : World) (l : Line) (t : Turn) → asks_at w stage.Drift l ≡ asking t → IsTurnBounded t
at_drift w (line.Drift n) t e = taken (turn.Drift n) t tt e
at_drift w l t e = refused_line Grammar t e

at_clients : (w : World) (l : Line) (t : Turn) → asks_at w stage.Clients l ≡ asking t → IsTurnBounded t
at_clients w (line.Clients n) t e = taken (turn.Clients n) t tt e
at_clients w l t e = refused_line Grammar t e

at_stage : (w : World) (s : Stage) (l : Line) (t : Turn) → IsTimely l → asks_at w s l ≡ asking t → IsTurnBounded t
at_stage w stage.Events l t h e = event w.core l t h e
at_stage w stage.Files l t h e = at_files w l t h e
at_stage w stage.Version l t h e = at_version w l t e
at_stage w stage.Term l t h e = at_term w l t e
at_stage w stage.Drift l t h e = at_drift w l t e
at_stage w stage.Clients l t h e = at_clients w l t e

any_line : (w : World) (l : Line) (t : Turn) → IsTimely l → asks w l ≡ asking t → IsTurnBounded t
any_line w line.Skipped t h e = taken turn.Skip t tt e
any_line w l t h e = at_stage w w.stage l t h e

by_result : (w : World) (n : ℕ) (l : Line) (r : Result Turn LineFault) → IsTimely l → r ≡ asked w n l → IfOk r IsTurnBounded
by_result w n l (Ok t) h e = any_line w l t h (within (nat_le n line_most) (asks w l) t (sym e))
by_result w n l (Err f) h e = tt

pub asked_bounded : (w : World) (n : ℕ) (l : Line) (r : Result Turn LineFault) → IsTimely l → r ≡ asked w n l → IfOk r IsTurnBounded
asked_bounded w n l r h e = by_result w n l r h e
