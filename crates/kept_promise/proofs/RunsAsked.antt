-- What a line that is taken asks for, whatever the world is.
use Rattle.std.proofs.Common.{◌≡◌, ℕ, Option, Some, None, Bool, true, false, List, Result, Ok, Err}
use Rattle.command_text.specs.declared.path.Spot.{Spot}
use Rattle.trace_text.specs.declared.line.Line.TheVariants as line
use Rattle.trace_ends.specs.declared.adjusting.Adjustment.TheVariants as adjustment
use Rattle.trace_replay.specs.Run.{place_for, file_asks, directory_asks}
use Rattle.trace_replay.specs.declared.stage.Stage.{Stage}
use Rattle.trace_replay.specs.declared.stage.Stage.TheVariants as stage
use Rattle.trace_replay.specs.declared.turn.Turn.TheVariants as turn
use Rattle.kept_promise.proofs.Common.{nat_lt, nat_le, Part, Line, LineFault, Grammar, Turn, Core, Seat, numbered, World, line_most, sessions_most, asks_if, sized, joins_if, joins_within, event_asks, asks_at, asks, asks_within, asked, raw_joins_within}
use Rattle.trace_replay.proofs.lemmas.Warming.{warms_turn, warm_taken}
use Rattle.kept_promise.proofs.RunsResults.{asking, refused_line}

-- what it asks for, if its path leads to this directory
abbrev pub turn_of : (dir : ℕ) → Line → Turn
turn_of dir line.Skipped = turn.Skip
turn_of dir (line.Version n) = turn.Version n
turn_of dir (line.Term n) = turn.Term n
turn_of dir (line.Drift n) = turn.Drift n
turn_of dir (line.Clients n) = turn.Clients n
turn_of dir (line.Dir spot) = turn.Dir dir spot.name
turn_of dir (line.File spot content) = turn.File dir spot.name content
turn_of dir (line.Join m r at) = turn.Join m
turn_of dir (line.Do m r d) = turn.Do m r d
turn_of dir (line.Up n a at) = turn.Up n a at
turn_of dir (line.Down n a r) = turn.Down n a r
turn_of dir (line.Settle at) = turn.Settle at
turn_of dir (line.Cut m r) = turn.Cut m
turn_of dir (line.Hang n at) = turn.Hang n
turn_of dir (line.RawJoin at) = turn.RawJoin
turn_of dir (line.Raw n bytes) = turn.Raw n bytes
turn_of dir (line.Pass n rounds at r) = turn.Pass n rounds at r
turn_of dir (line.Forge w key file offset count) = turn.Adjust (adjustment.Forge w key (record { file = file; offset = offset; count = count }))
turn_of dir (line.Clear w) = turn.Adjust (adjustment.Clear w)
turn_of dir (line.Evict m file) = turn.Adjust (adjustment.Evict m file)
turn_of dir (line.Warm m content) = warms_turn m content

turn_is : (s t : Turn) → asking s ≡ asking t → t ≡ s
turn_is s t e = cc

goes_if : (b : Bool) (u t : Turn) → asks_if b u ≡ asking t → t ≡ u
goes_if true u t e = turn_is u t e
goes_if false u t e = refused_line Grammar t e

joins_turn : (standing client : ℕ) (o : Option Seat) (t : Turn) → joins_if standing client o ≡ asking t → t ≡ turn.Join client
joins_turn standing client None t e = refused_line Grammar t e
joins_turn standing client (Some seat) t e = by seat.client.linked (nat_lt standing sessions_most) e
  where
    by : (b room : Bool) → elim b as (λ (x : Bool). Result Turn LineFault) [ true ↦ Err Grammar | false ↦ joins_within room client ] ≡ asking t → t ≡ turn.Join client
    by true room e = refused_line Grammar t e
    by false true e = turn_is (turn.Join client) t e
    by false false e = refused_line _ t e

raw_joins_turn : (b : Bool) (t : Turn) → raw_joins_within b ≡ asking t → t ≡ turn.RawJoin
raw_joins_turn true t e = turn_is turn.RawJoin t e
raw_joins_turn false t e = refused_line _ t e

event_turn : (k : Core) (l : Line) (t : Turn) → event_asks k l ≡ asking t → t ≡ turn_of 0 l
event_turn k (line.Join m r at) t e = joins_turn _ m (numbered k.seats m) t e
event_turn k (line.Do m r d) t e = goes_if _ (turn.Do m r d) t e
event_turn k (line.Up n a at) t e = goes_if _ (turn.Up n a at) t e
event_turn k (line.Down n a r) t e = goes_if _ (turn.Down n a r) t e
event_turn k (line.Settle at) t e = turn_is (turn.Settle at) t e
event_turn k (line.Cut m r) t e = goes_if _ (turn.Cut m) t e
event_turn k (line.Hang n at) t e = goes_if _ (turn.Hang n) t e
event_turn k (line.RawJoin at) t e = raw_joins_turn _ t e
event_turn k (line.Raw n bytes) t e = goes_if _ (turn.Raw n bytes) t e
event_turn k (line.Pass n rounds at r) t e = goes_if _ (turn.Pass n rounds at r) t e
event_turn k (line.Forge w key file offset count) t e = goes_if _ (turn.Adjust (adjustment.Forge w key (record { file = file; offset = offset; count = count }))) t e
event_turn k (line.Clear w) t e = goes_if _ (turn.Adjust (adjustment.Clear w)) t e
event_turn k (line.Evict m file) t e = goes_if _ (turn.Adjust (adjustment.Evict m file)) t e
event_turn k (line.Warm m content) t e = turn_is (warms_turn m content) t (warm_taken m content (numbered k.seats m) t e)
event_turn k l t e = refused_line Grammar t e

sized_turn : (long much : Bool) (u t : Turn) → sized long much u ≡ asking t → t ≡ u
sized_turn false false u t e = turn_is u t e
sized_turn _ _ u t e = refused_line _ t e

directory_turn : (spot : Spot) (o : Option ℕ) (t : Turn) → directory_asks o spot.name ≡ asking t → (dir : ℕ) × (t ≡ turn.Dir dir spot.name)
directory_turn spot None t e = refused_line Grammar t e
directory_turn spot (Some dir) t e = (dir, turn_is (turn.Dir dir spot.name) t e)

file_turn : (spot : Spot) (size : ℕ) (content : List Part) (o : Option ℕ) (t : Turn) → file_asks o size spot.name content ≡ asking t → (dir : ℕ) × (t ≡ turn.File dir spot.name content)
file_turn spot size content None t e = refused_line Grammar t e
file_turn spot size content (Some dir) t e = (dir, sized_turn _ _ (turn.File dir spot.name content) t e)

stage_turn : (w : World) (s : Stage) (l : Line) (t : Turn) → asks_at w s l ≡ asking t → (dir : ℕ) × (t ≡ turn_of dir l)
stage_turn w stage.Version (line.Version n) t e = (0, turn_is (turn.Version n) t e)
stage_turn w stage.Term (line.Term n) t e = (0, turn_is (turn.Term n) t e)
stage_turn w stage.Drift (line.Drift d) t e = (0, turn_is (turn.Drift d) t e)
stage_turn w stage.Clients (line.Clients n) t e = (0, turn_is (turn.Clients n) t e)
stage_turn w stage.Files (line.Dir spot) t e = directory_turn spot (place_for w.core.server.tree spot) t e
stage_turn w stage.Files (line.File spot content) t e = file_turn spot w.size content (place_for w.core.server.tree spot) t e
stage_turn w stage.Files l t e = (0, event_turn w.core l t e)
stage_turn w stage.Events l t e = (0, event_turn w.core l t e)
stage_turn w s l t e = refused_line Grammar t e

line_turn : (w : World) (l : Line) (t : Turn) → asks w l ≡ asking t → (dir : ℕ) × (t ≡ turn_of dir l)
line_turn w line.Skipped t e = (0, turn_is turn.Skip t e)
line_turn w l t e = stage_turn w w.stage l t e

pub within : (b : Bool) (r : Result Turn LineFault) (t : Turn) → asks_within b r ≡ asking t → r ≡ asking t
within true r t e = e
within false (Err Grammar) t e = refused_line Grammar t e
within false _ t e = refused_line _ t e

pub asked_turn : (w : World) (n : ℕ) (l : Line) (t : Turn) → asked w n l ≡ Ok t → (dir : ℕ) × (t ≡ turn_of dir l)
asked_turn w n l t e = line_turn w l t (within (nat_le n line_most) (asks w l) t e)
