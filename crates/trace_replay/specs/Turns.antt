-- What a line that is applied makes of the world, or why it is refused.
use Rattle.std.specs.Prelude.{◌≡◌, ℕ, ◌<◌, ◌^◌, Ok, Err, Bool, true, false}
use Rattle.trace_text.specs.declared.line.Line.{Line}
use Rattle.trace_text.specs.declared.line.Line.TheVariants as line
use Rattle.trace_replay.specs.declared.fault.TraceError.{TraceError}
use Rattle.trace_replay.specs.declared.fault.TraceError.TheVariants as errors
use Rattle.trace_replay.specs.declared.stage.Stage.{Stage}
use Rattle.trace_replay.specs.declared.stage.Stage.TheVariants as stage
use Rattle.trace_replay.specs.declared.turn.Turn.{Turn}
use Rattle.trace_replay.specs.declared.turn.Turn.TheVariants as turn
use Rattle.trace_replay.specs.Timed.{Timed, Times, timed_asked, timed_turn}

-- a reading of the server's clock that has at most 63 bits
abbrev pub IsTurnBounded : Turn → Type 0
IsTurnBounded (turn.Up session amount now) = now < 2 ^ 63
IsTurnBounded (turn.Settle now) = now < 2 ^ 63
IsTurnBounded (turn.Pass session rounds server at) = server < 2 ^ 63
IsTurnBounded t = Unit {0}

-- whether a line is a client's command
abbrev pub is_do : Line → Bool
is_do (line.Do c r command) = true
is_do l = false

-- whether a line gives a client the items of a cache file
abbrev pub is_warm : Line → Bool
is_warm (line.Warm c content) = true
is_warm l = false

-- whether a line has a session send bytes that is no client's
abbrev pub is_raw_line : Line → Bool
is_raw_line (line.Raw session bytes) = true
is_raw_line l = false

-- whether a line has bytes of one way delivered
abbrev pub is_delivery : Line → Bool
is_delivery (line.Up session amount server) = true
is_delivery (line.Down session amount r) = true
is_delivery l = false

-- which lines may come after a turn: once an event came, events alone
abbrev pub stage_after : Stage → Turn → Stage
stage_after s turn.Skip = s
stage_after s (turn.Version lbfs) = stage.Term
stage_after s (turn.Term term) = stage.Drift
stage_after s (turn.Drift drift) = stage.Clients
stage_after s (turn.Clients count) = stage.Files
stage_after s (turn.Dir dir name) = s
stage_after s (turn.File dir name content) = s
stage_after s _ = stage.Events

-- a line in place was applied
abbrev pub IsApplied : Timed → ℕ → Line → Timed → Type 0
IsApplied old n l new = (t : Turn × Times) × (timed_asked old n l ≡ Ok t) × (new ≡ timed_turn old t)

-- a line that is refused changed nothing; where memory ran out, nothing is said
abbrev pub IsRefused : TraceError → Timed → ℕ → Line → Timed → Type 0
IsRefused errors.Memory old n l new = Unit {0}
IsRefused (errors.Refused r) old n l new = (r.line ≡ n) × (timed_asked old n l ≡ Err r.fault) × (new ≡ old)
