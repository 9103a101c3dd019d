-- What a whole trace says of the clocks, and that it keeps the clock rule.
use Rattle.std.specs.Prelude.{◌≡◌, ℕ, List, [], ◌∷◌, ◌++◌, map, Option, Some, None, codes, refl}
use Rattle.clock_rule.specs.Keeping.{servers, events, NeverFall, KeepsRule}
use Rattle.clock_rule.specs.declared.rule.Reading.{Reading}
use Rattle.clock_rule.specs.declared.rule.Reading.TheVariants as reads
use Rattle.command_text.specs.Parts.{lines_of}
use Rattle.trace_text.specs.Grammar.{line_of}
use Rattle.trace_text.specs.declared.line.Line.{Line}
use Rattle.trace_text.specs.declared.line.Line.TheVariants as line
use Rattle.trace_replay.specs.declared.timing.Timing.{Timing}
use Rattle.trace_replay.specs.declared.timing.Timing.TheVariants as timing
use Rattle.trace_replay.specs.Timed.{timing_of}

-- what is said, as a list, which is empty where that is nothing
abbrev pub said : Timing → List Timing
said timing.Nothing = []
said t = t ∷ []

-- what a line says of the clocks, if anything
abbrev pub said_by : (owners : List ℕ) → Option Line → List Timing
said_by owners None = []
said_by owners (Some l) = said (timing_of owners l)

-- the owners of sessions, with that of the session that a line makes: 0, which is no client, of one that has none
abbrev pub owners_by : (owners : List ℕ) → Option Line → List ℕ
owners_by owners (Some (line.Join c r s)) = owners ++ c ∷ []
owners_by owners (Some (line.RawJoin s)) = owners ++ 0 ∷ []
owners_by owners _ = owners

-- what lines say of the clocks, in order, where these are the owners of the sessions that were made before
abbrev pub timings_from : (owners : List ℕ) → List (List ℕ) → List Timing
timings_from owners [] = []
timings_from owners (l ∷ ls) = said_by owners (line_of l) ++ timings_from (owners_by owners (line_of l)) ls

abbrev pub timings_of : List (List ℕ) → List Timing
timings_of ls = timings_from [] ls

-- What a trace says of the clocks is a term, then a drift, and then readings. Among these the server's never fall, and any two
-- events keep the clock rule with that term and that drift, each event with the server's last reading at it.
pub record KeepsClocks (input : List ℕ) : Type 0 where
  pub term : ℕ
  pub drift : ℕ
  pub readings : List Reading
  pub says : timings_of (lines_of input) ≡ timing.Term term ∷ timing.Drift drift ∷ map timing.Reads readings
  pub server : NeverFall (servers readings)
  pub rule : KeepsRule term drift (events 0 readings)

-- what a small trace says of the clocks: a session's lines are events of its owner's clock
pub small_trace : timings_of (lines_of (codes "# a trace\nlbfs-trace 1\nterm 60000\ndrift 100\nclients 2\nfile a t:abc\njoin 2 5 7\njoin 1 5 7\n\ndo 1 6 open #2\nup 1 all 8\ndown 1 all 9\nhang 1 10\ncut 1 11\nsettle 12\npass 2 2 13 14\n"))
    ≡ timing.Term 60000 ∷ timing.Drift 100
    ∷ map timing.Reads (reads.Both 7 2 5 ∷ reads.Both 7 1 5 ∷ reads.Client 1 6 ∷ reads.Server 8 ∷ reads.Client 2 9 ∷ reads.Server 10 ∷ reads.Client 1 11 ∷ reads.Server 12 ∷ reads.Both 13 1 14 ∷ [])
small_trace = refl
