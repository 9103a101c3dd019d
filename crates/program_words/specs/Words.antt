-- What the words of the program ask for. They are refused where `clap` finds a fault in them, and where a number isn't
-- in its range.
use Rattle.std.specs.Prelude.{ℕ, ◌≤◌, List, [], ◌∷◌, Bool, true, false, Option, Some, None, codes, bytes_eq, unwrap_or, if◌then◌else◌}
use Rattle.clap.specs.Words.{Kinds, Row, Text, fault_of, subcommand_of, first_of}
use Rattle.command_text.specs.Fields.{◌>>=◌, number_within}
use Rattle.limits.specs.declared.TheConstants.{TERM_MOST, DRIFT_MOST, SESSIONS_EVER_MOST}
use Rattle.trace_generator.specs.declared.TheConstants.{BLOCKS_MOST}
use Rattle.program_words.specs.declared.asked.TheConstants.{KEEP, KEEP_MOST, PORT_MOST, SEED_MOST}
use Rattle.program_words.specs.declared.asked.View.{View}
use Rattle.program_words.specs.declared.asked.View.TheVariants.{History, Summary}
use Rattle.program_words.specs.declared.asked.InputCommand.TheVariants as input
use Rattle.program_words.specs.declared.asked.SeedCommand.TheVariants as seeded
use Rattle.program_words.specs.declared.asked.Command.{Command}
use Rattle.program_words.specs.declared.asked.Command.TheVariants.{OfInput, OfSeed}
use Rattle.program_words.specs.declared.asked.Asked.{Asked}
use Rattle.program_words.specs.declared.asked.Asked.TheVariants as asked
use Rattle.program_words.specs.Line.{lbfs}

-- ---- values of options

-- the number that an option was given, where it is in its range
abbrev pub given : (low high : ℕ) → Text → List Row → Option ℕ
given low high name rows = first_of name rows >>= λ word. number_within low high word

-- the same of an option that may be left out: no number then
abbrev pub if_given : (low high : ℕ) → Option Text → Option (Option ℕ)
if_given low high None = Some None
if_given low high (Some word) = number_within low high word >>= λ n. Some (Some n)

abbrev pub is_set : Option Text → Bool
is_set None = false
is_set (Some word) = bytes_eq word (codes "true")

-- ---- commands

abbrev pub view_of : (summary : Bool) → View
view_of true = Summary
view_of false = History

-- a seed and a number of blocks, or neither
abbrev pub replay_with : View → (seed blocks : Option ℕ) → Option Asked
replay_with view None None = Some (asked.Command (OfInput (input.Replay view)))
replay_with view (Some seed) (Some blocks) = Some (asked.Command (OfSeed seed blocks (seeded.Replay view)))
replay_with view seed blocks = None

abbrev pub replay_of : List Row → Option Asked
replay_of rows =
    if_given 0 SEED_MOST (first_of (codes "seed") rows) >>= λ seed.
    if_given 1 BLOCKS_MOST (first_of (codes "blocks") rows) >>= λ blocks.
    replay_with (view_of (is_set (first_of (codes "summary") rows))) seed blocks

abbrev pub gen_of : List Row → Option Asked
gen_of rows =
    given 0 SEED_MOST (codes "seed") rows >>= λ seed.
    given 1 BLOCKS_MOST (codes "blocks") rows >>= λ blocks.
    Some (asked.Command (OfSeed seed blocks seeded.Write))

-- where the store is, and the numbers beside that
abbrev pub serve_with : List Row → (place : List ℕ) → Option Asked
serve_with rows place =
    given 1 PORT_MOST (codes "port") rows >>= λ p.
    given 1 TERM_MOST (codes "term") rows >>= λ t.
    given 1 SESSIONS_EVER_MOST (codes "sessions") rows >>= λ n.
    Some (asked.Serve (record { port = p; term = t; sessions = n; store = place; unsynced = is_set (first_of (codes "unsynced") rows) }))

abbrev pub serve_of : List Row → Option Asked
serve_of rows = first_of (codes "store") rows >>= λ place. serve_with rows place

abbrev pub mount_of : List Row → Option Asked
mount_of rows =
    given 1 PORT_MOST (codes "port") rows >>= λ p.
    given 0 DRIFT_MOST (codes "drift") rows >>= λ e.
    if_given 0 KEEP_MOST (first_of (codes "keep") rows) >>= λ k.
    Some (asked.Mount (record { port = p; drift = e; cache = first_of (codes "cache") rows; keep = unwrap_or k KEEP }))

abbrev pub check_of : List Row → Option Asked
check_of rows = first_of (codes "store") rows >>= λ place. Some (asked.Check (record { store = place }))

-- what the command of this name asks for, by what its options were given
abbrev pub named_of : Text → List Row → Option Asked
named_of name rows =
    if bytes_eq name (codes "replay") then replay_of rows
    else if bytes_eq name (codes "gen") then gen_of rows
    else if bytes_eq name (codes "cut") then Some (asked.Command (OfInput input.Cut))
    else if bytes_eq name (codes "show") then Some (asked.Command (OfInput input.Show))
    else if bytes_eq name (codes "serve") then serve_of rows
    else if bytes_eq name (codes "mount") then mount_of rows
    else if bytes_eq name (codes "check") then check_of rows
    else None

abbrev pub entered_of : Option (Text × List Row) → Option Asked
entered_of None = None
entered_of (Some c) = named_of c.0 c.1

-- where there is no fault
abbrev pub unless_fault : Kinds → Option Asked → Option Asked
unless_fault [] asked = asked
unless_fault (k ∷ ks) asked = None

-- what the words, which are those behind the program's name, ask for
unfoldable pub asked_of : List Text → Option Asked
asked_of words = unless_fault (fault_of lbfs words) (entered_of (subcommand_of lbfs words))

-- ---- those that need nothing but the input and the output

abbrev pub command_in : Option Asked → Option Command
command_in (Some (asked.Command c)) = Some c
command_in _ = None

-- the command of `replay`, `gen`, `cut` and `show`
abbrev pub command_of : List Text → Option Command
command_of words = command_in (asked_of words)

-- whether all of the input is read, before anything is done
abbrev pub reads : Option Command → Bool
reads (Some (OfInput c)) = true
reads _ = false

-- a trace that is made has at most so many blocks
abbrev pub IsFew : Option Command → Type 0
IsFew (Some (OfSeed seed blocks c)) = blocks ≤ BLOCKS_MOST
IsFew _ = Unit {0}

-- whether nothing but the input and the output is touched: so also where the words ask for nothing
abbrev pub is_alone : Option Asked → Bool
is_alone None = true
is_alone (Some (asked.Command c)) = true
is_alone _ = false
