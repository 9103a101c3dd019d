-- What the words `shell` and `share` ask for. They are refused where `clap` finds a fault in them, and where a number isn't in its range.
use Rattle.std.specs.Prelude.{ℕ, Bool, true, false, List, [], ◌∷◌, ◌++◌, Option, Some, None, codes, decimal, bytes_eq, if◌then◌else◌}
use Rattle.clap.specs.Words.{Kinds, Row, Text, fault_of, subcommand_of, all_of, first_of}
use Rattle.command_text.specs.Fields.{◌>>=◌, number_within}
use Rattle.limits.specs.declared.TheConstants.{TERM_MOST, SESSIONS_EVER_MOST}
use Rattle.program_words.specs.declared.asked.TheConstants.{PORT_MOST}
use Rattle.program_words.specs.declared.front.TheConstants.{PORT, TERM, LINKS, LINKS_MOST}
use Rattle.program_words.specs.declared.front.Front.{Front}
use Rattle.program_words.specs.declared.front.Front.TheVariants as front
use Rattle.program_words.specs.declared.front.ShareOptions.{ShareOptions}
use Rattle.program_words.specs.FrontLine.{front as line}
use Rattle.program_words.specs.Words.{given, is_set}

-- ---- values of options

-- the number of an option that may be left out
abbrev pub number_or : (low high plain : ℕ) → Option Text → Option ℕ
number_or low high plain None = Some plain
number_or low high plain (Some word) = number_within low high word

abbrev pub given_or : (low high plain : ℕ) → Text → List Row → Option ℕ
given_or low high plain name rows = number_or low high plain (first_of name rows)

-- all words that an argument was given
abbrev pub values_in : Option (List Text) → List Text
values_in None = []
values_in (Some texts) = texts

abbrev pub values_of : Text → List Row → List Text
values_of name rows = values_in (all_of name rows)

-- ---- commands

abbrev pub shell_of : List Row → Option Front
shell_of rows =
    given 1 PORT_MOST (codes "port") rows >>= λ p.
    given_or 1 LINKS_MOST LINKS (codes "links") rows >>= λ n.
    Some (front.Shell (record { port = p; links = n; cache = first_of (codes "cache") rows; quiet = is_set (first_of (codes "quiet") rows); command = values_of (codes "command") rows }))

abbrev pub share_of : List Row → Option Front
share_of rows =
    first_of (codes "dir") rows >>= λ place.
    given_or 1 PORT_MOST PORT (codes "port") rows >>= λ p.
    given_or 1 TERM_MOST TERM (codes "term") rows >>= λ t.
    Some (front.Share (record { store = place; port = p; term = t; unsynced = is_set (first_of (codes "unsynced") rows) }))

abbrev pub front_named_of : Text → List Row → Option Front
front_named_of name rows =
    if bytes_eq name (codes "shell") then shell_of rows
    else if bytes_eq name (codes "share") then share_of rows
    else None

abbrev pub front_entered_of : Option (Text × List Row) → Option Front
front_entered_of None = None
front_entered_of (Some c) = front_named_of c.0 c.1

abbrev pub front_unless : Kinds → Option Front → Option Front
front_unless [] f = f
front_unless (k ∷ ks) f = None

-- what the words, which are those behind the program's name, ask for
unfoldable pub front_of : List Text → Option Front
front_of words = front_unless (fault_of line words) (front_entered_of (subcommand_of line words))

-- ---- `share` is `serve` under other words, with as many sessions as there may ever be

abbrev pub unsynced_words : Bool → List Text
unsynced_words true = codes "--unsynced" ∷ []
unsynced_words false = []

abbrev pub share_words : ShareOptions → List Text
share_words o =
    codes "serve" ∷ (codes "--port=" ++ decimal o.port) ∷ (codes "--term=" ++ decimal o.term)
    ∷ (codes "--sessions=" ++ decimal SESSIONS_EVER_MOST) ∷ (codes "--store=" ++ o.store) ∷ unsynced_words o.unsynced
