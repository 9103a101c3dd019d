-- The command line as `clap` is told it: the commands, and what belongs to each.
use Rattle.std.specs.Prelude.{true, Some, codes}
use Rattle.clap.specs.Words.{App, Rule, Text, new_app, new_rule, with_rule, with_subcommand}
use Rattle.clap.specs.declared.builder.action.ArgAction.TheVariants.{Set, SetTrue}

-- an option with one value, which may be left out
abbrev pub optional : Text → Rule
optional name = record (new_rule name) { long = Some name; action = Some Set }

-- an option with one value, which is wanted
abbrev pub required : Text → Rule
required name = record (optional name) { required = true }

-- a flag
abbrev pub flag : Text → Rule
flag name = record (new_rule name) { long = Some name; action = Some SetTrue }

-- a word in its place, which is wanted
abbrev pub placed : Text → Rule
placed name = record (new_rule name) { required = true; action = Some Set }

abbrev pub replay : App
replay = with_rule (with_rule (with_rule (new_app (codes "replay")) (flag (codes "summary"))) (optional (codes "seed"))) (optional (codes "blocks"))

abbrev pub gen : App
gen = with_rule (with_rule (new_app (codes "gen")) (placed (codes "seed"))) (placed (codes "blocks"))

abbrev pub serve : App
serve = with_rule (with_rule (with_rule (with_rule (with_rule (new_app (codes "serve")) (required (codes "port"))) (required (codes "term"))) (required (codes "sessions"))) (required (codes "store"))) (flag (codes "unsynced"))

abbrev pub mount : App
mount = with_rule (with_rule (with_rule (with_rule (new_app (codes "mount")) (required (codes "port"))) (required (codes "drift"))) (optional (codes "cache"))) (optional (codes "keep"))

abbrev pub check : App
check = with_rule (new_app (codes "check")) (required (codes "store"))

-- the words are those behind the program's name, and a command stands among them
abbrev pub named : App
named = record (new_app (codes "lbfs")) { top = record (new_app (codes "lbfs")).top { no_binary_name = true; subcommand_required = true } }

abbrev pub with_commands : App → App
with_commands a = with_subcommand (with_subcommand (with_subcommand (with_subcommand (with_subcommand (with_subcommand (with_subcommand a replay.top) gen.top) (new_app (codes "cut")).top) (new_app (codes "show")).top) serve.top) mount.top) check.top

-- all commands of the program
unfoldable pub lbfs : App
lbfs = with_commands named
