-- The command line of `shell` and `share` as `clap` is told it.
use Rattle.std.specs.Prelude.{true, Some, codes}
use Rattle.clap.specs.Words.{App, Rule, Text, new_app, new_rule, with_rule, with_subcommand}
use Rattle.clap.specs.declared.builder.action.ArgAction.TheVariants.{Append}
use Rattle.program_words.specs.Line.{optional, required, flag, placed, named}

-- all words that are left, whatever they begin with
abbrev pub rest : Text → Rule
rest name = record (new_rule name) { action = Some Append; trailing_var_arg = true }

abbrev pub shell : App
shell = with_rule (with_rule (with_rule (with_rule (with_rule (new_app (codes "shell")) (required (codes "port"))) (optional (codes "links"))) (optional (codes "cache"))) (flag (codes "quiet"))) (rest (codes "command"))

abbrev pub share : App
share = with_rule (with_rule (with_rule (with_rule (new_app (codes "share")) (placed (codes "dir"))) (optional (codes "port"))) (optional (codes "term"))) (flag (codes "unsynced"))

abbrev pub with_fronts : App → App
with_fronts a = with_subcommand (with_subcommand a shell.top) share.top

-- the commands for people
unfoldable pub front : App
front = with_fronts named
