-- What `clap` is told of a table of commands: `lbfs` and `front` are what it comes to for the two of the program.
use Rattle.std.specs.Prelude.{List, [], ◌∷◌, map, Some, None, if◌then◌else◌}
use Rattle.std.specs.Borrow.{Bor}
use Rattle.clap.specs.Words.{App, Rule, Text, new_app, new_rule, with_rule, with_subcommand}
use Rattle.program_words.specs.declared.line.Kind.{Kind}
use Rattle.program_words.specs.declared.line.Line.{Line}
use Rattle.program_words.specs.Line.{named}

abbrev pub rule : Kind → Text → Rule
rule k name = record (new_rule name) { long = if k.is_option then Some name else None; required = k.required; action = Some k.action; trailing_var_arg = k.rest }

abbrev pub rules_in : List (Bor Text × Kind) → List Rule
rules_in args = map (λ a. rule a.1 a.0.now) args

abbrev pub with_rules : App → List Rule → App
with_rules a [] = a
with_rules a (r ∷ rs) = with_rules (with_rule a r) rs

unfoldable pub command : Line → App
command l = with_rules (new_app l.name.now) (rules_in l.args.now)

abbrev pub with_commands : App → List Line → App
with_commands a [] = a
with_commands a (l ∷ ls) = with_commands (with_subcommand a (command l).top) ls

abbrev pub program : List Line → App
program ls = with_commands named ls
