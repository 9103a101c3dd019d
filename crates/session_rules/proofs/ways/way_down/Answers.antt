use Rattle.std.proofs.Common.{rules}
use Rattle.std.proofs.lemmas.Option.{gets}
use Rattle.session_rules.proofs.ways.way_down.Goals as goal

pub returns : goal.returns
returns c = search (rules, gets)
