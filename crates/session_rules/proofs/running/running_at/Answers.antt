use Rattle.std.proofs.Common.{rules}
use Rattle.std.proofs.lemmas.Option.{gets}
use Rattle.session_rules.proofs.running.running_at.Goals as goal

pub returns : goal.returns
returns g c = search (rules, gets)
