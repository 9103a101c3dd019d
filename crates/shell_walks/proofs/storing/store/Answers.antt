use Rattle.std.proofs.Common.{List, subst}
use Rattle.command_text.specs.declared.content.Part.{Part}
use Rattle.shell_walks.specs.Storing.{Replaces}
use Rattle.shell_walks.proofs.storing.store.Goals as goal

pub returns-clause-stores : goal.returns-clause-stores
returns-clause-stores g c = record {
  between = c.replace-answer.new.remote;
  replaces = subst (λ (x : List Part). Replaces g.R.Remote.asks c.args.remote.now c.args.file x c.replace-answer.result c.replace-answer.new.remote) c.in-Ok.ensures c.replace-answer.ensures;
  abandons = c.abandon_unstored.ensures;
}
