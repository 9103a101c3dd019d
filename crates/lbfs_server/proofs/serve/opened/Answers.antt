use Rattle.std.proofs.Common.{◌∙◌, ap}
use Rattle.server_core.specs.State.{State}
use Rattle.lbfs_server.proofs.Serving.{is_opened}
use Rattle.lbfs_server.proofs.serve.opened.Goals as goal

pub returns-in-Ok-with_tree-clause-opened : goal.returns-in-Ok-with_tree-clause-opened
returns-in-Ok-with_tree-clause-opened g c = is_opened c.args.term _ _ c.learn_all.new.server c.in-Ok-load.ensures.stored (c.learn_all.ensures ∙ ap (λ (s : State). record s { index = c.learn_all.new.server.index }) (c.bound_temps.ensures ∙ c.in-Ok-with_tree.ensures))
