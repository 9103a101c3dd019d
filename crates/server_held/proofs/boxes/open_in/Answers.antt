use Rattle.server_held.proofs.Keys.{keeps_more}
use Rattle.server_held.proofs.boxes.open_in.Goals as goal

pub returns-clause-others : goal.returns-clause-others
returns-clause-others g c = keeps_more c.args.boxes.now c.close_in.new.boxes c.open_new.new.boxes c.args.session c.close_in.ensures.others c.open_new.ensures.others
