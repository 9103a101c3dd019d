use Rattle.record_ends.proofs.Going.{out_comes, can_send}
use Rattle.record_ends.proofs.laws.what_is_put_out_is_given.Goals as goal

pub returns : goal.returns
returns c = λ messages fit. out_comes messages (can_send messages fit)
