use Rattle.std.proofs.Common.{ap, ◌∙◌}
use Rattle.client_state.specs.Noting.{unnoted}
use Rattle.client_state.specs.State.{State}
use Rattle.file_close.proofs.closing.wait_commit.Goals as goal

pub returns-clause-ok : goal.returns-clause-ok
returns-clause-ok c = c.drop_note.ensures.rest ∙ ap (λ (t : State). unnoted t c.args.file) c.in_ok-wait_there.ensures.ok
