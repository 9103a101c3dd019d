use Rattle.std.specs.Prelude.{false}
use Rattle.std.proofs.Common.{subst}
use Rattle.record_ends.specs.Ends.{out_bytes}
use Rattle.lbfs_server.specs.Given.{Given}
use Rattle.lbfs_server.proofs.Giving.{given_whole}
use Rattle.lbfs_server.proofs.session.give.Goals as goal

pub returns-in-Ok-clause-given : goal.returns-in-Ok-clause-given
returns-in-Ok-clause-given g c = subst (λ messages. Given c.stands.result (g.L.Link.held c.args.link.now) (g.L.Link.held c.put_out.new.link) (out_bytes messages)) c.messages.ensures (given_whole c.stands.result _ _ _ c.in-Ok.ensures.ok)

pub returns-in-Err-clause-given : goal.returns-in-Err-clause-given
returns-in-Err-clause-given g c = subst (λ messages. Given false (g.L.Link.held c.args.link.now) (g.L.Link.held c.put_out.new.link) (out_bytes messages)) c.messages.ensures c.in-Err.ensures.err
