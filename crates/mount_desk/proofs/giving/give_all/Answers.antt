use Rattle.std.proofs.Common.{List, subst}
use Rattle.std.specs.Prelude.{OnOk, OnErr}
use Rattle.std.specs.Io.KnownBytes.{Appends}
use Rattle.lb_base.specs.Known.{AppendsPrefix}
use Rattle.record_ends.specs.Ends.{out_bytes}
use Rattle.wire.specs.declared.message.Message.{Message}
use Rattle.mount_desk.proofs.giving.give_all.Goals as goal

pub returns-clause-ok : goal.returns-clause-ok
returns-clause-ok g c = subst (λ (ms : List Message). OnOk c.put_out.result (Appends (g.L.Link.held c.args.link.now) (g.L.Link.held c.put_out.new.link) (out_bytes ms))) c.as_slice.ensures c.put_out.ensures.ok

pub returns-clause-err : goal.returns-clause-err
returns-clause-err g c = subst (λ (ms : List Message). OnErr c.put_out.result (AppendsPrefix (g.L.Link.held c.args.link.now) (g.L.Link.held c.put_out.new.link) (out_bytes ms))) c.as_slice.ensures c.put_out.ensures.err
