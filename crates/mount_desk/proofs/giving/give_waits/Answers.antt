use Rattle.std.proofs.Common.{List, subst}
use Rattle.std.specs.Prelude.{OnOk, OnErr}
use Rattle.wire.specs.declared.message.Message.{Message}
use Rattle.mount_desk.specs.Outlet.{Fails, Gives, GivesPart}
use Rattle.mount_desk.proofs.giving.give_waits.Goals as goal

pub returns-clause-ok : goal.returns-clause-ok
returns-clause-ok g c = subst (λ (ms : List Message). OnOk c.give_on-given.result (Gives g.L.Link.held c.args.link.now c.give_on-given.new.link ms)) c.replace-all.ensures.value c.give_on-given.ensures.ok

pub returns-clause-part : goal.returns-clause-part
returns-clause-part g c = subst (λ (ms : List Message). OnErr c.give_on-given.result (GivesPart g.L.Link.held c.args.link.now c.give_on-given.new.link ms)) c.replace-all.ensures.value c.give_on-given.ensures.part

pub returns-clause-fault : goal.returns-clause-fault
returns-clause-fault g c = λ failed. subst (λ (ms : List Message). Fails g.L.Link.held g.L.Link.faults c.args.link.now c.give_on-given.new.link ms) c.replace-all.ensures.value (c.give_on-given.ensures.fault failed)
