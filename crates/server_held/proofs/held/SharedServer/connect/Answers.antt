use Rattle.std.proofs.Common.{[], refl, sym, ap}
use Rattle.slab.specs.Slab.{Slab}
use Rattle.wire.specs.declared.message.Message.{Message}
use Rattle.server_held.specs.Held.{joined_as}
use Rattle.server_held.specs.Kept.{KeptState}
use Rattle.server_held.specs.declared.boxes.Outbox.{Outbox}
use Rattle.server_held.specs.declared.held.SharedServer.{SharedServer}
use Rattle.server_held.specs.declared.held.Went.TheVariants as went
use Rattle.server_held.proofs.Joining.{joined, joined_lost, unjoined, wanting}
use Rattle.server_held.proofs.held.SharedServer.connect.Goals as goal

-- behind the step, and behind the box
abbrev after : {S : Type 0} → KeptState S → Slab (Outbox Message) → SharedServer S
after kept boxes = record { kept = kept; boxes = boxes }

pub returns-in-Ok : goal.returns-in-Ok
returns-in-Ok g c = joined g.S.Store.records g.S.Store.faults c.args.self.now (after c.step-step.new.self c.args.self.now.boxes) c.in-Session.session (after c.step-step.new.self c.open.new.self) c.step-step.result c.step-step.ensures.stepped c.step-step.ensures.store c.in-Session.is refl refl c.in-Ok.ensures.opened c.in-Ok.ensures.others

pub returns-in-Err : goal.returns-in-Err
returns-in-Err g c = joined_lost g.S.Store.records g.S.Store.faults c.args.self.now (after c.step-step.new.self c.args.self.now.boxes) (after c.step-step.new.self c.open.new.self) c.in-Session.session c.hang.new.self c.step-step.result c.step-step.ensures.stepped c.step-step.ensures.store c.in-Session.is refl refl c.in-Err.ensures.others c.hang.ensures

pub returns-in-Full : goal.returns-in-Full
returns-in-Full g c = unjoined g.S.Store.records g.S.Store.faults c.args.self.now went.Full _ c.step-step.result c.step-step.ensures.stepped c.step-step.ensures.store refl (sym (ap (λ t. joined_as t []) c.in-Full.is)) (λ session is. cc) (λ is. c.in-Full.is)

pub returns-in-Nothing : goal.returns-in-Nothing
returns-in-Nothing g c = unjoined g.S.Store.records g.S.Store.faults c.args.self.now went.Memory _ c.step-step.result c.step-step.ensures.stepped c.step-step.ensures.store refl (wanting c.step-step.result.told c.in-Nothing.is) (λ session is. cc) (λ is. absurd (cc))
