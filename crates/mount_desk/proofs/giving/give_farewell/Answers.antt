use Rattle.std.proofs.Common.{List, ◌∙◌, ap, ◌∷◌, [], ◌++◌}
use Rattle.wire.specs.declared.message.Message.{Message}
use Rattle.mount_desk.proofs.Outlets.{farewell_ends, part_none}
use Rattle.mount_desk.proofs.giving.give_farewell.Goals as goal

pub returns-in-Ok : goal.returns-in-Ok
returns-in-Ok g c = farewell_ends g.L.Link.held g.L.Link.faults c.args.link.now c.give_waits.new.link c.args.waits.now c.append.new.all c.give_waits.result
    (c.in-Ok.ensures ∙ ap (λ (ms : List Message). c.args.waits.now ++ ms) (c.one.ensures ∙ ap (λ (m : Message). m ∷ []) c.farewell.ensures))
    c.give_waits.ensures.ok c.give_waits.ensures.part c.give_waits.ensures.only c.give_waits.ensures.fault

pub returns-in-Err : goal.returns-in-Err
returns-in-Err g c = part_none g.L.Link.held c.args.link.now _
