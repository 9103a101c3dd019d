use Rattle.std.proofs.Common.{refl, sym, subst}
use Rattle.server_core.specs.Step.{IsTimed}
use Rattle.server_held.specs.declared.held.Went.TheVariants as went
use Rattle.server_held.specs.Held.{After}
use Rattle.server_held.proofs.Growing.{after_grows}
use Rattle.server_held.proofs.held.SharedServerTurns.event.Goals as goal

pub take_message-requires : goal.take_message-requires
take_message-requires g c = subst IsTimed c.in-Got.is c.requires

pub settle-requires : goal.settle-requires
settle-requires g c = subst IsTimed c.in-Settle.is c.requires

pub returns-in-Connect : goal.returns-in-Connect
returns-in-Connect g c =
    let after = subst (λ e. After g.S.Store.records g.S.Store.faults c.args.self.now e c.connect.result c.connect.new.self) (sym c.in-Connect.is) c.connect.ensures in
    record { after = after; grows = after_grows g.S.Store.records g.S.Store.faults c.args.self.now c.args.event c.connect.result c.connect.new.self after }

pub returns-in-Got : goal.returns-in-Got
returns-in-Got g c =
    let after = subst (λ e. After g.S.Store.records g.S.Store.faults c.args.self.now e c.take_message.result c.take_message.new.self) (sym c.in-Got.is) c.take_message.ensures in
    record { after = after; grows = after_grows g.S.Store.records g.S.Store.faults c.args.self.now c.args.event c.take_message.result c.take_message.new.self after }

pub returns-in-Settle : goal.returns-in-Settle
returns-in-Settle g c =
    let after = subst (λ e. After g.S.Store.records g.S.Store.faults c.args.self.now e c.settle.result c.settle.new.self) (sym c.in-Settle.is) c.settle.ensures in
    record { after = after; grows = after_grows g.S.Store.records g.S.Store.faults c.args.self.now c.args.event c.settle.result c.settle.new.self after }

pub returns-in-Hang : goal.returns-in-Hang
returns-in-Hang g c =
    let after = subst (λ e. After g.S.Store.records g.S.Store.faults c.args.self.now e went.Closed c.hang.new.self) (sym c.in-Hang.is) (c.hang.ensures, refl) in
    record { after = after; grows = after_grows g.S.Store.records g.S.Store.faults c.args.self.now c.args.event went.Closed c.hang.new.self after }
