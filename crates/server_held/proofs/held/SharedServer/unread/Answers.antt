use Rattle.std.proofs.Common.{refl, sym, subst}
use Rattle.server_held.specs.declared.held.Went.TheVariants as went
use Rattle.server_held.specs.Held.{Unheard, Unread}
use Rattle.server_held.proofs.Hearing.{unheard_hung}
use Rattle.server_held.proofs.held.SharedServer.unread.Goals as goal

pub returns-in-UnknownXid : goal.returns-in-UnknownXid
returns-in-UnknownXid g c = subst (λ e. Unread g.S.Store.records g.S.Store.faults c.args.self.now c.args.session e c.unawaited.result c.unawaited.new.self) (sym c.in-Fault.is) (subst (λ f. Unheard g.S.Store.records g.S.Store.faults c.args.self.now c.args.session f c.unawaited.result c.unawaited.new.self) (sym c.in-UnknownXid.is) c.unawaited.ensures)

pub returns-in-NotRpc : goal.returns-in-NotRpc
returns-in-NotRpc g c = subst (λ e. Unread g.S.Store.records g.S.Store.faults c.args.self.now c.args.session e went.Closed c.hang.new.self) (sym c.in-Fault.is) (unheard_hung g.S.Store.records g.S.Store.faults c.args.self.now c.args.session c.in-Fault.fault c.hang.new.self c.in-NotRpc.is c.hang.ensures)

pub returns-in-Memory : goal.returns-in-Memory
returns-in-Memory g c = subst (λ e. Unread g.S.Store.records g.S.Store.faults c.args.self.now c.args.session e went.Memory c.hang-in-Memory.new.self) (sym c.in-Memory.is) (c.hang-in-Memory.ensures, refl)
