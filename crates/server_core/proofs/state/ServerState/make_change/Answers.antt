use Rattle.std.proofs.Common.{sym, subst}
use Rattle.server_core.specs.declared.change.Wanted.{Wanted}
use Rattle.server_core.specs.Closing.{makes_change_under}
use Rattle.server_core.specs.State.{change_of}
use Rattle.server_core.specs.Served.{IsServed}
use Rattle.server_core.specs.View.{state_of}
use Rattle.server_core.proofs.state.ServerState.make_change.Goals as goal

pub returns-in-Asked-clause-exact : goal.returns-in-Asked-clause-exact
returns-in-Asked-clause-exact g c none =
    let change = c.args.change in
    subst (λ (w : Wanted). IsServed (g.S.Store.faults c.args.store.now) (g.S.Store.faults c.settle_asked.new.store) (λ fault. makes_change_under (state_of c.args.self.now) fault (change_of change.session change.xid change.file w) w) (state_of c.settle_asked.new.self, c.settle_asked.result))
    (sym c.in-Asked.is) (c.settle_asked.ensures.exact change.file)
