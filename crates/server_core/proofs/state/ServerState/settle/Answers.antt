use Rattle.std.proofs.Common.{◌≡◌, refl, ℕ, ◌+◌, ◌≤◌, ◌∙◌, List, Option, Some, None, length, ap, sym, subst, arith}
use Rattle.std.specs.List.{AllByRecursion}
use Rattle.callback_core.specs.Waits.{ready, without, without_made}
use Rattle.server_core.specs.Leasing.{ready_at}
use Rattle.server_core.specs.State.{FileChange, entries_held, waiting_size}
use Rattle.server_core.specs.View.{state_of, leasing_of, IsMade}
use Rattle.server_core.proofs.Hangs.{less_others, made_others, taken_entries, taken_place, taken_made}
use Rattle.server_core.proofs.Missing.{settles_all, settles_some, settles_none}
use Rattle.server_core.proofs.lemmas.Ready.{ready_there, ready_is}
use Rattle.server_core.proofs.state.ServerState.settle.Goals as goal

pub make_change-requires-clause-spare : goal.make_change-requires-clause-spare
make_change-requires-clause-spare g c =
    let waits = c.args.self.now.waits.waits in
    let change = c.in-Some.change in
    let at = ready_there c.args.self.now.waits.leases c.max-moment.result waits change (sym c.settle.ensures.ready ∙ c.in-Some.is) in
    let rest = ap entries_held (c.settle.ensures.waits ∙ ap (without_made waits) c.in-Some.is) in
    let less = taken_entries waits at.0 change at.1 in
    omega (arith, c.requires.spare, rest, less)

pub make_change-requires-clause-made : goal.make_change-requires-clause-made
make_change-requires-clause-made g c =
    let waits = c.args.self.now.waits.waits in
    let at = ready_there c.args.self.now.waits.leases c.max-moment.result waits c.in-Some.change (sym c.settle.ensures.ready ∙ c.in-Some.is) in
    taken_made waits at.0 c.in-Some.change c.requires.bounded.made at.1

pub make_change-requires-clause-settling : goal.make_change-requires-clause-settling
make_change-requires-clause-settling g c =
    let waits = c.args.self.now.waits.waits in
    let change = c.in-Some.change in
    let b = c.requires.bounded in
    let at = ready_there c.args.self.now.waits.leases c.max-moment.result waits change (sym c.settle.ensures.ready ∙ c.in-Some.is) in
    let rest = c.settle.ensures.waits ∙ ap (without_made waits) c.in-Some.is in
    record {
      bytes = omega (arith, b.bytes, less_others change.session waits, ap waiting_size rest);
      room = omega (arith, b.room, taken_place waits at.0 change at.1, ap length rest);
      made = subst (λ (l : List FileChange). AllByRecursion IsMade l) (sym rest) (made_others change.session waits b.made);
      early = search arith;
      spare = search arith;
    }

pub returns-clause-exact : goal.returns-clause-exact
returns-clause-exact g c none =
    let s = c.args.self.now in
    let change = c.in-Some.change in
    settles_all (g.S.Store.faults c.args.store.now) (g.S.Store.faults c.make_change.new.store) (state_of s) (state_of c.make_change.new.self) c.args.now c.max-moment.result change c.settle.new.self.waits c.settle.new.self.leases c.make_change.result
    (ap (λ (m : ℕ). ready_at (leasing_of s) m s.waits.waits) (sym c.max-moment.ensures) ∙ ready_is (leasing_of s) c.max-moment.result s.waits.waits refl ∙ sym c.settle.ensures.ready ∙ c.in-Some.is) (c.settle.ensures.waits ∙ ap (without_made s.waits.waits) c.in-Some.is) c.settle.ensures.leases c.max-moment.ensures (c.make_change.ensures.exact none)

pub returns-clause-lacks : goal.returns-clause-lacks
returns-clause-lacks g c some =
    let s = c.args.self.now in
    let change = c.in-Some.change in
    settles_some (state_of s) (state_of c.make_change.new.self) c.args.now c.max-moment.result change c.settle.new.self.waits c.settle.new.self.leases c.make_change.result
    (ap (λ (m : ℕ). ready_at (leasing_of s) m s.waits.waits) (sym c.max-moment.ensures) ∙ ready_is (leasing_of s) c.max-moment.result s.waits.waits refl ∙ sym c.settle.ensures.ready ∙ c.in-Some.is) (c.settle.ensures.waits ∙ ap (without_made s.waits.waits) c.in-Some.is) c.settle.ensures.leases c.max-moment.ensures (c.make_change.ensures.lacks some)
