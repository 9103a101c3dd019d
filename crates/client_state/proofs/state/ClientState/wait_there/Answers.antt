use Rattle.std.proofs.Common.{sym, ap, subst, ◌∙◌}
use Rattle.std.specs.Prelude.{Some}
use Rattle.std.specs.List.{All}
use Rattle.client_cache.specs.Cache.{Entries}
use Rattle.client_state.specs.Noting.{asks_lease}
use Rattle.client_state.specs.State.{State}
use Rattle.client_state.specs.View.{state_of, IsKeptBounded}
use Rattle.client_state.proofs.lemmas.Keeping.{bounded_reserved, entry_there}
use Rattle.client_state.proofs.lemmas.Pending.{held_cache}
use Rattle.client_state.proofs.state.ClientState.wait_there.Goals as goal

pub set_waiting-requires-clause-held : goal.set_waiting-requires-clause-held
set_waiting-requires-clause-held c =
    let s = c.args.self.now in
    held_cache s c.reserve.new.self c.requires.held (subst (λ (es : Entries). All IsKeptBounded es) (sym c.in-Ok-reserve.ensures.ok) (bounded_reserved s.cache c.args.file c.requires.held.base.kept))

pub set_waiting-requires-clause-there : goal.set_waiting-requires-clause-there
set_waiting-requires-clause-there c = entry_there c.reserve.new.self c.args.file c.args.stage c.in-Ok-reserve.ensures.there

pub returns-in-Ok-reserve-clause-ok : goal.returns-in-Ok-reserve-clause-ok
returns-in-Ok-reserve-clause-ok c =
    let s = state_of c.args.self.now in
    c.mark_sent.ensures.rest
    ∙ (ap (λ (t : State). asks_lease t) c.set_waiting.ensures.rest
    ∙ ap (λ (es : Entries). record s { next_xid = c.args.next_xid; task = Some (record { file = c.args.file; stage = c.args.stage }); cache = es; sent = s.clock }) c.in-Ok-reserve.ensures.ok)
