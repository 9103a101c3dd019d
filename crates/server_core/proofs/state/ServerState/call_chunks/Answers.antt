use Rattle.std.proofs.Common.{◌∙◌, ap, List}
use Rattle.lease_rules.specs.declared.lease.Lease.{Lease}
use Rattle.server_core.specs.Leasing.{with_granted_on}
use Rattle.server_core.specs.View.{state_of}
use Rattle.server_core.proofs.Delegated.{called_is, called_lacks}
use Rattle.server_core.proofs.state.ServerState.call_chunks.Goals as goal

pub returns-clause-ok : goal.returns-clause-ok
returns-clause-ok c none =
    let s = state_of c.args.self.now in
    let file = c.leased_file-file.result in
    let term = c.term_on-term.result in
    called_is s c.args.session c.args.xid c.args.call.now file term c.leased_file-file.ensures c.term_on-term.ensures c.requires.other
    c.call.new.temps c.call.new.index c.grant_on.new.waits.waits c.grant_on.new.waits.leases c.in_ok-outcome.outcome.answer c.in_ok-outcome.outcome.left_out c.answer_if-step.result
    (c.grant_on.ensures.waits ∙ c.reserve.ensures.waits) (c.grant_on.ensures.leases ∙ ap (λ (l : List Lease). with_granted_on l s.leasing.moment c.args.session file term) c.reserve.ensures.leases) c.answer_if-step.ensures
    c.in_ok-outcome.ensures.ok none

pub returns-clause-lacks : goal.returns-clause-lacks
returns-clause-lacks c some =
    let s = state_of c.args.self.now in
    let file = c.leased_file-file.result in
    let term = c.term_on-term.result in
    called_lacks s c.args.session c.args.xid c.args.call.now file term c.leased_file-file.ensures c.term_on-term.ensures c.requires.other
    c.call.new.temps c.call.new.index c.grant_on.new.waits.waits c.grant_on.new.waits.leases c.in_ok-outcome.outcome.answer c.in_ok-outcome.outcome.left_out c.answer_if-step.result
    (c.grant_on.ensures.waits ∙ c.reserve.ensures.waits) (c.grant_on.ensures.leases ∙ ap (λ (l : List Lease). with_granted_on l s.leasing.moment c.args.session file term) c.reserve.ensures.leases) c.answer_if-step.ensures
    c.in_ok-outcome.ensures.lacks some
