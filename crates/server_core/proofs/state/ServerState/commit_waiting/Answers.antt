use Rattle.std.proofs.Common.{sym, subst, true, List}
use Rattle.server_core.specs.Closing.{makes_change}
use Rattle.server_core.specs.State.{State, FileChange, change_of}
use Rattle.server_core.specs.Step.{Lacks, change_entered}
use Rattle.server_core.specs.View.{state_of}
use Rattle.server_core.specs.declared.change.Wanted.TheVariants as wanted
use Rattle.server_core.proofs.Missing.{committed_state, committed_some}
use Rattle.server_core.proofs.state.ServerState.commit_waiting.Goals as goal

pub returns-clause-lacks : goal.returns-clause-lacks
returns-clause-lacks g c some =
    let s : State = state_of c.args.self.now in
    let change : FileChange = change_of c.args.session c.args.xid c.args.file (wanted.Content c.args.content) in
    let tree = c.give_content-left_out.new.tree.tree in
    let journal = c.enter_both-entries.new.journal.items in
    let index = c.give_content-left_out.new.index in
    let leases = c.grant_done.new.waits.leases in
    let step = c.tell_change-step.result in
    let left = c.give_content-left_out.result.1 in
    subst (λ (l : List FileChange). Lacks s.index (change_entered s change (wanted.Content c.args.content)) (makes_change s change (wanted.Content c.args.content)) (record (committed_state s tree journal index leases) { waiting = l }) (record step { missed = left }))
    (sym c.grant_done.ensures.waits)
    (committed_some (g.S.Store.faults c.args.store.now) (g.S.Store.faults c.give_content-left_out.new.store) s change c.args.content c.held-held.result c.term_on-term.result tree c.give_content-left_out.result.0 journal index leases c.enter_both-entries.result left step
    c.held-held.ensures c.term_on-term.ensures c.give_content-left_out.ensures.done c.enter_both-entries.ensures.items (c.give_content-left_out.ensures.lacks some) c.grant_done.ensures.leases c.enter_both-entries.ensures.count c.tell_change-step.ensures some)
