use Rattle.std.proofs.Common.{inl, inr}
use Rattle.lbfs_run.proofs.Headline.{replayed, generated, unrefused, unrefused_read}
use Rattle.lbfs_run.proofs.plain.run.Goals as goal

pub returns-clause-replayed : goal.returns-clause-replayed
returns-clause-replayed g c = λ view asks done trace told.
    replayed c.args.command _ _ _ _ view trace c.promise_is_kept.ensures (c.run_on.ensures.answered (inl done)) asks done told

pub returns-clause-generated : goal.returns-clause-generated
returns-clause-generated g c = λ view seed blocks asks done.
    generated c.args.command _ _ _ _ _ view seed blocks c.promise_is_kept.ensures (c.run_on.ensures.taken (inl done)) asks done

pub returns-clause-accepted : goal.returns-clause-accepted
returns-clause-accepted g c = λ seed blocks command asks refused.
    unrefused c.args.command _ _ _ _ _ seed blocks command c.generated_traces_are_accepted.ensures.accepted c.requires (c.run_on.ensures.taken (inr (inr refused))) asks refused

pub returns-clause-read_again : goal.returns-clause-read_again
returns-clause-read_again g c = λ view seed blocks asks few told refused.
    unrefused_read c.args.command _ _ _ _ view seed blocks c.generated_traces_are_accepted.ensures.accepted c.generated_traces_are_accepted.ensures.short (c.run_on.ensures.answered (inr (inr refused))) asks few told refused

pub returns-clause-answered : goal.returns-clause-answered
returns-clause-answered g c = c.run_on.ensures.answered

pub returns-clause-taken : goal.returns-clause-taken
returns-clause-taken g c = c.run_on.ensures.taken

pub returns-clause-unread : goal.returns-clause-unread
returns-clause-unread g c = c.run_on.ensures.unread

pub returns-clause-read_later : goal.returns-clause-read_later
returns-clause-read_later g c = c.run_on.ensures.read_later

pub returns-clause-write_later : goal.returns-clause-write_later
returns-clause-write_later g c = c.run_on.ensures.write_later

pub returns-clause-read_fault : goal.returns-clause-read_fault
returns-clause-read_fault g c = c.run_on.ensures.read_fault

pub returns-clause-nothing : goal.returns-clause-nothing
returns-clause-nothing g c = c.run_on.ensures.nothing

pub returns-clause-write_fault : goal.returns-clause-write_fault
returns-clause-write_fault g c = c.run_on.ensures.write_fault

pub returns-clause-broken : goal.returns-clause-broken
returns-clause-broken g c = c.run_on.ensures.broken

pub returns-clause-broken_off : goal.returns-clause-broken_off
returns-clause-broken_off g c = c.run_on.ensures.broken_off

pub returns-clause-starved : goal.returns-clause-starved
returns-clause-starved g c = c.run_on.ensures.starved

pub returns-clause-starved_off : goal.returns-clause-starved_off
returns-clause-starved_off g c = c.run_on.ensures.starved_off

pub returns-clause-known : goal.returns-clause-known
returns-clause-known g c = c.run_on.ensures.known
