use Rattle.std.proofs.Common.{refl}
use Rattle.lbfs_run.proofs.run.run_plain.Goals as goal

pub returns-clause-replayed : goal.returns-clause-replayed
returns-clause-replayed g c = c.run-status.ensures.replayed

pub returns-clause-generated : goal.returns-clause-generated
returns-clause-generated g c = c.run-status.ensures.generated

pub returns-clause-accepted : goal.returns-clause-accepted
returns-clause-accepted g c = c.run-status.ensures.accepted

pub returns-clause-read_again : goal.returns-clause-read_again
returns-clause-read_again g c = c.run-status.ensures.read_again

pub returns-clause-answered : goal.returns-clause-answered
returns-clause-answered g c = c.run-status.ensures.answered

pub returns-clause-taken : goal.returns-clause-taken
returns-clause-taken g c = c.run-status.ensures.taken

pub returns-clause-unread : goal.returns-clause-unread
returns-clause-unread g c = c.run-status.ensures.unread

pub returns-clause-read_later : goal.returns-clause-read_later
returns-clause-read_later g c = c.run-status.ensures.read_later

pub returns-clause-write_later : goal.returns-clause-write_later
returns-clause-write_later g c = c.run-status.ensures.write_later

pub returns-clause-read_fault : goal.returns-clause-read_fault
returns-clause-read_fault g c = c.run-status.ensures.read_fault

pub returns-clause-nothing : goal.returns-clause-nothing
returns-clause-nothing g c = c.run-status.ensures.nothing

pub returns-clause-write_fault : goal.returns-clause-write_fault
returns-clause-write_fault g c = c.run-status.ensures.write_fault

pub returns-clause-broken : goal.returns-clause-broken
returns-clause-broken g c = c.run-status.ensures.broken

pub returns-clause-broken_off : goal.returns-clause-broken_off
returns-clause-broken_off g c = c.run-status.ensures.broken_off

pub returns-clause-starved : goal.returns-clause-starved
returns-clause-starved g c = c.run-status.ensures.starved

pub returns-clause-starved_off : goal.returns-clause-starved_off
returns-clause-starved_off g c = c.run-status.ensures.starved_off

pub returns-clause-known : goal.returns-clause-known
returns-clause-known g c = c.run-status.ensures.known

pub returns-clause-apart : goal.returns-clause-apart
returns-clause-apart g c = (refl, refl, refl)
