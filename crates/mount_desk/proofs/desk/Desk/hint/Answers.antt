use Rattle.mount_desk.proofs.desk.Desk.hint.Goals as goal

pub returns-clause-hints : goal.returns-clause-hints
returns-clause-hints g c = record { mid = c.learn_stored.new.mounted; learned = c.learn_stored.ensures; offered = c.offer_local.ensures }
