use Rattle.mount_desk.proofs.Telling.{stops_told}
use Rattle.mount_desk.proofs.desk.Desk.lose.Goals as goal

pub keep-requires : goal.keep-requires
keep-requires g c = stops_told c.args.self.now.mounted c.args.end c.args.now c.ended.new.self c.in-Ok.said c.in-Ok.ensures

pub returns-in-Ok-clause-lost : goal.returns-in-Ok-clause-lost
returns-in-Ok-clause-lost g c = λ fed. record { mid = c.ended.new.self; said = c.in-Ok.said; stops = c.in-Ok.ensures; bounds = c.keep_within.ensures }

pub returns-in-Ok-clause-out : goal.returns-in-Ok-clause-out
returns-in-Ok-clause-out g c = λ fed. (record { mid = c.ended.new.self; said = c.in-Ok.said; stops = c.in-Ok.ensures; bounds = c.keep_within.ensures }, c.keep.ensures)
