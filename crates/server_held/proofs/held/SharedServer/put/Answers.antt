use Rattle.std.proofs.Common.{refl}
use Rattle.server_held.proofs.Delivering.{delivered_one, delivered_hung}
use Rattle.server_held.proofs.Telling.{PutInto}
use Rattle.server_held.proofs.held.SharedServer.put.Goals as goal

pub returns-in-Ok : goal.returns-in-Ok
returns-in-Ok g c =
    let put : PutInto c.args.self.now.boxes c.args.sent c.put.new.self = record { put = c.in-Ok.ensures.put; none = c.in-Ok.ensures.none; others = c.in-Ok.ensures.others } in
    delivered_one g.S.Store.records g.S.Store.faults c.args.self.now c.args.sent _ refl put

pub returns-in-Err : goal.returns-in-Err
returns-in-Err g c = delivered_hung g.S.Store.records g.S.Store.faults c.args.self.now _ c.args.sent c.hang.new.self refl c.in-Err.ensures.others c.hang.ensures
