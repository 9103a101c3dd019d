use Rattle.server_held.proofs.Delivering.{delivered_first, delivered_rest}
use Rattle.server_held.proofs.held.SharedServer.deliver.Goals as goal

pub returns-in-Some : goal.returns-in-Some
returns-in-Some g c = delivered_first g.S.Store.records g.S.Store.faults c.args.self.now c.put-put.new.self c.put_all-all.new.self c.in-Some.sent c.into_parts-first.result.0 c.into_parts-first.result.1 c.into_vec.result.items c.args.send c.put-put.result c.put_all-all.result c.both.result c.both.ensures c.into_parts-first.ensures c.in-Some.is c.into_vec.ensures c.put-put.ensures c.put_all-all.ensures

pub returns-in-None : goal.returns-in-None
returns-in-None g c = delivered_rest g.S.Store.records g.S.Store.faults c.args.self.now c.put_all.new.self c.into_parts-first.result.0 c.into_parts-first.result.1 c.into_vec-in-None.result.items c.args.send c.put_all.result c.into_parts-first.ensures c.in-None.is c.into_vec-in-None.ensures c.put_all.ensures
