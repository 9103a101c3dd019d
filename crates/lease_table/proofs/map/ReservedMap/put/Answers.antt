use Rattle.std.proofs.Common.{subst, sym, arith}
use Rattle.lease_table.specs.Reserved.{Reserved, HasRoom}
use Rattle.lease_table.proofs.Whole.{room_of}
use Rattle.lease_table.proofs.map.ReservedMap.put.Goals as goal

pub put-requires-clause-room : goal.put-requires-clause-room
put-requires-clause-room g c =
    room_of g.K.Ord.cmp g.met.K.Ord.total c.self.inside.map.entries c.self.inside.spare.items c.self.invariant.0 _ _ c.args.key (omega arith) (subst (λ (m : Reserved _ _). HasRoom g.K.Ord.cmp m c.args.key) (sym c.self.view_is) c.requires)
