use Rattle.chunk_slots.proofs.Filling.{place_there}
use Rattle.chunk_slots.proofs.Slots.fill.Goals as goal

pub fill-requires-clause-there : goal.fill-requires-clause-there
fill-requires-clause-there c = place_there c.self.inside.front.items c.self.inside.lens.items c.self.inside.apart.items c.args.self.now c.args.place c.self.view_is c.requires
