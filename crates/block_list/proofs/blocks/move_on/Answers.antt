use Rattle.block_list.proofs.Filled.{moved_on, hole_moved_on}
use Rattle.block_list.proofs.blocks.move_on.Goals as goal

pub returns-clause-same : goal.returns-clause-same
returns-clause-same c = moved_on c.args.blocks.now.items c.args.block c.pop_back-number.result c.pop_back-number.new.self c.index_mut.result.now c.index_mut-2.result.now c.push_front.new.self c.requires.next c.index_mut.ensures.value c.pop_back-number.ensures c.index_mut-2.ensures.value c.push_front.ensures

pub returns-clause-hole : goal.returns-clause-hole
returns-clause-hole c = hole_moved_on c.args.blocks.now.items c.args.block c.pop_back-number.result c.pop_back-number.new.self c.index_mut.result.now c.index_mut-2.result.now c.push_front.new.self c.requires.next c.index_mut.ensures.value c.pop_back-number.ensures c.index_mut-2.ensures.value c.push_front.ensures
