use Rattle.block_list.proofs.Filled.{moved_back, hole_moved_back}
use Rattle.block_list.proofs.blocks.move_back.Goals as goal

pub returns-clause-same : goal.returns-clause-same
returns-clause-same c = moved_back c.args.blocks.now.items c.args.block c.pop_front-number.result c.index_mut-2.result.now c.index_mut.result.now c.pop_front-number.new.self c.push_back.new.self c.requires.next c.index_mut.ensures.value c.pop_front-number.ensures c.index_mut-2.ensures.value c.push_back.ensures

pub returns-clause-hole : goal.returns-clause-hole
returns-clause-hole c = hole_moved_back c.args.blocks.now.items c.args.block c.pop_front-number.result c.index_mut-2.result.now c.index_mut.result.now c.pop_front-number.new.self c.push_back.new.self c.requires.next c.index_mut.ensures.value c.pop_front-number.ensures c.index_mut-2.ensures.value c.push_back.ensures
