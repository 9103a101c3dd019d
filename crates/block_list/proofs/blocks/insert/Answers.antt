use Rattle.std.proofs.Common.{◌∙◌, ◌/◌, ◌<◌, List, ℕ, length, ap, arith}
use Rattle.std.specs.List.{concat, insert}
use Rattle.block_list.proofs.Filled.{put_at}
use Rattle.block_list.proofs.blocks.insert.Goals as goal

pub returns-clause-items : goal.returns-clause-items
returns-clause-items c =
    let p = c.args.place in
    let bs = c.open.new.blocks.items in
    let there : p / 2048 < length bs = omega (arith, c.open.ensures.count) in
    ap concat c.put.ensures ∙ put_at bs c.args.len p c.args.number c.open.ensures.hole there c.requires.within ∙ ap (λ (z : List ℕ). insert z p c.args.number) c.open.ensures.same
