use Rattle.std.proofs.Common.{◌∙◌, ◌%◌, ◌/◌, List, [], ℕ, ap, arith}
use Rattle.std.specs.List.{slice_get}
use Rattle.std.proofs.lemmas.List.{get_or_read}
use Rattle.block_list.proofs.Filled.{there, got_at}
use Rattle.block_list.proofs.blocks.at.Goals as goal

pub index-requires : goal.index-requires
index-requires c = omega (arith, c.args.blocks.now.ok.0, there c.args.blocks.now.items c.args.len c.args.place c.requires.filled c.requires.within)

pub returns : goal.returns
returns c =
    let bs = c.args.blocks.now.items in
    let p = c.args.place in
    c.at.ensures ∙ ap (λ (z : List ℕ). slice_get z (p % 2048)) (get_or_read bs (p / 2048) c.index.result.now (there bs c.args.len p c.requires.filled c.requires.within) c.index.ensures []) ∙ got_at bs c.args.len p c.requires.filled c.requires.within
