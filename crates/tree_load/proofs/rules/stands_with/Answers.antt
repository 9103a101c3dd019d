use Rattle.std.proofs.Common.{◌∙◌, refl}
use Rattle.tree_load.proofs.Ruled.{stands_is}
use Rattle.tree_load.proofs.rules.stands_with.Goals as goal

pub returns : goal.returns
returns c =
    let node = c.args.node.now in
    stands_is c.args.records.now c.args.known.now c.args.place node c.copied-own.result c.copied-above.result c.copied-named.result c.copied-content.result c.index.result.now (node.parent, c.as_slice.result) c.requires.known c.requires.within
    (c.copied-own.ensures ∙ c.get.ensures.value) (c.copied-above.ensures ∙ c.get-2.ensures.value) refl c.as_slice.ensures (c.copied-named.ensures ∙ c.get-3.ensures.value) (c.copied-content.ensures ∙ c.get-4.ensures.value) c.index.ensures
