use Rattle.std.proofs.Common.{◌++◌, ◌∷◌, [], List, ℕ, length, ap, ◌∙◌}
use Rattle.chunk_slots.proofs.Filling.{filled_behind, filled_else, total_behind}
use Rattle.chunk_slots.proofs.fill.Goals as goal

pub returns-then-add_behind-clause-filled : goal.returns-then-add_behind-clause-filled
returns-then-add_behind-clause-filled c =
    filled_behind c.args.front.now.items c.args.lens.now.items c.args.apart.now.items c.args.place c.args.bytes _ _ (c.add_behind.ensures.next c.if-add_behind.true) c.requires.sum c.requires.there (c.add_behind.ensures.front c.if-add_behind.true ∙ ap (λ (b : List ℕ). c.args.front.now.items ++ b) c.as_slice.ensures) (c.add_behind.ensures.lens c.if-add_behind.true ∙ ap (λ (b : List ℕ). c.args.lens.now.items ++ length b ∷ []) c.as_slice.ensures)

pub returns-then-add_behind-clause-sum : goal.returns-then-add_behind-clause-sum
returns-then-add_behind-clause-sum c =
    total_behind c.args.front.now.items c.args.lens.now.items c.as_slice.result.now _ _ c.requires.sum (c.add_behind.ensures.front c.if-add_behind.true) (c.add_behind.ensures.lens c.if-add_behind.true)

pub returns-else-add_behind-clause-filled : goal.returns-else-add_behind-clause-filled
returns-else-add_behind-clause-filled c =
    filled_else c.args.front.now.items c.args.lens.now.items c.args.apart.now.items c.args.place c.args.bytes _ _ (c.add_behind.ensures.no_front c.if-add_behind.false) (c.add_behind.ensures.no_lens c.if-add_behind.false)
