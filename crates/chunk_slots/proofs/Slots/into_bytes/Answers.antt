use Rattle.std.proofs.Common.{sym, ap, ◌∙◌}
use Rattle.chunk_slots.specs.Slots.{slots_bytes}
use Rattle.chunk_slots.proofs.Joining.{all_in_front}
use Rattle.chunk_slots.proofs.Slots.into_bytes.Goals as goal

pub returns-then-are_in_front : goal.returns-then-are_in_front
returns-then-are_in_front c =
    c.from_vec.ensures
    ∙ (sym (all_in_front c.self.inside.front.items c.self.inside.lens.items c.self.inside.apart.items c.self.invariant (c.are_in_front.ensures.all c.if-are_in_front.true) (c.are_in_front.ensures.none c.if-are_in_front.true))
    ∙ ap slots_bytes c.self.view_is)
