use Rattle.std.proofs.Common.{◌∙◌, ap}
use Rattle.block_list.specs.View.{Listed}
use Rattle.block_list.proofs.Filled.{wide_sound, items_wide}
use Rattle.block_list.proofs.list.BlockList.widen.Goals as goal

pub invariant_of-self-2 : goal.invariant_of-self-2
invariant_of-self-2 c = wide_sound c.self.inside.blocks.items c.push.new.self.items c.in_ok-new.field-0 c.self.inside.len c.self.inside.room c.self.invariant c.in_ok-push.ensures.items c.in_ok-new.ensures c.if-self-gt-LIST_MOST.false

pub returns-clause-items : goal.returns-clause-items
returns-clause-items c = items_wide c.self.inside.blocks.items c.push.new.self.items c.in_ok-new.field-0 c.in_ok-push.ensures.items c.in_ok-new.ensures ∙ ap (λ (l : Listed). l.items) c.self.view_is
