use Rattle.std.proofs.Common.{◌∙◌, sym, ap}
use Rattle.std.specs.List.{concat}
use Rattle.block_list.proofs.Filled.{there, got_at, taken_at}
use Rattle.block_list.proofs.blocks.remove.Goals as goal

pub take-number-requires-clause-there : goal.take-number-requires-clause-there
take-number-requires-clause-there c = there c.args.blocks.now.items c.args.len c.args.place c.requires.filled c.requires.within

pub returns-clause-value : goal.returns-clause-value
returns-clause-value c = sym (got_at c.args.blocks.now.items c.args.len c.args.place c.requires.filled c.requires.within) ∙ c.take-number.ensures.value

pub returns-clause-items : goal.returns-clause-items
returns-clause-items c = c.close.ensures.same ∙ ap concat c.take-number.ensures.rest ∙ taken_at c.args.blocks.now.items c.args.len c.args.place c.requires.filled c.requires.within
