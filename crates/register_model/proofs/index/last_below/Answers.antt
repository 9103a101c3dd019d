use Rattle.register_model.proofs.Marks.{below_none_at, below_lower_file, last_of_file, above}
use Rattle.register_model.proofs.index.last_below.Goals as goal

pub returns-then-end-eq0 : goal.returns-then-end-eq0
returns-then-end-eq0 c = below_none_at _ _ _ _ c.if-end-eq0.true c.end_below-end.ensures.from

pub returns-then-last-file : goal.returns-then-last-file
returns-then-last-file c = last_of_file _ _ _ _ _ c.requires c.end_below-end.ensures.bound (above _ c.if-end-eq0.false) c.end_below-end.ensures.below c.end_below-end.ensures.from c.if-last-file.true

pub returns-else-last-file : goal.returns-else-last-file
returns-else-last-file c = below_lower_file _ _ _ _ _ c.requires c.end_below-end.ensures.bound (above _ c.if-end-eq0.false) c.end_below-end.ensures.below c.end_below-end.ensures.from c.if-last-file.false
