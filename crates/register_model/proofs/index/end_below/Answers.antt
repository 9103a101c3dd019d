use Rattle.std.proofs.Common.{rules}
use Rattle.std.proofs.lemmas.List.Sorted.{IsPartitionPoint-from_clause}
use Rattle.register_model.specs.Index.{is_lower}
use Rattle.register_model.proofs.Marks.{lower_first}
use Rattle.register_model.proofs.index.end_below.Goals as goal

pub returns-clause-below : goal.returns-clause-below
returns-clause-below c = (IsPartitionPoint-from_clause (is_lower c.args.file c.args.moment) _ _ c.partition_point.ensures.partitioned (lower_first _ c.args.file c.args.moment c.requires) (λ a r f' k. search rules)).0

pub returns-clause-from : goal.returns-clause-from
returns-clause-from c = (IsPartitionPoint-from_clause (is_lower c.args.file c.args.moment) _ _ c.partition_point.ensures.partitioned (lower_first _ c.args.file c.args.moment c.requires) (λ a r f' k. search rules)).1
