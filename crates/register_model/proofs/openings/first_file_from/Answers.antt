use Rattle.std.proofs.Common.{rules, nat_lt}
use Rattle.std.proofs.lemmas.List.Sorted.{IsPartitionPoint-from_clause, IsPartitionedBy-ltb}
use Rattle.register_model.proofs.openings.first_file_from.Goals as goal

pub returns-clause-below : goal.returns-clause-below
returns-clause-below c = (IsPartitionPoint-from_clause (λ m. nat_lt m.file c.args.file) _ _ c.partition_point.ensures.partitioned (IsPartitionedBy-ltb (λ m. m.file) _ c.args.file c.requires) (λ a r f' k. search rules)).0

pub returns-clause-from : goal.returns-clause-from
returns-clause-from c = (IsPartitionPoint-from_clause (λ m. nat_lt m.file c.args.file) _ _ c.partition_point.ensures.partitioned (IsPartitionedBy-ltb (λ m. m.file) _ c.args.file c.requires) (λ a r f' k. search rules)).1
