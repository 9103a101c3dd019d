use Rattle.std.proofs.Common.{rules, of_calls, nat_lt, arith}
use Rattle.std.proofs.lemmas.List.Sorted.{IsPartitionedBy-ltb, IsPartitionPoint-from_clause}
use Rattle.chunk_cut.specs.declared.chunk.Chunk.{Chunk}
use Rattle.chunk_calls.proofs.ChunkRows.{passed_before}
use Rattle.chunk_calls.proofs.hashes.count_begun.Goals as goal

pub returns-clause-front : goal.returns-clause-front
returns-clause-front c =
    let chunks = c.args.chunks.now in
    let point = IsPartitionPoint-from_clause (λ (x : Chunk). nat_lt x.start c.args.place) chunks c.partition_point.result c.partition_point.ensures.partitioned
    (IsPartitionedBy-ltb (λ (x : Chunk). x.start) chunks c.args.place c.requires) (λ a r f' k. search (rules, of_calls)) in
    passed_before (λ (x : Chunk). nat_lt x.start c.args.place) chunks c.partition_point.result c.partition_point.ensures.bound
    (λ k e lt. point.0 k e (omega arith) lt) (λ k e from lt. point.1 k e from lt)
