use Rattle.std.proofs.Common.{rules, of_calls, ◌+◌, nat_lt, nat_le, arith}
use Rattle.std.proofs.lemmas.List.Sorted.{IsPartitionedBy-leb, IsPartitionPoint-from_clause}
use Rattle.chunk_cut.specs.declared.chunk.Chunk.{Chunk}
use Rattle.chunk_calls.proofs.ChunkRows.{passed_behind, behind_if_not, not_behind_if}
use Rattle.chunk_calls.proofs.hashes.count_ended.Goals as goal

pub returns-clause-rest : goal.returns-clause-rest
returns-clause-rest c =
    let chunks = c.args.chunks.now in
    let place = c.args.place in
    let point = IsPartitionPoint-from_clause (λ (x : Chunk). nat_le (x.start + x.len) place) chunks c.partition_point.result c.partition_point.ensures.partitioned
    (IsPartitionedBy-leb (λ (x : Chunk). x.start + x.len) chunks place c.requires) (λ a r f' k. search (rules, of_calls)) in
    passed_behind (λ (x : Chunk). nat_lt place (x.start + x.len)) chunks c.partition_point.result c.partition_point.ensures.bound
    (λ k e lt. not_behind_if place _ (point.0 k e (omega arith) lt)) (λ k e from lt. behind_if_not place _ (point.1 k e from lt))
