use Rattle.std.proofs.Common.{map, drop}
use Rattle.chunk_cut.specs.Places.{chunk_bytes}
use Rattle.cache_file.proofs.Filling.{Leads}
use Rattle.cache_file.proofs.saving.Saving.content.Given as goal

abbrev pub invariant-loop-chunk : goal.invariant-loop-chunk
invariant-loop-chunk l = Leads l.initial.self (map (chunk_bytes l.content) l.chunk-items) l.self (map (chunk_bytes l.content) (drop l.chunk-index l.chunk-items))
