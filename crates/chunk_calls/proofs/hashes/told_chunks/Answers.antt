use Rattle.std.proofs.Common.{◌≡◌, ◌∙◌, sym, ap, subst, ◌+◌, ◌-◌, List, take, drop, filter, length, arith}
use Rattle.std.specs.List.Sorted.{IsNonDecreasingBy}
use Rattle.std.proofs.lemmas.List.{take_rest}
use Rattle.std.proofs.lemmas.List.Sorted.{IsNonDecreasingBy-drop}
use Rattle.chunk_cut.specs.declared.chunk.Chunk.{Chunk}
use Rattle.chunk_cut.specs.Chunks.{chunks_of}
use Rattle.chunk_calls.specs.Answers.{chunks_most}
use Rattle.chunk_calls.specs.Chunks.{ends_behind, begins_before}
use Rattle.chunk_calls.proofs.ChunkRows.{starts_rise, ends_rise, none_told, told_parted, taken_least}
use Rattle.chunk_calls.proofs.hashes.told_chunks.Goals as goal

pub returns-then-range-eq0 : goal.returns-then-range-eq0
returns-then-range-eq0 c = sym (none_told c.args.content.now c.args.range.now c.if-range-eq0.true)

pub count_ended-requires : goal.count_ended-requires
count_ended-requires c = subst (λ (l : List Chunk). IsNonDecreasingBy (λ x. x.start + x.len) l) (sym c.chunks-chunks.ensures) (ends_rise c.args.content.now)

pub count_begun-met-requires : goal.count_begun-met-requires
count_begun-met-requires c =
    subst (λ (l : List Chunk). IsNonDecreasingBy (λ x. x.start) l) (sym (take_rest c.chunks-chunks.result.now c.count_ended.result))
    (IsNonDecreasingBy-drop (λ (x : Chunk). x.start) c.count_ended.result c.chunks-chunks.result.now (subst (λ (l : List Chunk). IsNonDecreasingBy (λ x. x.start) l) (sym c.chunks-chunks.ensures) (starts_rise c.args.content.now)))

pub returns : goal.returns
returns c =
    let chunks = c.chunks-chunks.result.now in
    let rest = take (length chunks - c.count_ended.result) (drop c.count_ended.result chunks) in
    let met = c.count_begun-met.result in
    let behind : rest ≡ filter (ends_behind c.args.range.now.offset) (chunks_of c.args.content.now) =
    take_rest chunks c.count_ended.result ∙ c.count_ended.ensures.rest ∙ ap (λ (l : List Chunk). filter (ends_behind c.args.range.now.offset) l) c.chunks-chunks.ensures in
    let before : take met rest ≡ filter (begins_before (c.args.range.now.offset + c.args.range.now.count)) rest =
    c.count_begun-met.ensures.front ∙ ap (λ n. filter (begins_before n) rest) (omega (arith, c.from.ensures, c.from-2.ensures)) in
    ap (λ n. take n rest) c.min.ensures ∙ taken_least met chunks_most rest ∙ told_parted c.args.content.now c.args.range.now rest (take met rest) c.if-range-eq0.false behind before
