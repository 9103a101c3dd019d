use Rattle.std.proofs.Common.{◌+◌, ◌∙◌, List, [], ◌∷◌, true, false, subst, ap, map, drop}
use Rattle.std.proofs.lemmas.List.{drop_all}
use Rattle.chunk_cut.specs.Places.{chunk_bytes}
use Rattle.chunk_cut.specs.declared.chunk.Chunk.{Chunk}
use Rattle.cache_file.specs.Filling.{Puts}
use Rattle.cache_file.proofs.Filling.{Leads, leads_on, leads_full, leads_all, chunks_left}
use Rattle.cache_file.proofs.saving.Saving.content.Goals as goal

pub loop-chunk-init : goal.loop-chunk-init
loop-chunk-init c = λ goes u p. p

pub loop-chunk-preserved : goal.loop-chunk-preserved
loop-chunk-preserved c =
    let f = chunk_bytes c.args.content.now in
    let chunks = c.as_slice-chunk-items.result.now in
    let k = c.loop-chunk.chunk-index in
    let bytes = c.chunk_bytes.result.now in
    let left = chunks_left f chunks k _ bytes c.loop-chunk-test.true (c.chunk_bytes.ensures ∙ ap f c.chunk-item.is) in
    leads_on c.args.self.now (map f chunks) c.loop-chunk.self c.item.new.self (bytes ∷ []) (map f (drop (k + 1) chunks))
    (subst (λ b. Puts c.loop-chunk.self (bytes ∷ []) b c.item.new.self) c.if-not-branch.false c.in_ok-item.ensures)
    (subst (Leads c.args.self.now (map f chunks) c.loop-chunk.self) left c.loop-chunk.invariant)

pub returns-then-not-branch : goal.returns-then-not-branch
returns-then-not-branch c =
    let f = chunk_bytes c.args.content.now in
    let chunks = c.as_slice-chunk-items.result.now in
    let k = c.loop-chunk.chunk-index in
    let bytes = c.chunk_bytes.result.now in
    let left = chunks_left f chunks k _ bytes c.loop-chunk-test.true (c.chunk_bytes.ensures ∙ ap f c.chunk-item.is) in
    subst (λ (cs : List Chunk). Puts c.args.self.now (map f cs) false c.item.new.self) (c.as_slice-chunk-items.ensures ∙ c.in_ok-chunks.ensures)
    (leads_full c.args.self.now (map f chunks) c.loop-chunk.self c.item.new.self (bytes ∷ []) (map f (drop (k + 1) chunks))
    (subst (λ b. Puts c.loop-chunk.self (bytes ∷ []) b c.item.new.self) c.if-not-branch.true c.in_ok-item.ensures)
    (subst (Leads c.args.self.now (map f chunks) c.loop-chunk.self) left c.loop-chunk.invariant))

pub returns : goal.returns
returns c =
    let f = chunk_bytes c.args.content.now in
    let chunks = c.as_slice-chunk-items.result.now in
    subst (λ (cs : List Chunk). Puts c.args.self.now (map f cs) true c.loop-chunk.self) (c.as_slice-chunk-items.ensures ∙ c.in_ok-chunks.ensures)
    (leads_all c.args.self.now (map f chunks) c.loop-chunk.self
    (subst (λ cs. Leads c.args.self.now (map f chunks) c.loop-chunk.self (map f cs)) (drop_all c.loop-chunk.chunk-index chunks c.loop-chunk-test.false) c.loop-chunk.invariant))
