-- The ends that are found are the ends, and there are no others.
use Rattle.std.proofs.Common.{◌≡◌, ℕ, ◌+◌, ◌<◌, ◌≤◌, inl, inr, List, [], ◌∷◌, ◌++◌, length, Some, None, refl, sym, ap, subst, ◌∙◌, arith}
use Rattle.std.specs.Prelude.{Bool, true, false, nat_lt}
use Rattle.std.proofs.lemmas.Bool.{ltb-true, ltb-false}
use Rattle.std.proofs.lemmas.List.{append-nil}
use Rattle.chunk_cut.specs.Ends.{IsOpen, IsNextEnd, AreEndsFrom, AreEnds}
use Rattle.chunk_cut.specs.Search.{closed_ends, last_cut, open_at, ends}
use Rattle.chunk_cut.specs.Chunks.{chunk_at, chunks_between, complete, listed, chunks_of}
use Rattle.chunk_cut.proofs.Chains.{IsChain, closed_chain, closed_open, chunks-push}

-- the end of what is left
abbrev last_end : List ℕ → Bool → List ℕ
last_end content left = elim left [ true ↦ length content ∷ [] | false ↦ [] ]

last_is : (content : List ℕ) (s : ℕ) (left : Bool) → nat_lt s (length content) ≡ left → s ≤ length content → IsOpen content s → AreEndsFrom content s (last_end content left)
last_is content s true e h none = (ltb-true s (length content) e, inr (none, refl), refl)
last_is content s false e h none = let no_more : length content ≤ s = ltb-false s (length content) e in omega arith

chain_ends : (content : List ℕ) (s : ℕ) (es : List ℕ) → s ≤ length content → IsChain content s es → IsOpen content (last_cut s es) → AreEndsFrom content s (es ++ last_end content (nat_lt (last_cut s es) (length content)))
chain_ends content s [] h chain none = last_is content s (nat_lt s (length content)) refl h none
chain_ends content s (e ∷ es) h chain none =
    let least : s + 2048 ≤ e = chain.0.may.least in
    let within : e ≤ length content = chain.0.may.within in
    (omega arith, inl chain.0, chain_ends content e es within chain.1 none)

pub are_ends : (content : List ℕ) → AreEnds content (ends content)
are_ends content = chain_ends content 0 (closed_ends content) (omega arith) (closed_chain content) (closed_open content)

same_end : (content : List ℕ) (s d e : ℕ) → IsNextEnd content s d → IsNextEnd content s e → d ≡ e
same_end content s d e (inl p) (inl q) =
    let a : d ≤ e = p.first e q.may in
    let b : e ≤ d = q.first d p.may in
    omega arith
same_end content s d e (inl p) (inr q) = absurd (q.0 d p.may)
same_end content s d e (inr p) (inl q) = absurd (p.0 e q.may)
same_end content s d e (inr p) (inr q) = p.1 ∙ sym q.1

only_from : (content : List ℕ) (s : ℕ) (ds es : List ℕ) → AreEndsFrom content s ds → AreEndsFrom content s es → ds ≡ es
only_from content s [] [] p q = refl
only_from content s [] (e ∷ es) p q = let a : s < length content = q.0 in absurd (omega arith)
only_from content s (d ∷ ds) [] p q = let a : s < length content = p.0 in absurd (omega arith)
only_from content s (d ∷ ds) (e ∷ es) p q =
    let same : d ≡ e = same_end content s d e p.1 q.1 in
    let others : ds ≡ es = only_from content d ds es p.2 (subst (λ (x : ℕ). AreEndsFrom content x es) (sym same) q.2) in
    cc

pub only_ends : (content es : List ℕ) → AreEnds content es → es ≡ ends content
only_ends content es p = only_from content 0 es (ends content) p (are_ends content)

with_last : (content : List ℕ) (left : Bool) → complete content ++ listed (elim left [ true ↦ Some (chunk_at content (open_at content) (length content)) | false ↦ None ]) ≡ chunks_between content 0 (closed_ends content ++ last_end content left)
with_last content true = sym (chunks-push content 0 (closed_ends content) (length content))
with_last content false =
    append-nil (complete content) ∙ ap (λ (es : List ℕ). chunks_between content 0 es) (sym (append-nil (closed_ends content)))

pub chunks_are : (content : List ℕ) → chunks_of content ≡ chunks_between content 0 (ends content)
chunks_are content = with_last content (nat_lt (open_at content) (length content))
