-- The chunks that end whatever follows, one after another.
use Rattle.std.proofs.Common.{◌≡◌, ℕ, zero, suc, ◌+◌, ◌-◌, ◌<◌, ◌≤◌, ◌⊎◌, inl, inr, List, [], ◌∷◌, ◌++◌, length, take, drop, Option, Some, None, refl, sym, ap, subst, ◌∙◌, arith}
use Rattle.std.proofs.lemmas.List.{length-append, length-drop, take-append-le, drop-append-le}
use Rattle.std.proofs.lemmas.Bool.{cases_lt}
use Rattle.sha1.specs.Sha1.{sha1}
use Rattle.chunk_cut.specs.Ends.{window_before, IsMarked, MayEnd, IsOpen, IsLeastEnd}
use Rattle.chunk_cut.specs.Search.{next_end, closed_from, closed_ends, last_cut, open_at}
use Rattle.chunk_cut.specs.Chunks.{chunk_at, chunks_between, complete}
use Rattle.chunk_cut.specs.declared.chunk.Chunk.{Chunk}
use Rattle.chunk_cut.proofs.Found.{IsNext, next_found, next_is_some, next_is_none}

-- each end is the least after the one before
abbrev pub IsChain : List ℕ → ℕ → List ℕ → Type 0
IsChain content s [] = Unit {0}
IsChain content s (e ∷ ends) = IsLeastEnd content s e × IsChain content e ends

-- ---- the search finds the one chain that leaves no end open

pub is_open_late : (content : List ℕ) (s : ℕ) → length content < s + 2048 → IsOpen content s
is_open_late content s h = λ e m. let a : s + 2048 ≤ e = m.least in let b : e ≤ length content = m.within in omega arith

closed_is : (more : ℕ) (content : List ℕ) (s : ℕ) → length content ≤ s + more
    → IsChain content s (closed_from more content s) × IsOpen content (last_cut s (closed_from more content s))
closed_is zero content s h = (tt, is_open_late content s (omega arith))
closed_is (suc more) content s h = at (λ e l. closed_is more content e l) (next_end content s) (next_found content s)
  where
    at : ((e : ℕ) → length content ≤ e + more → IsChain content e (closed_from more content e) × IsOpen content (last_cut e (closed_from more content e)))
        → (o : Option ℕ) → IsNext content s o
        → IsChain content s (elim o [ None ↦ [] | Some e ↦ e ∷ closed_from more content e ])
        × IsOpen content (last_cut s (elim o [ None ↦ [] | Some e ↦ e ∷ closed_from more content e ]))
    at later None f = (tt, f)
    at later (Some e) f =
        let least : s + 2048 ≤ e = f.may.least in
        let rest = later e (omega arith) in
        ((f, rest.0), rest.1)

pub closed_chain : (content : List ℕ) → IsChain content 0 (closed_ends content)
unfolding closed_ends
closed_chain content = (closed_is (length content) content 0 (omega arith)).0

pub closed_open : (content : List ℕ) → IsOpen content (open_at content)
unfolding closed_ends
closed_open content = (closed_is (length content) content 0 (omega arith)).1

only_chain : (more : ℕ) (content : List ℕ) (s : ℕ) (ends : List ℕ) → length content ≤ s + more → IsChain content s ends → IsOpen content (last_cut s ends) → closed_from more content s ≡ ends
only_chain zero content s [] h chain none = refl
only_chain zero content s (e ∷ ends) h chain none = absurd (is_open_late content s (omega arith) e chain.0.may)
only_chain (suc more) content s [] h chain none =
    ap (λ (o : Option ℕ). elim o [ None ↦ [] | Some e ↦ e ∷ closed_from more content e ]) (next_is_none content s none)
only_chain (suc more) content s (e ∷ ends) h chain none =
    let least : s + 2048 ≤ e = chain.0.may.least in
    ap (λ (o : Option ℕ). elim o [ None ↦ [] | Some e ↦ e ∷ closed_from more content e ]) (next_is_some content s e chain.0)
    ∙ ap (λ (es : List ℕ). e ∷ es) (only_chain more content e ends (omega arith) chain.1 none)

pub closed_only : (content ends : List ℕ) → IsChain content 0 ends → IsOpen content (last_cut 0 ends) → closed_ends content ≡ ends
unfolding closed_ends
closed_only content ends chain none = only_chain (length content) content 0 ends (omega arith) chain none

-- ---- bytes that follow change none of it

window_stays : (content more : List ℕ) (e : ℕ) → 48 ≤ e → e ≤ length content → window_before (content ++ more) e ≡ window_before content e
window_stays content more e h l =
    let a : drop (e - 48) (content ++ more) ≡ drop (e - 48) content ++ more = drop-append-le (e - 48) content more (omega arith) in
    let n : 48 ≤ length (drop (e - 48) content) = simp length-drop (omega arith) in
    ap (λ (xs : List ℕ). take 48 xs) a ∙ take-append-le 48 (drop (e - 48) content) more n

mark_moves : (s e : ℕ) (xs ys : List ℕ) → xs ≡ ys → IsMarked xs ⊎ (e ≡ s + 65536) → IsMarked ys ⊎ (e ≡ s + 65536)
mark_moves s e xs ys same m = subst (λ (ws : List ℕ). IsMarked ws ⊎ (e ≡ s + 65536)) same m

pub may_more : (content more : List ℕ) (s e : ℕ) → MayEnd content s e → MayEnd (content ++ more) s e
may_more content more s e m =
    let a : s + 2048 ≤ e = m.least in
    let b : e ≤ length content = m.within in
    record {
      least = m.least;
      most = m.most;
      within = simp length-append (omega arith);
      mark = mark_moves s e _ _ (sym (window_stays content more e (omega arith) b)) m.mark;
    }

pub may_less : (content more : List ℕ) (s e : ℕ) → e ≤ length content → MayEnd (content ++ more) s e → MayEnd content s e
may_less content more s e l m =
    let a : s + 2048 ≤ e = m.least in
    record {
      least = m.least;
      most = m.most;
      within = l;
      mark = mark_moves s e _ _ (window_stays content more e (omega arith) l) m.mark;
    }

pub least_more : (content more : List ℕ) (s e : ℕ) → IsLeastEnd content s e → IsLeastEnd (content ++ more) s e
least_more content more s e p =
    let w : e ≤ length content = p.may.within in
    record {
      may = may_more content more s e p.may;
      first = λ d m. elim (cases_lt (length content) d) [ inl past ↦ omega arith | inr within ↦ p.first d (may_less content more s d within m) ];
    }

pub chain_more : (content more : List ℕ) (s : ℕ) (ends : List ℕ) → IsChain content s ends → IsChain (content ++ more) s ends
chain_more content more s [] chain = tt
chain_more content more s (e ∷ ends) chain = (least_more content more s e chain.0, chain_more content more e ends chain.1)

chunk_stays : (content more : List ℕ) (s e : ℕ) → s ≤ e → e ≤ length content → chunk_at (content ++ more) s e ≡ chunk_at content s e
chunk_stays content more s e h l =
    let a : drop s (content ++ more) ≡ drop s content ++ more = drop-append-le s content more (omega arith) in
    let n : e - s ≤ length (drop s content) = simp length-drop (omega arith) in
    let same : take (e - s) (drop s (content ++ more)) ≡ take (e - s) (drop s content) = ap (λ (xs : List ℕ). take (e - s) xs) a ∙ take-append-le (e - s) (drop s content) more n in
    let of : List ℕ → Chunk = λ bytes. record { start = s; len = e - s; digest = sha1 bytes } in
    ap of same

pub chunks_stay : (content more : List ℕ) (s : ℕ) (ends : List ℕ) → IsChain content s ends → chunks_between (content ++ more) s ends ≡ chunks_between content s ends
chunks_stay content more s [] chain = refl
chunks_stay content more s (e ∷ ends) chain =
    let least : s + 2048 ≤ e = chain.0.may.least in
    let one : chunk_at (content ++ more) s e ≡ chunk_at content s e = chunk_stays content more s e (omega arith) chain.0.may.within in
    let others : chunks_between (content ++ more) e ends ≡ chunks_between content e ends = chunks_stay content more e ends chain.1 in
    cc

-- ---- one end more

last_cut-push : (s : ℕ) (ends : List ℕ) (e : ℕ) → last_cut s (ends ++ e ∷ []) ≡ e
last_cut-push s [] e = refl
last_cut-push s (d ∷ ends) e = last_cut-push d ends e

chain-push : (content : List ℕ) (s : ℕ) (ends : List ℕ) (e : ℕ) → IsChain content s ends → IsLeastEnd content (last_cut s ends) e → IsChain content s (ends ++ e ∷ [])
chain-push content s [] e chain p = (p, tt)
chain-push content s (d ∷ ends) e chain p = (chain.0, chain-push content d ends e chain.1 p)

pub chunks-push : (content : List ℕ) (s : ℕ) (ends : List ℕ) (e : ℕ) → chunks_between content s (ends ++ e ∷ []) ≡ chunks_between content s ends ++ chunk_at content (last_cut s ends) e ∷ []
chunks-push content s [] e = refl
chunks-push content s (d ∷ ends) e = ap (λ (cs : List Chunk). chunk_at content s d ∷ cs) (chunks-push content d ends e)

-- no chunk ends in the bytes that follow
pub closed_unchanged : (content more : List ℕ) → IsOpen (content ++ more) (open_at content) → closed_ends (content ++ more) ≡ closed_ends content
closed_unchanged content more none =
    closed_only (content ++ more) (closed_ends content) (chain_more content more 0 _ (closed_chain content)) none

pub complete_unchanged : (content more : List ℕ) → IsOpen (content ++ more) (open_at content) → complete (content ++ more) ≡ complete content
complete_unchanged content more none =
    ap (λ (es : List ℕ). chunks_between (content ++ more) 0 es) (closed_unchanged content more none)
    ∙ chunks_stay content more 0 (closed_ends content) (closed_chain content)

-- the chunk under way ends with the bytes that follow
pub closed_one_more : (content more : List ℕ) → IsLeastEnd (content ++ more) (open_at content) (length (content ++ more)) → closed_ends (content ++ more) ≡ closed_ends content ++ length (content ++ more) ∷ []
closed_one_more content more p =
    let all : List ℕ = content ++ more in
    let before : IsChain all 0 (closed_ends content) = chain_more content more 0 _ (closed_chain content) in
    closed_only all (closed_ends content ++ length all ∷ [])
    (chain-push all 0 (closed_ends content) (length all) before p)
    (subst (λ (s : ℕ). IsOpen all s) (sym (last_cut-push 0 (closed_ends content) (length all))) (is_open_late all (length all) (omega arith)))

pub open_at_end : (content more : List ℕ) → IsLeastEnd (content ++ more) (open_at content) (length (content ++ more)) → open_at (content ++ more) ≡ length (content ++ more)
open_at_end content more p =
    ap (λ (es : List ℕ). last_cut 0 es) (closed_one_more content more p)
    ∙ last_cut-push 0 (closed_ends content) (length (content ++ more))

pub complete_one_more : (content more : List ℕ) → IsLeastEnd (content ++ more) (open_at content) (length (content ++ more))
    → complete (content ++ more) ≡ complete content ++ chunk_at (content ++ more) (open_at content) (length (content ++ more)) ∷ []
complete_one_more content more p =
    let all : List ℕ = content ++ more in
    ap (λ (es : List ℕ). chunks_between all 0 es) (closed_one_more content more p)
    ∙ chunks-push all 0 (closed_ends content) (length all)
    ∙ ap (λ (cs : List Chunk). cs ++ chunk_at all (open_at content) (length all) ∷ []) (chunks_stay content more 0 (closed_ends content) (closed_chain content))
