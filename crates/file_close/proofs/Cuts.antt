-- The chunks of a content are few enough, and none is too long.
use Rattle.std.proofs.Common.{◌≡◌, refl, sym, ap, subst, ◌∙◌, ℕ, suc, ◌+◌, ◌-◌, ◌*◌, ◌≤◌, List, [], ◌∷◌, length, Bool, true, false, nat_lt, inl, inr, arith}
use Rattle.std.specs.List.{All}
use Rattle.std.proofs.lemmas.Bool.Decides.{nat_tests}
use Rattle.std.proofs.lemmas.List.Elements.{All-nil, All-cons}
use Rattle.chunk_cut.specs.Chunks.{chunk_at, chunks_between, chunks_of}
use Rattle.chunk_cut.specs.Ends.{IsOpen, IsNextEnd, AreEndsFrom, AreEnds}
use Rattle.chunk_cut.specs.Search.{ends}
use Rattle.file_close.specs.Closing.{store_of}
use Rattle.transfer_rules.specs.Limits.{file_limit, chunk_least, chunk_most}
use Rattle.client_state.specs.View.{IsChunkBounded, IsStore}

-- where no chunk may end what is left is shorter than the longest
open_small : (content : List ℕ) (s : ℕ) → IsOpen content s → length content ≤ s + chunk_most
open_small content s o = by (nat_lt (length content) (s + chunk_most)) refl
  where
    by : (b : Bool) → nat_lt (length content) (s + chunk_most) ≡ b → length content ≤ s + chunk_most
    by true e = grind (arith, nat_tests, e)
    by false e = absurd (o (s + chunk_most) (record { least = omega arith; most = omega arith; within = grind (arith, nat_tests, e); mark = inr refl }))

ends_few : (content es : List ℕ) (s : ℕ) → s ≤ length content → AreEndsFrom content s es → chunk_least * length es + s ≤ length content + chunk_least
ends_few content [] s le h = omega (arith, le)
ends_few content (e ∷ es) s le h = by h.1 (λ within. ends_few content es e within h.2)
  where
    by : IsNextEnd content s e → (e ≤ length content → chunk_least * length es + e ≤ length content + chunk_least) → chunk_least * length (e ∷ es) + s ≤ length content + chunk_least
    by (inl x) later =
        let a = x.may.least in
        let k = later x.may.within in
        omega (arith, a, k)
    by (inr x) later = none es h.2
      where
        none : (fs : List ℕ) → AreEndsFrom content e fs → chunk_least * length (e ∷ fs) + s ≤ length content + chunk_least
        none [] k = omega (arith, le)
        none (f ∷ fs) k = let lt = k.0 in let is = x.1 in let no : ⊥ = omega (arith, lt, is) in absurd no

lens_bounded : (content es : List ℕ) (s : ℕ) → AreEndsFrom content s es → All IsChunkBounded (chunks_between content s es)
lens_bounded content [] s h = All-nil IsChunkBounded
lens_bounded content (e ∷ es) s h = All-cons IsChunkBounded (chunk_at content s e) (chunks_between content e es) (by h.1) (lens_bounded content es e h.2)
  where
    by : IsNextEnd content s e → e - s ≤ chunk_most
    by (inl x) = let a = x.may.most in omega (arith, a)
    by (inr x) = let a = open_small content s x.0 in let is = x.1 in omega (arith, a, is)

between_length : (content es : List ℕ) (s : ℕ) → length (chunks_between content s es) ≡ length es
between_length content [] s = refl
between_length content (e ∷ es) s = ap suc (between_length content es e)

pub store_within : (temp : ℕ) (content : List ℕ) → length content ≤ file_limit → AreEnds content (ends content) → chunks_of content ≡ chunks_between content 0 (ends content) → IsStore (store_of temp content)
store_within temp content small found is =
    let few = ends_few content (ends content) 0 (let z : 0 ≤ length content = omega arith in z) found in
    let n : length (chunks_of content) ≡ length (ends content) = ap length is ∙ between_length content (ends content) 0 in
    record {
      few = (let le : chunk_least * length (chunks_of content) ≤ file_limit + chunk_least = omega (arith, few, n, small) in le);
      lens = subst (λ cs. All IsChunkBounded cs) (sym is) (lens_bounded content (ends content) 0 found);
      named = (let le : 0 ≤ length (chunks_of content) = omega arith in le);
    }
