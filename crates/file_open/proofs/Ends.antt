-- Where chunks end, and their lengths together.
use Rattle.std.proofs.Common.{◌≡◌, refl, ap, ℕ, zero, suc, ◌+◌, ◌-◌, ◌<◌, List, [], ◌∷◌, ◌++◌, length, arith}
use Rattle.std.specs.Prelude.{slice_get, Option, Some, None}
use Rattle.chunk_cut.specs.Places.{end_of, end_from}
use Rattle.chunk_cut.specs.declared.chunk.Chunk.{Chunk}
use Rattle.hash_calls.specs.declared.call.Pair.{Pair}
use Rattle.file_open.specs.Shape.{chunks_from, with_pairs}
use Rattle.client_state.specs.View.{length_sum}

-- ---- the last chunk

none_some : {c : Chunk} → None ≡ Some c → ⊥
none_some e = cc

end_of_at : (at n : ℕ) (cs : List Chunk) (c : Chunk) → length cs ≡ suc n → slice_get cs n ≡ Some c → end_from at cs ≡ c.start + c.len
end_of_at at n [] c l e = absurd (none_some e)
end_of_at at zero (d ∷ []) c l e = ap end_or e
  where
    end_or : Option Chunk → ℕ
    end_or None = 0
    end_or (Some c) = c.start + c.len
end_of_at at (suc n) (d ∷ []) c l e = absurd (none_some e)
end_of_at at zero (d ∷ d2 ∷ cs) c l e = let no : ⊥ = omega (arith, l) in absurd no
end_of_at at (suc n) (d ∷ d2 ∷ cs) c l e = end_of_at (d.start + d.len) n (d2 ∷ cs) c (omega (arith, l)) e

pub end_of_last : (cs : List Chunk) (c : Chunk) → 0 < length cs → slice_get cs (length cs - 1) ≡ Some c → end_of cs ≡ c.start + c.len
end_of_last cs c some e = end_of_at 0 (length cs - 1) cs c (omega (arith, some)) e

-- ---- more chunks

pub end_from_append : (at : ℕ) (cs ds : List Chunk) → end_from at (cs ++ ds) ≡ end_from (end_from at cs) ds
end_from_append at [] ds = refl
end_from_append at (c ∷ cs) ds = end_from_append (c.start + c.len) cs ds

pub end_of_pairs : (cs : List Chunk) (ps : List Pair) → end_of (with_pairs cs ps) ≡ end_from (end_of cs) (chunks_from (end_of cs) ps)
end_of_pairs cs ps = end_from_append 0 cs (chunks_from (end_of cs) ps)

pub sum_append : (cs ds : List Chunk) → length_sum (cs ++ ds) ≡ length_sum cs + length_sum ds
sum_append [] ds = omega arith
sum_append (c ∷ cs) ds = let h = sum_append cs ds in omega (arith, h)

-- the chunks of pairs stand one behind another
pub end_from_sum : (at : ℕ) (ps : List Pair) → end_from at (chunks_from at ps) ≡ at + length_sum (chunks_from at ps)
end_from_sum at [] = omega arith
end_from_sum at (p ∷ ps) = let h = end_from_sum (at + p.size) ps in omega (arith, h)

pub pairs_length : (at : ℕ) (ps : List Pair) → length (chunks_from at ps) ≡ length ps
pairs_length at [] = refl
pairs_length at (p ∷ ps) = ap suc (pairs_length (at + p.size) ps)
