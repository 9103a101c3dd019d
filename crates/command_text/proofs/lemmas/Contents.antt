-- The bytes of contents, and how many they are.
use Rattle.std.proofs.Common.{◌≡◌, ℕ, zero, suc, ◌+◌, ◌-◌, ◌*◌, ◌/◌, ◌^◌, ◌<◌, List, [], ◌∷◌, ◌++◌, length, replicate, arith, refl, ap, ◌∙◌, append_assoc}
use Rattle.std.proofs.lemmas.List.{length-append, length-replicate}
use Rattle.command_text.specs.Content.{mark, marks, next_state, random_bytes, part_length, part_bytes, content_length, content_bytes}
use Rattle.command_text.specs.declared.content.Part.{Part}
use Rattle.command_text.specs.declared.content.Part.TheVariants.{Bytes, Zeros, Marks, Random}

-- ---- their number

mark_size : length mark ≡ 2048
unfolding mark
mark_size = refl

marks_size : (k : ℕ) → length (marks k) ≡ k * 2048
marks_size zero = refl
marks_size (suc k) = length-append mark (marks k) ∙ omega (arith, mark_size, marks_size k)

random_size : (s n : ℕ) → length (random_bytes s n) ≡ n
random_size s zero = refl
random_size s (suc n) = ap suc (random_size (next_state s) n)

pub part_size : (p : Part) → length (part_bytes p) ≡ part_length p
part_size (Bytes bytes) = refl
part_size (Zeros n) = length-replicate n 0
part_size (Marks k) = marks_size k
part_size (Random s n) = random_size s n

-- a content has as many bytes as its length says
pub content_size : (c : List Part) → length (content_bytes c) ≡ content_length c
content_size [] = refl
content_size (p ∷ ps) = length-append (part_bytes p) (content_bytes ps) ∙ omega (arith, part_size p, content_size ps)

-- ---- how they are made

pub mark_is : (front : List ℕ) → (front ++ replicate 2047 0) ++ 120 ∷ [] ≡ front ++ mark
unfolding mark
mark_is front = append_assoc front (replicate 2047 0) (120 ∷ [])

pub marks_go_on : (front total : List ℕ) (count i : ℕ) → i < count → front ++ marks (count - i) ≡ total → (front ++ mark) ++ marks (count - (i + 1)) ≡ total
marks_go_on front total count i lt so_far =
    let k : suc (count - (i + 1)) ≡ count - i = omega arith in
    append_assoc front mark (marks (count - (i + 1))) ∙ ap (λ n. front ++ marks n) k ∙ so_far

pub random_goes_on : (front total : List ℕ) (s count i : ℕ) → i < count → front ++ random_bytes s (count - i) ≡ total → (front ++ (next_state s / 2 ^ 56) ∷ []) ++ random_bytes (next_state s) (count - (i + 1)) ≡ total
random_goes_on front total s count i lt so_far =
    let k : suc (count - (i + 1)) ≡ count - i = omega arith in
    append_assoc front ((next_state s / 2 ^ 56) ∷ []) (random_bytes (next_state s) (count - (i + 1))) ∙ ap (λ n. front ++ random_bytes s n) k ∙ so_far
