-- Places at worked chunks.
use Rattle.std.proofs.Common.{◌≡◌, refl, ap, ℕ, List, [], ◌∷◌, length, Bool, true≢false, inl, inr}
use Rattle.std.specs.Prelude.{◌==◌}
use Rattle.chunk_cut.specs.declared.chunk.Chunk.{Chunk}
use Rattle.chunk_index.specs.Index.{Indexed, key_of}
use Rattle.chunk_index.specs.declared.place.Place.{Place}
use Rattle.chunk_index.specs.Places.{no_index, indexed, LeavesSome}

-- two chunks of file 2, whose digests begin with 0 and with 1
abbrev digest : (first : ℕ) → List ℕ
digest first = first ∷ 0 ∷ 0 ∷ 0 ∷ 0 ∷ 0 ∷ 0 ∷ 9 ∷ 5 ∷ 5 ∷ 5 ∷ 5 ∷ 5 ∷ 5 ∷ 5 ∷ 5 ∷ 5 ∷ 5 ∷ 5 ∷ 5 ∷ []

abbrev one : Chunk
one = record { start = 0; len = 2048; digest = digest 0 }

abbrev two : Chunk
two = record { start = 2048; len = 10; digest = digest 1 }

abbrev of_pairs : List (ℕ × Place) → Indexed
of_pairs pairs = record { pairs = pairs; capacity = 65536 }

abbrev place_one : ℕ × Place
place_one = (9, record { file = 2; offset = 0; count = 2048 })

abbrev place_two : ℕ × Place
place_two = (72057594037927945, record { file = 2; offset = 2048; count = 10 })

-- the last that was put is the first
both : indexed no_index 2 (one ∷ two ∷ []) ≡ of_pairs (place_two ∷ place_one ∷ [])
unfolding key_of
both = refl

-- the first is left out, or the second, or both
first_left_out : LeavesSome no_index 2 (one ∷ two ∷ []) (of_pairs (place_two ∷ []))
unfolding key_of
first_left_out = inr (inl refl)

second_left_out : LeavesSome no_index 2 (one ∷ two ∷ []) (of_pairs (place_one ∷ []))
unfolding key_of
second_left_out = inl (inr refl)

all_left_out : LeavesSome no_index 2 (one ∷ two ∷ []) no_index
all_left_out = inr (inr refl)

-- where both were put, none is left out
abbrev holds_both : Indexed → Bool
holds_both index = length index.pairs == 2

none_left_out : LeavesSome no_index 2 (one ∷ two ∷ []) (of_pairs (place_two ∷ place_one ∷ [])) → ⊥
unfolding key_of
none_left_out (inl (inl some)) = some
none_left_out (inl (inr is)) = true≢false (ap holds_both is)
none_left_out (inr (inl is)) = true≢false (ap holds_both is)
none_left_out (inr (inr is)) = true≢false (ap holds_both is)

-- no place of no chunk can be left out
none_to_leave_out : LeavesSome no_index 2 [] no_index → ⊥
none_to_leave_out some = some
