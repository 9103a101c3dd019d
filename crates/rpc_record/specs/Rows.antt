-- Worked examples.
use Rattle.std.specs.Prelude.{◌≡◌, false, ℕ, ◌*◌, List, [], ◌∷◌, ◌++◌, Some, None, replicate, length}
use Rattle.std.proofs.Common.{refl}
use Rattle.rpc_record.specs.declared.refusal.Refusal.TheVariants.{TooBig, TooManyFragments}
use Rattle.rpc_record.specs.Records.{record_of, split, marked, fed, nothing_read}
use Rattle.rpc_record.specs.Spoilt.{Start, start_spell, promised, header_count}

abbrev contents : List ℕ
contents = 0 ∷ 0 ∷ 0 ∷ 7 ∷ 0 ∷ 0 ∷ 0 ∷ 0 ∷ 9 ∷ []

whole_row : split (128 ∷ 0 ∷ 0 ∷ 9 ∷ contents) ≡ record { records = contents ∷ []; rest = []; spoilt = None }
unfolding record_of
whole_row = refl

fragments_row : split (0 ∷ 0 ∷ 0 ∷ 4 ∷ 0 ∷ 0 ∷ 0 ∷ 7 ∷ 0 ∷ 0 ∷ 0 ∷ 0 ∷ 128 ∷ 0 ∷ 0 ∷ 5 ∷ 0 ∷ 0 ∷ 0 ∷ 0 ∷ 9 ∷ 128 ∷ []) ≡ record { records = contents ∷ []; rest = 128 ∷ []; spoilt = None }
unfolding record_of
fragments_row = refl

-- the header 80020001 promises a byte too many
too_big_row : split (marked contents ++ 128 ∷ 2 ∷ 0 ∷ 1 ∷ []) ≡ record { records = contents ∷ []; rest = []; spoilt = Some (TooBig 131073) }
unfolding record_of
too_big_row = refl

abbrev empties : ℕ → List ℕ
empties n = replicate (4 * n) 0

-- an empty fragment counts: the 1,025th is one too many, whatever it is, and the 1,024th may be the last
too_many_row : split (empties 1025) ≡ record { records = []; rest = []; spoilt = Some TooManyFragments }
unfolding record_of
too_many_row = refl

-- where that header also promises a byte too many, this is why
both_row : split (empties 1024 ++ 0 ∷ 2 ∷ 0 ∷ 1 ∷ []) ≡ record { records = []; rest = []; spoilt = Some (TooBig 131073) }
unfolding record_of
both_row = refl

most_fragments_row : split (empties 1023 ++ marked []) ≡ record { records = [] ∷ []; rest = []; spoilt = None }
unfolding record_of
most_fragments_row = refl

not_the_last_row : length (split (empties 1024)).rest ≡ 4096
unfolding record_of
not_the_last_row = refl

-- the longest record that a header may promise
most_bytes_row : split (128 ∷ 2 ∷ 0 ∷ 0 ∷ 5 ∷ []) ≡ record { records = []; rest = 128 ∷ 2 ∷ 0 ∷ 0 ∷ 5 ∷ []; spoilt = None }
unfolding record_of
most_bytes_row = refl

-- the headers' lengths add up: 131,072 in the first, and one more in the second
sum_row : split (0 ∷ 0 ∷ 0 ∷ 1 ∷ 5 ∷ 0 ∷ 2 ∷ 0 ∷ 0 ∷ []) ≡ record { records = []; rest = []; spoilt = Some (TooBig 131073) }
unfolding record_of
sum_row = refl

-- and these are the bytes of that start: a whole fragment, and a header that promises too much beside it
abbrev sum_start : Start
sum_start = record { earlier = (5 ∷ []) ∷ []; last = false; len = 131072 }

start_row : start_spell sum_start ≡ 0 ∷ 0 ∷ 0 ∷ 1 ∷ 5 ∷ 0 ∷ 2 ∷ 0 ∷ 0 ∷ []
start_row = refl

promised_row : (promised sum_start ≡ 131073) × (header_count sum_start ≡ 2)
promised_row = (refl, refl)

-- a piece after a piece
pieces_row : (fed (fed nothing_read (128 ∷ 0 ∷ [])).0 (0 ∷ 1 ∷ 9 ∷ 128 ∷ [])) ≡ (record { rest = 128 ∷ []; spoilt = None }, record { records = (9 ∷ []) ∷ []; spoilt = None })
unfolding record_of
pieces_row = refl
