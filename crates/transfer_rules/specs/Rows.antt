-- The rules at worked values.
use Rattle.std.specs.Prelude.{◌≡◌, refl, ℕ, ◌∷◌, [], Some, None, true, false, nat_lt}
use Rattle.xdr_codec.specs.declared.answer.Answer.TheVariants.{Done, Failed}
use Rattle.xdr_codec.specs.declared.status.Status.TheVariants as status
use Rattle.transfer_rules.specs.Limits.{tries_most}
use Rattle.transfer_rules.specs.Chunks.{all_came}
use Rattle.transfer_rules.specs.Pieces.{broken_sum, range_end}
use Rattle.transfer_rules.specs.Answers.{wants_bytes}

-- a fourth attempt follows a third, and no fifth the fourth
fourth_attempt : nat_lt 3 tries_most ≡ true
fourth_attempt = refl

no_fifth : nat_lt 4 tries_most ≡ false
no_fifth = refl

-- of three chunks: one that is under way, one that wasn't asked for, all
one_under_way : all_came {A = ℕ} (2 ∷ []) 3 3 ≡ false
one_under_way = refl

one_left : all_came {A = ℕ} [] 2 3 ≡ false
one_left = refl

three_came : all_came {A = ℕ} [] 3 3 ≡ true
three_came = refl

-- chunks to byte 7 are no whole file of 8, and may have others behind them; those past its end, or none, can't
too_short : broken_sum true 7 8 1 ≡ Some (7, 8)
too_short = refl

more_to_come : broken_sum false 7 8 1 ≡ None
more_to_come = refl

past_the_end : broken_sum false 9 8 1 ≡ Some (9, 8)
past_the_end = refl

more_behind_none : broken_sum false 7 8 0 ≡ Some (0, 1)
more_behind_none = refl

-- only where the server knows no chunk of the digest
known : wants_bytes (Done tt) ≡ false
known = refl

not_known : wants_bytes (Failed status.HashNotFound tt) ≡ true
not_known = refl

refused_otherwise : wants_bytes (Failed status.NoSpc tt) ≡ false
refused_otherwise = refl

-- bytes 3 to 7 lie in seven bytes, and not in six
to_the_last : range_end 3 4 7 ≡ Some 7
to_the_last = refl

one_past : range_end 3 4 6 ≡ None
one_past = refl
