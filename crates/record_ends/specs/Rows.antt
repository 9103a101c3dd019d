-- A worked row: records that come at once.
use Rattle.std.specs.Prelude.{◌≡◌, List, ℕ, [], ◌∷◌, ◌++◌, None}
use Rattle.std.proofs.Common.{refl}
use Rattle.rpc_record.specs.Records.{record_of}
use Rattle.record_ends.specs.Ends.{nothing_kept, coming}

abbrev contents : List ℕ
contents = 0 ∷ 0 ∷ 0 ∷ 7 ∷ []

abbrev marked_contents : List ℕ
marked_contents = 128 ∷ 0 ∷ 0 ∷ 4 ∷ contents

-- two records at once, and the beginning of a third
two_row : coming nothing_kept (marked_contents ++ marked_contents ++ 128 ∷ 0 ∷ []) ≡ record { records = contents ∷ contents ∷ []; rest = 128 ∷ 0 ∷ []; spoilt = None }
unfolding record_of
two_row = refl
