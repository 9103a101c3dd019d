-- What callers see of a map and of the places beside it, at worked entries.
use Rattle.std.specs.Prelude.{◌≡◌, ℕ, List, [], ◌∷◌, Some, None, refl}
use Rattle.std.specs.Ordering.{nat_cmp}
use Rattle.lease_table.specs.Reserved.{at, all_of, without}

-- in the map
abbrev held : List (ℕ × ℕ)
held = (2, 20) ∷ (5, 50) ∷ []

-- in places beside it, in no order
abbrev spared : List (ℕ × ℕ)
spared = (7, 70) ∷ (3, 30) ∷ []

one_list : all_of nat_cmp held spared ≡ (2, 20) ∷ (3, 30) ∷ (5, 50) ∷ (7, 70) ∷ []
one_list = refl

nothing_beside : all_of nat_cmp held [] ≡ held
nothing_beside = refl

all_beside : all_of nat_cmp [] spared ≡ (3, 30) ∷ (7, 70) ∷ []
all_beside = refl

-- wherever it stands
in_the_map : at nat_cmp (all_of nat_cmp held spared) 5 ≡ Some 50
in_the_map = refl

beside_it : at nat_cmp (all_of nat_cmp held spared) 3 ≡ Some 30
beside_it = refl

nowhere : at nat_cmp (all_of nat_cmp held spared) 4 ≡ None
nowhere = refl

taken_out : without nat_cmp spared 7 ≡ (3, 30) ∷ []
taken_out = refl

not_beside : without nat_cmp spared 5 ≡ spared
not_beside = refl
