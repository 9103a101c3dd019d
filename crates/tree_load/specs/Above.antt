-- Going up from the nodes of records by their places.
use Rattle.std.specs.Prelude.{◌≡◌, ℕ, zero, suc, ◌+◌, ◌<◌, List, [], ◌∷◌, ◌++◌, map, length, Option, Some, None, ◌==◌, if◌then◌else◌, slice_index}
use Rattle.store.specs.declared.record.Kept.{Kept}
use Rattle.store.specs.declared.record.Kept.TheVariants as kept
use Rattle.tree_load.specs.Load.{first_node, place_of}

-- where the node of an id stands: the root behind all records, and behind it what is nowhere
abbrev pub or_nowhere : ℕ → Option ℕ → ℕ
or_nowhere count None = count + 1
or_nowhere count (Some k) = k

abbrev pub spot_by : ℕ → ℕ → Option ℕ → ℕ
spot_by count id place = if id == 1 then count else or_nowhere count place

-- where the directory of a record stands
abbrev pub up_by : ℕ → (ℕ → Option ℕ) → Kept → ℕ
up_by count place (kept.Head h) = count + 1
up_by count place (kept.Node n) = spot_by count n.parent (place n.parent)
up_by count place (kept.Content c) = count + 1

-- and of each; the root and what is nowhere stay where they are
abbrev pub ups_by : List Kept → (ℕ → Option ℕ) → List ℕ
ups_by all place = map (up_by (length all) place) all ++ length all ∷ (length all + 1) ∷ []

abbrev pub ups : List Kept → List ℕ
ups all = ups_by all (λ id. place_of (first_node 0 all id))

-- where so many steps come to
abbrev pub walk : ℕ → List ℕ → ℕ → ℕ
walk zero step k = k
walk (suc n) step k = walk n step (slice_index step k)

-- where so many steps come to from each place
pub record AreWalks (count : ℕ) (step walks : List ℕ) : Type 0 where
  pub len : length walks ≡ length step
  pub each : (k : ℕ) → k < length step → slice_index walks k ≡ walk count step k

-- all places are within
abbrev pub StayWithin : List ℕ → ℕ → Type 0
StayWithin step n = (k : ℕ) → k < length step → slice_index step k < n
