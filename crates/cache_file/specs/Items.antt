-- The items that a cache file holds: each is some bytes, and no more than a chunk has, as an opaque of XDR: behind their number, with
-- zeros up to a multiple of four (RFC 4506, section 4.10).
use Rattle.std.specs.Prelude.{◌≡◌, ℕ, zero, suc, ◌≤◌, List, [], ◌∷◌, ◌++◌, length, Bool, Option, Some, None, Result, Ok, Err, ◌==◌, if◌then◌else◌}
use Rattle.std.specs.List.{All, flat_map}
use Rattle.limits.specs.declared.TheConstants.{CHUNK_MOST}
use Rattle.xdr_codec.specs.Format.{Input}
use Rattle.xdr_codec.specs.Xdr.{opaque_read, opaque_spell}
use Rattle.xdr_codec.specs.declared.fault.Fault.{Fault}

abbrev pub IsItem : List ℕ → Type 0
IsItem item = (1 ≤ length item) × (length item ≤ CHUNK_MOST)

-- all of them, one behind the other
abbrev pub spelled : List (List ℕ) → List ℕ
spelled items = flat_map opaque_spell items

-- no whole item stands at the front
abbrev pub HasNone : List ℕ → Type 0
HasNone bytes = (item rest : List ℕ) → IsItem item → ¬ (bytes ≡ opaque_spell item ++ rest)

-- the longest list of whole items that begins the bytes
pub record AreItems (bytes : List ℕ) (items : List (List ℕ)) : Type 0 where
  pub each : All IsItem items
  pub rest : List ℕ
  pub begins : bytes ≡ spelled items ++ rest
  pub longest : HasNone rest

-- ---- how they are found: `AreItems` holds of no other list

-- what was read, where that is an item, and what follows it
abbrev pub item_if : Result (List ℕ × Input) Fault → Option (List ℕ × Input)
item_if (Ok r) = if length r.0 == 0 then None else Some r
item_if (Err f) = None

-- the item at the front, where a whole one stands there
abbrev pub item_at : Input → Option (List ℕ × Input)
item_at i = item_if (opaque_read CHUNK_MOST i)

-- it, and those that follow it
abbrev pub with_item : (Input → List (List ℕ)) → Option (List ℕ × Input) → List (List ℕ)
with_item others None = []
with_item others (Some r) = r.0 ∷ others r.1

-- so many at most
abbrev pub items_from : ℕ → Input → List (List ℕ)
items_from zero i = []
items_from (suc more) i = with_item (items_from more) (item_at i)

abbrev pub items : List ℕ → List (List ℕ)
items bytes = items_from (length bytes) (record { at = 0; rest = bytes })

-- ---- what is taken for a cache file

-- The format has no mark of its own: the whole of it is items, as what is saved always is. An empty file has none of them.
abbrev pub IsCache : List ℕ → Type 0
IsCache bytes = (xs : List (List ℕ)) × All IsItem xs × (bytes ≡ spelled xs)

-- the same, as it is found: the items in front take all of the bytes
abbrev pub is_cache : List ℕ → Bool
is_cache bytes = length (spelled (items bytes)) == length bytes
