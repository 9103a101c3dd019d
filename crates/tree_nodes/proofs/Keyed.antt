-- Places with their keys beside them.
use Rattle.std.proofs.Common.{◌≡◌, ℕ, zero, suc, List, [], ◌∷◌, ◌++◌, length, set, map, refl, sym, ap, ◌∙◌, arith}
use Rattle.std.specs.List.{slice_get, AllByRecursion}
use Rattle.std.proofs.lemmas.List.{map-set, map-append}
use Rattle.tree_nodes.specs.declared.key.Key.{Key}
use Rattle.tree_nodes.specs.declared.slot.Slot.{Slot}
use Rattle.tree_nodes.specs.declared.slot.Slot.TheVariants.{Gone}
use Rattle.tree_nodes.specs.Places.{start_of, key_of, key_or, node_of, AreBytes, AreKeyed}
use Rattle.tree_nodes.specs.Table.{blank, node_at}
use Rattle.tree_nodes.proofs.Changes.{all_set, all_end}

abbrev key_in : Slot → Key
key_in s = key_of (node_of s)

abbrev AreNamed : List Slot → Type 0
AreNamed slots = AllByRecursion (λ s. AreBytes (node_of s).name) slots

abbrev blank_key : Key
blank_key = record { dir = 0; start = 0 }

no_bytes : AreBytes []
no_bytes i = omega arith

pub blank_is : key_of blank ≡ blank_key
unfolding start_of
blank_is = refl

-- ---- what is beside a place

key_at : (slots : List Slot) (place : ℕ) → key_or (slice_get (map key_in slots) place) ≡ key_of (node_at slots place)
key_at [] place = sym blank_is
key_at (s ∷ ss) zero = refl
key_at (s ∷ ss) (suc k) = key_at ss k

pub key_beside : (slots : List Slot) (keys : List Key) (place : ℕ) → AreKeyed slots keys → key_or (slice_get keys place) ≡ key_of (node_at slots place)
key_beside slots keys place k = ap (λ z. key_or (slice_get z place)) k.keyed ∙ key_at slots place

named_at : (slots : List Slot) (place : ℕ) → AreNamed slots → AreBytes (node_at slots place).name
named_at [] place all = no_bytes
named_at (s ∷ ss) zero all = all.0
named_at (s ∷ ss) (suc k) all = named_at ss k all.1

pub bytes_at : (slots : List Slot) (keys : List Key) (place : ℕ) → AreKeyed slots keys → AreBytes (node_at slots place).name
bytes_at slots keys place k = named_at slots place k.bytes

length_map : (slots : List Slot) → length (map key_in slots) ≡ length slots
length_map [] = refl
length_map (s ∷ ss) = ap (λ n. suc n) (length_map ss)

pub as_many : (slots : List Slot) (keys : List Key) → AreKeyed slots keys → length keys ≡ length slots
as_many slots keys k = ap length k.keyed ∙ length_map slots

-- ---- a place that changes, and one more

pub keyed_set : (slots slots' : List Slot) (keys keys' : List Key) (place : ℕ) (s : Slot) (key : Key) → AreKeyed slots keys → AreBytes (node_of s).name → key ≡ key_of (node_of s) → slots' ≡ set slots place s → keys' ≡ set keys place key → AreKeyed slots' keys'
keyed_set slots slots' keys keys' place s key k fit is slots_are keys_are = rw (slots_are, keys_are) (record {
  keyed = ap (λ z. set z place key) k.keyed ∙ ap (λ z. set (map key_in slots) place z) is ∙ sym (map-set key_in slots place s);
  bytes = all_set (λ t. AreBytes (node_of t).name) slots place s k.bytes fit;
})

pub keyed_gone : (slots slots' : List Slot) (keys keys' : List Key) (place id : ℕ) → AreKeyed slots keys → slots' ≡ set slots place (Gone id) → keys' ≡ set keys place blank_key → AreKeyed slots' keys'
keyed_gone slots slots' keys keys' place id k slots_are keys_are = keyed_set slots slots' keys keys' place (Gone id) blank_key k no_bytes (sym blank_is) slots_are keys_are

pub keyed_more : (slots slots' : List Slot) (keys keys' : List Key) (id : ℕ) → AreKeyed slots keys → slots' ≡ slots ++ Gone id ∷ [] → keys' ≡ keys ++ blank_key ∷ [] → AreKeyed slots' keys'
keyed_more slots slots' keys keys' id k slots_are keys_are = rw (slots_are, keys_are) (record {
  keyed = ap (λ z. z ++ blank_key ∷ []) k.keyed ∙ ap (λ z. map key_in slots ++ z ∷ []) (sym blank_is) ∙ sym (map-append key_in slots (Gone id ∷ []));
  bytes = all_end (λ t. AreBytes (node_of t).name) slots (Gone id) k.bytes no_bytes;
})

pub none_keyed : AreKeyed [] []
none_keyed = record { keyed = refl; bytes = tt }

-- ---- a place more, with a node at once

pub set_end : (slots : List Slot) (x y : Slot) → set (slots ++ x ∷ []) (length slots) y ≡ slots ++ y ∷ []
set_end [] x y = refl
set_end (s ∷ ss) x y = ap (λ z. s ∷ z) (set_end ss x y)
