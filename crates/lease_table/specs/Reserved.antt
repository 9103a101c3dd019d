-- A map beside places that were reserved for entries that find no memory in it.
use Rattle.std.specs.Prelude.{◌≡◌, ◌⊎◌, ◌<◌, ℕ, length, IsSome, List, [], ◌∷◌, Option, Some, None, not, filter}
use Rattle.std.specs.BTreeMap.{insert_entry, is_at}
use Rattle.std.specs.List.Sorted.{IsStrictlySortedBy}
use Rattle.std.specs.Map.{keys_of, lookup}
use Rattle.std.specs.declared.cmp.Ordering.{Ordering}
use Rattle.std.specs.declared.cmp.Ordering.TheVariants.{Equal}

-- what a caller sees
pub record Reserved (K V : Type 0) : Type 0 where
  -- by rising key
  pub entries : List (K × V)
  -- how many of them stand in reserved places
  pub taken : ℕ
  -- how many such places there are
  pub places : ℕ

-- the first, or the second where there is none
abbrev pub or_else : {X : Type 0} → Option X → Option X → Option X
or_else (Some x) o = Some x
or_else None o = o

-- keys that compare equal are one
abbrev pub IsExact : {K : Type 0} → (K → K → Ordering) → Type 0
IsExact {K} cmp = (x y : K) → cmp x y ≡ Equal → x ≡ y

module _ {K V : Type 0} (cmp : K → K → Ordering) where
  -- the entry at a key
  abbrev pub at : List (K × V) → K → Option V
  at es key = lookup (is_at (cmp key)) es

  -- the entries of a map, and those in reserved places put among them
  abbrev pub all_of : List (K × V) → List (K × V) → List (K × V)
  all_of es [] = es
  all_of es (p ∷ ps) = insert_entry cmp (all_of es ps) p.0 p.1

  -- entries but those at this key
  abbrev pub without : List (K × V) → K → List (K × V)
  without ps key = filter (λ p. not (is_at (cmp key) p.0)) ps

  -- a value is put under the key without a further place, or there is one
  abbrev pub HasRoom : Reserved K V → K → Type 0
  HasRoom m key = IsSome (at m.entries key) ⊎ ((m.taken < m.places) ⊎ (length m.entries < m.places))

  -- no key stands in a reserved place, and in another or in the map as well
  abbrev pub AreApart : List (K × V) → List (K × V) → Type 0
  AreApart es [] = Unit {0}
  AreApart es (p ∷ ps) = (at es p.0 ≡ None) × (at ps p.0 ≡ None) × AreApart es ps

  -- a map by rising key, and reserved places beside it
  pub record IsWhole (es ps : List (K × V)) : Type 0 where
    pub exact : IsExact cmp
    pub sorted : IsStrictlySortedBy cmp (keys_of es)
    pub apart : AreApart es ps
