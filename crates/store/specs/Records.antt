-- What a store keeps, and what a change does to it.
use Rattle.std.specs.Prelude.{ℕ, suc, List, [], ◌∷◌, Option, Some, None, Bool, true, false, not, ◌==◌, if◌then◌else◌}
use Rattle.std.specs.List.{filter}
use Rattle.store.specs.declared.record.Head.{Head}
use Rattle.store.specs.declared.record.Kept.{Kept}
use Rattle.store.specs.declared.record.Kept.TheVariants as kept
use Rattle.store.specs.declared.record.RecordChange.{RecordChange}
use Rattle.store.specs.declared.record.RecordChange.TheVariants as change

abbrev pub is_head : Kept → Bool
is_head (kept.Head h) = true
is_head (kept.Node n) = false
is_head (kept.Content c) = false

-- whether a record is the node with the id
abbrev pub is_node : ℕ → Kept → Bool
is_node id (kept.Head h) = false
is_node id (kept.Node n) = n.id == id
is_node id (kept.Content c) = false

-- whether a record is the content of the file with the id
abbrev pub is_content : ℕ → Kept → Bool
is_content id (kept.Head h) = false
is_content id (kept.Node n) = false
is_content id (kept.Content c) = c.id == id

-- whether a record is of the node with the id
abbrev pub is_of : ℕ → Kept → Bool
is_of id (kept.Head h) = false
is_of id (kept.Node n) = n.id == id
is_of id (kept.Content c) = c.id == id

-- whether the first record takes the place of the second
abbrev pub takes_place : Kept → Kept → Bool
takes_place (kept.Head h) r = is_head r
takes_place (kept.Node n) r = is_node n.id r
takes_place (kept.Content c) r = is_content c.id r

-- the records with this one in the place of the one that it replaces, or at the end
abbrev pub with_record : Kept → List Kept → List Kept
with_record r [] = r ∷ []
with_record r (x ∷ xs) = let later : List Kept = with_record r xs in if takes_place r x then r ∷ xs else x ∷ later

abbrev pub changed : RecordChange → List Kept → List Kept
changed (change.Node n) records = with_record (kept.Node n) records
changed (change.Content c) records = with_record (kept.Content c) records
changed (change.Drop id) records = filter (λ r. not (is_of id r)) records

abbrev pub changed_too : Option RecordChange → List Kept → List Kept
changed_too None records = records
changed_too (Some c) records = changed c records

abbrev pub headless : List Kept → List Kept
headless records = filter (λ r. not (is_head r)) records

-- the head becomes the only one, in front; then the changes are made, in order; all else stays
abbrev pub applied : Head → RecordChange → Option RecordChange → List Kept → List Kept
applied head a b records = changed_too b (changed a (kept.Head head ∷ headless records))

-- how many places they need
abbrev pub places : Option RecordChange → ℕ
places None = 1
places (Some c) = 2

-- the place of the first record that this one replaces; the number of records where there is none
abbrev pub place_of : Kept → List Kept → ℕ
place_of r [] = 0
place_of r (x ∷ xs) = let later : ℕ = place_of r xs in if takes_place r x then 0 else suc later
