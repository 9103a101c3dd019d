-- Where the first records of ids and names stand, as tables have it, and the rules of a record by what stands with it.
use Rattle.std.specs.Prelude.{◌≡◌, ℕ, List, length, Option, Some, None, Bool, false, not, ◌&&◌, ◌==◌, if◌then◌else◌, nat_lt, is_some}
use Rattle.std.specs.Borrow.{Bor}
use Rattle.std.specs.BTreeMap.{BTreeMap, get}
use Rattle.std.specs.Cmp.Lexicographic.{slice_cmp}
use Rattle.std.specs.Ordering.{nat_cmp, ordering_then}
use Rattle.std.specs.Str.{bytes_eq}
use Rattle.std.specs.declared.cmp.Ordering.{Ordering}
use Rattle.store.specs.declared.record.Head.{Head}
use Rattle.store.specs.declared.record.Kept.{Kept}
use Rattle.store.specs.declared.record.Kept.TheVariants as kept
use Rattle.store.specs.declared.record.NodeKind.{NodeKind}
use Rattle.store.specs.declared.record.NodeKind.TheVariants as node_kind
use Rattle.store.specs.declared.record.NodeRecord.{NodeRecord}
use Rattle.tree_load.specs.Above.{ups, walk}
use Rattle.tree_load.specs.Load.{first_node, first_named, first_content, place_of, is_directory_kind}
use Rattle.tree_load.specs.declared.firsts.Found.{Found}
use Rattle.tree_load.specs.declared.rules.Around.{Around}

-- ---- tables of first records

-- a directory and a name in it, as a key
abbrev pub NameKey : Type 0
NameKey = ℕ × Bor (List ℕ)

abbrev pub by_name : NameKey → NameKey → Ordering
by_name x y = ordering_then (nat_cmp x.0 y.0) (slice_cmp nat_cmp x.1.now y.1.now)

abbrev pub node_found : Option (ℕ × NodeRecord) → Option Found
node_found None = None
node_found (Some p) = Some (record { place = p.0; kind = p.1.kind })

-- the tables have the first records from the one with a number on
abbrev pub AreFirstNodes : ℕ → List Kept → BTreeMap ℕ Found → Type 0
AreFirstNodes k records m = (id : ℕ) → get nat_cmp m id ≡ node_found (first_node k records id)

abbrev pub AreFirstNames : ℕ → List Kept → BTreeMap NameKey ℕ → Type 0
AreFirstNames k records m = (key : NameKey) → get by_name m key ≡ first_named k records key.0 key.1.now

abbrev pub AreFirstContents : ℕ → List Kept → BTreeMap ℕ ℕ → Type 0
AreFirstContents k records m = (id : ℕ) → get nat_cmp m id ≡ place_of (first_content k records id)

-- what is found once the record before is noted
abbrev pub node_over : ℕ → Kept → Option Found → ℕ → Option Found
node_over k (kept.Head h) later id = later
node_over k (kept.Node n) later id = if n.id == id then Some (record { place = k; kind = n.kind }) else later
node_over k (kept.Content c) later id = later

abbrev pub content_over : ℕ → Kept → Option ℕ → ℕ → Option ℕ
content_over k (kept.Head h) later id = later
content_over k (kept.Node n) later id = later
content_over k (kept.Content c) later id = if c.id == id then Some k else later

abbrev pub name_over : ℕ → Kept → Option ℕ → ℕ → List ℕ → Option ℕ
name_over k (kept.Head h) later parent name = later
name_over k (kept.Node n) later parent name = if (n.parent == parent) && bytes_eq n.name name then Some k else later
name_over k (kept.Content c) later parent name = later

abbrev pub IsNameNoted : ℕ → Kept → BTreeMap NameKey ℕ → BTreeMap NameKey ℕ → Type 0
IsNameNoted k r old new = (q : NameKey) → get by_name new q ≡ name_over k r (get by_name old q) q.0 q.1.now

-- ---- the rules of a record by what stands with it

abbrev pub found_place : Option Found → Option ℕ
found_place None = None
found_place (Some f) = Some f.place

abbrev pub is_directory_at : Option Found → Bool
is_directory_at None = false
is_directory_at (Some f) = is_directory_kind f.kind

abbrev pub place_before : ℕ → Option ℕ → Bool
place_before k None = false
place_before k (Some j) = nat_lt j k

abbrev pub fits : NodeKind → ℕ → Option ℕ → Bool
fits node_kind.File k content = is_some content
fits node_kind.Directory k content = not (place_before k content)

abbrev pub is_file_by : ℕ → Option Found → Bool
is_file_by k None = false
is_file_by k (Some f) = not (is_directory_kind f.kind && nat_lt f.place k)

-- what stands with a node among the records
abbrev pub around_of : List Kept → ℕ → NodeRecord → Around
around_of all k n = record {
  own = node_found (first_node 0 all n.id);
  above = node_found (first_node 0 all n.parent);
  named = first_named 0 all n.parent n.name;
  content = place_of (first_content 0 all n.id);
  reaches = walk (length all) (ups all) k == length all;
}
