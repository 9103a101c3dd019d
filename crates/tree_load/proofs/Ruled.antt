-- The rules of records, by what stands with them and one after the other.
use Rattle.std.proofs.Common.{◌≡◌, ℕ, zero, suc, ◌+◌, ◌<◌, ◌≤◌, List, [], ◌∷◌, length, drop, Option, Some, None, Bool, true, false, ◌==◌, ◌&&◌, refl, sym, ap, ◌∙◌, arith, if◌then◌else◌, nat_le, get_or}
use mathlib.Core.Bool.{true≢false}
use Rattle.std.specs.BTreeMap.{get}
use Rattle.std.specs.List.{slice_get, slice_index}
use Rattle.std.specs.Ordering.{nat_cmp}
use Rattle.std.proofs.lemmas.Bool.Decides.{nat_tests}
use Rattle.store.specs.declared.record.ContentRecord.{ContentRecord}
use Rattle.store.specs.declared.record.Head.{Head}
use Rattle.store.specs.declared.record.Kept.{Kept}
use Rattle.store.specs.declared.record.Kept.TheVariants as kept
use Rattle.store.specs.declared.record.NodeKind.{NodeKind}
use Rattle.store.specs.declared.record.NodeKind.TheVariants as node_kind
use Rattle.store.specs.declared.record.NodeRecord.{NodeRecord}
use Rattle.tree_reading.specs.Tree.{file_most, tree_most}
use Rattle.tree_load.proofs.Climbs.{length_ups}
use Rattle.tree_load.proofs.Tables.{drop_next, drop_past}
use Rattle.tree_load.specs.Above.{ups, walk}
use Rattle.tree_load.specs.Known.{IsKnown}
use Rattle.tree_load.specs.declared.firsts.Found.{Found}
use Rattle.tree_load.specs.declared.rules.Around.{Around}
use Rattle.tree_load.specs.declared.rules.Known.{Known}
use Rattle.tree_load.specs.Found.{NameKey, by_name, node_found, is_directory_at, fits, is_file_by, around_of}
use Rattle.tree_load.specs.Load.{first_node, first_named, first_content, place_of, is_at, is_directory_found, reaches, content_fits, is_its_files, is_well, size_of, first_fault}

-- ---- by what stands with them

pub directory_same : (o : Option (ℕ × NodeRecord)) → is_directory_at (node_found o) ≡ is_directory_found o
directory_same None = refl
directory_same (Some p) = refl

pub file_same : (k : ℕ) (o : Option (ℕ × NodeRecord)) → is_file_by k (node_found o) ≡ is_its_files k o
file_same k None = refl
file_same k (Some p) = refl

pub fits_by : (kind : NodeKind) (k : ℕ) (o : Option (ℕ × ContentRecord)) → fits kind k (place_of o) ≡ content_fits kind k o
fits_by node_kind.File k None = refl
fits_by node_kind.File k (Some p) = refl
fits_by node_kind.Directory k None = refl
fits_by node_kind.Directory k (Some p) = refl

-- ---- one after the other

pub both_true : (a b : Bool) → (a && b) ≡ true → (a ≡ true) × (b ≡ true)
both_true true b e = (refl, e)
both_true false b e = absurd (true≢false (sym e))

pub fault_on : (h : Head) (all : List Kept) (k sum : ℕ) (r : Kept) → slice_get all k ≡ Some r → is_well h all k sum r ≡ true → first_fault h all k sum (drop k all) ≡ first_fault h all (k + 1) (sum + size_of r) (drop (k + 1) all)
fault_on h all k sum r at well =
    let next : k + 1 ≡ suc k = omega arith in
    ap (λ rs. first_fault h all k sum rs) (drop_next all k r at)
    ∙ ap (λ b. if b then first_fault h all (suc k) (sum + size_of r) (drop (k + 1) all) else Some k) well
    ∙ ap (λ j. first_fault h all j (sum + size_of r) (drop (k + 1) all)) (sym next)

pub fault_here : (h : Head) (all : List Kept) (k sum : ℕ) (r : Kept) → slice_get all k ≡ Some r → is_well h all k sum r ≡ false → first_fault h all k sum (drop k all) ≡ Some k
fault_here h all k sum r at bad =
    ap (λ rs. first_fault h all k sum rs) (drop_next all k r at)
    ∙ ap (λ b. if b then first_fault h all (suc k) (sum + size_of r) (drop (k + 1) all) else Some k) bad

pub fault_none : (h : Head) (all : List Kept) (k sum : ℕ) → length all ≤ k → first_fault h all k sum (drop k all) ≡ None
fault_none h all k sum past = ap (λ rs. first_fault h all k sum rs) (drop_past all k past)

pub sum_on : (h : Head) (all : List Kept) (k sum : ℕ) (r : Kept) → is_well h all k sum r ≡ true → sum ≤ tree_most → sum + size_of r ≤ tree_most
sum_on h all k sum (kept.Head g) well small = absurd (true≢false (sym well))
sum_on h all k sum (kept.Node n) well small = omega (arith, small)
sum_on h all k sum (kept.Content c) well small =
    let last : nat_le (sum + length c.bytes) tree_most ≡ true = (both_true (is_its_files k (first_node 0 all c.id) && is_at k (place_of (first_content 0 all c.id)) && nat_le 1 c.version && nat_le c.version h.changes && nat_le (length c.bytes) file_most) (nat_le (sum + length c.bytes) tree_most) well).1 in
    grind (arith, nat_tests, last)

-- ---- what is known of a node

index_any : (xs : List ℕ) (k d : ℕ) → k < length xs → get_or xs k d ≡ slice_index xs k
index_any [] k d less = absurd (omega (arith, less))
index_any (x ∷ xs) zero d less = refl
index_any (x ∷ xs) (suc k) d less = index_any xs k d (omega (arith, less))

pub stands_is : (all : List Kept) (w : Known) (place : ℕ) (n : NodeRecord) (own above : Option Found) (named content : Option ℕ) (top : ℕ) (key : NameKey) → IsKnown all w → place < length all → own ≡ get nat_cmp w.nodes n.id → above ≡ get nat_cmp w.nodes n.parent → key.0 ≡ n.parent → key.1.now ≡ n.name → named ≡ get by_name w.names key → content ≡ get nat_cmp w.contents n.id → top ≡ get_or w.tops.items place top → ◌≡◌ {A = Around} (record { own = own; above = above; named = named; content = content; reaches = top == length all }) (around_of all place n)
stands_is all w place n own above named content top key known within own_is above_is dir name named_is content_is top_is =
    let a = own_is ∙ known.nodes n.id in
    let b = above_is ∙ known.nodes n.parent in
    let c = named_is ∙ known.names key ∙ (λ i. first_named 0 all (dir i) (name i)) in
    let d = content_is ∙ known.contents n.id in
    let small : place < length (ups all) = omega (arith, within, length_ups all) in
    let long : place < length w.tops.items = omega (arith, small, known.tops.len) in
    let e : top ≡ walk (length all) (ups all) place = top_is ∙ index_any w.tops.items place top long ∙ known.tops.each place small in
    λ i. record { own = a i; above = b i; named = c i; content = d i; reaches = e i == length all }
