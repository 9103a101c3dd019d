-- Which records break a rule, by what stands with them and one after the other.
use Rattle.std.proofs.Common.{◌≡◌, ℕ, suc, ◌+◌, ◌<◌, ◌≤◌, List, [], ◌∷◌, ◌++◌, length, drop, append_assoc, append-nil, Option, Some, None, Result, Ok, Err, Bool, true, false, ◌==◌, ◌&&◌, ◌||◌, refl, sym, ap, ◌∙◌, subst, arith, if◌then◌else◌, nat_lt, nat_le}
use mathlib.Core.Bool.{true≢false}
use Rattle.std.specs.Prelude.{is_none}
use Rattle.std.specs.List.{slice_get}
use Rattle.std.proofs.lemmas.Bool.Decides.{nat_tests}
use Rattle.store.specs.declared.record.ContentRecord.{ContentRecord}
use Rattle.store.specs.declared.record.Head.{Head}
use Rattle.store.specs.declared.record.Kept.{Kept}
use Rattle.store.specs.declared.record.Kept.TheVariants as kept
use Rattle.store.specs.declared.record.NodeKind.{NodeKind}
use Rattle.store.specs.declared.record.NodeRecord.{NodeRecord}
use Rattle.tree_reading.specs.Tree.{Tree, file_most, tree_most}
use Rattle.tree_load.proofs.Climbs.{place_same, reach_at}
use Rattle.tree_load.proofs.Loading.{head_first}
use Rattle.tree_load.proofs.Ruled.{both_true, directory_same, file_same, fits_by}
use Rattle.tree_load.proofs.Tables.{drop_next, drop_past}
use Rattle.tree_load.specs.Above.{ups, walk}
use Rattle.tree_load.specs.Breaches.{content_rule_by, node_rule_by, stray_by}
use Rattle.tree_load.specs.Found.{node_found, is_directory_at, fits, is_file_by, around_of}
use Rattle.tree_load.specs.Load.{first_node, first_named, first_content, place_of, is_at, is_directory_found, is_head_well, is_name_well, reaches, content_fits, is_its_files, is_well, size_of, first_fault, first_head, fault, load, loaded_if}
use Rattle.tree_load.specs.Rules.{breach, broken, broken_from, content_rule, held_to, head_rule, misfit, node_rule, rule_of, stray, sum_with, unless, widest}
use Rattle.tree_load.specs.declared.rule.Broken.{Broken}
use Rattle.tree_load.specs.declared.rule.Rule.{Rule}
use Rattle.tree_load.specs.declared.rule.Rule.TheVariants as rule

-- ---- by what stands with them

sixth : (ab c d e f g g' i : Bool) (m : Rule) → (ab ≡ true → c ≡ true → g ≡ g')
    → unless ab rule.Id (unless c rule.IdTwice (unless d rule.NoDirectory (unless e rule.Name (unless f rule.NameTwice (unless g rule.Unreached (unless i m None))))))
    ≡ unless ab rule.Id (unless c rule.IdTwice (unless d rule.NoDirectory (unless e rule.Name (unless f rule.NameTwice (unless g' rule.Unreached (unless i m None))))))
sixth true true d e f g g' i m same = ap (λ x. unless d rule.NoDirectory (unless e rule.Name (unless f rule.NameTwice (unless x rule.Unreached (unless i m None))))) (same refl refl)
sixth true false d e f g g' i m same = refl
sixth false c d e f g g' i m same = refl

pub node_same : (h : Head) (all : List Kept) (k : ℕ) (n : NodeRecord) → node_rule_by h k n (around_of all k n) ≡ node_rule h all k n
node_same h all k n =
    let own = ap (λ o. is_at k o) (place_same (first_node 0 all n.id)) in
    let above = directory_same (first_node 0 all n.parent) in
    let content = fits_by n.kind k (first_content 0 all n.id) in
    (λ t. unless (nat_le 2 n.id && nat_lt n.id h.next) rule.Id (unless (own t) rule.IdTwice (unless ((n.parent == 1) || above t) rule.NoDirectory (unless (is_name_well n.name) rule.Name (unless (is_at k (first_named 0 all n.parent n.name)) rule.NameTwice (unless (walk (length all) (ups all) k == length all) rule.Unreached (unless (content t) (misfit n.kind) None)))))))
    ∙ sixth (nat_le 2 n.id && nat_lt n.id h.next) (is_at k (place_of (first_node 0 all n.id))) ((n.parent == 1) || is_directory_found (first_node 0 all n.parent)) (is_name_well n.name) (is_at k (first_named 0 all n.parent n.name)) (walk (length all) (ups all) k == length all) (reaches (length all) all n.id) (content_fits n.kind k (first_content 0 all n.id)) (misfit n.kind)
    (λ least first. sym (reach_at all (length all) k n.id first (both_true (nat_le 2 n.id) (nat_lt n.id h.next) least).0))

stray_same : (o : Option (ℕ × NodeRecord)) → stray_by (node_found o) ≡ stray o
stray_same None = refl
stray_same (Some p) = refl

pub content_same : (h : Head) (all : List Kept) (k sum : ℕ) (c : ContentRecord) → content_rule_by h k sum c (node_found (first_node 0 all c.id)) (place_of (first_content 0 all c.id)) ≡ content_rule h all k sum c
content_same h all k sum c =
    let own = file_same k (first_node 0 all c.id) in
    let whose = stray_same (first_node 0 all c.id) in
    λ t. unless (own t) (whose t) (unless (is_at k (place_of (first_content 0 all c.id))) rule.ContentTwice (unless (nat_le 1 c.version && nat_le c.version h.changes) rule.Version (unless (nat_le (length c.bytes) file_most) rule.TooBig (unless (nat_le (sum + length c.bytes) tree_most) rule.TreeFull None))))

-- ---- one that breaks none is well

by_unless : (b : Bool) (r : Rule) (o : Option Rule) → is_none (unless b r o) ≡ (b && is_none o)
by_unless true r o = refl
by_unless false r o = refl

eight : (a b c d e f g i : Bool) (m : Rule) → (a && b && c && d && e && f && g && i)
    ≡ is_none (unless (a && b) rule.Id (unless c rule.IdTwice (unless d rule.NoDirectory (unless e rule.Name (unless f rule.NameTwice (unless g rule.Unreached (unless i m None)))))))
eight true true true true true true true true m = refl
eight true true true true true true true false m = refl
eight true true true true true true false i m = refl
eight true true true true true false g i m = refl
eight true true true true false f g i m = refl
eight true true true false e f g i m = refl
eight true true false d e f g i m = refl
eight true false c d e f g i m = refl
eight false b c d e f g i m = refl

six : (a b c d e f : Bool) (m : Rule) → (a && b && c && d && e && f)
    ≡ is_none (unless a m (unless b rule.ContentTwice (unless (c && d) rule.Version (unless e rule.TooBig (unless f rule.TreeFull None)))))
six true true true true true true m = refl
six true true true true true false m = refl
six true true true true false f m = refl
six true true true false e f m = refl
six true true false d e f m = refl
six true false c d e f m = refl
six false b c d e f m = refl

pub well_rule : (h : Head) (all : List Kept) (k sum : ℕ) (r : Kept) → is_well h all k sum r ≡ is_none (rule_of h all k sum r)
well_rule h all k sum (kept.Head g) = refl
well_rule h all k sum (kept.Node n) = eight (nat_le 2 n.id) (nat_lt n.id h.next) (is_at k (place_of (first_node 0 all n.id))) ((n.parent == 1) || is_directory_found (first_node 0 all n.parent)) (is_name_well n.name) (is_at k (first_named 0 all n.parent n.name)) (reaches (length all) all n.id) (content_fits n.kind k (first_content 0 all n.id)) (misfit n.kind)
well_rule h all k sum (kept.Content c) = six (is_its_files k (first_node 0 all c.id)) (is_at k (place_of (first_content 0 all c.id))) (nat_le 1 c.version) (nat_le c.version h.changes) (nat_le (length c.bytes) file_most) (nat_le (sum + length c.bytes) tree_most) (stray (first_node 0 all c.id))

-- ---- the sum stays small

last_of : (f : Bool) → unless f rule.TreeFull None ≡ None → f ≡ true
last_of true e = refl
last_of false e = cc

later_of : (b : Bool) (r : Rule) (o : Option Rule) → unless b r o ≡ None → o ≡ None
later_of true r o e = e
later_of false r o e = cc

pub sum_small : (h : Head) (all : List Kept) (k sum : ℕ) (r : Kept) → None ≡ rule_of h all k sum r → sum ≤ tree_most → sum + size_of r ≤ tree_most
sum_small h all k sum (kept.Head g) e small = cc
sum_small h all k sum (kept.Node n) e small = omega (arith, small)
sum_small h all k sum (kept.Content c) e small =
    let full = unless (nat_le (sum + length c.bytes) tree_most) rule.TreeFull None in
    let big = unless (nat_le (length c.bytes) file_most) rule.TooBig full in
    let counted = unless (nat_le 1 c.version && nat_le c.version h.changes) rule.Version big in
    let once = unless (is_at k (place_of (first_content 0 all c.id))) rule.ContentTwice counted in
    let last : nat_le (sum + length c.bytes) tree_most ≡ true = last_of (nat_le (sum + length c.bytes) tree_most) (later_of (nat_le (length c.bytes) file_most) rule.TooBig full (later_of (nat_le 1 c.version && nat_le c.version h.changes) rule.Version big (later_of (is_at k (place_of (first_content 0 all c.id))) rule.ContentTwice counted (later_of (is_its_files k (first_node 0 all c.id)) (stray (first_node 0 all c.id)) once (sym e))))) in
    grind (arith, nat_tests, last)

-- ---- all of them

pub none_broken : (records : List Kept) → records ≡ [] → broken records ≡ []
none_broken records none = ap broken none

pub head_broken : (records : List Kept) (h : Head) → first_head records ≡ Some h → broken records ≡ breach 0 (head_rule (is_head_well h)) ++ broken_from (held_to (is_head_well h) h) records 1 0 (drop 1 records)
head_broken records h is = ap broken (head_first records h is) ∙ ap (λ all. breach 0 (head_rule (is_head_well h)) ++ broken_from (held_to (is_head_well h) h) all 1 0 (drop 1 records)) (sym (head_first records h is))

pub headless : (records : List Kept) → (records ≡ [] → ⊥) → first_head records ≡ None → broken records ≡ breach 0 (Some rule.Headless) ++ broken_from widest records 0 0 (drop 0 records)
headless [] some none = absurd (some refl)
headless (kept.Head h ∷ rs) some none = absurd cc
headless (kept.Node n ∷ rs) some none = refl
headless (kept.Content c ∷ rs) some none = refl

-- ---- the first of them

-- a list that begins with this record, or none where there is none
abbrev pub Begins : Option ℕ → List Broken → Type 0
Begins None bs = bs ≡ []
Begins (Some k) bs = (b : Broken) × (rest : List Broken) × (bs ≡ b ∷ rest) × (b.which ≡ k)

first_from : (h : Head) (all : List Kept) (k sum : ℕ) (rs : List Kept) → Begins (first_fault h all k sum rs) (broken_from h all k sum rs)
first_from h all k sum [] = refl
first_from h all k sum (r ∷ rs) = by (first_from h all (suc k) (sum + size_of r) rs) (rule_of h all k sum r) (is_well h all k sum r) (well_rule h all k sum r)
  where
    by : Begins (first_fault h all (suc k) (sum + size_of r) rs) (broken_from h all (suc k) (sum + size_of r) rs) → (o : Option Rule) (w : Bool) → w ≡ is_none o → Begins (if w then first_fault h all (suc k) (sum + size_of r) rs else Some k) (breach k o ++ broken_from h all (suc k) (sum_with o sum r) rs)
    by later None true e = later
    by later None false e = absurd (true≢false (sym e))
    by later (Some b) true e = absurd (true≢false e)
    by later (Some b) false e = (record { which = k; rule = b }, broken_from h all (suc k) sum rs, refl, refl)

of_fault : (h : Head) (rs : List Kept) → Begins (fault h rs) (broken (kept.Head h ∷ rs))
of_fault h rs = by (is_head_well h)
  where
    by : (w : Bool) → Begins (if w then first_fault h (kept.Head h ∷ rs) 1 0 rs else Some 0) (breach 0 (head_rule w) ++ broken_from (held_to w h) (kept.Head h ∷ rs) 1 0 rs)
    by true = first_from h (kept.Head h ∷ rs) 1 0 rs
    by false = (record { which = 0; rule = rule.HeadLimits }, broken_from widest (kept.Head h ∷ rs) 1 0 rs, refl, refl)

-- what loading answers of a fault, or of none
abbrev Named : Result Tree ℕ → List Broken → Type 0
Named (Ok t) bs = bs ≡ []
Named (Err k) bs = Begins (Some k) bs

of_load : (records : List Kept) → Named (load records) (broken records)
of_load [] = refl
of_load (kept.Head h ∷ rs) = by (fault h rs) (of_fault h rs)
  where
    by : (o : Option ℕ) → Begins o (broken (kept.Head h ∷ rs)) → Named (loaded_if h (kept.Head h ∷ rs) o) (broken (kept.Head h ∷ rs))
    by None b = b
    by (Some k) b = b
of_load (kept.Node n ∷ rs) = (record { which = 0; rule = rule.Headless }, broken_from widest (kept.Node n ∷ rs) 0 0 (kept.Node n ∷ rs), refl, refl)
of_load (kept.Content c ∷ rs) = (record { which = 0; rule = rule.Headless }, broken_from widest (kept.Content c ∷ rs) 0 0 (kept.Content c ∷ rs), refl, refl)

pub none_where : (records : List Kept) (t : Tree) → load records ≡ Ok t → broken records ≡ []
none_where records t e = subst (λ (a : Result Tree ℕ). Named a (broken records)) e (of_load records)

pub first_where : (records : List Kept) (k : ℕ) → load records ≡ Err k → Begins (Some k) (broken records)
first_where records k e = subst (λ (a : Result Tree ℕ). Named a (broken records)) e (of_load records)

-- ---- one after the other, as `add_from` goes over them

pub one_more : (h : Head) (all : List Kept) (k sum sum' : ℕ) (r : Kept) (o : Option Rule) (found found' whole : List Broken)
    → slice_get all k ≡ Some r → o ≡ rule_of h all k sum r → sum' ≡ sum_with o sum r → found' ≡ found ++ breach k o
    → found ++ broken_from h all k sum (drop k all) ≡ whole → found' ++ broken_from h all (k + 1) sum' (drop (k + 1) all) ≡ whole
one_more h all k sum sum' r o found found' whole at is counted added rest =
    let next : k + 1 ≡ suc k = omega arith in
    let sum_is = counted ∙ ap (λ z. sum_with z sum r) is in
    let found_is = added ∙ ap (λ z. found ++ breach k z) is in
    let later = broken_from h all (suc k) (sum_with (rule_of h all k sum r) sum r) (drop (k + 1) all) in
    (λ i. found_is i ++ broken_from h all (next i) (sum_is i) (drop (k + 1) all))
    ∙ append_assoc found (breach k (rule_of h all k sum r)) later
    ∙ ap (λ rs. found ++ broken_from h all k sum rs) (sym (drop_next all k r at))
    ∙ rest

pub none_more : (h : Head) (all : List Kept) (k sum : ℕ) (found whole : List Broken) → length all ≤ k
    → found ++ broken_from h all k sum (drop k all) ≡ whole → found ≡ whole
none_more h all k sum found whole past rest = sym (ap (λ rs. found ++ broken_from h all k sum rs) (drop_past all k past) ∙ append-nil found) ∙ rest

-- what `broken` goes by
pub ruleset by_broken = (none_broken, head_broken, headless)
