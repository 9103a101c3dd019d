-- Which rule a record breaks first, and all records that break one.
use Rattle.std.specs.Prelude.{ℕ, suc, ◌+◌, ◌^◌, List, [], ◌∷◌, ◌++◌, length, Option, Some, None, Bool, true, false, ◌&&◌, ◌||◌, ◌==◌, nat_lt, nat_le}
use Rattle.store.specs.declared.record.ContentRecord.{ContentRecord}
use Rattle.store.specs.declared.record.Head.{Head}
use Rattle.store.specs.declared.record.Kept.{Kept}
use Rattle.store.specs.declared.record.Kept.TheVariants as kept
use Rattle.store.specs.declared.record.NodeKind.{NodeKind}
use Rattle.store.specs.declared.record.NodeKind.TheVariants as node_kind
use Rattle.store.specs.declared.record.NodeRecord.{NodeRecord}
use Rattle.tree_reading.specs.Tree.{changes_most, file_most, tree_most}
use Rattle.tree_load.specs.Load.{first_node, first_named, first_content, place_of, is_at, is_directory_found, is_head_well, is_name_well, reaches, content_fits, is_its_files, size_of}
use Rattle.tree_load.specs.declared.rule.Rule.{Rule}
use Rattle.tree_load.specs.declared.rule.Rule.TheVariants as rule
use Rattle.tree_load.specs.declared.rule.Broken.{Broken}

-- this rule where it isn't kept, else what is broken later
abbrev pub unless : (is_kept : Bool) → Rule → (later : Option Rule) → Option Rule
unless true r later = later
unless false r later = Some r

-- what is wrong with a node whose content doesn't fit
abbrev pub misfit : NodeKind → Rule
misfit node_kind.File = rule.NoContent
misfit node_kind.Directory = rule.HasContent

abbrev pub node_rule : Head → List Kept → ℕ → NodeRecord → Option Rule
node_rule h all k n =
    unless (nat_le 2 n.id && nat_lt n.id h.next) rule.Id
    (unless (is_at k (place_of (first_node 0 all n.id))) rule.IdTwice
    (unless ((n.parent == 1) || is_directory_found (first_node 0 all n.parent)) rule.NoDirectory
    (unless (is_name_well n.name) rule.Name
    (unless (is_at k (first_named 0 all n.parent n.name)) rule.NameTwice
    (unless (reaches (length all) all n.id) rule.Unreached
    (unless (content_fits n.kind k (first_content 0 all n.id)) (misfit n.kind) None))))))

-- what is wrong with a content that is no file's
abbrev pub stray : Option (ℕ × NodeRecord) → Rule
stray None = rule.NoFile
stray (Some p) = rule.OfDirectory

-- sum: the bytes of the contents before it
abbrev pub content_rule : Head → List Kept → ℕ → ℕ → ContentRecord → Option Rule
content_rule h all k sum c =
    unless (is_its_files k (first_node 0 all c.id)) (stray (first_node 0 all c.id))
    (unless (is_at k (place_of (first_content 0 all c.id))) rule.ContentTwice
    (unless (nat_le 1 c.version && nat_le c.version h.changes) rule.Version
    (unless (nat_le (length c.bytes) file_most) rule.TooBig
    (unless (nat_le (sum + length c.bytes) tree_most) rule.TreeFull None))))

abbrev pub rule_of : Head → List Kept → ℕ → ℕ → Kept → Option Rule
rule_of h all k sum (kept.Head g) = Some rule.SecondHead
rule_of h all k sum (kept.Node n) = node_rule h all k n
rule_of h all k sum (kept.Content c) = content_rule h all k sum c

-- the bytes of a content that breaks no rule are counted
abbrev pub sum_with : Option Rule → ℕ → Kept → ℕ
sum_with None sum r = sum + size_of r
sum_with (Some b) sum r = sum

abbrev pub breach : ℕ → Option Rule → List Broken
breach k None = []
breach k (Some b) = record { which = k; rule = b } ∷ []

-- all from the record with a number on that break a rule
abbrev pub broken_from : Head → List Kept → ℕ → ℕ → List Kept → List Broken
broken_from h all k sum [] = []
broken_from h all k sum (r ∷ rs) = breach k (rule_of h all k sum r) ++ broken_from h all (suc k) (sum_with (rule_of h all k sum r) sum r) rs

-- a head that no id and no version is past
abbrev pub widest : Head
widest = record { next = 2 ^ 63 + changes_most; changes = changes_most }

-- the head that the others are held to
abbrev pub held_to : Bool → Head → Head
held_to true h = h
held_to false h = widest

abbrev pub head_rule : Bool → Option Rule
head_rule well = unless well rule.HeadLimits None

-- all records that break a rule, each with the first that it breaks; where there is no head within its limits the others are
-- held to the widest
abbrev pub broken : List Kept → List Broken
broken [] = []
broken (kept.Head h ∷ rs) = breach 0 (head_rule (is_head_well h)) ++ broken_from (held_to (is_head_well h) h) (kept.Head h ∷ rs) 1 0 rs
broken (kept.Node n ∷ rs) = record { which = 0; rule = rule.Headless } ∷ broken_from widest (kept.Node n ∷ rs) 0 0 (kept.Node n ∷ rs)
broken (kept.Content c ∷ rs) = record { which = 0; rule = rule.Headless } ∷ broken_from widest (kept.Content c ∷ rs) 0 0 (kept.Content c ∷ rs)
