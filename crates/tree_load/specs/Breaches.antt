-- The rule that a record breaks, by what stands with it.
use Rattle.std.specs.Prelude.{ℕ, ◌+◌, length, Option, Some, None, ◌&&◌, ◌||◌, ◌==◌, nat_lt, nat_le}
use Rattle.store.specs.declared.record.ContentRecord.{ContentRecord}
use Rattle.store.specs.declared.record.Head.{Head}
use Rattle.store.specs.declared.record.NodeRecord.{NodeRecord}
use Rattle.tree_reading.specs.Tree.{file_most, tree_most}
use Rattle.tree_load.specs.Found.{fits, found_place, is_directory_at, is_file_by}
use Rattle.tree_load.specs.Load.{is_at, is_name_well}
use Rattle.tree_load.specs.Rules.{misfit, unless}
use Rattle.tree_load.specs.declared.firsts.Found.{Found}
use Rattle.tree_load.specs.declared.rule.Rule.{Rule}
use Rattle.tree_load.specs.declared.rule.Rule.TheVariants as rule
use Rattle.tree_load.specs.declared.rules.Around.{Around}

abbrev pub node_rule_by : Head → ℕ → NodeRecord → Around → Option Rule
node_rule_by h k n a =
    unless (nat_le 2 n.id && nat_lt n.id h.next) rule.Id
    (unless (is_at k (found_place a.own)) rule.IdTwice
    (unless ((n.parent == 1) || is_directory_at a.above) rule.NoDirectory
    (unless (is_name_well n.name) rule.Name
    (unless (is_at k a.named) rule.NameTwice
    (unless a.reaches rule.Unreached
    (unless (fits n.kind k a.content) (misfit n.kind) None))))))

abbrev pub stray_by : Option Found → Rule
stray_by None = rule.NoFile
stray_by (Some f) = rule.OfDirectory

abbrev pub content_rule_by : Head → ℕ → ℕ → ContentRecord → Option Found → Option ℕ → Option Rule
content_rule_by h k sum c own content =
    unless (is_file_by k own) (stray_by own)
    (unless (is_at k content) rule.ContentTwice
    (unless (nat_le 1 c.version && nat_le c.version h.changes) rule.Version
    (unless (nat_le (length c.bytes) file_most) rule.TooBig
    (unless (nat_le (sum + length c.bytes) tree_most) rule.TreeFull None))))
