use Rattle.std.proofs.Common.{◌≡◌, ◌∙◌, ap, ℕ, ◌≤◌, arith, length}
use Rattle.tree_nodes.specs.Nodes.{with_id}
use Rattle.tree_reading.specs.Tree.{content_of, contents_size, size_in}
use Rattle.file_tree.proofs.lemmas.States.{some_node, refilled_limits, refilled_size, refilled_bytes}
use Rattle.file_tree.proofs.lemmas.Limits.{size_part}
use Rattle.file_tree.proofs.state.TreeState.refill.Goals as goal

not_less : (size gone all bytes : ℕ) → size ≡ gone → bytes ≡ all → gone ≤ all → size ≤ bytes
not_less size gone all bytes a b d = omega (arith, a, b, d)

pub overflow_sub-self : goal.overflow_sub-self
overflow_sub-self c =
    let ns = c.args.self.now.nodes.nodes in
    let found = some_node (with_id ns c.args.id) c.requires.there in
    not_less c.size_at.result (length (content_of found.0.body)) (contents_size ns) c.args.self.now.bytes (c.size_at.ensures ∙ ap size_in found.1) c.requires.state.counted (size_part ns c.args.id found.0 found.1)

pub returns-clause-state : goal.returns-clause-state
returns-clause-state c =
    let old = c.args.self.now in
    let ns = old.nodes.nodes in
    let found = some_node (with_id ns c.args.id) c.requires.there in
    record {
      limits = refilled_limits old.nodes c.set_content.new.self old.changes c.args.id found.0 c.args.version c.args.content c.requires.state.limits found.1 c.set_content.ensures.done c.requires.count c.requires.version c.requires.short c.requires.small;
      counted = refilled_bytes c.size_at.result (length (content_of found.0.body)) (length c.args.content) c.len.result (contents_size c.set_content.new.self.nodes) (contents_size ns) old.bytes (c.size_at.ensures ∙ ap size_in found.1) c.len.ensures c.requires.state.counted (refilled_size old.nodes c.set_content.new.self old.changes c.args.id found.0 c.args.version c.args.content c.requires.state.limits found.1 c.set_content.ensures.done) (size_part ns c.args.id found.0 found.1);
    }
