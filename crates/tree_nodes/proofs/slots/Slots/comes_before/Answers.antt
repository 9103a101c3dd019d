use Rattle.std.proofs.Common.{◌≡◌, ◌∙◌, ℕ, sym, ap, arith, nat_lt}
use Rattle.tree_nodes.specs.declared.key.Key.{Key}
use Rattle.tree_nodes.specs.Places.{start_of, AreBytes}
use Rattle.tree_nodes.specs.Table.{node_at}
use Rattle.tree_nodes.proofs.Starts.{other_dir, other_start}
use Rattle.tree_nodes.proofs.slots.Slots.comes_before.Goals as goal

pub returns-then-key-dir : goal.returns-then-key-dir
returns-then-key-dir c =
    let n = node_at c.args.self.now.items c.args.place in
    let is = c.key_at-key.ensures.key in
    ap (λ (k : Key). nat_lt k.dir c.args.dir) is ∙ sym (other_dir n c.args.dir c.args.name.now (λ e. c.if-key-dir.true (ap (λ (k : Key). k.dir) is ∙ e)))

pub returns-then-key-start : goal.returns-then-key-start
returns-then-key-start c =
    let n = node_at c.args.self.now.items c.args.place in
    let is = c.key_at-key.ensures.key in
    let fits : AreBytes c.args.name.now = λ i. omega (arith, c.type_inv.name i) in
    ap (λ (k : Key). nat_lt k.start c.args.start) is ∙ ap (λ (s : ℕ). nat_lt (start_of n.name) s) c.requires
    ∙ sym (other_start n c.args.dir c.args.name.now c.key_at-key.ensures.bytes fits (sym (ap (λ (k : Key). k.dir) is) ∙ c.if-key-dir.false) (λ e. c.if-key-start.true (ap (λ (k : Key). k.start) is ∙ e ∙ sym c.requires)))
