use Rattle.std.proofs.Common.{rules, ◌≡◌, None, drop, sym, ap, ◌∙◌}
use Rattle.tree_load.specs.Load.{fault, first_head}
use Rattle.tree_load.proofs.Loading.{stored_no, stored_good}
use Rattle.tree_load.proofs.load.load.Goals as goal

pub returns-then-is_empty-clause-stored : goal.returns-then-is_empty-clause-stored
returns-then-is_empty-clause-stored g c = stored_no c.args.records.items c.args.records.len c.in_ok-tree.tree.tree c.args.records.ok.0 c.if-is_empty.ensures c.in_ok-tree.ensures

pub returns-clause-stored : goal.returns-clause-stored
returns-clause-stored g c =
    let well : fault c.in-Some.head (drop 1 c.args.records.items) ≡ None = search rules in
    stored_good c.args.records.items c.in-Some.head c.in_ok-tree-2.tree.tree (ap (λ rs. first_head rs) (sym c.as_slice.ensures.value) ∙ sym c.in-Some.ensures) well c.in_ok-tree-2.ensures
