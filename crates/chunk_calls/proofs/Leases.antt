-- What a GETLEASE tells of a file, by what the tree's calls give.
use Rattle.std.proofs.Common.{◌≡◌, sym, ap, ◌∙◌, ℕ, List, length, Option, Some, Result, Ok, Err}
use Rattle.xdr_codec.specs.Handle.{file_of}
use Rattle.xdr_codec.specs.declared.status.Status.{Status}
use Rattle.xdr_codec.specs.declared.answer.Answer.TheVariants.{Done, Failed}
use Rattle.xdr_codec.specs.declared.attr.Attr.{Attr}
use Rattle.tree_nodes.specs.declared.node.Node.{Node as TreeNode}
use Rattle.tree_nodes.specs.declared.node.Body.{Body}
use Rattle.tree_nodes.specs.declared.node.Body.TheVariants.{File as Content}
use Rattle.tree_nodes.specs.Nodes.{with_id}
use Rattle.tree_reading.specs.Chain.{◌>>=◌}
use Rattle.tree_reading.specs.Reading.{attr, attr_of, attr_body, file_attr}
use Rattle.tree_reading.specs.Tree.{Tree, or_stale}
use Rattle.chunk_calls.specs.Answers.{node_with, node_found, node_named, node_of, lease_answer}

module _ (term : ℕ) (t : Tree) (handle : List ℕ) (id : ℕ) (n : TreeNode) (c : List ℕ) where
  -- the tree tells the attributes that the answer has
  file_is : with_id t.nodes id ≡ Some n → n.body ≡ Content c → attr t.nodes id ≡ Ok (file_attr n.id n.version (length c))
  file_is at is =
      ap (λ (o : Option TreeNode). or_stale o >>= λ (m : TreeNode). Ok (attr_of t.nodes m)) at
      ∙ ap (λ (b : Body). Ok (attr_body t.nodes n b)) is

  told_is : file_of handle ≡ Some id → with_id t.nodes id ≡ Some n → n.body ≡ Content c → lease_answer term (node_of t handle) ≡ Done (record { attr = file_attr n.id n.version (length c); version = n.version; term = term })
  told_is names at is =
      ap (λ (o : Option ℕ). lease_answer term (node_named t o)) names
      ∙ ap (λ (o : Option TreeNode). lease_answer term (node_found o)) at
      ∙ ap (λ (b : Body). lease_answer term (Ok (node_with n b))) is

  abbrev Told : Type 0
  Told = Result Attr Status

  ok_same : (a b : Attr) (r : Told) → r ≡ Ok a → r ≡ Ok b → a ≡ b
  ok_same a b r e f = cc

  pub lease_done : file_of handle ≡ Some id → with_id t.nodes id ≡ Some n → n.body ≡ Content c → (a : Attr) → attr t.nodes id ≡ Ok a → Done (record { attr = a; version = n.version; term = term }) ≡ lease_answer term (node_of t handle)
  lease_done names at is a got =
      ap (λ (x : Attr). Done (record { attr = x; version = n.version; term = term })) (ok_same a (file_attr n.id n.version (length c)) (attr t.nodes id) got (file_is at is))
      ∙ sym (told_is names at is)

  -- it never refuses them
  pub lease_failed : file_of handle ≡ Some id → with_id t.nodes id ≡ Some n → n.body ≡ Content c → (s : Status) → attr t.nodes id ≡ Err s → Failed s tt ≡ lease_answer term (node_of t handle)
  lease_failed names at is s got = absurd (never s (file_attr n.id n.version (length c)) (attr t.nodes id) got (file_is at is))
    where
      never : (s : Status) (a : Attr) (r : Told) → r ≡ Err s → r ≡ Ok a → ⊥
      never s a r e f = cc
