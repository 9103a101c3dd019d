-- Worked rows: with a store that doesn't fail each step is the tree's; with one that does, what would be done is told IO.
use Rattle.std.specs.Prelude.{◌≡◌, [], ◌∷◌, Err, codes, refl, true, false}
use Rattle.xdr_codec.specs.declared.status.Status.TheVariants.{Exist, Io, NoEnt}
use Rattle.tree_nodes.specs.declared.node.Body.TheVariants.{Directory, File}
use Rattle.file_tree.specs.Step.{create, mkdir, remove, rename, replace}
use Rattle.tree_reading.specs.Tree.{Tree, root}
use Rattle.tree_reading.specs.declared.call.CreateMode.TheVariants.{Unchecked, Guarded}
use Rattle.tree_reading.specs.declared.call.Reservation.{Reservation}
use Rattle.file_tree.specs.Stores.{stored}

-- a file "a" and an empty directory "d"
abbrev tree : Tree
tree = record {
  nodes = root 2 ∷ record { id = 2; parent = 1; name = codes "a"; version = 1; body = File [] } ∷ record { id = 3; parent = 1; name = codes "d"; version = 2; body = Directory } ∷ [];
  next = 4;
  changes = 2;
}

abbrev none : Reservation
none = record { entries = 0; bytes = 0 }

row_done : stored false tree (mkdir tree none 1 (codes "n")) ≡ mkdir tree none 1 (codes "n")
row_done = refl

row_failed : (stored true tree (mkdir tree none 1 (codes "n")) ≡ (tree, Err Io)) × (stored true tree (create tree none 1 (codes "n") Guarded) ≡ (tree, Err Io)) × (stored true tree (remove tree none 1 (codes "a")) ≡ (tree, Err Io)) × (stored true tree (rename tree none 1 (codes "a") 3 (codes "b")) ≡ (tree, Err Io)) × (stored true tree (replace tree none 2 (codes "new")) ≡ (tree, Err Io))
row_failed = (refl, refl, refl, refl, refl)

-- what is refused is refused as ever, and a step that changes nothing asks no store
row_not_asked : (stored true tree (mkdir tree none 1 (codes "a")) ≡ (tree, Err Exist)) × (stored true tree (remove tree none 1 (codes "n")) ≡ (tree, Err NoEnt)) × (stored true tree (create tree none 1 (codes "a") Unchecked) ≡ create tree none 1 (codes "a") Unchecked) × (stored true tree (rename tree none 1 (codes "a") 1 (codes "a")) ≡ rename tree none 1 (codes "a") 1 (codes "a"))
row_not_asked = (refl, refl, refl, refl)
