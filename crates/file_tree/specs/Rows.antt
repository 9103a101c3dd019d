-- Worked rows: what changes make of a tree, with their entries and versions.
use Rattle.std.specs.Prelude.{◌≡◌, [], ◌∷◌, Some, None, Ok, codes, refl}
use Rattle.sha1.specs.Sha1.{sha1}
use Rattle.tree_reading.specs.declared.call.CreateMode.TheVariants.{Unchecked, Guarded}
use Rattle.tree_reading.specs.declared.entry.EntryKind.TheVariants as entry_kind
use Rattle.tree_reading.specs.Tree.{root, empty}
use Rattle.file_tree.specs.Step.{create, mkdir, remove, rmdir, rename, replace}
use Rattle.tree_reading.specs.Rows.{file, directory, tree}
use Rattle.tree_reading.specs.PlanRows.{none}

-- a first file: the root's version is the count of changes
row_make : create empty none 1 (codes "a") Guarded ≡ (record { nodes = root 1 ∷ file 2 1 (codes "a") 1 [] ∷ []; next = 3; changes = 1 }, Ok (record { id = 2; version = 1; first = Some (record { file = 2; version = 1; kind = entry_kind.Make; len = 0; sha1 = sha1 [] }); second = None }))
row_make = refl

-- it's there, and stays as it is
row_make_again : create tree none 1 (codes "a") Unchecked ≡ (tree, Ok (record { id = 2; version = 1; first = None; second = None }))
row_make_again = refl

-- the id of a file that went is not given again, and its entry has the raised version
row_new_id : (remove (create empty none 1 (codes "a") Guarded).0 none 1 (codes "a") ≡ (record { nodes = root 2 ∷ []; next = 3; changes = 2 }, Ok (record { id = 2; version = 2; first = Some (record { file = 2; version = 2; kind = entry_kind.Remove; len = 0; sha1 = sha1 [] }); second = None })))
    × (create (remove (create empty none 1 (codes "a") Guarded).0 none 1 (codes "a")).0 none 1 (codes "a") Guarded ≡ (record { nodes = root 3 ∷ file 3 1 (codes "a") 1 [] ∷ []; next = 4; changes = 3 }, Ok (record { id = 3; version = 1; first = Some (record { file = 3; version = 1; kind = entry_kind.Make; len = 0; sha1 = sha1 [] }); second = None })))
row_new_id = (refl, refl)

-- a directory that is made has the count of changes as its version, and so has the one that it stands in
row_made_directory : mkdir empty none 1 (codes "d") ≡ (record { nodes = root 1 ∷ directory 2 1 (codes "d") 1 ∷ []; next = 3; changes = 1 }, Ok (record { id = 2; version = 1; first = Some (record { file = 2; version = 0; kind = entry_kind.Name; len = 0; sha1 = sha1 [] }); second = None }))
row_made_directory = refl

row_removed_directory : rmdir (mkdir empty none 1 (codes "d")).0 none 1 (codes "d") ≡ (record { nodes = root 2 ∷ []; next = 3; changes = 2 }, Ok (record { id = 2; version = 1; first = Some (record { file = 2; version = 0; kind = entry_kind.Name; len = 0; sha1 = sha1 [] }); second = None }))
row_removed_directory = refl

-- a rename over a file makes two entries, and both directories have the count after both
row_over : rename tree none 1 (codes "a") 3 (codes "x") ≡ (record { nodes = root 11 ∷ directory 3 1 (codes "d") 11 ∷ directory 6 1 (codes "e") 6 ∷ directory 5 3 (codes "s") 4 ∷ file 2 3 (codes "x") 1 (codes "abc") ∷ []; next = 7; changes = 11 }, Ok (record { id = 2; version = 1; first = Some (record { file = 4; version = 4; kind = entry_kind.Remove; len = 0; sha1 = sha1 [] }); second = Some (record { file = 2; version = 0; kind = entry_kind.Name; len = 0; sha1 = sha1 [] }) }))
row_over = refl

-- over a directory: both entries are of names
row_over_directory : rename tree none 1 (codes "e") 3 (codes "s") ≡ (record { nodes = root 11 ∷ file 2 1 (codes "a") 1 (codes "abc") ∷ directory 3 1 (codes "d") 11 ∷ directory 6 3 (codes "s") 6 ∷ file 4 3 (codes "x") 3 (codes "xyz") ∷ []; next = 7; changes = 11 }, Ok (record { id = 6; version = 6; first = Some (record { file = 5; version = 0; kind = entry_kind.Name; len = 0; sha1 = sha1 [] }); second = Some (record { file = 6; version = 0; kind = entry_kind.Name; len = 0; sha1 = sha1 [] }) }))
row_over_directory = refl

-- in place, a rename does nothing
row_in_place : rename tree none 3 (codes "s") 3 (codes "s") ≡ (tree, Ok (record { id = 5; version = 4; first = None; second = None }))
row_in_place = refl

-- within one directory
row_within : rename tree none 1 (codes "a") 1 (codes "z") ≡ (record { nodes = root 10 ∷ directory 3 1 (codes "d") 5 ∷ directory 6 1 (codes "e") 6 ∷ file 2 1 (codes "z") 1 (codes "abc") ∷ directory 5 3 (codes "s") 4 ∷ file 4 3 (codes "x") 3 (codes "xyz") ∷ []; next = 7; changes = 10 }, Ok (record { id = 2; version = 1; first = Some (record { file = 2; version = 0; kind = entry_kind.Name; len = 0; sha1 = sha1 [] }); second = None }))
row_within = refl

-- a content that is replaced leaves its directory's version
row_replaced : replace tree none 4 (codes "new") ≡ (record { nodes = root 9 ∷ file 2 1 (codes "a") 1 (codes "abc") ∷ directory 3 1 (codes "d") 5 ∷ directory 6 1 (codes "e") 6 ∷ directory 5 3 (codes "s") 4 ∷ file 4 3 (codes "x") 4 (codes "new") ∷ []; next = 7; changes = 10 }, Ok (record { id = 4; version = 4; first = Some (record { file = 4; version = 4; kind = entry_kind.Commit; len = 3; sha1 = sha1 (codes "new") }); second = None }))
row_replaced = refl
