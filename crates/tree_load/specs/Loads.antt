-- What loading a tree may answer.
use Rattle.std.specs.Prelude.{◌≡◌, ℕ, Result, Ok, Err}
use Rattle.file_tree.specs.State.{TreeView}
use Rattle.tree_reading.specs.Tree.{Tree}
use Rattle.tree_load.specs.declared.error.LoadError.{LoadError}
use Rattle.tree_load.specs.declared.error.LoadError.TheVariants as load_error

-- the tree, or the record that breaks a rule first; or that memory ran out
abbrev pub Loads : Result Tree ℕ → Result TreeView LoadError → Type 0
Loads wanted (Ok t) = wanted ≡ Ok t.tree
Loads wanted (Err load_error.Memory) = Unit {0}
Loads wanted (Err (load_error.BadRecord which)) = wanted ≡ Err which
