-- Worked rows of the records of a store: the first that breaks a rule, and the tree of those that keep one.
use Rattle.std.specs.Prelude.{◌≡◌, ℕ, List, [], ◌∷◌, map, Some, None, Option, Result, Ok, Err, replicate, codes, refl}
use Rattle.store.specs.declared.record.Head.{Head}
use Rattle.store.specs.declared.record.Kept.{Kept}
use Rattle.store.specs.declared.record.Kept.TheVariants as kept
use Rattle.store.specs.declared.record.NodeKind.TheVariants as node_kind
use Rattle.tree_nodes.specs.declared.node.Node.{Node}
use Rattle.tree_nodes.specs.declared.node.Body.TheVariants.{Directory, File}
use Rattle.tree_reading.specs.Tree.{Tree, root, empty}
use Rattle.tree_load.specs.Load.{load, first_fault}

abbrev file : ℕ → ℕ → List ℕ → ℕ → List ℕ → Node
file id parent name version bytes = record { id = id; parent = parent; name = name; version = version; body = File bytes }

abbrev directory : ℕ → ℕ → List ℕ → ℕ → Node
directory id parent name version = record { id = id; parent = parent; name = name; version = version; body = Directory }

abbrev long : List ℕ
long = replicate 256 97

abbrev longest : List ℕ
longest = replicate 255 97

abbrev pub head : ℕ → ℕ → Kept
head next changes = kept.Head (record { next = next; changes = changes })

abbrev pub kept_file : ℕ → ℕ → List ℕ → Kept
kept_file id parent name = kept.Node (record { id = id; parent = parent; kind = node_kind.File; name = name })

abbrev pub kept_directory : ℕ → ℕ → List ℕ → Kept
kept_directory id parent name = kept.Node (record { id = id; parent = parent; kind = node_kind.Directory; name = name })

abbrev pub kept_content : ℕ → ℕ → List ℕ → Kept
kept_content id version bytes = kept.Content (record { id = id; version = version; bytes = bytes })

abbrev told : Result Tree ℕ → Option ℕ
told (Ok t) = None
told (Err k) = Some k

abbrev fault_of : List Kept → Option ℕ
fault_of records = told (load records)

-- no head; no content; a version that was not counted; and none
row_load : map fault_of ((kept_file 2 1 (codes "a") ∷ []) ∷ (head 3 1 ∷ kept_file 2 1 (codes "a") ∷ []) ∷ (head 3 1 ∷ kept_file 2 1 (codes "a") ∷ kept_content 2 2 [] ∷ []) ∷ (head 3 1 ∷ kept_file 2 1 (codes "a") ∷ kept_content 2 1 [] ∷ []) ∷ []) ≡ Some 0 ∷ Some 1 ∷ Some 2 ∷ None ∷ []
row_load = refl

-- the head: too many changes, a next id below 2 or above 2^63 + changes; a second head
row_load_heads : map fault_of ((head 2 4294967296 ∷ []) ∷ (head 1 0 ∷ []) ∷ (head 9223372036854775809 0 ∷ []) ∷ (head 9223372036854775808 0 ∷ []) ∷ (head 2 0 ∷ head 2 0 ∷ []) ∷ []) ≡ Some 0 ∷ Some 0 ∷ Some 0 ∷ None ∷ Some 1 ∷ []
row_load_heads = refl

-- nodes: an id that is the root's, or not below the next; two of one id, the later; a parent that is no directory, or isn't there; wrong names; two of one name in a directory, the later; nodes that are each above the other
row_load_nodes : map fault_of ((head 3 1 ∷ kept_directory 1 1 (codes "d") ∷ []) ∷ (head 3 1 ∷ kept_directory 3 1 (codes "d") ∷ []) ∷ (head 3 1 ∷ kept_directory 2 1 (codes "d") ∷ kept_directory 2 1 (codes "e") ∷ []) ∷ (head 4 1 ∷ kept_file 2 1 (codes "a") ∷ kept_content 2 1 [] ∷ kept_directory 3 2 (codes "d") ∷ []) ∷ (head 4 1 ∷ kept_directory 2 3 (codes "d") ∷ []) ∷ (head 4 1 ∷ kept_directory 2 1 (codes ".") ∷ []) ∷ (head 4 1 ∷ kept_directory 2 1 (codes "..") ∷ []) ∷ (head 4 1 ∷ kept_directory 2 1 [] ∷ []) ∷ (head 4 1 ∷ kept_directory 2 1 long ∷ []) ∷ (head 4 1 ∷ kept_directory 2 1 longest ∷ []) ∷ (head 4 1 ∷ kept_directory 2 1 (codes "d") ∷ kept_directory 3 1 (codes "d") ∷ []) ∷ (head 4 1 ∷ kept_directory 2 3 (codes "d") ∷ kept_directory 3 2 (codes "d") ∷ []) ∷ (head 4 1 ∷ kept_directory 3 2 (codes "d") ∷ kept_directory 2 1 (codes "d") ∷ []) ∷ []) ≡ Some 1 ∷ Some 1 ∷ Some 2 ∷ Some 3 ∷ Some 1 ∷ Some 1 ∷ Some 1 ∷ Some 1 ∷ Some 1 ∷ None ∷ Some 2 ∷ Some 1 ∷ None ∷ []
row_load_nodes = refl

-- contents: of no node; two of one file, the later; of a directory, the later of the two; version 0
row_load_contents : map fault_of ((head 3 1 ∷ kept_content 2 1 [] ∷ []) ∷ (head 3 1 ∷ kept_file 2 1 (codes "a") ∷ kept_content 2 1 [] ∷ kept_content 2 1 [] ∷ []) ∷ (head 3 1 ∷ kept_directory 2 1 (codes "d") ∷ kept_content 2 1 [] ∷ []) ∷ (head 3 1 ∷ kept_content 2 1 [] ∷ kept_directory 2 1 (codes "d") ∷ []) ∷ (head 3 1 ∷ kept_file 2 1 (codes "a") ∷ kept_content 2 0 [] ∷ []) ∷ (head 3 1 ∷ kept_content 2 1 [] ∷ kept_file 2 1 (codes "a") ∷ []) ∷ []) ≡ Some 1 ∷ Some 3 ∷ Some 2 ∷ Some 2 ∷ Some 2 ∷ None ∷ []
row_load_contents = refl

row_load_none : load [] ≡ Ok empty
row_load_none = refl

row_load_one : load (head 3 1 ∷ kept_file 2 1 (codes "a") ∷ kept_content 2 1 [] ∷ []) ≡ Ok (record { nodes = root 1 ∷ file 2 1 (codes "a") 1 [] ∷ []; next = 3; changes = 1 })
row_load_one = refl

-- two faults at once: the first record of the two is named, whichever rule comes first
row_load_two : map fault_of ((head 2 4294967296 ∷ head 2 0 ∷ []) ∷ (head 4 1 ∷ kept_directory 2 1 (codes ".") ∷ kept_directory 2 1 (codes "d") ∷ []) ∷ (head 4 1 ∷ kept_directory 2 1 (codes "d") ∷ kept_directory 2 1 (codes ".") ∷ []) ∷ (head 3 1 ∷ kept_content 2 0 [] ∷ kept_file 2 1 (codes "a") ∷ kept_directory 2 1 (codes "b") ∷ []) ∷ (head 3 1 ∷ kept_file 2 1 (codes "a") ∷ head 3 1 ∷ []) ∷ (kept_file 2 1 (codes "a") ∷ head 3 1 ∷ []) ∷ []) ≡ Some 0 ∷ Some 1 ∷ Some 2 ∷ Some 1 ∷ Some 1 ∷ Some 0 ∷ []
row_load_two = refl

-- names that hold a slash or a zero byte; a file's own name below another's; a directory and its content, each the later
row_load_more : map fault_of ((head 4 1 ∷ kept_directory 2 1 (97 ∷ 47 ∷ []) ∷ []) ∷ (head 4 1 ∷ kept_directory 2 1 (0 ∷ []) ∷ []) ∷ (head 5 1 ∷ kept_directory 2 1 (codes "d") ∷ kept_directory 3 2 (codes "d") ∷ []) ∷ (head 3 1 ∷ kept_directory 2 2 (codes "d") ∷ []) ∷ []) ≡ Some 1 ∷ Some 1 ∷ None ∷ Some 1 ∷ []
row_load_more = refl

-- the bytes of all contents: one that reaches the limit, and one that passes it
row_load_bytes : map (λ (sum : ℕ). first_fault (record { next = 3; changes = 1 }) (head 3 1 ∷ kept_content 2 1 (7 ∷ []) ∷ kept_file 2 1 (codes "a") ∷ []) 1 sum (kept_content 2 1 (7 ∷ []) ∷ kept_file 2 1 (codes "a") ∷ [])) (1073741823 ∷ 1073741824 ∷ []) ≡ None ∷ Some 1 ∷ []
row_load_bytes = refl

-- two directories and a file, in no order: by their directories and names, and the directories at the count of changes
row_load_tree : load (head 9 7 ∷ kept_content 5 3 (codes "xyz") ∷ kept_file 5 8 (codes "x") ∷ kept_directory 8 1 (codes "d") ∷ kept_directory 2 1 (codes "a") ∷ []) ≡ Ok (record { nodes = root 7 ∷ directory 2 1 (codes "a") 7 ∷ directory 8 1 (codes "d") 7 ∷ file 5 8 (codes "x") 3 (codes "xyz") ∷ []; next = 9; changes = 7 })
row_load_tree = refl
