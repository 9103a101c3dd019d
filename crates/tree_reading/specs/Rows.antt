-- Worked rows: what is read, each status in its order, and pages of a directory.
use Rattle.std.specs.Prelude.{◌≡◌, ℕ, List, [], ◌∷◌, map, Result, Ok, Err, replicate, codes, refl, Bool, true, false}
use Rattle.xdr_codec.specs.declared.status.Status.{Status}
use Rattle.xdr_codec.specs.declared.status.Status.TheVariants.{NoEnt, Acces, NotDir, Inval, NameTooLong, Stale, BadCookie, TooSmall}
use Rattle.nfs3_calls.specs.declared.listing.Entry.{Entry}
use Rattle.tree_nodes.specs.declared.node.Node.{Node}
use Rattle.tree_nodes.specs.declared.node.Body.TheVariants.{Directory, File}
use Rattle.xdr_codec.specs.declared.attr.Kind.TheVariants as attr_kind
use Rattle.tree_reading.specs.Chain.{◌>>=◌}
use Rattle.tree_reading.specs.Tree.{Tree, root}
use Rattle.tree_reading.specs.Reading.{attr, lookup, read, list}

-- ---- a tree: a file "a", a directory "d" that has a directory "s" and a file "x", and an empty directory "e"

abbrev pub file : ℕ → ℕ → List ℕ → ℕ → List ℕ → Node
file id parent name version bytes = record { id = id; parent = parent; name = name; version = version; body = File bytes }

abbrev pub directory : ℕ → ℕ → List ℕ → ℕ → Node
directory id parent name version = record { id = id; parent = parent; name = name; version = version; body = Directory }

abbrev pub tree : Tree
tree = record {
  nodes = root 9 ∷ file 2 1 (codes "a") 1 (codes "abc") ∷ directory 3 1 (codes "d") 5 ∷ directory 6 1 (codes "e") 6 ∷ directory 5 3 (codes "s") 4 ∷ file 4 3 (codes "x") 3 (codes "xyz") ∷ [];
  next = 7;
  changes = 9;
}

abbrev pub long : List ℕ
long = replicate 256 97

abbrev pub longest : List ℕ
longest = replicate 255 97

abbrev pub slashed : List ℕ
slashed = 97 ∷ 47 ∷ 98 ∷ []

abbrev pub zeroed : List ℕ
zeroed = 97 ∷ 0 ∷ []

abbrev pub dot : List ℕ
dot = codes "."

abbrev pub dot_dot : List ℕ
dot_dot = codes ".."

-- ---- what is read

abbrev found_id : ℕ × List ℕ → Result ℕ Status
found_id at = lookup tree.nodes at.0 at.1 >>= λ found. Ok found.id

row_lookup : map found_id ((9, long) ∷ (2, long) ∷ (3, long) ∷ (3, []) ∷ (3, slashed) ∷ (3, zeroed) ∷ (3, longest) ∷ (3, dot) ∷ (3, dot_dot) ∷ (1, dot_dot) ∷ (5, dot_dot) ∷ (3, codes "x") ∷ []) ≡ Err Stale ∷ Err NotDir ∷ Err NameTooLong ∷ Err Acces ∷ Err Acces ∷ Err Acces ∷ Err NoEnt ∷ Ok 3 ∷ Ok 1 ∷ Ok 1 ∷ Ok 3 ∷ Ok 4 ∷ []
row_lookup = refl

row_attr : (attr tree.nodes 9 ≡ Err Stale) × (attr tree.nodes 3 ≡ Ok (record { kind = attr_kind.Directory; mode = 493; nlink = 2; uid = 0; gid = 0; size = 2; used = 2; rdev_major = 0; rdev_minor = 0; fsid = 0x4C424653; fileid = 3; atime = record { seconds = 0; nanoseconds = 5 }; mtime = record { seconds = 0; nanoseconds = 5 }; ctime = record { seconds = 0; nanoseconds = 5 } })) × (attr (file 2 1 (codes "a") 2000000001 (codes "abc") ∷ []) 2 ≡ Ok (record { kind = attr_kind.File; mode = 420; nlink = 1; uid = 0; gid = 0; size = 3; used = 3; rdev_major = 0; rdev_minor = 0; fsid = 0x4C424653; fileid = 2; atime = record { seconds = 2; nanoseconds = 1 }; mtime = record { seconds = 2; nanoseconds = 1 }; ctime = record { seconds = 2; nanoseconds = 1 } }))
row_attr = (refl, refl, refl)

-- READ: the bytes and whether they reach the end
abbrev piece_at : ℕ → ℕ → ℕ → Result (List ℕ × Bool) Status
piece_at id offset count = read tree.nodes id offset count >>= λ p. Ok (p.bytes, p.eof)

row_read : piece_at 9 0 9 ∷ piece_at 3 0 9 ∷ piece_at 4 0 2 ∷ piece_at 4 0 3 ∷ piece_at 4 1 9 ∷ piece_at 4 3 0 ∷ piece_at 4 99 9 ∷ piece_at 4 0 0 ∷ [] ≡ Err Stale ∷ Err Inval ∷ Ok (codes "xy", false) ∷ Ok (codes "xyz", true) ∷ Ok (codes "yz", true) ∷ Ok ([], true) ∷ Ok ([], true) ∷ Ok ([], false) ∷ []
row_read = refl

-- READDIR: the cookies of the entries and whether the last is among them
abbrev listed_at : ℕ → ℕ → ℕ → ℕ → Result (List ℕ × Bool) Status
listed_at dir cookie verifier count = list tree.nodes dir cookie verifier count >>= λ l. Ok (map (λ (e : Entry). e.cookie) l.entries, l.eof)

-- 103 and 104 bytes, those that one entry takes, and two
row_list_sizes : listed_at 3 0 0 103 ∷ listed_at 3 0 0 104 ∷ listed_at 3 0 0 131 ∷ listed_at 3 0 0 132 ∷ listed_at 3 0 0 159 ∷ listed_at 3 0 0 160 ∷ listed_at 3 0 0 4294967295 ∷ listed_at 6 0 0 103 ∷ listed_at 6 0 0 104 ∷ [] ≡ Err TooSmall ∷ Err TooSmall ∷ Err TooSmall ∷ Ok (1 ∷ [], false) ∷ Ok (1 ∷ [], false) ∷ Ok (1 ∷ 2 ∷ [], true) ∷ Ok (1 ∷ 2 ∷ [], true) ∷ Err TooSmall ∷ Ok ([], true) ∷ []
row_list_sizes = refl

-- a cookie with another verifier, a cookie past the end, and no directory, before what is too small
row_list_cookies : listed_at 9 3 0 0 ∷ listed_at 2 3 0 0 ∷ listed_at 3 3 5 0 ∷ listed_at 3 1 4 0 ∷ listed_at 3 1 5 103 ∷ listed_at 3 1 5 132 ∷ listed_at 3 2 5 104 ∷ listed_at 3 0 77 132 ∷ [] ≡ Err Stale ∷ Err NotDir ∷ Err BadCookie ∷ Err BadCookie ∷ Err TooSmall ∷ Ok (2 ∷ [], true) ∷ Ok ([], true) ∷ Ok (1 ∷ [], false) ∷ []
row_list_cookies = refl
