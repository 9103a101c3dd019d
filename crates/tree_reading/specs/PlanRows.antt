-- Worked rows: each refusal of each call in its order, and names of every length and spelling.
use Rattle.std.specs.Prelude.{◌≡◌, ℕ, List, [], ◌∷◌, map, Result, Ok, Err, codes, refl}
use Rattle.xdr_codec.specs.declared.status.Status.{Status}
use Rattle.xdr_codec.specs.declared.status.Status.TheVariants.{NoEnt, Acces, Exist, NotDir, IsDir, Inval, FBig, NoSpc, NameTooLong, NotEmpty, Stale, NotSupp}
use Rattle.tree_reading.specs.declared.call.CreateMode.TheVariants.{Unchecked, Guarded, Exclusive}
use Rattle.tree_reading.specs.declared.call.Reservation.{Reservation}
use Rattle.tree_reading.specs.declared.call.Spot.{Spot}
use Rattle.tree_reading.specs.declared.call.Call.{Call}
use Rattle.tree_reading.specs.declared.call.Call.TheVariants.{Create, MkDir, Remove, RmDir, Rename, Replace}
use Rattle.tree_reading.specs.Plans.{may}
use Rattle.tree_reading.specs.Rows.{tree, long, longest, slashed, zeroed, dot, dot_dot}

-- nothing waits
abbrev pub none : Reservation
none = record { entries = 0; bytes = 0 }

-- so many entries wait that no change has room
abbrev full : Reservation
full = record { entries = 4294967286; bytes = 0 }

-- so many that one has
abbrev nearly : Reservation
nearly = record { entries = 4294967285; bytes = 0 }

abbrev at : ℕ → List ℕ → Spot
at dir name = record { dir = dir; name = name }

abbrev answers : Reservation → List Call → List (Result Unit Status)
answers held calls = map (may tree held) calls

-- ---- CREATE, in the order of its checks: two faults at once name the first

row_create : answers full (Create (at 9 long) Exclusive ∷ Create (at 2 long) Exclusive ∷ Create (at 1 long) Exclusive ∷ Create (at 1 []) Exclusive ∷ Create (at 1 slashed) Exclusive ∷ Create (at 1 zeroed) Exclusive ∷ Create (at 1 dot) Exclusive ∷ Create (at 1 dot_dot) Exclusive ∷ Create (at 1 (codes "a")) Exclusive ∷ Create (at 1 (codes "n")) Exclusive ∷ Create (at 1 (codes "a")) Guarded ∷ Create (at 1 (codes "d")) Guarded ∷ Create (at 1 (codes "d")) Unchecked ∷ Create (at 1 (codes "a")) Unchecked ∷ Create (at 1 longest) Guarded ∷ Create (at 1 longest) Unchecked ∷ []) ≡ Err Stale ∷ Err NotDir ∷ Err NameTooLong ∷ Err Acces ∷ Err Acces ∷ Err Acces ∷ Err Inval ∷ Err Inval ∷ Err NotSupp ∷ Err NotSupp ∷ Err Exist ∷ Err Exist ∷ Err Exist ∷ Ok tt ∷ Err NoSpc ∷ Err NoSpc ∷ []
row_create = refl

row_create_room : answers nearly (Create (at 1 longest) Guarded ∷ Create (at 3 (codes "...")) Unchecked ∷ []) ≡ Ok tt ∷ Ok tt ∷ []
row_create_room = refl

-- ---- MKDIR

row_mkdir : answers full (MkDir (at 9 long) ∷ MkDir (at 4 long) ∷ MkDir (at 3 long) ∷ MkDir (at 3 []) ∷ MkDir (at 3 slashed) ∷ MkDir (at 3 zeroed) ∷ MkDir (at 3 dot) ∷ MkDir (at 3 dot_dot) ∷ MkDir (at 3 (codes "x")) ∷ MkDir (at 3 (codes "s")) ∷ MkDir (at 3 longest) ∷ []) ≡ Err Stale ∷ Err NotDir ∷ Err NameTooLong ∷ Err Acces ∷ Err Acces ∷ Err Acces ∷ Err Exist ∷ Err Exist ∷ Err Exist ∷ Err Exist ∷ Err NoSpc ∷ []
row_mkdir = refl

row_mkdir_room : answers nearly (MkDir (at 3 longest) ∷ []) ≡ Ok tt ∷ []
row_mkdir_room = refl

-- ---- REMOVE

row_remove : answers full (Remove (at 9 long) ∷ Remove (at 2 long) ∷ Remove (at 1 long) ∷ Remove (at 1 []) ∷ Remove (at 1 slashed) ∷ Remove (at 1 zeroed) ∷ Remove (at 1 dot) ∷ Remove (at 1 dot_dot) ∷ Remove (at 1 longest) ∷ Remove (at 1 (codes "x")) ∷ Remove (at 1 (codes "d")) ∷ Remove (at 1 (codes "a")) ∷ []) ≡ Err Stale ∷ Err NotDir ∷ Err NameTooLong ∷ Err Acces ∷ Err Acces ∷ Err Acces ∷ Err Inval ∷ Err Inval ∷ Err NoEnt ∷ Err NoEnt ∷ Err IsDir ∷ Err NoSpc ∷ []
row_remove = refl

row_remove_room : answers nearly (Remove (at 1 (codes "a")) ∷ []) ≡ Ok tt ∷ []
row_remove_room = refl

-- ---- RMDIR

row_rmdir : answers full (RmDir (at 9 long) ∷ RmDir (at 2 long) ∷ RmDir (at 1 long) ∷ RmDir (at 1 []) ∷ RmDir (at 1 slashed) ∷ RmDir (at 1 zeroed) ∷ RmDir (at 1 dot) ∷ RmDir (at 1 dot_dot) ∷ RmDir (at 1 longest) ∷ RmDir (at 1 (codes "a")) ∷ RmDir (at 1 (codes "d")) ∷ RmDir (at 1 (codes "e")) ∷ []) ≡ Err Stale ∷ Err NotDir ∷ Err NameTooLong ∷ Err Acces ∷ Err Acces ∷ Err Acces ∷ Err Inval ∷ Err Exist ∷ Err NoEnt ∷ Err NotDir ∷ Err NotEmpty ∷ Err NoSpc ∷ []
row_rmdir = refl

row_rmdir_room : answers nearly (RmDir (at 1 (codes "e")) ∷ RmDir (at 3 (codes "s")) ∷ []) ≡ Ok tt ∷ Ok tt ∷ []
row_rmdir_room = refl

-- ---- RENAME: both directories' ids, both directories, both names, and then what they stand for

row_rename_places : answers full (Rename (at 9 long) (at 2 long) ∷ Rename (at 2 long) (at 9 long) ∷ Rename (at 2 long) (at 1 long) ∷ Rename (at 1 long) (at 4 []) ∷ Rename (at 1 long) (at 1 []) ∷ Rename (at 1 []) (at 1 long) ∷ Rename (at 1 dot) (at 1 long) ∷ Rename (at 1 dot_dot) (at 1 []) ∷ Rename (at 1 (codes "n")) (at 1 long) ∷ Rename (at 1 (codes "n")) (at 1 slashed) ∷ Rename (at 1 (codes "n")) (at 1 zeroed) ∷ Rename (at 1 (codes "n")) (at 1 dot) ∷ Rename (at 1 (codes "n")) (at 1 dot_dot) ∷ Rename (at 1 (codes "n")) (at 1 longest) ∷ []) ≡ Err Stale ∷ Err Stale ∷ Err NotDir ∷ Err NotDir ∷ Err NameTooLong ∷ Err Acces ∷ Err Inval ∷ Err Inval ∷ Err NameTooLong ∷ Err Acces ∷ Err Acces ∷ Err Inval ∷ Err Inval ∷ Err NoEnt ∷ []
row_rename_places = refl

-- onto itself; into itself; below itself; a directory onto a file, a file onto a directory, and onto one with entries
row_rename_nodes : answers full (Rename (at 1 (codes "d")) (at 1 (codes "d")) ∷ Rename (at 1 (codes "a")) (at 1 (codes "a")) ∷ Rename (at 1 (codes "d")) (at 3 (codes "n")) ∷ Rename (at 1 (codes "d")) (at 3 (codes "x")) ∷ Rename (at 1 (codes "d")) (at 5 (codes "n")) ∷ Rename (at 1 (codes "d")) (at 1 (codes "a")) ∷ Rename (at 1 (codes "a")) (at 1 (codes "e")) ∷ Rename (at 1 (codes "a")) (at 1 (codes "d")) ∷ Rename (at 1 (codes "e")) (at 1 (codes "d")) ∷ Rename (at 3 (codes "s")) (at 1 (codes "d")) ∷ Rename (at 1 (codes "a")) (at 3 (codes "x")) ∷ Rename (at 1 (codes "d")) (at 1 (codes "e")) ∷ Rename (at 1 (codes "a")) (at 1 (codes "n")) ∷ []) ≡ Ok tt ∷ Ok tt ∷ Err Inval ∷ Err Inval ∷ Err Inval ∷ Err Exist ∷ Err Exist ∷ Err Exist ∷ Err Exist ∷ Err Exist ∷ Err NoSpc ∷ Err NoSpc ∷ Err NoSpc ∷ []
row_rename_nodes = refl

-- one change more has room, so a move has, and a move over something, which is two, has not
row_rename_room : answers nearly (Rename (at 1 (codes "a")) (at 3 (codes "n")) ∷ Rename (at 1 (codes "e")) (at 5 (codes "n")) ∷ Rename (at 1 (codes "a")) (at 3 (codes "x")) ∷ Rename (at 1 (codes "e")) (at 3 (codes "s")) ∷ []) ≡ Ok tt ∷ Ok tt ∷ Err NoSpc ∷ Err NoSpc ∷ []
row_rename_room = refl

row_rename_over : answers none (Rename (at 1 (codes "a")) (at 3 (codes "x")) ∷ Rename (at 1 (codes "e")) (at 3 (codes "s")) ∷ []) ≡ Ok tt ∷ Ok tt ∷ []
row_rename_over = refl

-- ---- a content replaced: the tree's six bytes and those that wait count, and those that go with them

row_replace : answers full (Replace 9 67108865 ∷ Replace 3 67108865 ∷ Replace 1 67108865 ∷ Replace 2 67108865 ∷ Replace 2 67108864 ∷ []) ≡ Err Stale ∷ Err IsDir ∷ Err IsDir ∷ Err FBig ∷ Err NoSpc ∷ []
row_replace = refl

row_replace_bytes : (answers (record { entries = 0; bytes = 1073741800 }) (Replace 2 18 ∷ Replace 2 19 ∷ []) ≡ Ok tt ∷ Err NoSpc ∷ []) × (answers nearly (Replace 2 67108864 ∷ []) ≡ Ok tt ∷ [])
row_replace_bytes = (refl, refl)
