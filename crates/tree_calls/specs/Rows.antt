-- Worked rows: what each call is answered, in the order of its checks, what waits, and what it comes to.
use Rattle.std.specs.Prelude.{◌≡◌, ℕ, List, [], ◌∷◌, map, replicate, codes, refl, Option, Some, None, Bool, true, false}
use Rattle.sha1.specs.Sha1.{sha1}
use Rattle.xdr_codec.specs.Handle.{handle_bytes}
use Rattle.xdr_codec.specs.declared.answer.Answer.{Answer}
use Rattle.xdr_codec.specs.declared.answer.Answer.TheVariants as answer
use Rattle.xdr_codec.specs.declared.attr.Attr.{Attr}
use Rattle.xdr_codec.specs.declared.attr.Kind.TheVariants as attr_kind
use Rattle.xdr_codec.specs.declared.attr.Time.{Time}
use Rattle.xdr_codec.specs.declared.status.Status.{Status}
use Rattle.xdr_codec.specs.declared.status.Status.TheVariants.{NoEnt, Acces, Exist, NotDir, IsDir, Inval, NoSpc, NameTooLong, NotEmpty, Stale, BadHandle, BadCookie, NotSupp, TooSmall, Jukebox, Io}
use Rattle.nfs3_calls.specs.declared.making.HowMade.{HowMade}
use Rattle.nfs3_calls.specs.declared.making.HowMade.TheVariants.{Unchecked, Guarded, Exclusive}
use Rattle.nfs3_calls.specs.declared.making.SetAttr.{SetAttr}
use Rattle.nfs3_calls.specs.declared.making.SetTime.TheVariants.{Keep}
use Rattle.nfs3_calls.specs.declared.message.Nfs.{Nfs}
use Rattle.nfs3_calls.specs.declared.message.Nfs.TheVariants as nfs
use Rattle.nfs3_calls.specs.declared.place.Place.{Place}
use Rattle.tree_nodes.specs.declared.node.Node.{Node}
use Rattle.tree_nodes.specs.declared.node.Body.TheVariants.{Directory, File}
use Rattle.tree_reading.specs.Tree.{Tree, root, empty}
use Rattle.file_tree.specs.Step.{create, rename, remove, replace}
use Rattle.tree_reading.specs.declared.call.CreateMode.TheVariants as mode
use Rattle.tree_reading.specs.declared.call.Reservation.{Reservation}
use Rattle.tree_reading.specs.declared.call.Spot.{Spot}
use Rattle.tree_reading.specs.declared.entry.EntryKind.TheVariants as line
use Rattle.tree_calls.specs.declared.asked.Asked.{Asked}
use Rattle.tree_calls.specs.declared.asked.Asked.TheVariants as asked
use Rattle.tree_calls.specs.declared.asked.Outcome.{Outcome}
use Rattle.tree_calls.specs.declared.asked.Outcome.TheVariants as outcome
use Rattle.tree_calls.specs.Telling.{told}
use Rattle.tree_calls.specs.Waiting.{calls, settles, gives_content, calls_under, settles_under, gives_content_under, file_of}

-- ---- a tree: a file "a", a directory "d" that has a directory "s" and a file "x", and an empty directory "e"

abbrev file : ℕ → ℕ → List ℕ → ℕ → List ℕ → Node
file id parent name version bytes = record { id = id; parent = parent; name = name; version = version; body = File bytes }

abbrev directory : ℕ → ℕ → List ℕ → ℕ → Node
directory id parent name version = record { id = id; parent = parent; name = name; version = version; body = Directory }

abbrev tree : Tree
tree = record {
  nodes = root 9 ∷ file 2 1 (codes "a") 1 (codes "abc") ∷ directory 3 1 (codes "d") 5 ∷ directory 6 1 (codes "e") 6 ∷ directory 5 3 (codes "s") 4 ∷ file 4 3 (codes "x") 3 (codes "xyz") ∷ [];
  next = 7;
  changes = 9;
}

-- nothing waits; so many entries wait that no change has room; so many that one has
abbrev none : Reservation
none = record { entries = 0; bytes = 0 }

abbrev full : Reservation
full = record { entries = 4294967286; bytes = 0 }

abbrev nearly : Reservation
nearly = record { entries = 4294967285; bytes = 0 }

-- a name in a directory; one in none, by a handle of another form
abbrev at : ℕ → List ℕ → Place
at dir name = record { dir = handle_bytes dir; name = name }

abbrev wrong : List ℕ → Place
wrong name = record { dir = 76 ∷ []; name = name }

abbrev long : List ℕ
long = replicate 256 97

abbrev longest : List ℕ
longest = replicate 255 97

abbrev slashed : List ℕ
slashed = 97 ∷ 47 ∷ []

abbrev zeroed : List ℕ
zeroed = 97 ∷ 0 ∷ []

abbrev dot : List ℕ
dot = codes "."

abbrev dot_dot : List ℕ
dot_dot = codes ".."

-- ---- what a call comes to, in short

data Brief : Type 0 where
  refused : Status → Brief
  done : Brief
  waits : ℕ → Brief
  nothing : Brief

abbrev in_short : {A F : Type 0} → Answer A F → Brief
in_short (answer.Done x) = done
in_short (answer.Failed s f) = refused s

abbrev told_short : Nfs → Brief
told_short (nfs.GetAttrAnswer a) = in_short a
told_short (nfs.LookupAnswer a) = in_short a
told_short (nfs.AccessAnswer a) = in_short a
told_short (nfs.ReadAnswer a) = in_short a
told_short (nfs.CreateAnswer a) = in_short a
told_short (nfs.MkDirAnswer a) = in_short a
told_short (nfs.RemoveAnswer a) = in_short a
told_short (nfs.RmDirAnswer a) = in_short a
told_short (nfs.RenameAnswer a) = in_short a
told_short (nfs.ReadDirAnswer a) = in_short a
told_short (nfs.FsInfoAnswer a) = in_short a
told_short m = nothing

abbrev outcome_short : Option Outcome → Brief
outcome_short None = nothing
outcome_short (Some (outcome.Answered d)) = told_short d.answer
outcome_short (Some (outcome.Waits a)) = waits (file_of a)

-- of calls where so much is held, and a change of the session waits or none
abbrev come : Reservation → Bool → List Nfs → List Brief
come held busy ms = map (λ (m : Nfs). outcome_short (calls tree held busy m).1) ms

-- ---- CREATE and MKDIR

abbrev kept : SetAttr
kept = record { mode = None; uid = None; gid = None; size = None; atime = Keep; mtime = Keep }

abbrev makes : Place → HowMade → Nfs
makes p how = nfs.Create (record { place = p; how = how })

abbrev makes_directory : Place → Nfs
makes_directory p = nfs.MkDir (record { place = p; attr = kept })

row_create : come full true (makes (wrong long) (Exclusive 0) ∷ makes (at 9 long) (Exclusive 0) ∷ makes (at 2 long) (Exclusive 0) ∷ makes (at 1 long) (Exclusive 0) ∷ makes (at 1 []) (Exclusive 0) ∷ makes (at 1 slashed) (Exclusive 0) ∷ makes (at 1 zeroed) (Exclusive 0) ∷ makes (at 1 dot) (Exclusive 0) ∷ makes (at 1 dot_dot) (Exclusive 0) ∷ makes (at 1 (codes "a")) (Exclusive 0) ∷ makes (at 1 (codes "n")) (Exclusive 0) ∷ makes (at 1 (codes "a")) (Guarded kept) ∷ makes (at 1 (codes "d")) (Unchecked kept) ∷ makes (at 1 (codes "a")) (Unchecked kept) ∷ makes (at 1 longest) (Guarded kept) ∷ []) ≡ refused BadHandle ∷ refused Stale ∷ refused NotDir ∷ refused NameTooLong ∷ refused Acces ∷ refused Acces ∷ refused Acces ∷ refused Inval ∷ refused Inval ∷ refused NotSupp ∷ refused NotSupp ∷ refused Exist ∷ refused Exist ∷ done ∷ refused NoSpc ∷ []
row_create = refl

row_mkdir : come full true (makes_directory (wrong long) ∷ makes_directory (at 9 long) ∷ makes_directory (at 2 long) ∷ makes_directory (at 3 long) ∷ makes_directory (at 3 []) ∷ makes_directory (at 3 slashed) ∷ makes_directory (at 3 zeroed) ∷ makes_directory (at 3 dot) ∷ makes_directory (at 3 dot_dot) ∷ makes_directory (at 3 (codes "x")) ∷ makes_directory (at 3 longest) ∷ []) ≡ refused BadHandle ∷ refused Stale ∷ refused NotDir ∷ refused NameTooLong ∷ refused Acces ∷ refused Acces ∷ refused Acces ∷ refused Exist ∷ refused Exist ∷ refused Exist ∷ refused NoSpc ∷ []
row_mkdir = refl

-- a pending change is no hindrance
row_making_room : come nearly true (makes (at 1 longest) (Guarded kept) ∷ makes (at 3 (codes "n")) (Unchecked kept) ∷ makes_directory (at 3 longest) ∷ []) ≡ done ∷ done ∷ done ∷ []
row_making_room = refl

abbrev version_time : ℕ → Time
version_time version = record { seconds = 0; nanoseconds = version }

abbrev root_attr : ℕ → ℕ → Attr
root_attr version entries = record { kind = attr_kind.Directory; mode = 493; nlink = 2; uid = 0; gid = 0; size = entries; used = entries; rdev_major = 0; rdev_minor = 0; fsid = 0x4C424653; fileid = 1; atime = version_time version; mtime = version_time version; ctime = version_time version }

abbrev file_attr : ℕ → ℕ → ℕ → Attr
file_attr id version size = record { kind = attr_kind.File; mode = 420; nlink = 1; uid = 0; gid = 0; size = size; used = size; rdev_major = 0; rdev_minor = 0; fsid = 0x4C424653; fileid = id; atime = version_time version; mtime = version_time version; ctime = version_time version }

-- the first file: its handle and attributes, the root with no entry before and with one after, and the entry of the journal
row_made : (calls empty none false (makes (at 1 (codes "a")) (Guarded kept))).1 ≡ Some (outcome.Answered (record { answer = nfs.CreateAnswer (answer.Done (record { handle = Some (handle_bytes 2); attr = Some (file_attr 2 1 0); dir = record { before = Some (record { size = 0; mtime = version_time 0; ctime = version_time 0 }); after = Some (root_attr 1 1) } })); first = Some (record { file = 2; version = 1; kind = line.Make; len = 0; sha1 = sha1 [] }); second = None }))
row_made = refl

-- it's there, and the root stays as it is
row_there : calls tree none false (makes (at 1 (codes "a")) (Unchecked kept)) ≡ (tree, Some (outcome.Answered (record { answer = nfs.CreateAnswer (answer.Done (record { handle = Some (handle_bytes 2); attr = Some (file_attr 2 1 3); dir = record { before = Some (record { size = 3; mtime = version_time 9; ctime = version_time 9 }); after = Some (root_attr 9 3) } })); first = None; second = None })))
row_there = refl

-- ---- REMOVE: JUKEBOX before want of space, and after all else

row_remove : come full true (nfs.Remove (wrong long) ∷ nfs.Remove (at 9 long) ∷ nfs.Remove (at 2 long) ∷ nfs.Remove (at 1 long) ∷ nfs.Remove (at 1 []) ∷ nfs.Remove (at 1 slashed) ∷ nfs.Remove (at 1 zeroed) ∷ nfs.Remove (at 1 dot) ∷ nfs.Remove (at 1 dot_dot) ∷ nfs.Remove (at 1 longest) ∷ nfs.Remove (at 1 (codes "d")) ∷ nfs.Remove (at 1 (codes "a")) ∷ []) ≡ refused BadHandle ∷ refused Stale ∷ refused NotDir ∷ refused NameTooLong ∷ refused Acces ∷ refused Acces ∷ refused Acces ∷ refused Inval ∷ refused Inval ∷ refused NoEnt ∷ refused IsDir ∷ refused Jukebox ∷ []
row_remove = refl

row_remove_room : (come full false (nfs.Remove (at 1 (codes "a")) ∷ []) ≡ refused NoSpc ∷ []) × (come nearly true (nfs.Remove (at 1 (codes "a")) ∷ []) ≡ refused Jukebox ∷ []) × (come nearly false (nfs.Remove (at 1 (codes "a")) ∷ []) ≡ waits 2 ∷ [])
row_remove_room = (refl, refl, refl)

-- ---- RMDIR

row_rmdir : come full true (nfs.RmDir (wrong long) ∷ nfs.RmDir (at 9 long) ∷ nfs.RmDir (at 2 long) ∷ nfs.RmDir (at 1 long) ∷ nfs.RmDir (at 1 []) ∷ nfs.RmDir (at 1 slashed) ∷ nfs.RmDir (at 1 zeroed) ∷ nfs.RmDir (at 1 dot) ∷ nfs.RmDir (at 1 dot_dot) ∷ nfs.RmDir (at 1 longest) ∷ nfs.RmDir (at 1 (codes "a")) ∷ nfs.RmDir (at 1 (codes "d")) ∷ nfs.RmDir (at 1 (codes "e")) ∷ []) ≡ refused BadHandle ∷ refused Stale ∷ refused NotDir ∷ refused NameTooLong ∷ refused Acces ∷ refused Acces ∷ refused Acces ∷ refused Inval ∷ refused Exist ∷ refused NoEnt ∷ refused NotDir ∷ refused NotEmpty ∷ refused NoSpc ∷ []
row_rmdir = refl

-- the root has an entry less, and its version is the count of changes
row_gone : (calls tree nearly true (nfs.RmDir (at 1 (codes "e")))).1 ≡ Some (outcome.Answered (record { answer = nfs.RmDirAnswer (answer.Done (record { before = Some (record { size = 3; mtime = version_time 9; ctime = version_time 9 }); after = Some (root_attr 10 2) })); first = Some (record { file = 6; version = 0; kind = line.Name; len = 0; sha1 = sha1 [] }); second = None }))
row_gone = refl

-- ---- RENAME

abbrev moves : Place → Place → Nfs
moves p q = nfs.Rename (record { from = p; to = q })

-- both forms, both ids, both directories, both names
row_rename_places : come full true (moves (wrong long) (at 9 long) ∷ moves (at 9 long) (wrong long) ∷ moves (at 9 long) (at 2 long) ∷ moves (at 2 long) (at 9 long) ∷ moves (at 2 long) (at 1 long) ∷ moves (at 1 long) (at 4 []) ∷ moves (at 1 long) (at 1 []) ∷ moves (at 1 []) (at 1 long) ∷ moves (at 1 dot) (at 1 long) ∷ moves (at 1 dot_dot) (at 1 []) ∷ moves (at 1 (codes "n")) (at 1 long) ∷ moves (at 1 (codes "n")) (at 1 slashed) ∷ moves (at 1 (codes "n")) (at 1 zeroed) ∷ moves (at 1 (codes "n")) (at 1 dot) ∷ moves (at 1 (codes "n")) (at 1 dot_dot) ∷ moves (at 1 (codes "n")) (at 1 longest) ∷ []) ≡ refused BadHandle ∷ refused BadHandle ∷ refused Stale ∷ refused Stale ∷ refused NotDir ∷ refused NotDir ∷ refused NameTooLong ∷ refused Acces ∷ refused Inval ∷ refused Inval ∷ refused NameTooLong ∷ refused Acces ∷ refused Acces ∷ refused Inval ∷ refused Inval ∷ refused NoEnt ∷ []
row_rename_places = refl

-- onto itself; into itself; below itself, also onto a name that's there; a directory onto a file; a file onto directories; onto one with entries; a file over a file; a directory over an empty one; to a free name
abbrev renames_of_nodes : List Nfs
renames_of_nodes = moves (at 1 (codes "d")) (at 1 (codes "d")) ∷ moves (at 1 (codes "a")) (at 1 (codes "a")) ∷ moves (at 1 (codes "d")) (at 3 (codes "n")) ∷ moves (at 1 (codes "d")) (at 3 (codes "x")) ∷ moves (at 1 (codes "d")) (at 5 (codes "n")) ∷ moves (at 1 (codes "e")) (at 1 (codes "a")) ∷ moves (at 1 (codes "a")) (at 1 (codes "e")) ∷ moves (at 1 (codes "e")) (at 1 (codes "d")) ∷ moves (at 1 (codes "a")) (at 3 (codes "x")) ∷ moves (at 1 (codes "e")) (at 3 (codes "s")) ∷ moves (at 1 (codes "a")) (at 1 (codes "n")) ∷ []

row_rename_full : come full true renames_of_nodes ≡ done ∷ done ∷ refused Inval ∷ refused Inval ∷ refused Inval ∷ refused Exist ∷ refused Exist ∷ refused Exist ∷ refused Jukebox ∷ refused NoSpc ∷ refused NoSpc ∷ []
row_rename_full = refl

row_rename_nearly : come nearly false renames_of_nodes ≡ done ∷ done ∷ refused Inval ∷ refused Inval ∷ refused Inval ∷ refused Exist ∷ refused Exist ∷ refused Exist ∷ refused NoSpc ∷ refused NoSpc ∷ done ∷ []
row_rename_nearly = refl

-- only over a file does it wait, and is it told JUKEBOX
row_rename_busy : (come none true renames_of_nodes ≡ done ∷ done ∷ refused Inval ∷ refused Inval ∷ refused Inval ∷ refused Exist ∷ refused Exist ∷ refused Exist ∷ refused Jukebox ∷ done ∷ done ∷ []) × (come none false renames_of_nodes ≡ done ∷ done ∷ refused Inval ∷ refused Inval ∷ refused Inval ∷ refused Exist ∷ refused Exist ∷ refused Exist ∷ waits 4 ∷ done ∷ done ∷ [])
row_rename_busy = (refl, refl)

-- a rename to another directory: what both were before, and are after
row_moved : (calls tree none true (moves (at 1 (codes "e")) (at 3 (codes "n")))).1 ≡ Some (outcome.Answered (record { answer = nfs.RenameAnswer (answer.Done (record { from = record { before = Some (record { size = 3; mtime = version_time 9; ctime = version_time 9 }); after = Some (root_attr 10 2) }; to = record { before = Some (record { size = 2; mtime = version_time 5; ctime = version_time 5 }); after = Some (record (root_attr 10 3) { fileid = 3 }) } })); first = Some (record { file = 6; version = 0; kind = line.Name; len = 0; sha1 = sha1 [] }); second = None }))
row_moved = refl

-- ---- what is only told

row_null : calls tree full true nfs.Null ≡ (tree, Some (outcome.Answered (record { answer = nfs.NullAnswer; first = None; second = None })))
row_null = refl

-- an answer is no call
row_no_call : come none false (nfs.NullAnswer ∷ nfs.ReadAnswer (answer.Failed Stale None) ∷ []) ≡ nothing ∷ nothing ∷ []
row_no_call = refl

row_getattr : (come none true (nfs.GetAttr (76 ∷ []) ∷ nfs.GetAttr (handle_bytes 9) ∷ []) ≡ refused BadHandle ∷ refused Stale ∷ []) × (told tree.nodes (nfs.GetAttr (handle_bytes 2)) ≡ Some (nfs.GetAttrAnswer (answer.Done (file_attr 2 1 3))))
row_getattr = (refl, refl)

row_lookup : (come none true (nfs.Lookup (wrong long) ∷ nfs.Lookup (at 9 long) ∷ nfs.Lookup (at 2 long) ∷ nfs.Lookup (at 1 long) ∷ nfs.Lookup (at 1 []) ∷ nfs.Lookup (at 1 slashed) ∷ nfs.Lookup (at 1 zeroed) ∷ nfs.Lookup (at 1 longest) ∷ nfs.Lookup (at 3 dot) ∷ nfs.Lookup (at 3 dot_dot) ∷ []) ≡ refused BadHandle ∷ refused Stale ∷ refused NotDir ∷ refused NameTooLong ∷ refused Acces ∷ refused Acces ∷ refused Acces ∷ refused NoEnt ∷ done ∷ done ∷ [])
    × (told tree.nodes (nfs.Lookup (at 1 (codes "a"))) ≡ Some (nfs.LookupAnswer (answer.Done (record { handle = handle_bytes 2; attr = Some (file_attr 2 1 3); dir = Some (root_attr 9 3) }))))
    × (told tree.nodes (nfs.Lookup (at 1 dot_dot)) ≡ Some (nfs.LookupAnswer (answer.Done (record { handle = handle_bytes 1; attr = Some (root_attr 9 3); dir = Some (root_attr 9 3) }))))
    × (told tree.nodes (nfs.Lookup (at 1 (codes "n"))) ≡ Some (nfs.LookupAnswer (answer.Failed NoEnt None)))
row_lookup = (refl, refl, refl, refl)

-- of the bits that are asked for those of the six rights are granted
row_access : (come none true (nfs.Access (record { handle = 76 ∷ []; bits = 1 }) ∷ nfs.Access (record { handle = handle_bytes 9; bits = 1 }) ∷ []) ≡ refused BadHandle ∷ refused Stale ∷ []) × (told tree.nodes (nfs.Access (record { handle = handle_bytes 2; bits = 0xFFFFFFFF })) ≡ Some (nfs.AccessAnswer (answer.Done (record { attr = Some (file_attr 2 1 3); bits = 0x3F })))) × (told tree.nodes (nfs.Access (record { handle = handle_bytes 1; bits = 0x45 })) ≡ Some (nfs.AccessAnswer (answer.Done (record { attr = Some (root_attr 9 3); bits = 5 }))))
row_access = (refl, refl, refl)

abbrev reads : List ℕ → ℕ → ℕ → Nfs
reads handle offset count = nfs.Read (record { handle = handle; offset = offset; count = count })

row_read : (come none true (reads (76 ∷ []) 0 9 ∷ reads (handle_bytes 9) 0 9 ∷ reads (handle_bytes 3) 0 9 ∷ []) ≡ refused BadHandle ∷ refused Stale ∷ refused Inval ∷ []) × (told tree.nodes (reads (handle_bytes 2) 1 1) ≡ Some (nfs.ReadAnswer (answer.Done (record { attr = Some (file_attr 2 1 3); count = 1; eof = false; bytes = codes "b" })))) × (told tree.nodes (reads (handle_bytes 2) 9 9) ≡ Some (nfs.ReadAnswer (answer.Done (record { attr = Some (file_attr 2 1 3); count = 0; eof = true; bytes = [] }))))
row_read = (refl, refl, refl)

row_fsinfo : (come none true (nfs.FsInfo (76 ∷ []) ∷ nfs.FsInfo (handle_bytes 9) ∷ []) ≡ refused BadHandle ∷ refused Stale ∷ []) × (told tree.nodes (nfs.FsInfo (handle_bytes 1)) ≡ Some (nfs.FsInfoAnswer (answer.Done (record { attr = Some (root_attr 9 3); reading = record { most = 65536; best = 65536; multiple = 1 }; writing = record { most = 0; best = 0; multiple = 0 }; dtpref = 65536; maxfilesize = 67108864; time_delta = record { seconds = 0; nanoseconds = 1 }; properties = 8 }))))
row_fsinfo = (refl, refl)

-- ---- READDIR: 103 and 104 bytes, one entry's, a cookie past the end, and another verifier

abbrev lists : List ℕ → ℕ → ℕ → ℕ → Nfs
lists handle cookie verifier count = nfs.ReadDir (record { dir = handle; cookie = cookie; verifier = verifier; count = count })

row_list : come none true (lists (76 ∷ []) 3 0 0 ∷ lists (handle_bytes 9) 3 0 0 ∷ lists (handle_bytes 2) 3 0 0 ∷ lists (handle_bytes 3) 3 5 0 ∷ lists (handle_bytes 3) 1 4 0 ∷ lists (handle_bytes 3) 0 0 103 ∷ lists (handle_bytes 3) 0 0 104 ∷ lists (handle_bytes 3) 0 0 131 ∷ lists (handle_bytes 3) 0 0 132 ∷ lists (handle_bytes 6) 0 0 103 ∷ lists (handle_bytes 6) 0 0 104 ∷ lists (handle_bytes 3) 2 5 104 ∷ []) ≡ refused BadHandle ∷ refused Stale ∷ refused NotDir ∷ refused BadCookie ∷ refused BadCookie ∷ refused TooSmall ∷ refused TooSmall ∷ refused TooSmall ∷ done ∷ refused TooSmall ∷ done ∷ done ∷ []
row_list = refl

abbrev after_first : Tree
after_first = (create tree none 3 (codes "b") mode.Guarded).0

-- two pages; and where the directory changed between them, its second is refused
row_pages : (told tree.nodes (lists (handle_bytes 3) 0 0 132) ≡ Some (nfs.ReadDirAnswer (answer.Done (record { attr = Some (record (root_attr 5 2) { fileid = 3 }); verifier = 5; entries = record { fileid = 5; name = codes "s"; cookie = 1 } ∷ []; eof = false }))))
    × (told tree.nodes (lists (handle_bytes 3) 1 5 132) ≡ Some (nfs.ReadDirAnswer (answer.Done (record { attr = Some (record (root_attr 5 2) { fileid = 3 }); verifier = 5; entries = record { fileid = 4; name = codes "x"; cookie = 2 } ∷ []; eof = true }))))
    × (told after_first.nodes (lists (handle_bytes 3) 1 5 132) ≡ Some (nfs.ReadDirAnswer (answer.Failed BadCookie None)))
row_pages = (refl, refl, refl)

-- ---- once nothing blocks it

abbrev spot : ℕ → List ℕ → Spot
spot dir name = record { dir = dir; name = name }

-- REMOVE of "a", and RENAME of "a" over "x" in "d"
abbrev removes_a : Asked
removes_a = asked.Remove (record { spot = spot 1 (codes "a"); file = 2 })

abbrev moves_a : Asked
moves_a = asked.Rename (record { from = spot 1 (codes "a"); to = spot 3 (codes "x"); node = 2; file = 4 })

row_waits : (calls tree none false (nfs.Remove (at 1 (codes "a"))) ≡ (tree, Some (outcome.Waits removes_a))) × (calls tree none false (moves (at 1 (codes "a")) (at 3 (codes "x"))) ≡ (tree, Some (outcome.Waits moves_a)))
row_waits = (refl, refl)

row_removed : settles tree none removes_a ≡ (record { nodes = root 10 ∷ directory 3 1 (codes "d") 5 ∷ directory 6 1 (codes "e") 6 ∷ directory 5 3 (codes "s") 4 ∷ file 4 3 (codes "x") 3 (codes "xyz") ∷ []; next = 7; changes = 10 }, record { answer = nfs.RemoveAnswer (answer.Done (record { before = Some (record { size = 3; mtime = version_time 9; ctime = version_time 9 }); after = Some (root_attr 10 2) })); first = Some (record { file = 2; version = 2; kind = line.Remove; len = 0; sha1 = sha1 [] }); second = None })
row_removed = refl

-- two entries, and both directories have the count after both
row_renamed : settles tree none moves_a ≡ (record { nodes = root 11 ∷ directory 3 1 (codes "d") 11 ∷ directory 6 1 (codes "e") 6 ∷ directory 5 3 (codes "s") 4 ∷ file 2 3 (codes "x") 1 (codes "abc") ∷ []; next = 7; changes = 11 }, record { answer = nfs.RenameAnswer (answer.Done (record { from = record { before = Some (record { size = 3; mtime = version_time 9; ctime = version_time 9 }); after = Some (root_attr 11 2) }; to = record { before = Some (record { size = 2; mtime = version_time 5; ctime = version_time 5 }); after = Some (record (root_attr 11 2) { fileid = 3 }) } })); first = Some (record { file = 4; version = 4; kind = line.Remove; len = 0; sha1 = sha1 [] }); second = Some (record { file = 2; version = 0; kind = line.Name; len = 0; sha1 = sha1 [] }) })
row_renamed = refl

abbrev settled_short : Tree → Asked → Brief
settled_short t a = told_short (settles t none a).1.answer

-- what changed meanwhile: nothing; "a" was removed; it has another name, and another file has its name; "x" was removed; it has another name; "a" went over it; its content was replaced; "a" was made again, so that a file has the name, but not the one
abbrev meanwhile : List Tree
meanwhile = tree ∷ (remove tree none 1 (codes "a")).0 ∷ (create (rename tree none 1 (codes "a") 1 (codes "b")).0 none 1 (codes "a") mode.Guarded).0 ∷ (remove tree none 3 (codes "x")).0 ∷ (rename tree none 3 (codes "x") 3 (codes "y")).0 ∷ (rename tree none 1 (codes "a") 3 (codes "x")).0 ∷ (replace tree none 2 (codes "new")).0 ∷ (create (remove tree none 1 (codes "a")).0 none 1 (codes "a") mode.Guarded).0 ∷ []

row_remove_again : map (λ (t : Tree). settled_short t removes_a) meanwhile ≡ done ∷ refused Stale ∷ refused Jukebox ∷ done ∷ done ∷ refused Jukebox ∷ done ∷ refused Stale ∷ []
row_remove_again = refl

-- STALE, for the file that was to go, comes before JUKEBOX
row_rename_again : map (λ (t : Tree). settled_short t moves_a) meanwhile ≡ done ∷ refused Jukebox ∷ refused Jukebox ∷ refused Stale ∷ refused Jukebox ∷ refused Stale ∷ done ∷ refused Jukebox ∷ []
row_rename_again = refl

-- a refusal changes nothing
row_refused : settles tree none (asked.Remove (record { spot = spot 1 (codes "e"); file = 2 })) ≡ (tree, record { answer = nfs.RemoveAnswer (answer.Failed Jukebox (record { before = None; after = None })); first = None; second = None })
row_refused = refl

-- ---- COMMITTMP

row_committed : (gives_content tree none 4 (codes "new") 9).1 ≡ record { answer = answer.Done (record { version = 4; term = 9 }); entry = Some (record { file = 4; version = 4; kind = line.Commit; len = 3; sha1 = sha1 (codes "new") }) }
row_committed = refl

row_commit_gone : gives_content (remove tree none 3 (codes "x")).0 none 4 (codes "new") 9 ≡ ((remove tree none 3 (codes "x")).0, record { answer = answer.Failed Stale tt; entry = None })
row_commit_gone = refl

-- ---- a store that fails: what would be done is told IO, and nothing is done; what is refused, waits or changes nothing is as ever

abbrev come_failing : Reservation → Bool → List Nfs → List Brief
come_failing held busy ms = map (λ (m : Nfs). outcome_short (calls_under tree held busy true m).1) ms

row_fault : come_failing none false (makes (at 1 (codes "n")) (Guarded kept) ∷ makes (at 1 (codes "a")) (Unchecked kept) ∷ makes (at 1 (codes "a")) (Guarded kept) ∷ makes_directory (at 3 (codes "n")) ∷ nfs.RmDir (at 1 (codes "e")) ∷ nfs.RmDir (at 1 (codes "d")) ∷ moves (at 1 (codes "a")) (at 1 (codes "a")) ∷ moves (at 1 (codes "a")) (at 1 (codes "n")) ∷ moves (at 1 (codes "e")) (at 3 (codes "s")) ∷ moves (at 1 (codes "a")) (at 3 (codes "x")) ∷ nfs.Remove (at 1 (codes "a")) ∷ nfs.GetAttr (handle_bytes 2) ∷ []) ≡ refused Io ∷ done ∷ refused Exist ∷ refused Io ∷ refused Io ∷ refused NotEmpty ∷ done ∷ refused Io ∷ refused Io ∷ waits 4 ∷ waits 2 ∷ done ∷ []
row_fault = refl

row_fault_changes_nothing : ((calls_under tree none false true (makes (at 1 (codes "n")) (Guarded kept))).0 ≡ tree) × (settles_under tree none true removes_a ≡ (tree, record { answer = nfs.RemoveAnswer (answer.Failed Io (record { before = None; after = None })); first = None; second = None })) × (gives_content_under tree none true 4 (codes "new") 9 ≡ (tree, record { answer = answer.Failed Io tt; entry = None }))
row_fault_changes_nothing = (refl, refl, refl)

-- what changed meanwhile comes before the store
row_fault_again : map (λ (t : Tree). told_short (settles_under t none true moves_a).1.answer) meanwhile ≡ refused Io ∷ refused Jukebox ∷ refused Jukebox ∷ refused Stale ∷ refused Jukebox ∷ refused Stale ∷ refused Io ∷ refused Jukebox ∷ []
row_fault_again = refl

-- the tree that no node was made in is as before, so that the next node still gets the id 2
row_fault_first : calls_under empty none false true (makes (at 1 (codes "a")) (Guarded kept)) ≡ (empty, Some (outcome.Answered (record { answer = nfs.CreateAnswer (answer.Failed Io (record { before = None; after = None })); first = None; second = None })))
row_fault_first = refl
