-- Worked walks: the calls that a command sends, and what comes of their answers.
use Rattle.std.proofs.Common.{◌≡◌, ℕ, List, [], ◌∷◌, refl}
use Rattle.std.specs.Prelude.{Option, Some, None, true, false, codes}
use Rattle.xdr_codec.specs.Handle.{handle_bytes}
use Rattle.xdr_codec.specs.declared.answer.Answer.TheVariants.{Done, Failed}
use Rattle.xdr_codec.specs.declared.attr.Attr.{Attr}
use Rattle.xdr_codec.specs.declared.attr.Kind.{Kind}
use Rattle.xdr_codec.specs.declared.attr.Kind.TheVariants as kind
use Rattle.xdr_codec.specs.declared.attr.Time.{Time}
use Rattle.xdr_codec.specs.declared.status.Status.TheVariants as status
use Rattle.nfs3_calls.specs.declared.listing.Entry.{Entry}
use Rattle.nfs3_calls.specs.declared.message.Nfs.{Nfs}
use Rattle.nfs3_calls.specs.declared.message.Nfs.TheVariants as nfs
use Rattle.path_calls.specs.declared.answers.Ended.TheVariants as ended
use Rattle.path_calls.specs.declared.answers.Told.TheVariants as told
use Rattle.command_text.specs.declared.path.PathCommand.TheVariants as command
use Rattle.command_text.specs.declared.path.Spot.{Spot}
use Rattle.path_calls.specs.declared.walk.Goal.TheVariants as goal
use Rattle.path_calls.specs.declared.walk.Walk.{Walk}
use Rattle.path_calls.specs.Walk.{begun, next_call, place, keeps_all, rename_call}
use Rattle.path_calls.specs.Told.{walk_told, lacks}

-- a name in the directory d of the root, and one in the root
abbrev below : List ℕ → Spot
below name = record { dirs = codes "d" ∷ []; name = name }

abbrev at_root : List ℕ → Spot
at_root name = record { dirs = []; name = name }

abbrev time : Time
time = record { seconds = 0; nanoseconds = 7 }

-- version 7, so many bytes or entries
abbrev attr : Kind → (size : ℕ) → Attr
attr k size = record { kind = k; mode = 0; nlink = 1; uid = 0; gid = 0; size = size; used = size; rdev_major = 0; rdev_minor = 0; fsid = 0; fileid = 9; atime = time; mtime = time; ctime = time }

-- the answer to a LOOKUP that found this id
abbrev found : (id : ℕ) → Option Attr → Nfs
found id a = nfs.LookupAnswer (Done (record { handle = handle_bytes id; attr = a; dir = None }))

-- ---- make d/b

abbrev make_begun : Walk
make_begun = begun (command.Make (below (codes "b")))

make_looks_up : next_call make_begun ≡ nfs.Lookup (place 1 (codes "d"))
make_looks_up = refl

make_goes_down : walk_told make_begun (found 2 None) ≡ told.Asks (record { dir = 2; left = []; goal = goal.Make (codes "b") })
make_goes_down = refl

make_creates : next_call (record { dir = 2; left = []; goal = goal.Make (codes "b") }) ≡ nfs.Create (record { place = place 2 (codes "b"); how = Rattle.nfs3_calls.specs.declared.making.HowMade.TheVariants.Guarded keeps_all })
make_creates = refl

-- no entry of the name: NFS3ERR_NOENT
make_refused : walk_told make_begun (nfs.LookupAnswer (Failed status.NoEnt None)) ≡ told.Ends (ended.Refused status.NoEnt)
make_refused = refl

-- ---- rename d/a b: the names before the first are looked up, then those before the second, of which there is none here

rename_begun : next_call (begun (command.Rename (below (codes "a")) (at_root (codes "b")))) ≡ nfs.Lookup (place 1 (codes "d"))
rename_begun = refl

rename_turns : walk_told (begun (command.Rename (below (codes "a")) (at_root (codes "b")))) (found 2 None) ≡ told.Asks (record { dir = 1; left = []; goal = goal.RenameTo 2 (codes "a") (codes "b") })
rename_turns = refl

rename_asks : next_call (record { dir = 1; left = []; goal = goal.RenameTo 2 (codes "a") (codes "b") }) ≡ rename_call 2 (codes "a") 1 (codes "b")
rename_asks = refl

-- of two names in the root nothing is looked up
rename_at_once : next_call (begun (command.Rename (at_root (codes "a")) (at_root (codes "b")))) ≡ rename_call 1 (codes "a") 1 (codes "b")
rename_at_once = refl

-- ---- open, rewrite, look

finds_file : walk_told (begun (command.Find (at_root (codes "a")))) (found 4 None) ≡ told.Finds 4
finds_file = refl

-- a file that is to be written anew is looked up as one that is opened
rewrite_looks_up : next_call (begun (command.Rewrite (below (codes "a")))) ≡ nfs.Lookup (place 1 (codes "d"))
rewrite_looks_up = refl

rewrite_goes_down : walk_told (begun (command.Rewrite (below (codes "a")))) (found 2 None) ≡ told.Asks (record { dir = 2; left = []; goal = goal.Rewrite (codes "a") })
rewrite_goes_down = refl

rewrites_file : walk_told (begun (command.Rewrite (at_root (codes "a")))) (found 4 None) ≡ told.Rewrites 4
rewrites_file = refl

sees_file : walk_told (begun (command.Look (at_root (codes "a")))) (found 4 (Some (attr kind.File 3))) ≡ told.Ends (ended.Seen 4 kind.File 7 3)
sees_file = refl

-- a look needs the attributes of what was found
sees_nothing : walk_told (begun (command.Look (at_root (codes "a")))) (found 4 None) ≡ lacks
sees_nothing = refl

-- a handle of another form
finds_no_handle : walk_told (begun (command.Find (at_root (codes "a")))) (nfs.LookupAnswer (Done (record { handle = 1 ∷ []; attr = None; dir = None }))) ≡ lacks
finds_no_handle = refl

sees_root : (next_call (begun command.LookRoot) ≡ nfs.GetAttr (handle_bytes 1)) × (walk_told (begun command.LookRoot) (nfs.GetAttrAnswer (Done (attr kind.Directory 2))) ≡ told.Ends (ended.Seen 1 kind.Directory 7 2))
sees_root = (refl, refl)

-- ---- list /, in two pages

abbrev entry : List ℕ → (cookie : ℕ) → Entry
entry name cookie = record { fileid = 9; name = name; cookie = cookie }

abbrev page : List Entry → Rattle.std.specs.Prelude.Bool → Nfs
page entries eof = nfs.ReadDirAnswer (Done (record { attr = None; verifier = 7; entries = entries; eof = eof }))

lists_more : walk_told (begun (command.List [])) (page (entry (codes "a") 1 ∷ entry (codes "b") 2 ∷ []) false) ≡ told.Asks (record { dir = 1; left = []; goal = goal.List (record { names = codes "a" ∷ codes "b" ∷ []; count = 1; cookie = 2; verifier = 7 }) })
lists_more = refl

lists_all : walk_told (record { dir = 1; left = []; goal = goal.List (record { names = codes "a" ∷ []; count = 1; cookie = 1; verifier = 7 }) }) (page (entry (codes "b") 2 ∷ []) true) ≡ told.Ends (ended.Names (codes "a" ∷ codes "b" ∷ []))
lists_all = refl

-- a page that ends nothing and tells nothing
lists_nothing : walk_told (begun (command.List [])) (page [] false) ≡ lacks
lists_nothing = refl

-- the 900,000th page isn't the last
lists_too_long : walk_told (record { dir = 1; left = []; goal = goal.List (record { names = []; count = 899999; cookie = 1; verifier = 7 }) }) (page (entry (codes "b") 2 ∷ []) false) ≡ told.Ends ended.NoLink
lists_too_long = refl

-- an answer to another procedure
other_answer : walk_told (begun command.LookRoot) nfs.NullAnswer ≡ told.Other
other_answer = refl
