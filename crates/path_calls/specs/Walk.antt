-- Which calls a command on names asks for, one after the other.
use Rattle.std.specs.Prelude.{ℕ, ◌+◌, ◌-◌, List, [], ◌∷◌, length, None}
use Rattle.limits.specs.declared.TheConstants.{LISTING_MOST}
use Rattle.xdr_codec.specs.Handle.{handle_bytes}
use Rattle.xdr_codec.specs.declared.handle.TheConstants.{ROOT}
use Rattle.nfs3_calls.specs.declared.message.Nfs.{Nfs}
use Rattle.nfs3_calls.specs.declared.message.Nfs.TheVariants as nfs
use Rattle.nfs3_calls.specs.declared.place.Place.{Place}
use Rattle.nfs3_calls.specs.declared.making.HowMade.TheVariants as how
use Rattle.nfs3_calls.specs.declared.making.SetAttr.{SetAttr}
use Rattle.nfs3_calls.specs.declared.making.SetTime.TheVariants as set_time
use Rattle.command_text.specs.declared.path.PathCommand.{PathCommand}
use Rattle.command_text.specs.declared.path.PathCommand.TheVariants as command
use Rattle.path_calls.specs.declared.walk.Goal.{Goal}
use Rattle.path_calls.specs.declared.walk.Goal.TheVariants as goal
use Rattle.path_calls.specs.declared.walk.Pages.{Pages}
use Rattle.path_calls.specs.declared.walk.Walk.{Walk}

-- ---- where a command begins

abbrev pub from_root : List (List ℕ) → Goal → Walk
from_root left g = record { dir = ROOT; left = left; goal = g }

abbrev pub no_pages : Pages
no_pages = record { names = []; count = 0; cookie = 0; verifier = 0 }

-- Where all names before a first name of a RENAME are looked up, those before the second are, from the root on.
abbrev pub arrived : (dir : ℕ) → Goal → Walk
arrived dir (goal.RenameFrom name to) = record { dir = ROOT; left = to.dirs; goal = goal.RenameTo dir name to.name }
arrived dir g = record { dir = dir; left = []; goal = g }

abbrev pub arrives : (dir : ℕ) → (left : List (List ℕ)) → Goal → Walk
arrives dir [] g = arrived dir g
arrives dir (n ∷ ns) g = record { dir = dir; left = n ∷ ns; goal = g }

abbrev pub begun : PathCommand → Walk
begun (command.Find s) = from_root s.dirs (goal.Find s.name)
begun (command.Rewrite s) = from_root s.dirs (goal.Rewrite s.name)
begun (command.Look s) = from_root s.dirs (goal.Look s.name)
begun command.LookRoot = from_root [] goal.LookRoot
begun (command.List path) = from_root path (goal.List no_pages)
begun (command.Make s) = from_root s.dirs (goal.Make s.name)
begun (command.MakeDir s) = from_root s.dirs (goal.MakeDir s.name)
begun (command.Remove s) = from_root s.dirs (goal.Remove s.name)
begun (command.RemoveDir s) = from_root s.dirs (goal.RemoveDir s.name)
begun (command.Rename s to) = arrives ROOT s.dirs (goal.RenameFrom s.name to)

-- ---- its next call (RFC 1813, section 3.3)

-- a name in the directory of an id
abbrev pub place : (dir : ℕ) → List ℕ → Place
place dir name = record { dir = handle_bytes dir; name = name }

-- no attribute is set
abbrev pub keeps_all : SetAttr
keeps_all = record { mode = None; uid = None; gid = None; size = None; atime = set_time.Keep; mtime = set_time.Keep }

-- the page behind those that came
abbrev pub page_call : (dir : ℕ) → Pages → Nfs
page_call dir p = nfs.ReadDir (record { dir = handle_bytes dir; cookie = p.cookie; verifier = p.verifier; count = LISTING_MOST })

-- a file is made where the name is free
abbrev pub create_call : (dir : ℕ) → List ℕ → Nfs
create_call dir name = nfs.Create (record { place = place dir name; how = how.Guarded keeps_all })

abbrev pub make_dir_call : (dir : ℕ) → List ℕ → Nfs
make_dir_call dir name = nfs.MkDir (record { place = place dir name; attr = keeps_all })

abbrev pub rename_call : (from : ℕ) → List ℕ → (to : ℕ) → List ℕ → Nfs
rename_call from name to to_name = nfs.Rename (record { from = place from name; to = place to to_name })

-- what is asked for in the directory that was reached
abbrev pub goal_call : (dir : ℕ) → Goal → Nfs
goal_call dir (goal.Find name) = nfs.Lookup (place dir name)
goal_call dir (goal.Rewrite name) = nfs.Lookup (place dir name)
goal_call dir (goal.Look name) = nfs.Lookup (place dir name)
goal_call dir goal.LookRoot = nfs.GetAttr (handle_bytes dir)
goal_call dir (goal.List p) = page_call dir p
goal_call dir (goal.Make name) = create_call dir name
goal_call dir (goal.MakeDir name) = make_dir_call dir name
goal_call dir (goal.Remove name) = nfs.Remove (place dir name)
goal_call dir (goal.RemoveDir name) = nfs.RmDir (place dir name)
goal_call dir (goal.RenameFrom name to) = nfs.Lookup (place dir name)
goal_call dir (goal.RenameTo from name to_name) = rename_call from name dir to_name

-- a name that is left is looked up, and else the goal's call goes out
abbrev pub call_at : (dir : ℕ) → List (List ℕ) → Goal → Nfs
call_at dir [] g = goal_call dir g
call_at dir (n ∷ ns) g = nfs.Lookup (place dir n)

abbrev pub next_call : Walk → Nfs
next_call w = call_at w.dir w.left w.goal

-- ---- how many calls it may still send

-- a listing sends so many READDIRs at most
abbrev pub pages_most : ℕ
pages_most = 900000

-- behind its look-ups and the goal's own call
abbrev pub goal_left : Goal → ℕ
goal_left (goal.List p) = pages_most - p.count
goal_left (goal.RenameFrom name to) = length to.dirs
goal_left g = 0

-- behind its next call, at most
abbrev pub calls_left : Walk → ℕ
calls_left w = length w.left + goal_left w.goal
