-- What comes of an answer: the walk goes on, or it ends.
use Rattle.std.specs.Prelude.{ℕ, ◌+◌, ◌*◌, List, [], ◌∷◌, ◌++◌, map, Option, Some, None, Bool, true, false, nat_le}
use Rattle.xdr_codec.specs.Handle.{file_of}
use Rattle.xdr_codec.specs.declared.answer.Answer.{Answer}
use Rattle.xdr_codec.specs.declared.answer.Answer.TheVariants.{Done, Failed}
use Rattle.xdr_codec.specs.declared.attr.Attr.{Attr}
use Rattle.xdr_codec.specs.declared.status.Status.{Status}
use Rattle.nfs3_calls.specs.declared.listing.Entry.{Entry}
use Rattle.nfs3_calls.specs.declared.listing.Listing.{Listing}
use Rattle.nfs3_calls.specs.declared.message.Nfs.{Nfs}
use Rattle.nfs3_calls.specs.declared.message.Nfs.TheVariants as nfs
use Rattle.nfs3_calls.specs.declared.place.Found.{Found}
use Rattle.path_calls.specs.declared.answers.Ended.TheVariants as ended
use Rattle.path_calls.specs.declared.answers.Told.{Told}
use Rattle.path_calls.specs.declared.answers.Told.TheVariants as told
use Rattle.path_calls.specs.declared.walk.Goal.{Goal}
use Rattle.path_calls.specs.declared.walk.Goal.TheVariants as goal
use Rattle.path_calls.specs.declared.walk.Pages.{Pages}
use Rattle.path_calls.specs.declared.walk.Walk.{Walk}
use Rattle.path_calls.specs.Walk.{arrives, pages_most}

-- a number was wanted, and none came
abbrev pub lacks : Told
lacks = told.Shape 0 1

-- ---- a look-up

-- the next name is looked up in what was found, or all are
abbrev pub goes_down : List (List ℕ) → Goal → Option ℕ → Told
goes_down left g None = lacks
goes_down left g (Some id) = told.Asks (arrives id left g)

abbrev pub finds : Option ℕ → Told
finds None = lacks
finds (Some id) = told.Finds id

-- the version that attributes show, by the time of the last change (RFC 1813, section 2.6: mtime)
abbrev pub shown_version : Attr → ℕ
shown_version a = a.mtime.seconds * 1000000000 + a.mtime.nanoseconds

abbrev pub finds_anew : Option ℕ → Told
finds_anew None = lacks
finds_anew (Some id) = told.Rewrites id

abbrev pub seen : ℕ → Attr → Told
seen id a = told.Ends (ended.Seen id a.kind (shown_version a) a.size)

abbrev pub sees : Option ℕ → Option Attr → Told
sees (Some id) (Some a) = seen id a
sees id a = lacks

abbrev pub told_goal : Goal → Found → Told
told_goal (goal.Find name) f = finds (file_of f.handle)
told_goal (goal.Rewrite name) f = finds_anew (file_of f.handle)
told_goal (goal.Look name) f = sees (file_of f.handle) f.attr
told_goal g f = told.Other

abbrev pub told_found : List (List ℕ) → Goal → Found → Told
told_found [] g f = told_goal g f
told_found (n ∷ ns) g f = goes_down ns g (file_of f.handle)

-- ---- a page of a directory

-- the cookie of the last entry
abbrev pub last_cookie : ℕ → List Entry → ℕ
last_cookie cookie [] = cookie
last_cookie cookie (e ∷ es) = last_cookie e.cookie es

abbrev pub with_page : Pages → Listing → Pages
with_page p l = record { names = p.names ++ map (λ e. e.name) l.entries; count = p.count; cookie = last_cookie p.cookie l.entries; verifier = l.verifier }

abbrev pub asks_page : (dir : ℕ) → Pages → (is_last : Bool) → Told
asks_page dir p true = told.Ends ended.NoLink
asks_page dir p false = told.Asks (record { dir = dir; left = []; goal = goal.List (record p { count = p.count + 1 }) })

abbrev pub more_pages : (dir : ℕ) → Pages → List Entry → Told
more_pages dir p [] = lacks
more_pages dir p (e ∷ es) = asks_page dir p (nat_le pages_most (p.count + 1))

abbrev pub lists_on : (dir : ℕ) → Pages → List Entry → (eof : Bool) → Told
lists_on dir p entries true = told.Ends (ended.Names p.names)
lists_on dir p entries false = more_pages dir p entries

abbrev pub told_page : (dir : ℕ) → Goal → Listing → Told
told_page dir (goal.List p) l = lists_on dir (with_page p l) l.entries l.eof
told_page dir g l = told.Other

-- ---- the root

abbrev pub told_attr : (dir : ℕ) → Goal → Attr → Told
told_attr dir goal.LookRoot a = seen dir a
told_attr dir g a = told.Other

-- ---- any answer

abbrev pub refused : Status → Told
refused s = told.Ends (ended.Refused s)

-- of a call that changes names: it has nothing to tell
abbrev pub changed_by : {D F : Type 0} → Answer D F → Told
changed_by (Done d) = told.Ends ended.Done
changed_by (Failed s f) = refused s

-- an answer that refuses, or that has nothing to tell
abbrev pub plainly_told : Nfs → Told
plainly_told (nfs.LookupAnswer (Failed s a)) = refused s
plainly_told (nfs.GetAttrAnswer (Failed s a)) = refused s
plainly_told (nfs.ReadDirAnswer (Failed s a)) = refused s
plainly_told (nfs.CreateAnswer a) = changed_by a
plainly_told (nfs.MkDirAnswer a) = changed_by a
plainly_told (nfs.RemoveAnswer a) = changed_by a
plainly_told (nfs.RmDirAnswer a) = changed_by a
plainly_told (nfs.RenameAnswer a) = changed_by a
plainly_told _ = told.Other

-- only a page of a directory takes memory, for its names
abbrev pub MayMissTold : Nfs → Type 0
MayMissTold (nfs.ReadDirAnswer (Done l)) = Unit {0}
MayMissTold a = ⊥

-- The answer to the walk's last call; one to another procedure is none of its answers.
abbrev pub walk_told : Walk → Nfs → Told
walk_told w (nfs.LookupAnswer (Done f)) = told_found w.left w.goal f
walk_told w (nfs.GetAttrAnswer (Done a)) = told_attr w.dir w.goal a
walk_told w (nfs.ReadDirAnswer (Done l)) = told_page w.dir w.goal l
walk_told w a = plainly_told a
