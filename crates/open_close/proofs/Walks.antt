-- The calls that may still come of a walk, through what an answer leads to.
use Rattle.std.proofs.Common.{◌≡◌, refl, ℕ, ◌+◌, ◌-◌, ◌<◌, List, [], ◌∷◌, length, Bool, true, false, arith}
use Rattle.std.specs.Prelude.{Option, Some, None, nat_le}
use Rattle.std.proofs.lemmas.Bool.Decides.{nat_tests}
use Rattle.xdr_codec.specs.Handle.{file_of}
use Rattle.xdr_codec.specs.declared.answer.Answer.{Answer}
use Rattle.xdr_codec.specs.declared.answer.Answer.TheVariants.{Done, Failed}
use Rattle.xdr_codec.specs.declared.attr.Attr.{Attr}
use Rattle.nfs3_calls.specs.declared.listing.Entry.{Entry}
use Rattle.nfs3_calls.specs.declared.listing.Listing.{Listing}
use Rattle.nfs3_calls.specs.declared.message.Nfs.{Nfs}
use Rattle.nfs3_calls.specs.declared.message.Nfs.TheVariants as nfs
use Rattle.nfs3_calls.specs.declared.place.Found.{Found}
use Rattle.path_calls.specs.Told.{changed_by, goes_down, finds, finds_anew, told_goal, told_found, told_page, told_attr, lists_on, more_pages, asks_page, with_page, walk_told, sees}
use Rattle.path_calls.specs.Walk.{arrives, pages_most}
use Rattle.path_calls.specs.declared.walk.Goal.{Goal}
use Rattle.path_calls.specs.declared.walk.Goal.TheVariants as goal
use Rattle.path_calls.specs.declared.walk.Pages.{Pages}
use Rattle.path_calls.specs.declared.walk.Walk.{Walk}
use Rattle.client_state.specs.View.{HasXids}
use Rattle.client_state.specs.declared.task.Stage.TheVariants as stage
use Rattle.open_close.specs.Walking.{HasXidsFor}

abbrev at : (dir : ℕ) → List (List ℕ) → Goal → Walk
at dir left g = record { dir = dir; left = left; goal = g }

-- ---- a look-up

arrives_xids : (next dir id : ℕ) (n : List ℕ) (ns : List (List ℕ)) (g : Goal) → HasXids next (stage.Walking 0 (at dir (n ∷ ns) g)) → HasXids (next + 1) (stage.Walking 0 (arrives id ns g))
arrives_xids next dir id n (m ∷ ns) g h = omega (arith, h)
arrives_xids next dir id n [] (goal.RenameFrom name to) h = omega (arith, h)
arrives_xids next dir id n [] (goal.Find name) h = omega (arith, h)
arrives_xids next dir id n [] (goal.Rewrite name) h = omega (arith, h)
arrives_xids next dir id n [] (goal.Look name) h = omega (arith, h)
arrives_xids next dir id n [] goal.LookRoot h = omega (arith, h)
arrives_xids next dir id n [] (goal.List p) h = omega (arith, h)
arrives_xids next dir id n [] (goal.Make name) h = omega (arith, h)
arrives_xids next dir id n [] (goal.MakeDir name) h = omega (arith, h)
arrives_xids next dir id n [] (goal.Remove name) h = omega (arith, h)
arrives_xids next dir id n [] (goal.RemoveDir name) h = omega (arith, h)
arrives_xids next dir id n [] (goal.RenameTo from name to) h = omega (arith, h)

goes_xids : (next dir : ℕ) (n : List ℕ) (ns : List (List ℕ)) (g : Goal) (o : Option ℕ) → HasXids next (stage.Walking 0 (at dir (n ∷ ns) g)) → HasXidsFor next (goes_down ns g o)
goes_xids next dir n ns g None h = tt
goes_xids next dir n ns g (Some id) h = arrives_xids next dir id n ns g h

finds_xids : (next dir : ℕ) (name : List ℕ) (o : Option ℕ) → HasXids next (stage.Walking 0 (at dir [] (goal.Find name))) → HasXidsFor next (finds o)
finds_xids next dir name None h = tt
finds_xids next dir name (Some id) h = omega (arith, h)

anew_xids : (next dir : ℕ) (name : List ℕ) (o : Option ℕ) → HasXids next (stage.Walking 0 (at dir [] (goal.Rewrite name))) → HasXidsFor next (finds_anew o)
anew_xids next dir name None h = tt
anew_xids next dir name (Some id) h = omega (arith, h)

sees_xids : (next : ℕ) (o : Option ℕ) (a : Option Attr) → HasXidsFor next (sees o a)
sees_xids next (Some id) (Some a) = tt
sees_xids next (Some id) None = tt
sees_xids next None a = tt

goal_xids : (next dir : ℕ) (g : Goal) (f : Found) → HasXids next (stage.Walking 0 (at dir [] g)) → HasXidsFor next (told_goal g f)
goal_xids next dir (goal.Find name) f h = finds_xids next dir name (file_of f.handle) h
goal_xids next dir (goal.Rewrite name) f h = anew_xids next dir name (file_of f.handle) h
goal_xids next dir (goal.Look name) f h = sees_xids next (file_of f.handle) f.attr
goal_xids next dir g f h = tt

found_xids : (next dir : ℕ) (left : List (List ℕ)) (g : Goal) (f : Found) → HasXids next (stage.Walking 0 (at dir left g)) → HasXidsFor next (told_found left g f)
found_xids next dir [] g f h = goal_xids next dir g f h
found_xids next dir (n ∷ ns) g f h = goes_xids next dir n ns g (file_of f.handle) h

-- ---- a page of a directory

asks_xids : (next dir : ℕ) (left : List (List ℕ)) (p : Pages) (b : Bool) → nat_le pages_most (p.count + 1) ≡ b → next + (length left + (pages_most - p.count)) < 4294967296 → HasXidsFor next (asks_page dir p b)
asks_xids next dir left p true e h = tt
asks_xids next dir left p false e h =
    let lt : p.count + 1 < pages_most = grind (arith, nat_tests, e) in
    omega (arith, h, lt)

more_xids : (next dir : ℕ) (left : List (List ℕ)) (p : Pages) (es : List Entry) → next + (length left + (pages_most - p.count)) < 4294967296 → HasXidsFor next (more_pages dir p es)
more_xids next dir left p [] h = tt
more_xids next dir left p (e ∷ es) h = asks_xids next dir left p (nat_le pages_most (p.count + 1)) refl h

lists_xids : (next dir : ℕ) (left : List (List ℕ)) (p : Pages) (es : List Entry) (eof : Bool) → next + (length left + (pages_most - p.count)) < 4294967296 → HasXidsFor next (lists_on dir p es eof)
lists_xids next dir left p es true h = tt
lists_xids next dir left p es false h = more_xids next dir left p es h

page_xids : (next dir : ℕ) (left : List (List ℕ)) (g : Goal) (l : Listing) → HasXids next (stage.Walking 0 (at dir left g)) → HasXidsFor next (told_page dir g l)
page_xids next dir left (goal.List p) l h = lists_xids next dir left (with_page p l) l.entries l.eof (let le : next + (length left + (pages_most - p.count)) < 4294967296 = omega (arith, h) in le)
page_xids next dir left g l h = tt

-- ---- any answer

attr_xids : (next dir : ℕ) (g : Goal) (a : Attr) → HasXidsFor next (told_attr dir g a)
attr_xids next dir goal.LookRoot a = tt
attr_xids next dir g a = tt

changed_xids : {D F : Type 0} (next : ℕ) (a : Answer D F) → HasXidsFor next (changed_by a)
changed_xids next (Done d) = tt
changed_xids next (Failed s f) = tt

pub told_xids : (next : ℕ) (w : Walk) (a : Nfs) → HasXids next (stage.Walking 0 w) → HasXidsFor next (walk_told w a)
told_xids next w (nfs.LookupAnswer (Done f)) h = found_xids next w.dir w.left w.goal f h
told_xids next w (nfs.LookupAnswer (Failed s a)) h = tt
told_xids next w (nfs.GetAttrAnswer (Done a)) h = attr_xids next w.dir w.goal a
told_xids next w (nfs.GetAttrAnswer (Failed s u)) h = tt
told_xids next w (nfs.ReadDirAnswer (Done l)) h = page_xids next w.dir w.left w.goal l h
told_xids next w (nfs.ReadDirAnswer (Failed s a)) h = tt
told_xids next w (nfs.CreateAnswer a) h = changed_xids next a
told_xids next w (nfs.MkDirAnswer a) h = changed_xids next a
told_xids next w (nfs.RemoveAnswer a) h = changed_xids next a
told_xids next w (nfs.RmDirAnswer a) h = changed_xids next a
told_xids next w (nfs.RenameAnswer a) h = changed_xids next a
told_xids next w a h = tt
