-- What the server answers to a walk's next call that makes nothing: what its tree tells of names. It changes nothing, and fits its record.
use Rattle.std.proofs.Common.{◌≡◌, ℕ, ◌<◌, ◌^◌, List, [], ◌∷◌, ◌++◌, Some, None, Bool, true, false, refl, sym, ap, ◌∙◌, subst, append-nil}
use Rattle.limits.specs.declared.TheConstants.{LISTING_MOST}
use Rattle.xdr_codec.specs.Handle.{handle_bytes}
use Rattle.xdr_codec.specs.declared.answer.Answer.TheVariants.{Failed}
use Rattle.xdr_codec.specs.declared.status.Status.TheVariants as status
use Rattle.nfs3_calls.specs.Nfs.{nfs_proc}
use Rattle.nfs3_calls.specs.declared.message.Nfs.{Nfs}
use Rattle.wire.specs.Message.{MessageFits}
use Rattle.wire.specs.declared.message.Body.TheVariants as body
use Rattle.wire.specs.declared.message.Message.TheVariants as message
use Rattle.tree_reading.specs.Tree.{Tree}
use Rattle.tree_calls.specs.Telling.{answer_of, found, getattr, listing, told as told_by}
use Rattle.path_calls.specs.Walk.{place, call_at, next_call}
use Rattle.path_calls.specs.declared.walk.Goal.{Goal}
use Rattle.path_calls.specs.declared.walk.Goal.TheVariants as goal
use Rattle.path_calls.specs.declared.walk.Walk.{Walk}
use Rattle.server_core.specs.State as server
use Rattle.server_core.specs.Step.{says}
use Rattle.server_core.specs.declared.journal.Entry.{Entry}
use Rattle.server_law.proofs.lemmas.Trees.{IsBounded}
use Rattle.kept_promise.proofs.Common.{ServerStep, called, NameReply, NameReply.LookedUp, NameReply.Shown, NameReply.Listed, name_answer}
use Rattle.kept_promise.proofs.Lists.{some_is, nothing_there}
use Rattle.kept_promise.proofs.Statements.{NameAnswersFit}
use Rattle.kept_promise.proofs.PathNames.{AreNames, IsGoalNamed, IsAhead, IsWalkSmall, makes_at, is_making}
use Rattle.kept_promise.proofs.NamesSpelled.{lookup_fits, getattr_fits, listing_fits}

-- ---- which

abbrev pub reply_at : Tree → (dir : ℕ) → List (List ℕ) → Goal → NameReply
reply_at t dir (n ∷ ns) g = LookedUp (answer_of None (found t.nodes (place dir n)))
reply_at t dir [] (goal.Find name) = LookedUp (answer_of None (found t.nodes (place dir name)))
reply_at t dir [] (goal.Rewrite name) = LookedUp (answer_of None (found t.nodes (place dir name)))
reply_at t dir [] (goal.Look name) = LookedUp (answer_of None (found t.nodes (place dir name)))
reply_at t dir [] goal.LookRoot = Shown (answer_of tt (getattr t.nodes (handle_bytes dir)))
reply_at t dir [] (goal.List p) = Listed (answer_of None (listing t.nodes (record { dir = handle_bytes dir; cookie = p.cookie; verifier = p.verifier; count = LISTING_MOST })))
-- no other goal asks
reply_at t dir [] g = LookedUp (Failed status.ServerFault None)

abbrev pub walk_reply : Tree → Walk → NameReply
walk_reply t w = reply_at t w.dir w.left w.goal

told_at : (t : Tree) (dir : ℕ) (left : List (List ℕ)) (g : Goal) → IsAhead left g → makes_at left g ≡ false → told_by t.nodes (call_at dir left g) ≡ Some (name_answer (reply_at t dir left g))
told_at t dir [] (goal.Make name) asks none = absurd cc
told_at t dir [] (goal.MakeDir name) asks none = absurd cc
told_at t dir [] (goal.Remove name) asks none = absurd cc
told_at t dir [] (goal.RemoveDir name) asks none = absurd cc
told_at t dir [] (goal.RenameFrom name to) asks none = absurd asks
told_at t dir [] (goal.RenameTo from name to) asks none = absurd cc
told_at t dir _ _ asks none = refl

pub reply_told : (t : Tree) (w : Walk) → IsWalkSmall w → is_making w ≡ false → told_by t.nodes (next_call w) ≡ Some (name_answer (walk_reply t w))
reply_told t w h none = told_at t w.dir w.left w.goal h.ahead none

-- of the other calls nothing is told
untold_at : (t : Tree) (dir : ℕ) (left : List (List ℕ)) (g : Goal) → makes_at left g ≡ true → told_by t.nodes (call_at dir left g) ≡ None
untold_at t dir [] (goal.Make name) e = refl
untold_at t dir [] (goal.MakeDir name) e = refl
untold_at t dir [] (goal.RemoveDir name) e = refl
untold_at t dir [] (goal.Remove name) e = refl
untold_at t dir [] (goal.RenameTo from name to) e = refl
untold_at t dir left g e = absurd cc

pub making_untold : (t : Tree) (w : Walk) (m : Nfs) → told_by t.nodes (next_call w) ≡ Some m → is_making w ≡ false
making_untold t w m e = by (is_making w) refl
  where
    by : (b : Bool) → is_making w ≡ b → b ≡ false
    by false is = refl
    by true is = nothing_there m (sym (untold_at t w.dir w.left w.goal is) ∙ e)

of_its : (t : Tree) (dir : ℕ) (left : List (List ℕ)) (g : Goal) → IsAhead left g → makes_at left g ≡ false → nfs_proc (name_answer (reply_at t dir left g)) ≡ nfs_proc (call_at dir left g)
of_its t dir [] (goal.Make name) asks none = absurd cc
of_its t dir [] (goal.MakeDir name) asks none = absurd cc
of_its t dir [] (goal.Remove name) asks none = absurd cc
of_its t dir [] (goal.RemoveDir name) asks none = absurd cc
of_its t dir [] (goal.RenameFrom name to) asks none = absurd asks
of_its t dir [] (goal.RenameTo from name to) asks none = absurd cc
of_its t dir _ _ asks none = refl

-- it is of the call's procedure
pub reply_its : (t : Tree) (w : Walk) → IsWalkSmall w → is_making w ≡ false → nfs_proc (name_answer (walk_reply t w)) ≡ nfs_proc (next_call w)
reply_its t w h none = of_its t w.dir w.left w.goal h.ahead none

-- ---- it fits

fits_at : (t : Tree) (xid dir : ℕ) (left : List (List ℕ)) (g : Goal) → IsBounded t → AreNames left → IsGoalNamed g → IsAhead left g → makes_at left g ≡ false → xid < 2 ^ 32 → MessageFits (message.Answer xid (body.Nfs (name_answer (reply_at t dir left g))))
fits_at t xid dir (n ∷ ns) g h names aim asks none x = lookup_fits t xid (place dir n) h names.0.0.0 x
fits_at t xid dir [] (goal.Find name) h names aim asks none x = lookup_fits t xid (place dir name) h aim.0 x
fits_at t xid dir [] (goal.Rewrite name) h names aim asks none x = lookup_fits t xid (place dir name) h aim.0 x
fits_at t xid dir [] (goal.Look name) h names aim asks none x = lookup_fits t xid (place dir name) h aim.0 x
fits_at t xid dir [] goal.LookRoot h names aim asks none x = getattr_fits t xid (handle_bytes dir) h x
fits_at t xid dir [] (goal.List p) h names aim asks none x = listing_fits t xid (record { dir = handle_bytes dir; cookie = p.cookie; verifier = p.verifier; count = LISTING_MOST }) h x
fits_at t xid dir [] (goal.RenameFrom name to) h names aim asks none x = absurd asks
fits_at t xid dir [] _ h names aim asks none x = absurd cc

pub name_answers_fit : NameAnswersFit
name_answers_fit = λ lbfs xid t w r x h small e.
    let none = making_untold t w (name_answer r) e in
    let same : name_answer (walk_reply t w) ≡ name_answer r = some_is (name_answer (walk_reply t w)) (name_answer r) (sym (reply_told t w small none) ∙ e) in
    (subst (λ (m : Nfs). MessageFits (message.Answer xid (body.Nfs m))) same (fits_at t xid w.dir w.left w.goal h small.named.0 small.named.1 small.ahead none x), tt)

-- ---- the server's step

-- an answer with no entry
abbrev answers_with : server.State → (session xid : ℕ) → Nfs → List Entry → server.State × ServerStep
answers_with s session xid m journal = (record s { journal = journal }, (says s session xid (body.Nfs m)).1)

called_at : (s : server.State) (session xid dir : ℕ) (left : List (List ℕ)) (g : Goal) → IsAhead left g → makes_at left g ≡ false → called s session xid (body.Nfs (call_at dir left g)) ≡ answers_with s session xid (name_answer (reply_at s.tree dir left g)) (s.journal ++ [])
called_at s session xid dir [] (goal.Make name) asks none = absurd cc
called_at s session xid dir [] (goal.MakeDir name) asks none = absurd cc
called_at s session xid dir [] (goal.Remove name) asks none = absurd cc
called_at s session xid dir [] (goal.RemoveDir name) asks none = absurd cc
called_at s session xid dir [] (goal.RenameFrom name to) asks none = absurd asks
called_at s session xid dir [] (goal.RenameTo from name to) asks none = absurd cc
called_at s session xid dir _ _ asks none = refl

pub called_walk : (s : server.State) (session xid : ℕ) (w : Walk) → IsWalkSmall w → is_making w ≡ false → called s session xid (body.Nfs (next_call w)) ≡ says s session xid (body.Nfs (name_answer (walk_reply s.tree w)))
called_walk s session xid w h none = called_at s session xid w.dir w.left w.goal h.ahead none ∙ ap (answers_with s session xid (name_answer (walk_reply s.tree w))) (append-nil s.journal)
