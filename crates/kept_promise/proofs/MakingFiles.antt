-- What is done of a make or a remove made a file or let one go.
use Rattle.std.proofs.Common.{◌⊎◌, inl, inr, ◌≡◌, ℕ, ◌+◌, List, [], Some, None, Result, Ok, Err, true, refl, sym, ap, ◌∙◌}
use Rattle.xdr_codec.specs.declared.status.Status.{Status}
use Rattle.tree_nodes.specs.declared.node.Body.TheVariants.{File as Plain}
use Rattle.tree_reading.specs.Tree.{Tree}
use Rattle.tree_reading.specs.Plans.{one, gone_entry}
use Rattle.file_tree.specs.Step.{remove}
use Rattle.tree_reading.specs.declared.call.Changed.{Changed}
use Rattle.tree_reading.specs.declared.call.Reservation.{Reservation}
use Rattle.tree_reading.specs.declared.entry.Entry.{Entry as TreeEntry}
use Rattle.path_calls.specs.declared.walk.Goal.{Goal}
use Rattle.path_calls.specs.declared.walk.Goal.TheVariants as goal
use Rattle.path_calls.specs.declared.walk.Walk.{Walk}
use Rattle.register_model.specs.declared.op.Word.TheVariants as words
use Rattle.register_model.specs.Register.{changes}
use Rattle.trace_replay.specs.Naming.{entry_file}
use Rattle.server_law.proofs.lemmas.TreeCalls.{ok_is}
use Rattle.kept_promise.proofs.Lists.{nothing_there}
use Rattle.kept_promise.proofs.PathNames.{is_making, makes_at}
use Rattle.kept_promise.proofs.Messages.{goal_word}
use Rattle.kept_promise.proofs.Makings.{step_by, MadeSo, refuses, enters, made_walk}
use Rattle.kept_promise.proofs.Goings.{RemovedSo, no_remove, goes, removed_so}

not_both : {A : Type 0} (done : Changed) (s : Status) → ◌≡◌ {A = Result Changed Status} (Err s) (Ok done) → A
not_both done s e = absurd cc

make_enters : (t : Tree) (held : Reservation) (dir : ℕ) (name : List ℕ) (done : Changed) → (step_by t held dir (goal.Make name)).1 ≡ Ok done → entry_file done.first ≡ None → ⊥
make_enters t held dir name done is none = by (made_walk t held (record { dir = dir; left = []; goal = goal.Make name }) refl)
  where
    by : MadeSo t held (record { dir = dir; left = []; goal = goal.Make name }) → ⊥
    by (refuses s r m err refused leads procs) = not_both done s (sym err ∙ is)
    by (enters other e r after m step first second entry a leads procs) =
        let same : other ≡ done = ok_is other done (sym (ap (λ (p : Tree × Result Changed Status). p.1) step) ∙ is) in
        nothing_there t.next (sym none ∙ sym (ap (λ (c : Changed). entry_file c.first) same) ∙ ap entry_file first ∙ ap (λ (z : TreeEntry). entry_file (Some z)) entry)

remove_enters : (t : Tree) (held : Reservation) (dir : ℕ) (name : List ℕ) (done : Changed) → (remove t held dir name).1 ≡ Ok done → entry_file done.first ≡ None → ⊥
remove_enters t held dir name done is none = by (removed_so t held dir name)
  where
    by : RemovedSo t held dir name → ⊥
    by (no_remove s err) = not_both done s (sym (ap (λ (p : Tree × Result Changed Status). p.1) err) ∙ is)
    by (goes n content at body there room step) =
        let same : one n.id (n.version + 1) (gone_entry n (Plain content)) ≡ done = ok_is (one n.id (n.version + 1) (gone_entry n (Plain content))) done (sym (ap (λ (p : Tree × Result Changed Status). p.1) step) ∙ is) in
        nothing_there n.id (sym none ∙ sym (ap (λ (c : Changed). entry_file c.first) same))

renames_else : (g : Goal) → changes (goal_word g) ≡ true → (goal_word g ≡ words.Make → ⊥) → (goal_word g ≡ words.Remove → ⊥) → goal_word g ≡ words.Rename
renames_else (goal.Make n) e make gone = absurd (make refl)
renames_else (goal.Remove n) e make gone = absurd (gone refl)
renames_else (goal.RenameFrom n to) e make gone = refl
renames_else (goal.RenameTo from n to) e make gone = refl
renames_else _ e make gone = absurd cc

-- so what may change a file, and is done without one, is a rename
pub fileless_rename : (t : Tree) (held : Reservation) (w : Walk) (done : Changed) → is_making w ≡ true → (step_by t held w.dir w.goal).1 ≡ Ok done → entry_file done.first ≡ None → changes (goal_word w.goal) ≡ true → goal_word w.goal ≡ words.Rename
fileless_rename t held w done making is none may = renames_else w.goal may (λ e. by w.dir w.left w.goal making is (inl e)) (λ e. by w.dir w.left w.goal making is (inr e))
  where
    by : (dir : ℕ) (left : List (List ℕ)) (g : Goal) → makes_at left g ≡ true → (step_by t held dir g).1 ≡ Ok done → (goal_word g ≡ words.Make) ⊎ (goal_word g ≡ words.Remove) → ⊥
    by dir [] (goal.Make n) e is word = make_enters t held dir n done is none
    by dir [] (goal.Remove n) e is word = remove_enters t held dir n done is none
    by dir [] (goal.MakeDir n) e is (inl word) = absurd cc
    by dir [] (goal.MakeDir n) e is (inr word) = absurd cc
    by dir [] (goal.RemoveDir n) e is (inl word) = absurd cc
    by dir [] (goal.RemoveDir n) e is (inr word) = absurd cc
    by dir [] (goal.RenameTo from n to) e is (inl word) = absurd cc
    by dir [] (goal.RenameTo from n to) e is (inr word) = absurd cc
    by dir left g e is word = absurd cc
