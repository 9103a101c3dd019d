-- The messages of a walk: no operation counts them, since none carries bytes of a file.
use Rattle.std.proofs.Common.{◌≡◌, ℕ, List, [], ◌∷◌, true, false, refl, sym, ◌∙◌}
use Rattle.nfs3_calls.specs.Nfs.{nfs_proc, proc_number}
use Rattle.nfs3_calls.specs.declared.message.Nfs.{Nfs}
use Rattle.nfs3_calls.specs.declared.message.Nfs.TheVariants as nfs
use Rattle.xdr_codec.specs.declared.answer.Answer.TheVariants.{Done}
use Rattle.wire.specs.declared.message.Body.TheVariants as body
use Rattle.wire.specs.declared.message.Message.TheVariants as message
use Rattle.path_calls.specs.Walk.{call_at, next_call}
use Rattle.path_calls.specs.declared.walk.Goal.{Goal}
use Rattle.path_calls.specs.declared.walk.Goal.TheVariants as goal
use Rattle.path_calls.specs.declared.walk.Walk.{Walk}
use Rattle.open_close.specs.Walking.{is_its}
use Rattle.trace_ends.specs.Ops.{no_traffic}
use Rattle.kept_promise.proofs.Common.{◌==◌, sent_traffic, taken_traffic}

-- its call is no READ
not_read : (dir : ℕ) (left : List (List ℕ)) (g : Goal) → (6 == proc_number (nfs_proc (call_at dir left g))) ≡ false
not_read dir (n ∷ ns) g = refl
not_read dir [] (goal.Find name) = refl
not_read dir _ _ = refl

call_silent : (x dir : ℕ) (left : List (List ℕ)) (g : Goal) → sent_traffic (message.Call x (body.Nfs (call_at dir left g))) ≡ no_traffic
call_silent x dir (n ∷ ns) g = refl
call_silent x dir [] (goal.Find name) = refl
call_silent x dir _ _ = refl

pub call_counts : (x : ℕ) (w : Walk) → sent_traffic (message.Call x (body.Nfs (next_call w))) ≡ no_traffic
call_counts x w = call_silent x w.dir w.left w.goal

-- nor is the answer
pub answer_counts : (x : ℕ) (w : Walk) (a : Nfs) → is_its w a ≡ true → taken_traffic (message.Answer x (body.Nfs a)) ≡ no_traffic
answer_counts x w (nfs.ReadAnswer (Done p)) its = no (sym its ∙ not_read w.dir w.left w.goal)
  where
    no : {A : Type 0} → true ≡ false → A
    no e = absurd cc
answer_counts x w a its = refl
