-- Where a client waits for the answer to a walk's last call alone, an answer to another is waited for by nobody, whatever the history became.
use Rattle.std.proofs.Common.{◌≡◌, ℕ, List, Option, Some, sym, ap, ◌∙◌}
use Rattle.client_state.specs.declared.task.Stage.TheVariants as stage
use Rattle.path_calls.specs.declared.walk.Walk.{Walk}
use Rattle.kept_promise.proofs.Common.{Fetch, Stage, TakenCall, Book, Reply, Reply.Versioned, Reply.Hashed, Reply.Bytes, Reply.Made, Reply.Named, Reply.Stored, Reply.Changed, Reply.Walked, Told}
use Rattle.kept_promise.proofs.Lists.{nothing_there}
use Rattle.kept_promise.proofs.Messages.{Job, hash_offset, AnswerOf, IsAnswer, lease_xid}

not_asking : (x y : ℕ) (w : Walk) → lease_xid (stage.Walking x w) ≡ Some y → ⊥
not_asking x y w e = absurd cc

not_reading : (x : ℕ) (z : Fetch) (w : Walk) → stage.Reading z ≡ stage.Walking x w → ⊥
not_reading x z w e = absurd cc

not_committing : (x y : ℕ) (w : Walk) → stage.Committing y ≡ stage.Walking x w → ⊥
not_committing x y w e = absurd cc

same_xid : (x y : ℕ) (v w : Walk) → stage.Walking y v ≡ stage.Walking x w → y ≡ x
same_xid x y v w e = cc

pub unwaited : (book more : Book) (taken after : List TakenCall) (closing : Option ℕ) (job : Option Job) (xid : ℕ) (w : Walk) (u : Told) → ((j : Job) → job ≡ Some j → j.stage ≡ stage.Walking xid w) → (u.xid ≡ xid → ⊥) → IsAnswer book taken closing job u → IsAnswer more after closing job u
unwaited book more taken after closing job xid w u waits apart f = by u.reply f
  where
    by : (r : Reply) → AnswerOf book taken closing job u.xid r → AnswerOf more after closing job u.xid r
    by (Versioned s) f = λ j at on. absurd (not_asking xid u.xid w (sym (ap lease_xid (waits j at)) ∙ on))
    by (Hashed s) f = λ j o at on. nothing_there o (sym (ap (λ (z : Stage). hash_offset z u.xid) (waits j at)) ∙ on)
    by (Bytes s) f = λ j z d at on is. absurd (not_reading xid z w (sym on ∙ waits j at))
    by (Changed s) f = λ j at on. absurd (not_committing xid u.xid w (sym on ∙ waits j at))
    by (Walked r) f = λ j v at on. absurd (apart (same_xid xid u.xid v w (sym on ∙ waits j at)))
    by (Made s) f = tt
    by (Named s) f = tt
    by (Stored s) f = tt
