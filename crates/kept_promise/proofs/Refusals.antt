-- An open, or a rewrite, by an id was refused as one of its file is: its client looked no name up for it.
use Rattle.std.proofs.Common.{inl, inr, ◌≡◌, ℕ, ◌<◌, List, length, Some, Bool, true, false, refl, sym, ap, ◌∙◌, subst, arith}
use Rattle.command_text.specs.declared.command.Command.TheVariants as command
use Rattle.client_state.specs.declared.task.Stage.{Stage}
use Rattle.client_state.specs.declared.task.Stage.TheVariants as stage
use Rattle.path_calls.specs.declared.walk.Walk.{Walk}
use Rattle.register_model.specs.declared.op.Outcome.TheVariants as told
use Rattle.register_model.specs.declared.op.Word.TheVariants as words
use Rattle.kept_promise.proofs.Common.{nat_tests, nat_lt, slice_get, Contains, Command, Op, Word, word_of, Deed, Book, Moment, IsOpenRefused}
use Rattle.kept_promise.proofs.Lists.{some_is}
use Rattle.kept_promise.proofs.Messages.{Job, job_of}
use Rattle.kept_promise.proofs.Rights.{RewriteRefused, RefusedBy, Caused, WasWalk}
use Rattle.kept_promise.proofs.Deeds.{Rises, AreDeeds, IsDeed, HasIdFile, also_there}
use Rattle.kept_promise.proofs.WalkRuns.{IsOn, JobsOn}

-- at each moment, how far the commands had come
abbrev WereOn : Book → List Deed → Type 0
WereOn book ds = (m : Moment) → Contains book.moments m → JobsOn book.moments ds m.before

-- two operations that began at once are one
one_place : (ops : List Op) (i j : ℕ) (o q : Op) → Rises ops → slice_get ops i ≡ Some o → slice_get ops j ≡ Some q → o.begin ≡ q.begin → i ≡ j
one_place ops i j o q rises at there same = by (nat_lt i j) refl (nat_lt j i) refl
  where
    by : (b : Bool) → nat_lt i j ≡ b → (c : Bool) → nat_lt j i ≡ c → i ≡ j
    by true e c d = let less : i < j = grind (arith, nat_tests, e) in let lt = rises i j o q less at there in absurd (omega (arith, lt, same))
    by false e true d = let less : j < i = grind (arith, nat_tests, d) in let lt = rises j i q o less there at in absurd (omega (arith, lt, same))
    by false e false d = grind (arith, nat_tests, e, d)

module _ (book : Book) (ds : List Deed) (rises : Rises book.ops) (each : AreDeeds ds book.ops) (count : length book.ops ≡ length ds) (were : WereOn book ds) (k : ℕ) (d : Deed) (o : Op) (was : slice_get ds k ≡ Some d) (at : slice_get book.ops k ≡ Some o) where
  -- a command by an id
  abbrev ById : Command → Type 0
  ById (command.Named c) = ⊥
  ById x = Unit {0}

  unwalked : (x : Command) → ById x → (q : Op) (y : ℕ) (v : Walk) (n : ℕ) → IsOn book.moments x q (stage.Walking y v) n → ⊥
  unwalked (command.Named c) by_id q y v n on = absurd by_id
  unwalked x by_id q y v n on = on

  not_walked : (x : Command) → d.command ≡ x → ById x → WasWalk book o → ⊥
  not_walked x d_is by_id w =
      let j : Job = record { place = w.place; file = w.task.file; stage = w.task.stage } in
      let on = were w.at w.noted o.client w.seat j w.seat_is (ap (λ l. job_of l w.seat.client.task) w.place_is ∙ ap (job_of (Some w.place)) w.task_is) in
      let then_ : w.then_op ≡ on.1 = some_is w.then_op on.1 (sym w.then_is ∙ on.3) in
      let q = also_there ds book.ops w.place on.0 count on.2 in
      let begin : q.0.begin ≡ o.begin = (each w.place on.0 q.0 on.2 q.1).begin ∙ sym on.4 ∙ sym (ap (λ (z : Op). z.begin) then_) ∙ w.then_began in
      let place : w.place ≡ k = one_place book.ops w.place k q.0 o rises q.1 at begin in
      let mine : on.0 ≡ d = some_is on.0 d (sym on.2 ∙ ap (slice_get ds) place ∙ was) in
      let then_on : IsOn book.moments x on.1 w.task.stage w.at.before.steps = subst (λ (z : Command). IsOn book.moments z on.1 w.task.stage w.at.before.steps) (ap (λ (z : Deed). z.command) mine ∙ d_is) on.6 in
      unwalked x by_id on.1 w.xid w.walk w.at.before.steps (subst (λ (z : Stage). IsOn book.moments x on.1 z w.at.before.steps) w.stage_is then_on)

  pub open_refused : (f : ℕ) → d.command ≡ command.Open f → Caused book o o.outcome → (status : ℕ) → o.outcome ≡ told.Refused status → IsOpenRefused book f o status
  open_refused f open_ cause status is = by (subst (λ (w : Word). RefusedBy book o w status) (h.word ∙ ap word_of open_) (subst (Caused book o) is cause))
    where
      h : IsDeed ds book.ops k d o
      h = each k d o was at

      by : RefusedBy book o words.Open status → IsOpenRefused book f o status
      by (inl r) = subst (λ (g : ℕ). IsOpenRefused book g o status) (subst (λ (c : Command). HasIdFile c o) open_ h.file) r
      by (inr z) = absurd (not_walked (command.Open f) open_ tt z.2)

  pub rewrite_refused : (f : ℕ) → d.command ≡ command.Rewrite f → Caused book o o.outcome → (status : ℕ) → o.outcome ≡ told.Refused status → RewriteRefused book o status
  rewrite_refused f anew cause status is = by (subst (λ (w : Word). RefusedBy book o w status) ((each k d o was at).word ∙ ap word_of anew) (subst (Caused book o) is cause))
    where
      by : RefusedBy book o words.Rewrite status → RewriteRefused book o status
      by (inl r) = r
      by (inr z) = absurd (not_walked (command.Rewrite f) anew tt z.1)
