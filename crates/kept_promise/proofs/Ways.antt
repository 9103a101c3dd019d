-- A client's operation under way is of a file that is known, or its command is on names.
use Rattle.std.proofs.Common.{◌⊎◌, inl, inr, ◌≡◌, ℕ, ◌<◌, List, [], ◌∷◌, ◌++◌, length, Option, Some, None, refl, sym, ap, ◌∙◌, subst, arith}
use Rattle.path_calls.specs.declared.walk.Walk.{Walk}
use Rattle.client_state.specs.State as client
use Rattle.client_state.specs.declared.task.Stage.TheVariants as stage
use Rattle.kept_promise.proofs.Common.{slice_get, Command, command_step, ClientStep, Ended, Stage, Task, Seat, numbered, with_numbered, place_with, place_after, Deed}
use Rattle.kept_promise.proofs.Lists.{some_is, nothing_there, same_or_not, of_appended, within}
use Rattle.kept_promise.proofs.Messages.{Job, job, job_of}
use Rattle.kept_promise.proofs.Turns.{around_with}
use Rattle.kept_promise.proofs.StepCases.{IsOfFile, command_cases}
use Rattle.kept_promise.proofs.Deeds.{IsOnNames}

-- ---- what is said

abbrev pub HasWays : List Deed → List Seat → Type 0
HasWays ds seats = (c : ℕ) (seat : Seat) (j : Job) (d : Deed) → numbered seats c ≡ Some seat → job seat ≡ Some j → slice_get ds j.place ≡ Some d → IsOfFile j.stage ⊎ IsOnNames d.command

pub stage_case : (st : Stage) → IsOfFile st ⊎ ((y : ℕ) × (w : Walk) × (st ≡ stage.Walking y w))
stage_case (stage.Walking y w) = inr (y, w, refl)
stage_case _ = inl tt

pub job_parts : (l : Option ℕ) (t : Option Task) (j : Job) → job_of l t ≡ Some j → (l ≡ Some j.place) × (t ≡ Some (record { file = j.file; stage = j.stage }))
job_parts (Some p) (Some t) j e = (ap (λ (z : Job). Some z.place) (some_is (record { place = p; file = t.file; stage = t.stage }) j e), ap (λ (z : Job). Some (record { file = z.file; stage = z.stage })) (some_is (record { place = p; file = t.file; stage = t.stage }) j e))
job_parts None t j e = nothing_there j e
job_parts (Some p) None j e = nothing_there j e

of_task : (t u : Task) → ◌≡◌ {A = Option Task} (Some t) (Some u) → IsOfFile t.stage → IsOfFile u.stage
of_task t u e h = subst (λ (z : Task). IsOfFile z.stage) (some_is t u e) h

-- ---- a command

-- one that ends at once leaves what is under way; one that goes on is of a file, or on names
pub record GoesBy (s : client.State) (d : Command) (r : client.State × ClientStep) : Type 0 where
  pub leaves : (e : Ended) → r.1.ended ≡ Some e → r.0.task ≡ s.task
  pub begins : (u : Task) → r.1.ended ≡ None → r.0.task ≡ Some u → IsOfFile u.stage ⊎ IsOnNames d
  pub busy : (t : Task) → s.task ≡ Some t → r.1.ended ≡ None → ⊥

pub command_goes : (s : client.State) (d : Command) (now : ℕ) → GoesBy s d (command_step s d now)
command_goes s d now = command_cases (GoesBy s d) s d now (record {
  busy = λ t e. record { leaves = λ x is. refl; begins = λ u none at. nothing_there _ (sym none); busy = λ x at none. nothing_there _ (sym none) };
  answers = λ free opened o plain. record { leaves = λ x is. refl; begins = λ u none at. nothing_there _ (sym none); busy = λ x at none. nothing_there _ (sym none) };
  fetches = λ file is free may. record { leaves = λ x e. nothing_there x e; begins = λ u none at. inl (of_task _ u at tt); busy = λ x at none. nothing_there x (sym free ∙ at) };
  asks = λ file c is free may has. record { leaves = λ x e. nothing_there x e; begins = λ u none at. inl (of_task _ u at tt); busy = λ x at none. nothing_there x (sym free ∙ at) };
  renews = λ file is free may. record { leaves = λ x e. nothing_there x e; begins = λ u none at. inl (of_task _ u at tt); busy = λ x at none. nothing_there x (sym free ∙ at) };
  opens_now = λ file c is free shut fresh. record { leaves = λ x is. refl; begins = λ u none at. nothing_there _ (sym none); busy = λ x at none. nothing_there _ (sym none) };
  empties_now = λ file c is free shut fresh. record { leaves = λ x is. refl; begins = λ u none at. nothing_there _ (sym none); busy = λ x at none. nothing_there _ (sym none) };
  walks = λ c is free may. record { leaves = λ x e. nothing_there x e; begins = λ u none at. inr (subst IsOnNames (sym is) tt); busy = λ x at none. nothing_there x (sym free ∙ at) };
  closes = λ file l is free may has. record { leaves = λ x e. nothing_there x e; begins = λ u none at. inl (of_task _ u at tt); busy = λ x at none. nothing_there x (sym free ∙ at) };
})

-- the jobs of seats have their commands among these
abbrev pub InDeeds : List Deed → List Seat → Type 0
InDeeds ds seats = (c : ℕ) (seat : Seat) (j : Job) → numbered seats c ≡ Some seat → job seat ≡ Some j → j.place < length ds

-- another job has one of the commands before
old_way : (ds : List Deed) (seats : List Seat) (d : Deed) → HasWays ds seats → InDeeds ds seats → (c : ℕ) (seat : Seat) (j : Job) (e : Deed) → numbered seats c ≡ Some seat → job seat ≡ Some j → slice_get (ds ++ d ∷ []) j.place ≡ Some e → IsOfFile j.stage ⊎ IsOnNames e.command
old_way ds seats d h inside c seat j e at is there = elim (of_appended ds d j.place e there) [
  | inl last ↦ let lt = inside c seat j at is in let n = last.0 in absurd (omega (arith, lt, n))
  | inr old ↦ h c seat j e at is old
]

pub ways_added : (ds : List Deed) (seats : List Seat) (c n : ℕ) (seat : Seat) (d : Deed) (r : client.State × ClientStep) → HasWays ds seats → InDeeds ds seats → numbered seats c ≡ Some seat → n ≡ length ds → ((p : ℕ) → seat.place ≡ Some p → (t : Task) × (seat.client.task ≡ Some t)) → GoesBy seat.client d.command r
    → HasWays (ds ++ d ∷ []) (with_numbered seats c (record seat { client = r.0; place = place_with seat.place n r.1.ended }))
ways_added ds seats c n seat d r h inside here count occupied goes z x j e at is there = elim (same_or_not z c) [
  | inr apart ↦ old_way ds seats d h inside z x j e (sym (around.others z apart) ∙ at) is there
  | inl mine ↦ own seat.place refl r.1.ended refl (ap job (sym (some_is x then (sym at ∙ ap (numbered (with_numbered seats c then)) mine ∙ around.there))) ∙ is)
]
  where
    then : Seat
    then = record seat { client = r.0; place = place_with seat.place n r.1.ended }

    around : Rattle.kept_promise.proofs.Turns.Around seats (with_numbered seats c then) c then
    around = around_with seats c seat then here

    -- the job that it had
    kept : (p : ℕ) → seat.place ≡ Some p → r.0.task ≡ seat.client.task → job_of (Some p) r.0.task ≡ Some j → IsOfFile j.stage ⊎ IsOnNames e.command
    kept p at same is = old_way ds seats d h inside c seat j e here (ap (λ (l : Option ℕ). job_of l seat.client.task) at ∙ ap (job_of (Some p)) (sym same) ∙ is) there

    own : (l : Option ℕ) → seat.place ≡ l → (o : Option Ended) → r.1.ended ≡ o → job_of (place_with seat.place n r.1.ended) r.0.task ≡ Some j → IsOfFile j.stage ⊎ IsOnNames e.command
    own None at (Some q) ended is = let p = job_parts None r.0.task j (ap (λ (m : Option ℕ). job_of m r.0.task) (sym (ap (λ (m : Option ℕ). place_with m n r.1.ended) at ∙ ap (place_with None n) ended)) ∙ is) in nothing_there j.place p.0
    own None at None ended is =
        let p = job_parts (Some n) r.0.task j (ap (λ (m : Option ℕ). job_of m r.0.task) (sym (ap (λ (m : Option ℕ). place_with m n r.1.ended) at ∙ ap (place_with None n) ended)) ∙ is) in
        let place : n ≡ j.place = some_is n j.place p.0 in
        elim (of_appended ds d j.place e there) [
          | inr old ↦ let lt = within ds j.place e old in absurd (omega (arith, lt, place, count))
          | inl last ↦ subst (λ (y : Deed). IsOfFile j.stage ⊎ IsOnNames y.command) (sym last.1) (goes.begins (record { file = j.file; stage = j.stage }) ended p.1)
        ]
    own (Some p) at (Some q) ended is = kept p at (goes.leaves q ended) (ap (λ (m : Option ℕ). job_of m r.0.task) (sym (ap (λ (m : Option ℕ). place_with m n r.1.ended) at)) ∙ is)
    own (Some p) at None ended is = let t = occupied p at in absurd (goes.busy t.0 t.1 ended)

-- ---- an answer

-- where a file that is known stays so
pub ways_acted : (ds : List Deed) (seats : List Seat) (c : ℕ) (seat : Seat) (s : client.State) (acts : ClientStep) → HasWays ds seats → numbered seats c ≡ Some seat → ((p : ℕ) → seat.place ≡ Some p → (t : Task) × (seat.client.task ≡ Some t)) → ((t u : Task) → seat.client.task ≡ Some t → IsOfFile t.stage → s.task ≡ Some u → IsOfFile u.stage)
    → HasWays ds (with_numbered seats c (record seat { client = s; place = place_after seat.place acts.ended }))
ways_acted ds seats c seat s acts h here occupied stays z x j e at is there = elim (same_or_not z c) [
  | inr apart ↦ h z x j e (sym (around.others z apart) ∙ at) is there
  | inl mine ↦ own acts.ended refl (ap job (sym (some_is x then (sym at ∙ ap (numbered (with_numbered seats c then)) mine ∙ around.there))) ∙ is)
]
  where
    then : Seat
    then = record seat { client = s; place = place_after seat.place acts.ended }

    around : Rattle.kept_promise.proofs.Turns.Around seats (with_numbered seats c then) c then
    around = around_with seats c seat then here

    own : (o : Option Ended) → acts.ended ≡ o → job_of (place_after seat.place acts.ended) s.task ≡ Some j → IsOfFile j.stage ⊎ IsOnNames e.command
    own (Some q) ended is = let p = job_parts None s.task j (ap (λ (m : Option ℕ). job_of m s.task) (sym (ap (place_after seat.place) ended)) ∙ is) in nothing_there j.place p.0
    own None ended is =
        let p = job_parts seat.place s.task j (ap (λ (m : Option ℕ). job_of m s.task) (sym (ap (place_after seat.place) ended)) ∙ is) in
        let t = occupied j.place p.0 in
        let old : job seat ≡ Some (record { place = j.place; file = t.0.file; stage = t.0.stage }) = ap (λ (l : Option ℕ). job_of l seat.client.task) p.0 ∙ ap (job_of (Some j.place)) t.1 in
        elim (h c seat (record { place = j.place; file = t.0.file; stage = t.0.stage }) e here old there) [
          | inl known ↦ inl (stays t.0 (record { file = j.file; stage = j.stage }) t.1 known p.1)
          | inr names ↦ inr names
        ]
