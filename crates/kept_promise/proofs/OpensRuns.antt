-- A run carries that an open of a path is told that its file is open just where it was, when the open began.
use Rattle.std.proofs.Common.{◌⊎◌, inl, inr, ◌≡◌, ℕ, ◌+◌, List, [], ◌∷◌, ◌++◌, length, Option, Some, None, Ok, true, false, refl, sym, ap, ◌∙◌, subst}
use Rattle.path_calls.specs.declared.walk.Walk.{Walk}
use Rattle.client_state.specs.State as client
use Rattle.client_state.specs.declared.step.Outcome.TheVariants as outcome
use Rattle.client_state.specs.declared.task.Stage.TheVariants as stage
use Rattle.register_model.specs.declared.op.Outcome.{Outcome as Told}
use Rattle.register_model.specs.declared.op.Outcome.TheVariants as told
use Rattle.trace_ends.specs.Ops.{file_with, begun as op_begun}
use Rattle.trace_ends.specs.Session.{taken_of as session_taken}
use Rattle.trace_replay.specs.Trail.{is_fresh_for}
use Rattle.kept_promise.proofs.Common.{slice_get, Command, ClientStep, Ended, ended_by, cut, joined, command_step, got_step, told_message, Task, Op, Opening, TakenCall, told_of, word_of, file_of, value_at_begin, session_of, Core, Seat, CoreStep, Event, Event.Does, Event.Hears, Event.Cuts, numbered, does, cuts_if, happens, Moment, Deed, deed_by, deeds_of, joined_from, calls_from, Queue, is_untold, acted}
use Rattle.kept_promise.proofs.Lists.{some_is, nothing_there, of_replaced}
use Rattle.kept_promise.proofs.Actors.{Heard}
use Rattle.kept_promise.proofs.Messages.{Job, job, job_of, goal_word, stage_word}
use Rattle.kept_promise.proofs.Facts.{IsMatched, IsKept, is_naming}
use Rattle.kept_promise.proofs.Fits.{FitLaws}
use Rattle.kept_promise.proofs.RunsCarried.{book_at, moment, Step, Carried}
use Rattle.kept_promise.proofs.Leaving.{EndsWith, Leaves, step_left}
use Rattle.kept_promise.proofs.Locally.{deeds_more}
use Rattle.kept_promise.proofs.StepCases.{IsOfFile}
use Rattle.kept_promise.proofs.Found.{got_finds}
use Rattle.kept_promise.proofs.Deeds.{IsOnNames, local_of, AllMoved}
use Rattle.kept_promise.proofs.Doing.{with_end}
use Rattle.kept_promise.proofs.Ways.{stage_case}
use Rattle.kept_promise.proofs.WalkLeaves.{walk_left, EndsNeither}
use Rattle.kept_promise.proofs.Following.{IsFollowed, goes, no_deed, occupied, jobs_inside, carried_deeds}
use Rattle.kept_promise.proofs.Opens.{FindsFor, HasOpens, HasShut, AreOpen, EndsOpen, open_bytes, shut_bytes, fetched_finds, walked_finds, opens_moved, opens_added, opens_acted, walk_leads, keeps_file, shut_acted, shut_added, command_begins, new_opens, finds_by}
use Rattle.kept_promise.proofs.MakingGoals.{file_unnamed}
use Rattle.kept_promise.proofs.EventCases.{Settled, IsChange, IsStill, event_cases, old_job}
use Rattle.register_model.specs.declared.op.Word.{Word}

pub record IsOpening (past : List Moment) (k : Core) : Type 0 where
  pub opens : HasOpens (deeds_of past) k.ops
  pub shut : HasShut (deeds_of past) k.seats

-- ---- an event that is no command

by_events : (past : List Moment) (k : Core) (e : Event) (after : Core) → deed_by past k e ≡ [] → HasOpens (deeds_of past) after.ops → HasShut (deeds_of past) after.seats → IsOpening (past ++ moment k e ∷ []) after
by_events past k e after none opens shut = record {
  opens = subst (λ (ds : List Deed). HasOpens ds after.ops) (sym (no_deed past k e none)) opens;
  shut = subst (λ (ds : List Deed). HasShut ds after.seats) (sym (no_deed past k e none)) shut;
}

-- a client with a job has open what it had
still_shut : (past : List Moment) (k : Core) (e : Event) (t : CoreStep) → IsStill k e t → IsOpening past k → HasShut (deeds_of past) t.core.seats
still_shut past k e t still h = λ c seat j d at is there names known. let w = still.jobs c seat j at is in ap (λ (z : Seat). local_of z.client j.file) w.4 ∙ h.shut c w.0 j d w.3 (old_job w.0 seat w.1 w.2 j w.4 is) there names known

-- ---- a change is made

-- with an outcome that its client wasn't told nothing is said
untold_open : (w : Word) (u : Told) (l : Option (List ℕ)) → is_untold u ≡ true → FindsFor w u l
untold_open w told.Running l e = tt
untold_open w told.Lost l e = tt
untold_open w u l e = absurd cc

change_opening : (past : List Moment) (k : Core) (e : Event) (t : CoreStep) → IsStill k e t → IsFollowed past k → AllMoved (k.steps + 1) k.ops t.core.ops → IsChange k t.core.ops → IsOpening past k → IsOpening (past ++ moment k e ∷ []) t.core
change_opening past k e t still f moved c h = by_events past k e t.core (still.deedless past) (opens_moved (k.steps + 1) (deeds_of past) k.ops t.core.ops k.seats f.deeds moved fresh) (still_shut past k e t still h)
  where
    fresh : AreOpen (deeds_of past) k.ops t.core.ops
    fresh i d r deed there = elim (of_replaced k.ops c.place (record c.op { file = c.file; point = Some (k.steps + 1) }) i r (ap (λ (l : List Op). slice_get l i) (sym c.is) ∙ there)) [
      | inr else ↦ h.opens i d r deed else.1
      | inl here ↦ subst (λ (z : Op). Rattle.kept_promise.proofs.Opens.FindsBy d.command z.outcome (Rattle.kept_promise.proofs.Common.local_before (deeds_of past) k.ops i d.client z.file)) (sym here.1) (finds_by d.command c.op.outcome (Rattle.kept_promise.proofs.Common.local_before (deeds_of past) k.ops i d.client c.file) (λ names. untold_open (word_of d.command) c.op.outcome (Rattle.kept_promise.proofs.Common.local_before (deeds_of past) k.ops i d.client c.file) c.unmade.2))
    ]

still_opening : (past : List Moment) (k : Core) (e : Event) (t : CoreStep) → IsStill k e t → IsFollowed past k → AllMoved (k.steps + 1) k.ops t.core.ops → IsOpening past k → IsOpening (past ++ moment k e ∷ []) t.core
still_opening past k e t still f moved h = by still.ops
  where
    by : Settled k t.core.ops → IsOpening (past ++ moment k e ∷ []) t.core
    by (inl same) = by_events past k e t.core (still.deedless past) (subst (HasOpens (deeds_of past)) (sym same) h.opens) (still_shut past k e t still h)
    by (inr c) = change_opening past k e t still f moved c h

-- ---- a step of a client

-- the operation at its place, and how it ends
ends_open : (opening : List Opening) (all : List Moment) (ds : List Deed) (k : Core) (qs : List Queue) (c p : ℕ) (seat : Seat) (x : Task) (acts : ClientStep) → (kept : IsKept (book_at opening k all) k qs) → (here : numbered k.seats c ≡ Some seat) → seat.client.task ≡ Some x → seat.place ≡ Some p
    → ((op : Op) → (is_naming x.stage ≡ false → op.file ≡ x.file) → (d : Deed) (e : Ended) → slice_get ds p ≡ Some d → acts.ended ≡ Some e → IsOnNames d.command → FindsFor (word_of d.command) (told_of e.outcome) (local_of seat.client (file_with op.file acts.found)))
    → EndsOpen ds k.ops c p seat.client acts
ends_open opening all ds k qs c p seat x acts kept here task place finds =
    let j : Job = record { place = p; file = x.file; stage = x.stage } in
    let of = (kept.seats c seat here).task j (ap (λ (l : Option ℕ). job_of l seat.client.task) place ∙ ap (job_of (Some p)) task) in
    record {
      op = of.op;
      there = of.there;
      client = of.client;
      under = with_end (book_at opening k all) of.op (kept.sound.rights p of.op of.there) of.running;
      running = of.running;
      finds = finds of.op of.file;
    }

-- a message comes
hears_opening : (past : List Moment) (opening : List Opening) (all : List Moment) (k : Core) (qs : List Queue) (n now : ℕ) (bytes : List ℕ) (mid : List Queue) → IsKept (book_at opening k all) k qs → (w : Heard k qs n now bytes mid) → IsFollowed past k
    → (let r = got_step w.seat.client (Ok (told_message w.told)) now in let t = acted k w.session.owner w.seat r.0 r.1 in AllMoved (k.steps + 1) k.ops t.core.ops → IsOpening past k → IsOpening (past ++ moment k (Hears n now bytes) ∷ []) t.core)
hears_opening past opening all k qs n now bytes mid kept w f moved h = by_events past k (Hears n now bytes) (acted k c seat r.0 r.1).core refl
    (opens_acted (deeds_of past) k.ops k.seats seat.place c seat r.0 taken (k.steps + 1) r.1 f.deeds h.opens here moved (λ p place. at_place p place (occupied seat (kept.seats c seat here).matched p place)))
    (shut_acted (deeds_of past) k.seats c seat r.0 r.1 h.shut here (λ j d place ended task there names known. goes_on j d place ended task there names known (occupied seat (kept.seats c seat here).matched j.place place)))
  where
    c : ℕ
    c = w.session.owner

    seat : Seat
    seat = w.seat

    here : numbered k.seats w.session.owner ≡ Some w.seat
    here = w.owner

    taken : List TakenCall
    taken = session_taken (session_of k.sessions w.seat.session)

    r : client.State × ClientStep
    r = got_step w.seat.client (Ok (told_message w.told)) now

    job_is : (p : ℕ) (x : Task) → seat.place ≡ Some p → seat.client.task ≡ Some x → job seat ≡ Some (record { place = p; file = x.file; stage = x.stage })
    job_is p x place task = ap (λ (l : Option ℕ). job_of l seat.client.task) place ∙ ap (job_of (Some p)) task

    no_found : (x : Task) → seat.client.task ≡ Some x → IsOfFile x.stage → r.1.found ≡ None
    no_found x task known = got_finds seat.client (Ok (told_message w.told)) now (λ u e. subst (λ (z : Task). IsOfFile z.stage) (some_is x u (sym task ∙ e)) known)

    goal_at : (p : ℕ) (x : Task) (y : ℕ) (v : Walk) → seat.place ≡ Some p → seat.client.task ≡ Some x → x.stage ≡ stage.Walking y v → (d : Deed) → slice_get (deeds_of past) p ≡ Some d → word_of d.command ≡ goal_word v.goal
    goal_at p x y v place task is d there =
        let of = (kept.seats c seat here).task (record { place = p; file = x.file; stage = x.stage }) (job_is p x place task) in
        sym (f.deeds.each p d of.op there of.there).word ∙ of.word ∙ ap stage_word is

    at_place : (p : ℕ) → seat.place ≡ Some p → (t : Task) × (seat.client.task ≡ Some t) → EndsOpen (deeds_of past) k.ops c p seat.client r.1
    at_place p place (x, task) = ends_open opening all (deeds_of past) k qs c p seat x r.1 kept here task place (λ op file d e there ended names. by (stage_case x.stage) op file d e there ended names)
      where
        by : IsOfFile x.stage ⊎ ((y : ℕ) × (v : Walk) × (x.stage ≡ stage.Walking y v)) → (op : Op) → (is_naming x.stage ≡ false → op.file ≡ x.file) → (d : Deed) (e : Ended) → slice_get (deeds_of past) p ≡ Some d → r.1.ended ≡ Some e → IsOnNames d.command → FindsFor (word_of d.command) (told_of e.outcome) (local_of seat.client (file_with op.file r.1.found))
        by (inl known) op file d e there ended names =
            let left : EndsWith (stage_word x.stage) seat.client.opened r.0.opened x.file e.outcome = subst (Leaves (stage_word x.stage) seat.client.opened r.0.opened x.file) ended (step_left seat.client (Ok (told_message w.told)) now x task known).1 in
            fetched_finds (stage_word x.stage) (word_of d.command) e.outcome seat.client.opened r.0.opened x.file (local_of seat.client (file_with op.file r.1.found)) left
            (ap (λ (z : Option ℕ). local_of seat.client (file_with op.file z)) (no_found x task known) ∙ ap (local_of seat.client) (file (file_unnamed x.stage known)) ∙ h.shut c seat (record { place = p; file = x.file; stage = x.stage }) d here (job_is p x place task) there names known)
        by (inr (y, v, is)) op file d e there ended names =
            let left = walk_left seat.client (Ok (told_message w.told)) now x y v task is in
            let leads = walk_leads seat.client (Ok (told_message w.told)) now x y v task is in
            elim left.1 [
              | inr now ↦ fetched_finds (word_of d.command) (word_of d.command) e.outcome seat.client.opened r.0.opened now.0 (local_of seat.client (file_with op.file r.1.found)) (subst (λ (z : Word). EndsWith z seat.client.opened r.0.opened now.0 e.outcome) (sym (goal_at p x y v place task is d there)) (subst (λ (z : Ended). EndsWith (goal_word v.goal) seat.client.opened r.0.opened now.0 z.outcome) (some_is now.2.0 e (sym now.2.1 ∙ ended)) now.2.2)) (ap (λ (z : Option ℕ). local_of seat.client (file_with op.file z)) now.1 ∙ shut_bytes seat.client.opened now.0 now.2.3)
              | inl stays ↦ walked_finds (word_of d.command) e.outcome (local_of seat.client (file_with op.file r.1.found)) (subst (λ (z : Word). EndsNeither z (Some e)) (sym (goal_at p x y v place task is d there)) (subst (EndsNeither (goal_word v.goal)) ended stays.1))
                  (λ already. (let o = leads.open_ e ended already in subst (λ (z : Option ℕ). Rattle.std.proofs.Common.IsSome (local_of seat.client (file_with op.file z))) (sym o.1) (open_bytes seat.client.opened o.0 o.2)))
            ]

    goes_on : (j : Job) (d : Deed) → seat.place ≡ Some j.place → r.1.ended ≡ None → r.0.task ≡ Some (record { file = j.file; stage = j.stage }) → slice_get (deeds_of past) j.place ≡ Some d → IsOnNames d.command → IsOfFile j.stage → (t : Task) × (seat.client.task ≡ Some t) → local_of r.0 j.file ≡ None
    goes_on j d place ended now_task there names now_known (x, task) = by (stage_case x.stage)
      where
        by : IsOfFile x.stage ⊎ ((y : ℕ) × (v : Walk) × (x.stage ≡ stage.Walking y v)) → local_of r.0 j.file ≡ None
        by (inl known) =
            let opened : r.0.opened ≡ seat.client.opened = subst (Leaves (stage_word x.stage) seat.client.opened r.0.opened x.file) ended (step_left seat.client (Ok (told_message w.told)) now x task known).1 in
            ap (λ (l : List (ℕ × Rattle.kept_promise.proofs.Common.Local)). Rattle.kept_promise.proofs.Common.option_map (λ (z : Rattle.kept_promise.proofs.Common.Local). z.bytes) (client.local_at l j.file)) opened
            ∙ ap (local_of seat.client) (keeps_file seat.client (Ok (told_message w.told)) now x task known (record { file = j.file; stage = j.stage }) now_task)
            ∙ h.shut c seat (record { place = j.place; file = x.file; stage = x.stage }) d here (job_is j.place x place task) there names known
        by (inr (y, v, is)) =
            let left = walk_left seat.client (Ok (told_message w.told)) now x y v task is in
            let leads = walk_leads seat.client (Ok (told_message w.told)) now x y v task is in
            ap (λ (l : List (ℕ × Rattle.kept_promise.proofs.Common.Local)). Rattle.kept_promise.proofs.Common.option_map (λ (z : Rattle.kept_promise.proofs.Common.Local). z.bytes) (client.local_at l j.file)) (elim left.1 [ inl stays ↦ stays.0 | inr now ↦ nothing_there now.2.0 (sym ended ∙ now.2.1) ])
            ∙ shut_bytes seat.client.opened j.file (leads.shut (record { file = j.file; stage = j.stage }) now_task now_known)

-- a connection is lost
lost_open : (w : Word) (d : Ended) (task : Option Task) (l : Option (List ℕ)) → (ended_by task (record { outcome = outcome.Lost; rests_on = 0 })).ended ≡ Some d → FindsFor w (told_of d.outcome) l
lost_open w d None l is = nothing_there d is
lost_open w d (Some t) l is = subst (λ (z : Ended). FindsFor w (told_of z.outcome) l) (some_is (record { outcome = outcome.Lost; rests_on = 0 }) d is) tt

cuts_opening : (past : List Moment) (opening : List Opening) (all : List Moment) (k : Core) (qs : List Queue) (c : ℕ) (seat : Seat) → IsKept (book_at opening k all) k qs → numbered k.seats c ≡ Some seat → IsFollowed past k → AllMoved (k.steps + 1) k.ops (cuts_if k c seat true).core.ops → IsOpening past k → IsOpening (past ++ moment k (Cuts c) ∷ []) (cuts_if k c seat true).core
cuts_opening past opening all k qs c seat kept here f moved h =
    let r = cut seat.client in
    by_events past k (Cuts c) (cuts_if k c seat true).core refl
    (opens_acted (deeds_of past) k.ops k.seats seat.place c seat r.0 (session_taken (session_of k.sessions seat.session)) (k.steps + 1) r.1 f.deeds h.opens here moved (λ p place. (let t = occupied seat (kept.seats c seat here).matched p place in ends_open opening all (deeds_of past) k qs c p seat t.0 r.1 kept here t.1 place (λ op file d e there ended names. lost_open (word_of d.command) e seat.client.task (local_of seat.client (file_with op.file r.1.found)) ended))))
    (shut_acted (deeds_of past) k.seats c seat r.0 r.1 h.shut here (λ j d place ended task there names known. nothing_there _ task))

-- a command
does_opening : (past : List Moment) (opening : List Opening) (all : List Moment) (k : Core) (qs : List Queue) (c now : ℕ) (d : Command) (seat : Seat) → IsKept (book_at opening k all) k qs → numbered k.seats c ≡ Some seat → IsFollowed past k → IsOpening past k → IsOpening (past ++ moment k (Does c now d) ∷ []) (does k c now d (Some seat)).core
does_opening past opening all k qs c now d seat kept here f h =
    let r = command_step seat.client d now in
    let deed : Deed = record { client = c; command = d; begin = k.steps + 1; joined = joined_from c false past; calls = calls_from c 0 past; fresh = is_fresh_for (numbered k.seats c) now d } in
    let o : Op = op_begun c (word_of d) (file_of d) (value_at_begin seat.client (word_of d) (file_of d) r.1.ended) (k.steps + 1) in
    let matched = (kept.seats c seat here).matched in
    record {
      opens = subst (λ (ds : List Deed). HasOpens ds (does k c now d (Some seat)).core.ops) (sym (deeds_more past (moment k (Does c now d)))) (opens_added (deeds_of past) k.ops deed (Rattle.kept_promise.proofs.Common.op_after o r.0 [] (k.steps + 1) r.1) f.deeds.count h.opens (new_opens seat.client d now o [] (k.steps + 1) refl r.0));
      shut = subst (λ (ds : List Deed). HasShut ds (does k c now d (Some seat)).core.seats) (sym (deeds_more past (moment k (Does c now d)))) (shut_added (deeds_of past) k.seats c (length k.ops) seat deed r h.shut (jobs_inside (book_at opening k all) (deeds_of past) k qs kept refl f.deeds.count) here f.deeds.count (occupied seat matched) (idle matched) (command_begins seat.client d now));
    }
  where
    idle : IsMatched seat → seat.place ≡ None → seat.client.task ≡ None
    idle (inl none) e = none.1
    idle (inr m) e = nothing_there m.0 (sym (ap (λ (l : Option ℕ). job_of l seat.client.task) e) ∙ m.1)

-- ---- any event

opening_goes : FitLaws → (all past rest : List Moment) (opening : List Opening) (k : Core) (qs : List Queue) (e : Event) (mid after : List Queue) → Step all past rest opening k qs e mid after → IsFollowed past k → IsOpening past k → IsOpening (past ++ moment k e ∷ []) (happens k e).core
opening_goes laws all past rest opening k qs e mid after s f h = event_cases laws all past rest opening k qs e mid after s Now (record {
  still = λ t still. λ moved. still_opening past k e t still f (moved (still.deedless past)) h;
  begins = λ c now d seat s here small left. λ moved. does_opening past opening all k qs c now d seat s.kept here f h;
  hears = λ n now bytes s w left. λ moved. hears_opening past opening all k qs n now bytes mid s.kept w f (moved refl) h;
  lost = λ c seat s here. λ moved. cuts_opening past opening all k qs c seat s.kept here f (moved refl) h;
}) (goes laws all past rest opening k qs e mid after s f).moved
  where
    Now : Event → CoreStep → Type 0
    Now e t = (deed_by past k e ≡ [] → AllMoved (k.steps + 1) k.ops t.core.ops) → IsOpening (past ++ moment k e ∷ []) t.core

-- beside the commands and their operations
pub carried_opens : FitLaws → Carried (λ all past opening k qs. IsFollowed past k × IsOpening past k)
carried_opens laws = record {
  first = λ all opening tree count kept. ((carried_deeds laws).first all opening tree count kept, record { opens = λ i d o at is. nothing_there d at; shut = λ c seat j d at is there names known. nothing_there d there });
  steps = λ all past rest opening k qs e mid after s h. ((carried_deeds laws).steps all past rest opening k qs e mid after s h.0, opening_goes laws all past rest opening k qs e mid after s h.0 h.1);
  adjusts = λ all past opening k qs index seats same h. ((carried_deeds laws).adjusts all past opening k qs index seats same h.0, record { opens = h.1.opens; shut = λ c e j d at is there names known. let w = same.was c e at in ap (λ (z : Seat). local_of z.client j.file) w.4 ∙ h.1.shut c w.0 j d w.3 (ap job (sym w.4) ∙ is) there names known });
}
