-- A fact of each operation, and of each that is under way, by what was said for it, in order: what is to be shown of its own turn. Whatever an event leaves alone is carried here, once.
use Rattle.std.proofs.Common.{◌⊎◌, true, false, inl, inr, ◌≡◌, ℕ, ◌+◌, ◌<◌, List, [], ◌∷◌, ◌++◌, length, Option, Some, None, Ok, refl, sym, ap, ◌∙◌, subst, arith, map, Bool}
use Rattle.client_state.specs.Noting.{at as at_clock}
use Rattle.client_state.specs.State as client
use Rattle.client_state.specs.declared.step.Outcome.TheVariants as outcome
use Rattle.trace_ends.specs.Session.{taken_of as session_taken}
use Rattle.trace_replay.specs.Trail.{given_by_message}
use Rattle.kept_promise.proofs.Common.{slice_get, Command, ClientStep, Ended, ended_by, command_step, got_step, Stage, Task, Op, Opening, TakenCall, op_after, ops_with, place_after, place_with, Core, Seat, CoreStep, Event, Event.Does, Event.Hears, Event.Cuts, numbered, with_numbered, does, cuts_if, acted, session_of, happens, Moment, calls_in, asked_in, reply_body, Book, Queue, told_message, owner_in, is_in, word_of, file_of, value_at_begin, wanted_by, Deal, Deal.Sent, deals_with, deals_in, deals_of, begun, has_point, point_if, taken_by, given_by}
use Rattle.kept_promise.proofs.Lists.{some_is, nothing_there, of_appended, of_replaced, at_end, within}
use Rattle.kept_promise.proofs.Messages.{Job, job, job_of}
use Rattle.kept_promise.proofs.PathNames.{IsSmall}
use Rattle.kept_promise.proofs.Facts.{IsKept, IsMatched}
use Rattle.kept_promise.proofs.Fits.{FitLaws}
use Rattle.kept_promise.proofs.JobFacts.{ops_shape, job_after}
use Rattle.kept_promise.proofs.RunsCarried.{book_at, moment, Step}
use Rattle.kept_promise.proofs.Actors.{job_place, job_task, acts_alone, Heard, heard_acts, heard_takes, heard_gives, own_op, foreign_at}
use Rattle.kept_promise.proofs.Counted.{running_past, running_now}
use Rattle.kept_promise.proofs.CommandOps.{made_by, job_stays, old_jobs, last_right}
use Rattle.kept_promise.proofs.Shapes.{busy_command}
use Rattle.kept_promise.proofs.Versions.{of_numbered}
use Rattle.kept_promise.proofs.Found.{command_finds}
use Rattle.kept_promise.proofs.Logs.{ArePast, past_more, deals_more, deals_same, deals_silent, deals_alike, deals_apart, deals_own, deals_early, deals_filed}
use Rattle.kept_promise.proofs.EventCases.{IsChange, Settled, cuts_silent, IsStill, old_job, event_cases}
use Rattle.kept_promise.proofs.SendsCalls.{answer_calls, command_calls}
use Rattle.kept_promise.proofs.Rights.{IsRight}
use Rattle.trace_ends.specs.Ops.{file_with}
use Rattle.register_model.specs.declared.op.Outcome.TheVariants as told

-- ---- what was said for it

pub record IsNew (c : ℕ) (d : Command) (step : ℕ) (acts : ClientStep) (new : Op) : Type 0 where
  pub client : new.client ≡ c
  pub word : new.word ≡ word_of d
  pub file : new.file ≡ file_of d
  pub begin : new.begin ≡ step
  -- its point, if it has one yet, is its begin
  pub point : (p : ℕ) → new.point ≡ Some p → p ≡ step
  pub here : is_in new step c ≡ true
  pub running : acts.ended ≡ None → new.outcome ≡ told.Running
  pub over : (e : ℕ) → new.end ≡ Some e → e ≡ step

pub is_new : (c : ℕ) (d : Command) (value : List ℕ) (step : ℕ) (s : client.State) (acts : ClientStep) → acts.found ≡ None → IsNew c d step acts (op_after (begun c (word_of d) (file_of d) value step) s [] step acts)
is_new c d value step s acts none = by acts.ended
  where
    pointed : (b : Bool) (x p : ℕ) → point_if b [] x step None ≡ Some p → p ≡ step
    pointed true x p is = sym (some_is step p is)
    pointed false x p is = nothing_there p is

    here : (e : Option Ended) → is_in (op_after (begun c (word_of d) (file_of d) value step) s [] step (record acts { ended = e })) step c ≡ true
    here None = grind (arith, Rattle.std.proofs.lemmas.Bool.Decides.nat_tests)
    here (Some e) = grind (arith, Rattle.std.proofs.lemmas.Bool.Decides.nat_tests)

    by : (e : Option Ended) → IsNew c d step (record acts { ended = e }) (op_after (begun c (word_of d) (file_of d) value step) s [] step (record acts { ended = e }))
    by None = record { client = refl; word = refl; file = ap (file_with (file_of d)) none; begin = refl; point = λ p z. nothing_there p z; here = here None; running = λ z. refl; over = λ x z. nothing_there x z }
    by (Some e) = record { client = refl; word = refl; file = ap (file_with (file_of d)) none; begin = refl; point = λ p z. pointed (has_point (word_of d) e.outcome) e.rests_on p z; here = here (Some e); running = λ z. nothing_there e (sym z); over = λ x z. sym (some_is step x z) }

-- what its operation took and sent, once an answer is heard
pub heard_log : FitLaws → (opening : List Opening) (all past : List Moment) (k : Core) (qs : List Queue) (n now : ℕ) (bytes : List ℕ) (mid : List Queue) → IsKept (book_at opening k all) k qs → (h : Heard k qs n now bytes mid) → ArePast k.steps past → (p : ℕ) (o : Op) → h.seat.place ≡ Some p → slice_get k.ops p ≡ Some o
    → (let r = got_step h.seat.client (Ok (told_message h.told)) now in deals_of (op_after o r.0 (session_taken (session_of k.sessions h.seat.session)) (k.steps + 1) r.1) (past ++ moment k (Hears n now bytes) ∷ []) ≡ deals_of o past ++ deals_with (wanted_by h.seat.client (Ok (told_message h.told))) (given_by_message h.seat.client (Ok (told_message h.told))) r.1.send)
heard_log fits opening all past k qs n now bytes mid kept h before p o e at =
    let book : Book = book_at opening k all in
    let r = got_step h.seat.client (Ok (told_message h.told)) now in
    let taken : List TakenCall = session_taken (session_of k.sessions h.seat.session) in
    let new : Op = op_after o r.0 taken (k.steps + 1) r.1 in
    let actor = (acts_alone book k qs h.session.owner h.seat kept h.owner).own p o e at in
    let owner : owner_in (numbered k.sessions n) ≡ h.session.owner = ap owner_in h.at in
    deals_more new past (moment k (Hears n now bytes))
    ∙ ap (λ l. l ++ deals_in new (moment k (Hears n now bytes))) (deals_alike k.steps o new past (running_past o r.0 taken k.steps r.1 actor.1) before)
    ∙ ap (λ l. deals_of o past ++ l) (
    deals_own new (moment k (Hears n now bytes)) (ap (is_in new (k.steps + 1)) owner ∙ running_now o r.0 taken k.steps h.session.owner r.1 actor.0 actor.1 actor.2)
    ∙ ap (λ i. deals_with (taken_by k i (Hears n now bytes)) (given_by k i (Hears n now bytes)) (asked_in (moment k (Hears n now bytes)))) owner
    ∙ ap (λ l. deals_with l (given_by k h.session.owner (Hears n now bytes)) (asked_in (moment k (Hears n now bytes)))) (heard_takes fits book k qs n now bytes mid kept h)
    ∙ ap (λ l. deals_with (wanted_by h.seat.client (Ok (told_message h.told))) l (asked_in (moment k (Hears n now bytes)))) (heard_gives fits book k qs n now bytes mid kept h)
    ∙ ap (λ (t : CoreStep). deals_with (wanted_by h.seat.client (Ok (told_message h.told))) (given_by_message h.seat.client (Ok (told_message h.told))) (calls_in t.up)) (heard_acts fits book k qs n now bytes mid kept h)
    ∙ ap (deals_with (wanted_by h.seat.client (Ok (told_message h.told))) (given_by_message h.seat.client (Ok (told_message h.told)))) (answer_calls h.seat.client h.told.xid (reply_body h.told.reply) now)
    )

-- ---- what is carried

-- of one under way at this stage, for which this was said, and of any
abbrev pub Going : Type 1
Going = (past : List Moment) → (log : List Deal) → (place : ℕ) → Op → Stage → Type 0

abbrev pub Ending : Type 1
Ending = (past : List Moment) → (log : List Deal) → (place : ℕ) → Op → Type 0

pub record HaveFacts (P : Going) (E : Ending) (past : List Moment) (k : Core) : Type 0 where
  pub jobs : (i : ℕ) (seat : Seat) (j : Job) (o : Op) → numbered k.seats i ≡ Some seat → job seat ≡ Some j → slice_get k.ops j.place ≡ Some o → P past (deals_of o past) j.place o j.stage
  pub each : (p : ℕ) (o : Op) → slice_get k.ops p ≡ Some o → E past (deals_of o past) p o

-- ---- what is to be shown

abbrev pub changed : {k : Core} {ops : List Op} → IsChange k ops → Op
changed {k = k} c = record c.op { file = c.file; point = Some (k.steps + 1) }

-- of an operation that its client made this of
pub record Renews (P : Going) (E : Ending) (past : List Moment) (log : List Deal) (place : ℕ) (r : client.State × ClientStep) (new : Op) : Type 0 where
  pub stage : (u : Task) → r.1.ended ≡ None → r.0.task ≡ Some u → P past log place new u.stage
  pub each : E past log place new

pub record FactLaws (P : Going) (E : Ending) (all past rest : List Moment) (opening : List Opening) (k : Core) (qs mid after : List Queue) : Type 0 where
  -- what is true stays so where one moment more is past
  pub stays : (e : Event) (log : List Deal) (p : ℕ) (o : Op) (st : Stage) → p < length k.ops → P past log p o st → P (past ++ moment k e ∷ []) log p o st
  pub ends_stay : (e : Event) (log : List Deal) (p : ℕ) (o : Op) → p < length k.ops → E past log p o → E (past ++ moment k e ∷ []) log p o
  -- its change is made
  pub changes : (ops : List Op) (c : IsChange k ops) (log : List Deal) (i : ℕ) (seat : Seat) (j : Job) → numbered k.seats i ≡ Some seat → job seat ≡ Some j → j.place ≡ c.place → P past log c.place c.op j.stage → P past log c.place (changed c) j.stage
  pub ends_change : (ops : List Op) (c : IsChange k ops) (log : List Deal) → E past log c.place c.op → E past log c.place (changed c)
  -- it begins
  pub begins : (c now : ℕ) (d : Command) (seat : Seat) → numbered k.seats c ≡ Some seat → IsSmall d → seat.client.task ≡ None
      → (let r = command_step seat.client d now in let new = made_by k c now d seat r.0 r.1 in IsNew c d (k.steps + 1) r.1 new → (u : Task) → r.1.ended ≡ None → r.0.task ≡ Some u → P (past ++ moment k (Does c now d) ∷ []) (map Sent r.1.send) (length k.ops) new u.stage)
  pub begun : (c now : ℕ) (d : Command) (seat : Seat) → numbered k.seats c ≡ Some seat → IsSmall d
      → (let r = command_step seat.client d now in let new = made_by k c now d seat r.0 r.1 in IsNew c d (k.steps + 1) r.1 new → IsRight (book_at opening (does k c now d (Some seat)).core all) new → E (past ++ moment k (Does c now d) ∷ []) (map Sent r.1.send) (length k.ops) new)
  -- its client hears an answer
  pub hears : (n now : ℕ) (bytes : List ℕ) (h : Heard k qs n now bytes mid)
      → (let r = got_step h.seat.client (Ok (told_message h.told)) now in let t = acted k h.session.owner h.seat r.0 r.1 in IsKept (book_at opening t.core all) t.core after → (j : Job) (o : Op) → job h.seat ≡ Some j → slice_get k.ops j.place ≡ Some o → P past (deals_of o past) j.place o j.stage → E past (deals_of o past) j.place o
      → Renews P E (past ++ moment k (Hears n now bytes) ∷ []) (deals_of o past ++ deals_with (wanted_by h.seat.client (Ok (told_message h.told))) (given_by_message h.seat.client (Ok (told_message h.told))) r.1.send) j.place r (op_after o r.0 (session_taken (session_of k.sessions h.seat.session)) (k.steps + 1) r.1))
  -- its client sees its connection lost
  pub lost : (c : ℕ) (seat : Seat) → numbered k.seats c ≡ Some seat → (j : Job) (o : Op) → job seat ≡ Some j → slice_get k.ops j.place ≡ Some o → P past (deals_of o past) j.place o j.stage → E past (deals_of o past) j.place o
      → E (past ++ moment k (Cuts c) ∷ []) (deals_of o past) j.place (op_after o (record seat.client { linked = false; task = None; forgotten = [] }) (session_taken (session_of k.sessions seat.session)) (k.steps + 1) (ended_by (Some (record { file = j.file; stage = j.stage })) (record { outcome = outcome.Lost; rests_on = 0 })))

-- ---- an operation behind the event

-- it was there, or its change is made
pub settled_was : (k : Core) (ops : List Op) → Settled k ops → (p : ℕ) (r : Op) → slice_get ops p ≡ Some r → (slice_get k.ops p ≡ Some r) ⊎ ((c : IsChange k ops) × (p ≡ c.place) × (r ≡ changed c))
settled_was k ops (inl same) p r at = inl (ap (λ (l : List Op). slice_get l p) (sym same) ∙ at)
settled_was k ops (inr c) p r at = elim (of_replaced k.ops c.place (changed c) p r (ap (λ (l : List Op). slice_get l p) (sym c.is) ∙ at)) [ inr old ↦ inl old.1 | inl made ↦ inr (c, made.0, made.1) ]

module _ (P : Going) (E : Ending) (all past rest : List Moment) (opening : List Opening) (k : Core) (qs mid after : List Queue) (laws : FactLaws P E all past rest opening k qs mid after) (h : HaveFacts P E past k) where
  -- one for which nothing is said
  job_stays_so : (e : Event) (p : ℕ) (o : Op) (st : Stage) → deals_in o (moment k e) ≡ [] → slice_get k.ops p ≡ Some o → P past (deals_of o past) p o st → P (past ++ moment k e ∷ []) (deals_of o (past ++ moment k e ∷ [])) p o st
  job_stays_so e p o st none at x = subst (λ (l : List Deal). P (past ++ moment k e ∷ []) l p o st) (sym (deals_same o past (moment k e) none)) (laws.stays e (deals_of o past) p o st (within k.ops p o at) x)

  op_stays_so : (e : Event) (p : ℕ) (o : Op) → deals_in o (moment k e) ≡ [] → slice_get k.ops p ≡ Some o → E (past ++ moment k e ∷ []) (deals_of o (past ++ moment k e ∷ [])) p o
  op_stays_so e p o none at = subst (λ (l : List Deal). E (past ++ moment k e ∷ []) l p o) (sym (deals_same o past (moment k e) none)) (laws.ends_stay e (deals_of o past) p o (within k.ops p o at) (h.each p o at))

  facts_still : (e : Event) (t : CoreStep) → IsStill k e t → HaveFacts P E (past ++ moment k e ∷ []) t.core
  facts_still e t s = record {
    jobs = λ i seat j r now on at. let w = s.jobs i seat j now on in let here = w.3 in let is = old_job w.0 seat w.1 w.2 j w.4 on in elim (settled_was k t.core.ops s.ops j.place r at) [
      | inl old ↦ job_stays_so e j.place r j.stage (deals_silent r (moment k e) s.silent) old (h.jobs i w.0 j r here is old)
      | inr (c, same, new) ↦ subst (λ (z : Op). P (past ++ moment k e ∷ []) (deals_of z (past ++ moment k e ∷ [])) j.place z j.stage) (sym new) (subst (λ (n : ℕ). P (past ++ moment k e ∷ []) (deals_of (changed c) (past ++ moment k e ∷ [])) n (changed c) j.stage) (sym same)
          (subst (λ (l : List Deal). P (past ++ moment k e ∷ []) l c.place (changed c) j.stage) (sym (quiet c)) (laws.stays e (deals_of c.op past) c.place (changed c) j.stage (within k.ops c.place c.op c.there)
          (laws.changes t.core.ops c (deals_of c.op past) i w.0 j here is same (subst (λ (n : ℕ). P past (deals_of c.op past) n c.op j.stage) same (h.jobs i w.0 j c.op here is (ap (slice_get k.ops) same ∙ c.there)))))))
    ];
    each = λ p r at. elim (settled_was k t.core.ops s.ops p r at) [
      | inl old ↦ op_stays_so e p r (deals_silent r (moment k e) s.silent) old
      | inr (c, same, new) ↦ subst (λ (z : Op). E (past ++ moment k e ∷ []) (deals_of z (past ++ moment k e ∷ [])) p z) (sym new) (subst (λ (n : ℕ). E (past ++ moment k e ∷ []) (deals_of (changed c) (past ++ moment k e ∷ [])) n (changed c)) (sym same)
          (subst (λ (l : List Deal). E (past ++ moment k e ∷ []) l c.place (changed c)) (sym (quiet c)) (laws.ends_stay e (deals_of c.op past) c.place (changed c) (within k.ops c.place c.op c.there) (laws.ends_change t.core.ops c (deals_of c.op past) (h.each c.place c.op c.there)))))
    ];
  }
    where
      quiet : (c : IsChange k t.core.ops) → deals_of (changed c) (past ++ moment k e ∷ []) ≡ deals_of c.op past
      quiet c = deals_filed c.op c.file (Some (k.steps + 1)) (past ++ moment k e ∷ []) ∙ deals_same c.op past (moment k e) (deals_silent c.op (moment k e) s.silent)

  -- a client goes on with its own
  facts_act : (e : Event) (r : Core) (c : ℕ) (seat : Seat) (s : client.State) (taken : List TakenCall) (acts : ClientStep) → IsKept (book_at opening k all) k qs → numbered k.seats c ≡ Some seat → r.seats ≡ with_numbered k.seats c (record seat { client = s; place = place_after seat.place acts.ended }) → r.ops ≡ ops_with k.ops seat.place s taken (k.steps + 1) acts
      → ((p : ℕ) (o : Op) → slice_get k.ops p ≡ Some o → (seat.place ≡ Some p → ⊥) → deals_in o (moment k e) ≡ [])
      → ((j : Job) (o : Op) → job seat ≡ Some j → slice_get k.ops j.place ≡ Some o → Renews P E (past ++ moment k e ∷ []) (deals_of (op_after o s taken (k.steps + 1) acts) (past ++ moment k e ∷ [])) j.place (s, acts) (op_after o s taken (k.steps + 1) acts))
      → HaveFacts P E (past ++ moment k e ∷ []) r
  facts_act e r c seat s taken acts kept here seats ops others renewed = record {
    jobs = λ i z j q there is at. elim (of_numbered k.seats c (record seat { client = s; place = place_after seat.place acts.ended }) i z (ap (λ (l : List Seat). numbered l i) (sym seats) ∙ there)) [
      | inl mine ↦ own j q (job_after s seat.place acts.ended j (ap job (sym mine.1) ∙ is)) (shape j.place q at)
      | inr other ↦ elim (shape j.place q at) [
        | inl new ↦ absurd (foreign_at (book_at opening k all) k qs c seat kept here i z j new.0 other.1 is new.2 other.0 new.1)
        | inr old ↦ job_stays_so e j.place q j.stage (others j.place q old.1 old.0) old.1 (h.jobs i z j q other.1 is old.1)
      ]
    ];
    each = λ p q at. elim (shape p q at) [
      | inl new ↦ (let b = renews p new.0 new.1 new.2 in subst (λ (x : Op). E (past ++ moment k e ∷ []) (deals_of x (past ++ moment k e ∷ [])) p x) (sym new.3) b.each)
      | inr old ↦ op_stays_so e p q (others p q old.1 old.0) old.1
    ];
  }
    where
      shape : (p : ℕ) (q : Op) → slice_get r.ops p ≡ Some q → ((o : Op) × (seat.place ≡ Some p) × (slice_get k.ops p ≡ Some o) × (q ≡ op_after o s taken (k.steps + 1) acts)) ⊎ ((seat.place ≡ Some p → ⊥) × (slice_get k.ops p ≡ Some q))
      shape p q at = ops_shape k.ops seat.place s taken (k.steps + 1) acts p q (ap (λ (l : List Op). slice_get l p) (sym ops) ∙ at)

      renews : (p : ℕ) (o : Op) → seat.place ≡ Some p → slice_get k.ops p ≡ Some o → Renews P E (past ++ moment k e ∷ []) (deals_of (op_after o s taken (k.steps + 1) acts) (past ++ moment k e ∷ [])) p (s, acts) (op_after o s taken (k.steps + 1) acts)
      renews p o place at =
          let w = own_op (book_at opening k all) k qs c seat p o kept here place at in
          subst (λ (n : ℕ). Renews P E (past ++ moment k e ∷ []) (deals_of (op_after o s taken (k.steps + 1) acts) (past ++ moment k e ∷ [])) n (s, acts) (op_after o s taken (k.steps + 1) acts)) w.2 (renewed w.0 o w.1 (ap (slice_get k.ops) w.2 ∙ at))

      own : (j : Job) (q : Op) → (seat.place ≡ Some j.place) × (acts.ended ≡ None) × (s.task ≡ Some (record { file = j.file; stage = j.stage })) → ((o : Op) × (seat.place ≡ Some j.place) × (slice_get k.ops j.place ≡ Some o) × (q ≡ op_after o s taken (k.steps + 1) acts)) ⊎ ((seat.place ≡ Some j.place → ⊥) × (slice_get k.ops j.place ≡ Some q))
          → P (past ++ moment k e ∷ []) (deals_of q (past ++ moment k e ∷ [])) j.place q j.stage
      own j q a (inl new) = let b = renews j.place new.0 new.1 new.2 in subst (λ (x : Op). P (past ++ moment k e ∷ []) (deals_of x (past ++ moment k e ∷ [])) j.place x j.stage) (sym new.3) (b.stage (record { file = j.file; stage = j.stage }) a.1 a.2)
      own j q a (inr old) = absurd (old.0 a.0)

  facts_begin : (c now : ℕ) (d : Command) (seat : Seat) → Step all past rest opening k qs (Does c now d) mid after → numbered k.seats c ≡ Some seat → IsSmall d → IsKept (book_at opening (does k c now d (Some seat)).core all) (does k c now d (Some seat)).core after → ArePast k.steps past → HaveFacts P E (past ++ moment k (Does c now d) ∷ []) (does k c now d (Some seat)).core
  facts_begin c now d seat s here small left before = record {
    jobs = λ i z j q there is at. elim (of_numbered k.seats c (record seat { client = (command_step seat.client d now).0; place = place_with seat.place (length k.ops) (command_step seat.client d now).1.ended }) i z there) [
      | inl mine ↦ own (s.kept.seats c seat here).matched j q (ap job (sym mine.1) ∙ is) at
      | inr other ↦ old_job i z j q other.1 is at
    ];
    each = λ p q at. elim (of_appended k.ops new p q at) [
      | inr old ↦ op_stays_so (Does c now d) p q (others p q old) old
      | inl last ↦ subst (λ (z : Op). E (past ++ moment k (Does c now d) ∷ []) (deals_of z (past ++ moment k (Does c now d) ∷ [])) p z) (sym last.1) (subst (λ (n : ℕ). E (past ++ moment k (Does c now d) ∷ []) (deals_of new (past ++ moment k (Does c now d) ∷ [])) n new) (sym last.0)
          (subst (λ (l : List Deal). E (past ++ moment k (Does c now d) ∷ []) l (length k.ops) new) (sym log_is) (laws.begun c now d seat here small is (last_right (book_at opening (does k c now d (Some seat)).core all) k.ops new left.ops left.sound))))
    ];
  }
    where
      new : Op
      new = made_by k c now d seat (command_step seat.client d now).0 (command_step seat.client d now).1

      is : IsNew c d (k.steps + 1) (command_step seat.client d now).1 (made_by k c now d seat (command_step seat.client d now).0 (command_step seat.client d now).1)
      is = is_new c d (value_at_begin seat.client (word_of d) (file_of d) (command_step seat.client d now).1.ended) (k.steps + 1) (command_step seat.client d now).0 (command_step seat.client d now).1 (command_finds seat.client d now small)

      sent : asked_in (moment k (Does c now d)) ≡ (command_step seat.client d now).1.send
      sent = ap (λ (o : Option Seat). calls_in (does k c now d o).up) here ∙ command_calls seat.client d now

      log_is : deals_of (made_by k c now d seat (command_step seat.client d now).0 (command_step seat.client d now).1) (past ++ moment k (Does c now d) ∷ []) ≡ map Sent (command_step seat.client d now).1.send
      log_is =
          let o : Op = made_by k c now d seat (command_step seat.client d now).0 (command_step seat.client d now).1 in
          let begin = is.begin in
          deals_more o past (moment k (Does c now d))
          ∙ ap (λ l. l ++ deals_in o (moment k (Does c now d))) (deals_early k.steps o past (omega (arith, begin)) before)
          ∙ deals_own o (moment k (Does c now d)) is.here
          ∙ ap (λ l. deals_with [] [] l) sent

      -- with an operation under way nothing is sent
      others : (p : ℕ) (o : Op) → slice_get k.ops p ≡ Some o → deals_in o (moment k (Does c now d)) ≡ []
      others p o at = by seat.place refl (s.kept.seats c seat here).matched
        where
          by : (l : Option ℕ) → seat.place ≡ l → IsMatched seat → deals_in o (moment k (Does c now d)) ≡ []
          by None e m = deals_apart o (moment k (Does c now d)) ((acts_alone (book_at opening k all) k qs c seat s.kept here).other p o at (λ z. nothing_there p (sym e ∙ z)))
          by (Some l) e (inl m) = nothing_there l (sym m.0 ∙ e)
          by (Some l) e (inr m) = deals_silent o (moment k (Does c now d)) (refl, refl, sent ∙ (busy_command seat.client d now (record { file = m.0.file; stage = m.0.stage }) (job_task seat.place seat.client.task m.0 m.1)).0)

      old_job : (i : ℕ) (z : Seat) (j : Job) (q : Op) → numbered k.seats i ≡ Some z → job z ≡ Some j → slice_get (k.ops ++ new ∷ []) j.place ≡ Some q → P (past ++ moment k (Does c now d) ∷ []) (deals_of q (past ++ moment k (Does c now d) ∷ [])) j.place q j.stage
      old_job i z j q there is at = elim (of_appended k.ops new j.place q at) [
        | inl last ↦ (let lt = old_jobs (book_at opening k all) k qs s.kept i z j there is in let e = last.0 in absurd (omega (arith, lt, e)))
        | inr old ↦ job_stays_so (Does c now d) j.place q j.stage (others j.place q old) old (h.jobs i z j q there is old)
      ]

      own : IsMatched seat → (j : Job) (q : Op) → job (record seat { client = (command_step seat.client d now).0; place = place_with seat.place (length k.ops) (command_step seat.client d now).1.ended }) ≡ Some j → slice_get (k.ops ++ new ∷ []) j.place ≡ Some q → P (past ++ moment k (Does c now d) ∷ []) (deals_of q (past ++ moment k (Does c now d) ∷ [])) j.place q j.stage
      own (inr (old, was)) j q on at =
          let same : (command_step seat.client d now).0 ≡ at_clock seat.client now = (busy_command seat.client d now (record { file = old.file; stage = old.stage }) (job_task seat.place seat.client.task old was)).1 in
          old_job c seat j q here (job_stays seat old (length k.ops) was j (command_step seat.client d now).1.ended (ap (λ (z : client.State). job_of (place_with seat.place (length k.ops) (command_step seat.client d now).1.ended) z.task) (sym same) ∙ on)) at
      own (inl free) j q on at = begins (command_step seat.client d now).1.ended refl (ap (λ (l : Option ℕ). job_of (place_with l (length k.ops) (command_step seat.client d now).1.ended) (command_step seat.client d now).0.task) (sym free.0) ∙ on)
        where
          begins : (e : Option Ended) → (command_step seat.client d now).1.ended ≡ e → job_of (place_with None (length k.ops) e) (command_step seat.client d now).0.task ≡ Some j → P (past ++ moment k (Does c now d) ∷ []) (deals_of q (past ++ moment k (Does c now d) ∷ [])) j.place q j.stage
          begins (Some e) ended z = nothing_there j z
          begins None ended z =
              let place : length k.ops ≡ j.place = some_is (length k.ops) j.place (job_place (Some (length k.ops)) (command_step seat.client d now).0.task j z) in
              let same : new ≡ q = some_is new q (sym (at_end k.ops new) ∙ ap (slice_get (k.ops ++ new ∷ [])) place ∙ at) in
              subst (λ (n : ℕ). P (past ++ moment k (Does c now d) ∷ []) (deals_of q (past ++ moment k (Does c now d) ∷ [])) n q j.stage) place
              (subst (λ (x : Op). P (past ++ moment k (Does c now d) ∷ []) (deals_of x (past ++ moment k (Does c now d) ∷ [])) (length k.ops) x j.stage) same
              (subst (λ (l : List Deal). P (past ++ moment k (Does c now d) ∷ []) l (length k.ops) new j.stage) (sym log_is)
              (laws.begins c now d seat here small free.1 is (record { file = j.file; stage = j.stage }) ended (job_task (Some (length k.ops)) (command_step seat.client d now).0.task j z))))

  facts_hear : FitLaws → (n now : ℕ) (bytes : List ℕ) → Step all past rest opening k qs (Hears n now bytes) mid after → (w : Heard k qs n now bytes mid) → ArePast k.steps past
      → (let r = got_step w.seat.client (Ok (told_message w.told)) now in let t = acted k w.session.owner w.seat r.0 r.1 in IsKept (book_at opening t.core all) t.core after → HaveFacts P E (past ++ moment k (Hears n now bytes) ∷ []) t.core)
  facts_hear fits n now bytes s w before left =
      let r = got_step w.seat.client (Ok (told_message w.told)) now in
      let taken = session_taken (session_of k.sessions w.seat.session) in
      let book = book_at opening k all in
      facts_act (Hears n now bytes) (acted k w.session.owner w.seat r.0 r.1).core w.session.owner w.seat r.0 taken r.1 s.kept w.owner refl refl
      (λ p o at apart. deals_apart o (moment k (Hears n now bytes)) (ap (λ z. is_in o (k.steps + 1) (owner_in z)) w.at ∙ (acts_alone book k qs w.session.owner w.seat s.kept w.owner).other p o at apart))
      (λ j o is at.
      let a = laws.hears n now bytes w left j o is at (h.jobs w.session.owner w.seat j o w.owner is at) (h.each j.place o at) in
      let log = heard_log fits opening all past k qs n now bytes mid s.kept w before j.place o (job_place w.seat.place w.seat.client.task j is) at in
      subst (λ (l : List Deal). Renews P E (past ++ moment k (Hears n now bytes) ∷ []) l j.place r (op_after o r.0 taken (k.steps + 1) r.1)) (sym log) a)

  facts_lost : (c : ℕ) (seat : Seat) → Step all past rest opening k qs (Cuts c) mid after → numbered k.seats c ≡ Some seat → ArePast k.steps past → HaveFacts P E (past ++ moment k (Cuts c) ∷ []) (cuts_if k c seat true).core
  facts_lost c seat s here before = facts_act (Cuts c) (cuts_if k c seat true).core c seat gone taken (ended_by seat.client.task lost_) s.kept here refl refl (λ p o at apart. deals_silent o (moment k (Cuts c)) (cuts_silent k c))
      (λ j o is at.
      let task = job_task seat.place seat.client.task j is in
      let actor = (acts_alone (book_at opening k all) k qs c seat s.kept here).own j.place o (job_place seat.place seat.client.task j is) at in
      let new : Op = op_after o gone taken (k.steps + 1) (ended_by seat.client.task lost_) in
      let log : deals_of new (past ++ moment k (Cuts c) ∷ []) ≡ deals_of o past = deals_same new past (moment k (Cuts c)) (deals_silent new (moment k (Cuts c)) (cuts_silent k c)) ∙ deals_alike k.steps o new past (running_past o gone taken k.steps (ended_by seat.client.task lost_) actor.1) before in
      record {
        stage = λ u a on. nothing_there u on;
        each = subst (λ (l : List Deal). E (past ++ moment k (Cuts c) ∷ []) l j.place new) (sym log) (subst (λ (t : Option Task). E (past ++ moment k (Cuts c) ∷ []) (deals_of o past) j.place (op_after o gone taken (k.steps + 1) (ended_by t lost_))) (sym task) (laws.lost c seat here j o is at (h.jobs c seat j o here is at) (h.each j.place o at)));
      })
    where
      gone : client.State
      gone = record seat.client { linked = false; task = None; forgotten = [] }

      taken : List TakenCall
      taken = session_taken (session_of k.sessions seat.session)

      lost_ : Ended
      lost_ = record { outcome = outcome.Lost; rests_on = 0 }

-- ---- any event

pub facts_event : FitLaws → (P : Going) (E : Ending) (all past rest : List Moment) (opening : List Opening) (k : Core) (qs : List Queue) (e : Event) (mid after : List Queue) → Step all past rest opening k qs e mid after → ArePast k.steps past → FactLaws P E all past rest opening k qs mid after → HaveFacts P E past k → HaveFacts P E (past ++ moment k e ∷ []) (happens k e).core
facts_event fits P E all past rest opening k qs e mid after s before laws h = event_cases fits all past rest opening k qs e mid after s (λ e t. HaveFacts P E (past ++ moment k e ∷ []) t.core) (record {
  still = λ t still. facts_still P E all past rest opening k qs mid after laws h e t still;
  begins = λ c now d seat s here small left. facts_begin P E all past rest opening k qs mid after laws h c now d seat s here small left before;
  hears = λ n now bytes s w left. facts_hear P E all past rest opening k qs mid after laws h fits n now bytes s w before left;
  lost = λ c seat s here. facts_lost P E all past rest opening k qs mid after laws h c seat s here before;
})

-- whatever was said was so by now
pub past_event : FitLaws → (all past rest : List Moment) (opening : List Opening) (k : Core) (qs : List Queue) (e : Event) (mid after : List Queue) → Step all past rest opening k qs e mid after → ArePast k.steps past → ArePast (happens k e).core.steps (past ++ moment k e ∷ [])
past_event fits all past rest opening k qs e mid after s before = event_cases fits all past rest opening k qs e mid after s (λ e t. ArePast t.core.steps (past ++ moment k e ∷ [])) (record {
  still = λ t still. past_more k.steps t.core.steps past (moment k e) still.passes (inr still.silent) before;
  begins = λ c now d seat s here small left. past_more k.steps (k.steps + 1) past (moment k (Does c now d)) (omega arith) (inl (omega arith)) before;
  hears = λ n now bytes s w left. past_more k.steps (k.steps + 1) past (moment k (Hears n now bytes)) (omega arith) (inl (omega arith)) before;
  lost = λ c seat s here. past_more k.steps (k.steps + 1) past (moment k (Cuts c)) (omega arith) (inr (cuts_silent k c)) before;
})
