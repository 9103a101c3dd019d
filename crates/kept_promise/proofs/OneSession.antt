-- A run carries that a client is at one session as long as an operation of it is under way.
use Rattle.std.proofs.Common.{◌⊎◌, inl, inr, ◌≡◌, ℕ, List, [], ◌∷◌, ◌++◌, length, Option, Some, None, Ok, refl, sym, ap, ◌∙◌, subst, arith}
use Rattle.client_state.specs.Noting.{at as at_clock}
use Rattle.client_state.specs.State as client
use Rattle.kept_promise.proofs.Common.{slice_get, Contains, Contains-push_cases, Command, ClientStep, Ended, command_step, Task, Op, Opening, Core, Seat, Event, numbered, with_numbered, place_with, place_after, does, got_step, told_message, happens, Moment, Queue}
use Rattle.kept_promise.proofs.Actors.{job_place, job_task}
use Rattle.kept_promise.proofs.Lists.{some_is, nothing_there, within}
use Rattle.kept_promise.proofs.Messages.{Job, job, job_of}
use Rattle.kept_promise.proofs.Facts.{IsMatched}
use Rattle.kept_promise.proofs.Fits.{FitLaws}
use Rattle.kept_promise.proofs.CommandOps.{job_stays}
use Rattle.kept_promise.proofs.JobFacts.{job_after}
use Rattle.kept_promise.proofs.OpsAfter.{ops_after_event, stays_in}
use Rattle.kept_promise.proofs.RunsCarried.{book_at, moment, Step, Carried}
use Rattle.kept_promise.proofs.Shapes.{busy_command}
use Rattle.kept_promise.proofs.Versions.{of_numbered}
use Rattle.kept_promise.proofs.EventCases.{old_job, event_cases}

-- ---- what is said

-- at each of these moments at which a client has a job of this place, it is at this session
abbrev pub StaysOn : (past : List Moment) → (index place : ℕ) → (session : Option ℕ) → Type 0
StaysOn past i place session = (m : Moment) (s : Seat) (j : Job) → Contains past m → numbered m.before.seats i ≡ Some s → job s ≡ Some j → j.place ≡ place → s.session ≡ session

-- for each job of any of these moments
abbrev pub AtOneSession : List Moment → Type 0
AtOneSession past = (m : Moment) (i : ℕ) (s : Seat) (j : Job) → Contains past m → numbered m.before.seats i ≡ Some s → job s ≡ Some j → StaysOn past i j.place s.session

pub record OneSession (past : List Moment) (k : Core) : Type 0 where
  pub each : AtOneSession past
  pub now : (i : ℕ) (s : Seat) (j : Job) → numbered k.seats i ≡ Some s → job s ≡ Some j → StaysOn past i j.place s.session
  -- each job was of an operation
  pub begun : (m : Moment) (i : ℕ) (s : Seat) (j : Job) → Contains past m → numbered m.before.seats i ≡ Some s → job s ≡ Some j → (o : Op) × (slice_get k.ops j.place ≡ Some o)

-- ---- an event

-- a job behind the event was there, at the same session, or is of an operation that begins
abbrev WasOn : Core → (index : ℕ) → Seat → Job → Type 0
WasOn k i s j = ((old : Seat) × (l : Job) × (numbered k.seats i ≡ Some old) × (job old ≡ Some l) × (l.place ≡ j.place) × (old.session ≡ s.session)) ⊎ (j.place ≡ length k.ops)

abbrev WereOn : Core → List Seat → Type 0
WereOn k seats = (i : ℕ) (s : Seat) (j : Job) → numbered seats i ≡ Some s → job s ≡ Some j → WasOn k i s j

-- one client has another seat, and if it has a job there that was so
were_with : (k : Core) (c : ℕ) (new : Seat) → ((j : Job) → job new ≡ Some j → WasOn k c new j) → WereOn k (with_numbered k.seats c new)
were_with k c new own i s j at is = elim (of_numbered k.seats c new i s at) [
  | inr other ↦ inl (s, j, other.1, is, refl, refl)
  | inl mine ↦ subst (λ (n : ℕ). WasOn k n s j) (sym mine.0) (subst (λ (z : Seat). WasOn k c z j) (sym mine.1) (own j (ap job (sym mine.1) ∙ is)))
]

no_job : (l : Option ℕ) (t : Option Task) → t ≡ None → job_of l t ≡ None
no_job None t e = refl
no_job (Some l) t e = ap (job_of (Some l)) e

-- a client that has no task has no job
idle_with : (k : Core) (c : ℕ) (new : Seat) → new.client.task ≡ None → WereOn k (with_numbered k.seats c new)
idle_with k c new none = were_with k c new (λ j is. nothing_there j (sym (no_job new.place new.client.task none) ∙ is))

-- a client goes on with its own
acted_with : (k : Core) (c : ℕ) (seat : Seat) (s : client.State) (acts : ClientStep) → numbered k.seats c ≡ Some seat → IsMatched seat → WereOn k (with_numbered k.seats c (record seat { client = s; place = place_after seat.place acts.ended }))
acted_with k c seat s acts here matched = were_with k c (record seat { client = s; place = place_after seat.place acts.ended }) (λ j is. by j (job_after s seat.place acts.ended j is).0 matched)
  where
    by : (j : Job) → seat.place ≡ Some j.place → IsMatched seat → WasOn k c (record seat { client = s; place = place_after seat.place acts.ended }) j
    by j place (inl idle) = nothing_there j.place (sym idle.0 ∙ place)
    by j place (inr (old, busy)) = inl (seat, old, here, busy, some_is old.place j.place (sym (job_place seat.place seat.client.task old busy) ∙ place), refl)

-- a client is told to do something
told_with : (k : Core) (c now : ℕ) (d : Command) (seat : Seat) → numbered k.seats c ≡ Some seat → IsMatched seat → WereOn k (does k c now d (Some seat)).core.seats
told_with k c now d seat here matched = were_with k c then_ (λ j is. by j matched is)
  where
    acts : client.State × ClientStep
    acts = command_step seat.client d now

    then_ : Seat
    then_ = record seat { client = acts.0; place = place_with seat.place (length k.ops) acts.1.ended }

    begins : (j : Job) (e : Option Ended) → job_of (place_with None (length k.ops) e) acts.0.task ≡ Some j → j.place ≡ length k.ops
    begins j (Some e) at = nothing_there j at
    begins j None at = sym (some_is (length k.ops) j.place (job_place (Some (length k.ops)) acts.0.task j at))

    by : (j : Job) → IsMatched seat → job then_ ≡ Some j → WasOn k c then_ j
    by j (inr (old, busy)) is =
        let same : acts.0 ≡ at_clock seat.client now = (busy_command seat.client d now (record { file = old.file; stage = old.stage }) (job_task seat.place seat.client.task old busy)).1 in
        inl (seat, j, here, job_stays seat old (length k.ops) busy j acts.1.ended (ap (λ (z : client.State). job_of (place_with seat.place (length k.ops) acts.1.ended) z.task) (sym same) ∙ is), refl, refl)
    by j (inl idle) is = inr (begins j acts.1.ended (ap (λ (l : Option ℕ). job_of (place_with l (length k.ops) acts.1.ended) acts.0.task) (sym idle.0) ∙ is))

were_on : FitLaws → (all past rest : List Moment) (opening : List Opening) (k : Core) (qs : List Queue) (e : Event) (mid after : List Queue) → Step all past rest opening k qs e mid after → WereOn k (happens k e).core.seats
were_on laws all past rest opening k qs e mid after s = event_cases laws all past rest opening k qs e mid after s (λ e t. WereOn k t.core.seats) (record {
  still = λ t still. λ i z j at is. let w = still.jobs i z j at is in inl (w.0, j, w.3, old_job w.0 z w.1 w.2 j w.4 is, refl, ap (λ (y : Seat). y.session) (sym w.4));
  begins = λ c now d seat w here small left. told_with k c now d seat here (s.kept.seats c seat here).matched;
  hears = λ n now bytes s h left. (let r = got_step h.seat.client (Ok (told_message h.told)) now in acted_with k h.session.owner h.seat r.0 r.1 h.owner (s.kept.seats h.session.owner h.seat h.owner).matched);
  lost = λ c seat w here. idle_with k c _ refl;
})

-- ---- any event

one_event : FitLaws → (all past rest : List Moment) (opening : List Opening) (k : Core) (qs : List Queue) (e : Event) (mid after : List Queue) → Step all past rest opening k qs e mid after → OneSession past k → OneSession (past ++ moment k e ∷ []) (happens k e).core
one_event laws all past rest opening k qs e mid after s h = record {
  each = λ m i t j there at is n u l inside here on same. elim (Contains-push_cases past (moment k e) m there) [
    | inl old ↦ elim (Contains-push_cases past (moment k e) n inside) [
      | inl past_ ↦ h.each m i t j old at is n u l past_ here on same
      | inr last ↦ sym (h.now i u l (ap (λ (z : Moment). numbered z.before.seats i) last ∙ here) on m t j old at is (sym same))
    ]
    | inr new ↦ elim (Contains-push_cases past (moment k e) n inside) [
      | inl past_ ↦ h.now i t j (ap (λ (z : Moment). numbered z.before.seats i) new ∙ at) is n u l past_ here on same
      | inr last ↦ ap (λ (z : Seat). z.session) (some_is u t (sym here ∙ ap (λ (z : Moment). numbered z.before.seats i) (sym last ∙ new) ∙ at))
    ]
  ];
  now = λ i t j at is m u l there here on same. elim (were_on laws all past rest opening k qs e mid after s i t j at is) [
    | inl (old, was, at_old, is_old, place, session) ↦ (elim (Contains-push_cases past (moment k e) m there) [
      | inl past_ ↦ h.now i old was at_old is_old m u l past_ here on (same ∙ sym place) ∙ session
      | inr new ↦ ap (λ (z : Seat). z.session) (some_is u old (sym here ∙ ap (λ (z : Moment). numbered z.before.seats i) (sym new) ∙ at_old)) ∙ session
    ])
    | inr begins ↦ (elim (Contains-push_cases past (moment k e) m there) [
      | inl past_ ↦ let o = h.begun m i u l past_ here on in unbegun l.place o.0 o.1 (same ∙ begins)
      | inr new ↦ let of = has i u l (ap (λ (z : Moment). numbered z.before.seats i) new ∙ here) on in unbegun l.place of.0 of.1 (same ∙ begins)
    ])
  ];
  begun = λ m i t j there at is. elim (Contains-push_cases past (moment k e) m there) [
    | inl old ↦ let o = h.begun m i t j old at is in stays j.place o.0 o.1
    | inr new ↦ let of = has i t j (ap (λ (z : Moment). numbered z.before.seats i) new ∙ at) is in stays j.place of.0 of.1
  ];
}
  where
    has : (i : ℕ) (t : Seat) (j : Job) → numbered k.seats i ≡ Some t → job t ≡ Some j → (o : Op) × (slice_get k.ops j.place ≡ Some o)
    has i t j at is = let of = (s.kept.seats i t at).task j is in (of.op, of.there)

    stays : (p : ℕ) (o : Op) → slice_get k.ops p ≡ Some o → (r : Op) × (slice_get (happens k e).core.ops p ≡ Some r)
    stays p o at = let r = stays_in (book_at opening k all) k qs e (happens k e).core.ops s.kept (ops_after_event laws all past rest opening k qs e mid after s).0 p o at in (r.0, r.1)

    unbegun : {A : Type 0} (p : ℕ) (o : Op) → slice_get k.ops p ≡ Some o → p ≡ length k.ops → A
    unbegun p o at is = let lt = within k.ops p o at in absurd (omega (arith, lt, is))

pub carried_one_session : FitLaws → Carried (λ all past opening k qs. OneSession past k)
carried_one_session laws = record {
  first = λ all opening tree count kept. record {
    each = λ m i s j there. (let lt = there.1 in absurd (omega (arith, lt)));
    now = λ i s j at is m t l there. (let lt = there.1 in absurd (omega (arith, lt)));
    begun = λ m i s j there. (let lt = there.1 in absurd (omega (arith, lt)));
  };
  steps = λ all past rest opening k qs e mid after s h. one_event laws all past rest opening k qs e mid after s h;
  adjusts = λ all past opening k qs index seats same h. record {
    each = h.each;
    now = λ i s j at is m t l there here on place. (let z = same.was i s at in h.now i z.0 j z.3 (ap job (sym z.4) ∙ is) m t l there here on place ∙ ap (λ (y : Seat). y.session) (sym z.4));
    begun = h.begun;
  };
}
