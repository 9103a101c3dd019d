-- A run carries that whatever a client sends or takes is for an operation that it has under way.
use Rattle.std.proofs.Common.{◌⊎◌, inl, inr, ◌≡◌, ℕ, ◌+◌, ◌≤◌, List, [], ◌∷◌, ◌++◌, length, Option, Some, None, Bool, true, false, Ok, refl, sym, ap, ◌∙◌, subst, arith}
use Rattle.client_state.specs.Noting.{at as at_clock}
use Rattle.client_state.specs.State as client
use Rattle.trace_ends.specs.Session.{taken_of as session_taken}
use Rattle.trace_replay.specs.Traffic.{IsFor}
use Rattle.file_open.specs.Looking.{reading}
use Rattle.trace_replay.specs.Trail.{given_in, given_by_message}
use Rattle.kept_promise.proofs.Common.{Contains-push_cases, slice_get, slice_set, Contains, command_step, got_step, got_message, drops, ClientStep, Task, Op, Opening, word_of, file_of, value_at_begin, TakenCall, op_after, Core, Event, Event.Hears, CoreStep, numbered, session_of, ops_after, ops_with, acted, happens, Moment, calls_in, asked_in, step_of, client_of, owner_in, wanted_if, wanted_by, taken_by, given_by, is_in, deals_with, Book, Queue, told_message}
use Rattle.kept_promise.proofs.Lists.{at_end, at_replaced}
use Rattle.kept_promise.proofs.Fits.{FitLaws}
use Rattle.kept_promise.proofs.Facts.{IsKept, IsMatched}
use Rattle.kept_promise.proofs.RunsCarried.{book_at, moment, Step, Carried}
use Rattle.kept_promise.proofs.Counted.{IsActor, running_now}
use Rattle.kept_promise.proofs.Actors.{job_place, acts_alone, Heard, heard_acts, heard_takes, heard_gives}
use Rattle.kept_promise.proofs.CommandOps.{made_by}
use Rattle.kept_promise.proofs.OpsAfter.{StayIn, ops_after_event, stays_in}
use Rattle.kept_promise.proofs.Logs.{IsSilent}
use Rattle.kept_promise.proofs.Found.{command_finds}
use Rattle.kept_promise.proofs.EventCases.{cuts_silent, event_cases}
use Rattle.kept_promise.proofs.OpFacts.{is_new}

-- ---- what is carried

-- a client has one of these under way in a moment's step
abbrev HasOp : List Op → Moment → Type 0
HasOp ops m = (k : ℕ) × (o : Op) × (slice_get ops k ≡ Some o) × (is_in o (step_of m) (client_of m.before m.event) ≡ true)

pub record AreOwned (past : List Moment) (step : ℕ) (ops : List Op) : Type 0 where
  pub by : (m : Moment) → Contains past m → (step_of m ≤ step) ⊎ IsSilent m
  pub each : (m : Moment) → Contains past m → IsSilent m ⊎ HasOp ops m

owned_more : (past : List Moment) (m : Moment) (n k : ℕ) (ops after : List Op) → n ≤ k → (step_of m ≤ k) ⊎ IsSilent m → IsSilent m ⊎ HasOp after m → StayIn n ops after → AreOwned past n ops → AreOwned (past ++ m ∷ []) k after
owned_more past m n k ops after le now owned stay h = record {
  by = λ z there. elim (Contains-push_cases past m z there) [
    | inl old ↦ elim (h.by z old) [ inl lt ↦ inl (omega (arith, le, lt)) | inr silent ↦ inr silent ]
    | inr new ↦ subst (λ (z : Moment). (step_of z ≤ k) ⊎ IsSilent z) new now
  ];
  each = λ z there. elim (Contains-push_cases past m z there) [
    | inl old ↦ still z (h.by z old) (h.each z old)
    | inr new ↦ subst (λ (z : Moment). IsSilent z ⊎ HasOp after z) new owned
  ];
}
  where
    still : (z : Moment) → (step_of z ≤ n) ⊎ IsSilent z → IsSilent z ⊎ HasOp ops z → IsSilent z ⊎ HasOp after z
    still z (inr silent) was = inl silent
    still z (inl lt) (inl silent) = inl silent
    still z (inl lt) (inr (p, o, at, is)) = let r = stay p o at in inr (p, r.0, r.1, r.2 (step_of z) (client_of z.before z.event) lt ∙ is)

-- ---- what is said at an event
abbrev OwnedAt : List Moment → Core → Type 0
OwnedAt past k = AreOwned past k.steps k.ops

-- ---- a command, and an answer

-- nothing is said, or it is for an operation of the client
abbrev Says : Moment → Core → Type 0
Says m after = IsSilent m ⊎ ((step_of m ≤ after.steps) × HasOp after.ops m)

says_hears : FitLaws → (book : Book) (k : Core) (qs : List Queue) (n now : ℕ) (bytes : List ℕ) (mid : List Queue) → IsKept book k qs → (h : Heard k qs n now bytes mid) → (let r = got_step h.seat.client (Ok (told_message h.told)) now in Says (moment k (Hears n now bytes)) (acted k h.session.owner h.seat r.0 r.1).core)
says_hears fits book k qs n now bytes mid kept h =
    by (kept.seats h.session.owner h.seat h.owner).matched
  where
    r : client.State × ClientStep
    r = got_step h.seat.client (Ok (told_message h.told)) now

    taken : List TakenCall
    taken = session_taken (session_of k.sessions h.seat.session)

    actor : IsActor k.ops h.session.owner h.seat.place k.steps
    actor = acts_alone book k qs h.session.owner h.seat kept h.owner

    turned : happens k (Hears n now bytes) ≡ acted k h.session.owner h.seat (got_step h.seat.client (Ok (told_message h.told)) now).0 (got_step h.seat.client (Ok (told_message h.told)) now).1
    turned = heard_acts fits book k qs n now bytes mid kept h

    owner : owner_in (numbered k.sessions n) ≡ h.session.owner
    owner = ap owner_in h.at

    -- a client with nothing under way waits for nothing
    dropped : (b : Bool) → (drops (at_clock h.seat.client now) None h.told.xid b).1.send ≡ []
    dropped true = refl
    dropped false = refl

    idle_sends : h.seat.client.task ≡ None → (got_step h.seat.client (Ok (told_message h.told)) now).1.send ≡ []
    idle_sends none = ap (λ (t : Option Task). (got_message (at_clock h.seat.client now) t (told_message h.told)).1.send) none ∙ dropped (client.has_call h.seat.client.forgotten h.told.xid)

    idle_takes : h.seat.client.task ≡ None → wanted_by h.seat.client (Ok (told_message h.told)) ≡ []
    idle_takes none = ap (λ (t : Option Task). wanted_if (client.has_call (client.pending t) h.told.xid) (told_message h.told)) none

    -- and is given nothing
    idle_gives : h.seat.client.task ≡ None → given_by_message h.seat.client (Ok (told_message h.told)) ≡ []
    idle_gives none = ap (λ (t : Option Task). given_in h.seat.client (reading t (told_message h.told))) none

    by : IsMatched h.seat → IsSilent (moment k (Hears n now bytes)) ⊎ ((step_of (moment k (Hears n now bytes)) ≤ k.steps + 1) × HasOp (ops_with k.ops h.seat.place (got_step h.seat.client (Ok (told_message h.told)) now).0 (session_taken (session_of k.sessions h.seat.session)) (k.steps + 1) (got_step h.seat.client (Ok (told_message h.told)) now).1) (moment k (Hears n now bytes)))
    by (inl m) = inl (
      ap (λ i. taken_by k i (Hears n now bytes)) owner ∙ heard_takes fits book k qs n now bytes mid kept h ∙ idle_takes m.1,
      ap (λ i. given_by k i (Hears n now bytes)) owner ∙ heard_gives fits book k qs n now bytes mid kept h ∙ idle_gives m.1,
      ap (λ (t : CoreStep). calls_in t.up) turned ∙ ap calls_in (idle_sends m.1),
    )
    by (inr m) =
        let of = (kept.seats h.session.owner h.seat h.owner).task m.0 m.1 in
        let place = job_place h.seat.place h.seat.client.task m.0 m.1 in
        let there : slice_get k.ops m.0.place ≡ Some of.op = ap (λ (l : List Op). slice_get l m.0.place) (sym kept.ops) ∙ of.there in
        let own = actor.own m.0.place of.op place there in
        let new : Op = op_after of.op r.0 taken (k.steps + 1) r.1 in
        let ops_are : ops_with k.ops h.seat.place r.0 taken (k.steps + 1) r.1 ≡ slice_set k.ops m.0.place new = ap (λ l. ops_with k.ops l r.0 taken (k.steps + 1) r.1) place ∙ ap (λ l. ops_after k.ops m.0.place l r.0 taken (k.steps + 1) r.1) there in
        inr (omega arith, (m.0.place, new, ap (λ (l : List Op). slice_get l m.0.place) ops_are ∙ at_replaced k.ops m.0.place new of.op there, ap (is_in new (k.steps + 1)) owner ∙ running_now of.op r.0 taken k.steps h.session.owner r.1 own.0 own.1 own.2))

-- ---- any event

says : FitLaws → (all past rest : List Moment) (opening : List Opening) (k : Core) (qs : List Queue) (e : Event) (mid after : List Queue) → Step all past rest opening k qs e mid after → Says (moment k e) (happens k e).core
says fits all past rest opening k qs e mid after s = event_cases fits all past rest opening k qs e mid after s (λ e t. Says (moment k e) t.core) (record {
  still = λ t still. inl still.silent;
  begins = λ c now d seat s here small left.
      (let r = command_step seat.client d now in
      let new : Op = made_by k c now d seat r.0 r.1 in
      inr (omega arith, (length k.ops, new, at_end k.ops new, (is_new c d (value_at_begin seat.client (word_of d) (file_of d) r.1.ended) (k.steps + 1) r.0 r.1 (command_finds seat.client d now small)).here)));
  hears = λ n now bytes s w left. says_hears fits (book_at opening k all) k qs n now bytes mid s.kept w;
  lost = λ c seat s here. inl (cuts_silent k c);
})

abbrev pub AllOwned : (all past : List Moment) → List Opening → Core → List Queue → Type 0
AllOwned all past opening k qs = OwnedAt past k

pub carried_owned : FitLaws → Carried AllOwned
carried_owned fits = record {
  first = λ all opening tree count kept. record { by = λ m there. (let lt = there.1 in absurd (omega (arith, lt))); each = λ m there. (let lt = there.1 in absurd (omega (arith, lt))) };
  steps = λ all past rest opening k qs e mid after s h.
      let w = ops_after_event fits all past rest opening k qs e mid after s in
      let said = says fits all past rest opening k qs e mid after s in
      owned_more past (moment k e) k.steps (happens k e).core.steps k.ops (happens k e).core.ops w.1 (elim said [ inl silent ↦ inr silent | inr has ↦ inl has.0 ]) (elim said [ inl silent ↦ inl silent | inr has ↦ inr has.1 ]) (stays_in (book_at opening k all) k qs e (happens k e).core.ops s.kept w.0) h;
  adjusts = λ all past opening k qs index seats same h. h;
}

-- ---- what it makes of the promise

pub is_for : (ops : List Op) (m : Moment) → IsSilent m ⊎ ((k : ℕ) × (o : Op) × (slice_get ops k ≡ Some o) × (is_in o (step_of m) (client_of m.before m.event) ≡ true)) → IsFor ops m
is_for ops m (inl silent) = inl (
    ap (λ l. deals_with l (given_by m.before (client_of m.before m.event) m.event) (asked_in m)) silent.0
    ∙ ap (λ l. deals_with [] l (asked_in m)) silent.1
    ∙ ap (deals_with [] []) silent.2
    )
is_for ops m (inr has) = inr has
