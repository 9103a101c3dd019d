-- A run carries where notes of leases come from: each was set by an answer to a call that went out at a reading that is known. And a RECALL is answered.
use Rattle.std.proofs.Common.{◌≡◌, ◌⊎◌, inl, inr, ℕ, zero, suc, ◌+◌, ◌≤◌, List, [], ◌∷◌, ◌++◌, length, Option, Some, None, Result, Ok, Bool, true, false, refl, sym, ap, ◌∙◌, subst, arith, eqb-true, eq-eqb}
use Rattle.std.specs.Prelude.{◌||◌}
use Rattle.xdr_codec.specs.Handle.{handle_bytes}
use Rattle.xdr_codec.specs.declared.answer.Answer.TheVariants.{Done}
use Rattle.hash_calls.specs.declared.message.Back.TheVariants as back
use Rattle.hash_calls.specs.declared.message.Lb.TheVariants as lb
use Rattle.wire.specs.declared.fault.WireFault.{WireFault}
use Rattle.wire.specs.declared.message.Body.{Body}
use Rattle.wire.specs.declared.message.Body.TheVariants as body
use Rattle.wire.specs.declared.message.Message.{Message}
use Rattle.wire.specs.declared.message.Message.TheVariants as message
use Rattle.client_cache.specs.Cache.{Entries, kept_of, without_note}
use Rattle.client_cache.specs.declared.kept.Kept.{Kept}
use Rattle.client_cache.specs.declared.kept.Note.{Note}
use Rattle.client_state.specs.State as client
use Rattle.client_state.specs.State.{pending_in, has_call}
use Rattle.client_state.specs.declared.noting.Granted.{Granted}
use Rattle.client_state.specs.declared.step.ClientStep.{ClientStep}
use Rattle.client_state.specs.declared.task.Stage.{Stage}
use Rattle.client_state.specs.declared.task.Stage.TheVariants as stage
use Rattle.client_state.specs.declared.task.Task.{Task}
use Rattle.open_close.specs.Step.{command_step, got_step, lease_in, recalls}
use Rattle.client_state.specs.Noting.{at as clock_at}
use Rattle.client_state.specs.Ending.{joined, cut as cut_off}
use Rattle.trace_ends.specs.Core.{cuts_if, hears_at, hears_if}
use Rattle.trace_replay.specs.Notes.{note_in, note_of, granted_by, handle_asked, IsNoted, NotesCome, AnswersRecall}
use Rattle.trace_replay.specs.Saving.{reading_at}
use Rattle.trace_replay.specs.Trail.{owner_in, wanted_if}
use Rattle.kept_promise.proofs.Common.{Contains, Contains-append_left, Contains-append_right, Contains-push, Contains-push_cases, Command, Core, CoreStep, Seat, Event, Event.Joins, Event.Does, Event.Hears, Event.Cuts, happens, does, hears, acted, place_with, place_after, new_seat, Tree, numbered, with_numbered, is_newest, Moment, step_of, client_of, Book, Queue, Opening, told_message, reply_body}
use Rattle.kept_promise.proofs.Actors.{Heard, heard_acts, heard_takes}
use Rattle.kept_promise.proofs.Adjusts.{SameSeats}
use Rattle.kept_promise.proofs.Claimed.{leasing_xid}
use Rattle.kept_promise.proofs.ClaimHears.{closes_small}
use Rattle.kept_promise.proofs.EventCases.{joins_now, event_turns}
use Rattle.kept_promise.proofs.Facts.{IsKept}
use Rattle.kept_promise.proofs.Fits.{FitLaws}
use Rattle.kept_promise.proofs.Lists.{some_is, nothing_there, of_replicate}
use Rattle.kept_promise.proofs.NoteSteps.{HadNote, NewNote, StepKeeps, command_keeps, told_keeps, until_is, unnoted_own}
use Rattle.kept_promise.proofs.lemmas.Owners.{happens_header}
use Rattle.kept_promise.proofs.RunsCarried.{book_at, moment, Header, first_core, Step, Carried}
use Rattle.kept_promise.proofs.Turns.{around_with}
use Rattle.kept_promise.proofs.Versions.{of_numbered}

-- ---- a RECALL is answered

newest_same : (o : Option ℕ) (n : ℕ) → is_newest o n ≡ true → o ≡ Some n
newest_same None n e = absurd cc
newest_same (Some m) n e = ap (λ (z : ℕ). Some z) (eqb-true m n e)

unnoted_none : (es : Entries) (f : ℕ) → note_in (kept_of (without_note es f) f) ≡ None
unnoted_none es f = by (kept_of (without_note es f) f) refl
  where
    of : (e : Kept) → kept_of (without_note es f) f ≡ Some e → (o : Option Note) → e.note ≡ o → o ≡ None
    of e at None is = refl
    of e at (Some n) is = absurd (unnoted_own es f e n at is)

    by : (o : Option Kept) → kept_of (without_note es f) f ≡ o → note_in o ≡ None
    by None at = refl
    by (Some e) at = of e at e.note refl

pub answers_recall : (m : Moment) → AnswersRecall m
answers_recall m session now xid bytes handle x seat is at here newest read = record {
  on = ap (λ (t : CoreStep). t.session) turned ∙ newest_same seat.session session newest;
  says = ap (λ (t : CoreStep). t.up) turned;
  forgets = λ file named.
      ap (λ (t : CoreStep). note_of (numbered t.core.seats x.owner) file) turned
      ∙ ap (λ (o : Option Seat). note_of o file) (around_with m.before.seats x.owner seat next here).there
      ∙ ap (λ (o : Option ℕ). note_in (kept_of (recalls (clock_at seat.client now) o).cache file)) named
      ∙ unnoted_none seat.client.cache file;
}
  where
    r : client.State × ClientStep
    r = got_step seat.client (Ok (message.Call xid (body.Back (back.Recall handle)))) now

    next : Seat
    next = record seat { client = r.0; place = place_after seat.place r.1.ended }

    turned : happens m.before m.event ≡ acted m.before x.owner seat r.0 r.1
    turned =
        ap (happens m.before) is
        ∙ ap (hears m.before session now bytes) at
        ∙ ap (hears_at m.before session x.owner now bytes) here
        ∙ ap (hears_if m.before x.owner now seat bytes) newest
        ∙ ap (λ (g : Result Message WireFault). acted m.before x.owner seat (got_step seat.client g now).0 (got_step seat.client g now).1) read

-- ---- notes of a client

noted_kept : (o : Option Seat) (f : ℕ) (n : Note) → note_of o f ≡ Some n → (z : Seat) × (e : Kept) × (o ≡ Some z) × (kept_of z.client.cache f ≡ Some e) × (e.note ≡ Some n)
noted_kept None f n is = nothing_there n is
noted_kept (Some z) f n is = by (kept_of z.client.cache f) refl is
  where
    by : (o : Option Kept) → kept_of z.client.cache f ≡ o → note_in o ≡ Some n → (y : Seat) × (e : Kept) × (Some z ≡ Some y) × (kept_of y.client.cache f ≡ Some e) × (e.note ≡ Some n)
    by None at is = nothing_there n is
    by (Some e) at is = (z, e, refl, at, is)

kept_noted : (o : Option Seat) (z : Seat) (f : ℕ) (e : Kept) (n : Note) → o ≡ Some z → kept_of z.client.cache f ≡ Some e → e.note ≡ Some n → note_of o f ≡ Some n
kept_noted o z f e n there at is = ap (λ (s : Option Seat). note_of s f) there ∙ ap note_in at ∙ is

lease_granted : (st : Stage) (b : Body) (g : Granted) → lease_in st b ≡ Some g → granted_by b ≡ Some g
lease_granted (stage.Asking y) (body.Lb (lb.GetLeaseAnswer (Done l))) g e = e
lease_granted (stage.Rewriting y) (body.Lb (lb.GetLeaseAnswer (Done l))) g e = e
lease_granted (stage.Hashing tries y) (body.Lb (lb.GetHashAnswer (Done h))) g e = e
lease_granted (stage.Listing y f) (body.Lb (lb.GetHashAnswer (Done h))) g e = e
lease_granted (stage.Committing y) (body.Lb (lb.CommitTmpAnswer (Done c))) g e = e
lease_granted st b g e = nothing_there g e

-- the call that may bring a lease is waited for
lease_pending : (st : Stage) (x : ℕ) → leasing_xid st ≡ Some x → has_call (pending_in st) x ≡ true
lease_pending (stage.Asking y) x e = ap (λ (b : Bool). b || false) (eq-eqb y x (some_is y x e))
lease_pending (stage.Rewriting y) x e = ap (λ (b : Bool). b || false) (eq-eqb y x (some_is y x e))
lease_pending (stage.Hashing tries y) x e = ap (λ (b : Bool). b || false) (eq-eqb y x (some_is y x e))
lease_pending (stage.Listing y f) x e = ap (λ (b : Bool). b || false) (eq-eqb y x (some_is y x e))
lease_pending (stage.Committing y) x e = ap (λ (b : Bool). b || false) (eq-eqb y x (some_is y x e))
lease_pending st x e = nothing_there x e

-- ---- what is carried

-- by a step of its own, up to this one, a client sent the call on the file, at this reading of its clock
pub record WasAsked (past : List Moment) (steps i : ℕ) (session : Option ℕ) (sent file xid : ℕ) : Type 0 where
  pub moment : Moment
  pub there : Contains past moment
  pub by : step_of moment ≤ steps
  pub on : (happens moment.before moment.event).session ≡ session
  pub own : client_of moment.before moment.event ≡ i
  pub call : Body
  pub names : handle_asked call ≡ Some (handle_bytes file)
  pub sends : Contains (happens moment.before moment.event).up (message.Call xid call)
  pub reads : reading_at moment.event ≡ sent

abbrev pub HasAsked : List Moment → (steps i : ℕ) → Seat → Type 0
HasAsked past steps i seat = (t : Task) (x : ℕ) → seat.client.task ≡ Some t → leasing_xid t.stage ≡ Some x → WasAsked past steps i seat.session seat.client.sent t.file x

pub record NotesAt (past : List Moment) (k : Core) : Type 0 where
  pub drift : (i : ℕ) (seat : Seat) → numbered k.seats i ≡ Some seat → seat.client.drift ≡ k.drift
  pub asked : (i : ℕ) (seat : Seat) → numbered k.seats i ≡ Some seat → HasAsked past k.steps i seat
  pub come : (m : Moment) → Contains past m → NotesCome past m

asked_more : (past : List Moment) (m : Moment) (steps after i : ℕ) (session : Option ℕ) (sent file xid : ℕ) → steps ≤ after → WasAsked past steps i session sent file xid → WasAsked (past ++ m ∷ []) after i session sent file xid
asked_more past m steps after i session sent file xid le w = record {
  moment = w.moment;
  there = Contains-append_left past (m ∷ []) w.moment w.there;
  by = (let lt = w.by in omega (arith, lt, le));
  on = w.on;
  own = w.own;
  call = w.call;
  names = w.names;
  sends = w.sends;
  reads = w.reads;
}

come_more : (past : List Moment) (e m : Moment) → NotesCome past m → NotesCome (past ++ e ∷ []) m
come_more past e m h c f n is = elim (h c f n is) [
  | inl old ↦ inl old
  | inr new ↦ inr (record {
    session = new.session;
    now = new.now;
    bytes = new.bytes;
    event_is = new.event_is;
    xid = new.xid;
    told = new.told;
    taken = new.taken;
    granted = new.granted;
    tells = new.tells;
    version_is = new.version_is;
    call = new.call;
    names = new.names;
    sent = record { moment = new.sent.moment; there = Contains-append_left past (e ∷ []) new.sent.moment new.sent.there; before = new.sent.before; on = new.sent.on; sent = new.sent.sent };
    own = new.own;
    ends = new.ends;
  })
]

-- ---- one event

-- what it leaves of it, and where its notes come from
record NotesGo (past : List Moment) (k : Core) (e : Event) (t : CoreStep) : Type 0 where
  pub drift : (i : ℕ) (seat : Seat) → numbered t.core.seats i ≡ Some seat → seat.client.drift ≡ k.drift
  pub asked : (i : ℕ) (seat : Seat) → numbered t.core.seats i ≡ Some seat → HasAsked (past ++ moment k e ∷ []) t.core.steps i seat
  pub come : (i f : ℕ) (n : Note) → note_of (numbered t.core.seats i) f ≡ Some n → (note_of (numbered k.seats i) f ≡ Some n) ⊎ IsNoted past (moment k e) i f n

module _ (past : List Moment) (k : Core) (h : NotesAt past k) where
  -- a client that does nothing
  rests : (e : Event) (after i : ℕ) (z : Seat) → k.steps ≤ after → numbered k.seats i ≡ Some z → HasAsked (past ++ moment k e ∷ []) after i z
  rests e after i z le at t x task lease = asked_more past (moment k e) k.steps after i z.session z.client.sent t.file x le (h.asked i z at t x task lease)

  idle_go : (e : Event) (t : CoreStep) → k.steps ≤ t.core.steps → SameSeats k.seats t.core.seats → NotesGo past k e t
  idle_go e t le same = record {
    drift = λ i d at. (let w = same.was i d at in ap (λ (z : Seat). z.client.drift) w.4 ∙ h.drift i w.0 w.3);
    asked = λ i d at. (let w = same.was i d at in subst (HasAsked (past ++ moment k e ∷ []) t.core.steps i) (sym w.4) (rests e t.core.steps i w.0 le w.3));
    come = λ i f n is.
        (let o = noted_kept (numbered t.core.seats i) f n is in
        let w = same.was i o.0 o.2 in
        let g = w.5 f o.1 n (ap (λ (z : Seat). kept_of z.client.cache f) (sym w.4) ∙ o.3) o.4 in
        inl (kept_noted (numbered k.seats i) w.0 f g.0 n w.3 g.1 g.2));
  }

  -- a client alone does something, in a step of its own
  module _ (c : ℕ) (seat next : Seat) (here : numbered k.seats c ≡ Some seat) (e : Event) (t : CoreStep) (seats : t.core.seats ≡ with_numbered k.seats c next) (steps : k.steps ≤ t.core.steps) where
    one_go : next.client.drift ≡ seat.client.drift → HasAsked (past ++ moment k e ∷ []) t.core.steps c next
        → ((f : ℕ) (x : Kept) (n : Note) → kept_of next.client.cache f ≡ Some x → x.note ≡ Some n → HadNote seat.client.cache f n ⊎ IsNoted past (moment k e) c f n) → NotesGo past k e t
    one_go drift asks notes = record {
      drift = λ i d at. elim (at_ i d at) [
        | inl mine ↦ ap (λ (z : Seat). z.client.drift) mine.1 ∙ drift ∙ h.drift c seat here
        | inr other ↦ h.drift i d other.1
      ];
      asked = λ i d at. elim (at_ i d at) [
        | inl mine ↦ subst (λ (j : ℕ). HasAsked (past ++ moment k e ∷ []) t.core.steps j d) (sym mine.0) (subst (HasAsked (past ++ moment k e ∷ []) t.core.steps c) (sym mine.1) asks)
        | inr other ↦ rests e t.core.steps i d steps other.1
      ];
      come = λ i f n is. by i f n (noted_kept (numbered t.core.seats i) f n is);
    }
      where
        at_ : (i : ℕ) (d : Seat) → numbered t.core.seats i ≡ Some d → ((i ≡ c) × (d ≡ next)) ⊎ ((i ≡ c → ⊥) × (numbered k.seats i ≡ Some d))
        at_ i d at = of_numbered k.seats c next i d (ap (λ (l : List Seat). numbered l i) (sym seats) ∙ at)

        by : (i f : ℕ) (n : Note) → (z : Seat) × (x : Kept) × (numbered t.core.seats i ≡ Some z) × (kept_of z.client.cache f ≡ Some x) × (x.note ≡ Some n) → (note_of (numbered k.seats i) f ≡ Some n) ⊎ IsNoted past (moment k e) i f n
        by i f n (z, x, at, kept, is) = elim (at_ i z at) [
          | inl mine ↦ elim (notes f x n (ap (λ (y : Seat). kept_of y.client.cache f) (sym mine.1) ∙ kept) is) [
            | inl had ↦ inl (kept_noted (numbered k.seats i) seat f had.entry n (ap (numbered k.seats) mine.0 ∙ here) had.there had.noted)
            | inr new ↦ inr (subst (λ (j : ℕ). IsNoted past (moment k e) j f n) (sym mine.0) new)
          ]
          | inr other ↦ inl (kept_noted (numbered k.seats i) z f x n other.1 kept is)
        ]

    -- the call that it waits for went out before, or goes out now
    acts_asked : (now : ℕ) (acts : ClientStep) (New : (f : ℕ) → Note → Type 0) → StepKeeps now seat.client (next.client, acts) New → next.session ≡ seat.session → happens k e ≡ t → t.session ≡ seat.session → t.up ≡ acts.send → client_of k e ≡ c → reading_at e ≡ now → k.steps + 1 ≤ t.core.steps → HasAsked (past ++ moment k e ∷ []) t.core.steps c next
    acts_asked now acts New keeps same turned on up own reads late u x task lease = elim (keeps.sent u x task lease) [
      | inl new ↦
          let sends = new.2 in
          record {
            moment = moment k e;
            there = Contains-append_right past (moment k e ∷ []) (moment k e) (Contains-push [] (moment k e));
            by = late;
            on = ap (λ (z : CoreStep). z.session) turned ∙ on ∙ sym same;
            own = own;
            call = sends.0;
            names = sends.1;
            sends = subst (λ (ms : List Message). Contains ms (message.Call x sends.0)) (sym (ap (λ (z : CoreStep). z.up) turned ∙ up)) sends.2;
            reads = reads ∙ sym new.1;
          }
      | inr old ↦
          subst (λ (o : Option ℕ). WasAsked (past ++ moment k e ∷ []) t.core.steps c o next.client.sent u.file x) (sym same)
          (subst (λ (s : ℕ). WasAsked (past ++ moment k e ∷ []) t.core.steps c seat.session s u.file x) (sym old.1)
          (rests e t.core.steps c seat steps here u x old.0 lease))
    ]

  -- a client that has nothing under way
  none_asked : (e : Event) (after i : ℕ) (z : Seat) → z.client.task ≡ None → HasAsked (past ++ moment k e ∷ []) after i z
  none_asked e after i z none t x task lease = nothing_there t (sym none ∙ task)

  begins_go : (c now : ℕ) (d : Command) (seat : Seat) → numbered k.seats c ≡ Some seat → NotesGo past k (Does c now d) (does k c now d (Some seat))
  begins_go c now d seat here =
      let t : CoreStep = does k c now d (Some seat) in
      let r = command_step seat.client d now in
      let next : Seat = record seat { client = r.0; place = place_with seat.place (length k.ops) r.1.ended } in
      let keeps = command_keeps seat.client d now in
      one_go c seat next here (Does c now d) t refl (omega arith) keeps.drift
      (acts_asked c seat next here (Does c now d) t refl (omega arith) now r.1 (λ f n. ⊥) keeps refl (ap (does k c now d) here) refl refl refl refl (omega arith))
      (λ f x n at is. elim (keeps.notes f x n at is) [ inl had ↦ inl had | inr new ↦ absurd new ])

  hears_go : FitLaws → (book : Book) (qs : List Queue) (n now : ℕ) (bytes : List ℕ) (mid : List Queue) → IsKept book k qs → (w : Heard k qs n now bytes mid) → (let r = got_step w.seat.client (Ok (told_message w.told)) now in NotesGo past k (Hears n now bytes) (acted k w.session.owner w.seat r.0 r.1))
  hears_go laws book qs n now bytes mid kept w =
      one_go i w.seat next w.owner e t refl (omega arith) keeps.drift
      (acts_asked i w.seat next w.owner e t refl (omega arith) now r.1 (NewNote w.seat.client w.told) keeps refl (heard_acts laws book k qs n now bytes mid kept w) refl refl (ap owner_in w.at) refl (omega arith))
      (λ f x note at is. elim (keeps.notes f x note at is) [ inl had ↦ inl had | inr new ↦ inr (fresh f note new) ])
    where
      i : ℕ
      i = w.session.owner

      e : Event
      e = Hears n now bytes

      r : client.State × ClientStep
      r = got_step w.seat.client (Ok (told_message w.told)) now

      next : Seat
      next = record w.seat { client = r.0; place = place_after w.seat.place r.1.ended }

      t : CoreStep
      t = acted k i w.seat r.0 r.1

      keeps : StepKeeps now w.seat.client r (NewNote w.seat.client w.told)
      keeps = told_keeps w.seat.client w.told now (closes_small book k qs i w.seat n w.session w.queue kept w.owner w.at refl w.uncut w.queue_is)

      fresh : (f : ℕ) (note : Note) → NewNote w.seat.client w.told f note → IsNoted past (moment k e) i f note
      fresh f note new =
          let was = h.asked i w.seat w.owner new.task w.told.xid new.task_is new.awaits in
          let until = until_is w.seat.client.sent new.granted.term w.seat.client.drift note.until new.until in
          let waits : has_call (client.pending w.seat.client.task) w.told.xid ≡ true = ap (λ (o : Option Task). has_call (client.pending o) w.told.xid) new.task_is ∙ lease_pending new.task.stage w.told.xid new.awaits in
          let takes = heard_takes laws book k qs n now bytes mid kept w ∙ ap (λ (b : Bool). wanted_if b (message.Answer w.told.xid (reply_body w.told.reply))) waits in
          let by = was.by in
          record {
            session = n;
            now = now;
            bytes = bytes;
            event_is = refl;
            xid = w.told.xid;
            told = reply_body w.told.reply;
            taken = subst (λ (ms : List Message). Contains ms (message.Answer w.told.xid (reply_body w.told.reply))) (sym takes) (Contains-push [] (message.Answer w.told.xid (reply_body w.told.reply)));
            granted = new.granted;
            tells = lease_granted new.task.stage (reply_body w.told.reply) new.granted new.lease;
            version_is = new.version;
            call = was.call;
            names = was.names ∙ ap (λ (g : ℕ). Some (handle_bytes g)) new.file;
            sent = record { moment = was.moment; there = was.there; before = omega (arith, by); on = was.on ∙ w.newest; sent = was.sends };
            own = was.own;
            ends = ap (λ (d : ℕ). note.until + d) (sym (h.drift i w.seat w.owner)) ∙ until.1 ∙ ap (λ (s : ℕ). s + new.granted.term) (sym was.reads);
          }

  event_go : FitLaws → {all rest : List Moment} {opening : List Opening} {qs : List Queue} (e : Event) {mid after : List Queue} → Step all past rest opening k qs e mid after → NotesGo past k e (happens k e)
  event_go laws {all = all} {rest = rest} {opening = opening} {qs = qs} e {mid = mid} {after = after} s = event_turns laws all past rest opening k qs e mid after s (NotesGo past k) (record {
    idle = λ t i. idle_go e t i.still.passes i.seats;
    joins = λ c seat is step here still.
        (let next : Seat = record { client = joined seat.client; session = Some (k.server.sessions_made + 1); place = seat.place } in
        let free = step.finds in
        let off = ap (λ (z : Seat). z.client.linked) (some_is seat free.0 (sym here ∙ free.1)) ∙ free.2 in
        one_go c seat next here (Joins c) (joins_now k c seat) refl (omega arith) refl (none_asked (Joins c) (joins_now k c seat).core.steps c next ((step.kept.seats c seat here).unlinked off).0) (λ f x n at is. inl (record { entry = x; there = at; noted = is })));
    begins = λ c now d seat step here small left. begins_go c now d seat here;
    hears = λ n now bytes step w left. hears_go laws (book_at opening k all) qs n now bytes mid step.kept w;
    lost = λ c seat step here left.
        (let next : Seat = record seat { client = (cut_off seat.client).0; place = place_after seat.place (cut_off seat.client).1.ended } in
        one_go c seat next here (Cuts c) (cuts_if k c seat true) refl (omega arith) refl (none_asked (Cuts c) (k.steps + 1) c next refl) (λ f x n at is. inl (record { entry = x; there = at; noted = is })));
  })

-- ---- the induction

abbrev pub AllNotes : (all past : List Moment) → List Opening → Core → List Queue → Type 0
AllNotes all past opening k qs = NotesAt past k

pub carried_notes : FitLaws → Carried AllNotes
carried_notes laws = record {
  first = λ all opening tree header kept. record {
    drift = λ i seat at. ap (λ (z : Seat). z.client.drift) (new_at header tree i seat at);
    asked = λ i seat at u x task lease. nothing_there u (sym (ap (λ (z : Seat). z.client.task) (new_at header tree i seat at)) ∙ task);
    come = λ m there. (let lt = there.1 in absurd (omega (arith, lt)));
  };
  steps = λ all past rest opening k qs e mid after s h.
      let go = event_go past k h laws e s in
      let same = ap (λ (p : ℕ × ℕ). p.1) (happens_header k e) in
      record {
        drift = λ i seat at. go.drift i seat at ∙ sym same;
        asked = go.asked;
        come = λ m there. elim (Contains-push_cases past (moment k e) m there) [
          | inl old ↦ come_more past (moment k e) m (h.come m old)
          | inr new ↦ come_more past (moment k e) m (subst (NotesCome past) new (λ i f n is. go.come i f n is))
        ];
      };
  adjusts = λ all past opening k qs index seats same h. record {
    drift = λ i d at. (let w = same.was i d at in ap (λ (z : Seat). z.client.drift) w.4 ∙ h.drift i w.0 w.3);
    asked = λ i d at. (let w = same.was i d at in subst (HasAsked past k.steps i) (sym w.4) (h.asked i w.0 w.3));
    come = h.come;
  };
}
  where
    new_at : (header : Header) (tree : Tree) (i : ℕ) (seat : Seat) → numbered (first_core tree header).seats i ≡ Some seat → seat ≡ new_seat header.drift header.lbfs
    new_at header tree i seat at = by i at
      where
        by : (i : ℕ) → numbered (first_core tree header).seats i ≡ Some seat → seat ≡ new_seat header.drift header.lbfs
        by zero e = nothing_there seat e
        by (suc j) e = of_replicate header.count (new_seat header.drift header.lbfs) j seat e
