-- A step of the server in a run: claims go on, RECALLs stay apart and waited for, and what it tells of leases is promised.
use Rattle.std.proofs.Common.{◌≡◌, ◌⊎◌, inl, inr, ℕ, zero, suc, ◌<◌, ◌≤◌, List, [], ◌∷◌, length, Option, Some, None, Bool, false, refl, sym, ap, ◌∙◌, subst, arith, map, true, ◌++◌, if◌then◌else◌}
use Rattle.clock_rule.specs.declared.rule.Note.{Note as Noted}
use Rattle.wire.specs.declared.message.Message.{Message}
use Rattle.client_state.specs.declared.task.Task.{Task}
use Rattle.server_core.specs.State as server
use Rattle.server_core.specs.Step.{server_step}
use Rattle.server_core.specs.declared.event.Event.{Event}
use Rattle.lease_law.specs.Claims.{Way, Claim, IsAmong, IsClaim}
use Rattle.lease_law.specs.Orderly.{IsOrderly, AreNumbered, IsTimed, IsOnWay, sent_on, behind_with}
use Rattle.lease_law.proofs.lemmas.Ways.{safe_hung}
use Rattle.kept_promise.proofs.Common.{Core, CoreStep, Seat, Session, numbered, unless, Up, up_message, Down, Mix, Message, is_raw}
use Rattle.kept_promise.proofs.Lists.{some_is, nothing_there}
use Rattle.kept_promise.proofs.Turns.{also_numbered, numbered_within, raw_or_owned, has_owner}
use Rattle.kept_promise.proofs.Leading.{Sends, sent_downs, mixes_lost, mixes_after}
use Rattle.kept_promise.proofs.RecallsKept.{AreRecalls, AreAwaited, taken_awaited}
use Rattle.kept_promise.proofs.Claimed.{Claimed, HasClaims, IsTalking, IsPromised, AllTails, ups_of, downs_of, way_of}
use Rattle.kept_promise.proofs.ClaimWays.{downs_on, before_at, behind_unless, sent_is}
use Rattle.kept_promise.proofs.ClaimFrame.{claim_of, Goes, note_goes, tails_unless, promised_map, server_claim, server_numbers, taken_numbers, taken_claim}

-- ---- what is taken from the way up, or lost

abbrev pub Dropped : (us vs : List Message) → Type 0
Dropped us vs = (us ≡ vs) ⊎ (((m : Message) × (us ≡ m ∷ vs)) ⊎ (vs ≡ []))

claim_dropped : (s : server.State) (clock : ℕ) (c : Claim) (us vs : List Message) (cut : Bool) (behind : List Message) → Dropped us vs → IsClaim s clock c (record { ups = us; cut = cut }) behind → IsClaim s clock c (record { ups = vs; cut = cut }) behind
claim_dropped s clock c us vs cut behind (inl e) h = subst (λ (l : List Message). IsClaim s clock c (record { ups = l; cut = cut }) behind) e h
claim_dropped s clock c us vs cut behind (inr (inl d)) h = taken_claim s clock c d.0 vs cut behind (subst (λ (l : List Message). IsClaim s clock c (record { ups = l; cut = cut }) behind) d.1 h)
claim_dropped s clock c us vs cut behind (inr (inr e)) h = subst (λ (l : List Message). IsClaim s clock c (record { ups = l; cut = cut }) behind) (sym e) (h.0, safe_hung s clock c (record { ups = us; cut = cut }) behind h.1)

numbers_dropped : (s : server.State) (n : ℕ) (us vs downs : List Message) → Dropped us vs → AreNumbered s n us downs → AreNumbered s n vs downs
numbers_dropped s n us vs downs (inl e) h = subst (λ (l : List Message). AreNumbered s n l downs) e h
numbers_dropped s n us vs downs (inr (inl d)) h = taken_numbers s n d.0 vs downs (subst (λ (l : List Message). AreNumbered s n l downs) d.1 h)
numbers_dropped s n us vs downs (inr (inr e)) h = subst (λ (l : List Message). AreNumbered s n l downs) (sym e) (record { drawn = λ q. record { answers = tt; calls = (h.drawn q).calls }; apart = h.apart })

pub awaited_dropped : (s : server.State) (n : ℕ) (us vs downs : List Message) → Dropped us vs → AreAwaited s n us downs → AreAwaited s n vs downs
awaited_dropped s n us vs downs (inl e) h = subst (λ (l : List Message). AreAwaited s n l downs) e h
awaited_dropped s n us vs downs (inr (inl d)) h = taken_awaited s n d.0 vs downs (subst (λ (l : List Message). AreAwaited s n l downs) d.1 h)
awaited_dropped s n us vs downs (inr (inr e)) h = subst (λ (l : List Message). AreAwaited s n l downs) (sym e) (record { waited = λ q. record { answers = tt; calls = (h.waited q).calls }; once = tt; beside = tt })

-- ---- a step of the server alone

pub record ServerTurn (k : Core) (ms mid : List Mix) (t : CoreStep) (e : Event) : Type 0 where
  pub server : t.core.server ≡ (server_step k.server e).0
  pub sends : t.down ≡ (server_step k.server e).1.send
  pub seats : t.core.seats ≡ k.seats
  pub drift : t.core.drift ≡ k.drift
  pub term : t.core.server.leasing.term ≡ k.server.leasing.term
  pub quiet : t.session ≡ None
  pub count : length t.core.sessions ≡ length k.sessions
  pub sessions : (n : ℕ) (x y : Session) → numbered k.sessions n ≡ Some x → numbered t.core.sessions n ≡ Some y → (y.owner ≡ x.owner) × (y.cut ≡ x.cut)
  pub rest : (n : ℕ) (m r : Mix) → numbered ms n ≡ Some m → numbered (mixes_lost mid t.loss) n ≡ Some r → (r.downs ≡ m.downs) × Dropped (ups_of m) (ups_of r)
  -- what a client's session sends was on its way
  pub own : (n : ℕ) (x : Session) (m : Mix) → numbered k.sessions n ≡ Some x → is_raw x ≡ false → numbered ms n ≡ Some m → IsOnWay e n (ups_of m)

-- nothing is on its way on a session that is no client's, and each client's session has its client
pub record AreApart (k : Core) (ms : List Mix) : Type 0 where
  pub none : (n : ℕ) (x : Session) (m : Mix) → numbered k.sessions n ≡ Some x → numbered ms n ≡ Some m → is_raw x ≡ true → (m.ups ≡ []) × (m.downs ≡ []) × (x.cut ≡ true)
  pub seated : (i : ℕ) (seat : Seat) (n : ℕ) (x : Session) → numbered k.seats i ≡ Some seat → seat.session ≡ Some n → numbered k.sessions n ≡ Some x → is_raw x ≡ false

none_talk : (s : server.State) (n : ℕ) (p : Mix) → ups_of p ≡ [] → p.downs ≡ [] → IsTalking s n p
none_talk s n p ups downs = record {
  numbers = subst (λ (us : List Message). AreNumbered s n us (downs_of p.downs)) (sym ups) (subst (λ (ds : List Down). AreNumbered s n [] (downs_of ds)) (sym downs) (record { drawn = λ q. record { answers = tt; calls = tt }; apart = tt }));
  awaited = subst (λ (us : List Message). AreAwaited s n us (downs_of p.downs)) (sym ups) (subst (λ (ds : List Down). AreAwaited s n [] (downs_of ds)) (sym downs) (record { waited = λ q. record { answers = tt; calls = tt }; once = tt; beside = tt }));
}

none_dropped : (us vs : List Message) → us ≡ [] → Dropped us vs → vs ≡ []
none_dropped us vs none (inl e) = sym e ∙ none
none_dropped us vs none (inr (inl d)) = some_none d.0 vs (sym d.1 ∙ none)
  where
    some_none : {A : Type 0} (m : Message) (ms : List Message) → m ∷ ms ≡ [] → A
    some_none m ms e = absurd cc
none_dropped us vs none (inr (inr e)) = e

-- a session before it and behind it
pub record At (k : Core) (ms mid : List Mix) (t : CoreStep) (after : List Mix) (n : ℕ) (more : List Down) : Type 0 where
  pub x : Session
  pub m : Mix
  pub y : Session
  pub p : Mix
  pub left : Mix
  pub x_there : numbered k.sessions n ≡ Some x
  pub m_there : numbered ms n ≡ Some m
  pub y_there : numbered t.core.sessions n ≡ Some y
  pub p_there : numbered after n ≡ Some p
  pub left_there : numbered (mixes_lost mid t.loss) n ≡ Some left
  pub owner : y.owner ≡ x.owner
  pub cut : y.cut ≡ x.cut
  pub dropped : Dropped (ups_of m) (ups_of left)
  pub ups_is : ups_of p ≡ ups_of left
  pub downs_is : p.downs ≡ unless x.cut m.downs more

-- one that its client hasn't left, it hasn't left then
pub whole_at : {k : Core} {ms mid : List Mix} {t : CoreStep} {after : List Mix} {n : ℕ} {more : List Down} (a : At k ms mid t after n more) → a.x.cut ≡ false → (y : Session) → numbered t.core.sessions n ≡ Some y → y.cut ≡ false
whole_at a uncut y at = ap (λ (z : Session). z.cut) (some_is y a.y (sym at ∙ a.y_there)) ∙ a.cut ∙ uncut

none_some : {A : Type 0} (n : ℕ) (o : Option ℕ) → o ≡ None → o ≡ Some n → A
none_some n o a b = let e : ◌≡◌ {A = Option ℕ} None (Some n) = sym a ∙ b in absurd cc

some_number : {A : Type 0} (xs : List A) (n : ℕ) (x : A) → numbered xs n ≡ Some x → 0 < n
some_number xs n x e = by n e
  where
    by : (n : ℕ) → numbered xs n ≡ Some x → 0 < n
    by zero e = nothing_there x e
    by (suc n) e = omega arith

module _ (k : Core) (ms mid : List Mix) (t : CoreStep) (e : Event) (turn : ServerTurn k ms mid t e) (made : length k.sessions ≡ k.server.sessions_made) (pairs : length ms ≡ length k.sessions) (sent : Sends t) (pairs_then : length (mixes_after mid t sent) ≡ length t.core.sessions) (apart : AreApart k ms) where
  abbrev pub more_on : ℕ → List Down
  more_on n = downs_on n (sent_downs t sent)

  pub at_session : (n : ℕ) (x : Session) → numbered k.sessions n ≡ Some x → At k ms mid t (mixes_after mid t sent) n (more_on n)
  at_session n x at =
      let m = also_numbered k.sessions ms n x pairs at in
      let y = also_numbered k.sessions t.core.sessions n x turn.count at in
      let p = also_numbered t.core.sessions (mixes_after mid t sent) n y.0 pairs_then y.1 in
      let b = before_at mid t sent n p.0 p.1 in
      let r = turn.rest n m.0 b.was m.1 b.there in
      let z = turn.sessions n x y.0 at y.1 in
      record {
        x = x;
        m = m.0;
        y = y.0;
        p = p.0;
        left = b.was;
        x_there = at;
        m_there = m.1;
        y_there = y.1;
        p_there = p.1;
        left_there = b.there;
        owner = z.0;
        cut = z.1;
        dropped = r.1;
        ups_is = ap (λ (us : List Up). map up_message us) (b.other (λ mine. none_some n t.session turn.quiet mine));
        downs_is = b.downs y.0 y.1 ∙ ap (λ (c : Bool). unless c b.was.downs (more_on n)) z.1 ∙ ap (λ (l : List Down). unless x.cut l (more_on n)) r.0;
      }

  module _ (clock now : ℕ) (noted more : List Noted) (grows : (x : Noted) → IsAmong x noted → IsAmong x more) (h : Claimed noted clock k ms) (timed : IsTimed e clock now) (le : clock ≤ now) where
    within_made : (n : ℕ) (x : Session) → numbered k.sessions n ≡ Some x → n ≤ k.server.sessions_made
    within_made n x at = let a = numbered_within k.sessions n x at in omega (arith, a, made)

    -- what is behind a claim then
    behind_is : (n : ℕ) (a : At k ms mid t (mixes_after mid t sent) n (more_on n)) (behind : List Down) → behind_with (way_of a.x a.m) (downs_of behind) (sent_on n (server_step k.server e).1.send) ≡ downs_of (unless a.x.cut behind (more_on n))
    behind_is n a behind = by a.x.cut refl
      where
        sends : List Message
        sends = sent_on n (server_step k.server e).1.send

        by : (b : Bool) → a.x.cut ≡ b → behind_with (way_of a.x a.m) (downs_of behind) (sent_on n (server_step k.server e).1.send) ≡ downs_of (unless a.x.cut behind (more_on n))
        by true cut = ap (λ (b : Bool). if b then downs_of behind else downs_of behind ++ sends) cut ∙ sym (ap (λ (b : Bool). downs_of (unless b behind (more_on n))) cut)
        by false uncut = sym (behind_unless (way_of a.x a.m) a.x.cut behind (more_on n) refl ∙ ap (behind_with (way_of a.x a.m) (downs_of behind)) (sent_is t sent n (whole_at a uncut) ∙ ap (sent_on n) turn.sends))

    -- the session's way then
    way_is : (n : ℕ) (a : At k ms mid t (mixes_after mid t sent) n (more_on n)) → (record { ups = (ups_of a.left); cut = a.x.cut }) ≡ way_of a.y a.p
    way_is n a = ap (λ (c : Bool). record { ups = (ups_of a.left); cut = c }) (sym a.cut) ∙ ap (λ (l : List Message). record { ups = l; cut = a.y.cut }) (sym a.ups_is)

    pub claim_at : (n : ℕ) (a : At k ms mid t (mixes_after mid t sent) n (more_on n)) → is_raw a.x ≡ false → (behind : List Down) (file version base : ℕ) → IsClaim k.server clock (claim_of n file version base) (way_of a.x a.m) (downs_of behind)
        → IsClaim t.core.server now (claim_of n file version base) (way_of a.y a.p) (downs_of (unless a.x.cut behind (more_on n)))
    claim_at n a owned behind file version base c =
        let talk = h.talks n a.m a.m_there in
        let some = some_number k.sessions n a.x a.x_there in
        let went = server_claim k.server clock now e h.orderly timed le n some (within_made n a.x a.x_there) (way_of a.x a.m) (downs_of a.m.downs) talk.numbers (turn.own n a.x a.m a.x_there owned a.m_there) (downs_of behind) file version base c in
        let here = subst (λ (ms : List Message). IsClaim (server_step k.server e).0 now (claim_of n file version base) (way_of a.x a.m) ms) (behind_is n a behind) went in
        let left = claim_dropped (server_step k.server e).0 now (claim_of n file version base) (ups_of a.m) (ups_of a.left) a.x.cut (downs_of (unless a.x.cut behind (more_on n))) a.dropped here in
        subst (λ (s : server.State). IsClaim s now (claim_of n file version base) (way_of a.y a.p) (downs_of (unless a.x.cut behind (more_on n)))) (sym turn.server)
        (subst (λ (w : Way). IsClaim (server_step k.server e).0 now (claim_of n file version base) w (downs_of (unless a.x.cut behind (more_on n)))) (way_is n a) left)

    pub goes_at : (n : ℕ) (x : Session) → numbered k.sessions n ≡ Some x → is_raw x ≡ false → Goes clock now k t.core ms (mixes_after mid t sent) n (λ f. Unit {0})
    unfolding at_session
    goes_at n x at owned =
        let a = at_session n x at in
        record {
          was = a.x;
          mix = a.m;
          is = a.y;
          mixed = a.p;
          was_there = a.x_there;
          mix_there = a.m_there;
          is_there = a.y_there;
          mixed_there = a.p_there;
          owner = a.owner;
          claims = λ file version base keep c. subst (λ (ds : List Down). IsClaim t.core.server now (claim_of n file version base) (way_of a.y a.p) (downs_of ds)) (sym a.downs_is) (claim_at n a owned a.m.downs file version base c);
        }

    -- RECALLs that are answered are waited for, and what is told of leases is promised
    abbrev pub Awaits : Type 0
    Awaits = (n : ℕ) (a : At k ms mid t (mixes_after mid t sent) n (more_on n)) → is_raw a.x ≡ false → AreAwaited t.core.server n (ups_of a.left) (behind_with (way_of a.x a.m) (downs_of a.m.downs) (sent_on n (server_step k.server e).1.send))

    abbrev pub Promises : Type 0
    Promises = (i : ℕ) (seat : Seat) (u : Task) (n : ℕ) (a : At k ms mid t (mixes_after mid t sent) n (more_on n)) → numbered k.seats i ≡ Some seat → seat.client.task ≡ Some u → seat.session ≡ Some n → a.x.cut ≡ false
        → AllTails (IsPromised more now t.core i n (way_of a.y a.p) seat.client.sent u) (more_on n)

    own_talk : Awaits → (n : ℕ) (a : At k ms mid t (mixes_after mid t sent) n (more_on n)) → is_raw a.x ≡ false → IsTalking t.core.server n a.p
    own_talk awaits n a owned =
        let talk = h.talks n a.m a.m_there in
        let some = some_number k.sessions n a.x a.x_there in
        let numbers = server_numbers k.server clock now e h.orderly timed le n some (within_made n a.x a.x_there) (way_of a.x a.m) (downs_of a.m.downs) talk.numbers (turn.own n a.x a.m a.x_there owned a.m_there) in
        let is = behind_is n a a.m.downs ∙ ap downs_of (sym a.downs_is) in
        record {
          numbers = subst (λ (s : server.State). AreNumbered s n (ups_of a.p) (downs_of a.p.downs)) (sym turn.server)
              (subst (λ (us : List Message). AreNumbered (server_step k.server e).0 n us (downs_of a.p.downs)) (sym a.ups_is)
              (subst (λ (ds : List Message). AreNumbered (server_step k.server e).0 n (ups_of a.left) ds) is (numbers_dropped (server_step k.server e).0 n (ups_of a.m) (ups_of a.left) _ a.dropped numbers)));
          awaited = subst (λ (us : List Message). AreAwaited t.core.server n us (downs_of a.p.downs)) (sym a.ups_is) (subst (λ (ds : List Message). AreAwaited t.core.server n (ups_of a.left) ds) is (awaits n a owned));
        }

    talk_at : Awaits → (n : ℕ) (a : At k ms mid t (mixes_after mid t sent) n (more_on n)) → IsTalking t.core.server n a.p
    talk_at awaits n a = elim (raw_or_owned a.x) [
      | inl raw ↦
          (let z = apart.none n a.x a.m a.x_there a.m_there raw in
          none_talk t.core.server n a.p (a.ups_is ∙ none_dropped (ups_of a.m) (ups_of a.left) (ap (λ (us : List Up). map up_message us) z.0) a.dropped) (a.downs_is ∙ ap (λ (b : Bool). unless b a.m.downs (more_on n)) z.2 ∙ z.1))
      | inr owned ↦ own_talk awaits n a owned
    ]

    seat_at : Promises → (i : ℕ) (seat : Seat) → numbered k.seats i ≡ Some seat → HasClaims noted clock k ms i seat → HasClaims more now t.core (mixes_after mid t sent) i seat
    seat_at fresh i seat here c = record {
      drift = c.drift ∙ sym turn.drift;
      notes = λ f e n there is. (let o = c.notes f e n there is in note_goes noted more clock now k t.core ms (mixes_after mid t sent) i f n.version n.until turn.drift turn.term grows o (λ f. Unit {0}) (goes_at o.number o.session o.there (has_owner k.seats o.session seat (ap (numbered k.seats) o.owner ∙ here))) tt);
      sent = λ u x task lease. (let s = c.sent u x task lease in let b = s.2 in (s.0, grows _ s.1, omega (arith, b, le)));
      promises = λ u n y p task mine at is. promised u n y p task mine at is;
    }
      where
        promised : (u : Task) (n : ℕ) (y : Session) (p : Mix) → seat.client.task ≡ Some u → seat.session ≡ Some n → numbered t.core.sessions n ≡ Some y → numbered (mixes_after mid t sent) n ≡ Some p
            → AllTails (IsPromised more now t.core i n (way_of y p) seat.client.sent u) p.downs
        promised u n y p task mine at is =
            let x = also_numbered t.core.sessions k.sessions n y (sym turn.count) at in
            let a = at_session n x.0 x.1 in
            let owned = apart.seated i seat n a.x here mine a.x_there in
            let same_y : a.y ≡ y = some_is a.y y (sym a.y_there ∙ at) in
            let same_p : a.p ≡ p = some_is a.p p (sym a.p_there ∙ is) in
            let old = c.promises u n a.x a.m task mine a.x_there a.m_there in
            let new = tails_unless (IsPromised noted clock k i n (way_of a.x a.m) seat.client.sent u) (IsPromised more now t.core i n (way_of a.y a.p) seat.client.sent u) a.x.cut (more_on n)
            (λ d ds q. promised_map noted more clock now k t.core i n (way_of a.x a.m) (way_of a.y a.p) seat.client.sent u d ds (unless a.x.cut ds (more_on n)) turn.drift turn.term grows (λ version base z. claim_at n a owned ds u.file version base z) q)
            (λ uncut. fresh i seat u n a here task mine uncut) a.m.downs old in
            subst (λ (z : Session). AllTails (IsPromised more now t.core i n (way_of z p) seat.client.sent u) p.downs) same_y
            (subst (λ (z : Mix). AllTails (IsPromised more now t.core i n (way_of a.y z) seat.client.sent u) z.downs) same_p
            (subst (λ (ds : List Down). AllTails (IsPromised more now t.core i n (way_of a.y a.p) seat.client.sent u) ds) (sym a.downs_is) new))

    pub server_claimed : IsOrderly t.core.server now → AreRecalls t.core.server.leasing.calls → Awaits → Promises → Claimed more now t.core (mixes_after mid t sent)
    server_claimed orderly recalls awaits fresh = record {
      orderly = orderly;
      recalls = recalls;
      talks = λ n p at.
          (let y = also_numbered (mixes_after mid t sent) t.core.sessions n p (sym pairs_then) at in
          let x = also_numbered t.core.sessions k.sessions n y.0 (sym turn.count) y.1 in
          let a = at_session n x.0 x.1 in
          subst (λ (z : Mix). IsTalking t.core.server n z) (some_is a.p p (sym a.p_there ∙ at)) (talk_at awaits n a));
      seats = λ i seat at. (let here = ap (λ (l : List Seat). numbered l i) (sym turn.seats) ∙ at in seat_at fresh i seat here (h.seats i seat here));
    }
