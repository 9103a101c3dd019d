-- A client joins: claims go on in a run, and nothing is on its way on its new session.
use Rattle.std.proofs.Common.{◌≡◌, ◌⊎◌, inl, inr, ℕ, zero, suc, ◌+◌, ◌<◌, ◌≤◌, List, [], ◌∷◌, ◌++◌, length, Some, None, Bool, true, false, refl, sym, ap, ◌∙◌, subst, arith}
use Rattle.clock_rule.specs.declared.rule.Note.{Note as Noted}
use Rattle.client_cache.specs.Cache.{Entries, kept_of}
use Rattle.client_state.specs.Ending.{joined}
use Rattle.client_state.specs.declared.task.Task.{Task}
use Rattle.server_core.specs.State as server
use Rattle.server_core.specs.Step.{server_step, connect, has_room}
use Rattle.server_core.specs.declared.event.Event.TheVariants as event
use Rattle.server_core.specs.declared.event.ServerStep.{ServerStep}
use Rattle.lease_law.specs.Claims.{IsAmong, IsClaim, noted_at}
use Rattle.lease_law.specs.Orderly.{AreNumbered, sent_on, behind_with}
use Rattle.lease_law.proofs.lemmas.Claiming.{behind_none}
use Rattle.kept_promise.proofs.Common.{Core, CoreStep, Seat, Session, new_session, Event.Joins, happens, joins, joins_as, numbered, with_numbered, Moment, Opening, Down, Mix, no_mix, Event.RawJoins, raw_session, raw_joins_as}
use Rattle.kept_promise.proofs.Lists.{some_is, nothing_there, same_or_not, kept_appended, of_appended}
use Rattle.kept_promise.proofs.Turns.{also_numbered, numbered_within, around_with}
use Rattle.kept_promise.proofs.Joins.{connects}
use Rattle.kept_promise.proofs.RunsCarried.{MixStep}
use Rattle.kept_promise.proofs.RecallsKept.{made_awaited, new_awaited}
use Rattle.kept_promise.proofs.Claimed.{Claimed, HasClaims, IsTalking, IsPromised, AllTails, ups_of, downs_of, way_of}
use Rattle.kept_promise.proofs.ClaimFrame.{claim_of, Goes, note_goes, tails_map, promised_map, server_claim, server_numbers}
use Rattle.kept_promise.proofs.ClaimStill.{mixes_still}
use Rattle.kept_promise.proofs.ClaimServed.{made_is, pairs_are, finish}
use Rattle.kept_promise.proofs.ClaimHears.{owners_are}

-- what there was is still there
old_there : {A : Type 0} (xs : List A) (x : A) (n : ℕ) (y : A) → numbered xs n ≡ Some y → numbered (xs ++ x ∷ []) n ≡ Some y
old_there xs x zero y e = nothing_there y e
old_there xs x (suc n) y e = kept_appended xs x n y e

-- the last is new
old_or_new : {A : Type 0} (xs : List A) (x : A) (n : ℕ) (y : A) → numbered (xs ++ x ∷ []) n ≡ Some y → (numbered xs n ≡ Some y) ⊎ ((n ≡ suc (length xs)) × (y ≡ x))
old_or_new xs x zero y e = nothing_there y e
old_or_new xs x (suc n) y e = elim (of_appended xs x n y e) [ inl new ↦ inr (ap suc new.0, new.1) | inr old ↦ inl old ]

-- a session is made, and seats may become others
module _ (k : Core) (ms : List Mix) (new : Session) (then_ : List Seat) (steps : ℕ) (made : length k.sessions ≡ k.server.sessions_made) (pairs : length ms ≡ length k.sessions) where
  abbrev server_then : server.State
  server_then = (connect k.server true).0

  abbrev join_core : Core
  join_core = record k { steps = steps; server = server_then; seats = then_; sessions = k.sessions ++ new ∷ []; came = k.came ++ 0 ∷ [] }

  abbrev join_mixes : List Mix
  join_mixes = ms ++ no_mix ∷ []

  module _ (up : has_room k.server ≡ true) (clock at_ : ℕ) (noted more : List Noted) (le : clock ≤ at_) (grows : (x : Noted) → IsAmong x noted → IsAmong x more) (h : Claimed noted clock k ms) where
    connect_is : server_step k.server event.Connect ≡ connect k.server true
    connect_is = ap (connect k.server) up

    some_number : (n : ℕ) (x : Session) → numbered k.sessions n ≡ Some x → 0 < n
    some_number zero x e = nothing_there x e
    some_number (suc n) x e = omega arith

    claim_join : (n : ℕ) (x : Session) (m : Mix) → numbered k.sessions n ≡ Some x → numbered ms n ≡ Some m → (behind : List Down) (file version base : ℕ) → IsClaim k.server clock (claim_of n file version base) (way_of x m) (downs_of behind) → IsClaim server_then at_ (claim_of n file version base) (way_of x m) (downs_of behind)
    claim_join n x m at is behind file version base q =
        let inside = numbered_within k.sessions n x at in
        let some = some_number n x at in
        let went = server_claim k.server clock at_ event.Connect h.orderly le le n some (omega (arith, inside, made)) (way_of x m) (downs_of m.downs) (h.talks n m is).numbers tt (downs_of behind) file version base q in
        let as_connect = subst (λ (r : server.State × ServerStep). IsClaim r.0 at_ (claim_of n file version base) (way_of x m) (behind_with (way_of x m) (downs_of behind) (sent_on n r.1.send))) connect_is went in
        subst (IsClaim server_then at_ (claim_of n file version base) (way_of x m)) (behind_none (way_of x m) (downs_of behind)) as_connect

    talk_join : (n : ℕ) (x : Session) (m : Mix) → numbered k.sessions n ≡ Some x → numbered ms n ≡ Some m → IsTalking server_then n m
    talk_join n x m at is =
        let inside = numbered_within k.sessions n x at in
        let some = some_number n x at in
        let le_made : n ≤ k.server.sessions_made = omega (arith, inside, made) in
        let went = server_numbers k.server clock at_ event.Connect h.orderly le le n some le_made (way_of x m) (downs_of m.downs) (h.talks n m is).numbers tt in
        let as_connect = subst (λ (r : server.State × ServerStep). AreNumbered r.0 n (ups_of m) (behind_with (way_of x m) (downs_of m.downs) (sent_on n r.1.send))) connect_is went in
        record {
          numbers = subst (AreNumbered server_then n (ups_of m)) (behind_none (way_of x m) (downs_of m.downs)) as_connect;
          awaited = made_awaited k.server n (ups_of m) (downs_of m.downs) le_made true (h.talks n m is).awaited;
        }

    join_goes : (n : ℕ) (x : Session) → numbered k.sessions n ≡ Some x → Goes clock at_ k join_core ms join_mixes n (λ f. Unit {0})
    join_goes n x at =
        let m = also_numbered k.sessions ms n x pairs at in
        record {
          was = x;
          mix = m.0;
          is = x;
          mixed = m.0;
          was_there = at;
          mix_there = m.1;
          is_there = old_there k.sessions new n x at;
          mixed_there = old_there ms no_mix n m.0 m.1;
          owner = refl;
          claims = λ file version base keep q. claim_join n x m.0 at m.1 m.0.downs file version base q;
        }

    pub notes_join : (j : ℕ) (was is : Seat) → is.client.cache ≡ was.client.cache → is.client.drift ≡ was.client.drift → is.client.sent ≡ was.client.sent → HasClaims noted clock k ms j was → ((u : Task) → is.client.task ≡ Some u → (was.client.task ≡ Some u) × (is.session ≡ was.session)) → ((n : ℕ) → was.session ≡ Some n → (x : Session) × (numbered k.sessions n ≡ Some x))
        → HasClaims more at_ join_core join_mixes j is
    notes_join j was is cache drift sent_same q task there = record {
      drift = drift ∙ q.drift;
      notes = λ f g n at noted_.
          (let o = q.notes f g n (sym (ap (λ (es : Entries). kept_of es f) cache) ∙ at) noted_ in
          note_goes noted more clock at_ k join_core ms join_mixes j f n.version n.until refl refl grows o (λ f. Unit {0}) (join_goes o.number o.session o.there) tt);
      sent = λ u x under lease. (let s = q.sent u x (task u under).0 lease in let b = s.2 in (s.0, subst (λ (z : ℕ). IsAmong (noted_at j z s.0) more) (sym sent_same) (grows _ s.1), omega (arith, b, le)));
      promises = λ u n y p under mine at is_mix. promised u n y p under mine at is_mix;
    }
      where
        promised : (u : Task) (n : ℕ) (y : Session) (p : Mix) → is.client.task ≡ Some u → is.session ≡ Some n → numbered join_core.sessions n ≡ Some y → numbered join_mixes n ≡ Some p → AllTails (IsPromised more at_ join_core j n (way_of y p) is.client.sent u) p.downs
        promised u n y p under mine at is_mix =
            let t = task u under in
            let x = there n (sym t.1 ∙ mine) in
            let m = also_numbered k.sessions ms n x.0 pairs x.1 in
            let same_y : x.0 ≡ y = some_is x.0 y (sym (old_there k.sessions new n x.0 x.1) ∙ at) in
            let same_p : m.0 ≡ p = some_is m.0 p (sym (old_there ms no_mix n m.0 m.1) ∙ is_mix) in
            subst (λ (z : ℕ). AllTails (IsPromised more at_ join_core j n (way_of y p) z u) p.downs) (sym sent_same)
            (subst (λ (z : Session). AllTails (IsPromised more at_ join_core j n (way_of z p) was.client.sent u) p.downs) same_y
            (subst (λ (z : Mix). AllTails (IsPromised more at_ join_core j n (way_of x.0 z) was.client.sent u) z.downs) same_p
            (tails_map (IsPromised noted clock k j n (way_of x.0 m.0) was.client.sent u) (IsPromised more at_ join_core j n (way_of x.0 m.0) was.client.sent u)
            (λ d ds w. promised_map noted more clock at_ k join_core j n (way_of x.0 m.0) (way_of x.0 m.0) was.client.sent u d ds ds refl refl grows (λ version base z. claim_join n x.0 m.0 x.1 m.1 ds u.file version base z) w) m.0.downs (q.promises u n x.0 m.0 t.0 (sym t.1 ∙ mine) x.1 m.1))))

    pub join_claimed_at : ((j : ℕ) (e : Seat) → numbered then_ j ≡ Some e → HasClaims more at_ join_core join_mixes j e) → Claimed more at_ join_core join_mixes
    join_claimed_at each = record {
      orderly = let e = h.orderly.early in record { early = omega (arith, e, le); ordered = h.orderly.ordered; changes = h.orderly.changes; given = h.orderly.given };
      recalls = h.recalls;
      talks = λ n p at. elim (old_or_new ms no_mix n p at) [
        | inl old ↦ (let x = also_numbered ms k.sessions n p (sym pairs) old in talk_join n x.0 p x.1 old)
        | inr new ↦ subst (λ (z : Mix). IsTalking server_then n z) (sym new.1) (record { numbers = record { drawn = λ q. record { answers = tt; calls = tt }; apart = tt }; awaited = new_awaited server_then n })
      ];
      seats = each;
    }

-- there is room
room_is : (s : server.State) → s.sessions_made < 4294967295 → length s.sessions < 64 → has_room s ≡ true
room_is s few small = by (has_room s) refl
  where
    by : (b : Bool) → has_room s ≡ b → has_room s ≡ true
    by true e = e
    by false e = absurd (apart (sym (ap (λ (r : server.State × ServerStep). r.0.sessions_made) (sym (ap (connect s) e) ∙ connects s few small))))
      where
        apart : s.sessions_made + 1 ≡ s.sessions_made → ⊥
        apart q = omega (arith, q)

pub join_claimed : {all past rest : List Moment} {opening : List Opening} {k : Core} {ms : List Mix} (c : ℕ) {mid after : List Mix} (s : MixStep all past rest opening k ms (Joins c) mid after) (clock at_ : ℕ) (noted more : List Noted) → clock ≤ at_ → ((x : Noted) → IsAmong x noted → IsAmong x more)
    → (seat : Seat) → numbered k.seats c ≡ Some seat → seat.client.linked ≡ false → k.server.sessions_made < 4294967295 → length k.server.sessions < 64 → mid ≡ ms → Claimed noted clock k ms → Claimed more at_ (happens k (Joins c)).core after
join_claimed {k = k} {ms = ms} c {mid = mid} {after = after} s clock at_ noted more le grows seat here unlinked few small same h =
    finish s more at_ joined_step (ap (joins k c) here ∙ ap (λ (r : server.State × ServerStep). joins_as k c seat r.0 r.1.told) (connects k.server few small))
    (λ sent count. subst (Claimed more at_ joined_step.core) (sym (mixes_still joined_step refl refl sent mid ∙ ap (λ (l : List Mix). l ++ no_mix ∷ []) same))
    (join_claimed_at k ms (new_session c) seats (k.steps + 2) (made_is s) (pairs_are s) (room_is k.server few small) clock at_ noted more le grows h (λ j e at. each j e at (same_or_not j c))))
  where
    joined_step : CoreStep
    joined_step = joins_as k c seat (connect k.server true).0 (connect k.server true).1.told

    join_seat : Seat
    join_seat = record seat { client = joined seat.client; session = Some (k.server.sessions_made + 1) }

    seats : List Seat
    seats = with_numbered k.seats c join_seat

    free : seat.client.task ≡ None
    free = ((s.plain.kept.seats c seat here).unlinked unlinked).0

    as_was : (j : ℕ) (was is : Seat) → is.client.cache ≡ was.client.cache → is.client.drift ≡ was.client.drift → is.client.sent ≡ was.client.sent → HasClaims noted clock k ms j was → ((u : Task) → is.client.task ≡ Some u → (was.client.task ≡ Some u) × (is.session ≡ was.session)) → numbered k.seats j ≡ Some was
        → HasClaims more at_ joined_step.core (ms ++ no_mix ∷ []) j is
    as_was j was is cache drift sent q task there = notes_join k ms (new_session c) seats (k.steps + 2) (made_is s) (pairs_are s) (room_is k.server few small) clock at_ noted more le grows h j was is cache drift sent q task (λ n its. (let o = owners_are s j was n there its in (o.0, o.1)))

    each : (j : ℕ) (e : Seat) → numbered seats j ≡ Some e → (j ≡ c) ⊎ (j ≡ c → ⊥) → HasClaims more at_ joined_step.core (ms ++ no_mix ∷ []) j e
    each j e at (inl mine) =
        subst (λ (z : Seat). HasClaims more at_ joined_step.core (ms ++ no_mix ∷ []) j z) (some_is join_seat e (sym (around_with k.seats c seat join_seat here).there ∙ ap (numbered seats) (sym mine) ∙ at))
        (subst (λ (z : ℕ). HasClaims more at_ joined_step.core (ms ++ no_mix ∷ []) z join_seat) (sym mine)
        (as_was c seat join_seat refl refl refl (h.seats c seat here) (λ u under. nothing_there u (sym free ∙ under)) here))
    each j e at (inr apart) =
        let there = sym ((around_with k.seats c seat join_seat here).others j apart) ∙ at in
        as_was j e e refl refl refl (h.seats j e there) (λ u under. (under, refl)) there

-- a session is made that is no client's
pub raw_join_claimed : {all past rest : List Moment} {opening : List Opening} {k : Core} {ms : List Mix} {mid after : List Mix} (s : MixStep all past rest opening k ms RawJoins mid after) (clock at_ : ℕ) (noted more : List Noted) → clock ≤ at_ → ((x : Noted) → IsAmong x noted → IsAmong x more)
    → k.server.sessions_made < 4294967295 → length k.server.sessions < 64 → mid ≡ ms → Claimed noted clock k ms → Claimed more at_ (happens k RawJoins).core after
raw_join_claimed {k = k} {ms = ms} {mid = mid} {after = after} s clock at_ noted more le grows few small same h =
    finish s more at_ joined_step (ap (λ (r : server.State × ServerStep). raw_joins_as k r.0 r.1.told) (connects k.server few small))
    (λ sent count. subst (Claimed more at_ joined_step.core) (sym (mixes_still joined_step refl refl sent mid ∙ ap (λ (l : List Mix). l ++ no_mix ∷ []) same))
    (join_claimed_at k ms raw_session k.seats (k.steps + 1) (made_is s) (pairs_are s) (room_is k.server few small) clock at_ noted more le grows h
    (λ j e at. notes_join k ms raw_session k.seats (k.steps + 1) (made_is s) (pairs_are s) (room_is k.server few small) clock at_ noted more le grows h j e e refl refl refl (h.seats j e at) (λ u under. (under, refl)) (λ n its. (let o = owners_are s j e n at its in (o.0, o.1))))))
  where
    joined_step : CoreStep
    joined_step = raw_joins_as k (connect k.server true).0 (connect k.server true).1.told
