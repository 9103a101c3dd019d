-- A client sees its connection lost: claims go on in a run, and nothing more is read on that session.
use Rattle.std.proofs.Common.{◌≡◌, ◌⊎◌, inl, inr, ℕ, zero, suc, ◌≤◌, List, [], ◌∷◌, length, Option, Some, None, Bool, true, false, refl, sym, ap, ◌∙◌, subst, arith, map}
use Rattle.std.proofs.lemmas.List.{append-nil}
use Rattle.clock_rule.specs.declared.rule.Note.{Note as Noted}
use Rattle.wire.specs.declared.message.Message.{Message}
use Rattle.client_cache.specs.Cache.{Entries, kept_of}
use Rattle.client_state.specs.Ending.{cut as client_cut, ended_by}
use Rattle.client_state.specs.declared.step.Outcome.TheVariants as outcome
use Rattle.client_state.specs.declared.task.Task.{Task}
use Rattle.lease_law.specs.Claims.{Claim, IsAmong, IsClaim, IsSafe, noted_at}
use Rattle.lease_law.specs.Orderly.{AreNumbered}
use Rattle.lease_law.proofs.lemmas.Events.{orderly_later, safe_later}
use Rattle.lease_law.proofs.lemmas.Ways.{safe_cut}
use Rattle.trace_ends.specs.Core.{loss_down, idles}
use Rattle.kept_promise.proofs.Common.{Core, CoreStep, Seat, Session, Event.Cuts, happens, cuts, cuts_if, cut_session, session_of, numbered, with_numbered, unless, Moment, Opening, Up, up_message, Down, Mix, place_after}
use Rattle.kept_promise.proofs.Lists.{some_is, nothing_there, same_or_not, set_count}
use Rattle.kept_promise.proofs.Turns.{also_numbered, around_with}
use Rattle.kept_promise.proofs.Leading.{Sends, sent_ups, sent_downs, mix_downs_lost, mixes_lost, mixes_after}
use Rattle.kept_promise.proofs.RunsCarried.{MixStep}
use Rattle.kept_promise.proofs.RecallsKept.{AreAwaited, AllBeside}
use Rattle.kept_promise.proofs.Claimed.{Claimed, HasClaims, IsTalking, IsPromised, AllTails, ups_of, downs_of, way_of}
use Rattle.kept_promise.proofs.ClaimWays.{downs_on, before_at, sent_is, ups_are, none_is}
use Rattle.kept_promise.proofs.ClaimFrame.{claim_of, Goes, note_goes, tails_map, promised_map}
use Rattle.kept_promise.proofs.ClaimStill.{idle_claimed}
use Rattle.kept_promise.proofs.ClaimServed.{pairs_are, finish}
use Rattle.kept_promise.proofs.ClaimHears.{owners_are}

none_mapped : {A B : Type 0} (f : A → B) (xs : List A) → map f xs ≡ [] → xs ≡ []
none_mapped f [] e = refl
none_mapped f (x ∷ xs) e = absurd cc

unless_nothing : {A : Type 0} (b : Bool) (xs : List A) → unless b xs [] ≡ xs
unless_nothing true xs = refl
unless_nothing false xs = append-nil xs

none_beside : (us : List Message) → AllBeside us []
none_beside [] = tt
none_beside (u ∷ us) = (tt, none_beside us)

-- ---- the session that was left, and others

pub record CutAt (k : Core) (ms : List Mix) (t : CoreStep) (after : List Mix) (left : Option ℕ) (n : ℕ) : Type 0 where
  pub x : Session
  pub m : Mix
  pub y : Session
  pub p : Mix
  pub x_there : numbered k.sessions n ≡ Some x
  pub m_there : numbered ms n ≡ Some m
  pub y_there : numbered t.core.sessions n ≡ Some y
  pub p_there : numbered after n ≡ Some p
  pub owner : y.owner ≡ x.owner
  pub ups : ups_of p ≡ ups_of m
  pub downs : ((y.cut ≡ x.cut) × (p.downs ≡ m.downs)) ⊎ ((left ≡ Some n) × (y.cut ≡ true) × (p.downs ≡ []))

module _ (k : Core) (ms : List Mix) (c : ℕ) (seat : Seat) (here : numbered k.seats c ≡ Some seat) (pairs : length ms ≡ length k.sessions) where
  abbrev cut_step : CoreStep
  cut_step = cuts_if k c seat true

  abbrev cut_seat : Seat
  cut_seat = record seat { client = (client_cut seat.client).0; place = place_after seat.place (client_cut seat.client).1.ended }

  nothing_up : cut_step.up ≡ []
  nothing_up = by seat.client.task
    where
      by : (t : Option Task) → (ended_by t (record { outcome = outcome.Lost; rests_on = 0 })).send ≡ []
      by None = refl
      by (Some t) = refl

  count_then : length cut_step.core.sessions ≡ length k.sessions
  count_then = by seat.session (session_of k.sessions seat.session)
    where
      by : (o : Option ℕ) (x : Option Session) → length (cut_session k.sessions o x) ≡ length k.sessions
      by None x = refl
      by (Some n) None = refl
      by (Some zero) (Some x) = refl
      by (Some (suc n)) (Some x) = set_count k.sessions n (record x { cut = true })

  session_then : (n : ℕ) (x y : Session) → numbered k.sessions n ≡ Some x → numbered cut_step.core.sessions n ≡ Some y → (y.owner ≡ x.owner) × ((y.cut ≡ x.cut) ⊎ ((seat.session ≡ Some n) × (y.cut ≡ true)))
  session_then n x y at is = by seat.session refl (session_of k.sessions seat.session) refl is
    where
      same : numbered k.sessions n ≡ Some y → (y.owner ≡ x.owner) × ((y.cut ≡ x.cut) ⊎ ((seat.session ≡ Some n) × (y.cut ≡ true)))
      same e = let w = some_is x y (sym at ∙ e) in (ap (λ (q : Session). q.owner) (sym w), inl (ap (λ (q : Session). q.cut) (sym w)))

      by : (o : Option ℕ) → seat.session ≡ o → (z : Option Session) → session_of k.sessions o ≡ z → numbered (cut_session k.sessions o z) n ≡ Some y → (y.owner ≡ x.owner) × ((y.cut ≡ x.cut) ⊎ ((seat.session ≡ Some n) × (y.cut ≡ true)))
      by None mine z e is = same is
      by (Some j) mine None e is = same is
      by (Some j) mine (Some z) e is = split (same_or_not n j)
        where
          new : Session
          new = record z { cut = true }

          split : (n ≡ j) ⊎ (n ≡ j → ⊥) → (y.owner ≡ x.owner) × ((y.cut ≡ x.cut) ⊎ ((seat.session ≡ Some n) × (y.cut ≡ true)))
          split (inl it) =
              let around = around_with k.sessions j z new e in
              let a = some_is z x (sym e ∙ ap (numbered k.sessions) (sym it) ∙ at) in
              let b = some_is new y (sym around.there ∙ ap (numbered (with_numbered k.sessions j new)) (sym it) ∙ is) in
              (ap (λ (q : Session). q.owner) (sym b) ∙ ap (λ (q : Session). q.owner) a, inr (mine ∙ ap (λ (q : ℕ). Some q) (sym it), ap (λ (q : Session). q.cut) (sym b)))
          split (inr apart) = let around = around_with k.sessions j z new e in same (sym (around.others n apart) ∙ is)

  mix_then : (n : ℕ) (m r : Mix) → numbered ms n ≡ Some m → numbered (mixes_lost ms cut_step.loss) n ≡ Some r → (r.ups ≡ m.ups) × (((seat.session ≡ Some n → ⊥) × (r.downs ≡ m.downs)) ⊎ ((seat.session ≡ Some n) × (r.downs ≡ [])))
  mix_then n m r at is = by seat.session refl is
    where
      same : (seat.session ≡ Some n → ⊥) → numbered ms n ≡ Some r → (r.ups ≡ m.ups) × (((seat.session ≡ Some n → ⊥) × (r.downs ≡ m.downs)) ⊎ ((seat.session ≡ Some n) × (r.downs ≡ [])))
      same never e = let w = some_is m r (sym at ∙ e) in (ap (λ (q : Mix). q.ups) (sym w), inl (never, ap (λ (q : Mix). q.downs) (sym w)))

      by : (o : Option ℕ) → seat.session ≡ o → numbered (mixes_lost ms (loss_down o)) n ≡ Some r → (r.ups ≡ m.ups) × (((seat.session ≡ Some n → ⊥) × (r.downs ≡ m.downs)) ⊎ ((seat.session ≡ Some n) × (r.downs ≡ [])))
      by None mine is = same (λ e. nothing_there n (sym mine ∙ e)) is
      by (Some j) mine is = split (same_or_not n j) (numbered ms j) refl is
        where
          split : (n ≡ j) ⊎ (n ≡ j → ⊥) → (o : Option Mix) → numbered ms j ≡ o → numbered (mix_downs_lost ms j o) n ≡ Some r → (r.ups ≡ m.ups) × (((seat.session ≡ Some n → ⊥) × (r.downs ≡ m.downs)) ⊎ ((seat.session ≡ Some n) × (r.downs ≡ [])))
          split (inl it) None e is = nothing_there m (sym e ∙ ap (numbered ms) (sym it) ∙ at)
          split (inl it) (Some w) e is =
              let around = around_with ms j w (record w { downs = [] }) e in
              let a = some_is w m (sym e ∙ ap (numbered ms) (sym it) ∙ at) in
              let b = some_is (record w { downs = [] }) r (sym around.there ∙ ap (numbered (with_numbered ms j (record w { downs = [] }))) (sym it) ∙ is) in
              (ap (λ (q : Mix). q.ups) (sym b) ∙ ap (λ (q : Mix). q.ups) a, inr (mine ∙ ap (λ (q : ℕ). Some q) (sym it), ap (λ (q : Mix). q.downs) (sym b)))
          split (inr apart) None e is = same (λ q. apart (sym (some_is j n (sym mine ∙ q)))) is
          split (inr apart) (Some w) e is = let around = around_with ms j w (record w { downs = [] }) e in same (λ q. apart (sym (some_is j n (sym mine ∙ q)))) (sym (around.others n apart) ∙ is)

  module _ (sent : Sends cut_step) (pairs_then : length (mixes_after ms cut_step sent) ≡ length cut_step.core.sessions) where
    cut_at : (n : ℕ) (x : Session) → numbered k.sessions n ≡ Some x → CutAt k ms cut_step (mixes_after ms cut_step sent) seat.session n
    cut_at n x at =
        let m = also_numbered k.sessions ms n x pairs at in
        let y = also_numbered k.sessions cut_step.core.sessions n x count_then at in
        let p = also_numbered cut_step.core.sessions (mixes_after ms cut_step sent) n y.0 pairs_then y.1 in
        let b = before_at ms cut_step sent n p.0 p.1 in
        let r = mix_then n m.0 b.was m.1 b.there in
        let z = session_then n x y.0 at y.1 in
        let no_ups : sent_ups cut_step sent ≡ [] = none_mapped up_message (sent_ups cut_step sent) (ups_are cut_step sent ∙ nothing_up) in
        let no_downs : downs_on n (sent_downs cut_step sent) ≡ [] = none_mapped _ (downs_on n (sent_downs cut_step sent)) (none_is cut_step sent n refl) in
        let downs_same : p.0.downs ≡ b.was.downs = b.downs y.0 y.1 ∙ ap (unless y.0.cut b.was.downs) no_downs ∙ unless_nothing y.0.cut b.was.downs in
        record {
          x = x;
          m = m.0;
          y = y.0;
          p = p.0;
          x_there = at;
          m_there = m.1;
          y_there = y.1;
          p_there = p.1;
          owner = z.0;
          ups = ap (λ (us : List Up). map up_message us) (ups_same (same_session n) p.0 y.0 b.was b.other (λ mine. b.own y.0 mine y.1) no_ups ∙ r.0);
          downs = elim r.1 [
            | inl keep ↦ elim z.1 [ inl e ↦ inl (e, downs_same ∙ keep.1) | inr e ↦ absurd (keep.0 e.0) ]
            | inr gone ↦ elim z.1 [ inl e ↦ cut_already n x y.0 m.0 p.0 at y.1 gone.0 e (downs_same ∙ gone.1) | inr e ↦ inr (e.0, e.1, downs_same ∙ gone.1) ]
          ];
        }
      where
        same_session : (n : ℕ) → (seat.session ≡ Some n) ⊎ (seat.session ≡ Some n → ⊥)
        same_session n = by seat.session
          where
            by : (o : Option ℕ) → (o ≡ Some n) ⊎ (o ≡ Some n → ⊥)
            by None = inr (λ e. nothing_there n e)
            by (Some j) = elim (same_or_not j n) [ inl e ↦ inl (ap (λ (q : ℕ). Some q) e) | inr apart ↦ inr (λ e. apart (some_is j n e)) ]

        ups_same : {j : ℕ} → (seat.session ≡ Some j) ⊎ (seat.session ≡ Some j → ⊥) → (p : Mix) (y : Session) (r : Mix) → ((seat.session ≡ Some j → ⊥) → p.ups ≡ r.ups) → (seat.session ≡ Some j → p.ups ≡ unless y.hung r.ups (sent_ups cut_step sent)) → sent_ups cut_step sent ≡ [] → p.ups ≡ r.ups
        ups_same (inl mine) p y r other own none = own mine ∙ ap (unless y.hung r.ups) none ∙ unless_nothing y.hung r.ups
        ups_same (inr apart) p y r other own none = other apart

        -- its session is there, and so it is cut now
        cut_already : (n : ℕ) (x y : Session) (m p : Mix) → numbered k.sessions n ≡ Some x → numbered cut_step.core.sessions n ≡ Some y → seat.session ≡ Some n → y.cut ≡ x.cut → p.downs ≡ [] → ((y.cut ≡ x.cut) × (p.downs ≡ m.downs)) ⊎ ((seat.session ≡ Some n) × (y.cut ≡ true) × (p.downs ≡ []))
        cut_already n x y m p at is mine e none = inr (mine, cut_now, none)
          where
            new : Session
            new = record x { cut = true }

            is_new : cut_step.core.sessions ≡ with_numbered k.sessions n new
            is_new = ap (λ (o : Option ℕ). cut_session k.sessions o (session_of k.sessions o)) mine ∙ ap (cut_session k.sessions (Some n)) at

            cut_now : y.cut ≡ true
            cut_now = ap (λ (q : Session). q.cut) (sym (some_is new y (sym (around_with k.sessions n x new at).there ∙ ap (λ (l : List Session). numbered l n) (sym is_new) ∙ is)))

    module _ (clock at_ : ℕ) (noted more : List Noted) (le : clock ≤ at_) (grows : (x : Noted) → IsAmong x noted → IsAmong x more) (h : Claimed noted clock k ms) (owners : (j : ℕ) (e : Seat) (n : ℕ) → numbered k.seats j ≡ Some e → e.session ≡ Some n → (x : Session) × (numbered k.sessions n ≡ Some x) × (x.owner ≡ j)) where
      abbrev then_mixes : List Mix
      then_mixes = mixes_after ms cut_step sent

      claim_cut : (n : ℕ) (a : CutAt k ms cut_step then_mixes seat.session n) (c : Claim) → IsClaim k.server clock c (way_of a.x a.m) (downs_of a.m.downs) → IsClaim k.server at_ c (way_of a.y a.p) (downs_of a.p.downs)
      claim_cut n a c q = (let b = q.0 in omega (arith, b, le), by a.downs)
        where
          late : IsSafe k.server at_ c (way_of a.x a.m) (downs_of a.m.downs)
          late = safe_later k.server clock at_ c (way_of a.x a.m) (downs_of a.m.downs) le q.1

          by : ((a.y.cut ≡ a.x.cut) × (a.p.downs ≡ a.m.downs)) ⊎ ((seat.session ≡ Some n) × (a.y.cut ≡ true) × (a.p.downs ≡ [])) → IsSafe k.server at_ c (way_of a.y a.p) (downs_of a.p.downs)
          by (inl e) = subst (λ (b : Bool). IsSafe k.server at_ c (record { ups = ups_of a.p; cut = b }) (downs_of a.p.downs)) (sym e.0)
              (subst (λ (us : List Message). IsSafe k.server at_ c (record { ups = us; cut = a.x.cut }) (downs_of a.p.downs)) (sym a.ups)
              (subst (λ (ds : List Down). IsSafe k.server at_ c (way_of a.x a.m) (downs_of ds)) (sym e.1) late))
          by (inr e) = subst (λ (b : Bool). IsSafe k.server at_ c (record { ups = ups_of a.p; cut = b }) (downs_of a.p.downs)) (sym e.1)
              (subst (λ (us : List Message). IsSafe k.server at_ c (record { ups = us; cut = true }) (downs_of a.p.downs)) (sym a.ups)
              (subst (λ (ds : List Down). IsSafe k.server at_ c (record { ups = ups_of a.m; cut = true }) (downs_of ds)) (sym e.2) (safe_cut k.server at_ c (way_of a.x a.m) (downs_of a.m.downs) late)))

      cut_goes : (n : ℕ) (x : Session) → numbered k.sessions n ≡ Some x → Goes clock at_ k cut_step.core ms then_mixes n (λ f. Unit {0})
      cut_goes n x at =
          let a = cut_at n x at in
          record {
            was = a.x;
            mix = a.m;
            is = a.y;
            mixed = a.p;
            was_there = a.x_there;
            mix_there = a.m_there;
            is_there = a.y_there;
            mixed_there = a.p_there;
            owner = a.owner;
            claims = λ file version base keep q. claim_cut n a (claim_of n file version base) q;
          }

      talk_cut : (n : ℕ) (a : CutAt k ms cut_step then_mixes seat.session n) → IsTalking k.server n a.m → IsTalking k.server n a.p
      talk_cut n a w = by a.downs
        where
          by : ((a.y.cut ≡ a.x.cut) × (a.p.downs ≡ a.m.downs)) ⊎ ((seat.session ≡ Some n) × (a.y.cut ≡ true) × (a.p.downs ≡ [])) → IsTalking k.server n a.p
          by (inl e) = record {
            numbers = subst (λ (us : List Message). AreNumbered k.server n us (downs_of a.p.downs)) (sym a.ups) (subst (λ (ds : List Down). AreNumbered k.server n (ups_of a.m) (downs_of ds)) (sym e.1) w.numbers);
            awaited = subst (λ (us : List Message). AreAwaited k.server n us (downs_of a.p.downs)) (sym a.ups) (subst (λ (ds : List Down). AreAwaited k.server n (ups_of a.m) (downs_of ds)) (sym e.1) w.awaited);
          }
          by (inr e) = record {
            numbers = subst (λ (us : List Message). AreNumbered k.server n us (downs_of a.p.downs)) (sym a.ups) (subst (λ (ds : List Down). AreNumbered k.server n (ups_of a.m) (downs_of ds)) (sym e.2) (record { drawn = λ q. record { answers = (w.numbers.drawn q).answers; calls = tt }; apart = tt }));
            awaited = subst (λ (us : List Message). AreAwaited k.server n us (downs_of a.p.downs)) (sym a.ups)
                (subst (λ (ds : List Down). AreAwaited k.server n (ups_of a.m) (downs_of ds)) (sym e.2) (record { waited = λ q. record { answers = (w.awaited.waited q).answers; calls = tt }; once = w.awaited.once; beside = none_beside (ups_of a.m) }));
          }

      notes_cut : (j : ℕ) (was is : Seat) → is.client.cache ≡ was.client.cache → is.client.drift ≡ was.client.drift → is.client.sent ≡ was.client.sent → HasClaims noted clock k ms j was → ((u : Task) → is.client.task ≡ Some u → was.client.task ≡ Some u) → ((u : Task) (n : ℕ) → is.client.task ≡ Some u → is.session ≡ Some n → (was.session ≡ Some n) × (seat.session ≡ Some n → ⊥) × (x : Session) × (numbered k.sessions n ≡ Some x))
          → HasClaims more at_ cut_step.core then_mixes j is
      notes_cut j was is cache drift sent_same c task apart = record {
        drift = drift ∙ c.drift;
        notes = λ f g n at noted_.
            (let o = c.notes f g n (sym (ap (λ (es : Entries). kept_of es f) cache) ∙ at) noted_ in
            note_goes noted more clock at_ k cut_step.core ms then_mixes j f n.version n.until refl refl grows o (λ f. Unit {0}) (cut_goes o.number o.session o.there) tt);
        sent = λ u x under lease. (let s = c.sent u x (task u under) lease in let b = s.2 in (s.0, subst (λ (z : ℕ). IsAmong (noted_at j z s.0) more) (sym sent_same) (grows _ s.1), omega (arith, b, le)));
        promises = λ u n y p under mine at there. promised u n y p under mine at there;
      }
        where
          promised : (u : Task) (n : ℕ) (y : Session) (p : Mix) → is.client.task ≡ Some u → is.session ≡ Some n → numbered cut_step.core.sessions n ≡ Some y → numbered then_mixes n ≡ Some p → AllTails (IsPromised more at_ cut_step.core j n (way_of y p) is.client.sent u) p.downs
          promised u n y p under mine at there =
              let o = apart u n under mine in
              let a = cut_at n o.2 o.3 in
              subst (λ (z : ℕ). AllTails (IsPromised more at_ cut_step.core j n (way_of y p) z u) p.downs) (sym sent_same)
              (subst (λ (z : Session). AllTails (IsPromised more at_ cut_step.core j n (way_of z p) was.client.sent u) p.downs) (some_is a.y y (sym a.y_there ∙ at))
              (subst (λ (z : Mix). AllTails (IsPromised more at_ cut_step.core j n (way_of a.y z) was.client.sent u) z.downs) (some_is a.p p (sym a.p_there ∙ there)) (by a a.downs (c.promises u n a.x a.m (task u under) o.0 a.x_there a.m_there))))
            where
              by : (a : CutAt k ms cut_step then_mixes seat.session n) → ((a.y.cut ≡ a.x.cut) × (a.p.downs ≡ a.m.downs)) ⊎ ((seat.session ≡ Some n) × (a.y.cut ≡ true) × (a.p.downs ≡ [])) → AllTails (IsPromised noted clock k j n (way_of a.x a.m) was.client.sent u) a.m.downs → AllTails (IsPromised more at_ cut_step.core j n (way_of a.y a.p) was.client.sent u) a.p.downs
              by a (inr e) old = subst (AllTails (IsPromised more at_ cut_step.core j n (way_of a.y a.p) was.client.sent u)) (sym e.2) tt
              by a (inl e) old = subst (AllTails (IsPromised more at_ cut_step.core j n (way_of a.y a.p) was.client.sent u)) (sym e.1)
                  (tails_map (IsPromised noted clock k j n (way_of a.x a.m) was.client.sent u) (IsPromised more at_ cut_step.core j n (way_of a.y a.p) was.client.sent u)
                  (λ d ds q. promised_map noted more clock at_ k cut_step.core j n (way_of a.x a.m) (way_of a.y a.p) was.client.sent u d ds ds refl refl grows
                  (λ version base z. (let b = z.0 in (
                    omega (arith, b, le),
                    subst (λ (w : Bool). IsSafe k.server at_ (claim_of n u.file version base) (record { ups = ups_of a.p; cut = w }) (downs_of ds)) (sym e.0)
                        (subst (λ (us : List Message). IsSafe k.server at_ (claim_of n u.file version base) (record { ups = us; cut = a.x.cut }) (downs_of ds)) (sym a.ups) (safe_later k.server clock at_ (claim_of n u.file version base) (way_of a.x a.m) (downs_of ds) le z.1)),
                  ))) q) a.m.downs old)

      cut_claimed_at : Claimed more at_ cut_step.core then_mixes
      cut_claimed_at = record {
        orderly = orderly_later k.server clock at_ le h.orderly;
        recalls = h.recalls;
        talks = λ n p at.
            (let y = also_numbered then_mixes cut_step.core.sessions n p (sym pairs_then) at in
            let x = also_numbered cut_step.core.sessions k.sessions n y.0 (sym count_then) y.1 in
            let a = cut_at n x.0 x.1 in
            subst (λ (z : Mix). IsTalking k.server n z) (some_is a.p p (sym a.p_there ∙ at)) (talk_cut n a (h.talks n a.m a.m_there)));
        seats = λ j e at. seats_then j e at (same_or_not j c);
      }
        where
          seats_then : (j : ℕ) (e : Seat) → numbered (with_numbered k.seats c cut_seat) j ≡ Some e → (j ≡ c) ⊎ (j ≡ c → ⊥) → HasClaims more at_ cut_step.core then_mixes j e
          seats_then j e at (inl mine) =
              subst (λ (z : Seat). HasClaims more at_ cut_step.core then_mixes j z) (some_is cut_seat e (sym (around_with k.seats c seat cut_seat here).there ∙ ap (numbered (with_numbered k.seats c cut_seat)) (sym mine) ∙ at))
              (subst (λ (z : ℕ). HasClaims more at_ cut_step.core then_mixes z cut_seat) (sym mine) (notes_cut c seat cut_seat refl refl refl (h.seats c seat here) (λ u under. nothing_there u under) (λ u n under mine. nothing_there u under)))
          seats_then j e at (inr apart) =
              let there = sym ((around_with k.seats c seat cut_seat here).others j apart) ∙ at in
              notes_cut j e e refl refl refl (h.seats j e there) (λ u under. under) (λ u n under mine.
              (let o = owners j e n there mine in
              (mine, (λ its. (let q = owners c seat n here its in apart (sym o.2 ∙ ap (λ (z : Session). z.owner) (some_is o.0 q.0 (sym o.1 ∙ q.1)) ∙ q.2))), o.0, o.1)))

pub cut_claimed : {all past rest : List Moment} {opening : List Opening} {k : Core} {ms : List Mix} (c : ℕ) {mid after : List Mix} (s : MixStep all past rest opening k ms (Cuts c) mid after) (clock at_ : ℕ) (noted more : List Noted) → clock ≤ at_ → ((x : Noted) → IsAmong x noted → IsAmong x more)
    → (seat : Seat) → numbered k.seats c ≡ Some seat → mid ≡ ms → Claimed noted clock k ms → Claimed more at_ (happens k (Cuts c)).core after
cut_claimed {k = k} {ms = ms} c {mid = mid} {after = after} s clock at_ noted more le grows seat here same h = by seat.client.linked refl
  where
    by : (b : Bool) → seat.client.linked ≡ b → Claimed more at_ (happens k (Cuts c)).core after
    by false e = finish s more at_ (idles k) (ap (cuts k c) here ∙ ap (cuts_if k c seat) e) (λ sent count. idle_claimed k mid clock at_ noted more le grows sent (subst (Claimed noted clock k) (sym same) h))
    by true e = finish s more at_ (cuts_if k c seat true) (ap (cuts k c) here ∙ ap (cuts_if k c seat) e)
        (λ sent. subst (λ (l : List Mix). length (mixes_after l (cuts_if k c seat true) sent) ≡ length (cuts_if k c seat true).core.sessions → Claimed more at_ (cuts_if k c seat true).core (mixes_after l (cuts_if k c seat true) sent)) (sym same)
        (λ count. cut_claimed_at k ms c seat here (pairs_are s) sent count clock at_ noted more le grows h (owners_are s)))
