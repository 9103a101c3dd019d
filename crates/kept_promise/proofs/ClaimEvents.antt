-- Each event of a run keeps claims.
use Rattle.std.proofs.Common.{◌≡◌, inl, ℕ, ◌≤◌, List, [], ◌∷◌, ◌++◌, Option, Some, Ok, Bool, true, false, refl, sym, ap, ◌∙◌, subst, arith, map, inr}
use Rattle.std.specs.Prelude.{not}
use Rattle.std.specs.List.{AllByRecursion}
use Rattle.clock_rule.specs.declared.rule.Note.{Note as Noted}
use Rattle.wire.specs.Parse.{parse_of}
use Rattle.wire.specs.declared.message.Message.{Message}
use Rattle.server_core.specs.State.{stands}
use Rattle.trace_ends.specs.Core.{server_got, server_waits}
use Rattle.lease_law.specs.Claims.{IsAmong, noted_at}
use Rattle.kept_promise.proofs.Common.{Core, Session, Event, Event.Joins, Event.Does, Event.Serves, Event.Hears, Event.Settles, Event.Cuts, Event.Hangs, happens, serves, serves_if, numbered, with_numbered, Moment, Opening, Up, Up.Asks, Up.Replies, up_message, Down, Down.Tells, Down.Recalls, down_message, Mix, queue_of, asks_in, ask_message, reply_message, message_spell, Event.RawJoins, serves_unless, is_raw}
use Rattle.kept_promise.proofs.Turns.{also_numbered, raw_or_owned}
use Rattle.kept_promise.proofs.Mixes.{there_plain, UpFits}
use Rattle.kept_promise.proofs.Fits.{FitLaws}
use Rattle.kept_promise.proofs.Serves.{parsed_at}
use Rattle.kept_promise.proofs.Messages.{AllAsks}
use Rattle.kept_promise.proofs.Statements.{CallFits}
use Rattle.kept_promise.proofs.RunsCarried.{MixStep, moment}
use Rattle.kept_promise.proofs.Claimed.{Claimed, IsClocked, noted_in, noted_of, downs_of}
use Rattle.kept_promise.proofs.RecallsKept.{AreAwaited}
use Rattle.kept_promise.proofs.Replies.{reply_fits}
use Rattle.kept_promise.proofs.ClaimClocks.{among_left, among_right}
use Rattle.kept_promise.proofs.ClaimServed.{pairs_are, hung_claimed}
use Rattle.kept_promise.proofs.ClaimCalls.{settle_claimed}
use Rattle.kept_promise.proofs.ClaimServes.{ask_taken_claimed, reply_taken_claimed}
use Rattle.kept_promise.proofs.ClaimRaw.{raw_served_claimed}
use Rattle.kept_promise.proofs.ClaimCuts.{cut_claimed}
use Rattle.kept_promise.proofs.ClaimJoins.{join_claimed, raw_join_claimed}
use Rattle.kept_promise.proofs.ClaimRecalls.{recall_claimed}
use Rattle.kept_promise.proofs.ClaimHears.{does_claimed, told_claimed}

module _ (laws : FitLaws) (all past rest : List Moment) (opening : List Opening) (k : Core) (ms : List Mix) where
  abbrev Goal : (e : Event) → (mid after : List Mix) → Type 0
  Goal e mid after = MixStep all past rest opening k ms e mid after → (clock at : ℕ) (noted : List Noted) → IsClocked k.server.leasing.term k.drift clock noted at (moment k e) → Claimed noted clock k ms → Claimed (noted ++ noted_in at k e) at (happens k e).core after

  grows_to : (noted more : List Noted) (x : Noted) → IsAmong x noted → IsAmong x (noted ++ more)
  grows_to noted more x there = among_left x noted more there

  serves_goal : (n now : ℕ) (bytes : List ℕ) (mid after : List Mix) → Goal (Serves n now bytes) mid after
  serves_goal n now bytes mid after s clock at noted clocked h = subst (λ (z : ℕ). Claimed (noted ++ []) z (happens k (Serves n now bytes)).core after) clocked.read (elim s.found [
    | inl f ↦ by f
    | inr f ↦ raw_served_claimed n now bytes s clock noted (noted ++ []) le (grows_to noted []) f.0 f.1 f.2 f.3 h
  ])
    where
      le : clock ≤ now
      le = let a = clocked.after in let b = clocked.read in omega (arith, a, b)

      by : (f : (m : Mix) × (u : Up) × (us : List Up) × (numbered ms n ≡ Some m) × (m.ups ≡ u ∷ us) × (bytes ≡ message_spell (up_message u)) × (mid ≡ with_numbered ms n (record m { ups = us }))) → Claimed (noted ++ []) now (happens k (Serves n now bytes)).core after
      by (m, u, us, is, first, bytes_is, mid_is) = kind u first bytes_is
        where
          x : (y : Session) × (numbered k.sessions n ≡ Some y)
          x = also_numbered ms k.sessions n m (sym (pairs_are s)) is

          unhung : x.0.hung ≡ false
          unhung = hung_ (x.0.hung) refl
            where
              some_none : (v : Up) (vs : List Up) → v ∷ vs ≡ [] → ⊥
              some_none v vs e = absurd cc

              hung_ : (b : Bool) → x.0.hung ≡ b → x.0.hung ≡ false
              hung_ false e = e
              hung_ true e = absurd (some_none u us (sym first ∙ (s.fit n x.0 m x.1 is).lost e))

          owned : is_raw x.0 ≡ false
          owned = elim (raw_or_owned x.0) [ inr own ↦ own | inl raw ↦ some_none u us (sym first ∙ (s.fit n x.0 m x.1 is).strange raw) ]
            where
              some_none : {A : Type 0} (v : Up) (vs : List Up) → v ∷ vs ≡ [] → A
              some_none v vs e = absurd cc

          up : stands k.server n ≡ true
          up = (s.plain.kept.sessions n x.0 (queue_of m) x.1 (there_plain ms n m is) owned).stands_is ∙ ap not unhung

          serves_as : (w : Message) → bytes ≡ message_spell w → parse_of (server_waits k n) (message_spell w) ≡ Ok w → happens k (Serves n now bytes) ≡ server_got k n now x.0 w
          serves_as w is_bytes read =
              ap (serves k n now bytes) x.1 ∙ ap (serves_unless k n now bytes x.0) unhung ∙ ap (λ (b : List ℕ). serves_if k n now x.0 (parse_of (server_waits k n) b)) is_bytes ∙ ap (serves_if k n now x.0) read

          kind : (v : Up) → m.ups ≡ v ∷ us → bytes ≡ message_spell (up_message v) → Claimed (noted ++ []) now (happens k (Serves n now bytes)).core after
          kind (Asks a) first is_bytes =
              let fits = subst (λ (l : List Up). AllAsks (λ b. CallFits b.lbfs b.xid b.call) (asks_in l)) first (s.plain.kept.sessions n x.0 (queue_of m) x.1 (there_plain ms n m is) owned).ups_fit in
              ask_taken_claimed n now bytes s clock noted (noted ++ []) le (grows_to noted []) x.0 m a us x.1 is owned first mid_is up (serves_as (ask_message a) is_bytes (parsed_at laws k n a fits.0)) h
          kind (Replies xid) first is_bytes =
              let waited = subst (λ (l : List Up). AreAwaited k.server n (map up_message l) (downs_of m.downs)) first (h.talks n m is).awaited in
              let fits = subst (λ (l : List Up). AllByRecursion UpFits l) first (s.fit n x.0 m x.1 is).ups in
              reply_taken_claimed n now bytes s clock noted (noted ++ []) le (grows_to noted []) x.0 m xid us x.1 is owned first mid_is
              (serves_as (reply_message xid) is_bytes (laws.again (server_waits k n) (reply_message xid) (reply_fits xid fits.0).0 ((waited.waited up).answers.0, tt))) h

  hears_goal : (n now : ℕ) (bytes : List ℕ) (mid after : List Mix) → Goal (Hears n now bytes) mid after
  hears_goal n now bytes mid after s clock at noted clocked h = by s.found
    where
      by : (f : (m : Mix) × (d : Down) × (ds : List Down) × (numbered ms n ≡ Some m) × (m.downs ≡ d ∷ ds) × (bytes ≡ message_spell (down_message d)) × (mid ≡ with_numbered ms n (record m { downs = ds }))) → Claimed (noted ++ noted_in at k (Hears n now bytes)) at (happens k (Hears n now bytes)).core after
      by (m, Tells a, ds, is, first, bytes_is, mid_is) =
          told_claimed laws n now bytes s clock at noted (noted ++ noted_in at k (Hears n now bytes)) clocked.after (grows_to noted (noted_in at k (Hears n now bytes))) m a ds is first bytes_is mid_is
          (λ x there. among_right (noted_at x.owner now at) noted (noted_in at k (Hears n now bytes)) (subst (λ (o : Option Session). IsAmong (noted_at x.owner now at) (noted_of at now o)) (sym there) (inl refl))) h
      by (m, Recalls xid f, ds, is, first, bytes_is, mid_is) =
          recall_claimed laws n now bytes s clock at noted (noted ++ noted_in at k (Hears n now bytes)) clocked.after (grows_to noted (noted_in at k (Hears n now bytes))) m xid f ds is first bytes_is mid_is h

  pub event_claimed : (e : Event) (mid after : List Mix) → Goal e mid after
  event_claimed (Joins c) mid after s clock at noted clocked h = let f = s.found in join_claimed c s clock at noted (noted ++ []) clocked.after (grows_to noted []) f.0.0 f.0.1 f.0.2 f.0.3 f.0.4 f.1 h
  event_claimed (Does i now d) mid after s clock at noted clocked h =
      let f = s.found in
      does_claimed i now d s clock at noted (noted ++ noted_at i now at ∷ []) clocked.after (grows_to noted (noted_at i now at ∷ [])) (among_right (noted_at i now at) noted (noted_at i now at ∷ []) (inl refl)) f.0.0 f.0.1 f.1 h
  event_claimed (Serves n now bytes) mid after s clock at noted clocked h = serves_goal n now bytes mid after s clock at noted clocked h
  event_claimed (Hears n now bytes) mid after s clock at noted clocked h = hears_goal n now bytes mid after s clock at noted clocked h
  event_claimed (Settles now) mid after s clock at noted clocked h =
      let a = clocked.after in let b = clocked.read in
      subst (λ (z : ℕ). Claimed (noted ++ []) z (happens k (Settles now)).core after) clocked.read (settle_claimed now s clock noted (noted ++ []) (omega (arith, a, b)) (grows_to noted []) s.found.1 h)
  event_claimed RawJoins mid after s clock at noted clocked h = let f = s.found in raw_join_claimed s clock at noted (noted ++ []) clocked.after (grows_to noted []) f.0.0 f.0.1 f.1 h
  event_claimed (Cuts c) mid after s clock at noted clocked h = let f = s.found in cut_claimed c s clock at noted (noted ++ []) clocked.after (grows_to noted []) f.0.0 f.0.1 f.1 h
  event_claimed (Hangs n) mid after s clock at noted clocked h = let f = s.found in hung_claimed n s clock at noted (noted ++ []) clocked.after (grows_to noted []) f.0.0 f.0.1 f.1 h
