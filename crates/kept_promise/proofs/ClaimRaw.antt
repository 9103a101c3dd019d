-- What comes on a session that is no client's is taken by the server: claims go on in a run.
use Rattle.std.proofs.Common.{◌≡◌, ◌⊎◌, inl, inr, ℕ, suc, ◌<◌, ◌≤◌, List, [], ◌∷◌, Some, Result, Ok, Err, Bool, true, false, refl, sym, ap, ◌∙◌, subst, arith, ◌+◌, None}
use Rattle.std.specs.List.{list_any, AllByRecursion}
use Rattle.clock_rule.specs.declared.rule.Note.{Note as Noted}
use Rattle.hash_calls.specs.declared.message.Lb.TheVariants as lb
use Rattle.wire.specs.Parse.{parse_of}
use Rattle.wire.specs.declared.fault.WireFault.{WireFault}
use Rattle.wire.specs.declared.fault.WireFault.TheVariants as fault
use Rattle.wire.specs.declared.message.Body.{Body}
use Rattle.wire.specs.declared.message.Body.TheVariants as body
use Rattle.wire.specs.declared.message.Message.{Message}
use Rattle.wire.specs.declared.message.Message.TheVariants as message
use Rattle.callback_core.specs.BackCalls.{answered, call_at}
use Rattle.callback_core.specs.declared.back_calls.BackCall.{BackCall}
use Rattle.server_core.specs.State as server
use Rattle.server_core.specs.State.{stands}
use Rattle.server_core.specs.Step.{server_step, got_if_under}
use Rattle.server_core.specs.Closing.{at}
use Rattle.server_core.specs.declared.event.Event.TheVariants as event
use Rattle.server_core.specs.declared.event.ServerStep.{ServerStep}
use Rattle.trace_ends.specs.Core.{server_got, server_waits, idles, serves_none}
use Rattle.lease_law.specs.Claims.{Way, Claim, IsAmong}
use Rattle.lease_law.specs.Orderly.{IsOrderly, sent_on, behind_with}
use Rattle.lease_law.proofs.lemmas.Calls.{IsReady, got_keeps}
use Rattle.lease_law.proofs.lemmas.Events.{orderly_later}
use Rattle.lease_law.proofs.lemmas.Settles.{max_least}
use Rattle.kept_promise.proofs.Common.{Core, Session, is_raw, Event.Serves, happens, serves, serves_if, serves_unless, quiet, numbered, with_numbered, Moment, Opening, Mix, taken_with}
use Rattle.kept_promise.proofs.Lists.{some_is, same_or_not, true_and_false}
use Rattle.kept_promise.proofs.Turns.{Around, around_with}
use Rattle.kept_promise.proofs.Leading.{sent_downs}
use Rattle.kept_promise.proofs.RunsCarried.{MixStep}
use Rattle.kept_promise.proofs.RecallsKept.{AreRecalls, AreAwaited, AreWaited, Moves, call_moves, moves_recalls, moves_awaited, used_recalls, used_apart, step_term}
use Rattle.kept_promise.proofs.Claimed.{Claimed, ups_of, downs_of, way_of}
use Rattle.kept_promise.proofs.ClaimWays.{downs_on, sent_is}
use Rattle.kept_promise.proofs.ClaimFrame.{claim_of}
use Rattle.kept_promise.proofs.ClaimGrants.{grants_by, call_grantless, on_grantless}
use Rattle.kept_promise.proofs.ClaimStill.{quiet_claimed, idle_claimed}
use Rattle.kept_promise.proofs.ClaimServer.{ServerTurn, awaited_dropped, server_claimed, whole_at}
use Rattle.kept_promise.proofs.ClaimServed.{made_is, pairs_are, apart_are, finish, none_told, still_behind, lost_claimed}
use Rattle.kept_promise.proofs.ClaimServes.{elsewhere}
use Rattle.std.specs.Prelude.{◌==◌}

-- the server stays in order, whatever it is sent
got_orderly : (s : server.State) (clock now n : ℕ) (m : Message) → clock ≤ now → IsOrderly s clock → IsOrderly (server_step s (event.Got n m now)).0 now
got_orderly s clock now n m le o = by (stands s n)
  where
    -- another session's
    other : Claim
    other = claim_of (suc n) 0 0 0

    way : Way
    way = record { ups = []; cut = false }

    ready : IsReady (at s now) now other way
    ready =
        let early = o.early in
        record {
          orderly = record { early = max_least s.leasing.moment now now (omega (arith, early, le)) (omega arith); ordered = o.ordered; changes = o.changes; given = o.given };
          base = omega arith;
          answered = λ q. tt;
          some = omega arith;
        }

    by : (b : Bool) → IsOrderly (got_if_under s false b n m now).0 now
    by true = (got_keeps now other way [] [] (at s now) ready false n m (λ same. absurd (omega (arith, same)))).orderly
    by false = orderly_later s clock now le o

module _ {all past rest : List Moment} {opening : List Opening} {k : Core} {ms : List Mix} (n now : ℕ) (bytes : List ℕ) {mid after : List Mix} (s : MixStep all past rest opening k ms (Serves n now bytes) mid after) (clock : ℕ) (noted more : List Noted) (le : clock ≤ now) (grows : (x : Noted) → IsAmong x noted → IsAmong x more)
    (x : Session) (there : numbered k.sessions n ≡ Some x) (raw : is_raw x ≡ true) (same : mid ≡ ms) (h : Claimed noted clock k ms) where
  abbrev stepped : Message → server.State × ServerStep
  stepped m = server_step k.server (event.Got n m now)

  -- a client's session is another
  away : (j : ℕ) (y : Session) → numbered k.sessions j ≡ Some y → is_raw y ≡ false → n ≡ j → ⊥
  away j y here owned mine = true_and_false (is_raw x) raw (ap is_raw (some_is x y (sym there ∙ ap (numbered k.sessions) mine ∙ here)) ∙ owned)

  raw_turn : (m : Message) → ServerTurn k ms mid (server_got k n now x m) (event.Got n m now)
  raw_turn m = record {
    server = refl;
    sends = refl;
    seats = refl;
    drift = refl;
    term = step_term k.server false (event.Got n m now);
    quiet = refl;
    count = around.count;
    sessions = λ j y z here to. sessions_ j y z here to (same_or_not j n);
    rest = λ j q r here to. (let e : q ≡ r = some_is q r (sym here ∙ ap (λ (l : List Mix). numbered l j) (sym same) ∙ to) in (ap (λ (z : Mix). z.downs) (sym e), inl (ap ups_of e)));
    own = λ j y q here owned is mine. absurd (away j y here owned mine);
  }
    where
      taken : Session
      taken = record x { taken = taken_with x.taken m (k.steps + 1) }

      around : Around k.sessions (with_numbered k.sessions n taken) n taken
      around = around_with k.sessions n x taken there

      sessions_ : (j : ℕ) (y z : Session) → numbered k.sessions j ≡ Some y → numbered (with_numbered k.sessions n taken) j ≡ Some z → (j ≡ n) ⊎ (j ≡ n → ⊥) → (z.owner ≡ y.owner) × (z.cut ≡ y.cut)
      sessions_ j y z here to (inl mine) =
          let a = some_is x y (sym there ∙ ap (numbered k.sessions) (sym mine) ∙ here) in
          let b = some_is taken z (sym around.there ∙ ap (numbered (with_numbered k.sessions n taken)) (sym mine) ∙ to) in
          (ap (λ (w : Session). w.owner) (sym b) ∙ ap (λ (w : Session). w.owner) a, ap (λ (w : Session). w.cut) (sym b) ∙ ap (λ (w : Session). w.cut) a)
      sessions_ j y z here to (inr other) = (let e = some_is y z (sym here ∙ sym (around.others j other) ∙ to) in (ap (λ (w : Session). w.owner) (sym e), ap (λ (w : Session). w.cut) (sym e)))

  recalls_then : (m : Message) → AreRecalls (stepped m).0.leasing.calls
  recalls_then (message.Call xid b) = moves_recalls k.server (stepped (message.Call xid b)) (call_moves k.server false n xid b now) h.recalls
  recalls_then (message.Unfit xid why) = by (stands k.server n)
    where
      by : (b : Bool) → AreRecalls (got_if_under k.server false b n (message.Unfit xid why) now).0.leasing.calls
      by true = h.recalls
      by false = h.recalls
  recalls_then (message.Answer xid b) = by (stands k.server n)
    where
      by : (d : Bool) → AreRecalls (got_if_under k.server false d n (message.Answer xid b) now).0.leasing.calls
      by true = used_recalls n xid k.server.leasing.calls h.recalls
      by false = h.recalls
  recalls_then (message.Refuse xid why) = by (stands k.server n)
    where
      by : (b : Bool) → AreRecalls (got_if_under k.server false b n (message.Refuse xid why) now).0.leasing.calls
      by true = used_recalls n xid k.server.leasing.calls h.recalls
      by false = h.recalls

  -- what is on its way on another session is waited for as it was
  module _ (j : ℕ) (y : Session) (q : Mix) (is : numbered ms j ≡ Some q) (apart : n ≡ j → ⊥) where
    abbrev Awaited : server.State × ServerStep → Type 0
    Awaited r = AreAwaited r.0 j (ups_of q) (behind_with (way_of y q) (downs_of q.downs) (sent_on j r.1.send))

    moved : (r : server.State × ServerStep) → Moves k.server r → Awaited r
    moved r m = (let talk = h.talks j q is in moves_awaited k.server j (way_of y q) (downs_of q.downs) h.recalls talk.numbers talk.awaited r m)

    still : (r : server.State × ServerStep) → r.1.send ≡ [] → r.0 ≡ k.server → Awaited r
    still r none state = subst (AreAwaited r.0 j (ups_of q)) (sym (still_behind (way_of y q) (downs_of q.downs) j r.1.send none)) (subst (λ (z : server.State). AreAwaited z j (ups_of q) (downs_of q.downs)) (sym state) (h.talks j q is).awaited)

    used : (xid : ℕ) (r : server.State × ServerStep) → r.1.send ≡ [] → r.0.leasing.calls ≡ answered k.server.leasing.calls n xid → r.0.sessions ≡ k.server.sessions → Awaited r
    used xid r none calls sessions =
        let was = (h.talks j q is).awaited in
        subst (AreAwaited r.0 j (ups_of q)) (sym (still_behind (way_of y q) (downs_of q.downs) j r.1.send none)) (record {
          waited = λ up. subst (λ (cs : List BackCall). AreWaited (call_at cs j).waits (ups_of q) (downs_of q.downs)) (sym calls)
              (subst (λ (c : BackCall). AreWaited c.waits (ups_of q) (downs_of q.downs)) (sym (used_apart k.server n xid now j apart)) (was.waited (ap (λ (l : List ℕ). list_any (λ i. i == j) l) (sym sessions) ∙ up)));
          once = was.once;
          beside = was.beside;
        })

    awaits : (m : Message) → Awaited (stepped m)
    awaits (message.Call xid b) = moved (stepped (message.Call xid b)) (call_moves k.server false n xid b now)
    awaits (message.Unfit xid why) = by (stands k.server n)
      where
        by : (b : Bool) → Awaited (got_if_under k.server false b n (message.Unfit xid why) now)
        by true = moved (got_if_under k.server false true n (message.Unfit xid why) now) (inl (record { calls = refl; term = refl; sessions = refl; plain = (refl, tt) }))
        by false = still (got_if_under k.server false false n (message.Unfit xid why) now) refl refl
    awaits (message.Answer xid b) = by (stands k.server n)
      where
        by : (d : Bool) → Awaited (got_if_under k.server false d n (message.Answer xid b) now)
        by true = used xid (got_if_under k.server false true n (message.Answer xid b) now) refl refl refl
        by false = still (got_if_under k.server false false n (message.Answer xid b) now) refl refl
    awaits (message.Refuse xid why) = by (stands k.server n)
      where
        by : (b : Bool) → Awaited (got_if_under k.server false b n (message.Refuse xid why) now)
        by true = used xid (got_if_under k.server false true n (message.Refuse xid why) now) refl refl refl
        by false = still (got_if_under k.server false false n (message.Refuse xid why) now) refl refl

    -- nor is it told of a lease
    abbrev Untold : server.State × ServerStep → Type 0
    Untold r = AllByRecursion (λ w. grants_by w ≡ None) (sent_on j r.1.send)

    untold_call : (xid : ℕ) (b : Body) → Untold (stepped (message.Call xid b))
    untold_call xid (body.Lb (lb.GetLease z)) = by (stands k.server n)
      where
        by : (d : Bool) → Untold (got_if_under k.server false d n (message.Call xid (body.Lb (lb.GetLease z))) now)
        by true = subst (AllByRecursion (λ w. grants_by w ≡ None)) (sym (elsewhere n j _ (λ e. apart (sym e)))) tt
        by false = tt
    untold_call xid (body.Lb (lb.GetHash r)) = by (stands k.server n)
      where
        by : (d : Bool) → Untold (got_if_under k.server false d n (message.Call xid (body.Lb (lb.GetHash r))) now)
        by true = subst (AllByRecursion (λ w. grants_by w ≡ None)) (sym (elsewhere n j _ (λ e. apart (sym e)))) tt
        by false = tt
    untold_call xid b = on_grantless j (stepped (message.Call xid b)).1.send (call_grantless k.server n xid b now tt)

    untold_then : (m : Message) → Untold (stepped m)
    untold_then (message.Call xid b) = untold_call xid b
    untold_then (message.Unfit xid why) = by (stands k.server n)
      where
        by : (b : Bool) → Untold (got_if_under k.server false b n (message.Unfit xid why) now)
        by true = on_grantless j (got_if_under k.server false true n (message.Unfit xid why) now).1.send (refl, tt)
        by false = tt
    untold_then (message.Answer xid b) = by (stands k.server n)
      where
        by : (d : Bool) → Untold (got_if_under k.server false d n (message.Answer xid b) now)
        by true = tt
        by false = tt
    untold_then (message.Refuse xid why) = by (stands k.server n)
      where
        by : (b : Bool) → Untold (got_if_under k.server false b n (message.Refuse xid why) now)
        by true = tt
        by false = tt

  got : (m : Message) → happens k (Serves n now bytes) ≡ server_got k n now x m → Claimed more now (happens k (Serves n now bytes)).core after
  got m does = finish s more now (server_got k n now x m) does (λ sent count.
      server_claimed k ms mid (server_got k n now x m) (event.Got n m now) (raw_turn m) (made_is s) (pairs_are s) sent count (apart_are s) clock now noted more grows h (le, omega arith) le
      (got_orderly k.server clock now n m le h.orderly)
      (recalls_then m)
      (λ j a owned. awaited_dropped (stepped m).0 j (ups_of a.m) (ups_of a.left) _ a.dropped (awaits j a.x a.m a.m_there (away j a.x a.x_there owned) m))
      (λ i seat u j a here task mine uncut. none_told more now (server_got k n now x m).core i j (way_of a.y a.p) seat.client.sent u (downs_on j (sent_downs (server_got k n now x m) sent)) (sent_on j (stepped m).1.send) (sent_is (server_got k n now x m) sent j (whole_at a uncut))
      (untold_then j a.x a.m a.m_there (away j a.x a.x_there ((apart_are s).seated i seat j a.x here mine a.x_there)) m)))

  pub raw_served_claimed : Claimed more now (happens k (Serves n now bytes)).core after
  raw_served_claimed = heard x.hung refl
    where
      as_before : Claimed noted clock k mid
      as_before = subst (Claimed noted clock k) (sym same) h

      served : x.hung ≡ false → (r : Result Message WireFault) → parse_of (server_waits k n) bytes ≡ r → happens k (Serves n now bytes) ≡ serves_if k n now x r
      served unhung r is = ap (serves k n now bytes) there ∙ ap (serves_unless k n now bytes x) unhung ∙ ap (serves_if k n now x) is

      none : x.hung ≡ false → (e : WireFault) → happens k (Serves n now bytes) ≡ serves_none k n x e → Claimed more now (happens k (Serves n now bytes)).core after
      none unhung (fault.UnknownXid xid) does = finish s more now (idles k) does (λ sent count. idle_claimed k mid clock now noted more le grows sent as_before)
      none unhung (fault.NotRpc place) does = lost_claimed n s clock now noted more le grows x there same does h
      none unhung (fault.Garbage place) does = lost_claimed n s clock now noted more le grows x there same does h

      read : x.hung ≡ false → (r : Result Message WireFault) → parse_of (server_waits k n) bytes ≡ r → Claimed more now (happens k (Serves n now bytes)).core after
      read unhung (Ok m) is = got m (served unhung (Ok m) is)
      read unhung (Err e) is = none unhung e (served unhung (Err e) is)

      heard : (b : Bool) → x.hung ≡ b → Claimed more now (happens k (Serves n now bytes)).core after
      heard true is = finish s more now (quiet k) (ap (serves k n now bytes) there ∙ ap (serves_unless k n now bytes x) is) (λ sent count. quiet_claimed k mid clock now noted more le grows sent as_before)
      heard false is = read is (parse_of (server_waits k n) bytes) refl
