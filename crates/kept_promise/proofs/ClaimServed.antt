-- The server's events in a run: a call or an answer is taken, a change is made, a connection is lost.
use Rattle.std.proofs.Common.{◌≡◌, ◌⊎◌, inl, inr, ℕ, zero, suc, ◌<◌, ◌≤◌, List, [], ◌∷◌, length, Option, Some, None, Bool, true, false, refl, sym, ap, ◌∙◌, subst, arith, map}
use Rattle.std.specs.List.{AllByRecursion}
use Rattle.clock_rule.specs.declared.rule.Note.{Note as Noted}
use Rattle.wire.specs.declared.message.Message.{Message}
use Rattle.client_state.specs.declared.task.Task.{Task}
use Rattle.client_state.specs.declared.noting.Granted.{Granted}
use Rattle.server_core.specs.State as server
use Rattle.server_core.specs.State.{stands}
use Rattle.server_core.specs.Step.{server_step, hangs_if as server_hangs}
use Rattle.server_core.specs.declared.event.Sent.{Sent}
use Rattle.server_core.specs.declared.event.Event.TheVariants as event
use Rattle.lease_law.specs.Claims.{Way, IsAmong, IsClaim, IsPromise, stored_by}
use Rattle.lease_law.specs.Orderly.{IsOrderly, sent_on, behind_with}
use Rattle.lease_law.proofs.lemmas.Claiming.{behind_none}
use Rattle.lease_law.proofs.lemmas.Events.{orderly_later}
use Rattle.lease_law.proofs.lemmas.Settles.{settle_keeps}
use Rattle.kept_promise.proofs.Common.{Core, CoreStep, Session, Event, Event.Hangs, happens, quiet, settles, hangs, hangs_if, numbered, with_numbered, Moment, Opening, reply_body, Down, Down.Tells, Down.Recalls, Mix, queue_of, loses}
use Rattle.kept_promise.proofs.Lists.{some_is, nothing_there, same_or_not}
use Rattle.kept_promise.proofs.Turns.{Around, also_numbered, numbered_within, around_with, has_owner}
use Rattle.kept_promise.proofs.Leading.{Sends, sent_downs, mix_ups_lost, mixes_lost, mixes_after}
use Rattle.kept_promise.proofs.RunsCarried.{MixStep}
use Rattle.kept_promise.proofs.RecallsKept.{AreAwaited, hung_awaited, hung_recalls, step_term}
use Rattle.kept_promise.proofs.Claimed.{Claimed, IsPromised, AllTails, ups_of, downs_of, way_of}
use Rattle.kept_promise.proofs.ClaimWays.{downs_on, sent_is}
use Rattle.kept_promise.proofs.ClaimFrame.{claim_of, server_orderly}
use Rattle.kept_promise.proofs.ClaimGrants.{grants_by, lease_grants}
use Rattle.kept_promise.proofs.ClaimStill.{quiet_claimed}
use Rattle.kept_promise.proofs.ClaimServer.{Dropped, awaited_dropped, ServerTurn, server_claimed, whole_at, AreApart}
use Rattle.kept_promise.proofs.Mixes.{there_plain}

-- ---- the same in the run

length_map : {A B : Type 0} (f : A → B) (xs : List A) → length (map f xs) ≡ length xs
length_map f [] = refl
length_map f (x ∷ xs) = ap suc (length_map f xs)

module _ {all past rest : List Moment} {opening : List Opening} {k : Core} {ms : List Mix} {e : Event} {mid after : List Mix} (s : MixStep all past rest opening k ms e mid after) where
  pub made_is : length k.sessions ≡ k.server.sessions_made
  made_is = s.plain.kept.made.0

  -- nothing is on its way on a session that is no client's
  pub apart_are : AreApart k ms
  apart_are = record {
    none = λ n x m at is raw. (let shut = (s.plain.kept.strangers n x (queue_of m) at (there_plain ms n m is) raw).shut in let mix = s.fit n x m at is in (mix.strange raw, mix.shut shut, shut));
    seated = λ i seat n x here mine at.
        (let o = (s.plain.kept.seats i seat here).session n mine in
        let same : o.0 ≡ x = some_is o.0 x (sym o.1 ∙ at) in
        has_owner k.seats x seat (ap (λ (z : Session). numbered k.seats z.owner) (sym same) ∙ ap (numbered k.seats) o.2 ∙ here));
  }

  pub pairs_are : length ms ≡ length k.sessions
  pairs_are = sym (length_map queue_of ms) ∙ s.plain.kept.made.1

  -- what holds of the step as it is holds of the event
  pub finish : (more : List Noted) (now : ℕ) (t : CoreStep) → happens k e ≡ t → ((sent : Sends t) → length (mixes_after mid t sent) ≡ length t.core.sessions → Claimed more now t.core (mixes_after mid t sent)) → Claimed more now (happens k e).core after
  finish more now t is go =
      let count : length (mixes_after mid (happens k e) s.sent) ≡ length (happens k e).core.sessions = ap (λ (l : List Mix). length l) (sym s.after_is) ∙ sym (length_map queue_of after) ∙ s.plain.left.made.1 in
      subst (Claimed more now (happens k e).core) (sym s.after_is)
      (subst (λ (c : CoreStep). (sent : Sends c) → length (mixes_after mid c sent) ≡ length c.core.sessions → Claimed more now c.core (mixes_after mid c sent)) (sym is) go s.sent count)

-- ---- what is told of leases

nothing_granted : {A : Type 0} (g : Granted) → ◌≡◌ {A = Option Granted} None (Some g) → A
nothing_granted g e = absurd cc

-- nothing is
pub untold : (noted : List Noted) (clock : ℕ) (k : Core) (i n : ℕ) (way : Way) (sent : ℕ) (u : Task) (ds : List Down) → AllByRecursion (λ m. grants_by m ≡ None) (downs_of ds) → AllTails (IsPromised noted clock k i n way sent u) ds
untold noted clock k i n way sent u [] h = tt
untold noted clock k i n way sent u (Tells a ∷ ds) h = ((λ g mine lease. nothing_granted g (sym h.0 ∙ lease_grants u.stage (reply_body a.reply) g lease)), untold noted clock k i n way sent u ds h.1)
untold noted clock k i n way sent u (Recalls x f ∷ ds) h = (tt, untold noted clock k i n way sent u ds h.1)

-- at another core with the same server
pub promised_as : (noted : List Noted) (clock : ℕ) (k l : Core) (i n : ℕ) (way : Way) (sent : ℕ) (u : Task) → l.server ≡ k.server → l.drift ≡ k.drift → (d : Down) (ds : List Down) → IsPromised noted clock k i n way sent u d ds → IsPromised noted clock l i n way sent u d ds
promised_as noted clock k l i n way sent u server_ drift (Tells a) ds h = λ g mine lease.
    subst (λ (z : server.State). IsPromise z clock l.drift noted i n u.file g.version g.term sent way (downs_of ds)) (sym server_)
    (subst (λ (z : ℕ). Rattle.lease_law.specs.Claims.IsPromise k.server clock z noted i n u.file g.version g.term sent way (downs_of ds)) (sym drift) (h g mine lease))
promised_as noted clock k l i n way sent u server_ drift (Recalls x f) ds h = tt

-- ---- a change is made

pub settle_turn : (k : Core) (ms mid : List Mix) (now : ℕ) → mid ≡ ms → ServerTurn k ms mid (settles k now) (event.Settle now)
settle_turn k ms mid now same = record {
  server = refl;
  sends = refl;
  seats = refl;
  drift = refl;
  term = step_term k.server false (event.Settle now);
  quiet = refl;
  count = refl;
  sessions = λ n x y at is. (let e = some_is x y (sym at ∙ is) in (ap (λ (z : Session). z.owner) (sym e), ap (λ (z : Session). z.cut) (sym e)));
  rest = λ n m r at is. (let e : m ≡ r = some_is m r (sym at ∙ ap (λ (l : List Mix). numbered l n) (sym same) ∙ is) in (ap (λ (z : Mix). z.downs) (sym e), inl (ap ups_of e)));
  own = λ n x m at owned is. tt;
}

pub settled_orderly : (s : server.State) (clock at now : ℕ) → clock ≤ now → at ≤ now → IsOrderly s clock → IsOrderly (server_step s (event.Settle at)).0 now
settled_orderly s clock at now le until o = (settle_keeps now (claim_of 1 0 0 0) (record { ups = []; cut = false }) [] [] (omega arith) s (orderly_later s clock now le o) at until false).orderly

-- ---- a connection is lost

hang_turn : (k : Core) (ms mid : List Mix) (n : ℕ) (x : Session) → numbered k.sessions n ≡ Some x → mid ≡ ms → ServerTurn k ms mid (loses k n x) (event.Hang n)
hang_turn k ms mid n x there same = record {
  server = refl;
  sends = no_sends;
  seats = refl;
  drift = refl;
  term = step_term k.server false (event.Hang n);
  quiet = refl;
  count = around.count;
  sessions = λ m y z at is. sessions_ m y z at is (same_or_not m n);
  rest = λ m q r at is. rest_ m q r at is (same_or_not m n);
  own = λ m y q at owned is. tt;
}
  where
    y_ : Session
    y_ = record x { hung = true }

    around : Around k.sessions (with_numbered k.sessions n y_) n y_
    around = around_with k.sessions n x y_ there

    no_sends : (loses k n x).down ≡ (server_step k.server (event.Hang n)).1.send
    no_sends = by (stands k.server n)
      where
        by : (b : Bool) → [] ≡ (server_hangs k.server b n).1.send
        by true = refl
        by false = refl

    sessions_ : (m : ℕ) (y z : Session) → numbered k.sessions m ≡ Some y → numbered (with_numbered k.sessions n y_) m ≡ Some z → (m ≡ n) ⊎ (m ≡ n → ⊥) → (z.owner ≡ y.owner) × (z.cut ≡ y.cut)
    sessions_ m y z at is (inl mine) =
        let a = some_is x y (sym there ∙ ap (numbered k.sessions) (sym mine) ∙ at) in
        let b = some_is y_ z (sym around.there ∙ ap (numbered (with_numbered k.sessions n y_)) (sym mine) ∙ is) in
        (ap (λ (w : Session). w.owner) (sym b) ∙ ap (λ (w : Session). w.owner) a, ap (λ (w : Session). w.cut) (sym b) ∙ ap (λ (w : Session). w.cut) a)
    sessions_ m y z at is (inr other) = let e = some_is y z (sym at ∙ sym (around.others m other) ∙ is) in (ap (λ (w : Session). w.owner) (sym e), ap (λ (w : Session). w.cut) (sym e))

    lost : (o : Option Mix) → numbered mid n ≡ o → (m : ℕ) (q r : Mix) → numbered ms m ≡ Some q → numbered (mix_ups_lost mid n o) m ≡ Some r → (m ≡ n) ⊎ (m ≡ n → ⊥) → (r.downs ≡ q.downs) × Dropped (ups_of q) (ups_of r)
    lost None none m q r at is side = let e : q ≡ r = some_is q r (sym at ∙ ap (λ (l : List Mix). numbered l m) (sym same) ∙ is) in (ap (λ (z : Mix). z.downs) (sym e), inl (ap ups_of e))
    lost (Some w) here m q r at is (inl mine) =
        let around_mix = around_with mid n w (record w { ups = [] }) here in
        let got : (record w { ups = [] }) ≡ r = some_is (record w { ups = [] }) r (sym around_mix.there ∙ ap (numbered (with_numbered mid n (record w { ups = [] }))) (sym mine) ∙ is) in
        let old : w ≡ q = some_is w q (sym here ∙ ap (λ (l : List Mix). numbered l n) same ∙ ap (numbered ms) (sym mine) ∙ at) in
        (ap (λ (z : Mix). z.downs) (sym got) ∙ ap (λ (z : Mix). z.downs) old, inr (inr (ap ups_of (sym got))))
    lost (Some w) here m q r at is (inr other) =
        let around_mix = around_with mid n w (record w { ups = [] }) here in
        let e : q ≡ r = some_is q r (sym at ∙ ap (λ (l : List Mix). numbered l m) (sym same) ∙ sym (around_mix.others m other) ∙ is) in
        (ap (λ (z : Mix). z.downs) (sym e), inl (ap ups_of e))

    rest_ : (m : ℕ) (q r : Mix) → numbered ms m ≡ Some q → numbered (mixes_lost mid (loses k n x).loss) m ≡ Some r → (m ≡ n) ⊎ (m ≡ n → ⊥) → (r.downs ≡ q.downs) × Dropped (ups_of q) (ups_of r)
    rest_ m q r at is side = lost (numbered mid n) refl m q r at is side

-- nothing is sent
pub none_told : (noted : List Noted) (clock : ℕ) (k : Core) (i n : ℕ) (way : Way) (sent : ℕ) (u : Task) (ds : List Down) (ms : List Message) → downs_of ds ≡ ms → AllByRecursion (λ m. grants_by m ≡ None) ms → AllTails (IsPromised noted clock k i n way sent u) ds
none_told noted clock k i n way sent u ds ms e h = untold noted clock k i n way sent u ds (subst (AllByRecursion (λ m. grants_by m ≡ None)) (sym e) h)

pub still_behind : (way : Way) (downs : List Message) (n : ℕ) (sent : List Sent) → sent ≡ [] → behind_with way downs (sent_on n sent) ≡ downs
still_behind way downs n sent e = ap (λ (l : List Sent). behind_with way downs (sent_on n l)) e ∙ behind_none way downs

-- in whatever event the server sees it lost, or closes it
pub lost_claimed : {all past rest : List Moment} {opening : List Opening} {k : Core} {ms : List Mix} {e : Event} (n : ℕ) {mid after : List Mix} (s : MixStep all past rest opening k ms e mid after) (clock now : ℕ) (noted more : List Noted) → clock ≤ now → ((x : Noted) → IsAmong x noted → IsAmong x more)
    → (x : Session) → numbered k.sessions n ≡ Some x → mid ≡ ms → happens k e ≡ loses k n x → Claimed noted clock k ms → Claimed more now (happens k e).core after
lost_claimed {k = k} {ms = ms} n {mid = mid} {after = after} s clock now noted more le grows x there same is h =
    finish s more now (loses k n x) is (λ sent count.
    server_claimed k ms mid (loses k n x) (event.Hang n) turn (made_is s) (pairs_are s) sent count (apart_are s) clock now noted more grows h le le
    (let m = mix_ in let talk = h.talks n m.0 m.1 in let inside = numbered_within k.sessions n x there in let made = made_is s in
    server_orderly k.server clock now (event.Hang n) h.orderly le le n some (omega (arith, inside, made)) (record { ups = ups_of m.0; cut = false }) (downs_of m.0.downs) talk.numbers tt)
    (hung_recalls k.server false n h.recalls)
    (λ m a owned. awaited_dropped (server_step k.server (event.Hang n)).0 m (ups_of a.m) (ups_of a.left) _ a.dropped
    (subst (AreAwaited (server_step k.server (event.Hang n)).0 m (ups_of a.m)) (sym (still_behind (way_of a.x a.m) (downs_of a.m.downs) m (server_step k.server (event.Hang n)).1.send (sym turn.sends))) (hung_awaited k.server false n m (ups_of a.m) (downs_of a.m.downs) (h.talks m a.m a.m_there).awaited)))
    (λ i seat u m a here task mine uncut. none_told more now (loses k n x).core i m (way_of a.y a.p) seat.client.sent u (downs_on m (sent_downs (loses k n x) sent)) [] (sent_is (loses k n x) sent m (whole_at a uncut)) tt))
  where
    turn : ServerTurn k ms mid (loses k n x) (event.Hang n)
    turn = hang_turn k ms mid n x there same

    some : 0 < n
    some = by n there
      where
        by : (m : ℕ) → numbered k.sessions m ≡ Some x → 0 < m
        by zero e = nothing_there x e
        by (suc m) e = omega arith

    mix_ : (m : Mix) × (numbered ms n ≡ Some m)
    mix_ = also_numbered k.sessions ms n x (pairs_are s) there

pub hung_claimed : {all past rest : List Moment} {opening : List Opening} {k : Core} {ms : List Mix} (n : ℕ) {mid after : List Mix} (s : MixStep all past rest opening k ms (Hangs n) mid after) (clock now : ℕ) (noted more : List Noted) → clock ≤ now → ((x : Noted) → IsAmong x noted → IsAmong x more)
    → (x : Session) → numbered k.sessions n ≡ Some x → mid ≡ ms → Claimed noted clock k ms → Claimed more now (happens k (Hangs n)).core after
hung_claimed {k = k} {ms = ms} n {mid = mid} {after = after} s clock now noted more le grows x there same h = by x.hung refl
  where
    by : (b : Bool) → x.hung ≡ b → Claimed more now (happens k (Hangs n)).core after
    by true hung = finish s more now (quiet k) (ap (hangs k n) there ∙ ap (hangs_if k n x) hung) (λ sent count. quiet_claimed k mid clock now noted more le grows sent (subst (Claimed noted clock k) (sym same) h))
    by false unhung = lost_claimed n s clock now noted more le grows x there same (ap (hangs k n) there ∙ ap (hangs_if k n x) unhung) h
