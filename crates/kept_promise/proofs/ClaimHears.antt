-- A command, and what comes to a client: claims go on in a run.
use Rattle.std.proofs.Common.{◌≡◌, ◌⊎◌, inl, inr, ℕ, zero, suc, ◌+◌, ◌<◌, ◌≤◌, List, [], ◌∷◌, length, Option, Some, None, Ok, Bool, true, false, refl, sym, ap, ◌∙◌, subst, arith, map}
use Rattle.std.specs.Prelude.{slice_get, nat_lt}
use Rattle.std.specs.List.{AllByRecursion}
use Rattle.std.proofs.lemmas.Bool.Decides.{nat_tests}
use Rattle.clock_rule.specs.declared.rule.Note.{Note as Noted}
use Rattle.client_cache.specs.declared.kept.Note.{Note}
use Rattle.client_state.specs.State as client
use Rattle.client_state.specs.declared.step.ClientStep.{ClientStep}
use Rattle.client_state.specs.declared.task.Stage.{Stage}
use Rattle.client_state.specs.declared.task.Stage.TheVariants as stage
use Rattle.open_close.specs.Step.{command_step, got_step}
use Rattle.server_core.specs.State as server
use Rattle.lease_law.specs.Claims.{IsAmong, IsNote, noted_at}
use Rattle.kept_promise.proofs.Common.{Core, CoreStep, Seat, Session, Event, Event.Does, Event.Hears, happens, does, acted, commanded_sessions, session_of, numbered, with_numbered, Moment, Book, Opening, Command, Told, told_message, message_spell, Down, Down.Tells, Down.Recalls, tolds_in, Mix, queue_of, word_of, Queue, commanded_session, place_with, place_after}
use Rattle.kept_promise.proofs.Lists.{some_is, nothing_there, same_or_not, set_count}
use Rattle.kept_promise.proofs.Keys.{there_by}
use Rattle.kept_promise.proofs.Turns.{around_with, has_owner, owned_uncut}
use Rattle.kept_promise.proofs.Heard.{told_pending}
use Rattle.kept_promise.proofs.Moves.{told_there}
use Rattle.kept_promise.proofs.Messages.{Job, job, CloseOf}
use Rattle.kept_promise.proofs.Facts.{IsBalanced, IsKept}
use Rattle.kept_promise.proofs.Mixes.{there_plain}
use Rattle.kept_promise.proofs.Fits.{FitLaws}
use Rattle.kept_promise.proofs.Actors.{Heard, heard_at, heard_acts}
use Rattle.kept_promise.proofs.Leading.{Sends, mixes_after}
use Rattle.kept_promise.proofs.RunsCarried.{MixStep, book_at}
use Rattle.kept_promise.proofs.Claimed.{Claimed, HasNote, IsPromised, AllTails, downs_of, way_of}
use Rattle.kept_promise.proofs.ClaimFrame.{note_map}
use Rattle.kept_promise.proofs.ClaimServed.{pairs_are, finish}
use Rattle.kept_promise.proofs.ClaimCalls.{job_task}
use Rattle.kept_promise.proofs.ClaimActs.{Acts, ActAt, IsBelow, Spare, act_at, claim_way, acts_claimed}
use Rattle.kept_promise.proofs.NoteSteps.{StepKeeps, NewNote, ClosesSmall, IsStoring, until_is, command_keeps, told_keeps}

-- ---- answers on their way are to earlier calls

told_below : (n : ℕ) (w : List server.FileChange) (q : Queue) (hung : Bool) (c : client.State) (i : ℕ) (t : Told) → IsBalanced n w q hung c.next_xid (client.calls_of c) → slice_get q.downs i ≡ Some t → t.xid < c.next_xid
told_below n w q hung c i t h at = by (nat_lt t.xid c.next_xid) refl
  where
    by : (b : Bool) → nat_lt t.xid c.next_xid ≡ b → t.xid < c.next_xid
    by true e = grind (arith, nat_tests, e)
    by false e =
        let p = told_there n w q hung c.next_xid (client.calls_of c) i t h at in
        let some = there_by (λ z. z.xid) (client.calls_of c) p.0 (told_pending t) p.1 in
        let le : c.next_xid ≤ t.xid = grind (arith, nat_tests, e) in
        let none = h.below t.xid le in
        absurd (omega (arith, some, none))

all_below : (next : ℕ) (ds : List Down) → ((i : ℕ) (t : Told) → slice_get (tolds_in ds) i ≡ Some t → t.xid < next) → AllByRecursion (IsBelow next) ds
all_below next [] h = tt
all_below next (Tells t ∷ ds) h = (h zero t refl, all_below next ds (λ i u at. h (suc i) u at))
all_below next (Recalls x f ∷ ds) h = (tt, all_below next ds h)

module _ {all past rest : List Moment} {opening : List Opening} {k : Core} {ms : List Mix} {e : Event} {mid after : List Mix} (s : MixStep all past rest opening k ms e mid after) where
  pub owners_are : (j : ℕ) (c : Seat) (n : ℕ) → numbered k.seats j ≡ Some c → c.session ≡ Some n → (x : Session) × (numbered k.sessions n ≡ Some x) × (x.owner ≡ j)
  owners_are j c n at mine = (s.plain.kept.seats j c at).session n mine

  shut_none : (ds : List Down) (next : ℕ) → tolds_in ds ≡ [] → AllByRecursion (IsBelow next) ds
  shut_none ds next e = all_below next ds (λ i t at. nothing_there t (sym (ap (λ (l : List Told). slice_get l i) e) ∙ at))

  -- of a client's own session
  pub below_are : (i : ℕ) (seat : Seat) → numbered k.seats i ≡ Some seat → (n : ℕ) (m : Mix) → seat.session ≡ Some n → numbered ms n ≡ Some m → AllByRecursion (IsBelow seat.client.next_xid) m.downs
  below_are i seat here n m mine is =
      let o = owners_are i seat n here mine in
      let h = s.plain.kept.sessions n o.0 (queue_of m) o.1 (there_plain ms n m is) (has_owner k.seats o.0 seat (ap (numbered k.seats) o.2 ∙ here)) in
      let same : h.seat ≡ seat = some_is h.seat seat (sym h.owner ∙ ap (numbered k.seats) o.2 ∙ here) in
      by o.0.cut refl h.shut (λ uncut. all_below seat.client.next_xid m.downs (λ j t at. subst (λ (z : Seat). t.xid < z.client.next_xid) same (told_below n k.server.waiting (queue_of m) o.0.hung h.seat.client j t (h.talk uncut).balanced at)))
    where
      by : (b : Bool) {x : Bool} → x ≡ b → (x ≡ true → tolds_in m.downs ≡ []) → (x ≡ false → AllByRecursion (IsBelow seat.client.next_xid) m.downs) → AllByRecursion (IsBelow seat.client.next_xid) m.downs
      by true q shut open_ = shut_none m.downs seat.client.next_xid (shut q)
      by false q shut open_ = open_ q

-- ---- a command

module _ (k : Core) (ms mid : List Mix) (i now : ℕ) (d : Command) (seat : Seat) (here : numbered k.seats i ≡ Some seat) (same : mid ≡ ms) where
  abbrev does_next : Seat
  does_next = record seat { client = (command_step seat.client d now).0; place = place_with seat.place (length k.ops) (command_step seat.client d now).1.ended }

  does_acts : Acts k ms mid (does k i now d (Some seat)) i seat does_next
  does_acts = record {
    server = refl;
    drift = refl;
    loss = refl;
    down = refl;
    session = refl;
    here = here;
    seats = refl;
    next_session = refl;
    count = count_ seat.session (session_of k.sessions seat.session);
    sessions = λ n x y at is. kept_ n x y at seat.session (session_of k.sessions seat.session) refl is;
    rest = λ n m r at is. (let e : m ≡ r = some_is m r (sym at ∙ ap (λ (l : List Mix). numbered l n) (sym same) ∙ is) in (ap (λ (z : Mix). z.ups) (sym e), inl (ap (λ (z : Mix). z.downs) (sym e))));
  }
    where
      count_ : (o : Option ℕ) (x : Option Session) → length (commanded_sessions k.sessions o x seat.place (length k.ops) (word_of d) (command_step seat.client d now).1) ≡ length k.sessions
      count_ None x = refl
      count_ (Some n) None = refl
      count_ (Some zero) (Some x) = refl
      count_ (Some (suc n)) (Some x) = set_count k.sessions n _

      kept_ : (n : ℕ) (x y : Session) → numbered k.sessions n ≡ Some x → (o : Option ℕ) (z : Option Session) → session_of k.sessions o ≡ z → numbered (commanded_sessions k.sessions o z seat.place (length k.ops) (word_of d) (command_step seat.client d now).1) n ≡ Some y → (y.owner ≡ x.owner) × (y.cut ≡ x.cut)
      kept_ n x y at None z e is = let w = some_is x y (sym at ∙ is) in (ap (λ (q : Session). q.owner) (sym w), ap (λ (q : Session). q.cut) (sym w))
      kept_ n x y at (Some j) None e is = let w = some_is x y (sym at ∙ is) in (ap (λ (q : Session). q.owner) (sym w), ap (λ (q : Session). q.cut) (sym w))
      kept_ n x y at (Some j) (Some z) e is = split (same_or_not n j)
        where
          new : Session
          new = commanded_session z seat.place (length k.ops) (word_of d) (command_step seat.client d now).1

          split : (n ≡ j) ⊎ (n ≡ j → ⊥) → (y.owner ≡ x.owner) × (y.cut ≡ x.cut)
          split (inl mine) =
              let around = around_with k.sessions j z new e in
              let a = some_is z x (sym e ∙ ap (numbered k.sessions) (sym mine) ∙ at) in
              let b = some_is new y (sym around.there ∙ ap (numbered (with_numbered k.sessions j new)) (sym mine) ∙ is) in
              (ap (λ (q : Session). q.owner) (sym b) ∙ ap (λ (q : Session). q.owner) a, ap (λ (q : Session). q.cut) (sym b) ∙ ap (λ (q : Session). q.cut) a)
          split (inr apart) = let around = around_with k.sessions j z new e in let w = some_is x y (sym at ∙ sym (around.others n apart) ∙ is) in (ap (λ (q : Session). q.owner) (sym w), ap (λ (q : Session). q.cut) (sym w))

pub does_claimed : {all past rest : List Moment} {opening : List Opening} {k : Core} {ms : List Mix} (i now : ℕ) (d : Command) {mid after : List Mix} (s : MixStep all past rest opening k ms (Does i now d) mid after) (clock at_ : ℕ) (noted more : List Noted) → clock ≤ at_ → ((x : Noted) → IsAmong x noted → IsAmong x more) → IsAmong (noted_at i now at_) more
    → (seat : Seat) → numbered k.seats i ≡ Some seat → mid ≡ ms → Claimed noted clock k ms → Claimed more at_ (happens k (Does i now d)).core after
does_claimed {k = k} {ms = ms} i now d {mid = mid} s clock at_ noted more le grows known seat here same h =
    let keeps = command_keeps seat.client d now in
    finish s more at_ (does k i now d (Some seat)) (ap (does k i now d) here) (λ sent count.
    acts_claimed k ms mid (does k i now d (Some seat)) i seat (does_next k ms mid i now d seat here same) (does_acts k ms mid i now d seat here same) (pairs_are s) sent count clock at_ now noted more le grows h keeps.calls (owners_are s)
    (λ f n. ⊥) (command_step seat.client d now).1 refl keeps known (below_are s i seat here) (λ f n new. absurd new))

-- ---- an answer

module _ (k : Core) (ms : List Mix) (i n now : ℕ) (a : Told) (seat : Seat) (x : Session) (m : Mix) (ds : List Down) (here : numbered k.seats i ≡ Some seat) (newest : seat.session ≡ Some n) (is : numbered ms n ≡ Some m) (first : m.downs ≡ Tells a ∷ ds) where
  abbrev left_then : List Mix
  left_then = with_numbered ms n (record m { downs = ds })

  abbrev hears_next : client.State → ClientStep → Seat
  hears_next c acts = record seat { client = c; place = place_after seat.place acts.ended }

  hears_acts : (c : client.State) (acts : ClientStep) → Acts k ms left_then (acted k i seat c acts) i seat (hears_next c acts)
  hears_acts c acts = record {
    server = refl;
    drift = refl;
    loss = refl;
    down = refl;
    session = refl;
    here = here;
    seats = refl;
    next_session = refl;
    count = refl;
    sessions = λ j y z at to. (let w = some_is y z (sym at ∙ to) in (ap (λ (q : Session). q.owner) (sym w), ap (λ (q : Session). q.cut) (sym w)));
    rest = λ j q r at to. rest_ j q r at to (same_or_not j n);
  }
    where
      rest_ : (j : ℕ) (q r : Mix) → numbered ms j ≡ Some q → numbered left_then j ≡ Some r → (j ≡ n) ⊎ (j ≡ n → ⊥) → (r.ups ≡ q.ups) × ((r.downs ≡ q.downs) ⊎ ((seat.session ≡ Some j) × (b : Told) × (q.downs ≡ Tells b ∷ r.downs)))
      rest_ j q r at to (inl mine) =
          let around = around_with ms n m (record m { downs = ds }) is in
          let got = some_is (record m { downs = ds }) r (sym around.there ∙ ap (numbered left_then) (sym mine) ∙ to) in
          let old = some_is m q (sym is ∙ ap (numbered ms) (sym mine) ∙ at) in
          (ap (λ (z : Mix). z.ups) (sym got) ∙ ap (λ (z : Mix). z.ups) old, inr (newest ∙ ap (λ (z : ℕ). Some z) (sym mine), a, ap (λ (z : Mix). z.downs) (sym old) ∙ first ∙ ap (λ (l : List Down). Tells a ∷ l) (ap (λ (z : Mix). z.downs) got)))
      rest_ j q r at to (inr apart) =
          let around = around_with ms n m (record m { downs = ds }) is in
          let w = some_is q r (sym at ∙ sym (around.others j apart) ∙ to) in
          (ap (λ (z : Mix). z.ups) (sym w), inl (ap (λ (z : Mix). z.downs) (sym w)))

-- a close's file is small
pub closes_small : (book : Book) (k : Core) (qs : List Queue) (i : ℕ) (seat : Seat) (n : ℕ) (x : Session) (q : Queue) → IsKept book k qs → numbered k.seats i ≡ Some seat → numbered k.sessions n ≡ Some x → x.owner ≡ i → x.cut ≡ false → numbered qs n ≡ Some q → ClosesSmall seat.client
closes_small book k qs i seat n x q kept here there owner uncut is u task storing =
    elim ((kept.seats i seat here).matched) [
      | inl none ↦ nothing_there u (sym none.1 ∙ task)
      | inr busy ↦ by busy.0 busy.1
    ]
  where
    small : (j : Job) (v : List ℕ) (closing : Option ℕ) (contents : ℕ → List ℕ) (next : ℕ) → (st : Stage) → CloseOf book closing contents next j v st → IsStoring st → j.file < 18446744073709551616
    small j v closing contents next (stage.Making y temp) c y_ = c.0.small
    small j v closing contents next (stage.Storing st) c y_ = c.0.small
    small j v closing contents next st c y_ = absurd y_

    by : (j : Job) → job seat ≡ Some j → u.file < 18446744073709551616
    by j is_job =
        let h = kept.sessions n x q there is (owned_uncut kept n x there uncut) in
        let same : h.seat ≡ seat = some_is h.seat seat (sym h.owner ∙ ap (numbered k.seats) owner ∙ here) in
        let q = job_task seat.place seat.client.task u j task is_job in
        subst (λ (f : ℕ). f < 18446744073709551616) q.0
        (small j _ x.closing h.contents _ j.stage (h.closes uncut j (ap job same ∙ is_job)) (subst IsStoring (sym q.1) storing))

pub told_claimed : FitLaws → {all past rest : List Moment} {opening : List Opening} {k : Core} {ms : List Mix} (n now : ℕ) (bytes : List ℕ) {mid after : List Mix} (s : MixStep all past rest opening k ms (Hears n now bytes) mid after) (clock at_ : ℕ) (noted more : List Noted) → clock ≤ at_ → ((x : Noted) → IsAmong x noted → IsAmong x more)
    → (m : Mix) (a : Told) (ds : List Down) → numbered ms n ≡ Some m → m.downs ≡ Tells a ∷ ds → bytes ≡ message_spell (told_message a) → mid ≡ with_numbered ms n (record m { downs = ds })
    → ((x : Session) → numbered k.sessions n ≡ Some x → IsAmong (noted_at x.owner now at_) more) → Claimed noted clock k ms → Claimed more at_ (happens k (Hears n now bytes)).core after
told_claimed laws {all = all} {opening = opening} {k = k} {ms = ms} n now bytes {mid = mid} {after = after} s clock at_ noted more le grows m a ds is first bytes_is mid_is known h =
    finish s more at_ t does_ (λ sent. subst (λ (l : List Mix). length (mixes_after l t sent) ≡ length t.core.sessions → Claimed more at_ t.core (mixes_after l t sent)) (sym mid_is) (go sent))
  where
    q : Queue
    q = queue_of m

    f : Heard k (map queue_of ms) n now bytes (with_numbered (map queue_of ms) n (record q { downs = tolds_in ds }))
    f = heard_at (book_at opening k all) k (map queue_of ms) n now bytes (with_numbered (map queue_of ms) n (record q { downs = tolds_in ds })) s.plain.kept (q, a, tolds_in ds, there_plain ms n m is, ap tolds_in first, bytes_is, refl)

    i : ℕ
    i = f.session.owner

    seat : Seat
    seat = f.seat

    r : client.State × ClientStep
    r = got_step seat.client (Ok (told_message f.told)) now

    same_told : f.told ≡ a
    same_told = by f.queue_is f.first
      where
        head : (u v : Told) (us vs : List Told) → u ∷ us ≡ v ∷ vs → u ≡ v
        head u v us vs e = cc

        by : numbered (map queue_of ms) n ≡ Some f.queue → f.queue.downs ≡ f.told ∷ f.behind → f.told ≡ a
        by e w = head f.told a f.behind (tolds_in ds) (sym w ∙ ap (λ (z : Queue). z.downs) (some_is f.queue q (sym e ∙ there_plain ms n m is)) ∙ ap tolds_in first)

    t : CoreStep
    t = acted k i seat r.0 r.1

    does_ : happens k (Hears n now bytes) ≡ t
    does_ = heard_acts laws (book_at opening k all) k (map queue_of ms) n now bytes (with_numbered (map queue_of ms) n (record q { downs = tolds_in ds })) s.plain.kept f

    keeps : StepKeeps now seat.client r (NewNote seat.client f.told)
    keeps = told_keeps seat.client f.told now (closes_small (book_at opening k all) k (map queue_of ms) i seat n f.session q s.plain.kept f.owner f.at refl f.uncut (there_plain ms n m is))

    then_ : List Mix
    then_ = with_numbered ms n (record m { downs = ds })

    next : Seat
    next = record seat { client = r.0; place = place_after seat.place r.1.ended }

    acts : Acts k ms then_ t i seat next
    acts = hears_acts k ms i n now a seat f.session m ds f.owner f.newest is first r.0 r.1

    go : (sent : Sends t) → length (mixes_after then_ t sent) ≡ length t.core.sessions → Claimed more at_ t.core (mixes_after then_ t sent)
    go sent count =
        acts_claimed k ms then_ t i seat next acts (pairs_are s) sent count clock at_ now noted more le grows h keeps.calls (owners_are s) (NewNote seat.client f.told) r.1 refl keeps (known f.session f.at) (below_are s i seat f.owner) (λ g z new spare. fresh g z new spare)
      where
        fresh : (g : ℕ) (z : Note) → NewNote seat.client f.told g z → Spare g t.up → HasNote more at_ t.core (mixes_after then_ t sent) i g z.version z.until
        fresh g z new spare =
            let b = act_at k ms then_ t i seat next acts (pairs_are s) sent count n f.session f.at in
            let c = h.seats i seat f.owner in
            let tails = subst (AllTails (IsPromised noted clock k i n (way_of b.x b.m) seat.client.sent new.task)) (ap (λ (y : Mix). y.downs) (some_is b.m m (sym b.m_there ∙ is)) ∙ first) (c.promises new.task n b.x b.m new.task_is f.newest b.x_there b.m_there) in
            let promised = subst (λ (y : Told). IsPromised noted clock k i n (way_of b.x b.m) seat.client.sent new.task (Tells y) ds) (sym same_told) tails.0 new.granted new.awaits new.lease in
            let u = until_is seat.client.sent new.granted.term seat.client.drift z.until new.until in
            let lt : k.drift < new.granted.term = subst (λ (y : ℕ). y < new.granted.term) c.drift u.0 in
            let had = promised lt in
            let note : IsNote k.server clock k.drift noted i n new.task.file new.granted.version z.until (way_of b.x b.m) (downs_of ds) = record {
              sent = seat.client.sent;
              ends = ap (λ (y : ℕ). z.until + y) (sym c.drift) ∙ u.1 ∙ ap (λ (y : ℕ). seat.client.sent + y) had.0;
              some = subst (λ (y : ℕ). k.drift < y) had.0 lt;
              has = had.1;
            } in
            let left : b.p.downs ≡ ds = left_downs b in
            let moved = note_map k.server t.core.server clock at_ k.drift noted more i n new.task.file new.granted.version (way_of b.x b.m) (way_of b.y b.p) (downs_of ds) (downs_of ds) refl grows
            (λ base w. claim_way k ms then_ t i seat next acts (pairs_are s) sent count clock at_ now noted more le grows h keeps.calls n b (downs_of ds) new.task.file new.granted.version base (λ mine. subst (λ (y : ℕ). Spare y t.up) (sym new.file) spare) w) z.until note in
            record {
              number = n;
              session = b.y;
              mix = b.p;
              there = b.y_there;
              mix_is = b.p_there;
              owner = b.owner ∙ ap (λ (y : Session). y.owner) (some_is b.x f.session (sym b.x_there ∙ f.at));
              note = subst (λ (y : ℕ). IsNote t.core.server at_ t.core.drift more i n y z.version z.until (way_of b.y b.p) (downs_of b.p.downs)) new.file
                  (subst (λ (y : ℕ). IsNote t.core.server at_ t.core.drift more i n new.task.file y z.until (way_of b.y b.p) (downs_of b.p.downs)) (sym new.version)
                  (subst (λ (l : List Down). IsNote t.core.server at_ t.core.drift more i n new.task.file new.granted.version z.until (way_of b.y b.p) (downs_of l)) (sym left) moved));
            }
          where
            left_downs : (b : ActAt k ms then_ t (mixes_after then_ t sent) seat n) → b.p.downs ≡ ds
            left_downs b = b.left_is ∙ ap (λ (y : Mix). y.downs) (some_is b.left (record m { downs = ds }) (sym b.left_there ∙ (around_with ms n m (record m { downs = ds }) is).there))
