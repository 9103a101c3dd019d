-- A run carries that the RECALLs which go down a session are numbered from 1 on, in order; so a session that had all its numbers was sent as many RECALLs.
use Rattle.std.proofs.Common.{◌≡◌, ◌⊎◌, inl, inr, ℕ, zero, suc, ◌+◌, ◌<◌, ◌≤◌, List, [], ◌∷◌, ◌++◌, length, map, Option, Some, None, Bool, true, false, refl, sym, ap, ◌∙◌, subst, arith, append-nil, length-append}
use Rattle.std.specs.Prelude.{◌==◌, ◌||◌, not, cond, filter, nat_lt, if◌then◌else◌}
use Rattle.std.specs.List.{list_any, AllByRecursion}
use Rattle.std.proofs.lemmas.Bool.Decides.{nat_tests}
use Rattle.std.proofs.lemmas.List.{append_assoc}
use Rattle.limits.specs.declared.TheConstants.{XIDS_MOST}
use Rattle.wire.specs.declared.message.Body.{Body}
use Rattle.wire.specs.declared.message.Message.{Message}
use Rattle.wire.specs.declared.message.Message.TheVariants as message
use Rattle.wire.specs.declared.message.RpcRefusal.{RpcRefusal}
use Rattle.lease_rules.specs.Changes.{asker}
use Rattle.lease_rules.specs.Xids.{draw}
use Rattle.lease_rules.specs.declared.change.Recall.{Recall}
use Rattle.callback_core.specs.BackCalls.{BackCall, call_at, is_at, xid_at, asks_if, asked_with, asks, recalled_if, answered_by as used_by}
use Rattle.callback_core.specs.Waits.{recalls_of, without}
use Rattle.callback_core.specs.declared.back_calls.Asked.{Asked}
use Rattle.server_core.specs.Closing.{at as at_reading, makes_change, settles_by, ready_by}
use Rattle.server_core.specs.Closing as closing
use Rattle.server_core.specs.Recalling.{recall_sent, recalls_for}
use Rattle.server_core.specs.State.{State, FileChange, stands}
use Rattle.server_core.specs.Step.{called_under, connect, got_if_under, hangs_if as server_hangs_if}
use Rattle.server_core.specs.declared.change.Wanted.{Wanted}
use Rattle.server_core.specs.declared.change.Wanted.TheVariants as wanted
use Rattle.server_core.specs.declared.event.Sent.{Sent}
use Rattle.server_core.specs.declared.event.ServerStep.{ServerStep}
use Rattle.trace_ends.specs.Core.{Loss.Up_of, quiet as quiet_step}
use Rattle.trace_replay.specs.Chained.{sent_to}
use Rattle.trace_replay.specs.Numbered.{numbers_among, CountOn}
use Rattle.trace_replay.specs.PendingChanges.{recall_numbers}
use Rattle.kept_promise.proofs.Common.{Core, CoreStep, Session, Event, happens, numbered, with_numbered, Moment, Tree}
use Rattle.kept_promise.proofs.Happens.{what_happens}
use Rattle.kept_promise.proofs.LeaseTurns.{NoCalls, Taken, stays, grants, comes_to, called_taken}
use Rattle.kept_promise.proofs.Lists.{same_or_not, within}
use Rattle.kept_promise.proofs.NumberedRuns.{count_join}
use Rattle.kept_promise.proofs.RecallsKept.{at_with, at_beside, at_hung, at_used, asked_own}
use Rattle.kept_promise.proofs.RunsCarried.{moment, Header, first_core}

-- the numbers of RECALLs among what is sent, down one session
abbrev pub numbers_to : (n : ℕ) → List Sent → List ℕ
numbers_to n ss = numbers_among (sent_to n ss)

one_to : (n : ℕ) (a : Asked) (ss : List Sent) → a.session ≡ n → numbers_to n (recall_sent a ∷ ss) ≡ a.xid ∷ numbers_to n ss
one_to n a ss same = by (a.session == n) (let e : (a.session == n) ≡ true = grind (arith, nat_tests, same) in e)
  where
    by : (b : Bool) → b ≡ true → numbers_among (elim b as (λ (z : Bool). List Message) [ true ↦ (recall_sent a).message ∷ sent_to n ss | false ↦ sent_to n ss ]) ≡ a.xid ∷ numbers_to n ss
    by true e = refl
    by false e = absurd cc

none_to : (n : ℕ) (a : Asked) (ss : List Sent) → (a.session ≡ n → ⊥) → numbers_to n (recall_sent a ∷ ss) ≡ numbers_to n ss
none_to n a ss apart = by (a.session == n) refl
  where
    by : (b : Bool) → (a.session == n) ≡ b → numbers_among (elim b as (λ (z : Bool). List Message) [ true ↦ (recall_sent a).message ∷ sent_to n ss | false ↦ sent_to n ss ]) ≡ numbers_to n ss
    by true e = let same : a.session ≡ n = grind (arith, nat_tests, e) in absurd (apart same)
    by false e = refl

-- ---- sessions are asked for leases

-- what that makes of a session's numbers
pub record Numbers (calls after : List BackCall) (al : List Asked) (n : ℕ) : Type 0 where
  pub counts : CountOn ((call_at calls n).last + 1) (numbers_to n (map recall_sent al))
  pub last : (call_at after n).last ≡ (call_at calls n).last + length (numbers_to n (map recall_sent al))
  pub spent : (call_at after n).spent ≡ true → ((call_at calls n).spent ≡ true) ⊎ (4294967295 ≤ (call_at after n).last)

drawn_last : (last : ℕ) (o : Option ℕ) → draw last ≡ o → ((o ≡ None) × (4294967295 ≤ last)) ⊎ (o ≡ Some (last + 1))
drawn_last last o e = by (nat_lt last XIDS_MOST) refl e
  where
    by : (b : Bool) → nat_lt last XIDS_MOST ≡ b → (if b then Some (last + 1) else None) ≡ o → ((o ≡ None) × (4294967295 ≤ last)) ⊎ (o ≡ Some (last + 1))
    by true is e = inr (sym e)
    by false is e = inl (sym e, grind (arith, nat_tests, is))

-- one alone
asked_call : (calls : List BackCall) (s n : ℕ) (o : Option ℕ) → s ≡ n → call_at (asks_if calls s o) n ≡ recalled_if (call_at calls n) o
asked_call calls s n o same = subst (λ (k : ℕ). call_at (asks_if calls s o) k ≡ recalled_if (call_at calls k) o) same (at_with calls s (recalled_if (call_at calls s) o) (asked_own calls s o))

pub asks_numbers : (rs : List Recall) (calls : List BackCall) (n : ℕ) → Numbers calls (asks calls rs).0 (asks calls rs).1 n
asks_numbers [] calls n = record { counts = tt; last = omega arith; spent = λ e. inl e }
asks_numbers (r ∷ rs) calls n = elim (drawn_last (call_at calls r.session).last (xid_at calls r.session) refl) [
  | inl none ↦ subst Goal (sym none.0) (without none.1 (asks_numbers rs (asks_if calls r.session None) n))
  | inr some ↦ subst Goal (sym some) (with_one (asks_numbers rs (asks_if calls r.session (Some x)) n))
]
  where
    x : ℕ
    x = (call_at calls r.session).last + 1

    Goal : Option ℕ → Type 0
    Goal o = Numbers calls (asks (asks_if calls r.session o) rs).0 (asked_with r o ++ (asks (asks_if calls r.session o) rs).1) n

    -- the others' numbers stay
    beside : (o : Option ℕ) → (r.session ≡ n → ⊥) → call_at (asks_if calls r.session o) n ≡ call_at calls n
    beside o apart = at_beside calls r.session n (recalled_if (call_at calls r.session) o) (asked_own calls r.session o) apart

    same_numbers : (o : Option ℕ) (al : List Asked) (c : BackCall) → call_at (asks_if calls r.session o) n ≡ c → c.last ≡ (call_at calls n).last → (c.spent ≡ true → ((call_at calls n).spent ≡ true) ⊎ (4294967295 ≤ (call_at calls n).last)) → (all : List Asked) → numbers_to n (map recall_sent all) ≡ numbers_to n (map recall_sent al)
        → Numbers (asks_if calls r.session o) (asks (asks_if calls r.session o) rs).0 al n → Numbers calls (asks (asks_if calls r.session o) rs).0 all n
    same_numbers o al c is last spends all same h =
        let e = ap (λ (z : BackCall). z.last) is ∙ last in
        let l = h.last in
        let m = ap (λ (z : List ℕ). length z) same in
        record {
          counts = subst (CountOn ((call_at calls n).last + 1)) (sym same) (subst (λ (k : ℕ). CountOn (k + 1) (numbers_to n (map recall_sent al))) e h.counts);
          last = omega (arith, l, e, m);
          spent = λ s. elim (h.spent s) [
            | inl had ↦ elim (spends (sym (ap (λ (z : BackCall). z.spent) is) ∙ had)) [ inl was ↦ inl was | inr far ↦ inr (omega (arith, l, e, far)) ]
            | inr far ↦ inr far
          ];
        }

    without : 4294967295 ≤ (call_at calls r.session).last → Numbers (asks_if calls r.session None) (asks (asks_if calls r.session None) rs).0 (asks (asks_if calls r.session None) rs).1 n → Goal None
    without far h = elim (same_or_not r.session n) [
      | inl own ↦ (let l = ap (λ (k : ℕ). (call_at calls k).last) own in same_numbers None (asks (asks_if calls r.session None) rs).1 (recalled_if (call_at calls n) None) (asked_call calls r.session n None own) refl (λ s. inr (omega (arith, far, l))) (asks (asks_if calls r.session None) rs).1 refl h)
      | inr apart ↦ same_numbers None (asks (asks_if calls r.session None) rs).1 (call_at calls n) (beside None apart) refl (λ s. inl s) (asks (asks_if calls r.session None) rs).1 refl h
    ]

    with_one : Numbers (asks_if calls r.session (Some x)) (asks (asks_if calls r.session (Some x)) rs).0 (asks (asks_if calls r.session (Some x)) rs).1 n → Goal (Some x)
    with_one h = elim (same_or_not r.session n) [
      | inr apart ↦ same_numbers (Some x) later (call_at calls n) (beside (Some x) apart) refl (λ s. inl s) (a ∷ later) (none_to n a (map recall_sent later) apart) h
      | inl own ↦
          let c = asked_call calls r.session n (Some x) own in
          let e = ap (λ (z : BackCall). z.last) c in
          let l = ap (λ (k : ℕ). (call_at calls k).last) own in
          let first = one_to n a (map recall_sent later) own in
          let m = ap (λ (z : List ℕ). length z) first in
          let h_last = h.last in
          let next : (call_at (asks_if calls r.session (Some x)) n).last ≡ (call_at calls n).last + 1 = omega (arith, e, l) in
          record {
            counts = subst (CountOn ((call_at calls n).last + 1)) (sym first) (omega (arith, l), subst (λ (k : ℕ). CountOn (k + 1) (numbers_to n (map recall_sent later))) next h.counts);
            last = omega (arith, h_last, next, m);
            spent = λ s. elim (h.spent s) [
              | inl had ↦ inl (sym (ap (λ (z : BackCall). z.spent) c) ∙ had)
              | inr far ↦ inr far
            ];
          }
    ]
      where
        a : Asked
        a = record { session = r.session; file = r.file; xid = x }

        later : List Asked
        later = (asks (asks_if calls r.session (Some x)) rs).1

-- none is asked that isn't among them
unasked_numbers : (rs : List Recall) (calls : List BackCall) (n : ℕ) → AllByRecursion (λ (r : Recall). r.session ≡ n → ⊥) rs → numbers_to n (map recall_sent (asks calls rs).1) ≡ []
unasked_numbers [] calls n h = refl
unasked_numbers (r ∷ rs) calls n h = by (xid_at calls r.session) (λ o. unasked_numbers rs (asks_if calls r.session o) n h.1)
  where
    by : (o : Option ℕ) → ((p : Option ℕ) → numbers_to n (map recall_sent (asks (asks_if calls r.session p) rs).1) ≡ []) → numbers_to n (map recall_sent (asked_with r o ++ (asks (asks_if calls r.session o) rs).1)) ≡ []
    by None later = later None
    by (Some x) later = none_to n (record { session = r.session; file = r.file; xid = x }) (map recall_sent (asks (asks_if calls r.session (Some x)) rs).1) h.0 ∙ later (Some x)

kept_apart : (n : ℕ) (keep : Recall → Bool) → ((r : Recall) → r.session ≡ n → keep r ≡ false) → (rs : List Recall) → AllByRecursion (λ (r : Recall). r.session ≡ n → ⊥) (filter keep rs)
kept_apart n keep out [] = tt
kept_apart n keep out (r ∷ rs) = by (keep r) refl (kept_apart n keep out rs)
  where
    no : true ≡ false → ⊥
    no e = absurd cc

    by : (b : Bool) → keep r ≡ b → AllByRecursion (λ (r : Recall). r.session ≡ n → ⊥) (filter keep rs) → AllByRecursion (λ (r : Recall). r.session ≡ n → ⊥) (cond b (r ∷ filter keep rs) (filter keep rs))
    by true e later = ((λ own. no (sym e ∙ out r own)), later)
    by false e later = later

-- ---- answers alone

none_down : (ss : List Sent) (n : ℕ) → NoCalls ss → numbers_to n ss ≡ []
none_down [] n e = refl
none_down (s ∷ ss) n e = kind s.message refl (none_down ss n)
  where
    Sent_on : Message → Bool → Type 0
    Sent_on m b = numbers_among (elim b as (λ (z : Bool). List Message) [ true ↦ m ∷ sent_to n ss | false ↦ sent_to n ss ]) ≡ []

    answer : (x : ℕ) (d : Body) → numbers_to n ss ≡ [] → (b : Bool) → Sent_on (message.Answer x d) b
    answer x d later true = later
    answer x d later false = later

    refuse : (x : ℕ) (why : RpcRefusal) → numbers_to n ss ≡ [] → (b : Bool) → Sent_on (message.Refuse x why) b
    refuse x why later true = later
    refuse x why later false = later

    unfit : (x : ℕ) (why : RpcRefusal) → numbers_to n ss ≡ [] → (b : Bool) → Sent_on (message.Unfit x why) b
    unfit x why later true = later
    unfit x why later false = later

    cons_none : {x : ℕ} {xs : List ℕ} {A : Type 0} → x ∷ xs ≡ [] → A
    cons_none z = absurd cc

    others : (m : Message) → s.message ≡ m → numbers_among (m ∷ map (λ (z : Sent). z.message) ss) ≡ []
    others m is = sym (ap (λ (m : Message). numbers_among (m ∷ map (λ (z : Sent). z.message) ss)) is) ∙ e

    kind : (m : Message) → s.message ≡ m → (NoCalls ss → numbers_to n ss ≡ []) → numbers_to n (s ∷ ss) ≡ []
    kind (message.Call x b) is later = cons_none (others (message.Call x b) is)
    kind (message.Answer x b) is later = subst (λ (m : Message). Sent_on m (s.session == n)) (sym is) (answer x b (later (others (message.Answer x b) is)) (s.session == n))
    kind (message.Refuse x b) is later = subst (λ (m : Message). Sent_on m (s.session == n)) (sym is) (refuse x b (later (others (message.Refuse x b) is)) (s.session == n))
    kind (message.Unfit x b) is later = subst (λ (m : Message). Sent_on m (s.session == n)) (sym is) (unfit x b (later (others (message.Unfit x b) is)) (s.session == n))

-- ---- a step of the server that sends to sessions

pub record NumbersGo (s t : State) (sent : List Sent) (n : ℕ) : Type 0 where
  pub counts : CountOn ((call_at s.leasing.calls n).last + 1) (numbers_to n sent)
  pub none : stands s n ≡ false → numbers_to n sent ≡ []
  pub last : (call_at t.leasing.calls n).last ≡ (call_at s.leasing.calls n).last + length (numbers_to n sent)
  pub spent : (call_at t.leasing.calls n).spent ≡ true → ((call_at s.leasing.calls n).spent ≡ true) ⊎ (4294967295 ≤ (call_at t.leasing.calls n).last)

-- nothing is asked for
quiet_numbers : (s t : State) (sent : List Sent) (n : ℕ) → NoCalls sent → (call_at t.leasing.calls n).last ≡ (call_at s.leasing.calls n).last → (call_at t.leasing.calls n).spent ≡ (call_at s.leasing.calls n).spent → NumbersGo s t sent n
quiet_numbers s t sent n quiet last spent =
    let none = none_down sent n quiet in
    let l = ap (λ (z : List ℕ). length z) none in
    record {
      counts = subst (CountOn ((call_at s.leasing.calls n).last + 1)) (sym none) tt;
      none = λ down. none;
      last = omega (arith, last, l);
      spent = λ e. inl (sym spent ∙ e);
    }

taken_numbers : (s : State) (m xid : ℕ) (b : Body) (p : State × ServerStep) (n : ℕ) → Taken s m xid b p → NumbersGo s p.0 p.1.send n
taken_numbers s m xid b p n (stays waiting leasing quiet same) = quiet_numbers s p.0 p.1.send n quiet (ap (λ g. (call_at g.calls n).last) leasing) (ap (λ g. (call_at g.calls n).spent) leasing)
taken_numbers s m xid b p n (grants file names waiting leasing quiet same) = quiet_numbers s p.0 p.1.send n quiet (ap (λ g. (call_at g.calls n).last) leasing) (ap (λ g. (call_at g.calls n).spent) leasing)
taken_numbers s m xid b p n (comes_to c is_asked waiting leasing says kept) =
    let rs : List Recall = recalls_for s c in
    let h = asks_numbers rs s.leasing.calls n in
    let same = ap (numbers_to n) says in
    let l = h.last in
    let a = ap (λ g. (call_at g.calls n).last) leasing in
    let b_ = ap (λ (z : List ℕ). length z) same in
    record {
      counts = subst (CountOn ((call_at s.leasing.calls n).last + 1)) (sym same) h.counts;
      none = λ down. same ∙ unasked_numbers rs s.leasing.calls n (kept_apart n (λ (r : Recall). stands s r.session) (λ r own. ap (stands s) own ∙ down) (recalls_of s.leasing.leases (asker c) c.file s.leasing.moment));
      last = omega (arith, l, a, b_);
      spent = λ e. elim (h.spent (sym (ap (λ g. (call_at g.calls n).spent) leasing) ∙ e)) [
        | inl had ↦ inl had
        | inr far ↦ inr (omega (arith, far, a))
      ];
    }

used_same : (n xid : ℕ) (c : BackCall) → ((used_by n xid c).last ≡ c.last) × ((used_by n xid c).spent ≡ c.spent)
used_same n xid c = by (is_at n c)
  where
    by : (b : Bool) → (let d : BackCall = if b then record c { waits = filter (λ p. not (p.xid == xid)) c.waits } else c in (d.last ≡ c.last) × (d.spent ≡ c.spent))
    by true = (refl, refl)
    by false = (refl, refl)

pub got_numbers_to : (s : State) (t : Bool) (m now : ℕ) (z : Message) (n : ℕ) → (let p = got_if_under s false t m z now in NumbersGo s p.0 p.1.send n)
got_numbers_to s false m now z n = quiet_numbers s s [] n refl refl refl
got_numbers_to s true m now (message.Call xid b) n =
    let h = taken_numbers (at_reading s now) m xid b (called_under (at_reading s now) false m xid b) n (called_taken (at_reading s now) m xid b) in
    record { counts = h.counts; none = h.none; last = h.last; spent = h.spent }
got_numbers_to s true m now (message.Unfit xid why) n = quiet_numbers s (at_reading s now) (got_if_under s false true m (message.Unfit xid why) now).1.send n refl refl refl
got_numbers_to s true m now (message.Refuse xid why) n =
    let u = used_same m xid (call_at s.leasing.calls n) in
    quiet_numbers s (got_if_under s false true m (message.Refuse xid why) now).0 [] n refl (ap (λ (c : BackCall). c.last) (at_used s.leasing.calls m xid n) ∙ u.0) (ap (λ (c : BackCall). c.spent) (at_used s.leasing.calls m xid n) ∙ u.1)
got_numbers_to s true m now (message.Answer xid b) n =
    let u = used_same m xid (call_at s.leasing.calls n) in
    quiet_numbers s (got_if_under s false true m (message.Answer xid b) now).0 [] n refl (ap (λ (c : BackCall). c.last) (at_used s.leasing.calls m xid n) ∙ u.0) (ap (λ (c : BackCall). c.spent) (at_used s.leasing.calls m xid n) ∙ u.1)

pub settle_numbers : (s : State) (now n : ℕ) → (let p = closing.settles s now in NumbersGo s p.0 p.1.send n)
settle_numbers s now n = by (ready_by s now)
  where
    made : (ws : List FileChange) (c : FileChange) (w : Wanted) → (let p = makes_change (at_reading (record s { waiting = ws }) now) c w in NumbersGo s p.0 p.1.send n)
    made ws c (wanted.Content content) = quiet_numbers s (makes_change (at_reading (record s { waiting = ws }) now) c (wanted.Content content)).0 (makes_change (at_reading (record s { waiting = ws }) now) c (wanted.Content content)).1.send n refl refl refl
    made ws c (wanted.Asked a) = quiet_numbers s (makes_change (at_reading (record s { waiting = ws }) now) c (wanted.Asked a)).0 (makes_change (at_reading (record s { waiting = ws }) now) c (wanted.Asked a)).1.send n refl refl refl

    by : (o : Option FileChange) → (let p = settles_by s false now o in NumbersGo s p.0 p.1.send n)
    by None = quiet_numbers s s [] n refl refl refl
    by (Some c) = made (without s.waiting c.session) c c.what

-- ---- which sessions stand, or weren't made yet

abbrev Lives : State → ℕ → Type 0
Lives s n = (stands s n ≡ true) ⊎ (s.sessions_made < n)

same_lives : (s t : State) (n : ℕ) → t.sessions ≡ s.sessions → t.sessions_made ≡ s.sessions_made → Lives t n → Lives s n
same_lives s t n same made (inl up) = inl (ap (λ (ks : List ℕ). list_any (λ k. k == n) ks) (sym same) ∙ up)
same_lives s t n same made (inr late) = inr (omega (arith, made, late))

got_sessions : (s : State) (t : Bool) (m now : ℕ) (z : Message) → (let p = got_if_under s false t m z now in (p.0.sessions ≡ s.sessions) × (p.0.sessions_made ≡ s.sessions_made))
got_sessions s false m now z = (refl, refl)
got_sessions s true m now (message.Call xid b) = by (called_under (at_reading s now) false m xid b) (called_taken (at_reading s now) m xid b)
  where
    by : (p : State × ServerStep) → Taken (at_reading s now) m xid b p → (p.0.sessions ≡ s.sessions) × (p.0.sessions_made ≡ s.sessions_made)
    by p (stays waiting leasing quiet kept) = kept
    by p (grants file names waiting leasing quiet kept) = kept
    by p (comes_to c is_asked waiting leasing says kept) = kept
got_sessions s true m now (message.Unfit xid why) = (refl, refl)
got_sessions s true m now (message.Refuse xid why) = (refl, refl)
got_sessions s true m now (message.Answer xid b) = (refl, refl)

settle_sessions : (s : State) (now : ℕ) → (let p = closing.settles s now in (p.0.sessions ≡ s.sessions) × (p.0.sessions_made ≡ s.sessions_made))
settle_sessions s now = by (ready_by s now)
  where
    made : (ws : List FileChange) (c : FileChange) (w : Wanted) → (let p = makes_change (at_reading (record s { waiting = ws }) now) c w in (p.0.sessions ≡ s.sessions) × (p.0.sessions_made ≡ s.sessions_made))
    made ws c (wanted.Content content) = (refl, refl)
    made ws c (wanted.Asked a) = (refl, refl)

    by : (o : Option FileChange) → (let p = settles_by s false now o in (p.0.sessions ≡ s.sessions) × (p.0.sessions_made ≡ s.sessions_made))
    by None = (refl, refl)
    by (Some c) = made (without s.waiting c.session) c c.what

any_join : (n j : ℕ) (ks : List ℕ) → list_any (λ k. k == n) (ks ++ j ∷ []) ≡ true → (list_any (λ k. k == n) ks ≡ true) ⊎ (j ≡ n)
any_join n j [] e = by (j == n) refl e
  where
    by : (b : Bool) → (j == n) ≡ b → (b || false) ≡ true → (false ≡ true) ⊎ (j ≡ n)
    by true is e = inr (grind (arith, nat_tests, is))
    by false is e = inl e
any_join n j (k ∷ ks) e = by (k == n) e (any_join n j ks)
  where
    by : (b : Bool) → (b || list_any (λ k. k == n) (ks ++ j ∷ [])) ≡ true → (list_any (λ k. k == n) (ks ++ j ∷ []) ≡ true → (list_any (λ k. k == n) ks ≡ true) ⊎ (j ≡ n)) → ((b || list_any (λ k. k == n) ks) ≡ true) ⊎ (j ≡ n)
    by true e later = inl refl
    by false e later = later e

any_left : (n m : ℕ) (ks : List ℕ) → list_any (λ k. k == n) (filter (λ k. not (k == m)) ks) ≡ true → (list_any (λ k. k == n) ks ≡ true) × (m ≡ n → ⊥)
any_left n m [] e = absurd (no e)
  where
    no : false ≡ true → ⊥
    no z = cc
any_left n m (k ∷ ks) e = by (k == m) refl e (any_left n m ks)
  where
    own : (b : Bool) → (k == n) ≡ b → (k == m) ≡ false → (b || list_any (λ k. k == n) (filter (λ k. not (k == m)) ks)) ≡ true → (list_any (λ k. k == n) (filter (λ k. not (k == m)) ks) ≡ true → (list_any (λ k. k == n) ks ≡ true) × (m ≡ n → ⊥)) → ((b || list_any (λ k. k == n) ks) ≡ true) × (m ≡ n → ⊥)
    own true is off e later = (refl, λ same. let x : k ≡ n = grind (arith, nat_tests, is) in let y : (k == m) ≡ true = grind (arith, nat_tests, x, same) in no (sym y ∙ off))
      where
        no : true ≡ false → ⊥
        no z = cc
    own false is off e later = later e

    by : (b : Bool) → (k == m) ≡ b → list_any (λ k. k == n) (cond (not b) (k ∷ filter (λ k. not (k == m)) ks) (filter (λ k. not (k == m)) ks)) ≡ true → (list_any (λ k. k == n) (filter (λ k. not (k == m)) ks) ≡ true → (list_any (λ k. k == n) ks ≡ true) × (m ≡ n → ⊥)) → (((k == n) || list_any (λ k. k == n) ks) ≡ true) × (m ≡ n → ⊥)
    by true is e later = (let h = later e in (more (k == n) h.0, h.1))
      where
        more : (b : Bool) → list_any (λ k. k == n) ks ≡ true → (b || list_any (λ k. k == n) ks) ≡ true
        more true h = refl
        more false h = h
    by false is e later = own (k == n) refl is e later

-- ---- one event

record EventGo (k : Core) (t : CoreStep) (n : ℕ) : Type 0 where
  pub counts : CountOn ((call_at k.server.leasing.calls n).last + 1) (numbers_to n t.down)
  pub none : stands k.server n ≡ false → numbers_to n t.down ≡ []
  pub was : Lives t.core.server n → Lives k.server n
  pub last : Lives t.core.server n → (call_at t.core.server.leasing.calls n).last ≡ (call_at k.server.leasing.calls n).last + length (numbers_to n t.down)
  pub spent : Lives t.core.server n → (call_at t.core.server.leasing.calls n).spent ≡ true → ((call_at k.server.leasing.calls n).spent ≡ true) ⊎ (4294967295 ≤ (call_at t.core.server.leasing.calls n).last)

go_of : (k : Core) (t : CoreStep) (n : ℕ) → NumbersGo k.server t.core.server t.down n → (t.core.server.sessions ≡ k.server.sessions) × (t.core.server.sessions_made ≡ k.server.sessions_made) → EventGo k t n
go_of k t n h same = record { counts = h.counts; none = h.none; was = same_lives k.server t.core.server n same.0 same.1; last = λ up. h.last; spent = λ up e. h.spent e }

same_go : (k : Core) (t : CoreStep) (n : ℕ) → t.core.server ≡ k.server → t.down ≡ [] → EventGo k t n
same_go k t n same none =
    go_of k t n (subst (λ (ss : List Sent). NumbersGo k.server t.core.server ss n) (sym none) (quiet_numbers k.server t.core.server [] n refl (ap (λ (s : State). (call_at s.leasing.calls n).last) same) (ap (λ (s : State). (call_at s.leasing.calls n).spent) same)))
    (ap (λ (s : State). s.sessions) same, ap (λ (s : State). s.sessions_made) same)

event_goes : (k : Core) (e : Event) → length k.sessions ≡ k.server.sessions_made → (n : ℕ) → EventGo k (happens k e) n
event_goes k e made n = what_happens k e (λ t. EventGo k t n) (record {
  nothing = same_go k _ n refl refl;
  idle = same_go k _ n refl refl;
  joins = λ c seat is. record { counts = tt; none = λ down. refl; was = joined; last = λ up. omega arith; spent = λ up z. inl z };
  refuses = λ c seat is. same_go k _ n refl refl;
  does = λ c now d seat is. same_go k _ n refl refl;
  takes = λ m now bytes x z is at unhung read. go_of k _ n (got_numbers_to k.server (stands k.server m) m now z n) (got_sessions k.server (stands k.server m) m now z);
  hears = λ m now bytes owner seat is. same_go k _ n refl refl;
  settles = λ now is. go_of k _ n (settle_numbers k.server now n) (settle_sessions k.server now);
  cuts = λ c seat is. same_go k _ n refl refl;
  closes = λ m now bytes x is at unhung. hung m x at (stands k.server m);
  hangs = λ m x is at unhung. hung m x at (stands k.server m);
  raw_joins = λ is. record { counts = tt; none = λ down. refl; was = joined; last = λ up. omega arith; spent = λ up z. inl z };
  raw_refuses = λ is. same_go k _ n refl refl;
})
  where
    joined : Lives (connect k.server true).0 n → Lives k.server n
    joined (inl up) = elim (any_join n (k.server.sessions_made + 1) k.server.sessions up) [ inl old ↦ inl old | inr new ↦ inr (omega (arith, new)) ]
    joined (inr late) = inr (omega (arith, late))

    hung : (m : ℕ) (x : Session) → numbered k.sessions m ≡ Some x → (t : Bool) → EventGo k (record (quiet_step k) { core = record k { steps = k.steps + 1; server = (server_hangs_if k.server t m).0; sessions = with_numbered k.sessions m (record x { hung = true }) }; loss = Up_of m }) n
    hung m x at false = record { counts = tt; none = λ down. refl; was = λ lives. lives; last = λ up. omega arith; spent = λ up z. inl z }
    hung m x at true = record {
      counts = tt;
      none = λ down. refl;
      was = λ lives. elim lives [ inl up ↦ inl (any_left n m k.server.sessions up).0 | inr late ↦ inr late ];
      last = λ lives. (let c = ap (λ (c : BackCall). c.last) (at_hung k.server.leasing.calls m n (apart lives)) in omega (arith, c));
      spent = λ lives z. inl (sym (ap (λ (c : BackCall). c.spent) (at_hung k.server.leasing.calls m n (apart lives))) ∙ z);
    }
      where
        within_numbered : (m : ℕ) → numbered k.sessions m ≡ Some x → m ≤ length k.sessions
        within_numbered zero e = omega arith
        within_numbered (suc i) e = let lt = within k.sessions i x e in omega (arith, lt)

        apart : Lives (server_hangs_if k.server true m).0 n → m ≡ n → ⊥
        apart (inl up) = (any_left n m k.server.sessions up).1
        apart (inr late) = λ same. let inside = within_numbered m at in omega (arith, inside, made, late, same)

-- ---- what is carried

pub record NumbersAt (past : List Moment) (k : Core) : Type 0 where
  pub count : (n : ℕ) → CountOn 1 (recall_numbers n past)
  pub last : (n : ℕ) → Lives k.server n → (call_at k.server.leasing.calls n).last ≡ length (recall_numbers n past)
  pub spent : (n : ℕ) → Lives k.server n → (call_at k.server.leasing.calls n).spent ≡ true → 4294967295 ≤ length (recall_numbers n past)

numbers_more : (n : ℕ) (past : List Moment) (m : Moment) → recall_numbers n (past ++ m ∷ []) ≡ recall_numbers n past ++ numbers_to n (happens m.before m.event).down
numbers_more n [] m = append-nil (numbers_to n (happens m.before m.event).down)
numbers_more n (p ∷ past) m = ap (λ (l : List ℕ). numbers_to n (happens p.before p.event).down ++ l) (numbers_more n past m) ∙ sym (append_assoc (numbers_to n (happens p.before p.event).down) (recall_numbers n past) (numbers_to n (happens m.before m.event).down))

pub numbers_then : (past : List Moment) (k : Core) (e : Event) → length k.sessions ≡ k.server.sessions_made → NumbersAt past k → NumbersAt (past ++ moment k e ∷ []) (happens k e).core
numbers_then past k e made h = record {
  count = λ n. subst (CountOn 1) (sym (numbers_more n past (moment k e))) (counted n (stands k.server n) refl);
  last = λ n up. grown n ((event_goes k e made n).last up) (h.last n ((event_goes k e made n).was up));
  spent = λ n up z.
      (let g = event_goes k e made n in
      let more = grown n (g.last up) (h.last n (g.was up)) in
      let all = ap (λ (l : List ℕ). length l) (numbers_more n past (moment k e)) ∙ length-append (recall_numbers n past) (numbers_to n (happens k e).down) in
      elim (g.spent up z) [
        | inl had ↦ (let far = h.spent n (g.was up) had in omega (arith, far, all))
        | inr far ↦ omega (arith, far, more)
      ]);
}
  where
    grown : (n : ℕ) {a b : ℕ} → a ≡ b + length (numbers_to n (happens k e).down) → b ≡ length (recall_numbers n past) → a ≡ length (recall_numbers n (past ++ moment k e ∷ []))
    grown n p q = let all = ap (λ (l : List ℕ). length l) (numbers_more n past (moment k e)) ∙ length-append (recall_numbers n past) (numbers_to n (happens k e).down) in omega (arith, p, q, all)

    counted : (n : ℕ) (b : Bool) → stands k.server n ≡ b → CountOn 1 (recall_numbers n past ++ numbers_to n (happens k e).down)
    counted n false down = subst (λ (l : List ℕ). CountOn 1 (recall_numbers n past ++ l)) (sym ((event_goes k e made n).none down)) (subst (CountOn 1) (sym (append-nil (recall_numbers n past))) (h.count n))
    counted n true up =
        let l = h.last n (inl up) in
        let next : (call_at k.server.leasing.calls n).last + 1 ≡ 1 + length (recall_numbers n past) = omega (arith, l) in
        count_join 1 (recall_numbers n past) (numbers_to n (happens k e).down) (h.count n) (subst (λ (j : ℕ). CountOn j (numbers_to n (happens k e).down)) next (event_goes k e made n).counts)

-- before the first event
pub first_numbers : (tree : Tree) (header : Header) → NumbersAt [] (first_core tree header)
first_numbers tree header = record { count = λ n. tt; last = λ n up. refl; spent = λ n up z. absurd (no z) }
  where
    no : false ≡ true → ⊥
    no e = cc
