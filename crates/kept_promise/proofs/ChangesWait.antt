-- In each step of a run pending changes go on in their order, no lease is granted on their files, and answers to RECALLs give leases up.
use Rattle.std.proofs.Common.{◌≡◌, ◌⊎◌, inl, inr, ℕ, suc, ◌<◌, ◌≤◌, List, [], ◌∷◌, ◌++◌, length, map, Option, Some, None, Result, Ok, Err, Bool, true, false, refl, sym, ap, ◌∙◌, subst, arith}
use Rattle.std.specs.Prelude.{◌==◌, not, cond, max, slice_get, Contains}
use Rattle.std.proofs.lemmas.Bool.Decides.{nat_tests}
use Rattle.xdr_codec.specs.Handle.{handle_bytes}
use Rattle.xdr_codec.specs.declared.status.Status.{Status}
use Rattle.hash_calls.specs.declared.message.Back.TheVariants as back
use Rattle.wire.specs.Parse.{parse_of}
use Rattle.wire.specs.declared.fault.WireFault.{WireFault}
use Rattle.wire.specs.declared.fault.WireFault.TheVariants as fault
use Rattle.wire.specs.declared.message.Body.{Body}
use Rattle.wire.specs.declared.message.Body.TheVariants as body
use Rattle.wire.specs.declared.message.Message.{Message}
use Rattle.wire.specs.declared.message.Message.TheVariants as message
use Rattle.limits.specs.declared.TheConstants.{XIDS_MOST}
use Rattle.lease_rules.specs.Changes.{asker, is_about}
use Rattle.lease_rules.specs.Leases.{is_others}
use Rattle.lease_rules.specs.declared.change.Recall.{Recall}
use Rattle.lease_rules.specs.declared.lease.Lease.{Lease}
use Rattle.lease_table.specs.Order.{AreOrdered}
use Rattle.lease_table.proofs.lemmas.Held.{recalled_ordered}
use Rattle.lease_law.proofs.lemmas.Asking.{all_marked_ordered}
use Rattle.lease_law.proofs.lemmas.LeasesAt.{with_granted_ordered}
use Rattle.callback_core.specs.BackCalls.{call_at, all_marked}
use Rattle.callback_core.specs.Waits.{recalls_of, waits_on, without}
use Rattle.callback_core.specs.declared.back_calls.Asked.{Asked}
use Rattle.tree_reading.specs.declared.call.Changed.{Changed}
use Rattle.file_tree.specs.Stores.{stored}
use Rattle.file_tree.specs.Step.{replace}
use Rattle.tree_calls.specs.Waiting.{committed}
use Rattle.server_core.specs.Closing.{at as at_reading, leases_done, makes_change, settles_by, ready_by}
use Rattle.server_core.specs.Closing as closing
use Rattle.server_core.specs.Leasing.{asking, recalled, with_granted_on, term_of, given_up}
use Rattle.server_core.specs.Recalling.{term_on, recall_sent, recalls_for}
use Rattle.server_core.specs.State.{State, FileChange, held, stands}
use Rattle.server_core.specs.Step.{called_under, connect, got_if_under, hangs_if as server_hangs_if, is_recalled}
use Rattle.server_core.specs.declared.change.Wanted.{Wanted}
use Rattle.server_core.specs.declared.change.Wanted.TheVariants as wanted
use Rattle.server_core.specs.declared.event.Sent.{Sent}
use Rattle.server_core.specs.declared.event.ServerStep.{ServerStep}
use Rattle.trace_replay.specs.PendingChanges.{move_of, recall_numbers, StoodIn, GrantsNone, GivesUp, FreesAnswered, Comes, GoesOn}
use Rattle.kept_promise.proofs.Common.{Core, CoreStep, Session, Event, Event.Joins, Event.Does, Event.Serves, Event.Hears, Event.Settles, Event.Cuts, Event.Hangs, happens, serves, serves_if, hangs, hangs_if, numbered, server_waits, Book, Queue, Moment, Event.RawJoins, serves_unless, loses}
use Rattle.kept_promise.proofs.CallsAlike.{call_read}
use Rattle.kept_promise.proofs.Facts.{IsKept}
use Rattle.kept_promise.proofs.Happens.{what_happens}
use Rattle.kept_promise.proofs.LeaseTurns.{IsAsked, Taken, stays, grants, comes_to, called_taken}
use Rattle.kept_promise.proofs.LeasesStand.{there_filtered, contains_at, map_there, any_at, stood_there, filtered_stood, granted_stood, asked_stood, given_gone, given_others, wanted_back, asked_there, marked_there}
use Rattle.kept_promise.proofs.Lists.{some_is, nothing_there}
use Rattle.kept_promise.proofs.MadeRuns.{Leaves, leaves_ready}
use Rattle.kept_promise.proofs.RunsCarried.{moment}
use Rattle.kept_promise.proofs.Turns.{unhung_stands}
use Rattle.trace_ends.specs.Core.{serves_none}
use Rattle.std.specs.List.{list_any}

-- ---- no lease is granted

-- between two states of the server
abbrev NoneGranted : State → State → Type 0
NoneGranted s t = (i j : ℕ) (c : FileChange) (l : Lease) → slice_get t.waiting i ≡ Some c → slice_get t.leasing.leases j ≡ Some l → l.file ≡ c.file → StoodIn s.leasing.leases l

-- where the list of leases is the same
none_same : (s t : State) → t.leasing.leases ≡ s.leasing.leases → NoneGranted s t
none_same s t same i j c l waits at on = stood_there s.leasing.leases j l (ap (λ (ls : List Lease). slice_get ls j) (sym same) ∙ at)

waits_there : (ws : List FileChange) (i f : ℕ) (c : FileChange) (l : Lease) → slice_get ws i ≡ Some c → l.file ≡ c.file → waits_on ws l.file ≡ true
waits_there ws i f c l at on = any_at (λ (d : FileChange). is_about d l.file) ws i c at (let same : c.file ≡ l.file = sym on in grind (arith, nat_tests, same))

taken_none : (s : State) (n xid : ℕ) (b : Body) (p : State × ServerStep) → AreOrdered s.leasing.leases → Taken s n xid b p → NoneGranted s p.0
taken_none s n xid b p ordered (stays waiting leasing quiet same) = none_same s p.0 (ap (λ g. g.leases) leasing)
taken_none s n xid b p ordered (grants file names waiting leasing quiet same) = λ i j c l waits at on. by j l file (ap (λ (ls : List Lease). slice_get ls j) (sym (ap (λ g. g.leases) leasing)) ∙ at) (waits_there s.waiting i 0 c l (ap (λ (ws : List FileChange). slice_get ws i) (sym waiting) ∙ waits) on)
  where
    by : (j : ℕ) (l : Lease) (file : Option ℕ) → slice_get (with_granted_on s.leasing.leases s.leasing.moment n file (term_on s file)) j ≡ Some l → waits_on s.waiting l.file ≡ true → StoodIn s.leasing.leases l
    by j l None at waits = stood_there s.leasing.leases j l at
    by j l (Some id) at waits = granted_stood s.leasing.leases s.waiting s.leasing.moment n id s.leasing.term l.file j l waits at refl
taken_none s n xid b p ordered (comes_to c asked waiting leasing sent same) = λ i j d l waits at on. asked_stood s.leasing.leases ordered s.leasing.calls (λ (r : Recall). stands s r.session) (asker c) c.file s.leasing.moment j l (all_marked_ordered (asking s.leasing (recalls_for s c)).1 s.leasing.leases ordered) (ap (λ (ls : List Lease). slice_get ls j) (sym (ap (λ g. g.leases) leasing)) ∙ at)

got_none : (s : State) (t : Bool) (n now : ℕ) (m : Message) → AreOrdered s.leasing.leases → NoneGranted s (got_if_under s false t n m now).0
got_none s false n now m ordered = none_same s s refl
got_none s true n now (message.Call xid b) ordered = taken_none (at_reading s now) n xid b (called_under (at_reading s now) false n xid b) ordered (called_taken (at_reading s now) n xid b)
got_none s true n now (message.Unfit xid why) ordered = none_same s (at_reading s now) refl
got_none s true n now (message.Refuse xid why) ordered = none_same s (got_if_under s false true n (message.Refuse xid why) now).0 refl
got_none s true n now (message.Answer xid b) ordered = λ i j c l waits at on. by (is_recalled b) j l at
  where
    by : (done : Bool) (j : ℕ) (l : Lease) → slice_get (given_up s.leasing.leases n xid done) j ≡ Some l → StoodIn s.leasing.leases l
    by true j l at = filtered_stood _ s.leasing.leases j l at
    by false j l at = stood_there s.leasing.leases j l at

-- a change is made: what waits on leaves its session no lease
settle_none : (s : State) (now : ℕ) → NoneGranted s (closing.settles s now).0
settle_none s now = by (ready_by s now)
  where
    done : (ws : List FileChange) (moment n id : ℕ) (r : Result Changed Status) (i j : ℕ) (c : FileChange) (l : Lease) → slice_get ws i ≡ Some c → slice_get (leases_done s.leasing.leases moment n id (committed (term_of s.leasing.term ws id) r).answer) j ≡ Some l → l.file ≡ c.file → StoodIn s.leasing.leases l
    done ws moment n id (Ok d) i j c l waits at on = granted_stood s.leasing.leases ws moment n id s.leasing.term l.file j l (waits_there ws i 0 c l waits on) at refl
    done ws moment n id (Err e) i j c l waits at on = stood_there s.leasing.leases j l at

    made : (ws : List FileChange) (c : FileChange) (w : Wanted) → NoneGranted s (makes_change (at_reading (record s { waiting = ws }) now) c w).0
    made ws c (wanted.Content content) = λ i j d l waits at on. done ws (max s.leasing.moment now) c.session c.file (stored false s.tree (replace s.tree (held ws) c.file content)).1 i j d l waits at on
    made ws c (wanted.Asked a) = none_same s (makes_change (at_reading (record s { waiting = ws }) now) c (wanted.Asked a)).0 refl

    by : (o : Option FileChange) → NoneGranted s (settles_by s false now o).0
    by None = none_same s s refl
    by (Some c) = made (without s.waiting c.session) c c.what

hang_none : (s : State) (t : Bool) (n : ℕ) → NoneGranted s (server_hangs_if s t n).0
hang_none s true n = none_same s (server_hangs_if s true n).0 refl
hang_none s false n = none_same s s refl

pub grants_none : (k : Core) (e : Event) → AreOrdered k.server.leasing.leases → GrantsNone (move_of (moment k e))
grants_none k e ordered = what_happens k e (λ t. NoneGranted k.server t.core.server) (record {
  nothing = none_same k.server k.server refl;
  idle = none_same k.server k.server refl;
  joins = λ c seat is. none_same k.server (connect k.server true).0 refl;
  refuses = λ c seat is. none_same k.server (connect k.server false).0 refl;
  does = λ c now d seat is. none_same k.server k.server refl;
  takes = λ n now bytes x m is at unhung read. got_none k.server (stands k.server n) n now m ordered;
  hears = λ n now bytes owner seat is. none_same k.server k.server refl;
  settles = λ now is. settle_none k.server now;
  cuts = λ c seat is. none_same k.server k.server refl;
  closes = λ n now bytes x is at unhung. hang_none k.server (stands k.server n) n;
  hangs = λ n x is at unhung. hang_none k.server (stands k.server n) n;
  raw_joins = λ is. none_same k.server (connect k.server true).0 refl;
  raw_refuses = λ is. none_same k.server (connect k.server false).0 refl;
})

-- ---- an answer to a RECALL

stands_gives : (s : State) (t : Bool) (n xid now : ℕ) → t ≡ true → (g : Event) (sent : List Sent) → GivesUp (record { event = g; before = s; after = (got_if_under s false t n (message.Answer xid (body.Back back.RecallAnswer)) now).0; sent = sent }) n xid
stands_gives s true n xid now up g sent = record {
  gone = λ i l at own remembers. given_gone s.leasing.leases n xid i l at own remembers;
  others = λ i l at never. given_others s.leasing.leases n xid i l at never;
}
stands_gives s false n xid now up g sent = absurd cc

-- on a session that was made
pub frees_answered : (book : Book) (k : Core) (qs : List Queue) (e : Event) → IsKept book k qs → ((n now : ℕ) (bytes : List ℕ) → e ≡ Serves n now bytes → (x : Session) × (numbered k.sessions n ≡ Some x)) → FreesAnswered (move_of (moment k e))
frees_answered book k qs e kept made n now xid bytes is up read =
    subst (λ (z : Event). GivesUp (move_of (moment k z)) n xid) (sym is)
    (let x = made n now bytes is in
    subst (λ (t : CoreStep). GivesUp (record { event = Serves n now bytes; before = k.server; after = t.core.server; sent = t.down }) n xid) (sym (ap (serves k n now bytes) x.1 ∙ ap (serves_unless k n now bytes x.0) (heard x.0.hung (sym up ∙ unhung_stands book k qs n kept x.0 x.1)) ∙ ap (serves_if k n now x.0) read))
    (stands_gives k.server (stands k.server n) n xid now up (Serves n now bytes) (got_if_under k.server false (stands k.server n) n (message.Answer xid (body.Back back.RecallAnswer)) now).1.send))
  where
    heard : (hung : Bool) → true ≡ not hung → hung ≡ false
    heard false e = refl
    heard true e = absurd cc

-- ---- a change comes

-- the leases that hold it up are asked for, at this moment of the server
asks_all : (s : State) (c : FileChange) (i : ℕ) (l : Lease) → AreOrdered s.leasing.leases → slice_get s.leasing.leases i ≡ Some l → l.file ≡ c.file → is_others l (asker c) ≡ true → s.leasing.moment < l.ends → l.recall ≡ None → stands s l.session ≡ true
    → (let a = asking s.leasing (recalls_for s c) in
    ((x : ℕ) × Contains (map recall_sent a.1) (record { session = l.session; message = message.Call x (body.Back (back.Recall (handle_bytes l.file))) }) × (j : ℕ) × (slice_get (all_marked s.leasing.leases a.1) j ≡ Some (record l { recall = Some x })))
    ⊎ ((call_at a.0 l.session).spent ≡ true))
asks_all s c i l ordered at on other lasts unasked up =
    let rs : List Recall = recalls_for s c in
    let r : Recall = record { session = l.session; file = c.file } in
    let w = wanted_back s.leasing.leases (asker c) c.file s.leasing.moment i l at on other lasts unasked in
    let f = there_filtered (λ (r : Recall). stands s r.session) (recalls_of s.leasing.leases (asker c) c.file s.leasing.moment) w.0 r w.1 up in
    elim (asked_there rs s.leasing.calls f.0 r f.1) [
      | inr spent ↦ inr spent
      | inl h ↦
          let all : List Asked = (asking s.leasing rs).1 in
          let own : slice_get all h.1 ≡ Some (record { session = l.session; file = l.file; xid = h.0 }) = h.2 ∙ ap (λ (f : ℕ). Some (record { session = l.session; file = f; xid = h.0 })) (sym on) in
          let m = marked_there all s.leasing.leases ordered i l at (h.0, h.1, own) in
          inl (m.0, contains_at (map recall_sent all) m.1.0 (recall_sent (record { session = l.session; file = l.file; xid = m.0 })) (map_there recall_sent all m.1.0 (record { session = l.session; file = l.file; xid = m.0 }) m.1.1), m.2.0, m.2.1)
    ]

-- the call is a change from now on
-- by these moments a session that stands and whose numbers are used up was sent as many RECALLs
abbrev pub SpentSo : (till : List Moment) → State → Type 0
SpentSo till after = (n : ℕ) → stands after n ≡ true → (call_at after.leasing.calls n).spent ≡ true → XIDS_MOST ≤ length (recall_numbers n till)

comes_so : (till : List Moment) (k : Core) (n now : ℕ) (bytes : List ℕ) (xid : ℕ) (b : Body) (after : State) (sent : List Sent) → AreOrdered k.server.leasing.leases → parse_of (server_waits k n) bytes ≡ Ok (message.Call xid b) → (c : FileChange) → IsAsked k.server.tree n xid b c → after.waiting ≡ k.server.waiting ++ c ∷ []
    → after.leasing ≡ recalled (at_reading k.server now).leasing (recalls_for (at_reading k.server now) c) → sent ≡ map recall_sent (asking (at_reading k.server now).leasing (recalls_for (at_reading k.server now) c)).1
    → after.sessions ≡ k.server.sessions → SpentSo till after → Comes till (record { event = Serves n now bytes; before = k.server; after = after; sent = sent }) n now bytes c
comes_so till k n now bytes xid b after sent ordered read c asked waiting leasing says same spends = record {
  call = b;
  read = call_read k n bytes xid b read ∙ ap (λ (y : ℕ). Ok (message.Call y b)) (sym asked.xid_is);
  session_is = asked.session_is;
  file_is = asked.file_is;
  kind_is = asked.kind_is;
  behind = waiting;
  asks = λ i l at on other lasts unasked up. elim (asks_all (at_reading k.server now) c i l ordered at on other lasts unasked up) [
    | inl h ↦ inl (h.0, subst (λ (ms : List Sent). Contains ms (record { session = l.session; message = message.Call h.0 (body.Back (back.Recall (handle_bytes l.file))) })) (sym says) h.1, h.2, ap (λ g. slice_get g.leases h.2) leasing ∙ h.3)
    | inr spent ↦ inr (spends l.session (ap (λ (ks : List ℕ). list_any (λ k. k == l.session) ks) same ∙ up) (ap (λ g. (call_at g.calls l.session).spent) leasing ∙ spent))
  ];
}

-- ---- how the list goes on

-- none of a session that has none is taken
without_absent : (ws : List FileChange) (n : ℕ) → ((i : ℕ) (c : FileChange) → slice_get ws i ≡ Some c → c.session ≡ n → ⊥) → without ws n ≡ ws
without_absent [] n none = refl
without_absent (w ∷ ws) n none = by (w.session == n) refl (without_absent ws n (λ i c at own. none (suc i) c at own))
  where
    by : (b : Bool) → (w.session == n) ≡ b → without ws n ≡ ws → cond (not b) (w ∷ without ws n) (without ws n) ≡ w ∷ ws
    by true is later = absurd (none 0 w refl (grind (arith, nat_tests, is)))
    by false is later = ap (λ (l : List FileChange). w ∷ l) later

abbrev ServedOn : List Moment → Core → (n now : ℕ) (bytes : List ℕ) → CoreStep → Type 0
ServedOn till k n now bytes t = SpentSo till t.core.server → GoesOn till (Serves n now bytes) (record { event = Serves n now bytes; before = k.server; after = t.core.server; sent = t.down })

-- with a session that is lost or closed its change goes
loses_on : (book : Book) (k : Core) (qs : List Queue) (n : ℕ) → IsKept book k qs → (x : Session) → numbered k.sessions n ≡ Some x → x.hung ≡ false → (loses k n x).core.server.waiting ≡ without k.server.waiting n
loses_on book k qs n kept x at up = by (stands k.server n) (unhung_stands book k qs n kept x at ∙ ap not up)
  where
    by : (t : Bool) → t ≡ true → (server_hangs_if k.server t n).0.waiting ≡ without k.server.waiting n
    by true is = refl
    by false is = absurd cc

serves_on : (till : List Moment) (book : Book) (k : Core) (qs : List Queue) (n now : ℕ) (bytes : List ℕ) → IsKept book k qs → AreOrdered k.server.leasing.leases → ServedOn till k n now bytes (happens k (Serves n now bytes))
serves_on till book k qs n now bytes kept ordered = by (numbered k.sessions n) refl
  where
    taken : (x : Session) (xid : ℕ) (b : Body) → parse_of (server_waits k n) bytes ≡ Ok (message.Call xid b) → (p : State × ServerStep) → Taken (at_reading k.server now) n xid b p → SpentSo till p.0 → GoesOn till (Serves n now bytes) (record { event = Serves n now bytes; before = k.server; after = p.0; sent = p.1.send })
    taken x xid b read p (stays waiting leasing quiet same) spends = inl waiting
    taken x xid b read p (grants file names waiting leasing quiet same) spends = inl waiting
    taken x xid b read p (comes_to c asked waiting leasing says same) spends = inr (inl (c, comes_so till k n now bytes xid b p.0 p.1.send ordered read c asked waiting leasing says same.0 spends))

    got : (x : Session) (m : Message) → parse_of (server_waits k n) bytes ≡ Ok m → (t : Bool) → (let p = got_if_under k.server false t n m now in SpentSo till p.0 → GoesOn till (Serves n now bytes) (record { event = Serves n now bytes; before = k.server; after = p.0; sent = p.1.send }))
    got x m read false spends = inl refl
    got x (message.Call xid b) read true spends = taken x xid b read (called_under (at_reading k.server now) false n xid b) (called_taken (at_reading k.server now) n xid b) spends
    got x (message.Unfit xid why) read true spends = inl refl
    got x (message.Refuse xid why) read true spends = inl refl
    got x (message.Answer xid b) read true spends = inl refl

    none : (x : Session) → numbered k.sessions n ≡ Some x → x.hung ≡ false → (e : WireFault) → parse_of (server_waits k n) bytes ≡ Err e → ServedOn till k n now bytes (serves_none k n x e)
    none x at up (fault.UnknownXid xid) is spends = inl refl
    none x at up (fault.NotRpc place) is spends = inr (inr ((fault.NotRpc place, is, tt), loses_on book k qs n kept x at up))
    none x at up (fault.Garbage place) is spends = inr (inr ((fault.Garbage place, is, tt), loses_on book k qs n kept x at up))

    read_ : (x : Session) → numbered k.sessions n ≡ Some x → x.hung ≡ false → (r : Result Message WireFault) → parse_of (server_waits k n) bytes ≡ r → ServedOn till k n now bytes (serves_if k n now x r)
    read_ x at up (Ok m) is spends = got x m is (stands k.server n) spends
    read_ x at up (Err e) is spends = none x at up e is spends

    heard : (x : Session) → numbered k.sessions n ≡ Some x → (b : Bool) → x.hung ≡ b → ServedOn till k n now bytes (serves_unless k n now bytes x b)
    heard x at true is spends = inl refl
    heard x at false is spends = read_ x at is (parse_of (server_waits k n) bytes) refl spends

    by : (o : Option Session) → numbered k.sessions n ≡ o → ServedOn till k n now bytes (serves k n now bytes o)
    by None at spends = inl refl
    by (Some x) at spends = heard x at x.hung refl spends

hangs_on : (book : Book) (k : Core) (qs : List Queue) (n : ℕ) → IsKept book k qs → (happens k (Hangs n)).core.server.waiting ≡ without k.server.waiting n
hangs_on book k qs n kept = by (numbered k.sessions n) refl
  where
    -- where no change is of a session that stands under this number
    untouched : ((x : Session) → numbered k.sessions n ≡ Some x → x.hung ≡ false → ⊥) → k.server.waiting ≡ without k.server.waiting n
    untouched never = sym (without_absent k.server.waiting n (λ i c at own. let home = kept.home i c at in never home.0 (ap (numbered k.sessions) (sym own) ∙ home.1) home.2))

    hung : (x : Session) → numbered k.sessions n ≡ Some x → (b : Bool) → x.hung ≡ b → (hangs_if k n x b).core.server.waiting ≡ without k.server.waiting n
    hung x at false is = loses_on book k qs n kept x at is
    hung x at true is = untouched (λ y there up. no (sym is ∙ ap (λ (z : Session). z.hung) (some_is x y (sym at ∙ there)) ∙ up))
      where
        no : true ≡ false → ⊥
        no z = cc

    by : (o : Option Session) → numbered k.sessions n ≡ o → (hangs k n o).core.server.waiting ≡ without k.server.waiting n
    by None at = untouched (λ x there up. nothing_there x (sym at ∙ there))
    by (Some x) at = hung x at x.hung refl

settles_on : (till : List Moment) (k : Core) (now : ℕ) (o : Option FileChange) → ready_by k.server now ≡ o → Leaves k now o → GoesOn till (Settles now) (move_of (moment k (Settles now)))
settles_on till k now None e l = inl (ap (λ (s : State). s.waiting) l)
settles_on till k now (Some c) e l = inr (l.place, c, e, l.there, l.left)

-- an event of no other kind touches it
rests_on : (k : Core) (e : Event) → ((n now : ℕ) (bytes : List ℕ) → e ≡ Serves n now bytes → ⊥) → ((now : ℕ) → e ≡ Settles now → ⊥) → ((n : ℕ) → e ≡ Hangs n → ⊥) → (happens k e).core.server.waiting ≡ k.server.waiting
rests_on k e served settled hung = what_happens k e (λ t. t.core.server.waiting ≡ k.server.waiting) (record {
  nothing = refl;
  idle = refl;
  joins = λ c seat is. refl;
  refuses = λ c seat is. refl;
  does = λ c now d seat is. refl;
  takes = λ n now bytes x m is at unhung read. absurd (served n now bytes is);
  closes = λ n now bytes x is at unhung. absurd (served n now bytes is);
  hears = λ n now bytes owner seat is. refl;
  settles = λ now is. absurd (settled now is);
  cuts = λ c seat is. refl;
  hangs = λ n x is at unhung. absurd (hung n is);
  raw_joins = λ is. refl;
  raw_refuses = λ is. refl;
})

pub goes_on : (till : List Moment) (book : Book) (k : Core) (qs : List Queue) (e : Event) → IsKept book k qs → AreOrdered k.server.leasing.leases → ((n now : ℕ) (bytes : List ℕ) → e ≡ Serves n now bytes → SpentSo till (happens k e).core.server) → GoesOn till e (move_of (moment k e))
goes_on till book k qs (Serves n now bytes) kept ordered spends = serves_on till book k qs n now bytes kept ordered (spends n now bytes refl)
goes_on till book k qs (Settles now) kept ordered spends = settles_on till k now (ready_by k.server now) refl (leaves_ready book k qs now kept)
goes_on till book k qs (Hangs n) kept ordered spends = hangs_on book k qs n kept
goes_on till book k qs (Joins c) kept ordered spends = rests_on k (Joins c) (λ n now bytes z. absurd cc) (λ now z. absurd cc) (λ n z. absurd cc)
goes_on till book k qs (Does c now d) kept ordered spends = rests_on k (Does c now d) (λ n now bytes z. absurd cc) (λ now z. absurd cc) (λ n z. absurd cc)
goes_on till book k qs (Hears n now bytes) kept ordered spends = rests_on k (Hears n now bytes) (λ n now bytes z. absurd cc) (λ now z. absurd cc) (λ n z. absurd cc)
goes_on till book k qs (Cuts c) kept ordered spends = rests_on k (Cuts c) (λ n now bytes z. absurd cc) (λ now z. absurd cc) (λ n z. absurd cc)
goes_on till book k qs RawJoins kept ordered spends = rests_on k RawJoins (λ n now bytes z. absurd cc) (λ now z. absurd cc) (λ n z. absurd cc)

-- ---- leases stand in their order

taken_ordered : (s : State) (n xid : ℕ) (b : Body) (p : State × ServerStep) → Taken s n xid b p → AreOrdered s.leasing.leases → AreOrdered p.0.leasing.leases
taken_ordered s n xid b p (stays waiting leasing quiet same) h = subst (λ g. AreOrdered g.leases) (sym leasing) h
taken_ordered s n xid b p (grants file names waiting leasing quiet same) h = subst (λ g. AreOrdered g.leases) (sym leasing) (by file)
  where
    by : (file : Option ℕ) → AreOrdered (with_granted_on s.leasing.leases s.leasing.moment n file (term_on s file))
    by None = h
    by (Some id) = with_granted_ordered s.leasing.leases s.leasing.moment n id (term_on s (Some id)) h
taken_ordered s n xid b p (comes_to c asked waiting leasing says same) h = subst (λ g. AreOrdered g.leases) (sym leasing) (all_marked_ordered (asking s.leasing (recalls_for s c)).1 s.leasing.leases h)

got_ordered : (s : State) (t : Bool) (n now : ℕ) (m : Message) → AreOrdered s.leasing.leases → AreOrdered (got_if_under s false t n m now).0.leasing.leases
got_ordered s false n now m h = h
got_ordered s true n now (message.Call xid b) h = taken_ordered (at_reading s now) n xid b (called_under (at_reading s now) false n xid b) (called_taken (at_reading s now) n xid b) h
got_ordered s true n now (message.Unfit xid why) h = h
got_ordered s true n now (message.Refuse xid why) h = h
got_ordered s true n now (message.Answer xid b) h = by (is_recalled b)
  where
    by : (done : Bool) → AreOrdered (given_up s.leasing.leases n xid done)
    by true = recalled_ordered s.leasing.leases h n xid
    by false = h

settle_ordered : (s : State) (now : ℕ) → AreOrdered s.leasing.leases → AreOrdered (closing.settles s now).0.leasing.leases
settle_ordered s now h = by (ready_by s now)
  where
    done : (moment n id term : ℕ) (r : Result Changed Status) → AreOrdered (leases_done s.leasing.leases moment n id (committed term r).answer)
    done moment n id term (Ok d) = with_granted_ordered s.leasing.leases moment n id term h
    done moment n id term (Err e) = h

    made : (ws : List FileChange) (c : FileChange) (w : Wanted) → AreOrdered (makes_change (at_reading (record s { waiting = ws }) now) c w).0.leasing.leases
    made ws c (wanted.Content content) = done (max s.leasing.moment now) c.session c.file (term_of s.leasing.term ws c.file) (stored false s.tree (replace s.tree (held ws) c.file content)).1
    made ws c (wanted.Asked a) = h

    by : (o : Option FileChange) → AreOrdered (settles_by s false now o).0.leasing.leases
    by None = h
    by (Some c) = made (without s.waiting c.session) c c.what

hang_ordered : (s : State) (t : Bool) (n : ℕ) → AreOrdered s.leasing.leases → AreOrdered (server_hangs_if s t n).0.leasing.leases
hang_ordered s true n h = h
hang_ordered s false n h = h

pub stays_ordered : (k : Core) (e : Event) → AreOrdered k.server.leasing.leases → AreOrdered (happens k e).core.server.leasing.leases
stays_ordered k e h = what_happens k e (λ t. AreOrdered t.core.server.leasing.leases) (record {
  nothing = h;
  idle = h;
  joins = λ c seat is. h;
  refuses = λ c seat is. h;
  does = λ c now d seat is. h;
  takes = λ n now bytes x m is at unhung read. got_ordered k.server (stands k.server n) n now m h;
  hears = λ n now bytes owner seat is. h;
  settles = λ now is. settle_ordered k.server now h;
  cuts = λ c seat is. h;
  closes = λ n now bytes x is at unhung. hang_ordered k.server (stands k.server n) n h;
  hangs = λ n x is at unhung. hang_ordered k.server (stands k.server n) n h;
  raw_joins = λ is. h;
  raw_refuses = λ is. h;
})

-- ---- nor does the quiet end later

quiet_taken : (s : State) (n xid : ℕ) (b : Body) (p : State × ServerStep) → Taken s n xid b p → p.0.leasing.quiet ≡ s.leasing.quiet
quiet_taken s n xid b p (stays waiting leasing quiet same) = ap (λ g. g.quiet) leasing
quiet_taken s n xid b p (grants file names waiting leasing quiet same) = ap (λ g. g.quiet) leasing
quiet_taken s n xid b p (comes_to c asked waiting leasing says same) = ap (λ g. g.quiet) leasing

quiet_got : (s : State) (t : Bool) (n now : ℕ) (m : Message) → (got_if_under s false t n m now).0.leasing.quiet ≡ s.leasing.quiet
quiet_got s false n now m = refl
quiet_got s true n now (message.Call xid b) = quiet_taken (at_reading s now) n xid b (called_under (at_reading s now) false n xid b) (called_taken (at_reading s now) n xid b)
quiet_got s true n now (message.Unfit xid why) = refl
quiet_got s true n now (message.Refuse xid why) = refl
quiet_got s true n now (message.Answer xid b) = refl

quiet_settle : (s : State) (now : ℕ) → (closing.settles s now).0.leasing.quiet ≡ s.leasing.quiet
quiet_settle s now = by (ready_by s now)
  where
    made : (ws : List FileChange) (c : FileChange) (w : Wanted) → (makes_change (at_reading (record s { waiting = ws }) now) c w).0.leasing.quiet ≡ s.leasing.quiet
    made ws c (wanted.Content content) = refl
    made ws c (wanted.Asked a) = refl

    by : (o : Option FileChange) → (settles_by s false now o).0.leasing.quiet ≡ s.leasing.quiet
    by None = refl
    by (Some c) = made (without s.waiting c.session) c c.what

quiet_hang : (s : State) (t : Bool) (n : ℕ) → (server_hangs_if s t n).0.leasing.quiet ≡ s.leasing.quiet
quiet_hang s true n = refl
quiet_hang s false n = refl

pub quiet_stays : (k : Core) (e : Event) → (happens k e).core.server.leasing.quiet ≡ k.server.leasing.quiet
quiet_stays k e = what_happens k e (λ t. t.core.server.leasing.quiet ≡ k.server.leasing.quiet) (record {
  nothing = refl;
  idle = refl;
  joins = λ c seat is. refl;
  refuses = λ c seat is. refl;
  does = λ c now d seat is. refl;
  takes = λ n now bytes x m is at unhung read. quiet_got k.server (stands k.server n) n now m;
  hears = λ n now bytes owner seat is. refl;
  settles = λ now is. quiet_settle k.server now;
  cuts = λ c seat is. refl;
  closes = λ n now bytes x is at unhung. quiet_hang k.server (stands k.server n) n;
  hangs = λ n x is at unhung. quiet_hang k.server (stands k.server n) n;
  raw_joins = λ is. refl;
  raw_refuses = λ is. refl;
})
