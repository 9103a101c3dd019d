-- Where the leases behind a step of the server come from: they stood before, or are asked for, or granted, in it; and what the step does to its clock.
use Rattle.std.proofs.Common.{◌≡◌, ◌⊎◌, inl, inr, ℕ, zero, suc, ◌+◌, List, [], ◌∷◌, map, Option, Some, None, Result, Ok, Err, Bool, true, false, refl, sym, ap, ◌∙◌, subst}
use Rattle.std.specs.Prelude.{◌==◌, not, max, filter, nat_lt, slice_get, Contains, if◌then◌else◌}
use Rattle.wire.specs.Parse.{parse_of}
use Rattle.wire.specs.declared.fault.WireFault.{WireFault}
use Rattle.wire.specs.declared.fault.WireFault.TheVariants as fault
use Rattle.wire.specs.declared.message.Body.{Body}
use Rattle.wire.specs.declared.message.Message.{Message}
use Rattle.wire.specs.declared.message.Message.TheVariants as message
use Rattle.lease_rules.specs.Changes.{asker}
use Rattle.lease_rules.specs.Leases.{term_for, is_before, is_behind, remembers}
use Rattle.lease_rules.specs.declared.change.Recall.{Recall}
use Rattle.lease_rules.specs.declared.lease.Lease.{Lease}
use Rattle.lease_table.specs.Leases.{lease_at, lease_of, with_lease, grant, without_ended}
use Rattle.lease_table.specs.Order.{AreOrdered}
use Rattle.lease_table.proofs.lemmas.Keeping.{all_found}
use Rattle.lease_law.proofs.lemmas.Asking.{all_marked_ordered}
use Rattle.callback_core.specs.BackCalls.{BackCall, asks, all_marked}
use Rattle.callback_core.specs.Waits.{recalls_of, waits_on, without}
use Rattle.callback_core.specs.declared.back_calls.Asked.{Asked}
use Rattle.tree_reading.specs.declared.call.Changed.{Changed}
use Rattle.file_tree.specs.Stores.{stored}
use Rattle.file_tree.specs.Step.{replace}
use Rattle.tree_calls.specs.Waiting.{committed}
use Rattle.xdr_codec.specs.declared.status.Status.{Status}
use Rattle.server_core.specs.Closing.{at as at_reading, leases_done, makes_change, settles_by, ready_by}
use Rattle.server_core.specs.Closing as closing
use Rattle.server_core.specs.Leasing.{asking, with_granted, with_granted_on, term_of, given_up}
use Rattle.server_core.specs.Recalling.{term_on, recall_sent, recalls_for}
use Rattle.server_core.specs.State.{State, FileChange, held, stands}
use Rattle.server_core.specs.Step.{called_under, got_if_under, is_recalled, hangs_if as server_hangs_if}
use Rattle.server_core.specs.declared.change.Wanted.{Wanted}
use Rattle.server_core.specs.declared.change.Wanted.TheVariants as wanted
use Rattle.server_core.specs.declared.event.Sent.{Sent}
use Rattle.server_core.specs.declared.event.ServerStep.{ServerStep}
use Rattle.trace_ends.specs.Core.{server_waiting, serves_none}
use Rattle.trace_replay.specs.PendingChanges.{Move, move_of, reading_of, KeepsTime, recall_of, file_leased, IsContent, IsGranted, IsAskedFor, LeasesCome}
use Rattle.kept_promise.proofs.Common.{Core, CoreStep, Session, Event, Event.Joins, Event.Does, Event.Serves, Event.Hears, Event.Settles, Event.Cuts, Event.Hangs, happens, serves, serves_if, numbered, server_waits, Book, Queue, Event.RawJoins, serves_unless}
use Rattle.kept_promise.proofs.CallsAlike.{call_read}
use Rattle.kept_promise.proofs.Facts.{IsKept}
use Rattle.kept_promise.proofs.Happens.{what_happens}
use Rattle.kept_promise.proofs.LeaseTurns.{Taken, stays, grants, comes_to, called_taken}
use Rattle.kept_promise.proofs.LeasesStand.{IsAsked, IsMarked, all_at, all_marked_placed, asked, asks_from, contains_at, filtered_there, map_there, marked_at, same_at, unasked_from}
use Rattle.kept_promise.proofs.Lists.{some_is, of_both}
use Rattle.kept_promise.proofs.MadeRuns.{Leaves, leaves_ready}
use Rattle.kept_promise.proofs.lemmas.Owners.{happens_header}
use Rattle.kept_promise.proofs.RunsCarried.{moment}
use Rattle.kept_promise.proofs.Turns.{unhung_stands}

-- ---- lists of leases

abbrev IsThere : List Lease → Lease → Type 0
IsThere leases l = (j : ℕ) × (slice_get leases j ≡ Some l)

-- but for the new one
with_there : (leases : List Lease) (new : Lease) (i : ℕ) (l : Lease) → slice_get (with_lease leases new) i ≡ Some l → (new ≡ l) ⊎ IsThere leases l
with_there leases new i l e = elim (of_both (filter (λ l. is_before l new.session new.file) leases) (new ∷ filter (λ l. is_behind l new.session new.file) leases) i l e) [
  | inl front ↦ inr (kept (λ l. is_before l new.session new.file) i front)
  | inr back ↦ by back.0 back.1
]
  where
    kept : (p : Lease → Bool) (i : ℕ) → slice_get (filter p leases) i ≡ Some l → IsThere leases l
    kept p i e = let h = filtered_there p leases i l e in (h.0, h.1)

    by : (m : ℕ) → slice_get (new ∷ filter (λ l. is_behind l new.session new.file) leases) m ≡ Some l → (new ≡ l) ⊎ IsThere leases l
    by zero e = inl (some_is new l e)
    by (suc m) e = inr (kept (λ l. is_behind l new.session new.file) m e)

-- the one that is granted, if one is
granted_new : (leases : List Lease) (ws : List FileChange) (moment n id term i : ℕ) (l : Lease) → slice_get (with_granted leases moment n id (term_of term ws id)) i ≡ Some l → (lease_of n id (moment + term) ≡ l) ⊎ IsThere leases l
granted_new leases ws moment n id term i l e = by (waits_on ws id) e
  where
    given : (t : Bool) → slice_get (if t then leases else grant (without_ended leases moment) n id (moment + term)) i ≡ Some l → (lease_of n id (moment + term) ≡ l) ⊎ IsThere leases l
    given true e = inr (i, e)
    given false e = elim (with_there (without_ended leases moment) (lease_of n id (moment + term)) i l e) [
      | inl new ↦ inl new
      | inr old ↦ (let h = filtered_there (λ l. nat_lt moment l.ends) leases old.0 l old.1 in inr (h.0, h.1))
    ]

    by : (b : Bool) → slice_get (with_granted leases moment n id (term_for b term)) i ≡ Some l → (lease_of n id (moment + term) ≡ l) ⊎ IsThere leases l
    by true e = inr (i, e)
    by false e = given (term == 0) e

-- where some are asked for
abbrev IsAskedBy : List Lease → List Asked → Lease → Type 0
IsAskedBy leases all l = (x : ℕ) × (l.recall ≡ Some x) × IsThere leases (record l { recall = None }) × (m : ℕ) × (slice_get all m ≡ Some (asked l.session l.file x))

asked_came : (leases : List Lease) → AreOrdered leases → (calls : List BackCall) (keep : Recall → Bool) (session file now i : ℕ) (l : Lease) → (let all = (asks calls (filter keep (recalls_of leases session file now))).1 in
    AreOrdered (all_marked leases all) → slice_get (all_marked leases all) i ≡ Some l → IsThere leases l ⊎ IsAskedBy leases all l)
asked_came leases ordered calls keep session file now i l ordered_then e = by m.by
  where
    rs : List Recall
    rs = filter keep (recalls_of leases session file now)

    all : List Asked
    all = (asks calls rs).1

    p : (j : ℕ) × (k : Lease) × (slice_get leases j ≡ Some k) × (k.session ≡ l.session) × (k.file ≡ l.file) × (k.ends ≡ l.ends)
    p = all_marked_placed all leases i l e

    k : Lease
    k = p.1

    m : IsMarked all leases k.session k.file k
    m = marked_at all leases ordered k.session k.file k (all_at (λ l. lease_at leases l.session l.file ≡ Some l) leases p.0 k (all_found leases ordered) p.2)

    own : lease_at (all_marked leases all) k.session k.file ≡ Some l
    own = ap (λ (n : ℕ). lease_at (all_marked leases all) n k.file) p.3 ∙ ap (lease_at (all_marked leases all) l.session) p.4 ∙ all_at (λ l. lease_at (all_marked leases all) l.session l.file ≡ Some l) (all_marked leases all) i l (all_found (all_marked leases all) ordered_then) e

    whole : record k { recall = m.recall } ≡ l
    whole = some_is (record k { recall = m.recall }) l (sym m.at ∙ own)

    again : (o : Option ℕ) → k.recall ≡ o → record k { recall = o } ≡ k
    again o is = ap (λ (q : Option ℕ). record k { recall = q }) (sym is)

    by : ((m.recall ≡ k.recall) × (IsAsked all k.session k.file → ⊥)) ⊎ ((x : ℕ) × (m.recall ≡ Some x) × (j : ℕ) × (slice_get all j ≡ Some (asked k.session k.file x))) → IsThere leases l ⊎ IsAskedBy leases all l
    by (inl old) = inl (p.0, p.2 ∙ ap (λ (z : Lease). Some z) (sym (again m.recall (sym old.0)) ∙ whole))
    by (inr new) =
        let r = asks_from rs calls new.2 (asked k.session k.file new.0) new.3 in
        let f = filtered_there keep (recalls_of leases session file now) r.0 r.1 r.2 in
        let u = unasked_from leases session file now f.0 r.1 f.1 in
        let none : k.recall ≡ None = ap (λ (z : Lease). z.recall) (same_at leases ordered p.0 u.0 k u.1 p.2 u.2 (sym (u.3 ∙ r.3)) (sym (u.4 ∙ r.4))) ∙ u.5 in
        inr (
          new.0,
          ap (λ (z : Lease). z.recall) (sym whole) ∙ new.1,
          (p.0, p.2 ∙ ap (λ (z : Lease). Some z) (sym (again None none)) ∙ ap (λ (z : Lease). Some (record z { recall = None })) whole),
          new.2,
          new.3 ∙ ap (λ (n : ℕ). Some (asked n k.file new.0)) p.3 ∙ ap (λ (n : ℕ). Some (asked l.session n new.0)) p.4,
        )

-- ---- a call is taken

abbrev served : (n now : ℕ) (bytes : List ℕ) (before : State) (p : State × ServerStep) → Move
served n now bytes before p = record { event = Serves n now bytes; before = before; after = p.0; sent = p.1.send }

abbrev Come : Move → (i : ℕ) → Lease → Type 0
Come v i l = IsThere v.before.leasing.leases l ⊎ (IsAskedFor v l ⊎ IsGranted v l)

-- where no other stands
same_come : (v : Move) → v.after.leasing.leases ≡ v.before.leasing.leases → LeasesCome v
same_come v same i l at = inl (i, ap (λ (ls : List Lease). slice_get ls i) (sym same) ∙ at)

taken_come : (s : State) (n now xid : ℕ) (bytes : List ℕ) (b : Body) (p : State × ServerStep) → AreOrdered s.leasing.leases → parse_of server_waiting bytes ≡ Ok (message.Call xid b) → stands s n ≡ true → Taken (at_reading s now) n xid b p → LeasesCome (served n now bytes s p)
taken_come s n now xid bytes b p ordered read up (stays waiting leasing quiet same) = same_come (served n now bytes s p) (ap (λ g. g.leases) leasing)
taken_come s n now xid bytes b p ordered read up (grants file names waiting leasing quiet same) = λ i l at. by i l file names (ap (λ (ls : List Lease). slice_get ls i) (sym (ap (λ g. g.leases) leasing)) ∙ at)
  where
    v : Move
    v = served n now bytes s p

    by : (i : ℕ) (l : Lease) (file : Option ℕ) → ((id : ℕ) → file ≡ Some id → file_leased b ≡ Some id) → slice_get (with_granted_on s.leasing.leases (max s.leasing.moment now) n file (term_on (at_reading s now) file)) i ≡ Some l → Come v i l
    by i l None names at = inl (i, at)
    by i l (Some id) names at = elim (granted_new s.leasing.leases s.waiting (max s.leasing.moment now) n id s.leasing.term i l at) [
      | inl new ↦ inr (inr (subst (IsGranted v) new (record { to = inl (now, xid, bytes, b, refl, read, names id refl); up = up; ends = refl; unasked = refl })))
      | inr old ↦ inl old
    ]
taken_come s n now xid bytes b p ordered read up (comes_to c is_asked waiting leasing says same) = λ i l at. by l (asked_came s.leasing.leases ordered s.leasing.calls (λ (r : Recall). stands s r.session) (asker c) c.file (max s.leasing.moment now) i l (all_marked_ordered all s.leasing.leases ordered) (ap (λ (ls : List Lease). slice_get ls i) (sym (ap (λ g. g.leases) leasing)) ∙ at))
  where
    all : List Asked
    all = (asking (at_reading s now).leasing (recalls_for (at_reading s now) c)).1

    v : Move
    v = served n now bytes s p

    by : (l : Lease) → IsThere s.leasing.leases l ⊎ IsAskedBy s.leasing.leases all l → IsThere s.leasing.leases l ⊎ (IsAskedFor v l ⊎ IsGranted v l)
    by l (inl old) = inl old
    by l (inr h) = inr (inl (record {
      xid = h.0;
      recall = h.1;
      place = h.2.0;
      there = h.2.1;
      sent = subst (λ (ms : List Sent). Contains ms (recall_of l h.0)) (sym says) (contains_at (map recall_sent all) h.3 (recall_of l h.0) (map_there recall_sent all h.3 (asked l.session l.file h.0) h.4));
    }))

-- ---- any event

abbrev ComesServed : Core → (n now : ℕ) (bytes : List ℕ) → CoreStep → Type 0
ComesServed k n now bytes t = LeasesCome (record { event = Serves n now bytes; before = k.server; after = t.core.server; sent = t.down })

serves_come : (k : Core) (n now : ℕ) (bytes : List ℕ) → AreOrdered k.server.leasing.leases → ComesServed k n now bytes (happens k (Serves n now bytes))
serves_come k n now bytes ordered = by (numbered k.sessions n)
  where
    given : (xid : ℕ) (b : Body) (p : State × ServerStep) → (done : Bool) → p.0.leasing.leases ≡ given_up k.server.leasing.leases n xid done → LeasesCome (served n now bytes k.server p)
    given xid b p true is = λ i l at. (let h = filtered_there (λ l. not (remembers l n xid)) k.server.leasing.leases i l (ap (λ (ls : List Lease). slice_get ls i) (sym is) ∙ at) in inl (h.0, h.1))
    given xid b p false is = same_come (served n now bytes k.server p) is

    got : (m : Message) → parse_of (server_waits k n) bytes ≡ Ok m → (t : Bool) → stands k.server n ≡ t → LeasesCome (served n now bytes k.server (got_if_under k.server false t n m now))
    got m read false up = same_come (served n now bytes k.server (got_if_under k.server false false n m now)) refl
    got (message.Call xid b) read true up = taken_come k.server n now xid bytes b (called_under (at_reading k.server now) false n xid b) ordered (call_read k n bytes xid b read) up (called_taken (at_reading k.server now) n xid b)
    got (message.Unfit xid why) read true up = same_come (served n now bytes k.server (got_if_under k.server false true n (message.Unfit xid why) now)) refl
    got (message.Refuse xid why) read true up = same_come (served n now bytes k.server (got_if_under k.server false true n (message.Refuse xid why) now)) refl
    got (message.Answer xid b) read true up = given xid b (got_if_under k.server false true n (message.Answer xid b) now) (is_recalled b) refl

    still : LeasesCome (record { event = Serves n now bytes; before = k.server; after = k.server; sent = [] })
    still = same_come (record { event = Serves n now bytes; before = k.server; after = k.server; sent = [] }) refl

    lost : (t : Bool) → LeasesCome (record { event = Serves n now bytes; before = k.server; after = (server_hangs_if k.server t n).0; sent = [] })
    lost true = same_come (record { event = Serves n now bytes; before = k.server; after = (server_hangs_if k.server true n).0; sent = [] }) refl
    lost false = same_come (record { event = Serves n now bytes; before = k.server; after = (server_hangs_if k.server false n).0; sent = [] }) refl

    none : (x : Session) (e : WireFault) → ComesServed k n now bytes (serves_none k n x e)
    none x (fault.UnknownXid xid) = still
    none x (fault.NotRpc place) = lost (stands k.server n)
    none x (fault.Garbage place) = lost (stands k.server n)

    read_ : (x : Session) (r : Result Message WireFault) → parse_of (server_waits k n) bytes ≡ r → ComesServed k n now bytes (serves_if k n now x r)
    read_ x (Ok m) is = got m is (stands k.server n) refl
    read_ x (Err e) is = none x e

    heard : (x : Session) (b : Bool) → ComesServed k n now bytes (serves_unless k n now bytes x b)
    heard x true = still
    heard x false = read_ x (parse_of (server_waits k n) bytes) refl

    by : (o : Option Session) → ComesServed k n now bytes (serves k n now bytes o)
    by None = still
    by (Some x) = heard x x.hung

abbrev settled : (now : ℕ) → State → List Sent → State → Move
settled now s sent t = record { event = Settles now; before = s; after = t; sent = sent }

-- a settling grants the session of a COMMITTMP that is made
settles_come : (s : State) (now : ℕ) → ((c : FileChange) → ready_by s now ≡ Some c → stands s c.session ≡ true) → (sent : List Sent) → LeasesCome (settled now s sent (closing.settles s now).0)
settles_come s now ups sent = by (ready_by s now) refl
  where
    done : (t : State) (c : FileChange) → ready_by s now ≡ Some c → IsContent c.what → (ws : List FileChange) (r : Result Changed Status) (i : ℕ) (l : Lease) → slice_get (leases_done s.leasing.leases (max s.leasing.moment now) c.session c.file (committed (term_of s.leasing.term ws c.file) r).answer) i ≡ Some l → Come (settled now s sent t) i l
    done t c is what ws (Ok d) i l at = elim (granted_new s.leasing.leases ws (max s.leasing.moment now) c.session c.file s.leasing.term i l at) [
      | inl new ↦ inr (inr (subst (IsGranted (settled now s sent t)) new (record { to = inr (now, c, refl, is, what, refl, refl); up = ups c is; ends = refl; unasked = refl })))
      | inr old ↦ inl old
    ]
    done t c is what ws (Err e) i l at = inl (i, at)

    made : (ws : List FileChange) (c : FileChange) → ready_by s now ≡ Some c → (w : Wanted) → c.what ≡ w → LeasesCome (settled now s sent (makes_change (at_reading (record s { waiting = ws }) now) c w).0)
    made ws c is (wanted.Content content) what = λ i l at. done (makes_change (at_reading (record s { waiting = ws }) now) c (wanted.Content content)).0 c is (subst IsContent (sym what) tt) ws (stored false s.tree (replace s.tree (held ws) c.file content)).1 i l at
    made ws c is (wanted.Asked a) what = same_come (settled now s sent (makes_change (at_reading (record s { waiting = ws }) now) c (wanted.Asked a)).0) refl

    by : (o : Option FileChange) → ready_by s now ≡ o → LeasesCome (settled now s sent (settles_by s false now o).0)
    by None is = same_come (settled now s sent s) refl
    by (Some c) is = made (without s.waiting c.session) c is c.what refl

-- no other event touches one
rests_same : (k : Core) (e : Event) → ((n now : ℕ) (bytes : List ℕ) → e ≡ Serves n now bytes → ⊥) → ((now : ℕ) → e ≡ Settles now → ⊥) → (happens k e).core.server.leasing.leases ≡ k.server.leasing.leases
rests_same k e served_ settled = what_happens k e (λ t. t.core.server.leasing.leases ≡ k.server.leasing.leases) (record {
  nothing = refl;
  idle = refl;
  joins = λ c seat is. refl;
  refuses = λ c seat is. refl;
  does = λ c now d seat is. refl;
  takes = λ n now bytes x m is at unhung read. absurd (served_ n now bytes is);
  closes = λ n now bytes x is at unhung. absurd (served_ n now bytes is);
  hears = λ n now bytes owner seat is. refl;
  settles = λ now is. absurd (settled now is);
  cuts = λ c seat is. refl;
  hangs = λ n x is at unhung. hung n (stands k.server n);
  raw_joins = λ is. refl;
  raw_refuses = λ is. refl;
})
  where
    hung : (n : ℕ) (t : Bool) → (server_hangs_if k.server t n).0.leasing.leases ≡ k.server.leasing.leases
    hung n true = refl
    hung n false = refl

-- the session of a change that is ready stands
ready_stands : (book : Book) (k : Core) (qs : List Queue) (now : ℕ) → IsKept book k qs → (c : FileChange) → ready_by k.server now ≡ Some c → stands k.server c.session ≡ true
ready_stands book k qs now kept c is =
    let l = subst (Leaves k now) is (leaves_ready book k qs now kept) in
    let home = kept.home l.place c l.there in
    unhung_stands book k qs c.session kept home.0 home.1 ∙ ap not home.2

pub leases_come : (book : Book) (k : Core) (qs : List Queue) (e : Event) → IsKept book k qs → AreOrdered k.server.leasing.leases → LeasesCome (move_of (moment k e))
leases_come book k qs (Serves n now bytes) kept ordered = serves_come k n now bytes ordered
leases_come book k qs (Settles now) kept ordered = settles_come k.server now (ready_stands book k qs now kept) (happens k (Settles now)).down
leases_come book k qs (Hangs n) kept ordered = same_come (move_of (moment k (Hangs n))) (rests_same k (Hangs n) (λ n now bytes z. absurd cc) (λ now z. absurd cc))
leases_come book k qs (Joins c) kept ordered = same_come (move_of (moment k (Joins c))) (rests_same k (Joins c) (λ n now bytes z. absurd cc) (λ now z. absurd cc))
leases_come book k qs (Does c now d) kept ordered = same_come (move_of (moment k (Does c now d))) (rests_same k (Does c now d) (λ n now bytes z. absurd cc) (λ now z. absurd cc))
leases_come book k qs (Hears n now bytes) kept ordered = same_come (move_of (moment k (Hears n now bytes))) (rests_same k (Hears n now bytes) (λ n now bytes z. absurd cc) (λ now z. absurd cc))
leases_come book k qs (Cuts c) kept ordered = same_come (move_of (moment k (Cuts c))) (rests_same k (Cuts c) (λ n now bytes z. absurd cc) (λ now z. absurd cc))
leases_come book k qs RawJoins kept ordered = same_come (move_of (moment k RawJoins)) (rests_same k RawJoins (λ n now bytes z. absurd cc) (λ now z. absurd cc))

-- ---- the server's clock

abbrev Goes : (was then_ reading : ℕ) → Type 0
Goes was then_ reading = (then_ ≡ was) ⊎ (then_ ≡ max was reading)

goes_to : (was then_ now : ℕ) (e g : Event) → e ≡ g → reading_of g ≡ now → Goes was then_ now → Goes was then_ (reading_of e)
goes_to was then_ now e g is reads (inl same) = inl same
goes_to was then_ now e g is reads (inr late) = inr (late ∙ ap (max was) (sym reads) ∙ ap (λ (z : Event). max was (reading_of z)) (sym is))

taken_goes : (s : State) (n now xid : ℕ) (b : Body) (p : State × ServerStep) → Taken (at_reading s now) n xid b p → Goes s.leasing.moment p.0.leasing.moment now
taken_goes s n now xid b p (stays waiting leasing quiet same) = inr (ap (λ g. g.moment) leasing)
taken_goes s n now xid b p (grants file names waiting leasing quiet same) = inr (ap (λ g. g.moment) leasing)
taken_goes s n now xid b p (comes_to c is_asked waiting leasing says same) = inr (ap (λ g. g.moment) leasing)

got_goes : (s : State) (t : Bool) (n now : ℕ) (m : Message) → Goes s.leasing.moment (got_if_under s false t n m now).0.leasing.moment now
got_goes s false n now m = inl refl
got_goes s true n now (message.Call xid b) = taken_goes s n now xid b (called_under (at_reading s now) false n xid b) (called_taken (at_reading s now) n xid b)
got_goes s true n now (message.Unfit xid why) = inr refl
got_goes s true n now (message.Refuse xid why) = inr refl
got_goes s true n now (message.Answer xid b) = inr refl

settle_goes : (s : State) (now : ℕ) → Goes s.leasing.moment (closing.settles s now).0.leasing.moment now
settle_goes s now = by (ready_by s now)
  where
    made : (ws : List FileChange) (c : FileChange) (w : Wanted) → Goes s.leasing.moment (makes_change (at_reading (record s { waiting = ws }) now) c w).0.leasing.moment now
    made ws c (wanted.Content content) = inr refl
    made ws c (wanted.Asked a) = inr refl

    by : (o : Option FileChange) → Goes s.leasing.moment (settles_by s false now o).0.leasing.moment now
    by None = inl refl
    by (Some c) = made (without s.waiting c.session) c c.what

moment_goes : (k : Core) (e : Event) → Goes k.server.leasing.moment (happens k e).core.server.leasing.moment (reading_of e)
moment_goes k e = what_happens k e (λ t. Goes k.server.leasing.moment t.core.server.leasing.moment (reading_of e)) (record {
  nothing = inl refl;
  idle = inl refl;
  joins = λ c seat is. inl refl;
  refuses = λ c seat is. inl refl;
  does = λ c now d seat is. inl refl;
  takes = λ n now bytes x m is at unhung read. goes_to k.server.leasing.moment _ now e (Serves n now bytes) is refl (got_goes k.server (stands k.server n) n now m);
  hears = λ n now bytes owner seat is. inl refl;
  settles = λ now is. goes_to k.server.leasing.moment _ now e (Settles now) is refl (settle_goes k.server now);
  cuts = λ c seat is. inl refl;
  closes = λ n now bytes x is at unhung. hung n (stands k.server n);
  hangs = λ n x is at unhung. hung n (stands k.server n);
  raw_joins = λ is. inl refl;
  raw_refuses = λ is. inl refl;
})
  where
    hung : (n : ℕ) (t : Bool) → Goes k.server.leasing.moment (server_hangs_if k.server t n).0.leasing.moment (reading_of e)
    hung n true = inl refl
    hung n false = inl refl

pub keeps_time : (k : Core) (e : Event) → k.server.leasing.quiet ≡ 0 → KeepsTime (move_of (moment k e))
keeps_time k e none = record { term = ap (λ (p : ℕ × ℕ). p.0) (happens_header k e); moment = moment_goes k e; quiet = none }
