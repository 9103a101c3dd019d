-- The client that acts in an event: its session, its seat and its operation.
use Rattle.std.proofs.Common.{inl, inr, ◌≡◌, ℕ, ◌+◌, List, [], ◌∷◌, length, Option, Some, None, Bool, true, false, refl, sym, ap, ◌∙◌, subst, arith, ne_eqb, Result, Ok}
use Rattle.client_state.specs.State as client
use Rattle.register_model.specs.declared.op.Outcome.{Outcome}
use Rattle.register_model.specs.declared.op.Outcome.TheVariants as told
use Rattle.trace_replay.specs.Trail.{given_by_message, given_by_record, given_from}
use Rattle.kept_promise.proofs.Common.{nat_tests, ◌==◌, ◌&&◌, nat_le, slice_get, is_some, not, MessageFits, message_spell, parse_of, WireFault, Message, got_step, Task, Op, Core, Seat, Session, Event.Hears, is_newest, acted, hears, hears_at, hears_if, numbered, happens, wanted_by, taken_if, taken_from, taken_by, given_by, until, Book, is_running, Told, Queue, told_message, Event.Serves, server_waiting, server_waits, ask_message, call_message, Call, Call.Lease, IsExpected}
use Rattle.kept_promise.proofs.Lists.{some_is, nothing_there, same_or_not}
use Rattle.kept_promise.proofs.Messages.{Job, job, job_of, AllTolds, AllAsks}
use Rattle.kept_promise.proofs.Fits.{FitLaws}
use Rattle.kept_promise.proofs.Moves.{expected}
use Rattle.kept_promise.proofs.Rights.{IsRight}
use Rattle.kept_promise.proofs.Facts.{IsKept, IsSession, IsMatched, is_naming}
use Rattle.kept_promise.proofs.Turns.{also_numbered, owned_down, owned_up, has_owner}
use Rattle.kept_promise.proofs.RunsCarried.{FindsAsk, FindsTold, Finds}
use Rattle.kept_promise.proofs.Counted.{IsActor}
use Rattle.kept_promise.proofs.Statements.{ToldFits, CallFits}

-- ---- operations

running_is : (u : Outcome) → is_running u ≡ true → u ≡ told.Running
running_is told.Running e = refl
running_is u e = absurd cc

-- an operation has no end exactly where it runs
pub runs : (book : Book) (o : Op) → IsRight book o → o.end ≡ None → o.outcome ≡ told.Running
runs book o r e = by (is_running o.outcome) refl (sym (ap (λ (z : Option ℕ). is_some z) e) ∙ r.ends)
  where
    by : (b : Bool) → is_running o.outcome ≡ b → false ≡ not b → o.outcome ≡ told.Running
    by true q e = running_is o.outcome q
    by false q e = absurd cc

pub unended : (book : Book) (o : Op) → IsRight book o → o.outcome ≡ told.Running → o.end ≡ None
unended book o r e = by o.end (r.ends ∙ ap (λ (u : Outcome). not (is_running u)) e)
  where
    by : (t : Option ℕ) → is_some t ≡ false → t ≡ None
    by None e = refl
    by (Some n) e = absurd cc

pub job_place : (place : Option ℕ) (task : Option Task) (j : Job) → job_of place task ≡ Some j → place ≡ Some j.place
job_place (Some p) (Some t) j e = ap (λ (z : Job). Some z.place) (some_is (record { place = p; file = t.file; stage = t.stage }) j e)
job_place _ _ j e = nothing_there j e

pub job_task : (place : Option ℕ) (task : Option Task) (j : Job) → job_of place task ≡ Some j → task ≡ Some (record { file = j.file; stage = j.stage })
job_task (Some p) (Some t) j e = ap (λ (z : Job). Some (record { file = z.file; stage = z.stage })) (some_is (record { place = p; file = t.file; stage = t.stage }) j e)
job_task _ _ j e = nothing_there j e

-- the operation at a client's place is its job
pub placed : (seat : Seat) (p : ℕ) → IsMatched seat → seat.place ≡ Some p → (j : Job) × (job seat ≡ Some j) × (j.place ≡ p)
placed seat p (inl m) e = nothing_there p (sym m.0 ∙ e)
placed seat p (inr m) e = (m.0, m.1, some_is m.0.place p (sym (job_place seat.place seat.client.task m.0 m.1) ∙ e))

none_of : (a : Bool) (b c : Bool) → c ≡ false → (a && (b && c)) ≡ false
none_of true true c e = e
none_of _ _ c e = refl

-- a step of a client is one of its operation alone
pub acts_alone : (book : Book) (k : Core) (qs : List Queue) (i : ℕ) (seat : Seat) → IsKept book k qs → numbered k.seats i ≡ Some seat → IsActor k.ops i seat.place k.steps
acts_alone book k qs i seat kept here = record {
  other = λ p o at apart. elim (same_or_not i o.client) [
    | inr foreign ↦ ap (λ b. b && (nat_le o.begin (k.steps + 1) && until o.end (k.steps + 1))) (ne_eqb i o.client foreign)
    | inl same ↦ none_of (i == o.client) (nat_le o.begin (k.steps + 1)) (until o.end (k.steps + 1)) (over p o (there p o at) same apart o.end refl)
  ];
  own = λ p o e at.
      let s = kept.seats i seat here in
      let j = placed seat p s.matched e in
      let of = s.task j.0 j.1 in
      let same : of.op ≡ o = some_is of.op o (sym of.there ∙ ap (slice_get book.ops) j.2 ∙ there p o at) in
      let r = kept.sound.rights p o (there p o at) in
      let b = r.begun in
      let steps = kept.steps in
      (ap (λ (z : Op). z.client) (sym same) ∙ of.client, unended book o r (ap (λ (z : Op). z.outcome) (sym same) ∙ of.running), omega (arith, b, steps));
}
  where
    there : (p : ℕ) (o : Op) → slice_get k.ops p ≡ Some o → slice_get book.ops p ≡ Some o
    there p o at = ap (λ (l : List Op). slice_get l p) kept.ops ∙ at

    over : (p : ℕ) (o : Op) → slice_get book.ops p ≡ Some o → i ≡ o.client → (seat.place ≡ Some p → ⊥) → (t : Option ℕ) → o.end ≡ t → until o.end (k.steps + 1) ≡ false
    over p o at same apart None e =
        let run = kept.running p o at (runs book o (kept.sound.rights p o at) e) in
        let seat_is : run.0 ≡ seat = some_is run.0 seat (sym run.2 ∙ ap (numbered k.seats) (sym same) ∙ here) in
        absurd (apart (ap (λ (z : Seat). z.place) (sym seat_is) ∙ job_place run.0.place run.0.client.task run.1 run.3 ∙ ap (λ (n : ℕ). Some n) run.4))
    over p o at same apart (Some e) is =
        let le = ((kept.sound.rights p o at).past e is).1 in
        let steps = kept.steps in
        ap (λ z. until z (k.steps + 1)) is ∙ (let t : nat_le (k.steps + 1) e ≡ false = grind (arith, nat_tests, le, steps) in t)

-- the operation that runs at a client's place
pub own_op : (book : Book) (k : Core) (qs : List Queue) (i : ℕ) (seat : Seat) (p : ℕ) (o : Op) → IsKept book k qs → numbered k.seats i ≡ Some seat → seat.place ≡ Some p → slice_get k.ops p ≡ Some o → (j : Job) × (job seat ≡ Some j) × (j.place ≡ p) × (o.client ≡ i) × (o.outcome ≡ told.Running) × (is_naming j.stage ≡ false → o.file ≡ j.file)
own_op book k qs i seat p o kept here e at =
    let s = kept.seats i seat here in
    let j = placed seat p s.matched e in
    let of = s.task j.0 j.1 in
    let same : of.op ≡ o = some_is of.op o (sym of.there ∙ ap (slice_get book.ops) j.2 ∙ ap (λ (l : List Op). slice_get l p) kept.ops ∙ at) in
    (j.0, j.1, j.2, ap (λ (z : Op). z.client) (sym same) ∙ of.client, ap (λ (z : Op). z.outcome) (sym same) ∙ of.running, λ named. ap (λ (z : Op). z.file) (sym same) ∙ of.file named)

-- another client's job is not at its place
pub foreign_at : (book : Book) (k : Core) (qs : List Queue) (i : ℕ) (seat : Seat) → IsKept book k qs → numbered k.seats i ≡ Some seat → (m : ℕ) (s : Seat) (j : Job) (o : Op) → numbered k.seats m ≡ Some s → job s ≡ Some j → slice_get k.ops j.place ≡ Some o → (m ≡ i → ⊥) → seat.place ≡ Some j.place → ⊥
foreign_at book k qs i seat kept here m s j o there is at apart e =
    let of = (kept.seats m s there).task j is in
    let same : of.op ≡ o = some_is of.op o (sym of.there ∙ ap (λ (l : List Op). slice_get l j.place) kept.ops ∙ at) in
    let own = own_op book k qs i seat j.place o kept here e at in
    apart (sym of.client ∙ ap (λ (z : Op). z.client) same ∙ own.3)

-- ---- what comes to a client

-- on its newest session, which is not cut
pub record Heard (k : Core) (qs : List Queue) (n now : ℕ) (bytes : List ℕ) (mid : List Queue) : Type 0 where
  pub session : Session
  pub seat : Seat
  pub queue : Queue
  pub told : Told
  pub behind : List Told
  pub at : numbered k.sessions n ≡ Some session
  pub owner : numbered k.seats session.owner ≡ Some seat
  pub newest : seat.session ≡ Some n
  pub uncut : session.cut ≡ false
  pub queue_is : numbered qs n ≡ Some queue
  pub first : queue.downs ≡ told ∷ behind
  pub bytes_is : bytes ≡ message_spell (told_message told)
  pub hears_is : happens k (Hears n now bytes) ≡ acted k session.owner seat (got_step seat.client (parse_of (client.waiting_of seat.client) bytes) now).0 (got_step seat.client (parse_of (client.waiting_of seat.client) bytes) now).1

pub newest_is : (o : Option ℕ) (n : ℕ) → o ≡ Some n → is_newest o n ≡ true
newest_is None n e = nothing_there n e
newest_is (Some m) n e = let same : m ≡ n = some_is m n e in grind (arith, nat_tests, same)

pub heard_at : (book : Book) (k : Core) (qs : List Queue) (n now : ℕ) (bytes : List ℕ) (mid : List Queue) → IsKept book k qs → FindsTold qs n bytes mid → Heard k qs n now bytes mid
heard_at book k qs n now bytes mid kept f = by (also_numbered qs k.sessions n f.0 (sym kept.made.1) f.3)
  where
    uncut : (x : Session) → IsSession book k.seats k.server n x f.0 → (b : Bool) → x.cut ≡ b → x.cut ≡ false
    uncut x h false e = e
    uncut x h true e = absurd (none_is (sym f.4 ∙ h.shut e))
      where
        none_is : f.1 ∷ f.2 ≡ [] → ⊥
        none_is z = absurd cc

    by : (x : Session) × (numbered k.sessions n ≡ Some x) → Heard k qs n now bytes mid
    by x =
        let h = kept.sessions n x.0 f.0 x.1 f.3 (owned_down kept n x.0 f.0 x.1 f.3 f.1 f.2 f.4) in
        let u = uncut x.0 h x.0.cut refl in
        record {
          session = x.0;
          seat = h.seat;
          queue = f.0;
          told = f.1;
          behind = f.2;
          at = x.1;
          owner = h.owner;
          newest = (h.here u).0;
          uncut = u;
          queue_is = f.3;
          first = f.4;
          bytes_is = f.5;
          hears_is = ap (hears k n now bytes) x.1 ∙ ap (hears_at k n x.0.owner now bytes) h.owner ∙ ap (hears_if k x.0.owner now h.seat bytes) (newest_is h.seat.session n (h.here u).0);
        }

abbrev pub session_heard : (book : Book) (k : Core) (qs : List Queue) (n now : ℕ) (bytes : List ℕ) (mid : List Queue) → IsKept book k qs → (h : Heard k qs n now bytes mid) → IsSession book k.seats k.server n h.session h.queue
session_heard book k qs n now bytes mid kept h = kept.sessions n h.session h.queue h.at h.queue_is (has_owner k.seats h.session h.seat h.owner)

-- it is read as itself
pub heard_reads : FitLaws → (book : Book) (k : Core) (qs : List Queue) (n now : ℕ) (bytes : List ℕ) (mid : List Queue) → IsKept book k qs → (h : Heard k qs n now bytes mid) → parse_of (client.waiting_of h.seat.client) bytes ≡ Ok (told_message h.told)
heard_reads laws book k qs n now bytes mid kept h =
    let s = session_heard book k qs n now bytes mid kept h in
    let fits = subst (λ (v : ℕ). ToldFits v h.told) (sym (kept.seats h.session.owner s.seat s.owner).speaks) (subst (AllTolds (ToldFits book.lbfs)) h.first s.downs_fit).0 in
    let same : s.seat ≡ h.seat = some_is s.seat h.seat (sym s.owner ∙ h.owner) in
    ap (λ (b : List ℕ). parse_of (client.waiting_of h.seat.client) b) h.bytes_is
    ∙ subst (λ (c : Seat). parse_of (client.waiting_of c.client) (message_spell (told_message h.told)) ≡ Ok (told_message h.told)) same (laws.again (client.waiting_of s.seat.client) (told_message h.told) fits.0.0 (expected n k.server.waiting h.queue h.session.hung s.seat.client 0 h.told (s.talk h.uncut).balanced (ap (λ (l : List Told). slice_get l 0) h.first) fits.1))

pub heard_acts : FitLaws → (book : Book) (k : Core) (qs : List Queue) (n now : ℕ) (bytes : List ℕ) (mid : List Queue) → IsKept book k qs → (h : Heard k qs n now bytes mid) → happens k (Hears n now bytes) ≡ acted k h.session.owner h.seat (got_step h.seat.client (Ok (told_message h.told)) now).0 (got_step h.seat.client (Ok (told_message h.told)) now).1
heard_acts laws book k qs n now bytes mid kept h = h.hears_is ∙ ap (λ (r : Result Message WireFault). acted k h.session.owner h.seat (got_step h.seat.client r now).0 (got_step h.seat.client r now).1) (heard_reads laws book k qs n now bytes mid kept h)

-- and taken where the operation under way waits for it
pub heard_takes : FitLaws → (book : Book) (k : Core) (qs : List Queue) (n now : ℕ) (bytes : List ℕ) (mid : List Queue) → IsKept book k qs → (h : Heard k qs n now bytes mid) → taken_by k h.session.owner (Hears n now bytes) ≡ wanted_by h.seat.client (Ok (told_message h.told))
heard_takes laws book k qs n now bytes mid kept h = ap (taken_from n bytes) h.owner ∙ ap (taken_if h.seat.client bytes) (newest_is h.seat.session n h.newest) ∙ ap (wanted_by h.seat.client) (heard_reads laws book k qs n now bytes mid kept h)

-- and which chunks its index gives it then
pub heard_gives : FitLaws → (book : Book) (k : Core) (qs : List Queue) (n now : ℕ) (bytes : List ℕ) (mid : List Queue) → IsKept book k qs → (h : Heard k qs n now bytes mid) → given_by k h.session.owner (Hears n now bytes) ≡ given_by_message h.seat.client (Ok (told_message h.told))
heard_gives laws book k qs n now bytes mid kept h = ap (given_from n bytes) h.owner ∙ ap (given_by_record h.seat.client bytes) (newest_is h.seat.session n h.newest) ∙ ap (given_by_message h.seat.client) (heard_reads laws book k qs n now bytes mid kept h)

-- ---- what the server reads

-- the first call on its way fits
pub serves_fits : (book : Book) (k : Core) (qs : List Queue) (n now : ℕ) (bytes : List ℕ) (mid : List Queue) → IsKept book k qs → (f : FindsAsk qs n bytes mid) → CallFits f.1.lbfs f.1.xid f.1.call
serves_fits book k qs n now bytes mid kept f =
    let x = also_numbered qs k.sessions n f.0 (sym kept.made.1) f.3 in
    let s = kept.sessions n x.0 f.0 x.1 f.3 (owned_up kept n x.0 f.0 x.1 f.3 f.1 f.2 f.4) in
    (subst (AllAsks (λ a. CallFits a.lbfs a.xid a.call)) f.4 s.ups_fit).0

-- a call is expected whatever answers the server waits for
pub ask_expected : (k : Core) (n lbfs xid : ℕ) (c : Call) → IsExpected server_waiting (call_message lbfs xid c) → IsExpected (server_waits k n) (call_message lbfs xid c)
ask_expected k n lbfs xid (Lease file) e = e
ask_expected k n lbfs xid _ e = e

-- a record that reaches it is read as the first call on its way
pub serves_read : FitLaws → (book : Book) (k : Core) (qs : List Queue) (n now : ℕ) (bytes : List ℕ) (mid : List Queue) → IsKept book k qs → (f : FindsAsk qs n bytes mid) → parse_of (server_waits k n) bytes ≡ Ok (ask_message f.1)
serves_read laws book k qs n now bytes mid kept f =
    let c = laws.calls f.1.lbfs f.1.xid f.1.call (serves_fits book k qs n now bytes mid kept f) in
    ap (parse_of (server_waits k n)) f.5 ∙ laws.again (server_waits k n) (ask_message f.1) c.0.0 (ask_expected k n f.1.lbfs f.1.xid f.1.call c.1)

-- and by who waits for nothing
pub serves_read_plain : FitLaws → (book : Book) (k : Core) (qs : List Queue) (n now : ℕ) (bytes : List ℕ) (mid : List Queue) → IsKept book k qs → (f : FindsAsk qs n bytes mid) → parse_of server_waiting bytes ≡ Ok (ask_message f.1)
serves_read_plain laws book k qs n now bytes mid kept f =
    let c = laws.calls f.1.lbfs f.1.xid f.1.call (serves_fits book k qs n now bytes mid kept f) in
    ap (parse_of server_waiting) f.5 ∙ laws.again server_waiting (ask_message f.1) c.0.0 c.1

-- the session on which something comes to the server
pub session_served : (k : Core) (qs : List Queue) (n now : ℕ) (bytes : List ℕ) (mid : List Queue) → length qs ≡ length k.sessions → Finds k qs (Serves n now bytes) mid → (x : Session) × (numbered k.sessions n ≡ Some x)
session_served k qs n now bytes mid made (inl f) = also_numbered qs k.sessions n f.0 (sym made) f.3
session_served k qs n now bytes mid made (inr (inl f)) = (f.session, f.at)
session_served k qs n now bytes mid made (inr (inr f)) = (f.0, f.1)
