-- The server takes the first call on its way.
use Rattle.std.proofs.Common.{◌≡◌, ℕ, zero, suc, ◌+◌, ◌<◌, List, [], ◌∷◌, Some, None, false, refl, sym, ap, ◌∙◌, subst, map, Ok, Bool, true, length, Option, Result, Err}
use Rattle.std.proofs.lemmas.Nat.{from_be_bytes-to_be_bytes_8}
use Rattle.chunk_calls.specs.Answers.{node_named}
use Rattle.server_core.specs.declared.event.Event.TheVariants as event
use Rattle.wire.specs.declared.fault.WireFault.TheVariants as fault
use Rattle.kept_promise.proofs.Common.{slice_get, Contains, Contains-append_left, Contains-append_right, Contains-push, handle_bytes, message_spell, parse_of, node_of, Indexed, Temp, Core, Session, CoreStep, Loss.Nothing, numbered, with_numbered, server_waiting, server_waits, Book, Reply, Ask, Told, Queue, ask_message, Tree, Leasing, is_raw, Message, Event.Serves, happens, serves, serves_if, serves_unless, raws_with, has_waiting, server_step, WireFault}
use Rattle.kept_promise.proofs.Statements.{CallFits}
use Rattle.kept_promise.proofs.Lists.{some_is, nothing_there, set_count}
use Rattle.kept_promise.proofs.History.{onward}
use Rattle.kept_promise.proofs.Turns.{Around, around_with, turned_core, unnoted, CameOn, came_same, came_on}
use Rattle.kept_promise.proofs.Fits.{FitLaws}
use Rattle.kept_promise.proofs.Takes.{took, put_down, Answers, kept_reply}
use Rattle.kept_promise.proofs.Facts.{IsLeasing, IsKept}
use Rattle.kept_promise.proofs.Leading.{Leads, sent_message, downs_put_in}
use Rattle.trace_ends.specs.Core.{server_got, came_with, changed_entry, newest_entries, serves_none}
use Rattle.kept_promise.proofs.Hangs.{leads_noted}

-- ---- what is found under this file system's own handles

pub own_node : (t : Tree) (f : ℕ) → f < 18446744073709551616 → node_of t (handle_bytes f) ≡ node_named t (Some f)
own_node t f small = ap (node_named t) (ap (λ (n : ℕ). Some n) (from_be_bytes-to_be_bytes_8 f small))

-- ---- the message comes whole

pub parsed : FitLaws → (a : Ask) → CallFits a.lbfs a.xid a.call → parse_of server_waiting (message_spell (ask_message a)) ≡ Ok (ask_message a)
parsed laws a fits = let f = laws.calls a.lbfs a.xid a.call fits in laws.again server_waiting (ask_message a) f.0.0 f.1

-- whatever the server waits for
pub parsed_at : FitLaws → (k : Core) (n : ℕ) (a : Ask) → CallFits a.lbfs a.xid a.call → parse_of (server_waits k n) (message_spell (ask_message a)) ≡ Ok (ask_message a)
parsed_at laws k n a fits = laws.again (server_waits k n) (ask_message a) (laws.calls a.lbfs a.xid a.call fits).0.0 (laws.expected (server_waits k n).calls a.lbfs a.xid a.call fits)

-- a message that comes whole is taken where the session stands
pub serves_as : (k : Core) (n now : ℕ) (bytes : List ℕ) (x : Session) (m : Message) → numbered k.sessions n ≡ Some x → x.hung ≡ false → parse_of (server_waits k n) bytes ≡ Ok m → happens k (Serves n now bytes) ≡ server_got k n now x m
serves_as k n now bytes x m at unhung read = ap (serves k n now bytes) at ∙ ap (serves_unless k n now bytes x) unhung ∙ ap (serves_if k n now x) read

-- of a session that has an owner no change is noted as a stranger's
pub owned_serves : (k : Core) (n now : ℕ) (bytes : List ℕ) (x : Session) → numbered k.sessions n ≡ Some x → is_raw x ≡ false → ((happens k (Serves n now bytes)).core.raws ≡ k.raws) × CameOn k.came (happens k (Serves n now bytes)).core.came (happens k (Serves n now bytes)).core.steps
owned_serves k n now bytes x at owned = subst (λ (o : Option Session). (let t = serves k n now bytes o in (t.core.raws ≡ k.raws) × CameOn k.came t.core.came t.core.steps)) (sym at) (by x.hung)
  where
    none : (e : WireFault) → (let t = serves_none k n x e in (t.core.raws ≡ k.raws) × CameOn k.came t.core.came t.core.steps)
    none (fault.UnknownXid xid) = (refl, came_same k.came (k.steps + 1))
    none _ = (refl, came_same k.came (k.steps + 1))

    read : (m : Result Message WireFault) → (let t = serves_if k n now x m in (t.core.raws ≡ k.raws) × CameOn k.came t.core.came t.core.steps)
    read (Ok m) = (
      (let r = server_step k.server (event.Got n m now) in ap (λ (b : Bool). raws_with k.raws b (k.steps + 1) (k.steps + 1) r.0.tree (changed_entry (newest_entries r.0.journal r.1.entries))) owned),
      came_on k.came (has_waiting k.server.waiting n) n (k.steps + 1),
    )
    read (Err e) = none e

    by : (b : Bool) → (let t = serves_unless k n now bytes x b in (t.core.raws ≡ k.raws) × CameOn k.came t.core.came t.core.steps)
    by true = (refl, came_same k.came k.steps)
    by false = read (parse_of (server_waits k n) bytes)

pub leads_got : (book : Book) (k : Core) (mid : List Queue) (n now : ℕ) (bytes : List ℕ) (x : Session) → numbered k.sessions n ≡ Some x → is_raw x ≡ false → Leads book mid (unnoted k (happens k (Serves n now bytes))) → Leads book mid (happens k (Serves n now bytes))
leads_got book k mid n now bytes x at owned h = let o = owned_serves k n now bytes x at owned in leads_noted book k mid (happens k (Serves n now bytes)) o.0 o.1 h

-- ---- the queues

pub again : (qs : List Queue) (n : ℕ) (q r : Queue) (us : List Ask) → numbered qs n ≡ Some q → Around qs (with_numbered (with_numbered qs n (record q { ups = us })) n r) n r
again qs n q r us is =
    let one = around_with qs n q (record q { ups = us }) is in
    let two = around_with (with_numbered qs n (record q { ups = us })) n (record q { ups = us }) r one.there in
    record { there = two.there; others = λ m apart. two.others m apart ∙ one.others m apart; count = two.count ∙ one.count }

pub put_is : (qs : List Queue) (sessions : List Session) (n : ℕ) (q : Queue) (us : List Ask) (y : Session) (t : Told) → numbered qs n ≡ Some q → numbered sessions n ≡ Some y
    → downs_put_in (with_numbered qs n (record q { ups = us })) (n, t) (numbered sessions n) (numbered (with_numbered qs n (record q { ups = us })) n) ≡ with_numbered (with_numbered qs n (record q { ups = us })) n (put_down q us y.cut t)
put_is qs sessions n q us y t is at =
    ap (λ o. downs_put_in (with_numbered qs n (record q { ups = us })) (n, t) o (numbered (with_numbered qs n (record q { ups = us })) n)) at
    ∙ ap (downs_put_in (with_numbered qs n (record q { ups = us })) (n, t) (Some y)) (around_with qs n q (record q { ups = us }) is).there

-- ---- an answer at once

abbrev pub answered : Core → (n : ℕ) → Leasing → Session → Ask → List (ℕ × Temp) → Indexed → Reply → CoreStep
answered k n leasing x a temps index r = record {
  core = record k { steps = k.steps + 1; server = record k.server { leasing = leasing; temps = temps; index = index }; sessions = with_numbered k.sessions n (took x a.xid (k.steps + 1)) };
  loss = Nothing;
  session = None;
  up = [];
  down = sent_message (n, record { xid = a.xid; reply = r }) ∷ [];
}

pub leads_answer : (book : Book) (k : Core) (qs : List Queue) (n : ℕ) (leasing : Leasing) (x : Session) (q : Queue) (a : Ask) (us : List Ask) (temps : List (ℕ × Temp)) (index : Indexed) (r : Reply) → IsLeasing leasing → (kept : IsKept book k qs) → (at : numbered k.sessions n ≡ Some x) → (is : numbered qs n ≡ Some q) → (owned : is_raw x ≡ false) → q.ups ≡ a ∷ us → x.hung ≡ false
    → Answers book k n x q a temps r (kept.sessions n x q at is owned) → Leads book (with_numbered qs n (record q { ups = us })) (answered k n leasing x a temps index r)
leads_answer book k qs n leasing x q a us temps index r leases kept at is owned e unhung shows =
    let t : Told = record { xid = a.xid; reply = r } in
    let y = took x a.xid (book.steps + 1) in
    let z = took x a.xid (k.steps + 1) in
    let same : y ≡ z = ap (λ (s : ℕ). took x a.xid (s + 1)) kept.steps in
    let sessions = with_numbered k.sessions n z in
    let around = around_with k.sessions n x z at in
    let more = onward book 1 book.ops in
    let after = with_numbered (with_numbered qs n (record q { ups = us })) n (put_down q us x.cut t) in
    let done : IsKept more (turned_core k more (record k.server { leasing = leasing; temps = temps; index = index }) k.seats sessions) after = kept_reply book k qs n leasing x q a us temps index r sessions after leases kept at is owned e unhung (record { there = around.there ∙ ap (λ v. Some v) (sym same); others = around.others; count = around.count }) (again qs n q (put_down q us x.cut t) us is) shows in
    record {
      sends = record { replies = []; replies_fit = tt; asks = []; up_is = refl; strays = []; strays_cut = tt; recalls = []; recalls_fit = tt; tolds = (n, t) ∷ []; down_is = refl };
      more = more;
      moments = refl;
      opening = refl;
      kept = subst (λ (l : List Queue). IsKept more (answered k n leasing x a temps index r).core l) (sym (put_is qs sessions n q us z t is around.there))
          (subst (λ (c : Core). IsKept more c after) (ap (λ s. record k { server = record k.server { leasing = leasing; temps = temps; index = index }; seats = k.seats; sessions = sessions; steps = s + 1; ops = book.ops; entries = book.entries }) kept.steps ∙ ap (λ o. record k { server = record k.server { leasing = leasing; temps = temps; index = index }; seats = k.seats; sessions = sessions; steps = k.steps + 1; ops = o; entries = book.entries }) kept.ops ∙ ap (λ o. record k { server = record k.server { leasing = leasing; temps = temps; index = index }; seats = k.seats; sessions = sessions; steps = k.steps + 1; ops = k.ops; entries = o }) kept.entries) done);
    }

-- ---- what is told

pub contains_at : {A : Type 0} (xs : List A) (i : ℕ) (x : A) → slice_get xs i ≡ Some x → Contains xs x
contains_at [] i x e = nothing_there x e
contains_at (z ∷ xs) zero x e = subst (Contains (z ∷ xs)) (some_is z x e) (Contains-append_left (z ∷ []) xs z (Contains-push [] z))
contains_at (z ∷ xs) (suc i) x e = Contains-append_right (z ∷ []) xs x (contains_at xs i x e)

pub map_at : {A B : Type 0} (f : A → B) (xs : List A) (i : ℕ) (x : A) → slice_get xs i ≡ Some x → slice_get (map f xs) i ≡ Some (f x)
map_at f [] i x e = nothing_there x e
map_at f (z ∷ xs) zero x e = ap (λ a. Some (f a)) (some_is z x e)
map_at f (z ∷ xs) (suc i) x e = map_at f xs i x e
