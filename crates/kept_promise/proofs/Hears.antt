-- A client hears the first answer on its way: it is read as itself, and is either waited for or forgotten.
use Rattle.std.proofs.Common.{◌+◌, inl, inr, ◌≡◌, ℕ, List, [], ◌∷◌, ◌++◌, length, Option, Some, None, Bool, true, false, refl, sym, ap, ◌∙◌, subst, arith, eq-eqb, map, Result, Ok, ◌≤◌}
use Rattle.nfs3_calls.specs.Nfs.{nfs_proc}
use Rattle.path_calls.specs.Walk.{next_call}
use Rattle.path_calls.specs.declared.walk.Walk.{Walk}
use Rattle.wire.specs.declared.message.Program.TheVariants as program
use Rattle.client_state.specs.State as client
use Rattle.open_close.specs.Hashed.{client_hashed, message_compared, answer_compared, took_compared, compared_at, compared, compared_if, task_named, named as parts_named}
use Rattle.file_open.specs.Looking.{reading_by, with_file, reading_if, reading, looked_by}
use Rattle.client_state.specs.declared.task.Stage.TheVariants as stage
use Rattle.trace_replay.specs.Trail.{heard_hashed, heard_hashed_if}
use Rattle.kept_promise.proofs.Common.{place_after, ops_with, taken_of, session_of, with_numbered, Op, Contains-append_left, Contains-append_right, Contains-push, looked_up, slice_get, Contains, Chunk, Done, Piece, MessageFits, message_spell, parse_of, Message, Pending, WireFault, has_call, got_step, took_if, drops, took, idle, ClientStep, Fetch, ReadCall, Stage, Task, read_at, Core, Seat, Session, Event.Hears, CoreStep, numbered, is_newest, hears_if, hears_at, hears, acted, happens, owner_in, hashed_by, hashed_of, Book, Reply, Reply.Bytes, Told, Queue, reply_body, reply_program, told_message, Program, is_raw}
use Rattle.kept_promise.proofs.Lists.{some_is, nothing_there, false_and_true}
use Rattle.kept_promise.proofs.Keys.{times, code_of}
use Rattle.kept_promise.proofs.Messages.{Job, AllTolds, FetchOf}
use Rattle.kept_promise.proofs.Taken.{times_map_append}
use Rattle.kept_promise.proofs.Turns.{also_numbered, around_with, owned_down}
use Rattle.kept_promise.proofs.Fits.{FitLaws}
use Rattle.kept_promise.proofs.Facts.{IsSession, IsMatched, IsKept}
use Rattle.kept_promise.proofs.Heard.{told_pending}
use Rattle.kept_promise.proofs.Moves.{expected}
use Rattle.kept_promise.proofs.Steps.{Here, session_at}
use Rattle.kept_promise.proofs.CloseSteps.{task_is, calls_are}
use Rattle.client_cache.specs.Cache.{with_note}
use Rattle.open_close.specs.Step.{takes, hears as hears_by}
use Rattle.kept_promise.proofs.Caches.{found_noted, cached_noted}
use Rattle.kept_promise.proofs.Kin.{Parts, parts_of, with_parts, with_twice, kept_one, ops_alike}
use Rattle.kept_promise.proofs.Fresh.{ActsAt}
use Rattle.kept_promise.proofs.Rights.{acts_for}
use Rattle.kept_promise.proofs.Listings.{Looked, reads_at}
use Rattle.kept_promise.proofs.Takings.{Noted, own_of, single, comes_taken}
use Rattle.kept_promise.proofs.Answered.{walk_code, walk_reply, walk_its}
use Rattle.kept_promise.proofs.WalkSteps.{leads_walked}
use Rattle.kept_promise.proofs.StepCases.{IsOfFile, renoted}
use Rattle.kept_promise.proofs.Acted.{rest_down, leads_comes}
use Rattle.kept_promise.proofs.Found.{took_finds}
use Rattle.kept_promise.proofs.Drops.{has_there, forgotten_there, leads_drops}
use Rattle.kept_promise.proofs.Leading.{IsNoted, Leads, KeptHears}
use Rattle.kept_promise.proofs.Statements.{ToldFits}

-- ---- the answer comes whole

heard : FitLaws → (book : Book) (k : Core) (qs : List Queue) (n : ℕ) (x : Session) (q : Queue) (t : Told) (ts : List Told) → (h : IsSession book k.seats k.server n x q) → q.downs ≡ t ∷ ts → x.cut ≡ false → h.seat.client.lbfs ≡ book.lbfs → parse_of (client.waiting_of h.seat.client) (message_spell (told_message t)) ≡ Ok (told_message t)
heard laws book k qs n x q t ts h first uncut speaks =
    let fits = subst (λ (v : ℕ). ToldFits v t) (sym speaks) (subst (AllTolds (ToldFits book.lbfs)) first h.downs_fit).0 in
    laws.again (client.waiting_of h.seat.client) (told_message t) fits.0.0 (expected n k.server.waiting q x.hung h.seat.client 0 t (h.talk uncut).balanced (ap (λ (l : List Told). slice_get l 0) first) fits.1)

-- ---- what is hashed at it

abbrev bytes_of : Told → List ℕ
bytes_of t = message_spell (told_message t)

is_here : (n : ℕ) (o : Option ℕ) → o ≡ Some n → is_newest o n ≡ true
is_here n o e = ap (λ (z : Option ℕ). is_newest z n) e ∙ eq-eqb n n refl

hashed_is : (k : Core) (n now : ℕ) (x : Session) (seat : Seat) (t : Told) → numbered k.sessions n ≡ Some x → numbered k.seats x.owner ≡ Some seat → seat.session ≡ Some n → parse_of (client.waiting_of seat.client) (bytes_of t) ≡ Ok (told_message t)
    → hashed_by k (Hears n now (bytes_of t)) ≡ client_hashed seat.client (Ok (told_message t)) now
hashed_is k n now x seat t at owner newest read =
    ap (λ (o : Option Session). heard_hashed n now (bytes_of t) (numbered k.seats (owner_in o))) at
    ∙ ap (heard_hashed n now (bytes_of t)) owner
    ∙ ap (heard_hashed_if seat.client now (bytes_of t)) (is_here n seat.session newest)
    ∙ ap (λ (r : Result Message WireFault). client_hashed seat.client r now) read

-- what is hashed as a client hears this, whose clock was read
abbrev all_hashed : client.State → Told → List (List ℕ)
all_hashed s t = message_compared s.task (told_message t) ++ looked_by s (reading s.task (told_message t)) ++ task_named s s.task (hears_by s (Ok (told_message t))).1.send

abbrev IsHashed : Book → Seat → Told → Type 0
IsHashed book seat t = (b : List ℕ) → Contains (all_hashed seat.client t) b → Contains (hashed_of book.moments) b

-- the bytes of a READ that have their chunk's length are compared with its name
bytes_hashed : (s : client.State) (t : Told) (file : ℕ) (f : Fetch) (p : Piece) (r : ReadCall) (c : Chunk) → s.task ≡ Some (record { file = file; stage = stage.Reading f }) → has_call (client.pending_in (stage.Reading f)) t.xid ≡ true → t.reply ≡ Bytes (Done p) → read_at f.under t.xid ≡ Some r → slice_get f.chunks r.index ≡ Some c → length p.bytes ≡ c.len
    → Contains (all_hashed s t) p.bytes
bytes_hashed s t file f p r c task own reply under chunk len =
    let found = looked_by s (reading s.task (told_message t)) in
    let named : List (List ℕ) = task_named s s.task (hears_by s (Ok (told_message t))).1.send in
    let one : message_compared s.task (told_message t) ≡ p.bytes ∷ [] =
    ap (λ (o : Option Task). message_compared o (told_message t)) task
    ∙ ap (answer_compared (record { file = file; stage = stage.Reading f }) t.xid (reply_body t.reply)) own
    ∙ ap (λ (b : Reply). took_compared (stage.Reading f) t.xid (reply_body b)) reply
    ∙ ap (λ (o : Option ReadCall). compared_at f.chunks o p.bytes) under
    ∙ ap (λ (o : Option Chunk). compared o p.bytes) chunk
    ∙ ap (λ (b : Bool). compared_if b p.bytes) (eq-eqb (length p.bytes) c.len len) in
    subst (λ (l : List (List ℕ)). Contains ((l ++ found) ++ named) p.bytes) (sym one) (Contains-append_left ((p.bytes ∷ []) ++ found) named p.bytes (Contains-append_left (p.bytes ∷ []) found p.bytes (Contains-push [] p.bytes)))

-- what an answer to a call of the operation under way makes
heard_step : (s : client.State) (t : Told) (file : ℕ) (st : Stage) → s.task ≡ Some (record { file = file; stage = st }) → has_call (client.pending_in st) t.xid ≡ true → hears_by s (Ok (told_message t)) ≡ took (idle s) (client.calls_of s) file st t.xid (reply_body t.reply)
heard_step s t file st task own = ap (λ (o : Option Task). took_if s o t.xid (reply_body t.reply) (has_call (client.pending o) t.xid)) task ∙ ap (took_if s (Some (record { file = file; stage = st })) t.xid (reply_body t.reply)) own

-- what is found by the index is hashed, and what is named
found_hashed : (s : client.State) (t : Told) (file : ℕ) (st : Stage) (u : Fetch) → s.task ≡ Some (record { file = file; stage = st }) → has_call (client.pending_in st) t.xid ≡ true → reading_by st t.xid (reply_body t.reply) ≡ Some u → Looked (all_hashed s t) s file u
found_hashed s t file st u task own is i d b at there =
    let seen : reading s.task (told_message t) ≡ Some (file, u) = ap (λ (o : Option Task). reading o (told_message t)) task ∙ ap (reading_if (record { file = file; stage = st }) t.xid (reply_body t.reply)) own ∙ ap (with_file file) is in
    let found = subst (λ (o : Option (ℕ × Fetch)). Contains (looked_by s o) b) (sym seen) (found_noted s.cache s.index (looked_up u (reads_at s file u)) i d b at there) in
    let named : List (List ℕ) = task_named s s.task (hears_by s (Ok (told_message t))).1.send in
    Contains-append_left (message_compared s.task (told_message t) ++ looked_by s (reading s.task (told_message t))) named b (Contains-append_right (message_compared s.task (told_message t)) (looked_by s (reading s.task (told_message t))) b found)

named_hashed : (s : client.State) (t : Told) (file : ℕ) (st : Stage) → s.task ≡ Some (record { file = file; stage = st }) → has_call (client.pending_in st) t.xid ≡ true → (b : List ℕ) → Contains (parts_named (client.local_bytes s.opened file) (took (idle s) (client.calls_of s) file st t.xid (reply_body t.reply)).1.send) b → Contains (all_hashed s t) b
named_hashed s t file st task own b h =
    let sent = subst (λ (r : client.State × ClientStep). Contains (parts_named (client.local_bytes s.opened file) r.1.send) b) (sym (heard_step s t file st task own)) h in
    let named = subst (λ (o : Option Task). Contains (task_named s o (hears_by s (Ok (told_message t))).1.send) b) (sym task) sent in
    Contains-append_right (message_compared s.task (told_message t) ++ looked_by s (reading s.task (told_message t))) (task_named s s.task (hears_by s (Ok (told_message t))).1.send) b named

notes : (book : Book) (seat : Seat) (t : Told) (file : ℕ) (f : Fetch) → IsHashed book seat t → seat.client.task ≡ Some (record { file = file; stage = stage.Reading f }) → has_call (client.pending_in (stage.Reading f)) t.xid ≡ true → Noted book t f
notes book seat t file f hashed task own p r c reply under chunk len = hashed p.bytes (bytes_hashed seat.client t file f p r c task own reply under chunk len)

-- ---- an answer that is waited for, and one that is not

abbrev heard_by : Core → (i : ℕ) → Seat → client.State × ClientStep → CoreStep
heard_by k i seat r = acted k i seat r.0 r.1

abbrev Heard : (book : Book) (k : Core) (qs : List Queue) (n : ℕ) (x : Session) (q : Queue) (ts : List Told) → Seat → client.State × ClientStep → Type 0
Heard book k qs n x q ts seat r = Leads book (rest_down qs n q ts) (heard_by k x.owner seat r)

abbrev Takes : (book : Book) (k : Core) (qs : List Queue) (n : ℕ) (x : Session) (q : Queue) (t : Told) (ts : List Told) (j : Job) → Here book k qs n x q t ts j → Stage → Type 0
Takes book k qs n x q t ts j g s = Heard book k qs n x q ts (session_at book k qs n x q t ts j g).seat (took (idle (session_at book k qs n x q t ts j g).seat.client) (client.calls_of (session_at book k qs n x q t ts j g).seat.client) j.file s t.xid (reply_body t.reply))

-- a note of a lease is set, where the answer grants one
noted_leads : (book : Book) (k : Core) (qs : List Queue) (i : ℕ) (seat : Seat) (r : client.State × ClientStep) (file version until : ℕ) → numbered k.seats i ≡ Some seat → Leads book qs (acted k i seat r.0 r.1) → Leads book qs (acted k i seat (record r.0 { cache = with_note r.0.cache file version until }) r.1)
noted_leads book k qs i seat r file version until here led = record {
  sends = record { replies = led.sends.replies; replies_fit = led.sends.replies_fit; asks = led.sends.asks; up_is = led.sends.up_is; strays = led.sends.strays; strays_cut = led.sends.strays_cut; recalls = led.sends.recalls; recalls_fit = led.sends.recalls_fit; tolds = led.sends.tolds; down_is = led.sends.down_is };
  more = led.more;
  moments = led.moments;
  opening = led.opening;
  kept = subst (λ (os : List Op). IsKept led.more (left (with_numbered k.seats i next) os) after) ops_are (subst (λ (seats : List Seat). IsKept led.more (left seats ops) after) (with_twice k.seats i next_was next) (kept_one led.more (acted k i seat r.0 r.1).core after i next_was parts there (cached_noted led.more r.0.cache file version until (led.kept.seats i next_was there).kept) led.kept));
}
  where
    after : List Queue
    after = Rattle.kept_promise.proofs.Leading.queues_after qs (acted k i seat r.0 r.1) led.sends

    next_was : Seat
    next_was = record seat { client = r.0; place = place_after seat.place r.1.ended }

    parts : Parts
    parts = record (parts_of next_was) { cache = with_note r.0.cache file version until }

    next : Seat
    next = record seat { client = record r.0 { cache = with_note r.0.cache file version until }; place = place_after seat.place r.1.ended }

    ops : List Op
    ops = ops_with k.ops seat.place r.0 (taken_of (session_of k.sessions seat.session)) (k.steps + 1) r.1

    there : numbered (with_numbered k.seats i next_was) i ≡ Some next_was
    there = (around_with k.seats i seat next_was here).there

    left : List Seat → List Op → Core
    left seats os = record k { steps = k.steps + 1; seats = seats; ops = os }

    ops_are : ops ≡ ops_with k.ops seat.place (record r.0 { cache = with_note r.0.cache file version until }) (taken_of (session_of k.sessions seat.session)) (k.steps + 1) r.1
    ops_are = ops_alike k.ops seat.place r.0 (record r.0 { cache = with_note r.0.cache file version until }) refl (taken_of (session_of k.sessions seat.session)) (k.steps + 1) r.1

waited : (book : Book) (k : Core) (qs : List Queue) (n : ℕ) (x : Session) (q : Queue) (t : Told) (ts : List Told) (j : Job) (g : Here book k qs n x q t ts j) → IsHashed book (session_at book k qs n x q t ts j g).seat t
    → ((hears_by (session_at book k qs n x q t ts j g).seat.client (Ok (told_message t))).1.send ≡ [] → ActsAt book k x.owner (session_at book k qs n x q t ts j g).seat [])
    → (session_at book k qs n x q t ts j g).seat.client.task ≡ Some (record { file = j.file; stage = j.stage }) → has_call (client.pending_in j.stage) t.xid ≡ true
    → Heard book k qs n x q ts (session_at book k qs n x q t ts j g).seat (took (idle (session_at book k qs n x q t ts j g).seat.client) (client.calls_of (session_at book k qs n x q t ts j g).seat.client) j.file j.stage t.xid (reply_body t.reply))
waited book k qs n x q t ts j g hashed acts task own = by j.stage refl
  where
    mine : (i : ℕ) × (slice_get (client.pending_in j.stage) i ≡ Some (told_pending t))
    mine = own_of book k qs n x q t ts j g own

    -- one of a file
    filed : IsOfFile j.stage → Takes book k qs n x q t ts j g j.stage
    filed of =
        let h = session_at book k qs n x q t ts j g in
        let all = (h.talk g.uncut).balanced.once t.xid in
        let split = times_map_append (λ (c : Pending). c.xid) t.xid (client.pending_in j.stage) h.seat.client.forgotten in
        let calls = ap (λ (l : List Pending). times t.xid (map (λ (c : Pending). c.xid) l)) (calls_are h.seat j g.job_is) in
        renoted (λ found r. Heard book k qs n x q ts h.seat r) (idle h.seat.client) j.file j.stage (reply_body t.reply) (λ found r u until lease is led. noted_leads book k (rest_down qs n q ts) x.owner h.seat r j.file u.version until h.owner led) [] (takes (idle h.seat.client) (client.calls_of h.seat.client) j.file j.stage t.xid (reply_body t.reply))
        (leads_comes book k qs n x q t ts j g (takes (idle h.seat.client) (client.calls_of h.seat.client) j.file j.stage t.xid (reply_body t.reply))
        (took_finds (idle h.seat.client) (client.calls_of h.seat.client) j.file j.stage t.xid (reply_body t.reply) of)
        (comes_taken book k qs n x q t ts j g j.stage of refl mine.0 mine.1 (omega (arith, all, split, calls))
        (λ f is. notes book h.seat t j.file f hashed (task ∙ ap (λ (s : Stage). Some (record { file = j.file; stage = s })) is) (subst (λ (s : Stage). has_call (client.pending_in s) t.xid ≡ true) is own))
        (λ u is i d b at there. hashed b (found_hashed h.seat.client t j.file j.stage u task own is i d b at there))
        (λ b at. hashed b (named_hashed h.seat.client t j.file j.stage task own b at))))

    -- one of a walk
    walked : (y : ℕ) (w : Walk) → j.stage ≡ stage.Walking y w → Takes book k qs n x q t ts j g (stage.Walking y w)
    walked y w at =
        let h = session_at book k qs n x q t ts j g in
        let asking = (subst (FetchOf book x.taken j) at ((h.talk g.uncut).fetch j g.job_is)).1.asking in
        let p : record { xid = y; program = program.Nfs (nfs_proc (next_call w)) } ≡ told_pending t = single (record { xid = y; program = program.Nfs (nfs_proc (next_call w)) }) mine.0 t (ap (λ (s : Stage). slice_get (client.pending_in s) mine.0) (sym at) ∙ mine.1) in
        let xid : y ≡ t.xid = ap (λ (z : Pending). z.xid) p in
        let same : program.Nfs (nfs_proc (next_call w)) ≡ reply_program t.reply = ap (λ (z : Pending). z.program) p in
        let r = walk_reply t.reply (subst (λ (z : Program). 8 ≤ code_of z) same (walk_code w.dir w.left w.goal asking)) in
        let only : client.pending_in (stage.Walking t.xid w) ≡ told_pending t ∷ [] = ap (λ (z : Program). record { xid = t.xid; program = z } ∷ []) same in
        let its = walk_its w r.0 (same ∙ ap reply_program r.1) in
        let stage_is : j.stage ≡ stage.Walking t.xid w = at ∙ ap (λ z. stage.Walking z w) xid in
        let led = leads_walked book k qs n x q t ts j g w r.0 stage_is r.1 only its (λ none. acts (
        ap (λ (z : client.State × ClientStep). z.1.send) (heard_step h.seat.client t j.file j.stage task own)
        ∙ ap (λ (s : Stage). (took (idle h.seat.client) (client.calls_of h.seat.client) j.file s t.xid (reply_body t.reply)).1.send) stage_is
        ∙ ap (λ (b : Reply). (took (idle h.seat.client) (client.calls_of h.seat.client) j.file (stage.Walking t.xid w) t.xid (reply_body b)).1.send) r.1
        ∙ none)) in
        subst (λ (z : ℕ). Takes book k qs n x q t ts j g (stage.Walking z w)) (sym xid) (subst (λ (b : Reply). Heard book k qs n x q ts h.seat (took (idle h.seat.client) (client.calls_of h.seat.client) j.file (stage.Walking t.xid w) t.xid (reply_body b))) (sym r.1) led)

    by : (s : Stage) → j.stage ≡ s → Takes book k qs n x q t ts j g s
    by (stage.Walking y w) at = walked y w at
    by s at = subst (Takes book k qs n x q t ts j g) at (filed (subst IsOfFile (sym at) tt))

hears_it : (book : Book) (k : Core) (qs : List Queue) (n : ℕ) (x : Session) (q : Queue) (t : Told) (ts : List Told) → (kept : IsKept book k qs) → (at : numbered k.sessions n ≡ Some x) → (is : numbered qs n ≡ Some q) → (owned : is_raw x ≡ false) → q.downs ≡ t ∷ ts → x.cut ≡ false → IsHashed book (kept.sessions n x q at is owned).seat t
    → ((hears_by (kept.sessions n x q at is owned).seat.client (Ok (told_message t))).1.send ≡ [] → ActsAt book k x.owner (kept.sessions n x q at is owned).seat [])
    → Heard book k qs n x q ts (kept.sessions n x q at is owned).seat (hears_by (kept.sessions n x q at is owned).seat.client (Ok (told_message t)))
hears_it book k qs n x q t ts kept at is owned first uncut hashed acts = by h.seat.client.task refl (has_call (client.pending h.seat.client.task) t.xid) refl
  where
    h : IsSession book k.seats k.server n x q
    h = kept.sessions n x q at is owned

    forgotten : has_call (client.pending h.seat.client.task) t.xid ≡ false → (o : Option Task) → Heard book k qs n x q ts h.seat (drops h.seat.client o t.xid (has_call h.seat.client.forgotten t.xid))
    forgotten none o =
        let there = forgotten_there book k qs n x q t ts h first uncut none in
        subst (λ (b : Bool). Heard book k qs n x q ts h.seat (drops h.seat.client o t.xid b)) (sym (has_there h.seat.client.forgotten there.0 (told_pending t) there.1)) (leads_drops book k qs n x q t ts kept at is owned first uncut none)

    mine : (u : Task) → h.seat.client.task ≡ Some u → has_call (client.pending (Some u)) t.xid ≡ true → IsMatched h.seat → Heard book k qs n x q ts h.seat (took (idle h.seat.client) (client.calls_of h.seat.client) u.file u.stage t.xid (reply_body t.reply))
    mine u task has (inl free) = nothing_there u (sym free.1 ∙ task)
    mine u task has (inr busy) =
        let j = busy.0 in
        let task_now = task_is h.seat j busy.1 in
        let same : record { file = j.file; stage = j.stage } ≡ u = some_is _ u (sym task_now ∙ task) in
        let g : Here book k qs n x q t ts j = record { kept = kept; at = at; is = is; owned = owned; first = first; uncut = uncut; job_is = busy.1 } in
        subst (λ (z : Task). Heard book k qs n x q ts h.seat (took (idle h.seat.client) (client.calls_of h.seat.client) z.file z.stage t.xid (reply_body t.reply))) same
        (waited book k qs n x q t ts j g hashed acts task_now (subst (λ (z : Task). has_call (client.pending (Some z)) t.xid ≡ true) (sym same) has))

    by : (o : Option Task) → h.seat.client.task ≡ o → (is_own : Bool) → has_call (client.pending h.seat.client.task) t.xid ≡ is_own → Heard book k qs n x q ts h.seat (took_if h.seat.client o t.xid (reply_body t.reply) is_own)
    by None task false has = forgotten has None
    by None task true has = absurd (false_and_true (has_call (client.pending None) t.xid) refl (ap (λ (o : Option Task). has_call (client.pending o) t.xid) (sym task) ∙ has))
    by (Some u) task false has = forgotten has (Some u)
    by (Some u) task true has = mine u task (ap (λ (o : Option Task). has_call (client.pending o) t.xid) (sym task) ∙ has) (kept.seats x.owner h.seat h.owner).matched

-- ---- the event

-- nothing comes down a session that its client has left
uncut_by : (cut : Bool) (downs : List Told) (t : Told) (ts : List Told) → downs ≡ t ∷ ts → (cut ≡ true → downs ≡ []) → cut ≡ false
uncut_by false downs t ts first shut = refl
uncut_by true downs t ts first shut = absurd (none (sym first ∙ shut refl))
  where
    none : t ∷ ts ≡ [] → ⊥
    none e = absurd cc

-- the reading of the client's clock comes first
module _ (laws : FitLaws) (book : Book) (k : Core) (qs : List Queue) (n now : ℕ) (q : Queue) (t : Told) (ts : List Told) (kept : IsKept book k qs) (is : numbered qs n ≡ Some q) (first : q.downs ≡ t ∷ ts) (noted : IsNoted book k (Hears n now (bytes_of t))) (x : Session) (at : numbered k.sessions n ≡ Some x) (owned : is_raw x ≡ false) where
  abbrev h : IsSession book k.seats k.server n x q
  h = kept.sessions n x q at is owned

  uncut : x.cut ≡ false
  uncut = uncut_by x.cut q.downs t ts first h.shut

  read : parse_of (client.waiting_of h.seat.client) (bytes_of t) ≡ Ok (told_message t)
  read = heard laws book k qs n x q t ts h first uncut (kept.seats x.owner h.seat h.owner).speaks

  abbrev parts : Parts
  parts = record (parts_of h.seat) { clock = now }

  abbrev tick : Seat
  tick = with_parts h.seat parts

  abbrev ticked : Core
  ticked = record k { seats = with_numbered k.seats x.owner tick }

  here : numbered (with_numbered k.seats x.owner tick) x.owner ≡ Some tick
  here = (around_with k.seats x.owner h.seat tick h.owner).there

  still : IsKept book ticked qs
  still = kept_one book k qs x.owner h.seat parts h.owner (kept.seats x.owner h.seat h.owner).kept kept

  seat_is : (still.sessions n x q at is owned).seat ≡ tick
  seat_is = some_is (still.sessions n x q at is owned).seat tick (sym (still.sessions n x q at is owned).owner ∙ here)

  abbrev r : client.State × ClientStep
  r = hears_by tick.client (Ok (told_message t))

  heard_is : happens k (Hears n now (bytes_of t)) ≡ heard_by k x.owner h.seat r
  heard_is =
      ap (hears k n now (bytes_of t)) at
      ∙ ap (hears_at k n x.owner now (bytes_of t)) h.owner
      ∙ ap (hears_if k x.owner now h.seat (bytes_of t)) (is_here n h.seat.session (h.here uncut).0)
      ∙ ap (λ (m : Result Message WireFault). heard_by k x.owner h.seat (got_step h.seat.client m now)) read

  hashed : IsHashed book tick t
  hashed b there = noted.hashed b (subst (λ (l : List (List ℕ)). Contains l b) (sym (hashed_is k n now x h.seat t at h.owner (h.here uncut).0 read)) there)

  acts : (hears_by tick.client (Ok (told_message t))).1.send ≡ [] → ActsAt book ticked x.owner tick []
  acts none = record {
    at = record { before = k; event = Hears n now (bytes_of t) };
    there = noted.there;
    steps_is = refl;
    tree_is = refl;
    acts = ap (acts_for (Hears n now (bytes_of t))) at;
    was = h.seat;
    was_is = h.owner;
    cache_is = refl;
    quiet = λ e. ap (λ (s : CoreStep). s.up) heard_is ∙ none;
  }

  abbrev next : Seat
  next = record h.seat { client = r.0; place = place_after h.seat.place r.1.ended }

  -- the step, with these seats
  abbrev done : List Seat → CoreStep
  done seats = (let s = acted k x.owner h.seat r.0 r.1 in record s { core = record s.core { seats = seats } })

  led : Leads book (rest_down qs n q ts) (done (with_numbered (with_numbered k.seats x.owner tick) x.owner next))
  led = subst (λ (s : Seat). IsHashed book s t → ((hears_by s.client (Ok (told_message t))).1.send ≡ [] → ActsAt book ticked x.owner s []) → Leads book (rest_down qs n q ts) (heard_by ticked x.owner s (hears_by s.client (Ok (told_message t))))) seat_is
      (hears_it book ticked qs n x q t ts still at is owned first uncut) hashed acts

  hears_now : Leads book (rest_down qs n q ts) (happens k (Hears n now (bytes_of t)))
  hears_now = subst (Leads book (rest_down qs n q ts)) (sym heard_is) (subst (λ (seats : List Seat). Leads book (rest_down qs n q ts) (done seats)) (with_twice k.seats x.owner tick next) led)

pub kept_hears : FitLaws → KeptHears
kept_hears laws book k qs n now q t ts kept is first noted = by (also_numbered qs k.sessions n q (sym kept.made.1) is)
  where
    by : (x : Session) × (numbered k.sessions n ≡ Some x) → Leads book (rest_down qs n q ts) (happens k (Hears n now (bytes_of t)))
    by (x, at) = hears_now laws book k qs n now q t ts kept is first noted x at (owned_down kept n x q at is t ts first)
