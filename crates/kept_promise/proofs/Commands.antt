-- Each command, and what its client makes of it.
use Rattle.std.proofs.Common.{IsSome, inl, inr, ◌≡◌, ℕ, zero, suc, ◌+◌, ◌<◌, ◌≤◌, List, [], ◌∷◌, ◌++◌, length, Option, Some, None, Bool, true, false, refl, sym, ap, ◌∙◌, subst, arith, eq-eqb, ne_eqb, ◌⊎◌}
use Rattle.command_text.specs.declared.command.Command.TheVariants as command
use Rattle.client_cache.specs.Cache.{reserved, content_of as kept_of}
use Rattle.client_state.specs.State as client
use Rattle.command_text.specs.declared.path.PathCommand.{PathCommand}
use Rattle.command_text.specs.declared.path.PathCommand.TheVariants as path
use Rattle.path_calls.specs.Walk.{begun as walk_begun, arrives}
use Rattle.command_text.specs.declared.path.Spot.{Spot}
use Rattle.path_calls.specs.declared.walk.Goal.TheVariants as goal
use Rattle.path_calls.specs.declared.walk.Walk.{Walk}
use Rattle.client_state.specs.Ending.{may_walk}
use Rattle.file_open.specs.Caching.{fresh_content}
use Rattle.file_open.specs.Fetching.{opens_fresh, opens_kept}
use Rattle.file_open.specs.Rewriting.{asks_version, asks_anew, rewrites_if, rewrites, renews_kept, empties_fresh}
use Rattle.open_close.specs.Step.{does}
use Rattle.trace_ends.specs.Core.{does as core_does, Event.Does}
use Rattle.open_close.specs.Walking.{asks_next, walks, walks_if}
use Rattle.trace_ends.specs.Commands.{path_word}
use Rattle.client_state.specs.declared.step.Outcome.TheVariants as outcome
use Rattle.client_state.specs.declared.task.Stage.TheVariants as stage
use Rattle.client_state.proofs.lemmas.Edits.{written_length, truncated_length}
use Rattle.register_model.specs.declared.op.Word.TheVariants as words
use Rattle.kept_promise.proofs.Common.{Ended, Message, step_of, value_at, nat_tests, cond, ◌==◌, nat_lt, if◌then◌else◌, sha1, content_length, content_bytes, Part, Command, content_size, ends, local_most, written_size, written, truncated, part_of, is_open, has_xids, may_ask, tries_anew, asks_file, asks_kept, opens_if, opens, on_local, done_with, edits, writes, truncates, reads, abandons, asks_temp, closes, ClientStep, Outcome, Local, Stage, Task, local_at_itself, local_at_another, without_at_itself, without_at_another, Op, Word, Core, Seat, Session, Loss.Nothing, CoreStep, numbered, with_numbered, session_of, commanded_sessions, word_of, file_of, value_at_begin, begun, op_after, place_with, unless, Book, Entries, Content, Call.Lease, Call.Hash, Call.Make, Ask, Queue, ask_message, Call.Walks, ◌&&◌, changes, closing_with}
use Rattle.kept_promise.proofs.Lists.{some_is, nothing_there, same_or_not, at_end}
use Rattle.kept_promise.proofs.Messages.{Job, job, job_of, goal_word}
use Rattle.kept_promise.proofs.Rights.{IsRight, WasThere}
use Rattle.kept_promise.proofs.History.{onward, MakesNone, makes_none, grows_added}
use Rattle.kept_promise.proofs.Turns.{around_with, also_numbered}
use Rattle.kept_promise.proofs.PathNames.{HasNames, IsSmall, begun_named, begun_small, walk_calls_short}
use Rattle.kept_promise.proofs.Facts.{spoken_by, IsMatched, IsKept}
use Rattle.kept_promise.proofs.Leading.{Leads, IsNoted, KeptDoes, ups_put_in, ups_put}
use Rattle.kept_promise.proofs.Hangs.{leads_quiet}
use Rattle.kept_promise.proofs.Cuts.{cut_core}
use Rattle.kept_promise.proofs.Caches.{cached_reserved}
use Rattle.kept_promise.proofs.Kin.{Parts, parts_of, with_parts, with_twice, kept_one}
use Rattle.kept_promise.proofs.Fresh.{ActsAt, fresh_short, fresh_there, fresh_value, fresh_some, fresh_ends}
use Rattle.kept_promise.proofs.Growth.{Grows, value_later, or_later, there_later}
use Rattle.kept_promise.proofs.Begins.{First, Free, Starts, begun_client, kept_begins}
use Rattle.kept_promise.proofs.Does.{cleared, kept_cleared, leads_first, leads_free, leads_busy, IsOwn, own_op}
use Rattle.kept_promise.proofs.Hashings.{file_small}
use Rattle.register_model.specs.Register.{changes}
use Rattle.kept_promise.proofs.Steps.{goal_not_close}
use Rattle.kept_promise.proofs.MakingGoals.{creates_changes, later_changes}

abbrev commanded_as : Core → (c : ℕ) → Seat → (place session : Option ℕ) → Option Session → Word → (file : ℕ) → (value : List ℕ) → client.State → ClientStep → CoreStep
commanded_as k c seat place session found w file value s acts = record {
  core = record k {
    server = k.server;
    seats = with_numbered k.seats c (record { client = s; session = seat.session; place = place_with place (length k.ops) acts.ended });
    sessions = commanded_sessions k.sessions session found place (length k.ops) w acts;
    steps = k.steps + 1;
    ops = k.ops ++ op_after (begun c w file value (k.steps + 1)) s [] (k.steps + 1) acts ∷ [];
    entries = k.entries;
  };
  loss = Nothing;
  session = session;
  up = acts.send;
  down = [];
}

-- a client that has nothing under way, with its command
pub record Idle (book : Book) (k : Core) (qs : List Queue) (c : ℕ) (seat : Seat) : Type 0 where
  pub kept : IsKept book k qs
  pub here : numbered k.seats c ≡ Some seat
  pub place : seat.place ≡ None
  pub task : seat.client.task ≡ None
  pub free : job seat ≡ None

abbrev Answers : (book : Book) (k : Core) (qs : List Queue) (c : ℕ) (seat : Seat) (w : Word) (file : ℕ) (value : List ℕ) → client.State × ClientStep → Type 0
Answers book k qs c seat w file value r = Leads book qs (commanded_as k c seat None seat.session (session_of k.sessions seat.session) w file value r.0 r.1)

owner_is : (book : Book) (k : Core) (qs : List Queue) (c : ℕ) (seat : Seat) → IsKept book k qs → numbered k.seats c ≡ Some seat → (n : ℕ) (x : Session) → seat.session ≡ Some n → session_of k.sessions seat.session ≡ Some x → x.owner ≡ c
owner_is book k qs c seat kept here n x at is =
    let s = (kept.seats c seat here).session n at in
    let same : s.0 ≡ x = some_is s.0 x (sym s.1 ∙ ap (session_of k.sessions) (sym at) ∙ is) in
    ap (λ (z : Session). z.owner) (sym same) ∙ s.2

-- it answers by itself, and its files are these
own_with : (book : Book) (k : Core) (qs : List Queue) (c : ℕ) (seat : Seat) (w : Word) (file : ℕ) (value : List ℕ) (opened : List (ℕ × Local)) (o : Outcome) → IsOwn w o → Idle book k qs c seat → ((f : ℕ) (l : Local) → client.local_at opened f ≡ Some l → WasThere book f × (length l.bytes ≤ 67108864)) → Answers book k qs c seat w file value (record seat.client { opened = opened }, ends o 0 0)
own_with book k qs c seat w file value opened o own g fits = leads_free book k qs c seat seat.session (session_of k.sessions seat.session) w file value opened o own g.kept g.here g.place g.free fits refl (owner_is book k qs c seat g.kept g.here)

own_same : (book : Book) (k : Core) (qs : List Queue) (c : ℕ) (seat : Seat) (w : Word) (file : ℕ) (value : List ℕ) (o : Outcome) → IsOwn w o → Idle book k qs c seat → Answers book k qs c seat w file value (seat.client, ends o 0 0)
own_same book k qs c seat w file value o own g = own_with book k qs c seat w file value seat.client.opened o own g (g.kept.seats c seat g.here).opened

-- ---- on an open file

has_local : (book : Book) (k : Core) (qs : List Queue) (c : ℕ) (seat : Seat) (file : ℕ) (l : Local) (bytes : List ℕ) → Idle book k qs c seat → client.local_at seat.client.opened file ≡ Some l → length bytes ≤ local_most → (f : ℕ) (v : Local) → client.local_at (client.with_local seat.client.opened file (record l { bytes = bytes })) f ≡ Some v → WasThere book f × (length v.bytes ≤ 67108864)
has_local book k qs c seat file l bytes g at short f v is =
    let seat_is = g.kept.seats c seat g.here in
    elim (same_or_not f file) [
      | inr apart ↦ seat_is.opened f v (sym (local_at_another seat.client.opened file (record l { bytes = bytes }) f apart) ∙ is)
      | inl same ↦
          let v_is : record l { bytes = bytes } ≡ v = some_is (record l { bytes = bytes }) v (sym (local_at_itself seat.client.opened file (record l { bytes = bytes })) ∙ ap (client.local_at (client.with_local seat.client.opened file (record l { bytes = bytes }))) (sym same) ∙ is) in
          let len = ap (λ (z : Local). length z.bytes) v_is in
          (subst (λ (z : ℕ). WasThere book z) (sym same) (seat_is.opened file l at).0, omega (arith, len, short))
    ]

edited : (book : Book) (k : Core) (qs : List Queue) (c : ℕ) (seat : Seat) (w : Word) (file : ℕ) (value : List ℕ) (l : Local) (size : ℕ) (bytes : List ℕ) → Rattle.kept_promise.proofs.Rights.is_remote w ≡ false → Idle book k qs c seat → client.local_at seat.client.opened file ≡ Some l → length bytes ≡ size → Answers book k qs c seat w file value (edits seat.client file l size bytes)
edited book k qs c seat w file value l size bytes plain g at is = by (nat_lt local_most size) refl
  where
    by : (b : Bool) → nat_lt local_most size ≡ b → Answers book k qs c seat w file value (if b then Rattle.open_close.specs.Step.too_big seat.client size else done_with seat.client file l bytes)
    by true e = own_same book k qs c seat w file value (outcome.TooBig size) tt g
    by false e = own_with book k qs c seat w file value (client.with_local seat.client.opened file (record l { bytes = bytes })) outcome.Done plain g (has_local book k qs c seat file l bytes g at (let le : size ≤ local_most = grind (arith, nat_tests, e) in omega (arith, le, is)))

wrote : (book : Book) (k : Core) (qs : List Queue) (c : ℕ) (seat : Seat) (file offset : ℕ) (content : List Part) (value : List ℕ) (l : Local) → Idle book k qs c seat → client.local_at seat.client.opened file ≡ Some l → Answers book k qs c seat words.Write file value (writes seat.client file offset content l)
wrote book k qs c seat file offset content value l g at = by (content_length content == 0) refl
  where
    some : (content_length content == 0) ≡ false → 0 < length (content_bytes content)
    some e = let s = content_size content in let ne : 0 < content_length content = positive (content_length content) e in omega (arith, s, ne)
      where
        positive : (n : ℕ) → (n == 0) ≡ false → 0 < n
        positive zero e = absurd cc
        positive (suc n) e = omega arith

    by : (b : Bool) → (content_length content == 0) ≡ b → Answers book k qs c seat words.Write file value (if b then (seat.client, ends outcome.Done 0 0) else edits seat.client file l (written_size (length l.bytes) offset (content_length content)) (written l.bytes offset (content_bytes content)))
    by true e = own_same book k qs c seat words.Write file value outcome.Done refl g
    by false e = edited book k qs c seat words.Write file value l (written_size (length l.bytes) offset (content_length content)) (written l.bytes offset (content_bytes content)) refl g at (written_length l.bytes offset (content_bytes content) (some e) ∙ ap (written_size (length l.bytes) offset) (content_size content))

gone : (book : Book) (k : Core) (qs : List Queue) (c : ℕ) (seat : Seat) (file : ℕ) → Idle book k qs c seat → (f : ℕ) (v : Local) → client.local_at (client.without_local seat.client.opened file) f ≡ Some v → WasThere book f × (length v.bytes ≤ 67108864)
gone book k qs c seat file g f v is = elim (same_or_not f file) [
  | inl same ↦ nothing_there v (sym (without_at_itself seat.client.opened file) ∙ ap (client.local_at (client.without_local seat.client.opened file)) (sym same) ∙ is)
  | inr apart ↦ (g.kept.seats c seat g.here).opened f v (sym (without_at_another seat.client.opened file f apart) ∙ is)
]

local_one : (book : Book) (k : Core) (qs : List Queue) (c : ℕ) (seat : Seat) (w : Word) (file : ℕ) (value : List ℕ) (does_it : Local → client.State × ClientStep) → Idle book k qs c seat → ((l : Local) → client.local_at seat.client.opened file ≡ Some l → Answers book k qs c seat w file value (does_it l)) → Answers book k qs c seat w file value (on_local seat.client seat.client.task (client.local_at seat.client.opened file) does_it)
local_one book k qs c seat w file value does_it g goes = subst (λ (t : Option Task). Answers book k qs c seat w file value (on_local seat.client t (client.local_at seat.client.opened file) does_it)) (sym g.task) (by (client.local_at seat.client.opened file) refl)
  where
    by : (o : Option Local) → client.local_at seat.client.opened file ≡ o → Answers book k qs c seat w file value (on_local seat.client None o does_it)
    by None e = own_same book k qs c seat w file value outcome.NotOpen tt g
    by (Some l) e = goes l e

-- ---- an open, or a close, begins

-- the client's session is there, and it is not cut
pub record Linked (book : Book) (k : Core) (qs : List Queue) (c : ℕ) (seat : Seat) : Type 0 where
  pub number : ℕ
  pub session : Session
  pub queue : Queue
  pub free : Free book k qs c number session queue seat

linked : (book : Book) (k : Core) (qs : List Queue) (c : ℕ) (seat : Seat) → Idle book k qs c seat → seat.client.linked ≡ true → Linked book k qs c seat
linked book k qs c seat g is =
    let s = g.kept.seats c seat g.here in
    let l = s.linked is in
    let own = s.session l.0 l.2 in
    let q = also_numbered k.sessions qs l.0 l.1 g.kept.made.1 l.3 in
    record {
      number = l.0;
      session = l.1;
      queue = q.0;
      free = record { kept = g.kept; here = g.here; at = l.3; is = q.1; owner = ap (λ (z : Session). z.owner) (sym (some_is own.0 l.1 (sym own.1 ∙ l.3))) ∙ own.2; newest = l.2; uncut = l.4; linked = is; task = g.task; free = g.free };
    }

-- what it asks is a first call
pub hash_first : (lbfs next file : ℕ) → First next (stage.Hashing 1 next) (record { lbfs = lbfs; xid = next; call = Hash file 0 })
hash_first lbfs next file = record {
  xid = refl;
  pending = refl;
  hash = λ y o lt e. nothing_there o (sym (ap (λ b. cond b (Some 0) None) (ne_eqb next y (λ s. omega (arith, lt, s)))) ∙ e);
  read = λ y. refl;
  commit = λ y e. absurd cc;
  walk = λ y w lt e. absurd cc;
  lease = λ y lt e. nothing_there y e;
}

pub lease_first : (lbfs next file : ℕ) → First next (stage.Asking next) (record { lbfs = lbfs; xid = next; call = Lease file })
lease_first lbfs next file = record { xid = refl; pending = refl; hash = λ y o lt e. nothing_there o e; read = λ y. refl; commit = λ y e. absurd cc; walk = λ y w lt e. absurd cc; lease = λ y lt e. (let same = some_is next y e in omega (arith, lt, same)) }

pub renew_first : (lbfs next file : ℕ) → First next (stage.Rewriting next) (record { lbfs = lbfs; xid = next; call = Lease file })
renew_first lbfs next file = record { xid = refl; pending = refl; hash = λ y o lt e. nothing_there o e; read = λ y. refl; commit = λ y e. absurd cc; walk = λ y w lt e. absurd cc; lease = λ y lt e. (let same = some_is next y e in omega (arith, lt, same)) }

make_first : (lbfs next temp file : ℕ) → First next (stage.Making next temp) (record { lbfs = lbfs; xid = next; call = Make temp file })
make_first lbfs next temp file = record { xid = refl; pending = refl; hash = λ y o lt e. nothing_there o e; read = λ y. refl; commit = λ y e. absurd cc; walk = λ y w lt e. absurd cc; lease = λ y lt e. nothing_there y e }

begun_right : (more : Book) (c : ℕ) (w : Word) (file : ℕ) (value : List ℕ) (step : ℕ) → Rattle.kept_promise.proofs.Rights.is_remote w ≡ true → more.steps ≡ step → IsRight more (begun c w file value step)
begun_right more c w file value step remote now = record {
  cause = (remote, refl);
  begun = omega (arith, now);
  pointed = λ p e. nothing_there p e;
  past = λ e q. nothing_there e q;
  ends = refl;
  within = λ l p e f. nothing_there p f;
  failed = λ a b d. refl;
}

-- it begins: the queue, the session and the seat are as its step leaves them
leads_begins : (book : Book) (k : Core) (qs : List Queue) (c : ℕ) (seat : Seat) (w : Word) (file : ℕ) (value : List ℕ) (cache : Entries) (sent temp : ℕ) (s : Stage) (a : Ask) (acts : ClientStep) → (g : Idle book k qs c seat) → (l : Linked book k qs c seat)
    → acts.send ≡ ask_message a ∷ [] → acts.ended ≡ None → acts.found ≡ None → Rattle.trace_ends.specs.Ops.counted (record { cond = 0; tmp = 0; read = 0; «data» = 0 }) acts.counts ≡ record { cond = 0; tmp = 0; read = 0; «data» = 0 }
    → ((closing : Option ℕ) → closing ≡ closing_with l.session.closing (length book.ops) w None → Starts book (record k { sessions = with_numbered k.sessions l.number (cleared l.session) }) qs c l.number (cleared l.session) l.queue seat (begun c w file value (k.steps + 1)) cache temp file s a closing value)
    → Answers book k qs c seat w file value (begun_client seat.client cache sent temp file s, acts)
leads_begins book k qs c seat w file value cache sent temp s a acts g l send ended none counts starts =
    let n = l.number in
    let x = l.session in
    let q = l.queue in
    let f = l.free in
    let new = begun c w file value (k.steps + 1) in
    let more = onward book 1 (book.ops ++ new ∷ []) in
    let free_k : Core = record k { sessions = with_numbered k.sessions n (cleared x) } in
    let kept = kept_cleared book k qs n x seat g.kept f.at (ap (numbered k.seats) f.owner ∙ g.here) g.free in
    let ready : Free book free_k qs c n (cleared x) q seat = record { kept = kept; here = g.here; at = (around_with k.sessions n x (cleared x) f.at).there; is = f.is; owner = f.owner; newest = f.newest; uncut = f.uncut; linked = f.linked; task = f.task; free = f.free } in
    let closing = closing_with x.closing (length book.ops) w None in
    let d : Seat = record { client = begun_client seat.client cache sent temp file s; session = seat.session; place = Some (length book.ops) } in
    let y : Session = record x { taken = []; closing = closing } in
    let seats = with_numbered k.seats c d in
    let sessions = with_numbered k.sessions n y in
    let ups = unless x.hung q.ups (a ∷ []) in
    let after = with_numbered qs n (record { ups = ups; downs = q.downs }) in
    let first = around_with k.sessions n x (cleared x) f.at in
    let last = around_with k.sessions n x y f.at in
    let now = kept_begins book free_k qs c n (cleared x) q seat new cache sent temp file s a closing value seats sessions after ready (starts closing refl) (around_with k.seats c seat d g.here) (record { there = last.there; others = λ m apart. last.others m apart ∙ sym (first.others m apart); count = last.count ∙ sym first.count }) (around_with qs n q (record { ups = ups; downs = q.downs }) f.is) in
    let place : length book.ops ≡ length k.ops = ap (λ (z : List Op). length z) g.kept.ops in
    let op_is : op_after new (begun_client seat.client cache sent temp file s) [] (k.steps + 1) acts ≡ new = op_same acts.found acts.ended none ended in
    let core = cut_core book more k k.server seats sessions (k.ops ++ new ∷ []) (ap (λ z. z + 1) g.kept.steps) (ap (λ (z : List Op). z ++ new ∷ []) g.kept.ops) g.kept.entries in
    let one = subst (λ (z : Core). IsKept more z after) core now in
    record {
      sends = record { replies = []; replies_fit = tt; asks = a ∷ []; up_is = send; strays = []; strays_cut = tt; recalls = []; recalls_fit = tt; tolds = []; down_is = refl };
      more = more;
      moments = refl;
      opening = refl;
      kept = shape more acts.ended ended op_is place one;
    }
  where
    op_same : (u : Option ℕ) (e : Option Rattle.client_state.specs.declared.step.Ended.Ended) → u ≡ None → e ≡ None → Rattle.trace_ends.specs.Ops.op_ended (record (begun c w file value (k.steps + 1)) { file = Rattle.trace_ends.specs.Ops.file_with file u; traffic = Rattle.trace_ends.specs.Ops.counted (record { cond = 0; tmp = 0; read = 0; «data» = 0 }) acts.counts }) (begun_client seat.client cache sent temp file s) [] (k.steps + 1) e ≡ begun c w file value (k.steps + 1)
    op_same None None q e = ap (λ t. record (begun c w file value (k.steps + 1)) { traffic = t }) counts
    op_same None (Some e) q is = absurd cc
    op_same (Some i) e q is = absurd cc

    -- the sessions, the seats, the operations and the queues, as the step says them
    shape : (more : Book) (e : Option Rattle.client_state.specs.declared.step.Ended.Ended) → acts.ended ≡ None → op_after (begun c w file value (k.steps + 1)) (begun_client seat.client cache sent temp file s) [] (k.steps + 1) acts ≡ begun c w file value (k.steps + 1) → length book.ops ≡ length k.ops
        → IsKept more (record k { server = k.server; seats = with_numbered k.seats c (record { client = begun_client seat.client cache sent temp file s; session = seat.session; place = Some (length book.ops) }); sessions = with_numbered k.sessions l.number (record l.session { taken = []; closing = closing_with l.session.closing (length book.ops) w None }); steps = k.steps + 1; ops = k.ops ++ begun c w file value (k.steps + 1) ∷ []; entries = k.entries }) (with_numbered qs l.number (record { ups = unless l.session.hung l.queue.ups (a ∷ []); downs = l.queue.downs }))
        → IsKept more (commanded_as k c seat None seat.session (session_of k.sessions seat.session) w file value (begun_client seat.client cache sent temp file s) acts).core (ups_put (commanded_sessions k.sessions seat.session (session_of k.sessions seat.session) None (length k.ops) w acts) qs seat.session (a ∷ []))
    shape more e ended op_is place h =
        let f = l.free in
        let found : session_of k.sessions seat.session ≡ Some l.session = ap (session_of k.sessions) f.newest ∙ f.at in
        let sessions_is : commanded_sessions k.sessions seat.session (session_of k.sessions seat.session) None (length k.ops) w acts ≡ with_numbered k.sessions l.number (record l.session { taken = []; closing = closing_with l.session.closing (length k.ops) w None }) =
        ap (λ (z : Option Session). commanded_sessions k.sessions seat.session z None (length k.ops) w acts) found ∙ ap (λ (z : Option ℕ). commanded_sessions k.sessions z (Some l.session) None (length k.ops) w acts) f.newest ∙ ap (λ z. with_numbered k.sessions l.number (record l.session { taken = []; closing = closing_with l.session.closing (length k.ops) w z })) ended in
        let y : Session = record l.session { taken = []; closing = closing_with l.session.closing (length k.ops) w None } in
        let sessions = with_numbered k.sessions l.number y in
        let at = (around_with k.sessions l.number l.session y f.at).there in
        let queues_is : ups_put sessions qs seat.session (a ∷ []) ≡ with_numbered qs l.number (record { ups = unless l.session.hung l.queue.ups (a ∷ []); downs = l.queue.downs }) =
        ap (λ (z : Option ℕ). ups_put sessions qs z (a ∷ [])) f.newest ∙ ap (λ (z : Option Session). ups_put_in qs l.number (a ∷ []) z (numbered qs l.number)) at ∙ ap (λ (z : Option Queue). ups_put_in qs l.number (a ∷ []) (Some y) z) f.is in
        let one = subst (λ (p : ℕ). IsKept more (record k { server = k.server; seats = with_numbered k.seats c (record { client = begun_client seat.client cache sent temp file s; session = seat.session; place = Some p }); sessions = with_numbered k.sessions l.number (record l.session { taken = []; closing = closing_with l.session.closing p w None }); steps = k.steps + 1; ops = k.ops ++ begun c w file value (k.steps + 1) ∷ []; entries = k.entries }) (with_numbered qs l.number (record { ups = unless l.session.hung l.queue.ups (a ∷ []); downs = l.queue.downs }))) place h in
        let two = subst (λ (z : List Queue). IsKept more (record k { server = k.server; seats = with_numbered k.seats c (record { client = begun_client seat.client cache sent temp file s; session = seat.session; place = Some (length k.ops) }); sessions = sessions; steps = k.steps + 1; ops = k.ops ++ begun c w file value (k.steps + 1) ∷ []; entries = k.entries }) z) (sym queues_is) one in
        let three = subst (λ (z : Op). IsKept more (record k { server = k.server; seats = with_numbered k.seats c (record { client = begun_client seat.client cache sent temp file s; session = seat.session; place = Some (length k.ops) }); sessions = sessions; steps = k.steps + 1; ops = k.ops ++ z ∷ []; entries = k.entries }) (ups_put sessions qs seat.session (a ∷ []))) (sym op_is) two in
        let four = subst (λ (z : Option Rattle.client_state.specs.declared.step.Ended.Ended). IsKept more (record k { server = k.server; seats = with_numbered k.seats c (record { client = begun_client seat.client cache sent temp file s; session = seat.session; place = place_with None (length k.ops) z }); sessions = sessions; steps = k.steps + 1; ops = k.ops ++ op_after (begun c w file value (k.steps + 1)) (begun_client seat.client cache sent temp file s) [] (k.steps + 1) acts ∷ []; entries = k.entries }) (ups_put sessions qs seat.session (a ∷ []))) (sym ended) three in
        subst (λ (z : List Session). IsKept more (record k { server = k.server; seats = with_numbered k.seats c (record { client = begun_client seat.client cache sent temp file s; session = seat.session; place = place_with None (length k.ops) acts.ended }); sessions = z; steps = k.steps + 1; ops = k.ops ++ op_after (begun c w file value (k.steps + 1)) (begun_client seat.client cache sent temp file s) [] (k.steps + 1) acts ∷ []; entries = k.entries }) (ups_put z qs seat.session (a ∷ []))) (sym sessions_is) four

-- ---- an open

open_begins : (book : Book) (k : Core) (qs : List Queue) (c : ℕ) (seat : Seat) (file : ℕ) → file < 18446744073709551616 → (g : Idle book k qs c seat) → Linked book k qs c seat → seat.client.next_xid < 4293967297 → Answers book k qs c seat words.Open file [] (tries_anew (record seat.client { cache = reserved seat.client.cache file }) file 1 0)
open_begins book k qs c seat file fits g l room =
    let s = seat.client in
    let a : Ask = record { lbfs = s.lbfs; xid = s.next_xid; call = Hash file 0 } in
    let was = (g.kept.seats c seat g.here).next in
    let steps = g.kept.steps in
    leads_begins book k qs c seat words.Open file [] (reserved s.cache file) s.clock s.next_temp (stage.Hashing 1 s.next_xid) a (tries_anew (record s { cache = reserved s.cache file }) file 1 0).1 g l refl refl refl refl (λ closing is. record {
      first = hash_first s.lbfs s.next_xid file;
      of_client = refl;
      word = refl;
      of_file = refl;
      running = refl;
      pointless = refl;
      right = begun_right (onward book 1 (book.ops ++ begun c words.Open file [] (k.steps + 1) ∷ [])) c words.Open file [] (k.steps + 1) refl (ap (λ z. z + 1) steps);
      asked = λ i o e w. (ap (λ (z : Job). z.file) (sym (some_is (record { place = length book.ops; file = file; stage = stage.Hashing 1 s.next_xid }) i e)) ∙ refl_file, sym (some_is 0 o (hash_now i o e w)));
      commit = λ contents. tt;
      fits = (omega (arith, room), fits, omega arith, spoken_by book k qs c seat g.kept g.here);
      speaks = (g.kept.seats c seat g.here).speaks;
      under = tt;
      piece = λ f. tt;
      cached = cached_reserved book s.cache file (g.kept.seats c seat g.here).kept;
      temps = omega arith;
      short = omega arith;
      fetch = λ taken. tt;
      closes = λ contents e. tt;
      trying = λ m y e. record { op = begun c words.Open file [] (k.steps + 1); there = at_end book.ops (begun c words.Open file [] (k.steps + 1)); count = 0; tries_is = sym (tries_are m y e); tried = omega (arith, steps) };
      xids = (3, refl, omega (arith, room));
      bounded = (omega (arith, room), let le = was.1 in omega (arith, le));
      closing_is = inl is;
      place = λ d e. tt;
      begins = tt;
      tree = λ e. absurd cc;
    })
  where
    refl_file : file ≡ file
    refl_file = refl

    hash_now : (i : Job) (o : ℕ) → Some (record { place = length book.ops; file = file; stage = stage.Hashing 1 seat.client.next_xid }) ≡ Some i → Rattle.kept_promise.proofs.Messages.hash_offset i.stage seat.client.next_xid ≡ Some o → Some 0 ≡ Some o
    hash_now i o e w = sym (ap (λ b. cond b (Some 0) None) (eq-eqb seat.client.next_xid seat.client.next_xid refl)) ∙ ap (λ (z : Job). Rattle.kept_promise.proofs.Messages.hash_offset z.stage seat.client.next_xid) (some_is (record { place = length book.ops; file = file; stage = stage.Hashing 1 seat.client.next_xid }) i e) ∙ w

    tries_are : (m y : ℕ) → stage.Hashing 1 seat.client.next_xid ≡ stage.Hashing m y → 1 ≡ m
    tries_are m y e = ap tries_of e
      where
        tries_of : Stage → ℕ
        tries_of (stage.Hashing n z) = n
        tries_of s = 0

-- of a file whose content is kept
lease_begins : (book : Book) (k : Core) (qs : List Queue) (c : ℕ) (seat : Seat) (file : ℕ) (v : Content) → file < 18446744073709551616 → (g : Idle book k qs c seat) → Linked book k qs c seat → seat.client.next_xid < 4293967297
    → Answers book k qs c seat words.Open file [] (asks_kept (record seat.client { cache = reserved seat.client.cache file }) file (Some v))
lease_begins book k qs c seat file v fits g l room =
    let s = seat.client in
    let a : Ask = record { lbfs = s.lbfs; xid = s.next_xid; call = Lease file } in
    let was = (g.kept.seats c seat g.here).next in
    let steps = g.kept.steps in
    leads_begins book k qs c seat words.Open file [] (reserved s.cache file) s.clock s.next_temp (stage.Asking s.next_xid) a (asks_kept (record s { cache = reserved s.cache file }) file (Some v)).1 g l refl refl refl refl (λ closing is. record {
      first = lease_first s.lbfs s.next_xid file;
      of_client = refl;
      word = refl;
      of_file = refl;
      running = refl;
      pointless = refl;
      right = begun_right (onward book 1 (book.ops ++ begun c words.Open file [] (k.steps + 1) ∷ [])) c words.Open file [] (k.steps + 1) refl (ap (λ z. z + 1) steps);
      asked = λ i e w. ap (λ (z : Job). z.file) (sym (some_is (record { place = length book.ops; file = file; stage = stage.Asking s.next_xid }) i e));
      commit = λ contents. tt;
      fits = (omega (arith, room), fits, spoken_by book k qs c seat g.kept g.here);
      speaks = (g.kept.seats c seat g.here).speaks;
      under = tt;
      piece = λ f. tt;
      cached = cached_reserved book s.cache file (g.kept.seats c seat g.here).kept;
      temps = omega arith;
      short = omega arith;
      fetch = λ taken. tt;
      closes = λ contents e. tt;
      trying = λ m y e. absurd cc;
      xids = omega (arith, room);
      bounded = (omega (arith, room), let le = was.1 in omega (arith, le));
      closing_is = inl is;
      place = λ d e. tt;
      begins = tt;
      tree = λ e. absurd cc;
    })

-- ---- a rewrite

renew_begins : (book : Book) (k : Core) (qs : List Queue) (c : ℕ) (seat : Seat) (file : ℕ) → file < 18446744073709551616 → (g : Idle book k qs c seat) → Linked book k qs c seat → seat.client.next_xid < 4293967297
    → Answers book k qs c seat words.Rewrite file [] (asks_version (record seat.client { cache = reserved seat.client.cache file }) file)
renew_begins book k qs c seat file fits g l room =
    let s = seat.client in
    let a : Ask = record { lbfs = s.lbfs; xid = s.next_xid; call = Lease file } in
    let was = (g.kept.seats c seat g.here).next in
    let steps = g.kept.steps in
    leads_begins book k qs c seat words.Rewrite file [] (reserved s.cache file) s.clock s.next_temp (stage.Rewriting s.next_xid) a (asks_version (record s { cache = reserved s.cache file }) file).1 g l refl refl refl refl (λ closing is. record {
      first = renew_first s.lbfs s.next_xid file;
      of_client = refl;
      word = refl;
      of_file = refl;
      running = refl;
      pointless = refl;
      right = begun_right (onward book 1 (book.ops ++ begun c words.Rewrite file [] (k.steps + 1) ∷ [])) c words.Rewrite file [] (k.steps + 1) refl (ap (λ z. z + 1) steps);
      asked = λ i e w. ap (λ (z : Job). z.file) (sym (some_is (record { place = length book.ops; file = file; stage = stage.Rewriting s.next_xid }) i e));
      commit = λ contents. tt;
      fits = (omega (arith, room), fits, spoken_by book k qs c seat g.kept g.here);
      speaks = (g.kept.seats c seat g.here).speaks;
      under = tt;
      piece = λ f. tt;
      cached = cached_reserved book s.cache file (g.kept.seats c seat g.here).kept;
      temps = omega arith;
      short = omega arith;
      fetch = λ taken. tt;
      closes = λ contents e. tt;
      trying = λ m y e. absurd cc;
      xids = omega (arith, room);
      bounded = (omega (arith, room), let le = was.1 in omega (arith, le));
      closing_is = inl is;
      place = λ d e. tt;
      begins = tt;
      tree = λ e. absurd cc;
    })

may : (s : client.State) → may_ask s ≡ true → (s.linked ≡ true) × (s.next_xid < 4293967297)
may s e = by s.linked refl e
  where
    by : (b : Bool) → s.linked ≡ b → elim b as (λ (x : Bool). Bool) [ true ↦ has_xids s.next_xid | false ↦ false ] ≡ true → (s.linked ≡ true) × (s.next_xid < 4293967297)
    by true is e = (is, grind (arith, nat_tests, e))
    by false is e = absurd cc

-- ---- what is fresh

-- with this content open
abbrev with_fresh : Seat → (file version : ℕ) → (bytes : List ℕ) → List (ℕ × Local)
with_fresh seat file version bytes = client.with_local seat.client.opened file (record { version = version; bytes = bytes })

fresh_open : (book : Book) (k : Core) (qs : List Queue) (c : ℕ) (seat : Seat) (file : ℕ) (v : Content) (bytes : List ℕ) → (g : Idle book k qs c seat) → fresh_content seat.client.cache file seat.client.clock ≡ Some v → length bytes ≤ 67108864 → (f : ℕ) (l : Local) → client.local_at (with_fresh seat file v.version bytes) f ≡ Some l → WasThere book f × (length l.bytes ≤ 67108864)
fresh_open book k qs c seat file v bytes g fresh short f l is = elim (same_or_not f file) [
  | inr apart ↦ (g.kept.seats c seat g.here).opened f l (sym (local_at_another seat.client.opened file (record { version = v.version; bytes = bytes }) f apart) ∙ is)
  | inl same ↦
      let e : record { version = v.version; bytes = bytes } ≡ l = some_is (record { version = v.version; bytes = bytes }) l (sym (local_at_itself seat.client.opened file (record { version = v.version; bytes = bytes })) ∙ ap (client.local_at (with_fresh seat file v.version bytes)) (sym same) ∙ is) in
      (subst (λ (z : ℕ). WasThere book z) (sym same) (fresh_there book k qs c seat g.kept g.here file v fresh), subst (λ (z : Local). length z.bytes ≤ 67108864) e short)
]

opened_now : (book : Book) (k : Core) (qs : List Queue) (c : ℕ) (seat : Seat) (file : ℕ) (v : Content) → ActsAt book k c seat [] → (g : Idle book k qs c seat) → fresh_content seat.client.cache file seat.client.clock ≡ Some v → Answers book k qs c seat words.Open file [] (opens_fresh seat.client file v)
opened_now book k qs c seat file v acts g fresh = leads_first book k qs c seat seat.session (session_of k.sessions seat.session) words.Open file [] opened o (record { none = none; right = right; over = λ e. absurd cc }) g.kept g.here g.place g.free (fresh_open book k qs c seat file v v.bytes g fresh (fresh_short book k qs c seat g.kept g.here file v fresh)) refl (owner_is book k qs c seat g.kept g.here)
  where
    opened : List (ℕ × Local)
    opened = with_fresh seat file v.version v.bytes

    o : Outcome
    o = outcome.Opened file (length v.bytes) (sha1 v.bytes)

    new : Op
    new = own_op k c words.Open file [] (record seat.client { opened = opened }) o

    more : Book
    more = onward book 1 (book.ops ++ new ∷ [])

    steps : book.steps ≡ k.steps
    steps = g.kept.steps

    local_is : client.local_bytes opened file ≡ v.bytes
    local_is = ap (λ (l : Option Local). Rattle.std.specs.Prelude.unwrap_or (Rattle.std.specs.Prelude.option_map (λ z. z.bytes) l) []) (local_at_itself seat.client.opened file (record { version = v.version; bytes = v.bytes }))

    none : MakesNone book new
    none p e = (refl, λ i at. let past = (g.kept.sound.past i p at).1 in let is = some_is (k.steps + 1) p e in absurd (omega (arith, past, is, steps)))

    right : IsRight more new
    right = record {
      cause = (
        refl,
        record {
          length_is = ap (λ (l : List ℕ). length l) (sym local_is);
          digest_is = ap sha1 (sym local_is);
          point = k.steps + 1;
          within = (refl, omega arith, (k.steps + 1, refl, omega arith));
          value_is = λ leased. or_later book more None None (value_at book file (book.steps + 1) ≡ Some v.bytes) (value_at more file (k.steps + 1) ≡ Some (client.local_bytes opened file)) (grows_added book new none)
              (λ e. ap (value_at more file) (ap (λ (n : ℕ). n + 1) (sym steps)) ∙ value_later book more None None file (book.steps + 1) (grows_added book new none) (omega arith) ∙ e ∙ ap (λ (l : List ℕ). Some l) (sym local_is)) (fresh_value book k qs c seat g.kept g.here file v fresh [] acts leased);
        },
        there_later book more None None file (grows_added book new none) (fresh_there book k qs c seat g.kept g.here file v fresh),
      );
      begun = omega (arith, steps);
      pointed = λ p e. (let is = some_is (k.steps + 1) p e in (omega (arith, is), omega (arith, is, steps), refl));
      past = λ e q. (let is = some_is (k.steps + 1) e q in (omega (arith, is), omega (arith, is, steps)));
      ends = refl;
      within = λ l p e f q. (let a = some_is (k.steps + 1) p f in let b = some_is (k.steps + 1) e q in omega (arith, a, b));
      failed = λ a. absurd cc;
    }

renewed_now : (book : Book) (k : Core) (qs : List Queue) (c : ℕ) (seat : Seat) (file : ℕ) (v : Content) → ActsAt book k c seat [] → (g : Idle book k qs c seat) → fresh_content seat.client.cache file seat.client.clock ≡ Some v → Answers book k qs c seat words.Rewrite file [] (empties_fresh seat.client file v)
renewed_now book k qs c seat file v acts g fresh = leads_first book k qs c seat seat.session (session_of k.sessions seat.session) words.Rewrite file [] opened outcome.Done (record { none = makes_none book new refl; right = right; over = λ e. absurd cc }) g.kept g.here g.place g.free (fresh_open book k qs c seat file v [] g fresh (omega arith)) refl (owner_is book k qs c seat g.kept g.here)
  where
    opened : List (ℕ × Local)
    opened = with_fresh seat file v.version []

    new : Op
    new = own_op k c words.Rewrite file [] (record seat.client { opened = opened }) outcome.Done

    more : Book
    more = onward book 1 (book.ops ++ new ∷ [])

    steps : book.steps ≡ k.steps
    steps = g.kept.steps

    grows : Grows book more None None
    grows = grows_added book new (makes_none book new refl)

    at_step : step_of acts.at ≡ book.steps + 1
    at_step = ap (λ (n : ℕ). n + 1) (acts.steps_is ∙ sym steps)

    right : IsRight more new
    right = record {
      cause = inr (record {
        ends = fresh_ends book k qs c seat g.kept g.here file v fresh [] acts refl new refl refl refl;
        past = omega (arith, at_step);
        value_is = λ leased. subst (λ (n : ℕ). IsSome (value_at more file n)) (sym at_step) (subst (λ (z : Option (List ℕ)). IsSome z) (sym (value_later book more None None file (book.steps + 1) grows (omega arith))) (fresh_some book k qs c seat g.kept g.here file v fresh [] acts leased));
        known = there_later book more None None file grows (fresh_there book k qs c seat g.kept g.here file v fresh);
      });
      begun = omega (arith, steps);
      pointed = λ p e. nothing_there p e;
      past = λ e q. (let is = some_is (k.steps + 1) e q in (omega (arith, is), omega (arith, is, steps)));
      ends = refl;
      within = λ l p e f. nothing_there p f;
      failed = λ a. absurd cc;
    }

-- ---- an open, and a rewrite

opened_new : (book : Book) (k : Core) (qs : List Queue) (c : ℕ) (seat : Seat) (file : ℕ) → file < 18446744073709551616 → ((send : List Message) → (opens seat.client file seat.client.task).1.send ≡ send → ActsAt book k c seat send) → Idle book k qs c seat → Answers book k qs c seat words.Open file [] (opens seat.client file seat.client.task)
opened_new book k qs c seat file fits acts g = subst (λ (t : Option Task). Answers book k qs c seat words.Open file [] (opens seat.client file t)) (sym g.task) (by (is_open seat.client.opened file) refl)
  where
    asked : (o : Option Content) → (seat.client.linked ≡ true) × (seat.client.next_xid < 4293967297) → Answers book k qs c seat words.Open file [] (asks_kept (record seat.client { cache = reserved seat.client.cache file }) file o)
    asked None m = open_begins book k qs c seat file fits g (linked book k qs c seat g m.0) m.1
    asked (Some v) m = lease_begins book k qs c seat file v fits g (linked book k qs c seat g m.0) m.1

    ask : (b : Bool) → may_ask seat.client ≡ b → Answers book k qs c seat words.Open file [] (asks_file seat.client file b)
    ask true e = asked (kept_of seat.client.cache file) (may seat.client e)
    ask false e = own_same book k qs c seat words.Open file [] outcome.NoLink tt g

    kept : is_open seat.client.opened file ≡ false → (o : Option Content) → fresh_content seat.client.cache file seat.client.clock ≡ o → Answers book k qs c seat words.Open file [] (opens_kept seat.client file o)
    kept shut None e = ask (may_ask seat.client) refl
    kept shut (Some v) e = opened_now book k qs c seat file v (acts [] (ap (λ (z : Option Task). (opens seat.client file z).1.send) g.task ∙ ap (λ (b : Bool). (opens_if seat.client file b).1.send) shut ∙ ap (λ (o : Option Content). (opens_kept seat.client file o).1.send) e)) g e

    by : (b : Bool) → is_open seat.client.opened file ≡ b → Answers book k qs c seat words.Open file [] (opens_if seat.client file b)
    by true shut = own_same book k qs c seat words.Open file [] outcome.AlreadyOpen tt g
    by false shut = kept shut (fresh_content seat.client.cache file seat.client.clock) refl

renewed_new : (book : Book) (k : Core) (qs : List Queue) (c : ℕ) (seat : Seat) (file : ℕ) → file < 18446744073709551616 → ((send : List Message) → (rewrites seat.client file seat.client.task).1.send ≡ send → ActsAt book k c seat send) → Idle book k qs c seat → Answers book k qs c seat words.Rewrite file [] (rewrites seat.client file seat.client.task)
renewed_new book k qs c seat file fits acts g = subst (λ (t : Option Task). Answers book k qs c seat words.Rewrite file [] (rewrites seat.client file t)) (sym g.task) (by (is_open seat.client.opened file) refl)
  where
    ask : (b : Bool) → may_ask seat.client ≡ b → Answers book k qs c seat words.Rewrite file [] (asks_anew seat.client file b)
    ask true e = let m = may seat.client e in renew_begins book k qs c seat file fits g (linked book k qs c seat g m.0) m.1
    ask false e = own_same book k qs c seat words.Rewrite file [] outcome.NoLink tt g

    kept : is_open seat.client.opened file ≡ false → (o : Option Content) → fresh_content seat.client.cache file seat.client.clock ≡ o → Answers book k qs c seat words.Rewrite file [] (renews_kept seat.client file o)
    kept shut None e = ask (may_ask seat.client) refl
    kept shut (Some v) e = renewed_now book k qs c seat file v (acts [] (ap (λ (z : Option Task). (rewrites seat.client file z).1.send) g.task ∙ ap (λ (b : Bool). (rewrites_if seat.client file b).1.send) shut ∙ ap (λ (o : Option Content). (renews_kept seat.client file o).1.send) e)) g e

    by : (b : Bool) → is_open seat.client.opened file ≡ b → Answers book k qs c seat words.Rewrite file [] (rewrites_if seat.client file b)
    by true shut = own_same book k qs c seat words.Rewrite file [] outcome.AlreadyOpen tt g
    by false shut = kept shut (fresh_content seat.client.cache file seat.client.clock) refl

-- ---- a walk

pub walk_first : (lbfs next : ℕ) (w : Walk) → First next (stage.Walking next w) (record { lbfs = lbfs; xid = next; call = Walks w })
walk_first lbfs next w = record { xid = refl; pending = refl; hash = λ y o lt e. nothing_there o e; read = λ y. refl; commit = λ y e. absurd cc; walk = λ y v lt e. (let same = xid_is next y w v e in omega (arith, lt, same)); lease = λ y lt e. nothing_there y e }
  where
    xid_is : (x y : ℕ) (w v : Walk) → stage.Walking x w ≡ stage.Walking y v → x ≡ y
    xid_is x y w v e = cc

pub walk_is : (x y : ℕ) (w v : Walk) → stage.Walking x w ≡ stage.Walking y v → w ≡ v
walk_is x y w v e = cc

arrived_word : (dirs : List (List ℕ)) (n : List ℕ) (to : Spot) → words.Rename ≡ goal_word (arrives 1 dirs (goal.RenameFrom n to)).goal
arrived_word [] n to = refl
arrived_word (d ∷ ds) n to = refl

pub begun_word : (k : PathCommand) → path_word k ≡ goal_word (walk_begun k).goal
begun_word (path.Rename s t) = arrived_word s.dirs s.name t
begun_word _ = refl

-- a make, a remove and a rename may change a file
walk_closing : (k : PathCommand) → (closing : Option ℕ) (place : ℕ) → (closing_with closing place (path_word k) None ≡ closing) ⊎ (closing_with closing place (path_word k) None ≡ Some place)
walk_closing (path.Make s) closing place = inr refl
walk_closing (path.Remove s) closing place = inr refl
walk_closing (path.Rename s t) closing place = inr refl
walk_closing _ closing place = inl refl

changing_closing : (what : Word) (closing : Option ℕ) (place : ℕ) → changes what ≡ true → closing_with closing place what None ≡ Some place
changing_closing what closing place e = ap (λ (b : Bool). if b then Some place else closing) e

walk_remote : (k : PathCommand) → Rattle.kept_promise.proofs.Rights.is_remote (path_word k) ≡ true
walk_remote (path.Find s) = refl
walk_remote _ = refl

walk_begins : (book : Book) (k : Core) (qs : List Queue) (c : ℕ) (seat : Seat) (p : PathCommand) → HasNames p → (g : Idle book k qs c seat) → Linked book k qs c seat → seat.client.next_xid < 4293967297
    → Answers book k qs c seat (path_word p) 0 [] (asks_next seat.client (walk_begun p))
walk_begins book k qs c seat p names g l room =
    let s = seat.client in
    let w = walk_begun p in
    let a : Ask = record { lbfs = s.lbfs; xid = s.next_xid; call = Walks w } in
    let was = (g.kept.seats c seat g.here).next in
    let steps = g.kept.steps in
    let short = walk_calls_short w (begun_named p names) in
    let new = begun c (path_word p) 0 [] (k.steps + 1) in
    leads_begins book k qs c seat (path_word p) 0 [] s.cache s.sent s.next_temp (stage.Walking s.next_xid w) a (asks_next s w).1 g l refl refl refl refl (λ closing is. record {
      first = walk_first s.lbfs s.next_xid w;
      of_client = refl;
      word = begun_word p;
      of_file = refl;
      running = refl;
      pointless = refl;
      right = begun_right (onward book 1 (book.ops ++ begun c (path_word p) 0 [] (k.steps + 1) ∷ [])) c (path_word p) 0 [] (k.steps + 1) (walk_remote p) (ap (λ z. z + 1) steps);
      asked = λ i v e at. sym (walk_is s.next_xid s.next_xid w v (ap (λ (z : Job). z.stage) (some_is (record { place = length book.ops; file = 0; stage = stage.Walking s.next_xid w }) i e) ∙ at));
      commit = λ contents making.
          let may : changes (path_word p) ≡ true = ap changes (begun_word p) ∙ creates_changes w.left w.goal making in
          record { place = length book.ops; known = is ∙ changing_closing (path_word p) l.session.closing (length book.ops) may; op = new; there = at_end book.ops new; unmade = (may, refl, refl); word_is = begun_word p; file_is = refl; waited = λ u. refl };
      fits = (omega (arith, room), begun_small p names);
      speaks = (g.kept.seats c seat g.here).speaks;
      under = tt;
      piece = λ f. tt;
      cached = (g.kept.seats c seat g.here).kept;
      temps = omega arith;
      short = omega arith;
      fetch = λ taken. (refl, begun_small p names);
      closes = λ contents e making.
          let may : changes (path_word p) ≡ true = ap changes (begun_word p) ∙ later_changes w.left w.goal making in
          record { known = is ∙ changing_closing (path_word p) l.session.closing (length book.ops) may; op = new; there = at_end book.ops new; unmade = (may, refl, refl); word_is = begun_word p; file_is = refl };
      trying = λ m y e. absurd cc;
      xids = omega (arith, room, short);
      bounded = (omega (arith, room), let le = was.1 in omega (arith, le));
      closing_is = elim (walk_closing p l.session.closing (length book.ops)) [ inl same ↦ inl (is ∙ same) | inr new ↦ inr (is ∙ new) ];
      place = λ d e. tt;
      begins = tt;
      tree = λ e. absurd (goal_not_close w.goal e);
    })

both_first : (a b : Bool) → (a && b) ≡ true → a ≡ true
both_first true b e = refl
both_first false b e = absurd cc

walked_new : (book : Book) (k : Core) (qs : List Queue) (c : ℕ) (seat : Seat) (p : PathCommand) → HasNames p → Idle book k qs c seat → Answers book k qs c seat (path_word p) 0 [] (walks seat.client p seat.client.task)
walked_new book k qs c seat p names g = subst (λ (t : Option Task). Answers book k qs c seat (path_word p) 0 [] (walks seat.client p t)) (sym g.task) (by (may_walk seat.client (walk_begun p)) refl)
  where
    by : (b : Bool) → may_walk seat.client (walk_begun p) ≡ b → Answers book k qs c seat (path_word p) 0 [] (walks_if seat.client (walk_begun p) b)
    by true e = let m = may seat.client (both_first (may_ask seat.client) _ e) in walk_begins book k qs c seat p names g (linked book k qs c seat g m.0) m.1
    by false e = own_same book k qs c seat (path_word p) 0 [] outcome.NoLink tt g

-- ---- a close

close_begins : (book : Book) (k : Core) (qs : List Queue) (c : ℕ) (seat : Seat) (file : ℕ) (v : Local) → (g : Idle book k qs c seat) → Linked book k qs c seat → client.local_at seat.client.opened file ≡ Some v → seat.client.next_xid < 4293967297 → Answers book k qs c seat words.Close file (client.local_bytes seat.client.opened file) (asks_temp seat.client file true)
close_begins book k qs c seat file v g l at room =
    let s = seat.client in
    let a : Ask = record { lbfs = s.lbfs; xid = s.next_xid; call = Make s.next_temp file } in
    let was = (g.kept.seats c seat g.here).next in
    let le = was.1 in
    let steps = g.kept.steps in
    let known = (g.kept.seats c seat g.here).opened file v at in
    let value = client.local_bytes s.opened file in
    let new = begun c words.Close file value (k.steps + 1) in
    let bytes : value ≡ v.bytes = ap (λ (o : Option Local). Rattle.std.specs.Prelude.unwrap_or (Rattle.std.specs.Prelude.option_map (λ z. z.bytes) o) []) at in
    leads_begins book k qs c seat words.Close file value s.cache s.sent (s.next_temp + 1) (stage.Making s.next_xid s.next_temp) a (asks_temp s file true).1 g l refl refl refl refl (λ closing is. record {
      first = make_first s.lbfs s.next_xid s.next_temp file;
      of_client = refl;
      word = refl;
      of_file = refl;
      running = refl;
      pointless = refl;
      right = begun_right (onward book 1 (book.ops ++ new ∷ [])) c words.Close file value (k.steps + 1) refl (ap (λ z. z + 1) steps);
      asked = tt;
      commit = λ contents. tt;
      fits = (omega (arith, room), omega (arith, room, le), file_small book k qs file g.kept known.0, spoken_by book k qs c seat g.kept g.here);
      speaks = (g.kept.seats c seat g.here).speaks;
      under = omega arith;
      piece = λ f. tt;
      cached = (g.kept.seats c seat g.here).kept;
      temps = omega arith;
      short = let k1 = known.1 in let b = ap (λ (z : List ℕ). length z) bytes in omega (arith, k1, b);
      fetch = λ taken. tt;
      closes = λ contents e. (record { known = is; op = new; there = at_end book.ops new; unmade = (refl, refl, refl); word_is = refl; value_is = refl; small = file_small book k qs file g.kept known.0 }, e, omega arith);
      trying = λ m y e. absurd cc;
      xids = omega (arith, room);
      bounded = (omega (arith, room), omega (arith, le));
      closing_is = inr is;
      place = λ d e. (_, e, refl, refl);
      begins = (file, s.lbfs, refl);
      tree = λ e. known.0;
    })

abbrev AnswersClose : (book : Book) (k : Core) (qs : List Queue) (c : ℕ) (seat : Seat) (file : ℕ) → client.State × ClientStep → Type 0
AnswersClose book k qs c seat file r = Answers book k qs c seat words.Close file (value_at_begin seat.client words.Close file r.1.ended) r

closed_new : (book : Book) (k : Core) (qs : List Queue) (c : ℕ) (seat : Seat) (file : ℕ) → Idle book k qs c seat → AnswersClose book k qs c seat file (on_local seat.client seat.client.task (client.local_at seat.client.opened file) (closes seat.client file))
closed_new book k qs c seat file g = subst (λ (t : Option Task). AnswersClose book k qs c seat file (on_local seat.client t (client.local_at seat.client.opened file) (closes seat.client file))) (sym g.task) (by (client.local_at seat.client.opened file) refl)
  where
    ask : (l : Local) → client.local_at seat.client.opened file ≡ Some l → (b : Bool) → may_ask seat.client ≡ b → AnswersClose book k qs c seat file (asks_temp seat.client file b)
    ask l at true e = let m = may seat.client e in close_begins book k qs c seat file l g (linked book k qs c seat g m.0) at m.1
    ask l at false e = own_same book k qs c seat words.Close file [] outcome.NoLink tt g

    by : (l : Option Local) → client.local_at seat.client.opened file ≡ l → AnswersClose book k qs c seat file (on_local seat.client None l (closes seat.client file))
    by None at = own_same book k qs c seat words.Close file [] outcome.NotOpen tt g
    by (Some l) at = ask l at (may_ask seat.client) refl

-- ---- any command

idle_does : (book : Book) (k : Core) (qs : List Queue) (c : ℕ) (seat : Seat) (d : Command) → IsSmall d → ((send : List Message) → (does seat.client d).1.send ≡ send → ActsAt book k c seat send) → Idle book k qs c seat → Answers book k qs c seat (word_of d) (file_of d) (value_at_begin seat.client (word_of d) (file_of d) (does seat.client d).1.ended) (does seat.client d)
idle_does book k qs c seat (command.Open file) fits acts g = opened_new book k qs c seat file fits acts g
idle_does book k qs c seat (command.Rewrite file) fits acts g = renewed_new book k qs c seat file fits acts g
idle_does book k qs c seat (command.Write file offset content) fits acts g = local_one book k qs c seat words.Write file [] (writes seat.client file offset content) g (λ l at. wrote book k qs c seat file offset content [] l g at)
idle_does book k qs c seat (command.Trunc file size) fits acts g = local_one book k qs c seat words.Trunc file [] (truncates seat.client file size) g (λ l at. edited book k qs c seat words.Trunc file [] l size (truncated l.bytes size) refl g at (truncated_length l.bytes size))
idle_does book k qs c seat (command.Read file offset count) fits acts g = local_one book k qs c seat words.Read file [] (reads seat.client offset count) g (λ l at. own_same book k qs c seat words.Read file [] (outcome.Piece (length (part_of l.bytes offset count)) (sha1 (part_of l.bytes offset count))) tt g)
idle_does book k qs c seat (command.Close file) fits acts g = closed_new book k qs c seat file g
idle_does book k qs c seat (command.Named n) fits acts g = subst (λ (l : List ℕ). Answers book k qs c seat (path_word n) 0 l (walks seat.client n seat.client.task)) (sym (no_value n (walks seat.client n seat.client.task).1.ended)) (walked_new book k qs c seat n fits g)
  where
    no_value : (n : PathCommand) (e : Option Rattle.client_state.specs.declared.step.Ended.Ended) → Rattle.trace_ends.specs.Commands.value_at_begin seat.client (path_word n) 0 e ≡ []
    no_value (path.Find s) e = refl
    no_value _ e = refl
idle_does book k qs c seat (command.Abandon file) fits acts g = local_one book k qs c seat words.Abandon file [] (abandons seat.client file) g (λ l at. own_with book k qs c seat words.Abandon file [] (client.without_local seat.client.opened file) outcome.Done refl g (gone book k qs c seat file g))

busy_step : (s : client.State) (t : Task) (d : Command) → s.task ≡ Some t → does s d ≡ (s, ends outcome.Busy 0 0)
busy_step s t (command.Open file) e = ap (opens s file) e
busy_step s t (command.Rewrite file) e = ap (rewrites s file) e
busy_step s t (command.Write file offset content) e = ap (λ z. on_local s z (client.local_at s.opened file) (writes s file offset content)) e
busy_step s t (command.Trunc file size) e = ap (λ z. on_local s z (client.local_at s.opened file) (truncates s file size)) e
busy_step s t (command.Read file offset count) e = ap (λ z. on_local s z (client.local_at s.opened file) (reads s offset count)) e
busy_step s t (command.Close file) e = ap (λ z. on_local s z (client.local_at s.opened file) (closes s file)) e
busy_step s t (command.Abandon file) e = ap (λ z. on_local s z (client.local_at s.opened file) (abandons s file)) e
busy_step s t (command.Named k) e = ap (walks s k) e

does_as : (book : Book) (k : Core) (qs : List Queue) (c : ℕ) (seat : Seat) (d : Command) → IsSmall d → ((send : List Message) → (does seat.client d).1.send ≡ send → ActsAt book k c seat send) → IsKept book k qs → numbered k.seats c ≡ Some seat → (place : Option ℕ) (task : Option Task) → seat.place ≡ place → seat.client.task ≡ task → IsMatched seat
    → Leads book qs (commanded_as k c seat place seat.session (session_of k.sessions seat.session) (word_of d) (file_of d) (value_at_begin seat.client (word_of d) (file_of d) (does seat.client d).1.ended) (does seat.client d).0 (does seat.client d).1)
does_as book k qs c seat d fits acts kept here None None e f m = idle_does book k qs c seat d fits acts (record { kept = kept; here = here; place = e; task = f; free = ap (λ (p : Option ℕ). job_of p seat.client.task) e })
does_as book k qs c seat d fits acts kept here (Some p) (Some t) e f m =
    subst (λ (r : client.State × ClientStep). Leads book qs (commanded_as k c seat (Some p) seat.session (session_of k.sessions seat.session) (word_of d) (file_of d) (value_at_begin seat.client (word_of d) (file_of d) (does seat.client d).1.ended) r.0 r.1)) (sym (busy_step seat.client t d f))
    (leads_busy book k qs c p seat seat.session (session_of k.sessions seat.session) (word_of d) (file_of d) (value_at_begin seat.client (word_of d) (file_of d) (does seat.client d).1.ended) kept here e refl)
does_as book k qs c seat d fits acts kept here None (Some t) e f (inl m) = nothing_there t (sym m.1 ∙ f)
does_as book k qs c seat d fits acts kept here None (Some t) e f (inr m) = nothing_there m.0 (sym (ap (λ (p : Option ℕ). job_of p seat.client.task) e) ∙ m.1)
does_as book k qs c seat d fits acts kept here (Some p) None e f (inl m) = nothing_there p (sym m.0 ∙ e)
does_as book k qs c seat d fits acts kept here (Some p) None e f (inr m) = nothing_there m.0 (sym (ap (λ (z : Option ℕ). job_of z seat.client.task) e ∙ ap (job_of (Some p)) f) ∙ m.1)

value_ticked : (s t : client.State) → s.opened ≡ t.opened → (w : Word) (f : ℕ) (e : Option Ended) → value_at_begin s w f e ≡ value_at_begin t w f e
value_ticked s t same words.Close f None = ap (λ (o : List (ℕ × Local)). client.local_bytes o f) same
value_ticked s t same _ f e = refl

-- the reading of the client's clock comes first
pub kept_does : KeptDoes
kept_does = λ book k qs c now d fits kept noted. by book k qs c now d fits kept noted (numbered k.seats c) refl
  where
    by : (book : Book) (k : Core) (qs : List Queue) (c now : ℕ) (d : Command) → IsSmall d → IsKept book k qs → IsNoted book k (Does c now d) → (o : Option Seat) → numbered k.seats c ≡ o → Leads book qs (core_does k c now d o)
    by book k qs c now d fits kept noted None at = leads_quiet book k qs kept
    by book k qs c now d fits kept noted (Some seat) at = subst (λ (seats : List Seat). Leads book qs (done seats (value_at_begin seat.client (word_of d) (file_of d) r.1.ended))) (with_twice k.seats c tick next) (subst (λ (v : List ℕ). Leads book qs (done (with_numbered (with_numbered k.seats c tick) c next) v)) (value_ticked tick.client seat.client refl (word_of d) (file_of d) r.1.ended) led)
      where
        parts : Parts
        parts = record (parts_of seat) { clock = now }

        tick : Seat
        tick = with_parts seat parts

        ticked : Core
        ticked = record k { seats = with_numbered k.seats c tick }

        here : numbered (with_numbered k.seats c tick) c ≡ Some tick
        here = (around_with k.seats c seat tick at).there

        still : IsKept book ticked qs
        still = kept_one book k qs c seat parts at (kept.seats c seat at).kept kept

        r : client.State × ClientStep
        r = does tick.client d

        acts : (send : List Message) → (does tick.client d).1.send ≡ send → ActsAt book ticked c tick send
        acts send is = record {
          at = record { before = k; event = Does c now d };
          there = noted.there;
          steps_is = refl;
          tree_is = refl;
          acts = refl;
          was = seat;
          was_is = at;
          cache_is = refl;
          quiet = λ none. ap (λ (o : Option Seat). (core_does k c now d o).up) at ∙ is ∙ none;
        }

        -- the step, with these seats, and what a close is to store
        done : List Seat → (value : List ℕ) → CoreStep
        done seats value = (let t = commanded_as k c seat seat.place seat.session (session_of k.sessions seat.session) (word_of d) (file_of d) value r.0 r.1 in record t { core = record t.core { seats = seats } })

        next : Seat
        next = record { client = r.0; session = seat.session; place = place_with seat.place (length k.ops) r.1.ended }

        led : Leads book qs (done (with_numbered (with_numbered k.seats c tick) c next) (value_at_begin tick.client (word_of d) (file_of d) r.1.ended))
        led = does_as book ticked qs c tick d fits acts still here seat.place seat.client.task refl refl (still.seats c tick here).matched
