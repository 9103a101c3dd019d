-- The journal grows by entries of a call's session alone: as the server takes the call, which a client had sent, or settles what it left waiting.
use Rattle.std.proofs.Common.{◌⊎◌, inl, inr, ◌≡◌, ℕ, zero, suc, ◌+◌, ◌<◌, List, [], ◌∷◌, ◌++◌, length, Option, Some, None, Result, Ok, Err, Bool, true, false, refl, sym, ap, ◌∙◌, subst, arith, append-nil, replicate}
use Rattle.hash_calls.specs.declared.message.Lb.{Lb}
use Rattle.hash_calls.specs.declared.message.Lb.TheVariants as lb
use Rattle.nfs3_calls.specs.declared.message.Nfs.{Nfs}
use Rattle.nfs3_calls.specs.declared.message.Nfs.TheVariants as nfs
use Rattle.wire.specs.declared.message.Body.TheVariants as body
use Rattle.wire.specs.declared.message.Message.TheVariants as message
use Rattle.xdr_codec.specs.declared.status.Status.TheVariants as status
use Rattle.tree_reading.specs.Tree.{Tree}
use Rattle.tree_reading.specs.declared.entry.Entry.{Entry as TreeEntry}
use Rattle.tree_calls.specs.Telling.{told as told_by}
use Rattle.tree_calls.specs.Waiting.{calls, told_outcome}
use Rattle.tree_calls.specs.declared.asked.Outcome.{Outcome}
use Rattle.tree_calls.specs.declared.asked.Outcome.TheVariants.{Answered, Waits as ToWait}
use Rattle.server_core.specs.State as server
use Rattle.server_core.specs.Closing.{answers, looked_up, entries_by, entered_by, entry_by, ready_by, settles_by}
use Rattle.callback_core.specs.Waits.{without}
use Rattle.server_core.specs.Step.{asks, asks_tree}
use Rattle.server_core.specs.Steps.{sends}
use Rattle.server_core.specs.declared.change.Wanted.TheVariants as wanted
use Rattle.server_core.specs.declared.event.ServerStep.{ServerStep}
use Rattle.trace_replay.specs.Entries.{MayEnter, TakesEntering, IsOwnCall, GrowsBy, GrowsRaw, JournalGrows}
use Rattle.trace_replay.specs.NameChanges.{IsStepOf}
use Rattle.trace_replay.specs.OwnCalls.{ComesTo}
use Rattle.kept_promise.proofs.Common.{slice_get, nat_lt, if◌then◌else◌, Contains, Contains-append_left, Contains-append_right, Contains-push, Contains-push_cases, Failed, Status, Body, Message, WireFault, numbered, parse_of, Temp, size_most, temp_at, room_fault, piece_fault, cond_fault, assembled, without_temp, File, Node, file, directory, node_of, called, got_if, at, stands, makes, makes_unless, writes_unless, names_unless, names_bytes, takes_commit, takes_commit_on, commits_whole, has_waiting, is_full, makes_change, Wanted, FileChange, Entry, Op, Opening, Core, Session, Event, Event.Serves, Event.Settles, CoreStep, server_waiting, server_waits, happens, Moment, step_of, client_of, is_in, Book, Queue, ask_message, change_of, is_raw}
use Rattle.kept_promise.proofs.Hangs.{left_there}
use Rattle.kept_promise.proofs.TakenOut.{ready_waits}
use Rattle.server_core.specs.Recalling.{comes, term_at}
use Rattle.kept_promise.proofs.Lists.{some_is, nothing_there, of_appended, in_front}
use Rattle.kept_promise.proofs.Messages.{AllAsks}
use Rattle.kept_promise.proofs.Statements.{CallFits}
use Rattle.kept_promise.proofs.Fits.{FitLaws}
use Rattle.kept_promise.proofs.Serves.{parsed}
use Rattle.kept_promise.proofs.Facts.{IsKept}
use Rattle.kept_promise.proofs.Turns.{also_numbered, owned_up, raw_or_owned}
use Rattle.kept_promise.proofs.RunsCarried.{book_at, moment, FindsAsk, Step, Carried, Finds}
use Rattle.kept_promise.proofs.CallsAlike.{call_read}
use Rattle.kept_promise.proofs.ServesFiles.{count_is}
use Rattle.kept_promise.proofs.SentUp.{WasCalled, UpsSent, called_after, call_asked, asked_only}
use Rattle.kept_promise.proofs.OpsAfter.{ops_after_event}
use Rattle.kept_promise.proofs.Logs.{IsSilent}
use Rattle.kept_promise.proofs.Hangs.{left_there}
use Rattle.kept_promise.proofs.Happens.{what_happens}
use Rattle.kept_promise.proofs.AnyCall.{Grown, Stays, Comes, CallGrows, body_grows, change_grows, change_waits}
use Rattle.kept_promise.proofs.OwnersKept.{owned_before, served_on}

-- ---- an event

-- by a call that is taken, which may make entries; or by the change that is ready
abbrev pub ByEvent : Core → Event → (n xid : ℕ) → Type 0
ByEvent k e n xid = ((now : ℕ) × (bytes : List ℕ) × (b : Body) × (e ≡ Serves n now bytes) × (parse_of server_waiting bytes ≡ Ok (message.Call xid b)) × MayEnter b) ⊎ ((now : ℕ) × (c : FileChange) × (e ≡ Settles now) × (ready_by k.server now ≡ Some c) × (c.session ≡ n) × (c.xid ≡ xid))

pub record GrewBy (k : Core) (e : Event) (t : CoreStep) : Type 0 where
  pub session : ℕ
  pub xid : ℕ
  pub by : ByEvent k e session xid
  pub new : List Entry
  pub journal_is : t.core.server.journal ≡ k.server.journal ++ new
  pub entries_is : t.core.entries ≡ k.entries ++ replicate (length new) (k.steps + 1)
  pub sessions : (i : ℕ) (d : Entry) → slice_get new i ≡ Some d → d.session ≡ session

-- each change that waits waited before, or came by this event
abbrev pub CameBy : Core → Event → CoreStep → Type 0
CameBy k e t = (i : ℕ) (c : FileChange) → slice_get t.core.server.waiting i ≡ Some c → ((j : ℕ) × (slice_get k.server.waiting j ≡ Some c)) ⊎ ((now : ℕ) × (bytes : List ℕ) × (b : Body) × (e ≡ Serves c.session now bytes) × (parse_of server_waiting bytes ≡ Ok (message.Call c.xid b)) × MayEnter b)

pub record Grows (k : Core) (e : Event) (t : CoreStep) : Type 0 where
  pub journal : ((t.core.server.journal ≡ k.server.journal) × (t.core.entries ≡ k.entries)) ⊎ GrewBy k e t
  pub came : CameBy k e t

same_waits : (k : Core) (e : Event) (t : CoreStep) → t.core.server.waiting ≡ k.server.waiting → CameBy k e t
same_waits k e t same i c at_ = inl (i, ap (λ (l : List FileChange). slice_get l i) (sym same) ∙ at_)

still : (k : Core) (e : Event) (t : CoreStep) → t.core.server.journal ≡ k.server.journal → t.core.entries ≡ k.entries → t.core.server.waiting ≡ k.server.waiting → Grows k e t
still k e t journal entries waiting = record { journal = inl (journal, entries); came = same_waits k e t waiting }

no_entries : (es : List ℕ) (count step : ℕ) → count ≡ 0 → es ++ replicate count step ≡ es
no_entries es count step none = ap (λ m. es ++ replicate m step) none ∙ append-nil es

pub taken_grows : (k : Core) (n now : ℕ) (bytes : List ℕ) (x : Session) (m : Message) → parse_of (server_waits k n) bytes ≡ Ok m → Grows k (Serves n now bytes) (Rattle.trace_ends.specs.Core.server_got k n now x m)
taken_grows k n now bytes x m read = record { journal = journal (stands k.server n) m read; came = came (stands k.server n) m read }
  where
    journal : (b : Bool) (m : Message) → parse_of (server_waits k n) bytes ≡ Ok m → (let r = got_if k.server b n m now in let t : CoreStep = record (Rattle.trace_ends.specs.Core.server_got k n now x m) { core = record (Rattle.trace_ends.specs.Core.server_got k n now x m).core { server = r.0; entries = k.entries ++ replicate r.1.entries (k.steps + 1) } } in
        ((t.core.server.journal ≡ k.server.journal) × (t.core.entries ≡ k.entries)) ⊎ GrewBy k (Serves n now bytes) t)
    journal true (message.Call xid b) read = by (body_grows (at k.server now) n xid b)
      where
        by : CallGrows n xid b (at k.server now) (called (at k.server now) n xid b) → (let r = called (at k.server now) n xid b in let t : CoreStep = record (Rattle.trace_ends.specs.Core.server_got k n now x (message.Call xid b)) { core = record (Rattle.trace_ends.specs.Core.server_got k n now x (message.Call xid b)).core { server = r.0; entries = k.entries ++ replicate r.1.entries (k.steps + 1) } } in ((t.core.server.journal ≡ k.server.journal) × (t.core.entries ≡ k.entries)) ⊎ GrewBy k (Serves n now bytes) t)
        by (inl h) = inl (h.0.0, no_entries k.entries _ (k.steps + 1) h.0.1)
        by (inr (may, comes, inl h)) = inl (h.0, no_entries k.entries _ (k.steps + 1) h.1)
        by (inr (may, comes, inr g)) = inr (record { session = n; xid = xid; by = inl (now, bytes, b, refl, call_read k n bytes xid b read, may); new = g.new; journal_is = g.journal_is; entries_is = ap (λ c. k.entries ++ replicate c (k.steps + 1)) g.count; sessions = g.sessions })
    journal true (message.Unfit xid why) read = inl (refl, append-nil k.entries)
    journal true (message.Answer xid b) read = inl (refl, append-nil k.entries)
    journal true (message.Refuse xid why) read = inl (refl, append-nil k.entries)
    journal false m read = inl (refl, append-nil k.entries)

    came : (b : Bool) (m : Message) → parse_of (server_waits k n) bytes ≡ Ok m → (i : ℕ) (c : FileChange) → slice_get (got_if k.server b n m now).0.waiting i ≡ Some c → ((j : ℕ) × (slice_get k.server.waiting j ≡ Some c)) ⊎ ((t : ℕ) × (z : List ℕ) × (b : Body) × (Serves n now bytes ≡ Serves c.session t z) × (parse_of server_waiting z ≡ Ok (message.Call c.xid b)) × MayEnter b)
    came true (message.Call xid b) read i c there = by (body_grows (at k.server now) n xid b)
      where
        new : (d : FileChange) → d.session ≡ n → d.xid ≡ xid → MayEnter b → c ≡ d → (t : ℕ) × (z : List ℕ) × (b : Body) × (Serves n now bytes ≡ Serves c.session t z) × (parse_of server_waiting z ≡ Ok (message.Call c.xid b)) × MayEnter b
        new d session number may same = (now, bytes, b, ap (λ i. Serves i now bytes) (sym session ∙ ap (λ (z : FileChange). z.session) (sym same)), call_read k n bytes xid b read ∙ ap (λ i. Ok (message.Call i b)) (sym number ∙ ap (λ (z : FileChange). z.xid) (sym same)), may)

        by : CallGrows n xid b (at k.server now) (called (at k.server now) n xid b) → ((j : ℕ) × (slice_get k.server.waiting j ≡ Some c)) ⊎ ((t : ℕ) × (z : List ℕ) × (b : Body) × (Serves n now bytes ≡ Serves c.session t z) × (parse_of server_waiting z ≡ Ok (message.Call c.xid b)) × MayEnter b)
        by (inl h) = inl (i, ap (λ (l : List FileChange). slice_get l i) (sym h.1) ∙ there)
        by (inr (may, inl same, grows)) = inl (i, ap (λ (l : List FileChange). slice_get l i) (sym same) ∙ there)
        by (inr (may, inr (d, session, number, is), grows)) = elim (of_appended k.server.waiting d i c (ap (λ (l : List FileChange). slice_get l i) (sym is) ∙ there)) [
          | inl last ↦ inr (new d session number may last.1)
          | inr old ↦ inl (i, old)
        ]
    came true (message.Unfit xid why) read i c there = inl (i, there)
    came true (message.Answer xid b) read i c there = inl (i, there)
    came true (message.Refuse xid why) read i c there = inl (i, there)
    came false m read i c there = inl (i, there)

pub settled_grows : (k : Core) (now : ℕ) → Grows k (Settles now) (Rattle.trace_ends.specs.Core.settles k now)
settled_grows k now = by (ready_by k.server now) refl
  where
    by : (next : Option FileChange) → ready_by k.server now ≡ next → Grows k (Settles now) (Rattle.trace_ends.specs.Core.settles k now)
    by None none = record { journal = inl (ap (λ (next : Option FileChange). (settles_by k.server false now next).0.journal) none, ap (λ (next : Option FileChange). k.entries ++ replicate (settles_by k.server false now next).1.entries (k.steps + 1)) none ∙ append-nil k.entries); came = same_waits k (Settles now) (Rattle.trace_ends.specs.Core.settles k now) (ap (λ (next : Option FileChange). (settles_by k.server false now next).0.waiting) none) }
    by (Some c) is =
        let s : server.State = at (record k.server { waiting = without k.server.waiting c.session }) now in
        let g = change_grows s c c.what in
        record {
          journal = inr (record {
            session = c.session;
            xid = c.xid;
            by = inr (now, c, refl, is, refl, refl);
            new = g.new;
            journal_is = ap (λ (next : Option FileChange). (settles_by k.server false now next).0.journal) is ∙ g.journal_is;
            entries_is = ap (λ (next : Option FileChange). k.entries ++ replicate (settles_by k.server false now next).1.entries (k.steps + 1)) is ∙ ap (λ m. k.entries ++ replicate m (k.steps + 1)) g.count;
            sessions = g.sessions;
          });
          came = λ i d there. inl (left_there c.session k.server.waiting i d (ap (λ (l : List FileChange). slice_get l i) (sym (ap (λ (next : Option FileChange). (settles_by k.server false now next).0.waiting) is ∙ change_waits s c c.what)) ∙ there)).0;
        }

pub settled_at : (i j : ℕ) → Settles i ≡ Settles j → i ≡ j
settled_at i j e = cc

pub event_grows : (k : Core) (e : Event) → Grows k e (happens k e)
event_grows k e = what_happens k e (Grows k e) (record {
  nothing = still k e _ refl refl refl;
  idle = still k e _ refl refl refl;
  joins = λ c seat is. still k e _ refl refl refl;
  refuses = λ c seat is. still k e _ refl refl refl;
  does = λ c now d seat is. still k e _ refl refl refl;
  takes = λ n now bytes x m is there unhung read. subst (λ (w : Event). Grows k w (Rattle.trace_ends.specs.Core.server_got k n now x m)) (sym is) (taken_grows k n now bytes x m read);
  hears = λ n now bytes owner seat is. still k e _ refl refl refl;
  settles = λ now is. subst (λ (w : Event). Grows k w (Rattle.trace_ends.specs.Core.settles k now)) (sym is) (settled_grows k now);
  cuts = λ c seat is. still k e _ refl refl refl;
  hangs = λ n x is there unhung. gone n x (stands k.server n);
  closes = λ n now bytes x is there unhung. gone n x (stands k.server n);
  raw_joins = λ is. still k e _ refl refl refl;
  raw_refuses = λ is. still k e _ refl refl refl;
})
  where
    gone : (n : ℕ) (x : Session) (b : Bool) → (let r = Rattle.server_core.specs.Step.hangs_if k.server b n in Grows k e (record (Rattle.trace_ends.specs.Core.hangs_if k n x false) { core = record (Rattle.trace_ends.specs.Core.hangs_if k n x false).core { server = r.0 } }))
    gone n x true = record { journal = inl (refl, refl); came = λ i c there. inl (left_there n k.server.waiting i c there).0 }
    gone n x false = still k e _ refl refl refl

-- ---- what is carried

-- each change that waits came by a call that was taken, and so did the entries of each moment
-- a session of this number is a client's
abbrev pub IsOwned : Core → (n : ℕ) → Type 0
IsOwned k n = (x : Session) × (numbered k.sessions n ≡ Some x) × (is_raw x ≡ false)

pub record AllEntered (all past : List Moment) (opening : List Opening) (k : Core) (qs : List Queue) : Type 0 where
  pub called : UpsSent past k.steps qs
  pub waiting : (i : ℕ) (c : FileChange) → slice_get k.server.waiting i ≡ Some c → IsOwned k c.session → TakesEntering past c.session c.xid
  pub each : (m : Moment) → Contains past m → ((happens m.before m.event).core.server.journal ≡ m.before.server.journal) ⊎ (GrowsRaw (book_at opening k past) m ⊎ GrowsBy (book_at opening k past) m)

abbrev pub entering_later : (past : List Moment) (m : Moment) (session xid : ℕ) → TakesEntering past session xid → TakesEntering (past ++ m ∷ []) session xid
entering_later past m session xid t = record {
  call = t.call;
  may = t.may;
  taken = t.taken;
  there = Contains-append_left past (m ∷ []) t.taken t.there;
  now = t.now;
  bytes = t.bytes;
  event_is = t.event_is;
  parsed = t.parsed;
  sent = record { moment = t.sent.moment; there = Contains-append_left past (m ∷ []) t.sent.moment t.sent.there; before = t.sent.before; on = t.sent.on; sent = t.sent.sent };
}

-- a call that is taken had been sent
taken_sent : FitLaws → (all past : List Moment) (opening : List Opening) (k : Core) (qs mid : List Queue) (n now : ℕ) (bytes : List ℕ) (xid : ℕ) (b : Body) → IsKept (book_at opening k all) k qs → FindsAsk qs n bytes mid → UpsSent past k.steps qs → parse_of server_waiting bytes ≡ Ok (message.Call xid b) → MayEnter b
    → (t : TakesEntering (past ++ moment k (Serves n now bytes) ∷ []) n xid) × (step_of t.taken ≡ k.steps + 1)
taken_sent fits all past opening k qs mid n now bytes xid b kept f sent read may = (
  record {
    call = b;
    may = may;
    taken = moment k (Serves n now bytes);
    there = Contains-append_right past (moment k (Serves n now bytes) ∷ []) (moment k (Serves n now bytes)) (Contains-push [] (moment k (Serves n now bytes)));
    now = now;
    bytes = bytes;
    event_is = refl;
    parsed = read;
    sent = record {
      moment = was.moment;
      there = Contains-append_left past (moment k (Serves n now bytes) ∷ []) was.moment was.there;
      before = (let le = was.by in omega (arith, le));
      on = was.session;
      sent = subst (λ (m : Message). Contains (happens was.moment.before was.moment.event).up m) call was.sent;
    };
  },
  refl,
)
  where
    was : WasCalled past k.steps n f.1
    was = (subst (AllAsks (WasCalled past k.steps n)) f.4 (sent n f.0 f.3)).0

    same_read : (r : Result Message WireFault) (p q : Message) → r ≡ Ok p → r ≡ Ok q → p ≡ q
    same_read r p q a b = cc

    call : ask_message f.1 ≡ message.Call xid b
    call =
        let x = also_numbered qs k.sessions n f.0 (sym kept.made.1) f.3 in
        let fit = (subst (AllAsks (λ u. CallFits u.lbfs u.xid u.call)) f.4 (kept.sessions n x.0 f.0 x.1 f.3 (owned_up kept n x.0 f.0 x.1 f.3 f.1 f.2 f.4)).ups_fit).0 in
        same_read (parse_of server_waiting bytes) (ask_message f.1) (message.Call xid b) (ap (parse_of server_waiting) f.5 ∙ parsed fits f.1 fit) read

-- the call of what an event makes
pub takes_for : FitLaws → (all past rest : List Moment) (opening : List Opening) (k : Core) (qs : List Queue) (e : Event) (mid after : List Queue) → Step all past rest opening k qs e mid after → AllEntered all past opening k qs → (n xid : ℕ) → IsOwned k n → ByEvent k e n xid
    → (t : TakesEntering (past ++ moment k e ∷ []) n xid) × ComesTo (moment k e) n xid (step_of t.taken)
takes_for fits all past rest opening k qs (Serves m at_ z) mid after s h n xid owned (inl (now, bytes, b, is, read, may)) =
    subst (λ i. (t : TakesEntering (past ++ moment k (Serves m at_ z) ∷ []) i xid) × ComesTo (moment k (Serves m at_ z)) i xid (step_of t.taken)) (session_is m n at_ now z bytes is)
    (let w = taken_sent fits all past opening k qs mid m at_ z xid b s.kept (asked_only fits k qs m at_ z mid s.finds (λ x at. ap is_raw (some_is x owned.0 (sym at ∙ ap (numbered k.sessions) (session_is m n at_ now z bytes is) ∙ owned.1)) ∙ owned.2) xid b reads) h.called reads may in (w.0, inl (sym w.1)))
  where
    session_is : (n m i j : ℕ) (a b : List ℕ) → Serves n i a ≡ Serves m j b → n ≡ m
    session_is n m i j a b e = cc

    bytes_are : (n m i j : ℕ) (a b : List ℕ) → Serves n i a ≡ Serves m j b → a ≡ b
    bytes_are n m i j a b e = cc

    reads : parse_of server_waiting z ≡ Ok (message.Call xid b)
    reads = ap (parse_of server_waiting) (bytes_are m n at_ now z bytes is) ∙ read
takes_for fits all past rest opening k qs (Settles at_) mid after s h n xid owned (inr (now, c, is, first, session, number)) =
    let z = ready_waits k.server now c first in
    let t = entering_later past (moment k (Settles at_)) c.session c.xid (h.waiting z.0 c z.1 (owned.0, ap (numbered k.sessions) session ∙ owned.1, owned.2)) in
    subst (λ i. (t : TakesEntering (past ++ moment k (Settles at_) ∷ []) i xid) × ComesTo (moment k (Settles at_)) i xid (step_of t.taken)) session
    (subst (λ i. (t : TakesEntering (past ++ moment k (Settles at_) ∷ []) c.session i) × ComesTo (moment k (Settles at_)) c.session i (step_of t.taken)) number
    (t, inr (record { now = at_; event_is = refl; change = c; ready = ap (λ (m : ℕ). ready_by k.server m) (settled_at at_ now is) ∙ first; session_is = refl; xid_is = refl })))
takes_for fits all past rest opening k qs e mid after s h n xid owned (inl (now, bytes, b, is, read, may)) = unserved e is (λ n now bytes z. absurd cc)
  where
    unserved : {A : Type 0} (e : Event) {n now : ℕ} {bytes : List ℕ} → e ≡ Serves n now bytes → ((n now : ℕ) (bytes : List ℕ) → e ≡ Serves n now bytes → A) → A
    unserved e is other = other _ _ _ is
takes_for fits all past rest opening k qs e mid after s h n xid owned (inr (now, c, is, first, session, number)) = unsettled e is (λ now z. absurd cc)
  where
    unsettled : {A : Type 0} (e : Event) {now : ℕ} → e ≡ Settles now → ((now : ℕ) → e ≡ Settles now → A) → A
    unsettled e is other = other _ is

at_front : (n y i : ℕ) → i < n → slice_get (replicate n y) i ≡ Some y
at_front zero y i lt = absurd (omega (arith, lt))
at_front (suc n) y zero lt = refl
at_front (suc n) y (suc i) lt = at_front n y i (omega (arith, lt))

pub at_new : (xs : List ℕ) (n y i : ℕ) → i < n → slice_get (xs ++ replicate n y) (length xs + i) ≡ Some y
at_new [] n y i lt = let same : 0 + i ≡ i = omega arith in ap (slice_get (replicate n y)) same ∙ at_front n y i lt
at_new (x ∷ xs) n y i lt = let same : suc (length xs) + i ≡ suc (length xs + i) = omega arith in ap (slice_get (x ∷ (xs ++ replicate n y))) same ∙ at_new xs n y i lt

pub entries_later : (k : Core) (e : Event) (i p : ℕ) → slice_get k.entries i ≡ Some p → slice_get (happens k e).core.entries i ≡ Some p
entries_later k e i p at_ = elim (event_grows k e).journal [
  | inl same ↦ ap (λ (l : List ℕ). slice_get l i) same.1 ∙ at_
  | inr grew ↦ ap (λ (l : List ℕ). slice_get l i) grew.entries_is ∙ in_front k.entries (replicate (length grew.new) (k.steps + 1)) i p at_
]

-- it stays so
abbrev pub grown_later : (past : List Moment) (opening : List Opening) (k : Core) (e : Event) (m : Moment) → GrowsBy (book_at opening k past) m → GrowsBy (book_at opening (happens k e).core (past ++ moment k e ∷ [])) m
grown_later past opening k e m w = record {
  session = w.session;
  xid = w.xid;
  takes = entering_later past (moment k e) w.session w.xid w.takes;
  comes = w.comes;
  new = w.new;
  journal_is = w.journal_is;
  steps = λ i lt. entries_later k e (length m.before.server.journal + i) (step_of m) (w.steps i lt);
  sessions = w.sessions;
}

-- the new entries have this step
pub new_steps : (all : List Moment) (opening : List Opening) (k : Core) (qs : List Queue) (e : Event) → IsKept (book_at opening k all) k qs → (grew : GrewBy k e (happens k e)) → (i : ℕ) → i < length grew.new → slice_get (happens k e).core.entries (length k.server.journal + i) ≡ Some (k.steps + 1)
new_steps all opening k qs e kept grew i lt = ap (λ (l : List ℕ). slice_get l (length k.server.journal + i)) grew.entries_is ∙ ap (λ c. slice_get (k.entries ++ replicate (length grew.new) (k.steps + 1)) (c + i)) (sym kept.sound.journal.count) ∙ at_new k.entries (length grew.new) (k.steps + 1) i lt

-- of a session that is no client's
raw_grown_later : (past : List Moment) (opening : List Opening) (k : Core) (e : Event) (m : Moment) → GrowsRaw (book_at opening k past) m → GrowsRaw (book_at opening (happens k e).core (past ++ moment k e ∷ [])) m
raw_grown_later past opening k e m w = record {
  session = w.session;
  on = w.on;
  on_is = w.on_is;
  raw = w.raw;
  own = w.own;
  new = w.new;
  journal_is = w.journal_is;
  steps = λ i lt. entries_later k e (length m.before.server.journal + i) (step_of m) (w.steps i lt);
  sessions = w.sessions;
}

raw_grown_now : (all past : List Moment) (opening : List Opening) (k : Core) (qs : List Queue) (e : Event) → IsKept (book_at opening k all) k qs → (grew : GrewBy k e (happens k e)) → (x : Session) → numbered k.sessions grew.session ≡ Some x → is_raw x ≡ true → GrowsRaw (book_at opening (happens k e).core (past ++ moment k e ∷ [])) (moment k e)
raw_grown_now all past opening k qs e kept grew x at raw = record {
  session = grew.session;
  on = x;
  on_is = at;
  raw = raw;
  own = own grew.by;
  new = grew.new;
  journal_is = grew.journal_is;
  steps = λ i lt. new_steps all opening k qs e kept grew i lt;
  sessions = grew.sessions;
}
  where
    own : ByEvent k e grew.session grew.xid → IsOwnCall (moment k e) grew.session
    own (inl (now, bytes, b, is, read, may)) = inl (now, grew.xid, bytes, b, is, read, may)
    own (inr (now, c, is, first, session, number)) = inr (now, c, is, first, session)

-- and is so now
abbrev pub grown_now : (fits : FitLaws) (all past rest : List Moment) (opening : List Opening) (k : Core) (qs : List Queue) (e : Event) (mid after : List Queue) → Step all past rest opening k qs e mid after → AllEntered all past opening k qs → (grew : GrewBy k e (happens k e)) → IsOwned k grew.session → GrowsBy (book_at opening (happens k e).core (past ++ moment k e ∷ [])) (moment k e)
grown_now fits all past rest opening k qs e mid after s h grew owned =
    let t = takes_for fits all past rest opening k qs e mid after s h grew.session grew.xid owned grew.by in
    record {
      session = grew.session;
      xid = grew.xid;
      takes = t.0;
      comes = t.1;
      new = grew.new;
      journal_is = grew.journal_is;
      steps = λ i lt. new_steps all opening k qs e s.kept grew i lt;
      sessions = grew.sessions;
    }

pub entered_event : FitLaws → (all past rest : List Moment) (opening : List Opening) (k : Core) (qs : List Queue) (e : Event) (mid after : List Queue) → Step all past rest opening k qs e mid after → AllEntered all past opening k qs → AllEntered all (past ++ moment k e ∷ []) opening (happens k e).core after
entered_event fits all past rest opening k qs e mid after s h = record {
  called = subst (UpsSent (past ++ moment k e ∷ []) (happens k e).core.steps) (sym s.after_is) (called_after past k qs mid e s.sends s.finds (ops_after_event fits all past rest opening k qs e mid after s).1 h.called);
  waiting = λ i c there owned. elim (g.came i c there) [
    | inl old ↦ (let home = s.kept.home old.0 c old.1 in entering_later past (moment k e) c.session c.xid (h.waiting old.0 c old.1 (home.0, home.1, owned_before k e c.session home.0 owned.0 home.1 owned.1 owned.2)))
    | inr new ↦ (takes_for fits all past rest opening k qs e mid after s h c.session c.xid (let x = on_serving c.session new in (x.0, x.1, owned_before k e c.session x.0 owned.0 x.1 owned.1 owned.2)) (inl new)).0
  ];
  each = λ m there. elim (Contains-push_cases past (moment k e) m there) [
    | inl old ↦ elim (h.each m old) [ inl same ↦ inl same | inr grew ↦ inr (elim grew [ inl raw ↦ inl (raw_grown_later past opening k e m raw) | inr own ↦ inr (grown_later past opening k e m own) ]) ]
    | inr new ↦ subst (λ (z : Moment). ((happens z.before z.event).core.server.journal ≡ z.before.server.journal) ⊎ (GrowsRaw (book_at opening (happens k e).core (past ++ moment k e ∷ [])) z ⊎ GrowsBy (book_at opening (happens k e).core (past ++ moment k e ∷ [])) z)) new (now_by g.journal)
  ];
}
  where
    g : Grows k e (happens k e)
    g = event_grows k e

    on_serving : (n : ℕ) {xid : ℕ} → ((now : ℕ) × (bytes : List ℕ) × (b : Body) × (e ≡ Serves n now bytes) × (parse_of server_waiting bytes ≡ Ok (message.Call xid b)) × MayEnter b) → (x : Session) × (numbered k.sessions n ≡ Some x)
    on_serving n (now, bytes, b, is, read, may) = served_on (book_at opening k all) k qs n now bytes mid s.kept (subst (λ (z : Event). Finds k qs z mid) is s.finds)

    now_by : (((happens k e).core.server.journal ≡ k.server.journal) × ((happens k e).core.entries ≡ k.entries)) ⊎ GrewBy k e (happens k e) → ((happens k e).core.server.journal ≡ k.server.journal) ⊎ (GrowsRaw (book_at opening (happens k e).core (past ++ moment k e ∷ [])) (moment k e) ⊎ GrowsBy (book_at opening (happens k e).core (past ++ moment k e ∷ [])) (moment k e))
    now_by (inl same) = inl same.0
    now_by (inr grew) =
        let x = grew_on grew.by in
        inr (elim (raw_or_owned x.0) [
          | inl raw ↦ inl (raw_grown_now all past opening k qs e s.kept grew x.0 x.1 raw)
          | inr owned ↦ inr (grown_now fits all past rest opening k qs e mid after s h grew (x.0, x.1, owned))
        ])
      where
        -- its session is there
        grew_on : ByEvent k e grew.session grew.xid → (x : Session) × (numbered k.sessions grew.session ≡ Some x)
        grew_on (inl b) = on_serving grew.session b
        grew_on (inr (now, c, is, first, session, number)) = (let w = ready_waits k.server now c first in let home = s.kept.home w.0 c w.1 in (home.0, ap (numbered k.sessions) (sym session) ∙ home.1))

pub carried_entered : FitLaws → Carried AllEntered
carried_entered fits = record {
  first = λ all opening tree count kept. record { called = λ n q at_. none_numbered n q at_; waiting = λ i c there owned. nothing_there c there; each = λ m there. (let lt = there.1 in absurd (omega (arith, lt))) };
  steps = λ all past rest opening k qs e mid after s h. entered_event fits all past rest opening k qs e mid after s h;
  adjusts = λ all past opening k qs index seats same h. record { called = h.called; waiting = h.waiting; each = λ m there. elim (h.each m there) [ inl same ↦ inl same | inr grew ↦ inr (elim grew [ inl w ↦ inl (record { session = w.session; on = w.on; on_is = w.on_is; raw = w.raw; own = w.own; new = w.new; journal_is = w.journal_is; steps = w.steps; sessions = w.sessions }) | inr w ↦ inr (record { session = w.session; xid = w.xid; takes = w.takes; comes = w.comes; new = w.new; journal_is = w.journal_is; steps = w.steps; sessions = w.sessions }) ]) ] };
}
  where
    none_numbered : {B : Type 0} (n : ℕ) (q : Queue) → numbered [] n ≡ Some q → B
    none_numbered zero q at_ = nothing_there q at_
    none_numbered (suc n) q at_ = nothing_there q at_

-- ---- what it makes of the promise

pub journal_grows : (book : Book) (m : Moment) → ((happens m.before m.event).core.server.journal ≡ m.before.server.journal) ⊎ (GrowsRaw book m ⊎ GrowsBy book m) → ((z : Moment) → Contains book.moments z → IsSilent z ⊎ ((k : ℕ) × (o : Op) × (slice_get book.ops k ≡ Some o) × (is_in o (step_of z) (client_of z.before z.event) ≡ true))) → JournalGrows book m
journal_grows book m (inl same) owned = inl same
journal_grows book m (inr (inl g)) owned = inr (inl g)
journal_grows book m (inr (inr g)) owned = (let w = own (owned g.takes.sent.moment g.takes.sent.there) in inr (inr (g, w.0, w.1, w.2, w.3)))
  where
    none_sent : (z : Message) → Contains [] z → ⊥
    none_sent z c = let lt = c.1 in absurd (omega (arith, lt))

    own : IsSilent g.takes.sent.moment ⊎ ((k : ℕ) × (o : Op) × (slice_get book.ops k ≡ Some o) × (is_in o (step_of g.takes.sent.moment) (client_of g.takes.sent.moment.before g.takes.sent.moment.event) ≡ true)) → (k : ℕ) × (o : Op) × (slice_get book.ops k ≡ Some o) × IsStepOf o g.takes.sent.moment
    own (inr has) = has
    own (inl silent) = absurd (none_sent (message.Call g.xid g.takes.call) (subst (λ (l : List Message). Contains l (message.Call g.xid g.takes.call)) silent.2 (call_asked (happens g.takes.sent.moment.before g.takes.sent.moment.event).up g.xid g.takes.call g.takes.sent.sent)))
