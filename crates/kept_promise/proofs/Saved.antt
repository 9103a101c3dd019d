-- What is saved: what the server answers to CONDWRITEs, and what clients take of that; what an open asks first, of an id and of a path; and that an open gets
-- what its client keeps.
use Rattle.std.proofs.Common.{◌⊎◌, inl, inr, ◌≡◌, ℕ, zero, suc, ◌+◌, List, [], ◌∷◌, ◌++◌, Option, Some, None, Result, Ok, Bool, true, false, refl, sym, ap, ◌∙◌, subst, arith, map, IsSome}
use Rattle.hash_calls.specs.declared.call.CondPiece.{CondPiece}
use Rattle.hash_calls.specs.declared.message.Lb.TheVariants as lb
use Rattle.wire.specs.declared.message.Body.TheVariants as body
use Rattle.wire.specs.declared.message.Message.TheVariants as message
use Rattle.xdr_codec.specs.declared.status.Status.TheVariants as status
use Rattle.command_text.specs.declared.command.Command.TheVariants as command
use Rattle.client_cache.specs.Cache.{content_of, reserved}
use Rattle.client_state.specs.State as client
use Rattle.trace_replay.specs.Saving.{name_call, name_told, name_answer, known_at, AnswersName, TakesName, SentBefore, TakesTold, ToldOf, AreTold, AllKnown, found_told, first_call, AsksFirst, AsksFound, AsksVersion}
use Rattle.file_open.specs.Rewriting.{asks_anew as asks_if, renews_kept, rewrites_if, rewrites}
use Rattle.file_open.specs.Caching.{fresh_content}
use Rattle.file_open.specs.Fetching.{opens_kept}
use Rattle.client_state.specs.Noting.{at as at_clock}
use Rattle.file_open.specs.Opening.{lease_call}
use Rattle.trace_replay.specs.Traffic.{unknown_in, unknown_number, deals_if}
use Rattle.kept_promise.proofs.Common.{asked_in, Contains, Contains-append_left, Contains-append_right, Contains-push, Contains-push_cases, not, Answer, Done, Failed, Status, Command, Body, Message, WireFault, parse_of, temp_at, cond_fault, at, got_if, stands, opens, opens_if, asks_file, asks_kept, may_ask, is_open, command_step, Content, Task, Op, Opening, Core, Seat, Session, Event, Event.Does, Event.Serves, Event.Hears, numbered, server_waiting, server_waits, serves_if, serves, does, happens, Moment, step_of, client_of, owner_in, wanted_if, wanted_by, taken_by, given_by, is_in, Deal, Deal.Took, Deal.Found, Deal.Sent, deals_with, deals_in, deals_of, Book, Queue, Ask, Reply, Reply.Named, ask_message, told_message, reply_body, serves_unless, is_raw}
use Rattle.kept_promise.proofs.Lists.{nothing_there}
use Rattle.kept_promise.proofs.Messages.{Job, job, AllAsks, AllTolds}
use Rattle.kept_promise.proofs.Orderly.{Wanted, IsWanted}
use Rattle.kept_promise.proofs.Fits.{FitLaws}
use Rattle.kept_promise.proofs.Facts.{IsKept, IsSession}
use Rattle.kept_promise.proofs.Turns.{also_numbered, has_owner, raw_or_owned, owned_up}
use Rattle.kept_promise.proofs.RunsCarried.{book_at, moment, Finds, FindsAsk, Step, Carried}
use Rattle.kept_promise.proofs.Actors.{Heard, heard_at, heard_takes}
use Rattle.kept_promise.proofs.Replies.{recall_heard, recall_takes}
use Rattle.kept_promise.proofs.CallsAlike.{call_reads}
use Rattle.kept_promise.proofs.OpsAfter.{ops_after_event}
use Rattle.kept_promise.proofs.Statements.{CallFits}
use Rattle.kept_promise.proofs.Serves.{parsed}
use Rattle.kept_promise.proofs.SentDown.{WasSent, DownsSent, sent_after}
use Rattle.kept_promise.proofs.SentUp.{WasCalled, UpsSent, called_after, asked_only}
use Rattle.kept_promise.proofs.FoundAsked.{found_asked}
use Rattle.kept_promise.proofs.NameAnswers.{ComesTo, known_in, names_free, fault_apart, NameTaken, name_taken}
use Rattle.trace_replay.specs.Trail.{can_hang}

-- ---- the server answers a CONDWRITE

answers_by : (k : Core) (n now : ℕ) (bytes : List ℕ) (x : Session) (xid : ℕ) (a : CondPiece) → numbered k.sessions n ≡ Some x → x.hung ≡ false → stands k.server n ≡ true → parse_of (server_waits k n) bytes ≡ Ok (name_call xid a) → cond_fault a (temp_at k.server.temps n a.fd) ≡ None
    → (happens k (Serves n now bytes)).down ≡ record { session = n; message = name_told xid (name_answer (known_in k.server a)) } ∷ []
answers_by k n now bytes x xid a there unhung standing read free =
    ap (λ (o : Option Session). (serves k n now bytes o).down) there
    ∙ ap (λ (b : Bool). (serves_unless k n now bytes x b).down) unhung
    ∙ ap (λ (r : Result Message WireFault). (serves_if k n now x r).down) read
    ∙ ap (λ b. (got_if k.server b n (name_call xid a) now).1.send) standing
    ∙ names_free (at k.server now) n xid a (temp_at k.server.temps n a.fd) free

answers_name : FitLaws → (all : List Moment) (opening : List Opening) (k : Core) (qs mid : List Queue) (e : Event) → IsKept (book_at opening k all) k qs → Finds k qs e mid → AnswersName (moment k e)
answers_name fits all opening k qs mid (Serves n now bytes) kept finds session xid a w =
    let same : n ≡ session = session_is n session now w.now bytes w.bytes w.event_is in
    let x = unhung (numbered k.sessions n) refl (ap (λ (i : ℕ). can_hang (numbered k.sessions i)) same ∙ w.stands) in
    let q = also_numbered k.sessions qs n x.0 kept.made.1 x.1 in
    let stood : stands k.server n ≡ not x.0.hung = elim (raw_or_owned x.0) [ inl raw ↦ (kept.strangers n x.0 q.0 x.1 q.1 raw).stands_is | inr owned ↦ (kept.sessions n x.0 q.0 x.1 q.1 owned).stands_is ] in
    let free : cond_fault a (temp_at k.server.temps n a.fd) ≡ None = ap (λ z. cond_fault a (temp_at k.server.temps z a.fd)) same ∙ w.free in
    answers_by k n now bytes x.0 xid a x.1 x.2 (stood ∙ ap not x.2) (call_reads k n bytes xid (body.Lb (lb.CondWrite a)) reads) free ∙ ap (λ z. record { session = z; message = name_told xid (name_answer (known_in k.server a)) } ∷ []) same
  where
    session_is : (n m i j : ℕ) (a b : List ℕ) → Serves n i a ≡ Serves m j b → n ≡ m
    session_is n m i j a b e = cc

    bytes_are : (n m i j : ℕ) (a b : List ℕ) → Serves n i a ≡ Serves m j b → a ≡ b
    bytes_are n m i j a b e = cc

    reads : parse_of server_waiting bytes ≡ Ok (name_call xid a)
    reads = ap (parse_of server_waiting) (bytes_are n session now w.now bytes w.bytes w.event_is) ∙ w.call_is

    -- the session is there, and the server hasn't lost it
    unhung : (o : Option Session) → numbered k.sessions n ≡ o → can_hang o ≡ true → (x : Session) × (numbered k.sessions n ≡ Some x) × (x.hung ≡ false)
    unhung None at can = absurd cc
    unhung (Some x) at can = (x, at, by x.hung refl can)
      where
        by : (b : Bool) → x.hung ≡ b → not x.hung ≡ true → x.hung ≡ false
        by false e can = e
        by true e can = absurd (not_true (sym (ap not e) ∙ can))
          where
            not_true : false ≡ true → ⊥
            not_true z = absurd cc
answers_name fits all opening k qs mid e kept f session xid a w = unserved e w.event_is (λ n now bytes z. absurd cc)
  where
    unserved : {A : Type 0} (e : Event) {n now : ℕ} {bytes : List ℕ} → e ≡ Serves n now bytes → ((n now : ℕ) (bytes : List ℕ) → e ≡ Serves n now bytes → A) → A
    unserved e is other = other _ _ _ is

-- ---- it had been sent

abbrev AreSent : List Moment → Moment → Type 0
AreSent all m = (session xid : ℕ) (a : CondPiece) → TakesName m session xid a → ((x : Session) → numbered m.before.sessions session ≡ Some x → is_raw x ≡ false) → SentBefore all m session (name_call xid a)

was_sent : FitLaws → (all past rest : List Moment) (opening : List Opening) (k : Core) (qs mid : List Queue) (n now : ℕ) (bytes : List ℕ) → all ≡ past ++ rest → IsKept (book_at opening k all) k qs → Finds k qs (Serves n now bytes) mid → UpsSent past k.steps qs → AreSent all (moment k (Serves n now bytes))
was_sent fits all past rest opening k qs mid n now bytes split kept finds sent session xid a w owned = record {
  moment = was.moment;
  there = subst (λ (l : List Moment). Contains l was.moment) (sym split) (Contains-append_left past rest was.moment was.there);
  before = (let le = was.by in omega (arith, le));
  on = was.session ∙ ap (λ z. Some z) (session_is n session now w.now bytes w.bytes w.event_is);
  sent = subst (λ (m : Message). Contains (happens was.moment.before was.moment.event).up m) call was.sent;
}
  where
    session_is : (n m i j : ℕ) (a b : List ℕ) → Serves n i a ≡ Serves m j b → n ≡ m
    session_is n m i j a b e = cc

    bytes_are : (n m i j : ℕ) (a b : List ℕ) → Serves n i a ≡ Serves m j b → a ≡ b
    bytes_are n m i j a b e = cc

    reads : parse_of server_waiting bytes ≡ Ok (name_call xid a)
    reads = ap (parse_of server_waiting) (bytes_are n session now w.now bytes w.bytes w.event_is) ∙ w.call_is

    f : FindsAsk qs n bytes mid
    f = asked_only fits k qs n now bytes mid finds (λ x at. owned x (ap (numbered k.sessions) (sym (session_is n session now w.now bytes w.bytes w.event_is)) ∙ at)) xid (body.Lb (lb.CondWrite a)) reads

    was : WasCalled past k.steps n f.1
    was = (subst (AllAsks (WasCalled past k.steps n)) f.4 (sent n f.0 f.3)).0

    same_read : (r : Result Message WireFault) (p q : Message) → r ≡ Ok p → r ≡ Ok q → p ≡ q
    same_read r p q a b = cc

    call : ask_message f.1 ≡ name_call xid a
    call =
        let x = also_numbered qs k.sessions n f.0 (sym kept.made.1) f.3 in
        let fit = (subst (AllAsks (λ u. CallFits u.lbfs u.xid u.call)) f.4 (kept.sessions n x.0 f.0 x.1 f.3 (owned_up kept n x.0 f.0 x.1 f.3 f.1 f.2 f.4)).ups_fit).0 in
        same_read (parse_of server_waiting bytes) (ask_message f.1) (name_call xid a) (ap (parse_of server_waiting) f.5 ∙ parsed fits f.1 fit) (ap (parse_of server_waiting) (bytes_are n session now w.now bytes w.bytes w.event_is) ∙ w.call_is)

not_served : (all : List Moment) (k : Core) (e : Event) → ((n i : ℕ) (b : List ℕ) → e ≡ Serves n i b → ⊥) → AreSent all (moment k e)
not_served all k e other session xid a w owned = absurd (other session w.now w.bytes w.event_is)

-- ---- a client is told

-- an answer that is waited for says that the chunk is known, or not
named_so : (book : Book) (o : Option Job) (x : ℕ) (p : Reply) (r : Answer Unit Unit) → reply_body p ≡ body.Lb (lb.CondWriteAnswer r) → Wanted book o x p → (r ≡ Done tt) ⊎ (r ≡ Failed status.HashNotFound tt)
named_so book o x (Named a) r e w = by a r e w.1
  where
    by : (a r : Answer Unit Unit) → body.Lb (lb.CondWriteAnswer a) ≡ body.Lb (lb.CondWriteAnswer r) → (a ≡ Done tt) ⊎ (a ≡ Failed status.HashNotFound tt) → (r ≡ Done tt) ⊎ (r ≡ Failed status.HashNotFound tt)
    by a r e (inl done) = inl (let same : r ≡ a = cc in same ∙ done)
    by a r e (inr failed) = inr (let same : r ≡ a = cc in same ∙ failed)
named_so book o x p r e w = absurd cc

are_told : FitLaws → (all past rest : List Moment) (opening : List Opening) (k : Core) (qs mid : List Queue) (n now : ℕ) (bytes : List ℕ) → all ≡ past ++ rest → IsKept (book_at opening k all) k qs → Heard k qs n now bytes mid → DownsSent past k.steps k.sessions qs → ((m : Moment) → Contains past m → AreSent all m) → AreTold all (moment k (Hears n now bytes))
are_told fits all past rest opening k qs mid n now bytes split kept h sent asked session xid r (i, b, event, there) =
    subst (λ z. ToldOf all (moment k (Hears n now bytes)) z xid r) (session_is n session now i bytes b event)
    (by (client.has_call (client.pending h.seat.client.task) h.told.xid) (subst (λ (ms : List Message). Contains ms (name_told xid r)) taken there))
  where
    session_is : (n m i j : ℕ) (a b : List ℕ) → Hears n i a ≡ Hears m j b → n ≡ m
    session_is n m i j a b e = cc

    taken : taken_by k (owner_in (numbered k.sessions n)) (Hears n now bytes) ≡ wanted_by h.seat.client (Ok (told_message h.told))
    taken = ap (λ z. taken_by k (owner_in z) (Hears n now bytes)) h.at ∙ heard_takes fits (book_at opening k all) k qs n now bytes mid kept h

    was : WasSent past k.steps k.sessions n h.told
    was = (subst (AllTolds (WasSent past k.steps k.sessions n)) h.first (sent n h.queue h.queue_is)).0

    s : IsSession (book_at opening k all) k.seats k.server n h.session h.queue
    s = kept.sessions n h.session h.queue h.at h.queue_is (has_owner k.seats h.session h.seat h.owner)

    wanted : IsWanted (book_at opening k all) (job s.seat) h.told
    wanted = (subst (AllTolds (IsWanted (book_at opening k all) (job s.seat))) h.first (s.orderly h.uncut).tolds).0

    body_is : (a c : ℕ) (p q : Body) → message.Answer a p ≡ message.Answer c q → p ≡ q
    body_is a c p q e = cc

    failed_is : {A : Type 0} (r : Answer Unit Unit) (e : Status) → r ≡ Done tt → r ≡ Failed e tt → A
    failed_is r e p q = absurd cc

    same_status : (r : Answer Unit Unit) (e : Status) → r ≡ Failed e tt → r ≡ Failed status.HashNotFound tt → e ≡ status.HashNotFound
    same_status r e p q = cc

    told_of : (w : NameTaken was.moment.before was.moment.event n xid r) → (r ≡ Done tt) ⊎ (r ≡ Failed status.HashNotFound tt) → ComesTo was.moment.before.server w.piece (temp_at was.moment.before.server.temps n w.piece.fd) r → ToldOf all (moment k (Hears n now bytes)) n xid r
    told_of w so (inr (free, is)) = record {
      moment = was.moment;
      there = subst (λ (l : List Moment). Contains l was.moment) (sym split) (Contains-append_left past rest was.moment was.there);
      before = (let le = was.by in omega (arith, le));
      piece = w.piece;
      asked = asked was.moment was.there n xid w.piece (takes free) (λ x at. was.owned x h.session at h.at (has_owner k.seats h.session h.seat h.owner));
      taken = takes free;
      answer_is = is;
    }
      where
        takes : cond_fault w.piece (temp_at was.moment.before.server.temps n w.piece.fd) ≡ None → TakesName was.moment n xid w.piece
        takes free = record { stands = w.stands; now = w.now; bytes = w.bytes; event_is = w.event_is; call_is = w.call_is; free = free }
    told_of w (inl done) (inl (e, fault, failed)) = failed_is r e done failed
    told_of w (inr unknown) (inl (e, fault, failed)) = absurd (fault_apart w.piece (temp_at was.moment.before.server.temps n w.piece.fd) (fault ∙ ap (λ z. Some z) (same_status r e failed unknown)))

    by : (b : Bool) → Contains (wanted_if b (told_message h.told)) (name_told xid r) → ToldOf all (moment k (Hears n now bytes)) n xid r
    by false c = (let lt = c.1 in absurd (omega (arith, lt)))
    by true c = elim (Contains-push_cases [] (told_message h.told) (name_told xid r) c) [
      | inl none ↦ (let lt = none.1 in absurd (omega (arith, lt)))
      | inr same ↦
          let w = (name_taken was.moment.before was.moment.event).taken n xid r (subst (λ (m : Message). Contains (happens was.moment.before was.moment.event).down (record { session = n; message = m })) same was.sent) in
          told_of w (named_so (book_at opening k all) (job s.seat) h.told.xid h.told.reply r (body_is h.told.xid xid (reply_body h.told.reply) (body.Lb (lb.CondWriteAnswer r)) same) wanted) w.comes
    ]

-- ---- a client is told to open a file

opens_first : (s : client.State) (file : ℕ) → ((opens s file s.task).1.send ≡ []) ⊎ ((xid : ℕ) × ((opens s file s.task).1.send ≡ first_call s.lbfs xid file (content_of s.cache file) ∷ []))
opens_first s file = by s.task
  where
    kept : (o : Option Content) → ((xid : ℕ) × ((asks_kept (record s { cache = reserved s.cache file }) file o).1.send ≡ first_call s.lbfs xid file o ∷ []))
    kept None = (s.next_xid, refl)
    kept (Some c) = (s.next_xid, refl)

    asks : (b : Bool) → ((asks_file s file b).1.send ≡ []) ⊎ ((xid : ℕ) × ((asks_file s file b).1.send ≡ first_call s.lbfs xid file (content_of s.cache file) ∷ []))
    asks false = inl refl
    asks true = inr (kept (content_of s.cache file))

    fresh : (o : Option Content) → ((opens_kept s file o).1.send ≡ []) ⊎ ((xid : ℕ) × ((opens_kept s file o).1.send ≡ first_call s.lbfs xid file (content_of s.cache file) ∷ []))
    fresh None = asks (may_ask s)
    fresh (Some c) = inl refl

    shut : (b : Bool) → ((opens_if s file b).1.send ≡ []) ⊎ ((xid : ℕ) × ((opens_if s file b).1.send ≡ first_call s.lbfs xid file (content_of s.cache file) ∷ []))
    shut true = inl refl
    shut false = fresh (fresh_content s.cache file s.clock)

    by : (t : Option Task) → ((opens s file t).1.send ≡ []) ⊎ ((xid : ℕ) × ((opens s file t).1.send ≡ first_call s.lbfs xid file (content_of s.cache file) ∷ []))
    by (Some t) = inl refl
    by None = shut (is_open s.opened file)

asks_first : (s : client.State) (file now : ℕ) → ((command_step s (command.Open file) now).1.send ≡ []) ⊎ ((xid : ℕ) × ((command_step s (command.Open file) now).1.send ≡ first_call s.lbfs xid file (content_of s.cache file) ∷ []))
asks_first s file now = opens_first (at_clock s now) file

-- each client speaks the version of its run
abbrev AllSpeak : Core → Type 0
AllSpeak k = (i : ℕ) (seat : Seat) → numbered k.seats i ≡ Some seat → seat.client.lbfs ≡ k.lbfs

first_asked : (k : Core) (c now : ℕ) (d : Command) → AllSpeak k → AsksFirst (moment k (Does c now d))
first_asked k c now d speak client then file seat event here =
    let c_is : c ≡ client = client_is c client now then d (command.Open file) event in
    let d_is : d ≡ command.Open file = command_is c client now then d (command.Open file) event in
    let up : (happens k (Does c now d)).up ≡ (command_step seat.client (command.Open file) now).1.send = ap (λ (o : Option Seat). (does k c now d o).up) (ap (numbered k.seats) c_is ∙ here) ∙ ap (λ z. (command_step seat.client z now).1.send) d_is in
    elim (asks_first seat.client file now) [ inl none ↦ inl (up ∙ none) | inr asks ↦ inr (asks.0, up ∙ asks.1 ∙ ap (λ (v : ℕ). first_call v asks.0 file (content_of seat.client.cache file) ∷ []) (speak client seat here)) ]
  where
    client_is : (a b i j : ℕ) (p q : Command) → Does a i p ≡ Does b j q → a ≡ b
    client_is a b i j p q e = cc

    command_is : (a b i j : ℕ) (p q : Command) → Does a i p ≡ Does b j q → p ≡ q
    command_is a b i j p q e = cc

-- ---- a client is told to write a file anew

rewrites_first : (s : client.State) (file : ℕ) → ((rewrites s file s.task).1.send ≡ []) ⊎ ((xid : ℕ) × ((rewrites s file s.task).1.send ≡ lease_call s.lbfs xid file ∷ []))
rewrites_first s file = by s.task
  where
    asks : (b : Bool) → ((asks_if s file b).1.send ≡ []) ⊎ ((xid : ℕ) × ((asks_if s file b).1.send ≡ lease_call s.lbfs xid file ∷ []))
    asks false = inl refl
    asks true = inr (s.next_xid, refl)

    fresh : (o : Option Content) → ((renews_kept s file o).1.send ≡ []) ⊎ ((xid : ℕ) × ((renews_kept s file o).1.send ≡ lease_call s.lbfs xid file ∷ []))
    fresh None = asks (may_ask s)
    fresh (Some c) = inl refl

    shut : (b : Bool) → ((rewrites_if s file b).1.send ≡ []) ⊎ ((xid : ℕ) × ((rewrites_if s file b).1.send ≡ lease_call s.lbfs xid file ∷ []))
    shut true = inl refl
    shut false = fresh (fresh_content s.cache file s.clock)

    by : (t : Option Task) → ((rewrites s file t).1.send ≡ []) ⊎ ((xid : ℕ) × ((rewrites s file t).1.send ≡ lease_call s.lbfs xid file ∷ []))
    by (Some t) = inl refl
    by None = shut (is_open s.opened file)

asks_anew : (s : client.State) (file now : ℕ) → ((command_step s (command.Rewrite file) now).1.send ≡ []) ⊎ ((xid : ℕ) × ((command_step s (command.Rewrite file) now).1.send ≡ lease_call s.lbfs xid file ∷ []))
asks_anew s file now = rewrites_first (at_clock s now) file

asks_version : (m : Moment) → AllSpeak m.before → AsksVersion m
asks_version m speak client now file seat event here =
    let up : (happens m.before m.event).up ≡ (command_step seat.client (command.Rewrite file) now).1.send = ap (λ (e : Event). (happens m.before e).up) event ∙ ap (λ (o : Option Seat). (does m.before client now (command.Rewrite file) o).up) here in
    elim (asks_anew seat.client file now) [ inl none ↦ inl (up ∙ none) | inr asks ↦ inr (asks.0, up ∙ asks.1 ∙ ap (λ (v : ℕ). lease_call v asks.0 file ∷ []) (speak client seat here)) ]

-- ---- a moment

-- what is so of each
abbrev Saves : List Moment → Moment → Type 0
Saves all m = AnswersName m × AreTold all m × AsksFirst m × AsksFound m × AreSent all m × AsksVersion m

not_heard : (all : List Moment) (k : Core) (e : Event) → ((n i : ℕ) (b : List ℕ) → e ≡ Hears n i b → ⊥) → AreTold all (moment k e)
not_heard all k e other session xid r (i, b, is, there) = absurd (other session i b is)

-- by a RECALL nothing is told
recall_untold : (all : List Moment) (k : Core) (n now : ℕ) (bytes : List ℕ) → taken_by k (client_of k (Hears n now bytes)) (Hears n now bytes) ≡ [] → AreTold all (moment k (Hears n now bytes))
recall_untold all k n now bytes none session xid r (i, b, is, there) = (let lt = (subst (λ (ms : List Message). Contains ms (name_told xid r)) none there).1 in absurd (omega (arith, lt)))

not_done : (k : Core) (e : Event) → ((c i : ℕ) (d : Command) → e ≡ Does c i d → ⊥) → AsksFirst (moment k e)
not_done k e other client now file seat event here = absurd (other client now (command.Open file) event)

-- nothing is taken then
not_found : (k : Core) (e : Event) → taken_by k (client_of k e) e ≡ [] → AsksFound (moment k e)
not_found k e none xid f seat here there = (let lt = (subst (λ (ms : List Message). Contains ms (found_told xid f)) none there).1 in absurd (omega (arith, lt)))

saves : FitLaws → (all past rest : List Moment) (opening : List Opening) (k : Core) (qs : List Queue) (e : Event) (mid after : List Queue) → Step all past rest opening k qs e mid after → DownsSent past k.steps k.sessions qs → UpsSent past k.steps qs → ((m : Moment) → Contains past m → AreSent all m) → Saves all (moment k e)
saves fits all past rest opening k qs e mid after s sent ups before = (answers_name fits all opening k qs mid e s.kept s.finds, told e s, asked e, found e s, called e s, asks_version (moment k e) speak)
  where
    speak : AllSpeak k
    speak = λ i seat at. (s.kept.seats i seat at).speaks

    told : (e : Event) → Step all past rest opening k qs e mid after → AreTold all (moment k e)
    told (Hears n now bytes) s = by s.finds
      where
        by : Finds k qs (Hears n now bytes) mid → AreTold all (moment k (Hears n now bytes))
        by (inl f) = are_told fits all past (moment k (Hears n now bytes) ∷ rest) opening k qs mid n now bytes s.split s.kept (heard_at (book_at opening k all) k qs n now bytes mid s.kept f) sent before
        by (inr f) = recall_untold all k n now bytes (recall_takes k n now bytes (recall_heard fits (book_at opening k all) k qs n now bytes mid s.kept f))
    told e s = not_heard all k e (λ i j x is. absurd cc)

    asked : (e : Event) → AsksFirst (moment k e)
    asked (Does c now d) = first_asked k c now d speak
    asked e = not_done k e (λ i j x is. absurd cc)

    found : (e : Event) → Step all past rest opening k qs e mid after → AsksFound (moment k e)
    found (Hears n now bytes) s = by s.finds
      where
        by : Finds k qs (Hears n now bytes) mid → AsksFound (moment k (Hears n now bytes))
        by (inl f) = found_asked fits (book_at opening k all) k qs n now bytes mid s.kept (heard_at (book_at opening k all) k qs n now bytes mid s.kept f)
        by (inr f) = not_found k (Hears n now bytes) (recall_takes k n now bytes (recall_heard fits (book_at opening k all) k qs n now bytes mid s.kept f))
    found e s = not_found k e refl

    called : (e : Event) → Step all past rest opening k qs e mid after → AreSent all (moment k e)
    called (Serves n now bytes) s = was_sent fits all past (moment k (Serves n now bytes) ∷ rest) opening k qs mid n now bytes s.split s.kept s.finds ups
    called e s = not_served all k e (λ i j x is. absurd cc)

-- ---- what a run carries

pub record AllSaved (all past : List Moment) (opening : List Opening) (k : Core) (qs : List Queue) : Type 0 where
  pub sent : DownsSent past k.steps k.sessions qs
  pub called : UpsSent past k.steps qs
  pub each : (m : Moment) → Contains past m → Saves all m

pub carried_saved : FitLaws → Carried AllSaved
carried_saved fits = record {
  first = λ all opening tree count kept. record { sent = λ n q at. none_numbered n q at; called = λ n q at. none_numbered n q at; each = λ m there. (let lt = there.1 in absurd (omega (arith, lt))) };
  steps = λ all past rest opening k qs e mid after s h. record {
    sent = subst (DownsSent (past ++ moment k e ∷ []) (happens k e).core.steps (happens k e).core.sessions) (sym s.after_is) (sent_after past k qs mid e s.sends (sym s.kept.made.1) s.finds (ops_after_event fits all past rest opening k qs e mid after s).1 h.sent);
    called = subst (UpsSent (past ++ moment k e ∷ []) (happens k e).core.steps) (sym s.after_is) (called_after past k qs mid e s.sends s.finds (ops_after_event fits all past rest opening k qs e mid after s).1 h.called);
    each = λ m there. elim (Contains-push_cases past (moment k e) m there) [
      | inl old ↦ h.each m old
      | inr new ↦ subst (Saves all) new (saves fits all past rest opening k qs e mid after s h.sent h.called (λ z old. (h.each z old).4))
    ];
  };
  adjusts = λ all past opening k qs index seats same h. record { sent = h.sent; called = h.called; each = h.each };
}
  where
    none_numbered : {B : Type 0} (n : ℕ) (q : Queue) → numbered [] n ≡ Some q → B
    none_numbered zero q at = nothing_there q at
    none_numbered (suc n) q at = nothing_there q at

-- ---- a close whose chunks are all known

unknown_join : (a b : List Deal) → unknown_in (a ++ b) ≡ unknown_in a + unknown_in b
unknown_join [] b = omega arith
unknown_join (d ∷ a) b = let h = unknown_join a b in omega (arith, h)

-- an answer that says that a chunk isn't known was taken, or none was
unknown_taken : (taken : List Message) (found : List (ℕ × ℕ)) (sent : List Message) → (unknown_in (deals_with taken found sent) ≡ 0) ⊎ ((xid : ℕ) × Contains taken (name_told xid (Failed status.HashNotFound tt)))
unknown_taken taken found sent = elim (by taken) [
  | inl none ↦ inl (let a = unknown_join (map Took taken ++ map Found found) (map Sent sent) in let b = unknown_join (map Took taken) (map Found found) in let f = none_found found in let s = none_sent sent in omega (arith, a, b, f, s, none))
  | inr some ↦ inr some
]
  where
    none_sent : (ms : List Message) → unknown_in (map Sent ms) ≡ 0
    none_sent [] = refl
    none_sent (m ∷ ms) = let h = none_sent ms in omega (arith, h)

    none_found : (ps : List (ℕ × ℕ)) → unknown_in (map Found ps) ≡ 0
    none_found [] = refl
    none_found (p ∷ ps) = let h = none_found ps in omega (arith, h)

    first : (m : Message) → (unknown_number (Took m) ≡ 0) ⊎ ((xid : ℕ) × (m ≡ name_told xid (Failed status.HashNotFound tt)))
    first (message.Answer xid (body.Lb (lb.CondWriteAnswer (Failed status.HashNotFound u)))) = inr (xid, refl)
    first m = inl refl

    by : (ms : List Message) → (unknown_in (map Took ms) ≡ 0) ⊎ ((xid : ℕ) × Contains ms (name_told xid (Failed status.HashNotFound tt)))
    by [] = inl refl
    by (m ∷ ms) = elim (first m) [
      | inr (xid, is) ↦ inr (xid, subst (λ z. Contains (z ∷ ms) (name_told xid (Failed status.HashNotFound tt))) (sym is) (Contains-append_left (name_told xid (Failed status.HashNotFound tt) ∷ []) ms (name_told xid (Failed status.HashNotFound tt)) (Contains-push [] (name_told xid (Failed status.HashNotFound tt)))))
      | inl none ↦ elim (by ms) [
        | inl rest ↦ inl (omega (arith, none, rest))
        | inr (xid, there) ↦ inr (xid, Contains-append_right (m ∷ []) ms (name_told xid (Failed status.HashNotFound tt)) there)
      ]
    ]

-- the answers of an operation all said that the chunk is known, or one didn't
abbrev Unknown : Op → Moment → Type 0
Unknown o m = (is_in o (step_of m) (client_of m.before m.event) ≡ true) × ((xid : ℕ) × Contains (taken_by m.before (client_of m.before m.event) m.event) (name_told xid (Failed status.HashNotFound tt)))

unknown_at : (o : Op) (m : Moment) → (unknown_in (deals_in o m) ≡ 0) ⊎ Unknown o m
unknown_at o m = by (is_in o (step_of m) (client_of m.before m.event)) refl
  where
    c : ℕ
    c = client_of m.before m.event

    by : (b : Bool) → is_in o (step_of m) (client_of m.before m.event) ≡ b → (unknown_in (deals_if b (taken_by m.before (client_of m.before m.event) m.event) (given_by m.before (client_of m.before m.event) m.event) (asked_in m)) ≡ 0) ⊎ Unknown o m
    by false is = inl refl
    by true is = elim (unknown_taken (taken_by m.before (client_of m.before m.event) m.event) (given_by m.before (client_of m.before m.event) m.event) (asked_in m)) [
      | inl none ↦ inl none
      | inr some ↦ inr (is, some)
    ]

all_known : (o : Op) (ms : List Moment) → (unknown_in (deals_of o ms) ≡ 0) ⊎ ((m : Moment) × Contains ms m × Unknown o m)
all_known o [] = inl refl
all_known o (m ∷ ms) = elim (unknown_at o m) [
  | inr here ↦ inr (m, Contains-append_left (m ∷ []) ms m (Contains-push [] m), here)
  | inl none ↦ elim (all_known o ms) [
    | inl rest ↦ inl (let join = unknown_join (deals_in o m) (deals_of o ms) in omega (arith, join, none, rest))
    | inr (z, there, is) ↦ inr (z, Contains-append_right (m ∷ []) ms z there, is)
  ]
]

-- it was heard on a session
heard_on : (m : Moment) (xid : ℕ) (r : Answer Unit Unit) → Contains (taken_by m.before (client_of m.before m.event) m.event) (name_told xid r) → (session : ℕ) × TakesTold m session xid r
heard_on m xid r c = by m.event refl c
  where
    none : {A : Type 0} → Contains [] (name_told xid r) → A
    none c = let lt = c.1 in absurd (omega (arith, lt))

    by : (e : Event) → m.event ≡ e → Contains (taken_by m.before (client_of m.before e) e) (name_told xid r) → (session : ℕ) × TakesTold m session xid r
    by (Hears n now bytes) is c = (n, (now, bytes, is, subst (λ z. Contains (taken_by m.before (client_of m.before z) z) (name_told xid r)) (sym is) c))
    by _ is c = none c

-- where the server knew all, it told of none that it isn't known
pub none_unknown : (moments : List Moment) (o : Op) → ((m : Moment) → Contains moments m → AreTold moments m) → AllKnown moments o → unknown_in (deals_of o moments) ≡ 0
none_unknown moments o told known = elim (all_known o moments) [
  | inl none ↦ none
  | inr (m, there, (mine, (xid, taken))) ↦
      let on = heard_on m xid (Failed status.HashNotFound tt) taken in
      let t = told m there on.0 xid (Failed status.HashNotFound tt) on.1 in
      absurd (never (known_at t.moment t.piece) (known t.moment m on.0 xid (Failed status.HashNotFound tt) t.piece t.there there mine on.1 t.taken) t.answer_is)
]
  where
    never : (b : Option (List ℕ)) → IsSome b → Failed status.HashNotFound tt ≡ name_answer b → ⊥
    never None some e = absurd cc
    never (Some bytes) some e = absurd cc
