-- A message is taken at the server: claims go on in a run.
use Rattle.std.proofs.Common.{◌≡◌, ◌⊎◌, inl, inr, ℕ, zero, suc, ◌+◌, ◌<◌, ◌≤◌, List, [], ◌∷◌, length, Some, None, Bool, true, false, refl, sym, ap, ◌∙◌, subst, arith, map}
use Rattle.std.specs.Prelude.{◌==◌, cond}
use Rattle.std.specs.List.{AllByRecursion}
use Rattle.std.proofs.lemmas.Bool.Decides.{nat_tests}
use Rattle.clock_rule.specs.declared.rule.Note.{Note as Noted}
use Rattle.xdr_codec.specs.Handle.{handle_bytes}
use Rattle.xdr_codec.specs.declared.answer.Answer.{Answer}
use Rattle.hash_calls.specs.declared.call.HashRange.{HashRange}
use Rattle.hash_calls.specs.declared.call.Hashes.{Hashes}
use Rattle.hash_calls.specs.declared.call.Leased.{Leased}
use Rattle.hash_calls.specs.declared.message.Lb.TheVariants as lb
use Rattle.wire.specs.declared.message.Body.{Body}
use Rattle.wire.specs.declared.message.Body.TheVariants as body
use Rattle.wire.specs.declared.message.Message.{Message}
use Rattle.wire.specs.declared.message.Message.TheVariants as message
use Rattle.client_state.specs.declared.task.Stage.{Stage}
use Rattle.client_state.specs.declared.task.Stage.TheVariants as stage
use Rattle.client_state.specs.declared.task.Task.{Task}
use Rattle.client_state.specs.declared.noting.Granted.{Granted}
use Rattle.open_close.specs.Step.{lease_in}
use Rattle.server_core.specs.State as server
use Rattle.server_core.specs.State.{stands}
use Rattle.server_core.specs.Step.{server_step, got_if_under, tells_lease, tells_hashes}
use Rattle.server_core.specs.Closing.{at}
use Rattle.server_core.specs.Recalling.{file_in, term_on, grants_on}
use Rattle.server_core.specs.declared.event.Event.TheVariants as event
use Rattle.server_core.specs.declared.event.Sent.{Sent}
use Rattle.server_core.specs.declared.event.ServerStep.{ServerStep}
use Rattle.chunk_index.specs.Index.{Indexed}
use Rattle.chunk_calls.specs.Answers.{node_of, lease_answer, hash_answer}
use Rattle.trace_ends.specs.Core.{server_got}
use Rattle.lease_law.specs.Claims.{Way, IsAmong, IsPromise, answered_by, stored_by}
use Rattle.lease_law.specs.Orderly.{sent_on}
use Rattle.lease_law.proofs.lemmas.Asking.{sent_one}
use Rattle.kept_promise.proofs.Common.{Core, CoreStep, Seat, Session, Event.Serves, happens, numbered, with_numbered, Moment, Opening, Ask, Told, told_message, reply_body, Up, Up.Asks, Up.Replies, up_message, Down, Mix, asks_in, ask_message, reply_message, Call, Call.Lease, Call.Hash, Call.Walks, Call.Read, Call.Make, Call.Name, Call.Send, Call.Commit, call_message, taken_with, end_of, is_raw}
use Rattle.kept_promise.proofs.Lists.{some_is, nothing_there, same_or_not}
use Rattle.kept_promise.proofs.Turns.{Around, numbered_within, around_with}
use Rattle.kept_promise.proofs.Messages.{Job, job, CallOf, IsAsked, IsCommit, AllAsks, lease_xid, hash_offset}
use Rattle.kept_promise.proofs.TreeWalks.{own_handle}
use Rattle.kept_promise.proofs.Leading.{Sends, sent_downs, mixes_after}
use Rattle.kept_promise.proofs.RunsCarried.{MixStep, book_at}
use Rattle.kept_promise.proofs.RecallsKept.{Moves, AreAwaited, moves_awaited, moves_recalls, call_moves, answered_own, answered_other, answered_sends, answered_recalls, step_term}
use Rattle.kept_promise.proofs.Claimed.{Claimed, IsPromised, AllTails, leasing_xid, ups_of, downs_of, way_of}
use Rattle.kept_promise.proofs.ClaimWays.{downs_on, sent_is}
use Rattle.kept_promise.proofs.Statements.{CallFits}
use Rattle.kept_promise.proofs.ClaimFrame.{server_orderly, tails_map}
use Rattle.kept_promise.proofs.ClaimGrants.{lease_grants, IsLeaseless, call_grantless, on_grantless}
use Rattle.kept_promise.proofs.ClaimCalls.{one_tail, none_committed, NotCommitting, job_task, Own, own_session}
use Rattle.kept_promise.proofs.ClaimTold.{lease_promised, hash_promised}
use Rattle.kept_promise.proofs.ClaimServer.{Dropped, awaited_dropped, ServerTurn, At, server_claimed, whole_at}
use Rattle.kept_promise.proofs.ClaimServed.{made_is, pairs_are, finish, none_told, promised_as, still_behind, apart_are}

-- ---- a message is taken off its way

taken_turn : (k : Core) (ms : List Mix) (n now : ℕ) (x : Session) (m : Mix) (u : Up) (us : List Up) → numbered k.sessions n ≡ Some x → numbered ms n ≡ Some m → m.ups ≡ u ∷ us → ServerTurn k ms (with_numbered ms n (record m { ups = us })) (server_got k n now x (up_message u)) (event.Got n (up_message u) now)
taken_turn k ms n now x m u us there is first = record {
  server = refl;
  sends = refl;
  seats = refl;
  drift = refl;
  term = step_term k.server false (event.Got n (up_message u) now);
  quiet = refl;
  count = around.count;
  sessions = λ j y z at to. sessions_ j y z at to (same_or_not j n);
  rest = λ j q r at to. rest_ j q r at to (same_or_not j n);
  own = λ j y q there_ owned at mine. subst (λ (l : List Message). IsAmong (up_message u) l) (sym (ups_first j q at mine)) (inl refl);
}
  where
    taken : Session
    taken = record x { taken = taken_with x.taken (up_message u) (k.steps + 1) }

    around : Around k.sessions (with_numbered k.sessions n taken) n taken
    around = around_with k.sessions n x taken there

    around_mix : Around ms (with_numbered ms n (record m { ups = us })) n (record m { ups = us })
    around_mix = around_with ms n m (record m { ups = us }) is

    ups_first : (j : ℕ) (q : Mix) → numbered ms j ≡ Some q → n ≡ j → ups_of q ≡ up_message u ∷ map up_message us
    ups_first j q at mine = ap ups_of (sym (some_is m q (sym is ∙ ap (numbered ms) mine ∙ at))) ∙ ap (λ (l : List Up). map up_message l) first

    sessions_ : (j : ℕ) (y z : Session) → numbered k.sessions j ≡ Some y → numbered (with_numbered k.sessions n taken) j ≡ Some z → (j ≡ n) ⊎ (j ≡ n → ⊥) → (z.owner ≡ y.owner) × (z.cut ≡ y.cut)
    sessions_ j y z at to (inl mine) =
        let a = some_is x y (sym there ∙ ap (numbered k.sessions) (sym mine) ∙ at) in
        let b = some_is taken z (sym around.there ∙ ap (numbered (with_numbered k.sessions n taken)) (sym mine) ∙ to) in
        (ap (λ (w : Session). w.owner) (sym b) ∙ ap (λ (w : Session). w.owner) a, ap (λ (w : Session). w.cut) (sym b) ∙ ap (λ (w : Session). w.cut) a)
    sessions_ j y z at to (inr other) = let e = some_is y z (sym at ∙ sym (around.others j other) ∙ to) in (ap (λ (w : Session). w.owner) (sym e), ap (λ (w : Session). w.cut) (sym e))

    rest_ : (j : ℕ) (q r : Mix) → numbered ms j ≡ Some q → numbered (with_numbered ms n (record m { ups = us })) j ≡ Some r → (j ≡ n) ⊎ (j ≡ n → ⊥) → (r.downs ≡ q.downs) × Dropped (ups_of q) (ups_of r)
    rest_ j q r at to (inl mine) =
        let got = some_is (record m { ups = us }) r (sym around_mix.there ∙ ap (numbered (with_numbered ms n (record m { ups = us }))) (sym mine) ∙ to) in
        let old = some_is m q (sym is ∙ ap (numbered ms) (sym mine) ∙ at) in
        (ap (λ (z : Mix). z.downs) (sym got) ∙ ap (λ (z : Mix). z.downs) old, inr (inl (up_message u, ups_first j q at (sym mine) ∙ ap (λ (l : List Message). up_message u ∷ l) (ap ups_of got))))
    rest_ j q r at to (inr other) = let e = some_is q r (sym at ∙ sym (around_mix.others j other) ∙ to) in (ap (λ (z : Mix). z.downs) (sym e), inl (ap ups_of e))

-- what is left on a session's way
left_own : (ms : List Mix) (n : ℕ) (m : Mix) (us : List Up) (l : Mix) → numbered ms n ≡ Some m → numbered (with_numbered ms n (record m { ups = us })) n ≡ Some l → ups_of l ≡ map up_message us
left_own ms n m us l is at = ap ups_of (sym (some_is (record m { ups = us }) l (sym (around_with ms n m (record m { ups = us }) is).there ∙ at)))

left_other : (ms : List Mix) (n j : ℕ) (m l q : Mix) (us : List Up) → numbered ms n ≡ Some m → (j ≡ n → ⊥) → numbered ms j ≡ Some q → numbered (with_numbered ms n (record m { ups = us })) j ≡ Some l → ups_of q ≡ ups_of l
left_other ms n j m l q us is apart there at = ap ups_of (some_is q l (sym there ∙ sym ((around_with ms n m (record m { ups = us }) is).others j apart) ∙ at))

-- ---- an answer to a RECALL

pub reply_taken_claimed : {all past rest : List Moment} {opening : List Opening} {k : Core} {ms : List Mix} (n now : ℕ) (bytes : List ℕ) {mid after : List Mix} (s : MixStep all past rest opening k ms (Serves n now bytes) mid after) (clock : ℕ) (noted more : List Noted) → clock ≤ now → ((x : Noted) → IsAmong x noted → IsAmong x more)
    → (x : Session) (m : Mix) (xid : ℕ) (us : List Up) → numbered k.sessions n ≡ Some x → numbered ms n ≡ Some m → is_raw x ≡ false → m.ups ≡ Replies xid ∷ us → mid ≡ with_numbered ms n (record m { ups = us }) → happens k (Serves n now bytes) ≡ server_got k n now x (reply_message xid)
    → Claimed noted clock k ms → Claimed more now (happens k (Serves n now bytes)).core after
reply_taken_claimed {k = k} {ms = ms} n now bytes {mid = mid} {after = after} s clock noted more le grows x m xid us there is owned first mid_is does h =
    finish s more now t does (λ sent. subst (λ (l : List Mix). length (mixes_after l t sent) ≡ length t.core.sessions → Claimed more now t.core (mixes_after l t sent)) (sym mid_is) (go sent))
  where
    t : CoreStep
    t = server_got k n now x (reply_message xid)

    some : 0 < n
    some = by n there
      where
        by : (j : ℕ) → numbered k.sessions j ≡ Some x → 0 < j
        by zero e = nothing_there x e
        by (suc j) e = omega arith

    turn : ServerTurn k ms (with_numbered ms n (record m { ups = us })) t (event.Got n (reply_message xid) now)
    turn = taken_turn k ms n now x m (Replies xid) us there is first

    go : (sent : Sends t) → length (mixes_after (with_numbered ms n (record m { ups = us })) t sent) ≡ length t.core.sessions → Claimed more now t.core (mixes_after (with_numbered ms n (record m { ups = us })) t sent)
    go sent count =
        let talk = h.talks n m is in
        let inside = numbered_within k.sessions n x there in
        let made = made_is s in
        server_claimed k ms (with_numbered ms n (record m { ups = us })) t (event.Got n (reply_message xid) now) turn (made_is s) (pairs_are s) sent count (apart_are s) clock now noted more grows h (le, omega arith) le
        (server_orderly k.server clock now (event.Got n (reply_message xid) now) h.orderly (le, omega arith) le n some (omega (arith, inside, made)) (record { ups = ups_of m; cut = false }) (downs_of m.downs) talk.numbers (turn.own n x m there owned is))
        (answered_recalls k.server n xid now h.recalls)
        (λ j a own. subst (AreAwaited t.core.server j (ups_of a.left)) (sym (still_behind (way_of a.x a.m) (downs_of a.m.downs) j (server_step k.server (event.Got n (reply_message xid) now)).1.send (answered_sends k.server n xid now))) (awaits j a (same_or_not j n)))
        (λ i seat u j a here task mine uncut. none_told more now t.core i j (way_of a.y a.p) seat.client.sent u (downs_on j (sent_downs t sent)) [] (sent_is t sent j (whole_at a uncut) ∙ ap (sent_on j) (answered_sends k.server n xid now)) tt)
      where
        awaits : (j : ℕ) (a : At k ms (with_numbered ms n (record m { ups = us })) t (mixes_after (with_numbered ms n (record m { ups = us })) t sent) j (downs_on j (sent_downs t sent))) → (j ≡ n) ⊎ (j ≡ n → ⊥) → AreAwaited t.core.server j (ups_of a.left) (downs_of a.m.downs)
        awaits j a (inl mine) =
            let old : m ≡ a.m = some_is m a.m (sym is ∙ ap (numbered ms) (sym mine) ∙ a.m_there) in
            let left = left_own ms n m us a.left is (ap (numbered (with_numbered ms n (record m { ups = us }))) (sym mine) ∙ a.left_there) in
            let was = subst (λ (l : List Message). AreAwaited k.server n l (downs_of m.downs)) (ap (λ (l : List Up). map up_message l) first) (h.talks n m is).awaited in
            let now_ = answered_own k.server n xid now (map up_message us) (downs_of m.downs) was in
            subst (λ (l : List Message). AreAwaited t.core.server j l (downs_of a.m.downs)) (sym left)
            (subst (λ (q : Mix). AreAwaited t.core.server j (map up_message us) (downs_of q.downs)) old (subst (λ (z : ℕ). AreAwaited t.core.server z (map up_message us) (downs_of m.downs)) (sym mine) now_))
        awaits j a (inr other) =
            subst (λ (l : List Message). AreAwaited t.core.server j l (downs_of a.m.downs)) (left_other ms n j m a.left a.m us is other a.m_there a.left_there)
            (answered_other k.server n xid now j (ups_of a.m) (downs_of a.m.downs) (λ e. other (sym e)) (h.talks j a.m a.m_there).awaited)

-- ---- a call

body_is : (x y : ℕ) (b c : Body) → message.Answer x b ≡ message.Answer y c → b ≡ c
body_is x y b c e = cc

-- an answer to a GETLEASE is waited for by a GETLEASE
lease_stage : (st : Stage) (a : Answer Leased Unit) (g : Granted) (x : ℕ) → lease_in st (body.Lb (lb.GetLeaseAnswer a)) ≡ Some g → leasing_xid st ≡ Some x → lease_xid st ≡ Some x
lease_stage (stage.Asking y) a g x e is = is
lease_stage (stage.Rewriting y) a g x e is = is
lease_stage (stage.Hashing tries y) a g x e is = nothing_there g e
lease_stage (stage.Listing y f) a g x e is = nothing_there g e
lease_stage (stage.Committing y) a g x e is = nothing_there g e
lease_stage st a g x e is = nothing_there x is

-- and one to a GETHASH by a GETHASH
hash_stage : (st : Stage) (a : Answer Hashes Unit) (g : Granted) (x : ℕ) → lease_in st (body.Lb (lb.GetHashAnswer a)) ≡ Some g → leasing_xid st ≡ Some x → (o : ℕ) × (hash_offset st x ≡ Some o)
hash_stage (stage.Hashing tries y) a g x e is = (0, ap (λ (b : Bool). cond b (Some 0) None) (itself (some_is y x is)))
  where
    itself : y ≡ x → (y == x) ≡ true
    itself q = grind (arith, nat_tests, q)
hash_stage (stage.Listing y f) a g x e is = (end_of f.chunks, ap (λ (b : Bool). cond b (Some (end_of f.chunks)) None) (itself (some_is y x is)))
  where
    itself : y ≡ x → (y == x) ≡ true
    itself q = grind (arith, nat_tests, q)
hash_stage (stage.Asking y) a g x e is = nothing_there g e
hash_stage (stage.Rewriting y) a g x e is = nothing_there g e
hash_stage (stage.Committing y) a g x e is = nothing_there g e
hash_stage st a g x e is = nothing_there x is

call_is : (lbfs xid : ℕ) (c : Call) → (b : Body) × (call_message lbfs xid c ≡ message.Call xid b)
call_is lbfs xid (Lease f) = (_, refl)
call_is lbfs xid (Hash f o) = (_, refl)
call_is lbfs xid (Read f c) = (_, refl)
call_is lbfs xid (Make temp f) = (_, refl)
call_is lbfs xid (Name temp c) = (_, refl)
call_is lbfs xid (Send temp start bytes) = (_, refl)
call_is lbfs xid (Commit temp f size) = (_, refl)
call_is lbfs xid (Walks w) = (_, refl)

-- once it is known what the server did
step_tails : (more : List Noted) (now : ℕ) (k l : Core) (i j : ℕ) (way : Way) (sent : ℕ) (u : Task) (ds : List Down) (r : server.State) → l.server ≡ r → l.drift ≡ k.drift → AllTails (IsPromised more now (record k { server = r }) i j way sent u) ds → AllTails (IsPromised more now l i j way sent u) ds
step_tails more now k l i j way sent u ds r server_ drift h =
    tails_map (IsPromised more now (record k { server = r }) i j way sent u) (IsPromised more now l i j way sent u) (λ d bs q. promised_as more now (record k { server = r }) l i j way sent u server_ drift d bs q) ds h

-- whatever becomes of the index
promise_indexed : (s : server.State) (ix : Indexed) (clock drift : ℕ) (noted : List Noted) (i n f version term sent : ℕ) (way : Way) → IsPromise s clock drift noted i n f version term sent way [] → IsPromise (record s { index = ix }) clock drift noted i n f version term sent way []
promise_indexed s ix clock drift noted i n f version term sent way h = λ lt. let p = h lt in (p.0, record { base = p.1.base; known = p.1.known; claim = p.1.claim })

pub elsewhere : (n j : ℕ) (m : Message) → (j ≡ n → ⊥) → sent_on j (record { session = n; message = m } ∷ []) ≡ []
elsewhere n j m apart = by (n == j) refl
  where
    by : (b : Bool) → (n == j) ≡ b → map (λ (z : Sent). z.message) (cond b (record { session = n; message = m } ∷ []) []) ≡ []
    by true q = let same : n ≡ j = grind (arith, nat_tests, q) in absurd (apart (sym same))
    by false q = refl

pub ask_taken_claimed : {all past rest : List Moment} {opening : List Opening} {k : Core} {ms : List Mix} (n now : ℕ) (bytes : List ℕ) {mid after : List Mix} (s : MixStep all past rest opening k ms (Serves n now bytes) mid after) (clock : ℕ) (noted more : List Noted) → clock ≤ now → ((x : Noted) → IsAmong x noted → IsAmong x more)
    → (x : Session) (m : Mix) (a : Ask) (us : List Up) → numbered k.sessions n ≡ Some x → numbered ms n ≡ Some m → is_raw x ≡ false → m.ups ≡ Asks a ∷ us → mid ≡ with_numbered ms n (record m { ups = us }) → stands k.server n ≡ true → happens k (Serves n now bytes) ≡ server_got k n now x (ask_message a)
    → Claimed noted clock k ms → Claimed more now (happens k (Serves n now bytes)).core after
unfolding call_is
ask_taken_claimed {all = all} {opening = opening} {k = k} {ms = ms} n now bytes {mid = mid} {after = after} s clock noted more le grows x m a us there is owned first mid_is up does h =
    finish s more now t does (λ sent. subst (λ (l : List Mix). length (mixes_after l t sent) ≡ length t.core.sessions → Claimed more now t.core (mixes_after l t sent)) (sym mid_is) (go sent))
  where
    t : CoreStep
    t = server_got k n now x (ask_message a)

    then_ : List Mix
    then_ = with_numbered ms n (record m { ups = us })

    r : server.State × ServerStep
    r = server_step k.server (event.Got n (ask_message a) now)

    turn : ServerTurn k ms then_ t (event.Got n (ask_message a) now)
    turn = taken_turn k ms n now x m (Asks a) us there is first

    some : 0 < n
    some = by n there
      where
        by : (j : ℕ) → numbered k.sessions j ≡ Some x → 0 < j
        by zero e = nothing_there x e
        by (suc j) e = omega arith

    moves : Moves k.server r
    moves = let b = call_is a.lbfs a.xid a.call in subst (λ (z : Message). Moves k.server (server_step k.server (event.Got n z now))) (sym b.1) (call_moves k.server false n a.xid b.0 now)

    promises : (sent : Sends t) (i : ℕ) (seat : Seat) (u : Task) (j : ℕ) (z : At k ms then_ t (mixes_after then_ t sent) j (downs_on j (sent_downs t sent))) → numbered k.seats i ≡ Some seat → seat.client.task ≡ Some u → seat.session ≡ Some j → z.x.cut ≡ false
        → AllTails (IsPromised more now t.core i j (way_of z.y z.p) seat.client.sent u) (downs_on j (sent_downs t sent))
    promises sent i seat u j z here task mine uncut = by a.call refl
      where
        ds : List Down
        ds = downs_on j (sent_downs t sent)

        sent_as : (q : server.State × ServerStep) → r ≡ q → downs_of ds ≡ sent_on j q.1.send
        sent_as q e = sent_is t sent j (whole_at z uncut) ∙ ap (λ (w : server.State × ServerStep). sent_on j w.1.send) e

        untold_ : (c : Call) → a.call ≡ c → IsLeaseless (call_is a.lbfs a.xid c).0 → AllTails (IsPromised more now t.core i j (way_of z.y z.p) seat.client.sent u) ds
        untold_ c e none =
            let b = call_is a.lbfs a.xid c in
            let eq : ask_message a ≡ message.Call a.xid b.0 = ap (call_message a.lbfs a.xid) e ∙ b.1 in
            let q : server.State × ServerStep = server_step k.server (event.Got n (message.Call a.xid b.0) now) in
            none_told more now t.core i j (way_of z.y z.p) seat.client.sent u ds (sent_on j q.1.send) (sent_as q (ap (λ (w : Message). server_step k.server (event.Got n w now)) eq)) (on_grantless j q.1.send (call_grantless k.server n a.xid b.0 now none))

        -- the session is the seat's own
        own_ : (j ≡ n) → Own s i seat n x m
        own_ same = own_session s i seat n x m here (mine ∙ ap (λ (w : ℕ). Some w) same) there is

        x_is : j ≡ n → z.x ≡ x
        x_is same = some_is z.x x (sym z.x_there ∙ ap (numbered k.sessions) same ∙ there)

        -- its job is that of the task
        job_at : (same : j ≡ n) → (y : Job) × (job seat ≡ Some y) × (y.file ≡ u.file) × (y.stage ≡ u.stage)
        job_at same = elim ((s.plain.kept.seats i seat here).matched) [
          | inl none ↦ nothing_there u (sym none.1 ∙ task)
          | inr busy ↦ (let q = job_task seat.place seat.client.task u busy.0 task busy.1 in (busy.0, busy.1, q.0, q.1))
        ]

        -- no COMMITTMP is behind the call
        free : (same : j ≡ n) → ((y : ℕ) → u.stage ≡ stage.Committing y → ⊥) → (f : ℕ) → AllByRecursion (λ w. stored_by w ≡ Some f → ⊥) (ups_of z.p)
        free same never f =
            let o = own_ same in
            let w = job_at same in
            let commits = subst (λ (l : List Up). AllAsks (IsCommit (book_at opening k all) x.closing x.cut (job o.session.seat) o.session.contents) (asks_in l)) first o.session.commits in
            let apart : NotCommitting (job o.session.seat) = λ place file xid q. (let as_seat = ap job (sym o.seat_is) ∙ q in never xid (sym (job_task seat.place seat.client.task u (record { place = place; file = file; stage = stage.Committing xid }) task as_seat).1)) in
            subst (AllByRecursion (λ w. stored_by w ≡ Some f → ⊥)) (sym (z.ups_is ∙ left_own ms n m us z.left is (ap (numbered then_) (sym same) ∙ z.left_there)))
            (none_committed (book_at opening k all) x.closing x.cut (job o.session.seat) o.session.contents (ap (λ (y : Session). y.cut) (sym (x_is same)) ∙ uncut) apart us commits.1 f)

        -- what the call asks for
        asked : (same : j ≡ n) → (c : Call) → a.call ≡ c → CallOf (job seat) a.xid c
        asked same c e =
            let o = own_ same in
            let talk = o.session.talk (ap (λ (y : Session). y.cut) (sym (x_is same)) ∙ uncut) in
            let all_ = subst (λ (l : List Up). AllAsks (IsAsked (job o.session.seat)) (asks_in l)) first talk.asked in
            subst (λ (q : Seat). CallOf (job q) a.xid c) o.seat_is (subst (λ (d : Call). CallOf (job o.session.seat) a.xid d) e all_.0)

        fits_ : (same : j ≡ n) → (c : Call) → a.call ≡ c → CallFits a.lbfs a.xid c
        fits_ same c e = let all_ = subst (λ (l : List Up). AllAsks (λ b. CallFits b.lbfs b.xid b.call) (asks_in l)) first (own_ same).session.ups_fit in subst (CallFits a.lbfs a.xid) e all_.0

        lease_case : (f : ℕ) → a.call ≡ Lease f → AllTails (IsPromised more now t.core i j (way_of z.y z.p) seat.client.sent u) ds
        lease_case f e = split (same_or_not j n)
          where
            q : server.State × ServerStep
            q = tells_lease (at k.server now) n a.xid (node_of k.server.tree (handle_bytes f))

            eq : r ≡ q
            eq = ap (λ (c : Call). server_step k.server (event.Got n (call_message a.lbfs a.xid c) now)) e ∙ ap (λ (b : Bool). got_if_under k.server false b n (call_message a.lbfs a.xid (Lease f)) now) up

            split : (j ≡ n) ⊎ (j ≡ n → ⊥) → AllTails (IsPromised more now t.core i j (way_of z.y z.p) seat.client.sent u) ds
            split (inr apart) = none_told more now t.core i j (way_of z.y z.p) seat.client.sent u ds [] (sent_as q eq ∙ elsewhere n j _ apart) tt
            split (inl same) = step_tails more now k t.core i j (way_of z.y z.p) seat.client.sent u ds q.0 (ap (λ (w : server.State × ServerStep). w.0) eq) refl
                (one_tail (IsPromised more now (record k { server = q.0 }) i j (way_of z.y z.p) seat.client.sent u) ds _ (sent_as q eq ∙ sent_one j _ (sym same))
                (λ d told g awaits lease. told_lease d told g awaits lease) (λ y g. tt))
              where
                told_lease : (d : Told) → told_message d ≡ message.Answer a.xid (body.Lb (lb.GetLeaseAnswer (lease_answer (term_on (at k.server now) (file_in (node_of k.server.tree (handle_bytes f)))) (node_of k.server.tree (handle_bytes f))))) → (g : Granted) → leasing_xid u.stage ≡ Some d.xid → lease_in u.stage (reply_body d.reply) ≡ Some g
                    → IsPromise q.0 now k.drift more i j u.file g.version g.term seat.client.sent (way_of z.y z.p) (downs_of [])
                told_lease d told g awaits lease =
                    let is_body = body_is d.xid a.xid (reply_body d.reply) _ told in
                    let lease_ = ap (lease_in u.stage) (sym is_body) ∙ lease in
                    let xid_ : d.xid ≡ a.xid = some_is d.xid a.xid (ap answered_by told) in
                    let w = job_at same in
                    let stage_is = lease_stage u.stage _ g a.xid lease_ (awaits ∙ ap (λ (y : ℕ). Some y) xid_) in
                    let file : u.file ≡ f = sym w.2 ∙ asked same (Lease f) e w.0 w.1 (ap lease_xid w.3 ∙ stage_is) in
                    let never : (y : ℕ) → u.stage ≡ stage.Committing y → ⊥ = λ y c. nothing_there a.xid (ap lease_xid (sym c) ∙ stage_is) in
                    let b = (h.seats i seat here).sent u d.xid task awaits in
                    subst (λ (y : ℕ). IsPromise q.0 now k.drift more i y u.file g.version g.term seat.client.sent (way_of z.y z.p) []) (sym same)
                    (lease_promised k.server clock now now k.drift more i n u.file b.0 seat.client.sent (way_of z.y z.p) h.orderly le (omega arith) b.2 (grows _ b.1) (free same never u.file) (handle_bytes f)
                    (own_handle f (fits_ same (Lease f) e).1 ∙ ap (λ (y : ℕ). Some y) (sym file)) g (lease_grants u.stage _ g lease_))

        hash_case : (f o : ℕ) → a.call ≡ Hash f o → AllTails (IsPromised more now t.core i j (way_of z.y z.p) seat.client.sent u) ds
        hash_case f o e = split (same_or_not j n)
          where
            range : HashRange
            range = record { lbfs = a.lbfs; handle = handle_bytes f; offset = o; count = 4294967295 }

            q : server.State × ServerStep
            q = tells_hashes (at k.server now) n a.xid range (node_of k.server.tree (handle_bytes f))

            eq : r ≡ q
            eq = ap (λ (c : Call). server_step k.server (event.Got n (call_message a.lbfs a.xid c) now)) e ∙ ap (λ (b : Bool). got_if_under k.server false b n (call_message a.lbfs a.xid (Hash f o)) now) up

            split : (j ≡ n) ⊎ (j ≡ n → ⊥) → AllTails (IsPromised more now t.core i j (way_of z.y z.p) seat.client.sent u) ds
            split (inr apart) = none_told more now t.core i j (way_of z.y z.p) seat.client.sent u ds [] (sent_as q eq ∙ elsewhere n j _ apart) tt
            split (inl same) = step_tails more now k t.core i j (way_of z.y z.p) seat.client.sent u ds q.0 (ap (λ (w : server.State × ServerStep). w.0) eq) refl
                (one_tail (IsPromised more now (record k { server = q.0 }) i j (way_of z.y z.p) seat.client.sent u) ds _ (sent_as q eq ∙ sent_one j _ (sym same))
                (λ d told g awaits lease. told_hash d told g awaits lease) (λ y g. tt))
              where
                told_hash : (d : Told) → told_message d ≡ message.Answer a.xid (body.Lb (lb.GetHashAnswer (hash_answer (term_on (at k.server now) (file_in (node_of k.server.tree (handle_bytes f)))) (node_of k.server.tree (handle_bytes f)) range))) → (g : Granted) → leasing_xid u.stage ≡ Some d.xid → lease_in u.stage (reply_body d.reply) ≡ Some g
                    → IsPromise q.0 now k.drift more i j u.file g.version g.term seat.client.sent (way_of z.y z.p) (downs_of [])
                told_hash d told g awaits lease =
                    let is_body = body_is d.xid a.xid (reply_body d.reply) _ told in
                    let lease_ = ap (lease_in u.stage) (sym is_body) ∙ lease in
                    let xid_ : d.xid ≡ a.xid = some_is d.xid a.xid (ap answered_by told) in
                    let w = job_at same in
                    let off = hash_stage u.stage _ g a.xid lease_ (awaits ∙ ap (λ (y : ℕ). Some y) xid_) in
                    let file : u.file ≡ f = sym w.2 ∙ (asked same (Hash f o) e w.0 off.0 w.1 (ap (λ (st : Stage). hash_offset st a.xid) w.3 ∙ off.1)).0 in
                    let never : (y : ℕ) → u.stage ≡ stage.Committing y → ⊥ = λ y c. nothing_there off.0 (ap (λ (st : Stage). hash_offset st a.xid) (sym c) ∙ off.1) in
                    let b = (h.seats i seat here).sent u d.xid task awaits in
                    subst (λ (y : ℕ). IsPromise q.0 now k.drift more i y u.file g.version g.term seat.client.sent (way_of z.y z.p) []) (sym same)
                    (promise_indexed (grants_on (at k.server now) n (file_in (node_of k.server.tree (handle_bytes f)))) q.0.index now k.drift more i n u.file g.version g.term seat.client.sent (way_of z.y z.p) (hash_promised k.server clock now now k.drift more i n u.file b.0 seat.client.sent (way_of z.y z.p) h.orderly le (omega arith) b.2 (grows _ b.1) (free same never u.file) range
                    (own_handle f (fits_ same (Hash f o) e).1 ∙ ap (λ (y : ℕ). Some y) (sym file)) g (lease_grants u.stage _ g lease_)))

        by : (c : Call) → a.call ≡ c → AllTails (IsPromised more now t.core i j (way_of z.y z.p) seat.client.sent u) ds
        by (Lease f) e = lease_case f e
        by (Hash f o) e = hash_case f o e
        by (Read f c) e = untold_ (Read f c) e tt
        by (Make temp f) e = untold_ (Make temp f) e tt
        by (Name temp c) e = untold_ (Name temp c) e tt
        by (Send temp start b) e = untold_ (Send temp start b) e tt
        by (Commit temp f size) e = untold_ (Commit temp f size) e tt
        by (Walks w) e = untold_ (Walks w) e tt

    go : (sent : Sends t) → length (mixes_after then_ t sent) ≡ length t.core.sessions → Claimed more now t.core (mixes_after then_ t sent)
    go sent count =
        let talk = h.talks n m is in
        let inside = numbered_within k.sessions n x there in
        let made = made_is s in
        server_claimed k ms then_ t (event.Got n (ask_message a) now) turn (made_is s) (pairs_are s) sent count (apart_are s) clock now noted more grows h (le, omega arith) le
        (server_orderly k.server clock now (event.Got n (ask_message a) now) h.orderly (le, omega arith) le n some (omega (arith, inside, made)) (record { ups = ups_of m; cut = false }) (downs_of m.downs) talk.numbers (turn.own n x m there owned is))
        (moves_recalls k.server r moves h.recalls)
        (λ j z own. awaited_dropped r.0 j (ups_of z.m) (ups_of z.left) _ z.dropped (let w = h.talks j z.m z.m_there in moves_awaited k.server j (way_of z.x z.m) (downs_of z.m.downs) h.recalls w.numbers w.awaited r moves))
        (λ i seat u j z here task mine uncut. promises sent i seat u j z here task mine uncut)
