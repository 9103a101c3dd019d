-- A call or an answer to a RECALL is taken, and a change is made: claims go on in a run.
use Rattle.std.proofs.Common.{◌≡◌, ◌⊎◌, inl, inr, ℕ, zero, suc, ◌<◌, ◌≤◌, List, [], ◌∷◌, length, Option, Some, None, Bool, true, false, refl, sym, ap, ◌∙◌, subst, arith, map}
use Rattle.std.specs.Prelude.{◌==◌, cond, slice_get}
use Rattle.std.specs.List.{AllByRecursion}
use Rattle.std.proofs.lemmas.Bool.Decides.{nat_tests}
use Rattle.clock_rule.specs.declared.rule.Note.{Note as Noted}
use Rattle.wire.specs.declared.message.Message.{Message}
use Rattle.client_state.specs.declared.task.Stage.TheVariants as stage
use Rattle.client_state.specs.declared.task.Task.{Task}
use Rattle.server_core.specs.declared.change.Wanted.{Wanted}
use Rattle.server_core.specs.declared.change.Wanted.TheVariants as wanted
use Rattle.server_core.specs.State as server
use Rattle.server_core.specs.State.{FileChange, stands}
use Rattle.server_core.specs.Closing.{at, ready_by, settles_by, settles_under, makes_change_under}
use Rattle.callback_core.specs.Waits.{without}
use Rattle.server_core.specs.Step.{server_step}
use Rattle.server_core.specs.declared.event.Event.TheVariants as event
use Rattle.server_core.specs.declared.event.Sent.{Sent}
use Rattle.server_core.specs.declared.event.ServerStep.{ServerStep}
use Rattle.lease_law.specs.Claims.{IsAmong, stored_by}
use Rattle.lease_law.specs.Orderly.{sent_on}
use Rattle.lease_law.proofs.lemmas.Asking.{sent_one}
use Rattle.kept_promise.proofs.Common.{Core, Seat, Session, Event, Event.Settles, happens, settles, numbered, Moment, Opening, Book, Told, told_message, reply_body, Up, Up.Asks, Up.Replies, up_message, Down, Down.Tells, Down.Recalls, down_message, Mix, queue_of, asks_in, Call, Call.Commit, Call.Lease, Call.Hash, Call.Walks, call_message}
use Rattle.kept_promise.proofs.Lists.{some_is, nothing_there, same_or_not}
use Rattle.kept_promise.proofs.Messages.{Job, job_of, job, AllAsks, IsCommit, CommitOf, WaitsFor}
use Rattle.kept_promise.proofs.Keys.{own}
use Rattle.kept_promise.proofs.Facts.{IsSession, commits_in, change_number}
use Rattle.kept_promise.proofs.TakenOut.{ready_waits}
use Rattle.kept_promise.proofs.Leading.{Sends, sent_downs, mixes_after}
use Rattle.kept_promise.proofs.Mixes.{there_plain}
use Rattle.kept_promise.proofs.RunsCarried.{MixStep, book_at}
use Rattle.kept_promise.proofs.RecallsKept.{moves_awaited, moves_recalls, change_moves}
use Rattle.kept_promise.proofs.Claimed.{Claimed, HasClaims, IsPromised, AllTails, ups_of, downs_of, way_of}
use Rattle.kept_promise.proofs.ClaimWays.{downs_on, sent_is}
use Rattle.kept_promise.proofs.ClaimFrame.{tails_map}
use Rattle.kept_promise.proofs.ClaimGrants.{grants_by, lease_grants, on_grantless}
use Rattle.kept_promise.proofs.ClaimTold.{commit_promised}
use Rattle.kept_promise.proofs.ClaimServer.{awaited_dropped, At, server_claimed, whole_at}
use Rattle.kept_promise.proofs.ClaimServed.{made_is, pairs_are, finish, none_told, promised_as, settle_turn, settled_orderly, apart_are}
use Rattle.kept_promise.proofs.Turns.{has_owner}

-- ---- one answer

-- a single message is told
pub one_tail : (Q : Down → List Down → Type 0) (ds : List Down) (m : Message) → downs_of ds ≡ m ∷ [] → ((a : Told) → told_message a ≡ m → Q (Tells a) []) → ((x f : ℕ) → Q (Recalls x f) []) → AllTails Q ds
one_tail Q [] m e told recall = none m e
  where
    none : {A : Type 0} (m : Message) → [] ≡ m ∷ [] → A
    none m e = absurd cc
one_tail Q (Tells a ∷ []) m e told recall = (told a (first e), tt)
  where
    first : told_message a ∷ [] ≡ m ∷ [] → told_message a ≡ m
    first e = cc
one_tail Q (Recalls x f ∷ []) m e told recall = (recall x f, tt)
one_tail Q (d ∷ c ∷ ds) m e told recall = more (down_message d) (down_message c) (downs_of ds) m e
  where
    more : {A : Type 0} (x y : Message) (zs : List Message) (m : Message) → x ∷ y ∷ zs ≡ m ∷ [] → A
    more x y zs m e = absurd cc

-- ---- no COMMITTMP on its way up

-- a COMMITTMP is the one change on its way
none_counted : (us : List Up) → commits_in (asks_in us) ≡ 0 → (f : ℕ) → AllByRecursion (λ m. stored_by m ≡ Some f → ⊥) (map up_message us)
none_counted [] e f = tt
none_counted (Replies x ∷ us) e f = ((λ q. nothing_there f q), none_counted us e f)
none_counted (Asks a ∷ us) e f = (by a.call refl, none_counted us (omega (arith, e)) f)
  where
    by : (c : Call) → a.call ≡ c → stored_by (call_message a.lbfs a.xid c) ≡ Some f → ⊥
    by (Commit temp file size) is q = let one = ap (λ (d : Call). change_number d) is in omega (arith, e, one)
    by (Lease g) is q = nothing_there f q
    by (Hash g o) is q = nothing_there f q
    by (Walks w) is q = nothing_there f q
    by c is q = nothing_there f q

-- a stage that isn't Committing has none on its way
abbrev pub NotCommitting : Option Job → Type 0
NotCommitting j = (place file xid : ℕ) → j ≡ Some (record { place = place; file = file; stage = stage.Committing xid }) → ⊥

pub none_committed : (book : Book) (closing : Option ℕ) (cut : Bool) (j : Option Job) (contents : ℕ → List ℕ) → cut ≡ false → NotCommitting j → (us : List Up) → AllAsks (IsCommit book closing cut j contents) (asks_in us) → (f : ℕ) → AllByRecursion (λ m. stored_by m ≡ Some f → ⊥) (map up_message us)
none_committed book closing cut j contents uncut apart [] h f = tt
none_committed book closing cut j contents uncut apart (Replies x ∷ us) h f = ((λ q. nothing_there f q), none_committed book closing cut j contents uncut apart us h f)
none_committed book closing cut j contents uncut apart (Asks a ∷ us) h f = (by a.call h.0, none_committed book closing cut j contents uncut apart us h.1 f)
  where
    by : (c : Call) → CommitOf book closing cut j contents a.xid c → stored_by (call_message a.lbfs a.xid c) ≡ Some f → ⊥
    by (Commit temp file size) is q = apart is.0.place file a.xid (is.0.waited uncut)
    by (Lease g) is q = nothing_there f q
    by (Hash g o) is q = nothing_there f q
    by (Walks w) is q = nothing_there f q
    by c is q = nothing_there f q

-- ---- the job of a seat

pub job_is : (place : Option ℕ) (u : Task) (j : Job) → job_of place (Some u) ≡ Some j → (j.file ≡ u.file) × (j.stage ≡ u.stage)
job_is None u j e = nothing_there j e
job_is (Some p) u j e = let same = some_is (record { place = p; file = u.file; stage = u.stage }) j e in (ap (λ (z : Job). z.file) (sym same), ap (λ (z : Job). z.stage) (sym same))

pub job_task : (place : Option ℕ) (t : Option Task) (u : Task) (j : Job) → t ≡ Some u → job_of place t ≡ Some j → (j.file ≡ u.file) × (j.stage ≡ u.stage)
job_task place t u j task e = job_is place u j (ap (job_of place) (sym task) ∙ e)

-- ---- a client's own session

module _ {all past rest : List Moment} {opening : List Opening} {k : Core} {ms : List Mix} {e : Event} {mid after : List Mix} (s : MixStep all past rest opening k ms e mid after) where
  pub record Own (i : ℕ) (seat : Seat) (n : ℕ) (x : Session) (m : Mix) : Type 0 where
    pub session : IsSession (book_at opening k all) k.seats k.server n x (queue_of m)
    pub seat_is : session.seat ≡ seat

  pub own_session : (i : ℕ) (seat : Seat) (n : ℕ) (x : Session) (m : Mix) → numbered k.seats i ≡ Some seat → seat.session ≡ Some n → numbered k.sessions n ≡ Some x → numbered ms n ≡ Some m → Own i seat n x m
  own_session i seat n x m here mine at is =
      let o = (s.plain.kept.seats i seat here).session n mine in
      let same : o.0 ≡ x = some_is o.0 x (sym o.1 ∙ at) in
      let owner : x.owner ≡ i = ap (λ (z : Session). z.owner) (sym same) ∙ o.2 in
      let h = s.plain.kept.sessions n x (queue_of m) at (there_plain ms n m is) (has_owner k.seats x seat (ap (numbered k.seats) owner ∙ here)) in
      record { session = h; seat_is = some_is h.seat seat (sym h.owner ∙ ap (numbered k.seats) owner ∙ here) }

-- a pending change is among its session's
own_among : (cs : List FileChange) (i : ℕ) (c : FileChange) → slice_get cs i ≡ Some c → (j : ℕ) × (slice_get (own c.session cs) j ≡ Some c)
own_among [] i c e = nothing_there c e
own_among (d ∷ cs) zero c e = by (d.session == c.session) (grind (arith, nat_tests, same_session))
  where
    same_session : d.session ≡ c.session
    same_session = ap (λ (z : FileChange). z.session) (some_is d c e)

    by : (b : Bool) → b ≡ true → (j : ℕ) × (slice_get (cond b (d ∷ own c.session cs) (own c.session cs)) j ≡ Some c)
    by true is = (0, e)
    by false is = absurd cc
own_among (d ∷ cs) (suc i) c e = by (d.session == c.session) (own_among cs i c e)
  where
    by : (b : Bool) → (j : ℕ) × (slice_get (own c.session cs) j ≡ Some c) → (j : ℕ) × (slice_get (cond b (d ∷ own c.session cs) (own c.session cs)) j ≡ Some c)
    by true h = (suc h.0, h.1)
    by false h = h

some_there : {A : Type 0} (xs : List A) (j : ℕ) (x : A) → slice_get xs j ≡ Some x → 0 < length xs
some_there [] j x e = nothing_there x e
some_there (y ∷ xs) j x e = omega arith

-- ---- a change is made

pub settle_claimed : {all past rest : List Moment} {opening : List Opening} {k : Core} {ms : List Mix} (at_ : ℕ) {mid after : List Mix} (s : MixStep all past rest opening k ms (Settles at_) mid after) (clock : ℕ) (noted more : List Noted) → clock ≤ at_ → ((x : Noted) → IsAmong x noted → IsAmong x more)
    → mid ≡ ms → Claimed noted clock k ms → Claimed more at_ (happens k (Settles at_)).core after
settle_claimed {all = all} {opening = opening} {k = k} {ms = ms} at_ {mid = mid} {after = after} s clock noted more le grows same h =
    finish s more at_ (settles k at_) refl (λ sent count.
    server_claimed k ms mid (settles k at_) (event.Settle at_) (settle_turn k ms mid at_ same) (made_is s) (pairs_are s) sent count (apart_are s) clock at_ noted more grows h (le, omega arith) le
    (settled_orderly k.server clock at_ at_ le (omega arith) h.orderly)
    (moves_recalls k.server (server_step k.server (event.Settle at_)) (change_moves k.server false at_) h.recalls)
    (λ n a owned. awaited_dropped (server_step k.server (event.Settle at_)).0 n (ups_of a.m) (ups_of a.left) _ a.dropped
    (let talk = h.talks n a.m a.m_there in moves_awaited k.server n (way_of a.x a.m) (downs_of a.m.downs) h.recalls talk.numbers talk.awaited (server_step k.server (event.Settle at_)) (change_moves k.server false at_)))
    (λ i seat u n a here task mine uncut. promises sent i seat u n a here task mine uncut))
  where
    promises : (sent : Sends (settles k at_)) (i : ℕ) (seat : Seat) (u : Task) (n : ℕ) (a : At k ms mid (settles k at_) (mixes_after mid (settles k at_) sent) n (downs_on n (sent_downs (settles k at_) sent))) → numbered k.seats i ≡ Some seat → seat.client.task ≡ Some u → seat.session ≡ Some n → a.x.cut ≡ false
        → AllTails (IsPromised more at_ (settles k at_).core i n (way_of a.y a.p) seat.client.sent u) (downs_on n (sent_downs (settles k at_) sent))
    promises sent i seat u n a here task mine uncut = by (ready_by k.server at_) refl
      where
        ds : List Down
        ds = downs_on n (sent_downs (settles k at_) sent)

        c : HasClaims noted clock k ms i seat
        c = h.seats i seat here

        -- once it is known what the server did
        by_step : (r : server.State × ServerStep) → settles_under k.server false at_ ≡ r → (downs_of ds ≡ sent_on n r.1.send → AllTails (IsPromised more at_ (record k { server = r.0 }) i n (way_of a.y a.p) seat.client.sent u) ds)
            → AllTails (IsPromised more at_ (settles k at_).core i n (way_of a.y a.p) seat.client.sent u) ds
        by_step r is go =
            tails_map (IsPromised more at_ (record k { server = r.0 }) i n (way_of a.y a.p) seat.client.sent u) (IsPromised more at_ (settles k at_).core i n (way_of a.y a.p) seat.client.sent u)
            (λ d bs q. promised_as more at_ (record k { server = r.0 }) (settles k at_).core i n (way_of a.y a.p) seat.client.sent u (ap (λ (z : server.State × ServerStep). z.0) is) refl d bs q) ds
            (go (sent_is (settles k at_) sent n (whole_at a uncut) ∙ ap (λ (z : server.State × ServerStep). sent_on n z.1.send) is))

        -- what is on its way up is no COMMITTMP, where one waits
        unstored : (d : FileChange) → ready_by k.server at_ ≡ Some d → d.session ≡ n → (f : ℕ) → AllByRecursion (λ m. stored_by m ≡ Some f → ⊥) (ups_of a.p)
        unstored d is own_ f =
            let o = own_session s i seat n a.x a.m here mine a.x_there a.m_there in
            let w = ready_waits k.server at_ d is in
            let j = own_among k.server.waiting w.0 d w.1 in
            let there : slice_get (own n k.server.waiting) j.0 ≡ Some d = subst (λ (m : ℕ). slice_get (own m k.server.waiting) j.0 ≡ Some d) own_ j.1 in
            let one = o.session.single in
            let some = some_there (own n k.server.waiting) j.0 d there in
            let left : a.left ≡ a.m = some_is a.left a.m (sym a.left_there ∙ ap (λ (l : List Mix). numbered l n) same ∙ a.m_there) in
            subst (AllByRecursion (λ m. stored_by m ≡ Some f → ⊥)) (sym (a.ups_is ∙ ap ups_of left)) (none_counted a.m.ups (omega (arith, one, some)) f)

        -- the seat's job is that of the COMMITTMP
        file_is : (d : FileChange) (content : List ℕ) → ready_by k.server at_ ≡ Some d → d.session ≡ n → d.what ≡ wanted.Content content → d.file ≡ u.file
        file_is d content is own_ what =
            let o = own_session s i seat n a.x a.m here mine a.x_there a.m_there in
            let w = ready_waits k.server at_ d is in
            let j = own_among k.server.waiting w.0 d w.1 in
            let there : slice_get (own n k.server.waiting) j.0 ≡ Some d = subst (λ (m : ℕ). slice_get (own m k.server.waiting) j.0 ≡ Some d) own_ j.1 in
            let p = subst (λ (v : Wanted). WaitsFor (book_at opening k all) d.session a.x.closing a.x.cut (job o.session.seat) d.xid d.file v) what (o.session.pending j.0 d there) in
            let is_job = ap job (sym o.seat_is) ∙ p.waited uncut in
            (job_task seat.place seat.client.task u (record { place = p.place; file = d.file; stage = stage.Committing d.xid }) task is_job).0

        made : (d : FileChange) (w : Wanted) → ready_by k.server at_ ≡ Some d → d.what ≡ w → downs_of ds ≡ sent_on n (makes_change_under (at (record k.server { waiting = without k.server.waiting d.session }) at_) false d w).1.send
            → AllTails (IsPromised more at_ (record k { server = (makes_change_under (at (record k.server { waiting = without k.server.waiting d.session }) at_) false d w).0 }) i n (way_of a.y a.p) seat.client.sent u) ds
        made d (wanted.Asked r) is what e = none_told more at_ (record k { server = (makes_change_under (at (record k.server { waiting = without k.server.waiting d.session }) at_) false d (wanted.Asked r)).0 }) i n (way_of a.y a.p) seat.client.sent u ds
            (sent_on n (makes_change_under (at (record k.server { waiting = without k.server.waiting d.session }) at_) false d (wanted.Asked r)).1.send) e (on_grantless n (makes_change_under (at (record k.server { waiting = without k.server.waiting d.session }) at_) false d (wanted.Asked r)).1.send (refl, tt))
        made d (wanted.Content content) is what e = by_session (same_or_not d.session n)
          where
            r : server.State × ServerStep
            r = makes_change_under (at (record k.server { waiting = without k.server.waiting d.session }) at_) false d (wanted.Content content)

            elsewhere : (d.session ≡ n → ⊥) → sent_on n r.1.send ≡ []
            elsewhere apart = by (d.session == n) refl
              where
                by : (b : Bool) → (d.session == n) ≡ b → sent_on n r.1.send ≡ []
                by true q = absurd (apart (grind (arith, nat_tests, q)))
                by false q = ap (λ (b : Bool). map (λ (z : Sent). z.message) (cond b r.1.send [])) q

            by_session : (d.session ≡ n) ⊎ (d.session ≡ n → ⊥) → AllTails (IsPromised more at_ (record k { server = r.0 }) i n (way_of a.y a.p) seat.client.sent u) ds
            by_session (inr apart) = none_told more at_ (record k { server = r.0 }) i n (way_of a.y a.p) seat.client.sent u ds [] (e ∙ elsewhere apart) tt
            by_session (inl own_) =
                one_tail (IsPromised more at_ (record k { server = r.0 }) i n (way_of a.y a.p) seat.client.sent u) ds _ (e ∙ sent_one n _ own_)
                (λ t told. λ g awaits lease.
                (let b = c.sent u t.xid task awaits in
                let file = file_is d content is own_ what in
                commit_promised k.server clock at_ at_ k.drift more i n u.file b.0 seat.client.sent (way_of a.y a.p) h.orderly le (omega arith) b.2 (grows _ b.1) (unstored d is own_ u.file) d content own_ file g
                (sym (ap grants_by told) ∙ lease_grants u.stage (reply_body t.reply) g lease)))
                (λ x f. tt)

        by : (o : Option FileChange) → ready_by k.server at_ ≡ o → AllTails (IsPromised more at_ (settles k at_).core i n (way_of a.y a.p) seat.client.sent u) ds
        by None is = by_step (settles_by k.server false at_ None) (ap (settles_by k.server false at_) is) (λ e. none_told more at_ (record k { server = k.server }) i n (way_of a.y a.p) seat.client.sent u ds [] e tt)
        by (Some d) is = by_step (settles_by k.server false at_ (Some d)) (ap (settles_by k.server false at_) is) (λ e. made d d.what is refl e)
