-- A close ends by an answer: it was refused, or its change was made.
use Rattle.std.proofs.Common.{inl, inr, ◌≡◌, ℕ, suc, ◌+◌, ◌<◌, ◌≤◌, List, [], ◌∷◌, ◌++◌, length, Option, Some, None, Bool, true, false, refl, sym, ap, ◌∙◌, subst, arith, eqb-true, eq-eqb, map}
use Rattle.wire.specs.declared.message.Program.TheVariants as program
use Rattle.hash_calls.specs.declared.message.LbProc.TheVariants as lb_proc
use Rattle.client_state.specs.State as client
use Rattle.client_state.specs.declared.task.Stage.TheVariants as stage
use Rattle.nfs3_calls.specs.Nfs.{nfs_proc}
use Rattle.path_calls.specs.Walk.{next_call}
use Rattle.path_calls.specs.declared.walk.Walk.{Walk}
use Rattle.register_model.specs.Register.{success}
use Rattle.tree_calls.specs.declared.asked.Asked.{Asked}
use Rattle.tree_calls.specs.declared.asked.Asked.TheVariants as asked
use Rattle.server_core.specs.declared.change.Wanted.TheVariants as wanted
use Rattle.register_model.specs.declared.op.Outcome.TheVariants as told
use Rattle.register_model.specs.declared.op.Word.TheVariants as words
use Rattle.kept_promise.proofs.Common.{slice_get, slice_set, cond, ◌==◌, sha1, Pending, FileChange, Wanted, Local, Stage, without_at_itself, without_at_another, Op, Traffic, Word, Core, Session, Book, Call, Call.Commit, Call.Walks, Ask, Told, Queue, reply_program}
use Rattle.kept_promise.proofs.Lists.{some_is, nothing_there, same_or_not}
use Rattle.kept_promise.proofs.Keys.{times, times_append, own, on_way, ask_key, change_key, told_key, pending_key, there_by, key, key_xid, wanted_program}
use Rattle.kept_promise.proofs.Messages.{IsCreating, Job, job, stage_word, AllAsks, IsCommit, CommitOf, WaitsFor, AsksFor, walk_for, walk_is as asked_walk}
use Rattle.kept_promise.proofs.PathNames.{is_creating}
use Rattle.kept_promise.proofs.Rights.{is_remote, may_point, IsRight, IsUnmade, IsMade, RefusedBy}
use Rattle.kept_promise.proofs.Growth.{entered_later, Grows, value_later}
use Rattle.kept_promise.proofs.History.{onward, Becomes, grows_becomes}
use Rattle.kept_promise.proofs.Orderly.{NoRoom, Denied, Went}
use Rattle.kept_promise.proofs.Facts.{IsSession, commits_in, change_number}
use Rattle.kept_promise.proofs.Heard.{Moves}
use Rattle.kept_promise.proofs.Moves.{told_there, moves_ends}
use Rattle.kept_promise.proofs.Steps.{Here, session_at, Quiet, job_op, Stops}
use Rattle.kept_promise.proofs.StepCases.{IsOfFile}
use Rattle.kept_promise.proofs.OrderSteps.{EndsAt}
use Rattle.xdr_codec.specs.Status.{status_number}
use Rattle.xdr_codec.specs.declared.status.Status.{Status}
use Rattle.trace_replay.specs.Causes.{HasNoRoom, IsGone}

-- ---- nothing of a change is on its way

-- no stage waits for one of these as a change
abbrev NoneWaits : Job → List Ask → Type 0
NoneWaits j us = ((i : ℕ) (a : Ask) (temp file size : ℕ) → slice_get us i ≡ Some a → a.call ≡ Commit temp file size → j.stage ≡ stage.Committing a.xid → ⊥) × ((i : ℕ) (a : Ask) (w : Walk) → slice_get us i ≡ Some a → a.call ≡ Walks w → j.stage ≡ stage.Walking a.xid w → ⊥)

commits_apart : (book : Book) (closing : Option ℕ) (cut : Bool) (o : Option Job) (j : Job) (contents : ℕ → List ℕ) (us : List Ask) → cut ≡ false → o ≡ Some j → NoneWaits j us → AllAsks (IsCommit book closing cut o contents) us → commits_in us ≡ 0
commits_apart book closing cut o j contents [] uncut is apart all = refl
commits_apart book closing cut o j contents (a ∷ us) uncut is apart all = by a.call refl all.0 (commits_apart book closing cut o j contents us uncut is (λ i b temp file size at e s. apart.0 (suc i) b temp file size at e s, λ i b w at e s. apart.1 (suc i) b w at e s) all.1)
  where
    creates : (w : Walk) (b : Bool) → is_creating w ≡ b → a.call ≡ Walks w → (is_creating w ≡ true → IsCreating book closing cut o a.xid w) → commits_in us ≡ 0 → cond b 1 0 + commits_in us ≡ 0
    creates w true creating e h none = absurd (apart.1 0 a w refl e (ap (λ (z : Job). z.stage) (some_is j _ (sym is ∙ (h creating).waited uncut))))
    creates w false creating e h none = omega (arith, none)

    by : (c : Call) → a.call ≡ c → CommitOf book closing cut o contents a.xid c → commits_in us ≡ 0 → change_number c + commits_in us ≡ 0
    by (Commit temp file size) e h none = absurd (apart.0 0 a temp file size refl e (ap (λ (z : Job). z.stage) (some_is j _ (sym is ∙ h.0.waited uncut))))
    by (Walks w) e h none = creates w (is_creating w) refl e h none
    by _ e h none = omega (arith, none)

-- no stage waits for one of these changes
abbrev NoneLeft : Job → List FileChange → Type 0
NoneLeft j cs = ((i : ℕ) (d : FileChange) (content : List ℕ) → slice_get cs i ≡ Some d → d.what ≡ wanted.Content content → j.stage ≡ stage.Committing d.xid → ⊥) × ((i : ℕ) (d : FileChange) (a : Asked) (w : Walk) → slice_get cs i ≡ Some d → d.what ≡ wanted.Asked a → AsksFor w a → j.stage ≡ stage.Walking d.xid w → ⊥)

waiting_apart : (book : Book) (closing : Option ℕ) (cut : Bool) (o : Option Job) (j : Job) (cs : List FileChange) → cut ≡ false → o ≡ Some j → NoneLeft j cs → ((i : ℕ) (d : FileChange) → slice_get cs i ≡ Some d → WaitsFor book d.session closing cut o d.xid d.file d.what) → cs ≡ []
waiting_apart book closing cut o j [] uncut is apart all = refl
waiting_apart book closing cut o j (d ∷ cs) uncut is apart all = by d.what refl (all 0 d refl)
  where
    by : (what : Wanted) → d.what ≡ what → WaitsFor book d.session closing cut o d.xid d.file what → d ∷ cs ≡ []
    by (wanted.Content content) e p = absurd (apart.0 0 d content refl e (ap (λ (z : Job). z.stage) (some_is j _ (sym is ∙ p.waited uncut))))
    by (wanted.Asked a) e p = let w = p.waited uncut in absurd (apart.1 0 d a w.0 refl e w.2 (ap (λ (z : Job). z.stage) (some_is j _ (sym is ∙ w.1))))

-- before its commit is sent, on a file
pub quiet_before : (book : Book) (k : Core) (qs : List Queue) (n : ℕ) (x : Session) (q : Queue) (t : Told) (ts : List Told) (j : Job) → Here book k qs n x q t ts j → ((y : ℕ) → j.stage ≡ stage.Committing y → ⊥) → IsOfFile j.stage → Quiet k n q
quiet_before book k qs n x q t ts j g before file =
    let h = session_at book k qs n x q t ts j g in
    record {
      ups = commits_apart book x.closing x.cut (job h.seat) j h.contents q.ups g.uncut g.job_is (λ i a temp file size at e s. before a.xid s, λ i a w at e s. subst IsOfFile s file) h.commits;
      waiting = waiting_apart book x.closing x.cut (job h.seat) j (own n k.server.waiting) g.uncut g.job_is (λ i d content at e s. before d.xid s, λ i d a w at e f s. subst IsOfFile s file) h.pending;
    }

keys_are_xids : (z x : ℕ) (calls : List Pending) (t : Told) → z ≡ told_key t → x ≡ t.xid → times z (map pending_key calls) ≤ times x (map (λ p. p.xid) calls)
keys_are_xids z x [] t e f = omega arith
keys_are_xids z x (p ∷ ps) t e f = by (pending_key p == z) refl (keys_are_xids z x ps t e f)
  where
    same : pending_key p ≡ z → p.xid ≡ x
    same q = key_xid p.xid t.xid p.program (reply_program t.reply) (q ∙ e) ∙ sym f

    more : (b : Bool) (m : ℕ) → m ≤ cond b (suc m) m
    more true m = omega arith
    more false m = omega arith

    by : (b : Bool) → (pending_key p == z) ≡ b → times z (map pending_key ps) ≤ times x (map (λ (u : Pending). u.xid) ps) → cond b (suc (times z (map pending_key ps))) (times z (map pending_key ps)) ≤ cond (p.xid == x) (suc (times x (map (λ (u : Pending). u.xid) ps))) (times x (map (λ (u : Pending). u.xid) ps))
    by true e2 le = let one = ap (λ b. cond b (suc (times x (map (λ (u : Pending). u.xid) ps))) (times x (map (λ (u : Pending). u.xid) ps))) (eq-eqb p.xid x (same (eqb-true (pending_key p) z e2))) in omega (arith, le, one)
    by false e2 le = let m = more (p.xid == x) (times x (map (λ (u : Pending). u.xid) ps)) in omega (arith, le, m)

commit_key : (t : Told) (y : ℕ) → reply_program t.reply ≡ program.Lb lb_proc.CommitTmp → y ≡ t.xid → key y (program.Lb lb_proc.CommitTmp) ≡ told_key t
commit_key t y e f = ap (λ (v : ℕ). key v (program.Lb lb_proc.CommitTmp)) f ∙ ap (key t.xid) (sym e)

-- the call of an answer is on its way no more
module _ (book : Book) (k : Core) (qs : List Queue) (n : ℕ) (x : Session) (q : Queue) (t : Told) (ts : List Told) (j : Job) (g : Here book k qs n x q t ts j) where
  abbrev h : IsSession book k.seats k.server n x q
  h = session_at book k qs n x q t ts j g

  at_most : times (told_key t) (on_way n k.server.waiting q) ≤ 1
  at_most =
      let b = (h.talk g.uncut).balanced in
      let m = b.most (told_key t) in
      let o = b.once t.xid in
      let le = keys_are_xids (told_key t) t.xid (client.calls_of h.seat.client) t refl refl in
      omega (arith, m, o, le)

  down_there : 0 < times (told_key t) (map told_key q.downs)
  down_there = there_by told_key q.downs 0 t (ap (λ (l : List Told). slice_get l 0) g.first)

  parts : times (told_key t) (on_way n k.server.waiting q) ≡ times (told_key t) (map ask_key q.ups) + (times (told_key t) (map change_key (own n k.server.waiting)) + times (told_key t) (map told_key q.downs))
  parts = times_append (told_key t) (map ask_key q.ups) (map change_key (own n k.server.waiting) ++ map told_key q.downs) ∙ ap (λ v. times (told_key t) (map ask_key q.ups) + v) (times_append (told_key t) (map change_key (own n k.server.waiting)) (map told_key q.downs))

  twice_up : (i : ℕ) (a : Ask) → slice_get q.ups i ≡ Some a → ask_key a ≡ told_key t → ⊥
  twice_up i a at same =
      let there = subst (λ v. 0 < times v (map ask_key q.ups)) same (there_by ask_key q.ups i a at) in
      let d = down_there in
      let p = parts in
      let m = at_most in
      omega (arith, there, d, p, m)

  twice_there : (i : ℕ) (c : FileChange) → slice_get (own n k.server.waiting) i ≡ Some c → change_key c ≡ told_key t → ⊥
  twice_there i c at same =
      let there = subst (λ v. 0 < times v (map change_key (own n k.server.waiting))) same (there_by change_key (own n k.server.waiting) i c at) in
      let d = down_there in
      let p = parts in
      let m = at_most in
      omega (arith, there, d, p, m)

  -- of a walk
  pub quiet_walked : (w : Walk) → j.stage ≡ stage.Walking t.xid w → program.Nfs (nfs_proc (next_call w)) ≡ reply_program t.reply → Quiet k n q
  quiet_walked w waits answers = record {
    ups = commits_apart book x.closing x.cut (job h.seat) j h.contents q.ups g.uncut g.job_is (λ i a temp file size at e s. absurd (not_walking a.xid (sym waits ∙ s)), λ i a v at e s. twice_up i a at (key_same a v e (sym waits ∙ s))) h.commits;
    waiting = waiting_apart book x.closing x.cut (job h.seat) j (own n k.server.waiting) g.uncut g.job_is (λ i d content at e s. absurd (not_walking d.xid (sym waits ∙ s)), λ i d a v at e f s. twice_there i d at (asked_same d a v e f (sym waits ∙ s))) h.pending;
  }
    where
      not_walking : (y : ℕ) → stage.Walking t.xid w ≡ stage.Committing y → ⊥
      not_walking y e = absurd cc

      xid_is : (y : ℕ) (v : Walk) → stage.Walking t.xid w ≡ stage.Walking y v → t.xid ≡ y
      xid_is y v e = cc

      walk_is : (y : ℕ) (v : Walk) → stage.Walking t.xid w ≡ stage.Walking y v → w ≡ v
      walk_is y v e = cc

      key_same : (a : Ask) (v : Walk) → a.call ≡ Walks v → stage.Walking t.xid w ≡ stage.Walking a.xid v → ask_key a ≡ told_key t
      key_same a v e s =
          ap (λ (c : Call). ask_key (record { lbfs = a.lbfs; xid = a.xid; call = c })) e
          ∙ ap (λ (y : ℕ). key y (program.Nfs (nfs_proc (next_call v)))) (sym (xid_is a.xid v s))
          ∙ ap (λ (z : Walk). key t.xid (program.Nfs (nfs_proc (next_call z)))) (sym (walk_is a.xid v s))
          ∙ ap (key t.xid) answers

      asked_program : (a : Asked) → wanted_program (wanted.Asked a) ≡ program.Nfs (nfs_proc (next_call (walk_for a)))
      asked_program (asked.Remove r) = refl
      asked_program (asked.Rename r) = refl

      asked_same : (d : FileChange) (a : Asked) (v : Walk) → d.what ≡ wanted.Asked a → AsksFor v a → stage.Walking t.xid w ≡ stage.Walking d.xid v → change_key d ≡ told_key t
      asked_same d a v e f s =
          ap (λ (z : Wanted). key d.xid (wanted_program z)) e
          ∙ ap (λ (y : ℕ). key y (wanted_program (wanted.Asked a))) (sym (xid_is d.xid v s))
          ∙ ap (key t.xid) (asked_program a ∙ ap (λ (z : Walk). program.Nfs (nfs_proc (next_call z))) (sym (walk_is d.xid v s ∙ asked_walk v a f)) ∙ answers)

-- once it is answered
pub quiet_after : (book : Book) (k : Core) (qs : List Queue) (n : ℕ) (x : Session) (q : Queue) (t : Told) (ts : List Told) (j : Job) → Here book k qs n x q t ts j → reply_program t.reply ≡ program.Lb lb_proc.CommitTmp → j.stage ≡ stage.Committing t.xid → Quiet k n q
quiet_after book k qs n x q t ts j g answers waits =
    let h = session_at book k qs n x q t ts j g in
    record {
      ups = commits_apart book x.closing x.cut (job h.seat) j h.contents q.ups g.uncut g.job_is (λ i a temp file size at e s. twice_up book k qs n x q t ts j g i a at (ap (λ (c : Call). ask_key (record { lbfs = a.lbfs; xid = a.xid; call = c })) e ∙ commit_key t a.xid answers (xid_is a.xid s)), λ i a w at e s. not_committing a.xid w (sym waits ∙ s)) h.commits;
      waiting = waiting_apart book x.closing x.cut (job h.seat) j (own n k.server.waiting) g.uncut g.job_is (λ i d content at e s. twice_there book k qs n x q t ts j g i d at (ap (λ (z : Wanted). key d.xid (wanted_program z)) e ∙ commit_key t d.xid answers (xid_is d.xid s)), λ i d a w at e f s. not_committing d.xid w (sym waits ∙ s)) h.pending;
    }
  where
    xid_of : Stage → ℕ
    xid_of (stage.Committing y) = y
    xid_of s = 0

    xid_is : (y : ℕ) → j.stage ≡ stage.Committing y → y ≡ t.xid
    xid_is y s = ap xid_of (sym s ∙ waits)

    not_committing : (y : ℕ) (w : Walk) → stage.Committing t.xid ≡ stage.Walking y w → ⊥
    not_committing y w e = absurd cc

-- what else waits is forgotten
pub forgets : (book : Book) (k : Core) (qs : List Queue) (n : ℕ) (x : Session) (q : Queue) (t : Told) (ts : List Told) (j : Job) → (g : Here book k qs n x q t ts j) → (let calls = client.calls_of (session_at book k qs n x q t ts j g).seat.client in Moves calls (client.without_call calls t.xid) t [])
forgets book k qs n x q t ts j g =
    let h = session_at book k qs n x q t ts j g in
    let b = (h.talk g.uncut).balanced in
    let there = told_there n k.server.waiting q x.hung h.seat.client.next_xid (client.calls_of h.seat.client) 0 t b (ap (λ (l : List Told). slice_get l 0) g.first) in
    moves_ends (client.calls_of h.seat.client) there.0 t there.1 (b.once t.xid)

-- ---- it was refused

abbrev pub refused_op : Op → Traffic → (step status : ℕ) → Op
refused_op o tr step status = record o { end = Some step; outcome = told.Refused status; traffic = tr }

-- a close that has no point yet
pub record Unmade (book : Book) (x : Session) (j : Job) (o : Op) : Type 0 where
  pub known : x.closing ≡ Some j.place
  pub unmade : IsUnmade o

becomes_refused : (book : Book) (o : Op) (p : ℕ) (tr : Traffic) (status : ℕ) → IsUnmade o → Becomes book (Some p) (Some p) p o (refused_op o tr (book.steps + 1) status)
becomes_refused book o p tr status u = record {
  follows = record {
    client = refl;
    word = refl;
    file = λ n w. refl;
    close_file = λ c. refl;
    own_file = λ c n. refl;
    begin = refl;
    point = λ w q e. (e, refl);
    value = λ w. refl;
    unmade = λ n v. absurd (n refl);
    end = λ e s. let is = some_is (book.steps + 1) e s in inr (omega (arith, is));
    running = λ n e. absurd (n refl);
  };
  change_point = λ w. refl;
  change_file = λ w. refl;
  point = λ q e. inl e;
}

right_refused : (book : Book) (place : ℕ) (o : Op) (tr : Traffic) (s : Status) → slice_get book.ops place ≡ Some o → o.word ≡ words.Close → IsRight book o → IsUnmade o → Denied book o s → IsRight (onward book 1 (slice_set book.ops place (refused_op o tr (book.steps + 1) (status_number s)))) (refused_op o tr (book.steps + 1) (status_number s))
right_refused book place o tr s at close r u denied = record {
  cause = by o.word close;
  begun = let b = r.begun in omega (arith, b);
  pointed = λ p e. nothing_there p (sym u.1 ∙ e);
  past = λ e q. let is = some_is (book.steps + 1) e q in let b = r.begun in (omega (arith, b, is), omega (arith, is));
  ends = refl;
  within = λ l p e f. nothing_there p (sym u.1 ∙ f);
  failed = λ w c n. u.1;
}
  where
    more : Book
    more = onward book 1 (slice_set book.ops place (refused_op o tr (book.steps + 1) (status_number s)))

    grows : Grows book more (Some place) (Some place)
    grows = grows_becomes book 1 (Some place) (Some place) place o (refused_op o tr (book.steps + 1) (status_number s)) at (becomes_refused book o place tr (status_number s) u)

    -- as it ends by this word and status
    ended : Word → ℕ → Op
    ended w n = record (refused_op o tr (book.steps + 1) n) { word = w }

    full : NoRoom book o → HasNoRoom more (ended words.Close 28) 28
    full room = record { status_is = refl; pointless = u.1; end = book.steps + 1; end_is = refl; moment = room.moment; there = room.there; session = room.session; now = room.now; bytes = room.bytes; event_is = room.event_is; xid = room.xid; call = room.call; parsed = room.parsed; size = room.size; after = room.after; before = (let b = room.before in omega (arith, b)); waits = room.waits; full = room.full }

    gone : (went : Went book o) → (h : IsGone more (ended words.Close 70) 70) × (h.step ≤ more.steps)
    gone went =
        let le = went.before in (
          record {
            status_is = refl;
            pointless = u.1;
            step = went.step;
            inside = (went.after, λ e end. (let is = some_is (book.steps + 1) e end in omega (arith, le, is)));
            value_is = value_later book more (Some place) (Some place) o.file went.step grows (omega (arith, le)) ∙ went.value_is;
          },
          omega (arith, le),
        )

    by : (w : Word) → w ≡ words.Close → RefusedBy more (ended w (status_number s)) w (status_number s)
    by words.Close e = elim denied [
      | inl room ↦ subst (λ (z : Status). RefusedBy more (ended words.Close (status_number z)) words.Close (status_number z)) (sym room.1) (inl (full room.0))
      | inr went ↦ subst (λ (z : Status). RefusedBy more (ended words.Close (status_number z)) words.Close (status_number z)) (sym went.1) (inr (gone went.0))
    ]
    by _ e = absurd cc

-- a temporary file, or a commit, was refused
pub stops_refused : (book : Book) (k : Core) (qs : List Queue) (n : ℕ) (x : Session) (q : Queue) (t : Told) (ts : List Told) (j : Job) (g : Here book k qs n x q t ts j) (tr : Traffic) (s : Status) → Quiet k n q → EndsAt j t → stage_word j.stage ≡ words.Close
    → (let h = session_at book k qs n x q t ts j g in
    let of = job_op book k qs x h.seat j g.kept h.owner g.job_is in
    Denied book of.op s → Unmade book x j of.op → Stops book k qs n x q t ts j g (refused_op of.op tr (book.steps + 1) (status_number s)) (Some j.place) h.seat.client.opened (client.without_call (client.calls_of h.seat.client) t.xid))
stops_refused book k qs n x q t ts j g tr s quiet over close denied u =
    let h = session_at book k qs n x q t ts j g in
    let of = job_op book k qs x h.seat j g.kept h.owner g.job_is in
    record {
      quiet = quiet;
      moves = forgets book k qs n x q t ts j g;
      becomes = becomes_refused book of.op j.place tr (status_number s) u.unmade;
      right = right_refused book j.place of.op tr s of.there (of.word ∙ close) (g.kept.sound.rights j.place of.op of.there) u.unmade denied;
      stops = λ e. absurd cc;
      over = over;
      made_here = λ p e. u.known ∙ e;
      opened_ok = (g.kept.seats x.owner h.seat h.owner).opened;
    }

-- ---- its change was made

abbrev pub closed_op : Op → Traffic → (step version : ℕ) → Op
closed_op o tr step version = record o { end = Some step; outcome = told.Closed version (length o.value) (sha1 o.value); traffic = tr }

becomes_closed : (book : Book) (o : Op) (p q : ℕ) (tr : Traffic) (version : ℕ) → o.word ≡ words.Close → o.point ≡ Some q → Becomes book None (Some p) p o (closed_op o tr (book.steps + 1) version)
becomes_closed book o p q tr version w point = record {
  follows = record {
    client = refl;
    word = refl;
    file = λ n w. refl;
    close_file = λ c. refl;
    own_file = λ c n. refl;
    begin = refl;
    point = λ w q e. (e, refl);
    value = λ w. refl;
    unmade = λ n v. nothing_there q (sym v.1 ∙ point);
    end = λ e s. let is = some_is (book.steps + 1) e s in inr (omega (arith, is));
    running = λ n e. absurd (n refl);
  };
  change_point = λ w. refl;
  change_file = λ w. refl;
  point = λ q e. inl e;
}

pub stops_closed : (book : Book) (k : Core) (qs : List Queue) (n : ℕ) (x : Session) (q : Queue) (t : Told) (ts : List Told) (j : Job) (g : Here book k qs n x q t ts j) (tr : Traffic) (version : ℕ) → Quiet k n q → j.stage ≡ stage.Committing t.xid → IsMade book j.place version
    → (let h = session_at book k qs n x q t ts j g in
    let of = job_op book k qs x h.seat j g.kept h.owner g.job_is in
    Stops book k qs n x q t ts j g (closed_op of.op tr (book.steps + 1) version) None (client.without_local h.seat.client.opened j.file) (client.without_call (client.calls_of h.seat.client) t.xid))
stops_closed book k qs n x q t ts j g tr version quiet waits made =
    let h = session_at book k qs n x q t ts j g in
    let of = job_op book k qs x h.seat j g.kept h.owner g.job_is in
    let same : made.0 ≡ of.op = some_is made.0 of.op (sym made.2 ∙ of.there) in
    let word : of.op.word ≡ words.Close = ap (λ (z : Op). z.word) (sym same) ∙ made.3 in
    let point : of.op.point ≡ Some made.1 = ap (λ (z : Op). z.point) (sym same) ∙ made.4 in
    let became = becomes_closed book of.op j.place made.1 tr version word point in
    let more = onward book 1 (slice_set book.ops j.place (closed_op of.op tr (book.steps + 1) version)) in
    let grows = grows_becomes book 1 None (Some j.place) j.place of.op (closed_op of.op tr (book.steps + 1) version) of.there became in
    let r = g.kept.sound.rights j.place of.op of.there in
    let begun = (r.pointed made.1 point).0 in
    let le = made.5 in
    record {
      quiet = quiet;
      moves = forgets book k qs n x q t ts j g;
      becomes = became;
      right = record {
        cause = (
          word,
          record {
            length_is = refl;
            digest_is = refl;
            point = made.1;
            within = (point, begun, (book.steps + 1, refl, omega (arith, le)));
            entered = entered_later book more None (Some j.place) of.op.file made.1 version (length of.op.value) (sha1 of.op.value) grows (subst (λ (z : Op). Rattle.kept_promise.proofs.Rights.IsEnteredIf book z.file made.1 version (length z.value) (sha1 z.value)) same made.6);
          },
        );
        begun = let b = r.begun in omega (arith, b);
        pointed = λ p e. let here = some_is made.1 p (sym point ∙ e) in (omega (arith, begun, here), omega (arith, le, here), ap may_point word);
        past = λ e s. let is = some_is (book.steps + 1) e s in let b = r.begun in (omega (arith, b, is), omega (arith, is));
        ends = refl;
        within = λ l p e f s. let here = some_is made.1 p (sym point ∙ f) in let is = some_is (book.steps + 1) e s in omega (arith, le, here, is);
        failed = λ w c z. absurd (not_both (sym (ap (λ (v : Word). success v of.op.file (told.Closed version (length of.op.value) (sha1 of.op.value))) word) ∙ c));
      };
      stops = λ e. absurd cc;
      over = inr (inl waits);
      made_here = λ p e. nothing_there p e;
      opened_ok = λ f l at. (g.kept.seats x.owner h.seat h.owner).opened f l (was_open h.seat.client.opened f l at);
    }
  where
    not_both : true ≡ false → ⊥
    not_both e = absurd cc

    was_open : (es : List (ℕ × Local)) (f : ℕ) (l : Local) → client.local_at (client.without_local es j.file) f ≡ Some l → client.local_at es f ≡ Some l
    was_open es f l at = elim (same_or_not f j.file) [
      | inl same ↦ nothing_there l (sym (without_at_itself es j.file) ∙ ap (client.local_at (client.without_local es j.file)) (sym same) ∙ at)
      | inr apart ↦ sym (without_at_another es j.file f apart) ∙ at
    ]
