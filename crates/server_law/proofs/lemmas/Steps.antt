-- At each step of the server its tree holds what its journal says, whatever the store does.
use Rattle.std.proofs.Common.{◌≡◌, refl, sym, ap, ◌∙◌, subst, ℕ, ◌+◌, List, [], ◌∷◌, ◌++◌, length, Option, Some, None, Result, Ok, Err, Bool, true, false, arith, if◌then◌else◌}
use Rattle.std.specs.Prelude.{nat_lt}
use Rattle.std.proofs.lemmas.List.{append-nil, length-append}
use Rattle.xdr_codec.specs.declared.status.Status.{Status}
use Rattle.xdr_codec.specs.declared.status.Status.TheVariants as status
use Rattle.xdr_codec.specs.declared.answer.Answer.TheVariants.{Failed}
use Rattle.hash_calls.specs.declared.call.Commit.{Commit}
use Rattle.hash_calls.specs.declared.call.CondPiece.{CondPiece}
use Rattle.hash_calls.specs.declared.call.TempPiece.{TempPiece}
use Rattle.hash_calls.specs.declared.message.Lb.TheVariants as lb
use Rattle.nfs3_calls.specs.declared.message.Nfs.{Nfs}
use Rattle.nfs3_calls.specs.declared.message.Nfs.TheVariants as nfs
use Rattle.wire.specs.declared.message.Body.{Body}
use Rattle.wire.specs.declared.message.Body.TheVariants as body
use Rattle.wire.specs.declared.message.Message.{Message}
use Rattle.wire.specs.declared.message.Message.TheVariants as message
use Rattle.temp_files.specs.Pieces.{size_most}
use Rattle.temp_files.specs.Temps.{Temp, temp_at, room_fault, piece_fault, without_temp, assembled}
use Rattle.tree_reading.specs.Tree.{Tree}
use Rattle.tree_reading.specs.declared.entry.Entry.{Entry as TreeEntry}
use Rattle.tree_calls.specs.declared.asked.Outcome.{Outcome}
use Rattle.tree_calls.specs.declared.asked.Outcome.TheVariants.{Answered, Waits}
use Rattle.tree_calls.specs.Waiting.{calls_under, gives_content_under, settles_under as tree_settles_under}
use Rattle.server_core.specs.declared.change.Wanted.{Wanted}
use Rattle.server_core.specs.declared.change.Wanted.TheVariants as wanted
use Rattle.server_core.specs.declared.event.Event.{Event}
use Rattle.server_core.specs.declared.event.Event.TheVariants as event
use Rattle.server_core.specs.declared.journal.Entry.{Entry}
use Rattle.chunk_calls.specs.Answers.{Node, directory, file, node_of}
use Rattle.server_core.specs.Closing.{answers, at, entries_by, has_waiting, is_full, makes, makes_unless, writes, writes_unless, names, names_unless, names_bytes, looked_up, takes_commit, takes_commit_on, commits_whole, makes_change_under, ready_by, settles_by}
use Rattle.chunk_calls.specs.Writing.{cond_fault}
use Rattle.callback_core.specs.Waits.{without}
use Rattle.server_core.specs.declared.event.ServerStep.{ServerStep}
use Rattle.server_core.specs.Recalling.{comes, term_at}
use Rattle.server_core.specs.State.{State, FileChange, change_of, held}
use Rattle.server_core.specs.Step.{connect, has_room, called_under, asks, asks_tree, is_recalled, hears, got_under, got_if_under, stands, hangs_if, server_step_under, server_step, Misses, nothing, lacks, missed_at, with_index, gives_up}
use Rattle.server_law.specs.Facts.{Fact, fact_at, fact_after, facts_after, AreNext, Holds}
use Rattle.server_law.proofs.Calls.{TellsOutcome, tells_calls, tells_settles, tells_commits}
use Rattle.server_law.proofs.Facts.{IsTelling}
use Rattle.server_law.proofs.lemmas.TreeCalls.{calls_keep_under, settles_keep_under, commits_keep_under}
use Rattle.server_law.proofs.lemmas.Trees.{IsGiven}
use Rattle.server_law.proofs.lemmas.Growth.{missed_same}

-- ---- entries more

facts_more : (id : ℕ) (o : Option Fact) (xs ys : List Entry) → facts_after id o (xs ++ ys) ≡ facts_after id (facts_after id o xs) ys
facts_more id o [] ys = refl
facts_more id o (x ∷ xs) ys = facts_more id (fact_after id o x) xs ys

next_more : (before : ℕ → Option Fact) (xs ys : List Entry) → AreNext before xs → AreNext (λ id. facts_after id (before id) xs) ys → AreNext before (xs ++ ys)
next_more before [] ys a b = b
next_more before (x ∷ xs) ys a b = (a.0, next_more (λ id. fact_after id (before id) x) xs ys a.1 b)

-- one whose tree and journal are the same
same : (opening : Tree) (s n : State) → n.tree ≡ s.tree → n.journal ≡ s.journal → Holds opening s → Holds opening n
same opening s n a b h = record {
  told = record {
    facts = λ id. ap (λ (t : Tree). fact_at t id) a ∙ h.told.facts id ∙ ap (λ (es : List Entry). facts_after id (fact_at opening id) es) (sym b);
    versions = subst (λ (es : List Entry). AreNext (fact_at opening) es) (sym b) h.told.versions;
    counted = ap (λ (t : Tree). t.changes) a ∙ h.told.counted ∙ ap (λ (es : List Entry). opening.changes + length es) (sym b);
  };
  given = subst IsGiven (sym a) h.given;
}

more : (opening : Tree) (s n : State) (session : ℕ) (first second : Option TreeEntry) → IsTelling s.tree session first second n.tree → n.journal ≡ s.journal ++ entries_by session first second → IsGiven n.tree → Holds opening s → Holds opening n
more opening s n session first second t b given h = record {
  told = record {
    facts = λ id.
        t.facts id
        ∙ ap (λ (o : Option Fact). facts_after id o (entries_by session first second)) (h.told.facts id)
        ∙ sym (facts_more id (fact_at opening id) s.journal (entries_by session first second))
        ∙ ap (λ (es : List Entry). facts_after id (fact_at opening id) es) (sym b);
    versions = subst (λ (es : List Entry). AreNext (fact_at opening) es) (sym b)
        (next_more (fact_at opening) s.journal (entries_by session first second) h.told.versions
        (subst (λ (f : ℕ → Option Fact). AreNext f (entries_by session first second)) (λ i id. h.told.facts id i) t.versions));
    counted =
        let p = t.counted in
        let q = h.told.counted in
        let long : length n.journal ≡ length s.journal + length (entries_by session first second) = ap length b ∙ length-append s.journal (entries_by session first second) in
        omega (arith, p, q, long);
  };
  given = given;
}

-- ---- the calls of LBFS leave both

module _ (opening : Tree) (s : State) (fault : Bool) (h : Holds opening s) where
  kept : (n : State) → n.tree ≡ s.tree → n.journal ≡ s.journal → Holds opening n
  kept n a b = same opening s n a b h

  makes_kept : (session xid fd : ℕ) (n : Result Node Status) → Holds opening (makes s session xid fd n).0
  makes_kept session xid fd (Err e) = h
  makes_kept session xid fd (Ok directory) = h
  makes_kept session xid fd (Ok (file f)) = by (room_fault s.temps session fd)
    where
      by : (o : Option Status) → Holds opening (makes_unless s session xid fd f.id o).0
      by (Some e) = h
      by None = kept (makes_unless s session xid fd f.id None).0 refl refl

  writes_kept : (session xid : ℕ) (a : TempPiece) (t : Option Temp) → Holds opening (writes s session xid a t).0
  writes_kept session xid a t = by t (piece_fault t a.offset (length a.bytes))
    where
      by : (t : Option Temp) (o : Option Status) → Holds opening (writes_unless s session xid a t o).0
      by (Some t) None = kept (writes_unless s session xid a (Some t) None).0 refl refl
      by (Some t) (Some e) = h
      by None o = h

  names_kept : (session xid : ℕ) (a : CondPiece) (t : Option Temp) → Holds opening (names s session xid a t).0
  names_kept session xid a t = by (cond_fault a t)
    where
      bytes_kept : (t : Option Temp) (o : Option (List ℕ)) → Holds opening (names_bytes (looked_up s a) session xid a t o).0
      bytes_kept (Some t) (Some bytes) = kept (names_bytes (looked_up s a) session xid a (Some t) (Some bytes)).0 refl refl
      bytes_kept (Some t) None = kept (looked_up s a) refl refl
      bytes_kept None o = kept (looked_up s a) refl refl

      by : (o : Option Status) → Holds opening (names_unless s session xid a t o).0
      by (Some e) = h
      by None = bytes_kept t _

  whole_kept : (n : State) → Holds opening n → (session xid id : ℕ) (o : Option (List ℕ)) → Holds opening (commits_whole n session xid id o).0
  whole_kept n g session xid id None = g
  whole_kept n g session xid id (Some content) = by (has_waiting n.waiting session) (is_full n (length content))
    where
      waits : State × ServerStep
      waits = comes n (change_of session xid id (wanted.Content content))

      by : (b c : Bool) → Holds opening (if b then answers n session xid (lb.CommitTmpAnswer (Failed status.Jukebox tt)) else if c then answers n session xid (lb.CommitTmpAnswer (Failed status.NoSpc tt)) else waits).0
      by true c = g
      by false true = g
      by false false = same opening n waits.0 refl refl g

  commits_kept : (session xid : ℕ) (a : Commit) (t : Option Temp) → Holds opening (takes_commit s session xid a t).0
  commits_kept session xid a None = h
  commits_kept session xid a (Some t) = by (node_of s.tree a.handle)
    where
      left : State
      left = record s { temps = without_temp s.temps session a.fd }

      g : Holds opening left
      g = kept left refl refl

      sized : (id : ℕ) (b : Bool) → Holds opening (if b then answers left session xid (lb.CommitTmpAnswer (Failed status.FBig tt)) else commits_whole left session xid id (assembled t a.size)).0
      sized id true = g
      sized id false = whole_kept left g session xid id (assembled t a.size)

      by : (n : Result Node Status) → Holds opening (takes_commit_on left session xid a.size t n).0
      by (Err e) = g
      by (Ok directory) = g
      by (Ok (file f)) = sized f.id (nat_lt size_most a.size)

  -- ---- those of NFS

  asks_told : (session xid : ℕ) (t : Tree) (o : Option Outcome) → TellsOutcome s.tree session t o → IsGiven t → Holds opening (asks (record s { tree = t }) session xid o).0
  asks_told session xid t None tells given = more opening s (record s { tree = t }) session None None tells (sym (append-nil s.journal)) given h
  asks_told session xid t (Some (Answered d)) tells given = more opening s (asks (record s { tree = t }) session xid (Some (Answered d))).0 session d.first d.second tells refl given h
  asks_told session xid t (Some (Waits a)) tells given = more opening s (asks (record s { tree = t }) session xid (Some (Waits a))).0 session None None tells (sym (append-nil s.journal)) given h

  calls_told : (session xid : ℕ) (m : Nfs) → Holds opening (asks_tree s session xid (calls_under s.tree (held s.waiting) (has_waiting s.waiting session) fault m)).0
  calls_told session xid m =
      let p : Tree × Option Outcome = calls_under s.tree (held s.waiting) (has_waiting s.waiting session) fault m in
      asks_told session xid p.0 p.1 (tells_calls s.tree session (held s.waiting) fault h.given (has_waiting s.waiting session) m) (calls_keep_under s.tree (held s.waiting) fault (has_waiting s.waiting session) m h.given).0

  -- ---- any call

  called_told : (session xid : ℕ) (b : Body) → Holds opening (called_under s fault session xid b).0
  called_told session xid (body.Lb (lb.GetLease z)) = kept (called_under s fault session xid (body.Lb (lb.GetLease z))).0 refl refl
  called_told session xid (body.Lb (lb.GetHash r)) = kept (called_under s fault session xid (body.Lb (lb.GetHash r))).0 refl refl
  called_told session xid (body.Lb (lb.MkTmpFile a)) = makes_kept session xid a.fd (node_of s.tree a.handle)
  called_told session xid (body.Lb (lb.TmpWrite a)) = writes_kept session xid a (temp_at s.temps session a.fd)
  called_told session xid (body.Lb (lb.CondWrite a)) = names_kept session xid a (temp_at s.temps session a.fd)
  called_told session xid (body.Lb (lb.CommitTmp a)) = commits_kept session xid a (temp_at s.temps session a.fd)
  called_told session xid (body.Lb m) = h
  called_told session xid (body.Nfs nfs.Null) = h
  called_told session xid (body.Nfs (nfs.Read r)) = h
  called_told session xid (body.Nfs m) = calls_told session xid m
  called_told session xid (body.Back m) = h

  got_told : (session : ℕ) (m : Message) → Holds opening (got_under s fault session m).0
  got_told session (message.Call xid b) = called_told session xid b
  got_told session (message.Unfit xid why) = h
  got_told session (message.Answer xid b) = kept (hears s session xid (is_recalled b)).0 refl refl
  got_told session (message.Refuse xid why) = kept (hears s session xid false).0 refl refl

  -- ---- a change that waited

  change_told : (c : FileChange) (w : Wanted) → Holds opening (makes_change_under s fault c w).0
  change_told c (wanted.Content content) =
      more opening s (makes_change_under s fault c (wanted.Content content)).0 c.session (gives_content_under s.tree (held s.waiting) fault c.file content (term_at s c.file)).1.entry None (tells_commits s.tree c.session (held s.waiting) fault h.given c.file content (term_at s c.file)) refl (commits_keep_under s.tree (held s.waiting) fault c.file content (term_at s c.file) h.given).0 h
  change_told c (wanted.Asked a) =
      more opening s (makes_change_under s fault c (wanted.Asked a)).0 c.session (tree_settles_under s.tree (held s.waiting) fault a).1.first (tree_settles_under s.tree (held s.waiting) fault a).1.second (tells_settles s.tree c.session (held s.waiting) fault h.given a) refl (settles_keep_under s.tree (held s.waiting) fault a h.given).0 h

-- ---- any event

-- a moment, and what waits, are no part of it
settle_told : (opening : Tree) (s : State) (fault : Bool) (now : ℕ) (next : Option FileChange) → Holds opening s → Holds opening (settles_by s fault now next).0
settle_told opening s fault now None h = h
settle_told opening s fault now (Some c) h =
    let n : State = at (record s { waiting = without s.waiting c.session }) now in
    change_told opening n fault (same opening s n refl refl h) c c.what

pub step_told : (opening : Tree) (s : State) (fault : Bool) (e : Event) → Holds opening s → Holds opening (server_step_under s fault e).0
step_told opening s fault event.Connect h = by (has_room s)
  where
    by : (b : Bool) → Holds opening (connect s b).0
    by true = same opening s (connect s true).0 refl refl h
    by false = h
step_told opening s fault (event.Got session m now) h = by (stands s session)
  where
    by : (b : Bool) → Holds opening (got_if_under s fault b session m now).0
    by true = got_told opening (at s now) fault (same opening s (at s now) refl refl h) session m
    by false = h
step_told opening s fault (event.Settle now) h = settle_told opening s fault now (ready_by s now) h
step_told opening s fault (event.Hang session) h = by (stands s session)
  where
    by : (b : Bool) → Holds opening (hangs_if s b session).0
    by true = same opening s (hangs_if s true session).0 refl refl h
    by false = h

-- the leases of a session are no part of it either
pub gives_up_told : (opening : Tree) (s : State) (session : ℕ) → Holds opening s → Holds opening (gives_up s session)
gives_up_told opening s session h = same opening s (gives_up s session) refl refl h

-- before any entry a tree holds what it opened with
pub opening_told : (s : State) → s.journal ≡ [] → IsGiven s.tree → Holds s.tree s
opening_told s none given = record {
  told = record {
    facts = λ id. ap (λ (es : List Entry). facts_after id (fact_at s.tree id) es) (sym none);
    versions = subst (λ (es : List Entry). AreNext (fact_at s.tree) es) (sym none) tt;
    counted = let long : length s.journal ≡ 0 = ap length none in omega (arith, long);
  };
  given = given;
}

-- ---- running out of memory

missed_tree : (s : State) (e : Event) → (missed_at s e).tree ≡ s.tree
missed_tree s event.Connect = refl
missed_tree s (event.Got session (message.Call xid (body.Lb (lb.CondWrite a))) now) = refl
missed_tree s (event.Got session (message.Call xid (body.Lb m)) now) = refl
missed_tree s (event.Got session (message.Call xid (body.Nfs m)) now) = refl
missed_tree s (event.Got session (message.Call xid (body.Back m)) now) = refl
missed_tree s (event.Got session (message.Unfit xid why) now) = refl
missed_tree s (event.Got session (message.Answer xid b) now) = refl
missed_tree s (event.Got session (message.Refuse xid why) now) = refl
missed_tree s (event.Settle now) = refl
missed_tree s (event.Hang session) = refl

pub misses_told : (opening : Tree) (s : State) (e : Event) (n : State) (step : ServerStep) → Misses s e n step → Holds opening s → Holds opening n
misses_told opening s e n step (nothing may is said) h =
    same opening s n (ap (λ (x : State). x.tree) is ∙ missed_tree s e) (ap (λ (x : State). x.journal) is ∙ missed_same s e) h
misses_told opening s e n step (lacks l) h = same opening (server_step s e).0 n (ap (λ (x : State). x.tree) l.2) (ap (λ (x : State). x.journal) l.2) (step_told opening s false e h)
