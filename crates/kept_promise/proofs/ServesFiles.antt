-- A call is taken: of one on a file nothing is made in that step, so that the operations and the entries are as they were; of a walk's last call something may be.
use Rattle.std.proofs.Common.{◌≡◌, ℕ, ◌+◌, ◌-◌, List, [], ◌∷◌, ◌++◌, length, length-append, drop, append-nil, arith, Option, Some, None, Result, Ok, Err, Bool, true, false, refl, ap, ◌∙◌, replicate, if◌then◌else◌}
use Rattle.xdr_codec.specs.declared.answer.Answer.TheVariants.{Failed}
use Rattle.xdr_codec.specs.declared.status.Status.{Status}
use Rattle.xdr_codec.specs.declared.status.Status.TheVariants as status
use Rattle.hash_calls.specs.declared.message.Lb.TheVariants as lb
use Rattle.nfs3_calls.specs.declared.message.Nfs.TheVariants as nfs
use Rattle.wire.specs.declared.message.Body.{Body}
use Rattle.wire.specs.declared.message.Body.TheVariants as body
use Rattle.wire.specs.declared.message.Message.{Message}
use Rattle.wire.specs.declared.message.Message.TheVariants as message
use Rattle.server_core.specs.State as server
use Rattle.server_core.specs.declared.event.Event.TheVariants as event
use Rattle.server_core.specs.declared.event.ServerStep.{ServerStep}
use Rattle.server_core.specs.declared.journal.Entry.{Entry}
use Rattle.server_core.specs.declared.change.Wanted.TheVariants as wanted
use Rattle.chunk_calls.specs.Answers.{Node, directory, file, node_of}
use Rattle.server_core.specs.Closing.{answers, looked_up as index_found}
use Rattle.temp_files.specs.Temps.{without_temp}
use Rattle.trace_ends.specs.Core.{newest_entries, server_got, changed_file}
use Rattle.trace_ends.specs.Ops.{pointed_at}
use Rattle.kept_promise.proofs.Common.{size_most, room_fault, piece_fault, temp_at, Temp, assembled, nat_lt, Op, File, at, is_full, has_waiting, cond_fault, bytes_known, makes, makes_unless, writes_unless, names_unless, names_bytes, takes_commit, takes_commit_on, commits_whole, server_step, stands, got_if, called, Core, Session, CoreStep, with_numbered, quiet, taken_with, change_of}
use Rattle.server_core.specs.Recalling.{comes}
use Rattle.server_core.specs.Closing.{entries_by, count_of}
use Rattle.tree_reading.specs.declared.entry.Entry.{Entry as TreeEntry}
use Rattle.tree_reading.specs.Tree.{Tree}
use Rattle.tree_calls.specs.declared.asked.Done.{Done}
use Rattle.path_calls.specs.Walk.{next_call}
use Rattle.path_calls.specs.declared.walk.Walk.{Walk}
use Rattle.kept_promise.proofs.PathNames.{IsWalkSmall, is_building}
use Rattle.kept_promise.proofs.Makings.{made_by, called_making}
use Rattle.kept_promise.proofs.CallsKeep.{IsOfFiles}
use Rattle.kept_promise.proofs.Turns.{unnoted}

-- ---- nothing is made

-- so many entries a step makes
abbrev Makes : ServerStep → ℕ → Type 0
Makes r n = r.entries ≡ n

commits_none : (s : server.State) (session xid size : ℕ) (t : Temp) (nd : Result Node Status) → Makes (takes_commit_on s session xid size t nd).1 0
commits_none s session xid size t (Err e) = refl
commits_none s session xid size t (Ok directory) = refl
commits_none s session xid size t (Ok (file f)) = by (nat_lt size_most size)
  where
    waits : (content : List ℕ) (a b : Bool) → (let r : server.State × ServerStep = if a then answers s session xid (lb.CommitTmpAnswer (Failed status.Jukebox tt)) else if b then answers s session xid (lb.CommitTmpAnswer (Failed status.NoSpc tt)) else comes s (change_of session xid f.id (wanted.Content content)) in Makes r.1 0)
    waits content true b = refl
    waits content false true = refl
    waits content false false = refl

    whole : (o : Option (List ℕ)) → Makes (commits_whole s session xid f.id o).1 0
    whole None = refl
    whole (Some content) = waits content (has_waiting s.waiting session) (is_full s (length content))

    by : (b : Bool) → (let r : server.State × ServerStep = if b then answers s session xid (lb.CommitTmpAnswer (Failed status.FBig tt)) else commits_whole s session xid f.id (assembled t size) in Makes r.1 0)
    by true = refl
    by false = whole (assembled t size)

called_none : (s : server.State) (session xid : ℕ) (b : Body) → IsOfFiles (message.Call xid b) → Makes (called s session xid b).1 0
called_none s session xid (body.Lb (lb.MkTmpFile a)) plain = by (node_of s.tree a.handle)
  where
    room : (f : File) (o : Option Status) → Makes (makes_unless s session xid a.fd f.id o).1 0
    room f (Some e) = refl
    room f None = refl

    by : (nd : Result Node Status) → Makes (makes s session xid a.fd nd).1 0
    by (Err e) = refl
    by (Ok directory) = refl
    by (Ok (file f)) = room f (room_fault s.temps session a.fd)
called_none s session xid (body.Lb (lb.TmpWrite a)) plain = by (temp_at s.temps session a.fd) (piece_fault (temp_at s.temps session a.fd) a.offset (length a.bytes))
  where
    by : (t : Option Temp) (o : Option Status) → Makes (writes_unless s session xid a t o).1 0
    by (Some t) None = refl
    by (Some t) (Some e) = refl
    by None o = refl
called_none s session xid (body.Lb (lb.CondWrite a)) plain = by (temp_at s.temps session a.fd) (cond_fault a (temp_at s.temps session a.fd))
  where
    taken : (t : Option Temp) (o : Option (List ℕ)) → Makes (names_bytes (index_found s a) session xid a t o).1 0
    taken (Some t) (Some bytes) = refl
    taken (Some t) None = refl
    taken None o = refl

    by : (t : Option Temp) (o : Option Status) → Makes (names_unless s session xid a t o).1 0
    by t (Some e) = refl
    by t None = taken t (bytes_known s.tree a _)
called_none s session xid (body.Lb (lb.CommitTmp a)) plain = by (temp_at s.temps session a.fd)
  where
    by : (t : Option Temp) → Makes (takes_commit s session xid a t).1 0
    by None = refl
    by (Some t) = commits_none (record s { temps = without_temp s.temps session a.fd }) session xid a.size t (node_of s.tree a.handle)
called_none s session xid (body.Nfs nfs.Null) plain = refl
called_none s session xid (body.Nfs (nfs.Read r)) plain = refl
called_none s session xid (body.Nfs (nfs.Lookup p)) plain = refl
called_none s session xid (body.Nfs (nfs.GetAttr h)) plain = refl
called_none s session xid (body.Nfs (nfs.ReadDir l)) plain = refl
called_none s session xid (body.Nfs m) plain = absurd plain
called_none s session xid b plain = refl

got_none : (s : server.State) (session : ℕ) (m : Message) (now : ℕ) → IsOfFiles m → (b : Bool) → Makes (got_if s b session m now).1 0
got_none s session (message.Call xid b) now plain true = called_none (at s now) session xid b plain
got_none s session (message.Unfit xid why) now plain true = refl
got_none s session (message.Answer xid b) now plain true = refl
got_none s session (message.Refuse xid why) now plain true = refl
got_none s session m now plain false = refl

-- ---- what the journal has more then

drop_all : {A : Type 0} (xs : List A) → drop (length xs) xs ≡ []
drop_all [] = refl
drop_all (x ∷ xs) = drop_all xs

-- where none was made nothing was changed
pub none_newest : (journal : List Entry) (made : ℕ) → made ≡ 0 → changed_file (newest_entries journal made) ≡ None
none_newest journal made none = let all : length journal - made ≡ length journal = omega (arith, none) in ap (λ (n : ℕ). changed_file (drop n journal)) all ∙ ap changed_file (drop_all journal)

drop_more : {A : Type 0} (xs ys : List A) → drop (length xs) (xs ++ ys) ≡ ys
drop_more [] ys = refl
drop_more (x ∷ xs) ys = drop_more xs ys

-- those that were appended, where these are so many
pub newest_more : (journal es : List Entry) (made : ℕ) → made ≡ length es → newest_entries (journal ++ es) made ≡ es
newest_more journal es made is =
    let sum = length-append journal es in
    let behind : length (journal ++ es) - made ≡ length journal = omega (arith, sum, is) in
    ap (λ (n : ℕ). drop n (journal ++ es)) behind ∙ drop_more journal es

-- the one that was
pub newest_one : (journal : List Entry) (e : Entry) → changed_file (newest_entries (journal ++ e ∷ []) 1) ≡ changed_file (e ∷ [])
newest_one journal e = ap changed_file (newest_more journal (e ∷ []) 1 refl)

-- as many as a change tells
pub count_is : (n : ℕ) (first second : Option TreeEntry) → count_of first second ≡ length (entries_by n first second)
count_is n None None = refl
count_is n None (Some y) = refl
count_is n (Some x) None = refl
count_is n (Some x) (Some y) = refl

pub pointed_none : (ops : List Op) (place : Option ℕ) (step : ℕ) → pointed_at ops place step None ≡ ops
pointed_none ops None step = refl
pointed_none ops (Some p) step = refl

-- ---- the step

-- what a message does at the server that leaves the operations and the entries as they were
abbrev pub quiet_got : Core → (n now : ℕ) → Session → Message → CoreStep
quiet_got k n now x m =
    let r = server_step k.server (event.Got n m now) in
    record (quiet (record k { steps = k.steps + 1; server = r.0; sessions = with_numbered k.sessions n (record x { taken = taken_with x.taken m (k.steps + 1) }) })) { down = r.1.send }

pub got_quiet : (k : Core) (n now : ℕ) (x : Session) (m : Message) → IsOfFiles m → unnoted k (server_got k n now x m) ≡ quiet_got k n now x m
got_quiet k n now x m plain = ap (λ (o : List Op). with_both o (k.entries ++ replicate r.1.entries (k.steps + 1))) ops_same ∙ ap (with_both k.ops) entries_same
  where
    r : server.State × ServerStep
    r = server_step k.server (event.Got n m now)

    with_both : List Op → List ℕ → CoreStep
    with_both ops entries = record (quiet (record k { steps = k.steps + 1; server = r.0; sessions = with_numbered k.sessions n (record x { taken = taken_with x.taken m (k.steps + 1) }); ops = ops; entries = entries })) { down = r.1.send }

    ops_same : pointed_at k.ops x.closing (k.steps + 1) (changed_file (newest_entries r.0.journal r.1.entries)) ≡ k.ops
    ops_same = ap (pointed_at k.ops x.closing (k.steps + 1)) (none_newest r.0.journal r.1.entries (got_none k.server n m now plain (stands k.server n))) ∙ pointed_none k.ops x.closing (k.steps + 1)

    entries_same : k.entries ++ replicate r.1.entries (k.steps + 1) ≡ k.entries
    entries_same = ap (λ (i : ℕ). k.entries ++ replicate i (k.steps + 1)) (got_none k.server n m now plain (stands k.server n)) ∙ append-nil k.entries

-- ---- a call that makes or removes something

-- what the server does with what its tree made of it
abbrev pub making_got : Core → (n now : ℕ) → Session → (xid : ℕ) → Tree × Done → CoreStep
making_got k n now x xid p =
    let es = entries_by n p.1.first p.1.second in
    record (quiet (record k {
      steps = k.steps + 1;
      server = record (at k.server now) { tree = p.0; journal = k.server.journal ++ es };
      sessions = with_numbered k.sessions n (record x { taken = x.taken ++ record { xid = xid; step = k.steps + 1 } ∷ [] });
      ops = pointed_at k.ops x.closing (k.steps + 1) (changed_file es);
      entries = k.entries ++ replicate (count_of p.1.first p.1.second) (k.steps + 1);
    })) { down = record { session = n; message = message.Answer xid (body.Nfs p.1.answer) } ∷ [] }

pub got_making : (k : Core) (n now : ℕ) (x : Session) (xid : ℕ) (w : Walk) → IsWalkSmall w → is_building w ≡ true → stands k.server n ≡ true → unnoted k (server_got k n now x (message.Call xid (body.Nfs (next_call w)))) ≡ making_got k n now x xid (made_by k.server.tree (server.held k.server.waiting) w.dir w.goal)
got_making k n now x xid w small making standing =
    ap (λ (b : Bool). did (got_if k.server b n (message.Call xid (body.Nfs (next_call w))) now)) standing
    ∙ ap did (called_making (at k.server now) n xid w small making)
    ∙ ap (λ (l : List Entry). with_ops (pointed_at k.ops x.closing (k.steps + 1) (changed_file l))) (newest_more k.server.journal (entries_by n p.1.first p.1.second) (count_of p.1.first p.1.second) (count_is n p.1.first p.1.second))
  where
    p : Tree × Done
    p = made_by k.server.tree (server.held k.server.waiting) w.dir w.goal

    did : server.State × ServerStep → CoreStep
    did r = record (quiet (record k {
      steps = k.steps + 1;
      server = r.0;
      sessions = with_numbered k.sessions n (record x { taken = x.taken ++ record { xid = xid; step = k.steps + 1 } ∷ [] });
      ops = pointed_at k.ops x.closing (k.steps + 1) (changed_file (newest_entries r.0.journal r.1.entries));
      entries = k.entries ++ replicate r.1.entries (k.steps + 1);
    })) { down = r.1.send }

    with_ops : List Op → CoreStep
    with_ops ops = record (making_got k n now x xid p) { core = record (making_got k n now x xid p).core { ops = ops } }
