-- A remove, or a rename over a file, that waited is settled: by what its tree makes of it.
use Rattle.std.proofs.Common.{inl, inr, ◌≡◌, ℕ, zero, suc, ◌+◌, ◌≤◌, List, [], ◌∷◌, ◌++◌, length, replicate, append-nil, Option, Some, None, Result, Ok, Bool, true, false, ◌==◌, refl, sym, ap, ◌∙◌, subst, arith, if◌then◌else◌, is_some, find}
use Rattle.sha1.specs.Sha1.{sha1}
use Rattle.xdr_codec.specs.declared.status.Status.{Status}
use Rattle.nfs3_calls.specs.Nfs.{nfs_proc}
use Rattle.nfs3_calls.specs.declared.message.Nfs.{Nfs}
use Rattle.wire.specs.declared.message.Body.TheVariants as body
use Rattle.wire.specs.declared.message.Message.TheVariants as message
use Rattle.tree_nodes.specs.Nodes.{with_id}
use Rattle.tree_reading.specs.Tree.{Tree, contents_size}
use Rattle.tree_reading.specs.declared.call.Changed.{Changed as TreeChange}
use Rattle.tree_reading.specs.declared.call.Reservation.{Reservation}
use Rattle.tree_reading.specs.declared.entry.Entry.{Entry as TreeEntry}
use Rattle.tree_reading.specs.declared.entry.EntryKind.TheVariants as kind
use Rattle.tree_calls.specs.Changing.{said}
use Rattle.tree_calls.specs.Waiting.{file_of, settles as tree_settles}
use Rattle.tree_calls.specs.declared.asked.Asked.{Asked}
use Rattle.tree_calls.specs.declared.asked.Asked.TheVariants as asked
use Rattle.tree_calls.specs.declared.asked.Done.{Done as Finished}
use Rattle.path_calls.specs.Told.{walk_told}
use Rattle.path_calls.specs.Walk.{next_call}
use Rattle.path_calls.specs.declared.walk.Walk.{Walk}
use Rattle.path_calls.specs.declared.answers.Ended.TheVariants as walk_end
use Rattle.path_calls.specs.declared.answers.Told.TheVariants as leading
use Rattle.server_core.specs.State as server
use Rattle.chunk_calls.specs.Files as the_files
use Rattle.server_core.specs.Closing as closing
use Rattle.server_core.specs.Closing.{makes_change, entered_by, entries_by, entry_by as written_by, count_of}
use Rattle.server_core.specs.declared.change.Wanted.{Wanted}
use Rattle.server_core.specs.declared.change.Wanted.TheVariants as wanted
use Rattle.server_core.specs.declared.event.Sent.{Sent}
use Rattle.client_state.specs.declared.task.Stage.TheVariants as stage
use Rattle.register_model.specs.Register.{IsFit}
use Rattle.register_model.specs.declared.op.Outcome.TheVariants as told
use Rattle.register_model.specs.declared.op.Word.TheVariants as words
use Rattle.trace_ends.specs.Core.{settles, changed_file, is_of_file}
use Rattle.trace_ends.specs.Session.{settled_ops}
use Rattle.trace_replay.specs.Faithful.{IsKind, left_by as left_of}
use Rattle.trace_replay.specs.Naming.{entry_file, refusal_of}
use Rattle.trace_ends.specs.Ops.{pointed_at, pointed}
use Rattle.server_law.proofs.lemmas.Trees.{IsBounded, given}
use Rattle.kept_promise.proofs.Common.{slice_get, slice_set, cond, option_map, unwrap_or, value_from, Contains, Contains-push, MessageFits, at, FileChange, Entry, Op, Word, Core, Seat, Session, Event.Settles, CoreStep, numbered, with_numbered, happens, unless, quiet, Book, value_at, version_at, Reply.Walked, NameReply, name_answer, Told, Queue, told_message, is_raw}
use Rattle.trace_replay.specs.OwnCalls.{others_waiting}
use Rattle.kept_promise.proofs.Lists.{some_is, nothing_there, at_replaced, of_replaced}
use Rattle.kept_promise.proofs.PathNames.{is_creating}
use Rattle.kept_promise.proofs.Makings.{step_by}
use Rattle.kept_promise.proofs.MakingTrees.{step_stays}
use Rattle.kept_promise.proofs.Goings.{RefusedAs}
use Rattle.kept_promise.proofs.GoingCalls.{IsName}
use Rattle.kept_promise.proofs.Departures.{IsGoneEntry, SettlesSo, refused_late, goes}
use Rattle.kept_promise.proofs.Messages.{Job, job, asked_word, walk_for, walk_is, IsGoing, UnmadeBy, PointedBy}
use Rattle.kept_promise.proofs.Rights.{IsUnmade}
use Rattle.kept_promise.proofs.Growth.{there_later}
use Rattle.kept_promise.proofs.History.{onward, AreNames, made_op, made_book, IsEntryOf, grows_same, goes_same, still_same, goes_made}
use Rattle.kept_promise.proofs.Later.{taken_for_later, taken_for_same}
use Rattle.kept_promise.proofs.MadeFiles.{LetsGo, gone_files, gone_fresh}
use Rattle.kept_promise.proofs.Takes.{file_still, fresh_still}
use Rattle.kept_promise.proofs.Turns.{turned_core, unnoted, came_same}
use Rattle.kept_promise.proofs.Fits.{FitLaws}
use Rattle.kept_promise.proofs.Facts.{FileIs, IsServer, IsSession, IsKept}
use Rattle.kept_promise.proofs.ServesFiles.{pointed_none, count_is, newest_more}
use Rattle.kept_promise.proofs.Leading.{IsNoted, Leads, downs_put, downs_put_in}
use Rattle.kept_promise.proofs.Rooted.{IsRooted}
use Rattle.kept_promise.proofs.TakenOut.{SettlesOut, settled_to, owned_raws}
use Rattle.kept_promise.proofs.GoingSettles.{makes_for, answer_key, settled_server, ShowsSettled, kept_settled, settled_came}
use Rattle.kept_promise.proofs.Unused.{unused_gone}
use Rattle.kept_promise.proofs.Statements.{ToldFits}
use Rattle.kept_promise.proofs.Hangs.{leads_noted}

-- ---- the step

-- what the server does, and what is noted of it
abbrev pub asked_step : Core → (now : ℕ) → FileChange → List FileChange → Tree × Finished → CoreStep
asked_step k now c cs p = record (quiet (record k {
  steps = k.steps + 1;
  server = settled_server k.server now cs p.0 (k.server.journal ++ entries_by c.session p.1.first p.1.second);
  ops = settled_ops k.ops (k.steps + 1) (changed_file (entries_by c.session p.1.first p.1.second)) (numbered k.sessions c.session);
  entries = k.entries ++ replicate (count_of p.1.first p.1.second) (k.steps + 1);
})) { down = record { session = c.session; message = message.Answer c.xid (body.Nfs p.1.answer) } ∷ [] }

pub asked_settles : (k : Core) (now : ℕ) (c : FileChange) (cs : List FileChange) (a : Asked) → SettlesOut k now c cs → c.what ≡ wanted.Asked a → unnoted k (settles k now) ≡ asked_step k now c cs (tree_settles k.server.tree (server.held cs) a)
asked_settles k now c cs a out what =
    out.is
    ∙ ap (λ (w : Wanted). settled_to k (makes_change (at (record k.server { waiting = cs }) now) c w)) what
    ∙ ap (λ (es : List Entry). record (asked_step k now c cs p) { core = record (asked_step k now c cs p).core { ops = settled_ops k.ops (k.steps + 1) (changed_file es) (numbered k.sessions c.session) } }) (newest_more k.server.journal (entries_by c.session p.1.first p.1.second) (count_of p.1.first p.1.second) (count_is c.session p.1.first p.1.second))
  where
    p : Tree × Finished
    p = tree_settles k.server.tree (server.held cs) a

-- its session and its queue
told_queue : (sessions : List Session) (qs : List Queue) (n : ℕ) (x : Session) (q : Queue) (t : Told) → numbered sessions n ≡ Some x → numbered qs n ≡ Some q → downs_put sessions qs ((n, t) ∷ []) ≡ with_numbered qs n (record q { downs = unless x.cut q.downs (t ∷ []) })
told_queue sessions qs n x q t at is = ap (λ (o : Option Session). downs_put_in qs (n, t) o (numbered qs n)) at ∙ ap (λ (o : Option Queue). downs_put_in qs (n, t) (Some x) o) is

-- a settled change goes for good, and is of a file
alters_for : (a : Asked) → is_creating (walk_for a) ≡ true
alters_for (asked.Remove r) = refl
alters_for (asked.Rename r) = refl

kind_for : (a : Asked) (e : TreeEntry) → e.kind ≡ kind.Remove → IsKind (asked_word a) e.kind
kind_for (asked.Remove r) e is = is
kind_for (asked.Rename r) e is = is

left_for : (a : Asked) (o : Op) → o.word ≡ asked_word a → left_of o ≡ []
left_for (asked.Remove r) o is = ap (λ (w : Word). unwrap_or (value_from w o.value) []) is
left_for (asked.Rename r) o is = ap (λ (w : Word). unwrap_or (value_from w o.value) []) is

not_close : (a : Asked) → asked_word a ≡ words.Close → ⊥
not_close (asked.Remove r) e = absurd cc
not_close (asked.Rename r) e = absurd cc

fit_for : (a : Asked) (v : Option (List ℕ)) (x : List ℕ) → v ≡ Some x → IsFit (asked_word a) v
fit_for (asked.Remove r) v x is = ap is_some is
fit_for (asked.Rename r) v x is = ap is_some is

-- the entries of what is done, where the first is of the file that goes
pub entries_gone : (n : ℕ) (first second : Option TreeEntry) (e : TreeEntry) → first ≡ Some e → entries_by n first second ≡ written_by n e ∷ entered_by n second
entries_gone n first second e is = ap (λ (o : Option TreeEntry). entries_by n o second) is

pub count_gone : (n : ℕ) (first second : Option TreeEntry) (e : TreeEntry) → first ≡ Some e → count_of first second ≡ length (written_by n e ∷ entered_by n second)
count_gone n first second e is = count_is n first second ∙ ap (λ (l : List Entry). length l) (entries_gone n first second e is)

pub second_names : (n : ℕ) (second : Option TreeEntry) → IsName second → AreNames (entered_by n second)
second_names n None a i e at = nothing_there e at
second_names n (Some y) a zero e at = ap (λ (z : Entry). is_of_file z.kind) (sym (some_is (written_by n y) e at)) ∙ ap is_of_file (a y refl)
second_names n (Some y) a (suc i) e at = nothing_there e at

gone_file : (first : Option TreeEntry) (e : TreeEntry) (file : ℕ) → first ≡ Some e → e.kind ≡ kind.Remove → e.file ≡ file → entry_file first ≡ Some file
gone_file first e file is gone same = ap entry_file is ∙ ap (λ (b : Bool). if b then Some e.file else None) (ap is_of_file gone) ∙ ap (λ (f : ℕ). Some f) same

lets_for : (a : Asked) (o : Op) → o.word ≡ asked_word a → LetsGo o.word
lets_for (asked.Remove r) o is = inl is
lets_for (asked.Rename r) o is = inr is

module _ (laws : FitLaws) (book : Book) (k : Core) (qs : List Queue) (now : ℕ) (c : FileChange) (cs : List FileChange) (a : Asked) (kept : IsKept book k qs) (noted : IsNoted book k (Settles now)) (out : SettlesOut k now c cs) (what : c.what ≡ wanted.Asked a)
    (x : Session) (q : Queue) (here : numbered k.sessions c.session ≡ Some x) (unhung : x.hung ≡ false) (is : numbered qs c.session ≡ Some q) (owned : is_raw x ≡ false) (p : IsGoing book c.session x.closing x.cut (job (kept.sessions c.session x q here is owned).seat) c.xid a) where
  abbrev n : ℕ
  n = c.session

  abbrev t : Tree
  t = k.server.tree

  abbrev held : Reservation
  held = server.held cs

  abbrev settled : Tree × Finished
  settled = tree_settles t held a

  -- what the others need
  left_held : server.held (others_waiting (Settles now) k.server) ≡ held
  left_held = ap server.held out.others

  -- and is there
  room : t.changes + server.entries_held cs + 0 ≤ 4294967295
  room = let z = kept.server.changes in let e = out.out.entries in omega (arith, z, e)

  small : contents_size t.nodes + server.waiting_size cs ≤ 1073741824
  small = let z = kept.server.bytes in let e = out.out.bytes in omega (arith, z, e)

  step_is : unnoted k (happens k (Settles now)) ≡ asked_step k now c cs settled
  step_is = asked_settles k now c cs a out what

  sent : (r : NameReply) → settled.1.answer ≡ name_answer r → Contains (happens k (Settles now)).down (record { session = n; message = message.Answer c.xid (body.Nfs (name_answer r)) })
  sent r same =
      let answer : Sent = record { session = n; message = message.Answer c.xid (body.Nfs (name_answer r)) } in
      subst (λ (s : CoreStep). Contains s.down answer) (sym step_is) (subst (λ (m : Nfs). Contains {X = Sent} (record { session = n; message = message.Answer c.xid (body.Nfs m) } ∷ []) answer) (sym same) (Contains-push [] answer))

  fits : (r : NameReply) → IsBounded settled.0 → settled.1.answer ≡ name_answer r → ToldFits book.lbfs (record { xid = c.xid; reply = Walked r })
  fits r bounded same = (subst (λ (m : Nfs). MessageFits (message.Answer c.xid (body.Nfs m))) same (laws.settled c.xid t held a (kept.server.xids out.out.place c out.out.there) kept.server.bounded bounded), tt)

  -- ---- its session

  abbrev h : IsSession book k.seats k.server n x q
  h = kept.sessions n x q here is owned

  job_walks : x.cut ≡ false → (j : Job) → job h.seat ≡ Some j → (j.place ≡ p.place) × (j.stage ≡ stage.Walking c.xid (walk_for a))
  job_walks uncut j at =
      let w = p.waited uncut in
      let same : j ≡ record { place = p.place; file = 0; stage = stage.Walking c.xid w.0 } = some_is j (record { place = p.place; file = 0; stage = stage.Walking c.xid w.0 }) (sym at ∙ w.1) in
      (ap (λ (z : Job). z.place) same, ap (λ (z : Job). z.stage) same ∙ ap (stage.Walking c.xid) (walk_is w.0 a w.2))

  job_own : x.cut ≡ false → (j : Job) → job h.seat ≡ Some j → ◌≡◌ {A = Job} (record { place = p.place; file = 0; stage = stage.Walking c.xid (walk_for a) }) j
  job_own uncut j at =
      let w = p.waited uncut in
      ap (λ (v : Walk). record { place = p.place; file = 0; stage = stage.Walking c.xid v }) (sym (walk_is w.0 a w.2)) ∙ some_is (record { place = p.place; file = 0; stage = stage.Walking c.xid w.0 }) j (sym w.1 ∙ at)

  op_is : x.cut ≡ false → (j : Job) (o : Op) → job h.seat ≡ Some j → slice_get book.ops j.place ≡ Some o → p.op ≡ o
  op_is uncut j o at there = some_is p.op o (sym p.there ∙ ap (slice_get book.ops) (sym (job_walks uncut j at).0) ∙ there)

  -- what leads from what is kept then
  lead : (more : Book) (tree : Tree) (es : List Entry) (d : Finished) (r : NameReply) (made : Option ℕ) → settled ≡ (tree, d) → d.answer ≡ name_answer r → entries_by n d.first d.second ≡ es → count_of d.first d.second ≡ length es → more.moments ≡ book.moments → more.opening ≡ book.opening → more.steps ≡ book.steps + 1 → more.ops ≡ settled_ops book.ops (book.steps + 1) (changed_file es) (Some x) → more.entries ≡ book.entries ++ replicate (length es) (book.steps + 1)
      → ShowsSettled book more k now c cs x q tree (k.server.journal ++ es) r made h → Leads book qs (happens k (Settles now))
  lead more tree es d r made settled_is answer entries count moments opening steps ops entered_is shows =
      let t : Told = record { xid = c.xid; reply = Walked r } in
      let done = kept_settled book more k qs now c cs a x q tree (k.server.journal ++ es) r made kept out.out here unhung is owned p shows in
      let core : (turned_core k more (settled_server k.server now cs tree (k.server.journal ++ es)) k.seats k.sessions) ≡ (stepped tree es (name_answer r)).core =
      ap (λ (s : ℕ). record k { server = settled_server k.server now cs tree (k.server.journal ++ es); seats = k.seats; sessions = k.sessions; steps = s; ops = more.ops; entries = more.entries }) (steps ∙ ap (λ (s : ℕ). s + 1) kept.steps)
      ∙ ap (λ (o : List Op). record k { server = settled_server k.server now cs tree (k.server.journal ++ es); seats = k.seats; sessions = k.sessions; steps = k.steps + 1; ops = o; entries = more.entries }) (ops ∙ ap (λ (l : List Op). settled_ops l (book.steps + 1) (changed_file es) (Some x)) kept.ops ∙ ap (λ (s : ℕ). settled_ops k.ops (s + 1) (changed_file es) (Some x)) kept.steps ∙ ap (settled_ops k.ops (k.steps + 1) (changed_file es)) (sym here))
      ∙ ap (λ (l : List ℕ). record k { server = settled_server k.server now cs tree (k.server.journal ++ es); seats = k.seats; sessions = k.sessions; steps = k.steps + 1; ops = settled_ops k.ops (k.steps + 1) (changed_file es) (numbered k.sessions n); entries = l }) (entered_is ∙ ap (λ (l : List ℕ). l ++ replicate (length es) (book.steps + 1)) kept.entries ∙ ap (λ (s : ℕ). k.entries ++ replicate (length es) (s + 1)) kept.steps) in
      leads_noted book k qs (settles k now) (out.raws ∙ owned_raws k (at (record k.server { waiting = cs }) now) c c.what x here owned) (came_same k.came (k.steps + 1)) (subst (Leads book qs) (sym (step_is ∙ ap (asked_step k now c cs) settled_is ∙ stepped_is tree es d r answer entries count))
      (record {
        sends = record { replies = []; replies_fit = tt; asks = []; up_is = refl; strays = []; strays_cut = tt; recalls = []; recalls_fit = tt; tolds = (n, t) ∷ []; down_is = refl };
        more = more;
        moments = moments;
        opening = opening;
        kept = subst (λ (z : List Queue). IsKept more (stepped tree es (name_answer r)).core z) (sym (told_queue k.sessions qs n x q t here is)) (subst (λ (z : Core). IsKept more z (with_numbered qs n (record q { downs = unless x.cut q.downs (t ∷ []) }))) core done);
      }))
    where
      stepped : Tree → List Entry → Nfs → CoreStep
      stepped tree es m = record (quiet (record k {
        steps = k.steps + 1;
        server = settled_server k.server now cs tree (k.server.journal ++ es);
        ops = settled_ops k.ops (k.steps + 1) (changed_file es) (numbered k.sessions n);
        entries = k.entries ++ replicate (length es) (k.steps + 1);
      })) { down = record { session = n; message = message.Answer c.xid (body.Nfs m) } ∷ [] }

      stepped_is : (tree : Tree) (es : List Entry) (d : Finished) (r : NameReply) → d.answer ≡ name_answer r → entries_by n d.first d.second ≡ es → count_of d.first d.second ≡ length es → asked_step k now c cs (tree, d) ≡ stepped tree es (name_answer r)
      stepped_is tree es d r answer entries count =
          ap (λ (m : ℕ). record (asked_step k now c cs (tree, d)) { core = record (asked_step k now c cs (tree, d)).core { entries = k.entries ++ replicate m (k.steps + 1) } }) count
          ∙ ap (λ (l : List Entry). record (stepped tree l d.answer) { core = record (stepped tree l d.answer).core { entries = k.entries ++ replicate (length es) (k.steps + 1) } }) entries
          ∙ ap (stepped tree es) answer

  -- ---- it's refused

  settled_same : (tree : Tree) → t ≡ tree → IsServer book k.server → IsServer (onward book 1 book.ops) (settled_server k.server now cs tree k.server.journal)
  settled_same tree same was =
      let more = onward book 1 book.ops in
      let grows = grows_same book 1 in
      let still = still_same book 1 kept.sound in
      let z = was.changes in
      let e = out.out.entries in
      let b = was.bytes in
      let u = out.out.bytes in
      subst (λ (tree : Tree). IsServer more (settled_server k.server now cs tree k.server.journal)) same (record {
        held = λ f. file_still book more None None f (the_files.file_at t f) grows still (was.held f);
        fresh = λ f u. fresh_still book more None None t grows still was.fresh f u;
        bounded = was.bounded;
        zero = was.zero;
        rooted = was.rooted;
        wants = λ i d z. let y = out.out.others i d z in was.wants y.0 d y.1;
        changes = omega (arith, z, e);
        bytes = omega (arith, b, u);
        lengths = λ i d z. let y = out.out.others i d z in was.lengths y.0 d y.1;
        targets = λ i d z. let y = out.out.others i d z in there_later book more None None d.file grows (was.targets y.0 d y.1);
        xids = λ i d z. let y = out.out.others i d z in was.xids y.0 d y.1;
        leases = was.leases;
        serves = was.serves;
      })

  unmade_at : x.cut ≡ false → (j : Job) (o : Op) → job h.seat ≡ Some j → slice_get book.ops j.place ≡ Some o → UnmadeBy true x.closing j o
  unmade_at uncut j o at there =
      let op = op_is uncut j o at there in
      (subst IsUnmade op p.unmade, ap (λ (z : Op). z.file) (sym op) ∙ p.file_is, p.known ∙ ap (λ (z : ℕ). Some z) (sym (job_walks uncut j at).0))

  ends_refused : (s : Status) (r : NameReply) → settled ≡ (t, said (name_answer r)) → RefusedAs t (walk_for a) s → refusal_of (name_answer r) ≡ Some s → walk_told (walk_for a) (name_answer r) ≡ leading.Ends (walk_end.Refused s) → nfs_proc (name_answer r) ≡ nfs_proc (next_call (walk_for a)) → Leads book qs (happens k (Settles now))
  ends_refused s r settled_is why refuses leads procs =
      let more = onward book 1 book.ops in
      let answer : settled.1.answer ≡ name_answer r = ap (λ (z : Tree × Finished). z.1.answer) settled_is in
      let bounded : IsBounded settled.0 = subst (λ (z : Tree × Finished). IsBounded z.0) (sym settled_is) kept.server.bounded in
      lead more t [] (said (name_answer r)) r None settled_is refl refl refl refl refl refl (sym (pointed_none book.ops x.closing (book.steps + 1))) (sym (append-nil book.entries)) (record {
        goes = goes_same book 1 kept.sound;
        server = subst (λ (l : List Entry). IsServer more (settled_server k.server now cs t l)) (sym (append-nil k.server.journal)) (settled_same t refl kept.server);
        journal_is = kept.journal ∙ sym (append-nil k.server.journal);
        made_here = λ z f. nothing_there z f;
        key_is = answer_key c a r what procs;
        fits = fits r bounded answer;
        answer = λ uncut. settled_came book more k qs now n x q c.xid a h.seat r kept h.owner (h.here uncut).0 noted (sent r answer) refl refl (λ j at. (job_walks uncut j at).1)
            (λ j o at there. (o, there, refl, refl, inr (inl (record { making = makes_for a; why = s; why_is = why; refuses = refuses; leads = leads; unmade = subst (λ (b : Bool). UnmadeBy b x.closing j o) (sym (alters_for a)) (unmade_at uncut j o at there) }))));
        running = kept.running;
      })

  -- ---- its file goes

  ends_gone : (done : TreeChange) (r : NameReply) (after : Tree) → settled ≡ (after, record { answer = name_answer r; first = done.first; second = done.second }) → step_by t held (walk_for a).dir (walk_for a).goal ≡ (after, Ok done) → IsGoneEntry t (file_of a) done.first → IsName done.second → walk_told (walk_for a) (name_answer r) ≡ leading.Ends walk_end.Done → nfs_proc (name_answer r) ≡ nfs_proc (next_call (walk_for a))
      → ((f : ℕ) → the_files.file_at after f ≡ (if file_of a == f then None else the_files.file_at t f)) → ((f : ℕ) → with_id t.nodes f ≡ None → with_id after.nodes f ≡ None) → with_id after.nodes (file_of a) ≡ None → IsRooted after.nodes → after.next ≡ t.next → Leads book qs (happens k (Settles now))
  ends_gone done r after settled_is step gone names leads procs files none off root next =
      let e = gone.entry in
      let file : ℕ = file_of a in
      let ns = entered_by n done.second in
      let es : List Entry = written_by n e ∷ ns in
      let entries = entries_gone n done.first done.second e gone.is in
      let count = count_gone n done.first done.second e gone.is in
      let was : FileIs book file (Some gone.old) = subst (FileIs book file) gone.there (kept.server.held file) in
      let tells : IsEntryOf book file p.op (written_by n e) = record {
        kind_is = subst (λ (z : Word). IsKind z e.kind) (sym p.word_is) (kind_for a e gone.kind_is);
        file = sym gone.file_is;
        len = ap (λ (l : List ℕ). length l) (left_for a p.op p.word_is) ∙ sym gone.len_is;
        digest = inl (ap sha1 (left_for a p.op p.word_is) ∙ sym gone.digest_is);
        version = gone.version_is ∙ ap (λ (v : ℕ). v + 1) (sym was.4 ∙ ap (λ (f : ℕ). version_at book f (book.steps + 1)) (sym gone.file_is));
        own = λ close. absurd (not_close a (sym p.word_is ∙ close));
        positive = was.1;
        fit = subst (λ (z : Word). IsFit z (value_at book file (book.steps + 1))) (sym p.word_is) (fit_for a (value_at book file (book.steps + 1)) was.3.value was.3.is);
      } in
      let goes = goes_made book (written_by n e) ns file p.place p.op tells (second_names n done.second names) p.there p.unmade kept.sound in
      let g = goes.grows in
      let more = made_book book es p.place file p.op in
      let new : Op = made_op book file p.op in
      let lets = lets_for a p.op p.word_is in
      let answer : settled.1.answer ≡ name_answer r = ap (λ (z : Tree × Finished). z.1.answer) settled_is in
      let stays = subst (λ (z : Tree × Result TreeChange Status). IsBounded z.0 × (z.0.changes + server.entries_held cs + 0 ≤ 4294967295) × (contents_size z.0.nodes ≤ contents_size t.nodes)) step (step_stays t held (walk_for a).dir (walk_for a).goal kept.server.bounded room) in
      let room_left = stays.1 in
      let size = stays.2 in
      let bytes = small in
      let bounded : IsBounded settled.0 = subst (λ (z : Tree × Finished). IsBounded z.0) (sym settled_is) stays.0 in
      let changed : changed_file es ≡ Some file = ap (λ (b : Bool). option_map (λ (d : Entry). d.file) (cond b (Some (written_by n e)) (find (λ (d : Entry). is_of_file d.kind) ns))) (ap is_of_file gone.kind_is) ∙ ap (λ (f : ℕ). Some f) gone.file_is in
      let ops : more.ops ≡ settled_ops book.ops (book.steps + 1) (changed_file es) (Some x) = sym (ap (λ (z : Option ℕ). settled_ops book.ops (book.steps + 1) z (Some x)) changed ∙ ap (λ (z : Option ℕ). pointed_at book.ops z (book.steps + 1) (Some file)) p.known ∙ ap (λ (z : Option Op). pointed book.ops p.place file (book.steps + 1) z) p.there) in
      lead more after es (record { answer = name_answer r; first = done.first; second = done.second }) r (Some p.place) settled_is refl entries count refl refl refl ops refl (record {
        goes = goes;
        server = record {
          held = gone_files book es p.place p.op file t after p.there p.unmade lets kept.sound files kept.server.held;
          fresh = λ f u. gone_fresh book es p.place p.op file t gone.old p.there p.unmade kept.sound (given t kept.server.bounded) gone.there kept.server.fresh f (unused_gone t after file f next (none f) off (files f) u);
          bounded = stays.0;
          zero = none 0 kept.server.zero;
          rooted = root;
          wants = λ i d z. let y = out.out.others i d z in kept.server.wants y.0 d y.1;
          changes = omega (arith, room_left);
          bytes = omega (arith, size, bytes);
          lengths = λ i d z. let y = out.out.others i d z in kept.server.lengths y.0 d y.1;
          targets = λ i d z. let y = out.out.others i d z in there_later book more (Some p.place) None d.file g (kept.server.targets y.0 d y.1);
          xids = λ i d z. let y = out.out.others i d z in kept.server.xids y.0 d y.1;
          leases = kept.server.leases;
          serves = kept.server.serves;
        };
        journal_is = ap (λ (l : List Entry). l ++ es) kept.journal;
        made_here = λ z f. p.known ∙ f;
        key_is = answer_key c a r what procs;
        fits = fits r bounded answer;
        answer = λ uncut. settled_came book more k qs now n x q c.xid a h.seat r kept h.owner (h.here uncut).0 noted (sent r answer) refl refl (λ j at. (job_walks uncut j at).1)
            (λ j o at there.
            let place = (job_walks uncut j at).0 in
            let same : p.op ≡ o = op_is uncut j o at there in (
              new,
              ap (slice_get (slice_set book.ops p.place new)) place ∙ at_replaced book.ops p.place new p.op p.there,
              ap (λ (z : Op). z.begin) same,
              ap (λ (z : Op). z.client) same,
              inr (inr (record {
                making = makes_for a;
                session = n;
                xid = c.xid;
                taken = taken_for_same more new.client (record { place = p.place; file = 0; stage = stage.Walking c.xid (walk_for a) }) j n c.xid (walk_for a) (job_own uncut j at) (taken_for_later book more (Some p.place) None p.op.client new.client (record { place = p.place; file = 0; stage = stage.Walking c.xid (walk_for a) }) n c.xid (walk_for a) g refl (p.taken uncut));
                comes = inr (record { now = now; event_is = refl; change = c; ready = out.ready; session_is = refl; xid_is = refl });
                before = (let z = (p.taken uncut).past in omega (arith, z));
                done = done;
                step_is = ap (λ (u : Reservation). (step_by t u (walk_for a).dir (walk_for a).goal).1) left_held ∙ ap (λ (z : Tree × Result TreeChange Status). z.1) step;
                tree_is = ap (λ (z : CoreStep). z.core.server.tree) step_is ∙ ap (λ (z : Tree × Finished). z.0) settled_is ∙ sym (ap (λ (u : Reservation). (step_by t u (walk_for a).dir (walk_for a).goal).0) left_held ∙ ap (λ (z : Tree × Result TreeChange Status). z.0) step);
                journal_is = ap (λ (z : CoreStep). z.core.server.journal) step_is ∙ ap (λ (z : Tree × Finished). k.server.journal ++ entries_by n z.1.first z.1.second) settled_is;
                leads = leads;
                pointed = subst (λ (b : Bool). PointedBy b x.closing j new (book.steps + 1) (entry_file done.first)) (sym (alters_for a)) (inr (file, gone_file done.first e file gone.is gone.kind_is gone.file_is, p.unmade.0, refl, refl));
              })),
            ));
        running = λ z u at run. still_runs z u at run;
      })
    where
      still_runs : (z : ℕ) (u : Op) → slice_get (slice_set book.ops p.place (made_op book (file_of a) p.op)) z ≡ Some u → u.outcome ≡ told.Running → (s : Seat) × (j : Job) × (numbered k.seats u.client ≡ Some s) × (job s ≡ Some j) × (j.place ≡ z)
      still_runs z u at run = elim (of_replaced book.ops p.place (made_op book (file_of a) p.op) z u at) [
        | inr was ↦ kept.running z u was.1 run
        | inl new ↦
            let r = kept.running p.place p.op p.there (ap (λ (v : Op). v.outcome) (sym new.1) ∙ run) in
            (r.0, r.1, ap (λ (v : Op). numbered k.seats v.client) new.1 ∙ r.2, r.3, r.4 ∙ sym new.0)
      ]

  -- ---- either way

  pub ends_so : SettlesSo t held (walk_for a) a → Leads book qs (happens k (Settles now))
  ends_so (refused_late s r settled_is why refuses leads procs) = ends_refused s r settled_is why refuses leads procs
  ends_so (goes done r after settled_is step gone names leads procs files none off root next) = ends_gone done r after settled_is step gone names leads procs files none off (root kept.server.rooted) next
