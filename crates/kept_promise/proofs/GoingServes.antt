-- The server takes the last call of a walk, which removes or renames: it's refused, or a rename is done at once by which no file goes, or it comes to wait.
use Rattle.std.proofs.Common.{inl, inr, ◌≡◌, ℕ, zero, suc, ◌+◌, ◌≤◌, List, [], ◌∷◌, ◌++◌, length, replicate, append-nil, Option, Some, None, Result, Ok, Bool, true, false, refl, sym, ap, ◌∙◌, subst, arith, if◌then◌else◌}
use Rattle.xdr_codec.specs.declared.status.Status.{Status}
use Rattle.nfs3_calls.specs.Nfs.{nfs_proc}
use Rattle.nfs3_calls.specs.declared.message.Nfs.{Nfs}
use Rattle.wire.specs.declared.message.Body.TheVariants as body
use Rattle.wire.specs.declared.message.Message.TheVariants as message
use Rattle.wire.specs.declared.message.Program.TheVariants as program
use Rattle.tree_nodes.specs.Nodes.{with_id}
use Rattle.tree_reading.specs.Tree.{Tree, contents_size}
use Rattle.tree_reading.specs.declared.call.Changed.{Changed as TreeChange}
use Rattle.tree_reading.specs.declared.call.Reservation.{Reservation}
use Rattle.tree_reading.specs.declared.entry.Entry.{Entry as TreeEntry}
use Rattle.tree_calls.specs.Changing.{said}
use Rattle.tree_calls.specs.Waiting.{file_of, entries_of}
use Rattle.tree_calls.specs.declared.asked.Asked.{Asked}
use Rattle.tree_calls.specs.declared.asked.Asked.TheVariants as asked
use Rattle.tree_calls.specs.declared.asked.Done.{Done as Finished}
use Rattle.tree_calls.specs.declared.asked.Outcome.TheVariants.{Answered, Waits}
use Rattle.path_calls.specs.Told.{walk_told}
use Rattle.path_calls.specs.Walk.{call_at, next_call}
use Rattle.path_calls.specs.declared.answers.Ended.TheVariants as walk_end
use Rattle.path_calls.specs.declared.answers.Told.TheVariants as leading
use Rattle.path_calls.specs.declared.walk.Goal.{Goal}
use Rattle.path_calls.specs.declared.walk.Walk.{Walk}
use Rattle.server_core.specs.State as server
use Rattle.chunk_calls.specs.Files as the_files
use Rattle.server_core.specs.Closing.{entries_by, entry_by as written_by, count_of}
use Rattle.server_core.specs.declared.event.Sent.{Sent}
use Rattle.client_state.specs.State as client
use Rattle.client_state.specs.declared.task.Stage.TheVariants as stage
use Rattle.trace_replay.specs.Naming.{entry_file, refusal_of}
use Rattle.trace_ends.specs.Core.{changed_file, is_of_file}
use Rattle.trace_ends.specs.Ops.{pointed_at}
use Rattle.server_law.proofs.lemmas.Trees.{IsBounded}
use Rattle.server_law.proofs.lemmas.TreeCalls.{entries_more, sizes_more}
use Rattle.kept_promise.proofs.Common.{slice_get, cond, option_map, Contains, Contains-push, message_spell, MessageFits, stands, not, has_waiting, at, Entry, File, Op, TakenCall, Core, Session, Event.Serves, CoreStep, with_numbered, happens, serves, serves_if, quiet, Book, Call.Walks, Reply.Walked, NameReply, name_answer, Ask, Queue, ask_message, told_message, Leasing, later}
use Rattle.kept_promise.proofs.Statements.{ToldFits, CallFits}
use Rattle.kept_promise.proofs.Lists.{some_is, nothing_there, all_map}
use Rattle.kept_promise.proofs.PathNames.{IsWalkSmall, going_makes, going_creates, is_going, is_making, is_creating}
use Rattle.kept_promise.proofs.Keys.{key, change_key, ask_key}
use Rattle.kept_promise.proofs.Makings.{step_by}
use Rattle.kept_promise.proofs.MakingTrees.{step_stays}
use Rattle.kept_promise.proofs.Goings.{RefusedAs}
use Rattle.kept_promise.proofs.GoingCalls.{IsName}
use Rattle.kept_promise.proofs.Departures.{comes_by, AreTwo, ComesSo, refused, done_now, waits, comes_so}
use Rattle.kept_promise.proofs.Rooted.{IsRooted}
use Rattle.kept_promise.proofs.GoingSteps.{coming, waits_got, got_answered, got_waits}
use Rattle.kept_promise.proofs.Messages.{Job, job, goal_word, asked_word, AllAsks, IsCommit, IsCreating, IsTakenFor, AsksFor, walk_for, walk_is, IsAnswer, UnmadeBy, PointedBy}
use Rattle.kept_promise.proofs.Rights.{IsUnmade}
use Rattle.kept_promise.proofs.Growth.{there_later}
use Rattle.kept_promise.proofs.History.{onward, entered, AreNames, grows_named, goes_named, still_named}
use Rattle.kept_promise.proofs.Later.{answer_later, commit_later, close_later, waits_later, Spares}
use Rattle.kept_promise.proofs.Taken.{finds_more, answer_found}
use Rattle.kept_promise.proofs.Takes.{took, file_still, fresh_still}
use Rattle.kept_promise.proofs.Fits.{FitLaws}
use Rattle.kept_promise.proofs.Facts.{FileIs, is_there, IsServer, IsSession}
use Rattle.kept_promise.proofs.Serves.{answered, parsed, parsed_at, serves_as, leads_got}
use Rattle.kept_promise.proofs.ServesFiles.{count_is, making_got, pointed_none}
use Rattle.kept_promise.proofs.Calls.{Given, session_in, first_fits, rest_of, leads_by, same_temps, held_still}
use Rattle.kept_promise.proofs.Orderly.{locals_of, Orderly}
use Rattle.kept_promise.proofs.Ordered.{held_rest, held_first}
use Rattle.kept_promise.proofs.Tells.{walk_came, taken_now}
use Rattle.kept_promise.proofs.Entering.{entered_server, entered_step, leads_entered}
use Rattle.kept_promise.proofs.Waitings.{ComesToWait, leads_coming}
use Rattle.kept_promise.proofs.Leading.{Leads}
use Rattle.kept_promise.proofs.Unused.{unused_same}
use Rattle.kept_promise.proofs.Turns.{unnoted}

-- what waits is of the procedure that was asked for
wanted_is : (w : Walk) (a : Asked) (lbfs xid n : ℕ) → AsksFor w a → change_key (coming n xid a) ≡ ask_key (record { lbfs = lbfs; xid = xid; call = Walks w })
wanted_is w (asked.Remove r) lbfs xid n h = sym (ap (λ (l : List (List ℕ)). key xid (program.Nfs (nfs_proc (call_at w.dir l w.goal)))) h.0 ∙ ap (λ (g : Goal). key xid (program.Nfs (nfs_proc (call_at w.dir [] g)))) h.1)
wanted_is w (asked.Rename r) lbfs xid n h = sym (ap (λ (l : List (List ℕ)). key xid (program.Nfs (nfs_proc (call_at w.dir l w.goal)))) h.0 ∙ ap (λ (g : Goal). key xid (program.Nfs (nfs_proc (call_at w.dir [] g)))) h.1)

word_wanted : (w : Walk) (a : Asked) → AsksFor w a → goal_word w.goal ≡ asked_word a
word_wanted w (asked.Remove r) h = ap goal_word h.1
word_wanted w (asked.Rename r) h = ap goal_word h.1

-- of entries about names alone no file is changed
pub names_none : (n : ℕ) (first second : Option TreeEntry) → IsName first → IsName second → AreNames (entries_by n first second)
names_none n None (Some y) a b zero e at = ap (λ (z : Entry). is_of_file z.kind) (sym (some_is _ e at)) ∙ ap is_of_file (b y refl)
names_none n (Some x) None a b zero e at = ap (λ (z : Entry). is_of_file z.kind) (sym (some_is _ e at)) ∙ ap is_of_file (a x refl)
names_none n (Some x) (Some y) a b zero e at = ap (λ (z : Entry). is_of_file z.kind) (sym (some_is _ e at)) ∙ ap is_of_file (a x refl)
names_none n (Some x) (Some y) a b (suc zero) e at = ap (λ (z : Entry). is_of_file z.kind) (sym (some_is _ e at)) ∙ ap is_of_file (b y refl)
names_none n _ _ a b _ e at = nothing_there e at

pub names_unchanged : (n : ℕ) (first second : Option TreeEntry) → IsName first → IsName second → changed_file (entries_by n first second) ≡ None
names_unchanged n None None a b = refl
names_unchanged n None (Some y) a b = ap (λ (z : Bool). option_map (λ (e : Entry). e.file) (cond z (Some (written_by n y)) None)) (ap is_of_file (b y refl))
names_unchanged n (Some x) None a b = ap (λ (z : Bool). option_map (λ (e : Entry). e.file) (cond z (Some (written_by n x)) None)) (ap is_of_file (a x refl))
names_unchanged n (Some x) (Some y) a b = ap (λ (z : Bool). option_map (λ (e : Entry). e.file) (cond z (Some (written_by n x)) (cond (is_of_file y.kind) (Some (written_by n y)) None))) (ap is_of_file (a x refl)) ∙ ap (λ (z : Bool). option_map (λ (e : Entry). e.file) (cond z (Some (written_by n y)) None)) (ap is_of_file (b y refl))

pub names_file : (first : Option TreeEntry) → IsName first → entry_file first ≡ None
names_file None a = refl
names_file (Some x) a = ap (λ (z : Bool). if z then Some x.file else None) (ap is_of_file (a x refl))

-- ---- a call is taken

module _ (laws : FitLaws) (book : Book) (k : Core) (qs : List Queue) (n now : ℕ) (x : Session) (q : Queue) (lbfs xid : ℕ) (w : Walk) (us : List Ask) (g : Given book k qs n now x q (record { lbfs = lbfs; xid = xid; call = Walks w }) us) (going : is_going w ≡ true) where
  abbrev a : Ask
  a = record { lbfs = lbfs; xid = xid; call = Walks w }

  abbrev h : IsSession book k.seats k.server n x q
  h = session_in book k qs n now x q a us g

  fits : CallFits lbfs xid (Walks w)
  fits = first_fits book k qs n now x q a us g

  abbrev t : Tree
  t = k.server.tree

  abbrev held : Reservation
  held = server.held k.server.waiting

  abbrev busy : Bool
  busy = has_waiting k.server.waiting n

  abbrev leasing : Leasing
  leasing = later k.server.leasing now

  making : is_making w ≡ true
  making = going_makes w.left w.goal going

  -- it is that of the operation which the session remembers
  altering : IsCreating book x.closing x.cut (job h.seat) xid w
  altering = (subst (AllAsks (IsCommit book x.closing x.cut (job h.seat) h.contents)) g.first h.commits).0 (going_creates w.left w.goal going)

  standing : stands k.server n ≡ true
  standing = h.stands_is ∙ ap not g.unhung

  answered_is : (after : Tree) (d : Finished) → comes_by t held busy w.dir w.goal ≡ (after, Answered d) → unnoted k (happens k (Serves n now (message_spell (ask_message a)))) ≡ making_got k n now x xid (after, d)
  answered_is after d is = ap (unnoted k) (serves_as k n now (message_spell (ask_message a)) x (ask_message a) g.at g.unhung (parsed_at laws k n a fits)) ∙ got_answered k n now x xid w after d fits.1 going standing is

  waits_is : (b : Asked) → comes_by t held busy w.dir w.goal ≡ (t, Waits b) → unnoted k (happens k (Serves n now (message_spell (ask_message a)))) ≡ waits_got k n now x xid b
  waits_is b is = ap (unnoted k) (serves_as k n now (message_spell (ask_message a)) x (ask_message a) g.at g.unhung (parsed_at laws k n a fits)) ∙ got_waits k n now x xid w b fits.1 going standing is

  -- what is noted beside it
  noted_now : Leads book (rest_of qs n q us) (unnoted k (happens k (Serves n now (message_spell (ask_message a))))) → Leads book (rest_of qs n q us) (happens k (Serves n now (message_spell (ask_message a))))
  noted_now = leads_got book k (rest_of qs n q us) n now (message_spell (ask_message a)) x g.at g.owned

  sent : (after : Tree) (d : Finished) (r : NameReply) → comes_by t held busy w.dir w.goal ≡ (after, Answered d) → d.answer ≡ name_answer r → Contains (happens k (Serves n now (message_spell (ask_message a)))).down (record { session = n; message = message.Answer xid (body.Nfs (name_answer r)) })
  sent after d r is same =
      let answer : Sent = record { session = n; message = message.Answer xid (body.Nfs (name_answer r)) } in
      subst (λ (c : CoreStep). Contains c.down answer) (sym (answered_is after d is)) (subst (λ (m : Nfs). Contains {X = Sent} (record { session = n; message = message.Answer xid (body.Nfs m) } ∷ []) answer) (sym same) (Contains-push [] answer))

  -- the operation of the job is unmade
  unmade : x.cut ≡ false → (j : Job) (o : Op) → job h.seat ≡ Some j → slice_get book.ops j.place ≡ Some o → UnmadeBy (is_creating w) x.closing j o
  unmade uncut j o at there =
      let c = altering in
      let own : Job = record { place = c.place; file = 0; stage = stage.Walking xid w } in
      let same : own ≡ j = some_is own j (sym (c.waited uncut) ∙ at) in
      let place : c.place ≡ j.place = ap (λ (z : Job). z.place) same in
      let op : c.op ≡ o = some_is c.op o (sym c.there ∙ ap (slice_get book.ops) place ∙ there) in
      subst (λ (b : Bool). UnmadeBy b x.closing j o) (sym (going_creates w.left w.goal going)) (subst IsUnmade op c.unmade, ap (λ (z : Op). z.file) (sym op) ∙ c.file_is, c.known ∙ ap (λ (p : ℕ). Some p) place)

  plain_step : List Entry → List Op → List ℕ → Nfs → CoreStep
  plain_step journal ops entries m = record (quiet (record k {
    steps = k.steps + 1;
    server = record (at k.server now) { journal = journal };
    sessions = with_numbered k.sessions n (took x xid (k.steps + 1));
    ops = ops;
    entries = entries;
  })) { down = record { session = n; message = message.Answer xid (body.Nfs m) } ∷ [] }

  refused_step : (r : NameReply) → making_got k n now x xid (t, said (name_answer r)) ≡ answered k n leasing x a k.server.temps k.server.index (Walked r)
  unfolding plain_step
  refused_step r =
      ap (λ (l : List Entry). plain_step l (pointed_at k.ops x.closing (k.steps + 1) None) (k.entries ++ []) (name_answer r)) (append-nil k.server.journal)
      ∙ ap (λ (l : List Op). plain_step k.server.journal l (k.entries ++ []) (name_answer r)) (pointed_none k.ops x.closing (k.steps + 1))
      ∙ ap (λ (l : List ℕ). plain_step k.server.journal k.ops l (name_answer r)) (append-nil k.entries)

  serve_refused : (s : Status) (r : NameReply) → comes_by t held busy w.dir w.goal ≡ (t, Answered (said (name_answer r))) → RefusedAs t w s → refusal_of (name_answer r) ≡ Some s → walk_told w (name_answer r) ≡ leading.Ends (walk_end.Refused s) → nfs_proc (name_answer r) ≡ nfs_proc (next_call w) → ToldFits book.lbfs (record { xid = xid; reply = Walked r }) → Leads book (rest_of qs n q us) (happens k (Serves n now (message_spell (ask_message a))))
  serve_refused s r is why refuses leads procs fit =
      noted_now (subst (Leads book (rest_of qs n q us)) (sym (answered_is t (said (name_answer r)) is ∙ refused_step r))
      (leads_by book k qs n now x q a us k.server.temps k.server.index (Walked r) g (same_temps book k n x q a (Walked r) h g.kept.shelf (λ uncut. tt) (λ uncut vs e. held_still book k qs n now x q a us g (Walked r) tt tt uncut vs e) (ap (λ p. program.Nfs p) procs) fit
      (λ uncut. walk_came book (onward book 1 book.ops) k qs n now x q lbfs xid w us h.seat r g.kept h.owner (h.here uncut).0 (h.talk uncut) g.first g.noted (sent t (said (name_answer r)) r is refl) refl refl
      (λ j o at is there. (o, there, refl, refl, inr (inl (record { making = making; why = s; why_is = why; refuses = refuses; leads = leads; unmade = unmade uncut j o at there }))))))))

  step_now : k.steps + 1 ≤ book.steps + 1
  step_now = let e = g.kept.steps in omega (arith, e)

  -- ---- a rename is done at once, and no file goes

  abbrev entries_of_names : TreeChange → List Entry
  entries_of_names done = entries_by n done.first done.second

  abbrev named : TreeChange → Book
  named done = entered book book.ops (entries_of_names done)

  room : t.changes + server.entries_held k.server.waiting + 0 ≤ 4294967295
  room = let c = g.kept.server.changes in omega (arith, c)

  stays : (after : Tree) (done : TreeChange) → step_by t held w.dir w.goal ≡ (after, Ok done) → IsBounded after × (after.changes + server.entries_held k.server.waiting + 0 ≤ 4294967295) × (contents_size after.nodes ≤ contents_size t.nodes)
  stays after done is = subst (λ (p : Tree × Result TreeChange Status). IsBounded p.0 × (p.0.changes + server.entries_held k.server.waiting + 0 ≤ 4294967295) × (contents_size p.0.nodes ≤ contents_size t.nodes)) is (step_stays t held w.dir w.goal g.kept.server.bounded room)

  server_named : (after : Tree) (done : TreeChange) → step_by t held w.dir w.goal ≡ (after, Ok done) → ((f : ℕ) → the_files.file_at after f ≡ the_files.file_at t f) → ((f : ℕ) → with_id t.nodes f ≡ None → with_id after.nodes f ≡ None) → IsRooted after.nodes → after.next ≡ t.next → IsServer (named done) (entered_server k.server leasing after (k.server.journal ++ entries_of_names done))
  server_named after done is files none root next =
      let more = named done in
      let grows = grows_named book (entries_of_names done) in
      let still = still_named book (entries_of_names done) g.kept.sound in
      let s = stays after done is in
      let room_left = s.1 in
      let size = s.2 in
      let bytes = g.kept.server.bytes in
      record {
        held = λ f. subst (FileIs more f) (sym (files f)) (file_still book more None None f (the_files.file_at t f) grows still (g.kept.server.held f));
        fresh = λ f u. fresh_still book more None None t grows still g.kept.server.fresh f (unused_same t after f next (none f) (files f) u);
        bounded = s.0;
        zero = none 0 g.kept.server.zero;
        rooted = root;
        wants = g.kept.server.wants;
        changes = omega (arith, room_left);
        bytes = omega (arith, size, bytes);
        lengths = g.kept.server.lengths;
        targets = λ i c f. there_later book more None None c.file grows (g.kept.server.targets i c f);
        xids = g.kept.server.xids;
        leases = g.kept.server.leases;
        serves = g.kept.server.serves;
      }

  -- the step, with these entries more
  now_step : (after : Tree) (done : TreeChange) (r : NameReply) → IsName done.first → IsName done.second → making_got k n now x xid (after, record { answer = name_answer r; first = done.first; second = done.second }) ≡ entered_step k n leasing x a after (k.server.journal ++ entries_of_names done) k.ops (k.entries ++ replicate (length (entries_of_names done)) (k.steps + 1)) (Walked r)
  now_step after done r first second =
      ap (λ (o : Option ℕ). entered_step k n leasing x a after (k.server.journal ++ entries_of_names done) (pointed_at k.ops x.closing (k.steps + 1) o) (k.entries ++ replicate (count_of done.first done.second) (k.steps + 1)) (Walked r)) (names_unchanged n done.first done.second first second)
      ∙ ap (λ (l : List Op). entered_step k n leasing x a after (k.server.journal ++ entries_of_names done) l (k.entries ++ replicate (count_of done.first done.second) (k.steps + 1)) (Walked r)) (pointed_none k.ops x.closing (k.steps + 1))
      ∙ ap (λ (m : ℕ). entered_step k n leasing x a after (k.server.journal ++ entries_of_names done) k.ops (k.entries ++ replicate m (k.steps + 1)) (Walked r)) (count_is n done.first done.second)

  serve_now : (done : TreeChange) (r : NameReply) (after : Tree) → comes_by t held busy w.dir w.goal ≡ (after, Answered (record { answer = name_answer r; first = done.first; second = done.second })) → step_by t held w.dir w.goal ≡ (after, Ok done) → IsName done.first → IsName done.second → walk_told w (name_answer r) ≡ leading.Ends walk_end.Done → nfs_proc (name_answer r) ≡ nfs_proc (next_call w) → ((f : ℕ) → the_files.file_at after f ≡ the_files.file_at t f) → ((f : ℕ) → with_id t.nodes f ≡ None → with_id after.nodes f ≡ None) → IsRooted after.nodes → after.next ≡ t.next → ToldFits book.lbfs (record { xid = xid; reply = Walked r })
      → Leads book (rest_of qs n q us) (happens k (Serves n now (message_spell (ask_message a))))
  serve_now done r after is step first second leads procs files none root next fit =
      let d : Finished = record { answer = name_answer r; first = done.first; second = done.second } in
      let es = entries_of_names done in
      let more = named done in
      let grows = grows_named book es in
      let spares : Spares x.closing None = λ p u v. nothing_there p v in
      let z : TakenCall = record { xid = xid; step = book.steps + 1 } in
      let finds = finds_more x.taken z in
      let entries : more.entries ≡ k.entries ++ replicate (length es) (k.steps + 1) = ap (λ (l : List ℕ). l ++ replicate (length es) (book.steps + 1)) g.kept.entries ∙ ap (λ (s : ℕ). k.entries ++ replicate (length es) (s + 1)) g.kept.steps in
      noted_now (subst (Leads book (rest_of qs n q us)) (sym (answered_is after d is ∙ now_step after done r first second))
      (leads_entered book more k qs n leasing after (k.server.journal ++ es) k.ops (k.entries ++ replicate (length es) (k.steps + 1)) x q a us (Walked r) None g.kept g.at g.is g.owned g.first g.unhung refl refl (ap (λ s. s + 1) g.kept.steps) g.kept.ops entries (record {
        goes = goes_named book es (names_none n done.first done.second first second) g.kept.sound;
        server = server_named after done step files none root next;
        journal_is = ap (λ (l : List Entry). l ++ es) g.kept.journal;
        made_here = λ p f. nothing_there p f;
        program = ap (λ p. program.Nfs p) procs;
        fits = fit;
        answer = λ uncut. walk_came book more k qs n now x q lbfs xid w us h.seat r g.kept h.owner (h.here uncut).0 (h.talk uncut) g.first g.noted (sent after d r is refl) refl refl
            (λ j o at on there. (
              o,
              there,
              refl,
              refl,
              inr (inr (record {
                making = making;
                session = n;
                xid = xid;
                taken = taken_now book more k qs n now x a w h.seat o.client j o g.kept h.owner (h.here uncut).0 g.noted (parsed laws a fits) refl refl refl refl at there on;
                comes = inl refl;
                before = step_now;
                done = done;
                step_is = ap (λ (p : Tree × Result TreeChange Status). p.1) step;
                tree_is = ap (λ (c : CoreStep). c.core.server.tree) (answered_is after d is) ∙ sym (ap (λ (p : Tree × Result TreeChange Status). p.0) step);
                journal_is = ap (λ (c : CoreStep). c.core.server.journal) (answered_is after d is);
                leads = leads;
                pointed = subst (λ (b : Bool). PointedBy b x.closing j o (book.steps + 1) (entry_file done.first)) (sym (going_creates w.left w.goal going)) (inl (names_file done.first first, subst (λ (b : Bool). UnmadeBy b x.closing j o) (going_creates w.left w.goal going) (unmade uncut j o at there)));
              })),
            ));
        answers = λ uncut. all_map (IsAnswer book x.taken x.closing (job h.seat)) (IsAnswer more (x.taken ++ z ∷ []) x.closing (job h.seat)) (λ u f. answer_found more x.taken (x.taken ++ z ∷ []) x.closing (job h.seat) u finds (answer_later book more None None x.taken x.closing (job h.seat) u grows spares f)) q.downs (h.talk uncut).answers;
        commits = (subst (AllAsks (IsCommit more x.closing x.cut (job h.seat) h.contents)) g.first (all_map (IsCommit book x.closing x.cut (job h.seat) h.contents) (IsCommit more x.closing x.cut (job h.seat) h.contents) (λ b m. commit_later book more None None x.closing x.cut (job h.seat) (job h.seat) h.contents b grows spares (λ u. refl) m) q.ups h.commits)).1;
        closes = λ uncut j f. close_later book more None None x.closing h.contents h.seat.client.next_temp j (client.local_bytes h.seat.client.opened j.file) j.stage grows spares (h.closes uncut j f);
        pending = λ i c f. waits_later book more None None x.closing x.cut (job h.seat) (job h.seat) c.session c.xid c.file c.what grows spares (λ u. refl) (h.pending i c f);
        wanted = λ uncut. tt;
        held = λ uncut. held_still book k qs n now x q a us g (Walked r) tt tt uncut us g.first;
        running = g.kept.running;
      })))

  -- ---- it comes to wait

  -- its client waits for the answer
  taken_first : x.cut ≡ false → (b : Asked) → AsksFor w b → IsTakenFor (onward book 1 book.ops) altering.op.client (record { place = altering.place; file = 0; stage = stage.Walking xid (walk_for b) }) n xid (walk_for b)
  taken_first uncut b asks =
      let c = altering in
      subst (λ (v : Walk). IsTakenFor (onward book 1 book.ops) c.op.client (record { place = c.place; file = 0; stage = stage.Walking xid v }) n xid v) (walk_is w b asks)
      (taken_now book (onward book 1 book.ops) k qs n now x a w h.seat c.op.client (record { place = c.place; file = 0; stage = stage.Walking xid w }) c.op g.kept h.owner (h.here uncut).0 g.noted (parsed laws a fits) refl refl refl refl (c.waited uncut) c.there refl)

  comes_waiting : (b : Asked) (f : File) → AsksFor w b → the_files.file_at t (file_of b) ≡ Some f → t.changes + server.entries_held k.server.waiting + entries_of b ≤ 4294967295 → AreTwo b → ComesToWait book k n x q a us k.server.temps (coming n xid b) h
  comes_waiting b f asks there room_left two =
      let c = altering in
      let e = entries_more k.server.waiting (coming n xid b) in
      let s = sizes_more k.server.waiting (coming n xid b) in
      let bytes = g.kept.server.bytes in
      record {
        session_is = refl;
        xid_is = refl;
        key_is = wanted_is w b lbfs xid n asks;
        number = ap (λ (z : Bool). cond {A = ℕ} z 1 0) (going_creates w.left w.goal going);
        were = λ i u at. (i, at);
        wants = (refl, two, subst IsWalkSmall (walk_is w b asks) fits.1);
        changes = omega (arith, e, room_left);
        bytes = omega (arith, s, bytes);
        length_is = omega arith;
        known = is_there book (file_of b) f (subst (FileIs book (file_of b)) there (g.kept.server.held (file_of b)));
        shelf = g.kept.shelf;
        found = λ o apart m lt. refl;
        held = λ uncut. held_rest k.server.temps n a us q.downs (locals_of h.seat.client) (job h.seat) tt (held_first book n k.server.temps q a us h.seat g.first (subst (λ (z : Bool). Orderly book n k.server.temps z q h.seat) g.unhung (h.orderly uncut)));
        waits = record { place = c.place; known = c.known; op = c.op; there = c.there; unmade = c.unmade; word_is = c.word_is ∙ word_wanted w b asks; file_is = c.file_is; waited = λ uncut. (w, c.waited uncut, asks); taken = λ uncut. taken_first uncut b asks };
      }

  serve_waits : (b : Asked) (f : File) → comes_by t held busy w.dir w.goal ≡ (t, Waits b) → AsksFor w b → the_files.file_at t (file_of b) ≡ Some f → t.changes + server.entries_held k.server.waiting + entries_of b ≤ 4294967295 → AreTwo b → Leads book (rest_of qs n q us) (happens k (Serves n now (message_spell (ask_message a))))
  serve_waits b f is asks there room_left two = noted_now (subst (Leads book (rest_of qs n q us)) (sym (waits_is b is)) (leads_coming book k qs n now x q a us k.server.temps (coming n xid b) g (comes_waiting b f asks there room_left two)))

  -- ---- any of them

  going_fits : (after : Tree) (d : Finished) (r : NameReply) → comes_by t held busy w.dir w.goal ≡ (after, Answered d) → IsBounded after → d.answer ≡ name_answer r → ToldFits book.lbfs (record { xid = xid; reply = Walked r })
  going_fits after d r is bounded same = (subst (λ (m : Nfs). MessageFits (message.Answer xid (body.Nfs m))) same (laws.goings xid t held busy w after d fits.0 g.kept.server.bounded bounded is going), tt)

  serve_so : ComesSo t held busy w → Leads book (rest_of qs n q us) (happens k (Serves n now (message_spell (ask_message a))))
  serve_so (refused s r is why refuses leads procs) = serve_refused s r is why refuses leads procs (going_fits t (said (name_answer r)) r is g.kept.server.bounded refl)
  serve_so (done_now done r after is step first second leads procs files none root next) = serve_now done r after is step first second leads procs files none (root g.kept.server.rooted) next (going_fits after (record { answer = name_answer r; first = done.first; second = done.second }) r is (stays after done step).0 refl)
  serve_so (waits b f is asks there room_left free two) = serve_waits b f is asks there room_left two

  pub serve_going : Leads book (rest_of qs n q us) (happens k (Serves n now (message_spell (ask_message (record { lbfs = lbfs; xid = xid; call = Walks w })))))
  serve_going = serve_so (comes_so t held busy w g.kept.server.bounded fits.1 going)
