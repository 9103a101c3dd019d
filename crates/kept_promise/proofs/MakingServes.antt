-- The server takes the last call of a walk, which makes a file, or makes or removes a directory.
use Rattle.std.proofs.Common.{inl, inr, ◌≡◌, ℕ, zero, suc, ◌+◌, ◌<◌, ◌≤◌, List, [], ◌∷◌, ◌++◌, length, append-nil, Option, Some, None, Result, Ok, Err, Bool, true, false, refl, sym, ap, ◌∙◌, subst, arith, eq-eqb, ne_eqb, if◌then◌else◌}
use Rattle.sha1.specs.Sha1.{sha1}
use Rattle.xdr_codec.specs.declared.status.Status.{Status}
use Rattle.nfs3_calls.specs.Nfs.{nfs_proc}
use Rattle.nfs3_calls.specs.declared.message.Nfs.{Nfs}
use Rattle.wire.specs.declared.message.Body.TheVariants as body
use Rattle.wire.specs.declared.message.Message.TheVariants as message
use Rattle.wire.specs.declared.message.Program.TheVariants as program
use Rattle.tree_nodes.specs.Nodes.{with_id}
use Rattle.tree_reading.specs.Tree.{Tree, contents_size}
use Rattle.tree_reading.specs.Plans.{made_entry}
use Rattle.tree_reading.specs.declared.call.Changed.{Changed as TreeChange}
use Rattle.tree_reading.specs.declared.call.Reservation.{Reservation}
use Rattle.tree_reading.specs.declared.entry.Entry.{Entry as TreeEntry}
use Rattle.tree_reading.specs.declared.entry.EntryKind.TheVariants as kind
use Rattle.tree_calls.specs.Changing.{said}
use Rattle.tree_calls.specs.declared.asked.Done.{Done as Finished}
use Rattle.path_calls.specs.Told.{walk_told}
use Rattle.path_calls.specs.Walk.{next_call}
use Rattle.path_calls.specs.declared.answers.Ended.TheVariants as walk_end
use Rattle.path_calls.specs.declared.answers.Told.TheVariants as leading
use Rattle.path_calls.specs.declared.walk.Goal.{Goal}
use Rattle.path_calls.specs.declared.walk.Goal.TheVariants as goal
use Rattle.path_calls.specs.declared.walk.Walk.{Walk}
use Rattle.server_core.specs.State as server
use Rattle.chunk_calls.specs.Files as the_files
use Rattle.server_core.specs.declared.event.Sent.{Sent}
use Rattle.client_state.specs.State as client
use Rattle.server_core.specs.Closing.{entries_by, entry_by as written_by}
use Rattle.client_state.specs.declared.task.Stage.TheVariants as stage
use Rattle.register_model.specs.declared.op.Word.TheVariants as words
use Rattle.register_model.specs.declared.op.Outcome.TheVariants as told
use Rattle.trace_replay.specs.Naming.{entry_file, refusal_of}
use Rattle.trace_ends.specs.Core.{changed_file, is_of_file}
use Rattle.trace_ends.specs.Ops.{pointed_at, pointed}
use Rattle.server_law.proofs.lemmas.Trees.{given, IsBounded}
use Rattle.kept_promise.proofs.Common.{slice_get, slice_set, cond, option_map, Contains, Contains-push, message_spell, MessageFits, stands, not, at, Entry, File, Op, TakenCall, FileChange, Stage, Word, Core, Seat, Session, Event.Serves, CoreStep, numbered, with_numbered, happens, serves, serves_if, quiet, Book, value_at, version_at, Call.Walks, Reply.Walked, value_from, unwrap_or, NameReply, name_answer, Ask, Told, Queue, ask_message, told_message, Leasing, later, history}
use Rattle.kept_promise.proofs.Statements.{ToldFits, CallFits}
use Rattle.trace_replay.specs.Faithful.{IsKind}
use Rattle.register_model.specs.Register.{IsFit}
use Rattle.kept_promise.proofs.Keys.{own}
use Rattle.kept_promise.proofs.OrderSteps.{up_untold}
use Rattle.kept_promise.proofs.Unwaited.{unwaited}
use Rattle.kept_promise.proofs.Marks.{marks}
use Rattle.kept_promise.proofs.Steps.{no_commits}
use Rattle.kept_promise.proofs.Lists.{some_is, nothing_there, same_or_not, of_replaced, at_replaced, all_map}
use Rattle.kept_promise.proofs.Goings.{RefusedBy}
use Rattle.kept_promise.proofs.PathNames.{building_makes, builds_at, is_building, creates_at, is_creating, makes_later}
use Rattle.kept_promise.proofs.Rooted.{IsRooted}
use Rattle.kept_promise.proofs.MakingRooted.{after_rooted}
use Rattle.kept_promise.proofs.Makings.{made_by, step_by, MadeSo, refuses, enters, made_walk, EntryAt, AfterAt}
use Rattle.kept_promise.proofs.MakingTrees.{positive, step_stays, none_after, next_after, next_made, next_big, next_small, next_none, file_made, IsNameGoal, files_same}
use Rattle.kept_promise.proofs.Messages.{Job, job, AllAsks, IsCommit, IsCreating, IsAnswer, CloseOf, UnmadeBy, PointedBy, MakesWalk, goal_word}
use Rattle.kept_promise.proofs.Rights.{IsUnmade}
use Rattle.kept_promise.proofs.Growth.{value_alike, version_alike, there_later}
use Rattle.kept_promise.proofs.History.{onward, entered, AreNames, made_op, made_book, IsEntryOf, grows_named, goes_named, still_named, goes_made, grows_made, value_now, version_now, marks_else}
use Rattle.kept_promise.proofs.Later.{answer_later, commit_later, close_later, waits_later, Spares}
use Rattle.kept_promise.proofs.Taken.{tolds_at, finds_more, answer_found}
use Rattle.kept_promise.proofs.Takes.{took, file_still, fresh_still}
use Rattle.kept_promise.proofs.Fits.{FitLaws}
use Rattle.kept_promise.proofs.Facts.{FileIs, IsServer, IsSession, commits_in}
use Rattle.kept_promise.proofs.Serves.{answered, parsed, parsed_at, serves_as, leads_got}
use Rattle.kept_promise.proofs.ServesFiles.{making_got, got_making, pointed_none}
use Rattle.kept_promise.proofs.Calls.{Given, session_in, first_fits, rest_of, leads_by, same_temps, held_still}
use Rattle.kept_promise.proofs.Tells.{walk_came, taken_now}
use Rattle.kept_promise.proofs.Entering.{entered_server, entered_step, leads_entered}
use Rattle.kept_promise.proofs.Leading.{Leads}
use Rattle.kept_promise.proofs.Unused.{IsUnused, unused_named, unused_created, created_used}
use Rattle.kept_promise.proofs.Turns.{unnoted}

-- ---- which goals

-- what the tree refuses is refused
refused_building : (t : Tree) (held : Reservation) (dir : ℕ) (left : List (List ℕ)) (g : Goal) (s : Status) → builds_at left g ≡ true → (step_by t held dir g).1 ≡ Err s → RefusedBy t dir g s
refused_building t held dir [] (goal.Make name) s b e = (held, e)
refused_building t held dir [] (goal.MakeDir name) s b e = (held, e)
refused_building t held dir [] (goal.RemoveDir name) s b e = (held, e)
refused_building t held dir left g s b e = absurd cc

pub name_goal : (left : List (List ℕ)) (g : Goal) → builds_at left g ≡ true → creates_at left g ≡ false → IsNameGoal g
name_goal [] (goal.Make name) m c = absurd cc
name_goal [] (goal.MakeDir name) m c = tt
name_goal [] (goal.RemoveDir name) m c = tt
name_goal left g m c = absurd cc

pub make_goal : (left : List (List ℕ)) (g : Goal) → builds_at left g ≡ true → creates_at left g ≡ true → (name : List ℕ) × (g ≡ goal.Make name)
make_goal [] (goal.Make name) b e = (name, refl)
make_goal left g b e = absurd cc

pub entry_name : (t : Tree) (g : Goal) (e : TreeEntry) → IsNameGoal g → EntryAt t g e → e.kind ≡ kind.Name
entry_name t (goal.MakeDir name) e names is = is
entry_name t (goal.RemoveDir name) e names is = is
entry_name t g e names is = absurd names

-- an answer refuses, or is done, and ends the walk by that
abbrev RefusesNow : Walk → Status → NameReply → Type 0
RefusesNow w s r = (refusal_of (name_answer r) ≡ Some s) × (walk_told w (name_answer r) ≡ leading.Ends (walk_end.Refused s))

-- ---- a call is taken

module _ (laws : FitLaws) (book : Book) (k : Core) (qs : List Queue) (n now : ℕ) (x : Session) (q : Queue) (lbfs xid : ℕ) (w : Walk) (us : List Ask) (g : Given book k qs n now x q (record { lbfs = lbfs; xid = xid; call = Walks w }) us) (making : is_building w ≡ true) where
  abbrev a : Ask
  a = record { lbfs = lbfs; xid = xid; call = Walks w }

  abbrev h : IsSession book k.seats k.server n x q
  h = session_in book k qs n now x q a us g

  fits : CallFits lbfs xid (Walks w)
  fits = first_fits book k qs n now x q a us g

  abbrev t : Tree
  t = k.server.tree

  abbrev held : Reservation
  held = server.held k.server.waiting

  abbrev leasing : Leasing
  leasing = later k.server.leasing now

  abbrev made : Tree × Finished
  made = made_by t held w.dir w.goal

  -- it is that of the operation which the session remembers
  creating : is_creating w ≡ true → IsCreating book x.closing x.cut (job h.seat) xid w
  creating is = (subst (AllAsks (IsCommit book x.closing x.cut (job h.seat) h.contents)) g.first h.commits).0 is

  step_is : unnoted k (happens k (Serves n now (message_spell (ask_message a)))) ≡ making_got k n now x xid made
  step_is =
      let standing : stands k.server n ≡ true = h.stands_is ∙ ap not g.unhung in
      ap (unnoted k) (serves_as k n now (message_spell (ask_message a)) x (ask_message a) g.at g.unhung (parsed_at laws k n a fits)) ∙ got_making k n now x xid w fits.1 making standing

  -- the answer goes down
  sent : (r : NameReply) → made.1.answer ≡ name_answer r → Contains (happens k (Serves n now (message_spell (ask_message a)))).down (record { session = n; message = message.Answer xid (body.Nfs (name_answer r)) })
  sent r is =
      let answer : Sent = record { session = n; message = message.Answer xid (body.Nfs (name_answer r)) } in
      subst (λ (c : CoreStep). Contains c.down answer) (sym step_is) (subst (λ (m : Nfs). Contains {X = Sent} (record { session = n; message = message.Answer xid (body.Nfs m) } ∷ []) answer) (sym is) (Contains-push [] answer))

  room : t.changes + server.entries_held k.server.waiting + 0 ≤ 4294967295
  room = let c = g.kept.server.changes in omega (arith, c)

  reply_fits : (r : NameReply) (after : Tree) → made.0 ≡ after → IsBounded after → made.1.answer ≡ name_answer r → ToldFits book.lbfs (record { xid = xid; reply = Walked r })
  reply_fits r after tree_is bounded is = (subst (λ (m : Nfs). MessageFits (message.Answer xid (body.Nfs m))) is (laws.makings xid t held w fits.0 g.kept.server.bounded (subst IsBounded (sym tree_is) bounded) making), tt)

  -- ---- it's refused

  -- the operation, which the session remembers, is unmade
  unmade : (b : Bool) → is_creating w ≡ b → x.cut ≡ false → (j : Job) (o : Op) → job h.seat ≡ Some j → slice_get book.ops j.place ≡ Some o → UnmadeBy b x.closing j o
  unmade false is uncut j o at there = tt
  unmade true is uncut j o at there =
      let c = creating is in
      let own : Job = record { place = c.place; file = 0; stage = stage.Walking xid w } in
      let same : own ≡ j = some_is own j (sym (c.waited uncut) ∙ at) in
      let place : c.place ≡ j.place = ap (λ (z : Job). z.place) same in
      let op : c.op ≡ o = some_is c.op o (sym c.there ∙ ap (slice_get book.ops) place ∙ there) in
      (subst IsUnmade op c.unmade, ap (λ (z : Op). z.file) (sym op) ∙ c.file_is, c.known ∙ ap (λ (p : ℕ). Some p) place)

  abbrev plain_step : List Entry → List Op → List ℕ → Nfs → CoreStep
  plain_step journal ops entries m = record (quiet (record k {
    steps = k.steps + 1;
    server = record (at k.server now) { journal = journal };
    sessions = with_numbered k.sessions n (took x xid (k.steps + 1));
    ops = ops;
    entries = entries;
  })) { down = record { session = n; message = message.Answer xid (body.Nfs m) } ∷ [] }

  refused_step : (r : NameReply) → making_got k n now x xid (t, said (name_answer r)) ≡ answered k n leasing x a k.server.temps k.server.index (Walked r)
  refused_step r =
      ap (λ (l : List Entry). plain_step l (pointed_at k.ops x.closing (k.steps + 1) None) (k.entries ++ []) (name_answer r)) (append-nil k.server.journal)
      ∙ ap (λ (l : List Op). plain_step k.server.journal l (k.entries ++ []) (name_answer r)) (pointed_none k.ops x.closing (k.steps + 1))
      ∙ ap (λ (l : List ℕ). plain_step k.server.journal k.ops l (name_answer r)) (append-nil k.entries)

  serve_refused : (s : Status) (r : NameReply) → made ≡ (t, said (name_answer r)) → (step_by t held w.dir w.goal).1 ≡ Err s → RefusesNow w s r → nfs_proc (name_answer r) ≡ nfs_proc (next_call w) → Leads book (rest_of qs n q us) (making_got k n now x xid made)
  serve_refused s r is err leads procs =
      let answer = ap (λ (p : Tree × Finished). p.1.answer) is in
      subst (λ (p : Tree × Finished). Leads book (rest_of qs n q us) (making_got k n now x xid p)) (sym is)
      (subst (Leads book (rest_of qs n q us)) (sym (refused_step r))
      (leads_by book k qs n now x q a us k.server.temps k.server.index (Walked r) g (same_temps book k n x q a (Walked r) h g.kept.shelf (λ uncut. tt) (λ uncut vs e. held_still book k qs n now x q a us g (Walked r) tt tt uncut vs e) (ap (λ p. program.Nfs p) procs) (reply_fits r t (ap (λ (p : Tree × Finished). p.0) is) g.kept.server.bounded answer)
      (λ uncut. walk_came book (onward book 1 book.ops) k qs n now x q lbfs xid w us h.seat r g.kept h.owner (h.here uncut).0 (h.talk uncut) g.first g.noted (sent r answer) refl refl
      (λ j o at is there. (o, there, refl, refl, inr (inl (record { making = building_makes w.left w.goal making; why = s; why_is = refused_building t held w.dir w.left w.goal s making err; refuses = leads.0; leads = leads.1; unmade = unmade (is_creating w) refl uncut j o at there }))))))))

  -- ---- it's done

  -- what the tree keeps
  stays : (after : Tree) (done : TreeChange) → step_by t held w.dir w.goal ≡ (after, Ok done) → IsBounded after × (after.changes + server.entries_held k.server.waiting + 0 ≤ 4294967295) × (contents_size after.nodes ≤ contents_size t.nodes)
  stays after done is = subst (λ (p : Tree × Result TreeChange Status). IsBounded p.0 × (p.0.changes + server.entries_held k.server.waiting + 0 ≤ 4294967295) × (contents_size p.0.nodes ≤ contents_size t.nodes)) is (step_stays t held w.dir w.goal g.kept.server.bounded room)

  -- no node gets the id 0
  zero_after : (after : Tree) → AfterAt t w.dir w.goal after → with_id after.nodes 0 ≡ None
  zero_after after a = none_after t w.dir w.goal after 0 (given t g.kept.server.bounded) a (positive t w.dir w.goal after a g.kept.server.bounded) g.kept.server.zero

  -- the root is there, and names are short
  rooted_after : (after : Tree) → AfterAt t w.dir w.goal after → IsRooted after.nodes
  rooted_after after a = after_rooted t w.dir w.goal after fits.1.named.1 (given t g.kept.server.bounded) a g.kept.server.rooted

  -- with one entry more
  done_step : (after : Tree) (e : TreeEntry) (r : NameReply) (ops : List Op) → pointed_at k.ops x.closing (k.steps + 1) (changed_file (written_by n e ∷ [])) ≡ ops → making_got k n now x xid (after, record { answer = name_answer r; first = Some e; second = None }) ≡ entered_step k n leasing x a after (k.server.journal ++ written_by n e ∷ []) ops (k.entries ++ (k.steps + 1) ∷ []) (Walked r)
  done_step after e r ops is = ap (λ (l : List Op). entered_step k n leasing x a after (k.server.journal ++ written_by n e ∷ []) l (k.entries ++ (k.steps + 1) ∷ []) (Walked r)) is

  -- what came of it, of an operation
  makes : (r : NameReply) (done : TreeChange) (after : Tree) → step_by t held w.dir w.goal ≡ (after, Ok done) → walk_told w (name_answer r) ≡ leading.Ends walk_end.Done → x.cut ≡ false → (more : Book) → more.moments ≡ book.moments → more.steps ≡ book.steps + 1 → (j : Job) (o z : Op) → job h.seat ≡ Some j → j.stage ≡ stage.Walking xid w → slice_get book.ops j.place ≡ Some z → o.client ≡ z.client → PointedBy (is_creating w) x.closing j o (book.steps + 1) (entry_file done.first) → (e : TreeEntry) → made ≡ (after, record { answer = name_answer r; first = Some e; second = None }) → done.first ≡ Some e → done.second ≡ None
      → MakesWalk more (record { before = k; event = Serves n now (message_spell (ask_message a)) }) (book.steps + 1) x.closing j o w (name_answer r)
  makes r done after step leads uncut more moments steps j o z at on there same pointed_ e is first second = record {
    making = building_makes w.left w.goal making;
    session = n;
    xid = xid;
    taken = taken_now book more k qs n now x a w h.seat o.client j z g.kept h.owner (h.here uncut).0 g.noted (parsed laws a fits) refl moments steps same at there on;
    comes = inl refl;
    before = (let s = g.kept.steps in omega (arith, s));
    done = done;
    step_is = ap (λ (p : Tree × Result TreeChange Status). p.1) step;
    tree_is = ap (λ (c : CoreStep). c.core.server.tree) step_is ∙ ap (λ (p : Tree × Finished). p.0) is ∙ sym (ap (λ (p : Tree × Result TreeChange Status). p.0) step);
    journal_is = ap (λ (c : CoreStep). c.core.server.journal) step_is ∙ ap (λ (p : Tree × Finished). k.server.journal ++ entries_by n p.1.first p.1.second) is ∙ sym (ap (λ (o : Option TreeEntry). k.server.journal ++ entries_by n o done.second) first ∙ ap (λ (o : Option TreeEntry). k.server.journal ++ entries_by n (Some e) o) second);
    leads = leads;
    pointed = pointed_;
  }

  -- ---- names alone change

  abbrev named : TreeEntry → Book
  named e = entered book book.ops (written_by n e ∷ [])

  are_names : (e : TreeEntry) → e.kind ≡ kind.Name → AreNames (written_by n e ∷ [])
  are_names e is zero d at = ap (λ (z : Entry). is_of_file z.kind) (sym (some_is (written_by n e) d at)) ∙ ap is_of_file is
  are_names e is (suc i) d at = nothing_there d at

  server_named : (after : Tree) (done : TreeChange) (e : TreeEntry) → IsNameGoal w.goal → step_by t held w.dir w.goal ≡ (after, Ok done) → AfterAt t w.dir w.goal after → IsServer (named e) (entered_server k.server leasing after (k.server.journal ++ written_by n e ∷ []))
  server_named after done e names is a =
      let more = named e in
      let grows = grows_named book (written_by n e ∷ []) in
      let still = still_named book (written_by n e ∷ []) g.kept.sound in
      let s = stays after done is in
      let room_left = s.1 in
      let size = s.2 in
      let bytes = g.kept.server.bytes in
      let fewer = next_after t w.dir w.goal after a in
      record {
        held = λ f. subst (FileIs more f) (sym (files_same t w.dir w.goal after (given t g.kept.server.bounded) a names f)) (file_still book more None None f (the_files.file_at t f) grows still (g.kept.server.held f));
        fresh = λ f u. fresh_still book more None None t grows still g.kept.server.fresh f (unused_named t w.dir w.goal after f (given t g.kept.server.bounded) a names u);
        bounded = s.0;
        zero = zero_after after a;
        rooted = rooted_after after a;
        wants = g.kept.server.wants;
        changes = omega (arith, room_left);
        bytes = omega (arith, size, bytes);
        lengths = g.kept.server.lengths;
        targets = λ i c f. there_later book more None None c.file grows (g.kept.server.targets i c f);
        xids = g.kept.server.xids;
        leases = g.kept.server.leases;
        serves = g.kept.server.serves;
      }

  serve_named : (done : TreeChange) (e : TreeEntry) (r : NameReply) (after : Tree) → is_creating w ≡ false → made ≡ (after, record { answer = name_answer r; first = Some e; second = None }) → step_by t held w.dir w.goal ≡ (after, Ok done) → done.first ≡ Some e → done.second ≡ None → EntryAt t w.goal e → AfterAt t w.dir w.goal after → walk_told w (name_answer r) ≡ leading.Ends walk_end.Done → nfs_proc (name_answer r) ≡ nfs_proc (next_call w)
      → Leads book (rest_of qs n q us) (making_got k n now x xid made)
  serve_named done e r after none is step first second entry_is after_is leads procs =
      let names = name_goal w.left w.goal making none in
      let kind_is = entry_name t w.goal e names entry_is in
      let more = named e in
      let grows = grows_named book (written_by n e ∷ []) in
      let answer = ap (λ (p : Tree × Finished). p.1.answer) is in
      let spares : Spares x.closing None = λ p u v. nothing_there p v in
      let z : TakenCall = record { xid = xid; step = book.steps + 1 } in
      let finds = finds_more x.taken z in
      let ops_is : pointed_at k.ops x.closing (k.steps + 1) (changed_file (written_by n e ∷ [])) ≡ k.ops = ap (λ (b : Bool). pointed_at k.ops x.closing (k.steps + 1) (option_map (λ (d : Entry). d.file) (cond b (Some (written_by n e)) None))) (ap is_of_file kind_is) ∙ pointed_none k.ops x.closing (k.steps + 1) in
      let entries : more.entries ≡ k.entries ++ (k.steps + 1) ∷ [] = ap (λ (es : List ℕ). es ++ (book.steps + 1) ∷ []) g.kept.entries ∙ ap (λ (s : ℕ). k.entries ++ (s + 1) ∷ []) g.kept.steps in
      subst (λ (p : Tree × Finished). Leads book (rest_of qs n q us) (making_got k n now x xid p)) (sym is)
      (subst (Leads book (rest_of qs n q us)) (sym (done_step after e r k.ops ops_is))
      (leads_entered book more k qs n leasing after (k.server.journal ++ written_by n e ∷ []) k.ops (k.entries ++ (k.steps + 1) ∷ []) x q a us (Walked r) None g.kept g.at g.is g.owned g.first g.unhung refl refl (ap (λ s. s + 1) g.kept.steps) g.kept.ops entries (record {
        goes = goes_named book (written_by n e ∷ []) (are_names e kind_is) g.kept.sound;
        server = server_named after done e names step after_is;
        journal_is = ap (λ (l : List Entry). l ++ written_by n e ∷ []) g.kept.journal;
        made_here = λ p f. nothing_there p f;
        program = ap (λ p. program.Nfs p) procs;
        fits = reply_fits r after (ap (λ (p : Tree × Finished). p.0) is) (stays after done step).0 answer;
        answer = λ uncut. walk_came book more k qs n now x q lbfs xid w us h.seat r g.kept h.owner (h.here uncut).0 (h.talk uncut) g.first g.noted (sent r answer) refl refl
            (λ j o at on there. (o, there, refl, refl, inr (inr (makes r done after step leads uncut more refl refl j o o at on there refl (subst (λ (b : Bool). PointedBy b x.closing j o (book.steps + 1) (entry_file done.first)) (sym none) tt) e is first second))));
        answers = λ uncut. all_map (IsAnswer book x.taken x.closing (job h.seat)) (IsAnswer more (x.taken ++ z ∷ []) x.closing (job h.seat)) (λ u f. answer_found more x.taken (x.taken ++ z ∷ []) x.closing (job h.seat) u finds (answer_later book more None None x.taken x.closing (job h.seat) u grows spares f)) q.downs (h.talk uncut).answers;
        commits = (subst (AllAsks (IsCommit more x.closing x.cut (job h.seat) h.contents)) g.first (all_map (IsCommit book x.closing x.cut (job h.seat) h.contents) (IsCommit more x.closing x.cut (job h.seat) h.contents) (λ b m. commit_later book more None None x.closing x.cut (job h.seat) (job h.seat) h.contents b grows spares (λ u. refl) m) q.ups h.commits)).1;
        closes = λ uncut j f. close_later book more None None x.closing h.contents h.seat.client.next_temp j (client.local_bytes h.seat.client.opened j.file) j.stage grows spares (h.closes uncut j f);
        pending = λ i d f. waits_later book more None None x.closing x.cut (job h.seat) (job h.seat) d.session d.xid d.file d.what grows spares (λ u. refl) (h.pending i d f);
        wanted = λ uncut. tt;
        held = λ uncut. held_still book k qs n now x q a us g (Walked r) tt tt uncut us g.first;
        running = g.kept.running;
      })))

  -- ---- a file is made

  abbrev made_file : IsCreating book x.closing x.cut (job h.seat) xid w → TreeEntry → Book
  made_file c e = made_book book (written_by n e ∷ []) c.place t.next c.op

  tells : (c : IsCreating book x.closing x.cut (job h.seat) xid w) (e : TreeEntry) → c.op.word ≡ words.Make → e ≡ made_entry t.next → 1 < t.next → IsEntryOf book t.next c.op (written_by n e)
  tells c e make is big = record {
    kind_is = subst (λ (z : Word). IsKind z e.kind) (sym make) (ap (λ (z : TreeEntry). z.kind) is);
    file = sym (ap (λ (z : TreeEntry). z.file) is);
    len = ap (λ (z : Word). length (unwrap_or (value_from z c.op.value) [])) make ∙ sym (ap (λ (z : TreeEntry). z.len) is);
    digest = inl (ap (λ (z : Word). sha1 (unwrap_or (value_from z c.op.value) [])) make ∙ sym (ap (λ (z : TreeEntry). z.sha1) is));
    version = ap (λ (z : TreeEntry). z.version) is ∙ sym (ap (λ (v : ℕ). v + 1) (ap (λ (z : TreeEntry). version_at book z.file (book.steps + 1)) is ∙ g.kept.server.fresh t.next (inl (omega arith))));
    own = λ close. absurd (make_not_close (sym make ∙ close));
    positive = big;
    fit = subst (λ (z : Word). IsFit z (value_at book t.next (book.steps + 1))) (sym make) (subst (FileIs book t.next) (next_none t (given t g.kept.server.bounded)) (g.kept.server.held t.next));
  }
    where
      make_not_close : words.Make ≡ words.Close → ⊥
      make_not_close e = absurd cc

  two : book.steps + 2 ≡ book.steps + 1 + 1
  two = omega arith

  -- what the tree has of each file then
  file_now : (c : IsCreating book x.closing x.cut (job h.seat) xid w) (e : TreeEntry) → FileIs (made_file c e) t.next (Some (record { id = t.next; version = 1; content = [] })) → (name : List ℕ) (after : Tree) → AfterAt t w.dir (goal.Make name) after → (f : ℕ) → FileIs (made_file c e) f (the_files.file_at after f)
  file_now c e own name after a f = elim (same_or_not f t.next) [
    | inl here ↦ subst (λ (z : ℕ). FileIs (made_file c e) z (the_files.file_at after z)) (sym here) (subst (FileIs (made_file c e) t.next) (sym (file_made t w.dir name after (given t g.kept.server.bounded) a t.next ∙ ap (λ (b : Bool). if b then Some (record { id = t.next; version = 1; content = [] }) else the_files.file_at t t.next) (eq-eqb t.next t.next refl))) own)
    | inr apart ↦
        let marks_ : marks f (book.steps + 1 + 1) (history (made_file c e)).ops ≡ marks f (book.steps + 1) (history book).ops = subst (λ m. marks f m (history (made_file c e)).ops ≡ marks f (book.steps + 1) (history book).ops) two (marks_else book (written_by n e ∷ []) t.next c.place c.op f c.there c.unmade (λ q. apart (sym q)) g.kept.sound) in
        subst (FileIs (made_file c e) f) (sym (file_made t w.dir name after (given t g.kept.server.bounded) a f ∙ ap (λ (b : Bool). if b then Some (record { id = t.next; version = 1; content = [] }) else the_files.file_at t f) (ne_eqb t.next f (λ q. apart (sym q)))))
        (others (the_files.file_at t f) (g.kept.server.held f) (value_alike book (made_file c e) f (book.steps + 1 + 1) (book.steps + 1) refl marks_) (version_alike book (made_file c e) f (book.steps + 1 + 1) (book.steps + 1) refl marks_))
  ]
    where
      others : (z : Option File) → FileIs book f z → value_at (made_file c e) f (book.steps + 1 + 1) ≡ value_at book f (book.steps + 1) → version_at (made_file c e) f (book.steps + 1 + 1) ≡ version_at book f (book.steps + 1) → FileIs (made_file c e) f z
      others None is v u = v ∙ is
      others (Some z) is v u = (is.0, is.1, is.2, record { value = is.3.value; is = v ∙ is.3.is; size = is.3.size; same = is.3.same }, u ∙ is.4, is.5)

  server_made : (c : IsCreating book x.closing x.cut (job h.seat) xid w) (after : Tree) (done : TreeChange) (e : TreeEntry) (name : List ℕ) → c.op.word ≡ words.Make → step_by t held w.dir w.goal ≡ (after, Ok done) → AfterAt t w.dir (goal.Make name) after → w.goal ≡ goal.Make name → IsServer (made_file c e) (entered_server k.server leasing after (k.server.journal ++ written_by n e ∷ []))
  server_made c after done e name make is a aim =
      let more = made_file c e in
      let grows = grows_made book (written_by n e ∷ []) t.next c.place c.op (λ close. absurd (make_not_close (sym make ∙ close))) c.there c.unmade in
      let s = stays after done is in
      let room_left = s.1 in
      let size = s.2 in
      let bytes = g.kept.server.bytes in
      let next = next_made t w.dir name after a in
      let value : value_at more t.next (book.steps + 1 + 1) ≡ Some [] = subst (λ (m : ℕ). value_at more t.next m ≡ value_from c.op.word c.op.value) two (value_now book (written_by n e ∷ []) t.next c.place c.op c.there c.unmade g.kept.sound) ∙ ap (λ (z : Word). value_from z c.op.value) make in
      let version : version_at more t.next (book.steps + 1 + 1) ≡ 1 = subst (λ (m : ℕ). version_at more t.next m ≡ version_at book t.next (book.steps + 1) + 1) two (version_now book (written_by n e ∷ []) t.next c.place c.op c.there c.unmade g.kept.sound) ∙ ap (λ (v : ℕ). v + 1) (g.kept.server.fresh t.next (inl (omega arith))) in
      record {
        held = file_now c e (refl, next_big t w.dir name after a g.kept.server.bounded g.kept.server.zero, next_small t g.kept.server.bounded, record { value = []; is = value; size = refl; same = inl refl }, version, omega arith) name after a;
        fresh = λ f u.
            let apart : f ≡ t.next → ⊥ = λ same. created_used t w.dir name after (given t g.kept.server.bounded) a (subst (IsUnused after) same u) in
            let marks_ : marks f (book.steps + 1 + 1) (history (made_file c e)).ops ≡ marks f (book.steps + 1) (history book).ops = subst (λ m. marks f m (history (made_file c e)).ops ≡ marks f (book.steps + 1) (history book).ops) two (marks_else book (written_by n e ∷ []) t.next c.place c.op f c.there c.unmade (λ q. apart (sym q)) g.kept.sound) in
            version_alike book more f (book.steps + 1 + 1) (book.steps + 1) refl marks_ ∙ g.kept.server.fresh f (unused_created t w.dir name after f (given t g.kept.server.bounded) a u);
        bounded = s.0;
        zero = zero_after after (subst (λ (z : Goal). AfterAt t w.dir z after) (sym aim) a);
        rooted = rooted_after after (subst (λ (z : Goal). AfterAt t w.dir z after) (sym aim) a);
        wants = g.kept.server.wants;
        changes = omega (arith, room_left);
        bytes = omega (arith, size, bytes);
        lengths = g.kept.server.lengths;
        targets = λ i d f. there_later book more (Some c.place) None d.file grows (g.kept.server.targets i d f);
        xids = g.kept.server.xids;
        leases = g.kept.server.leases;
        serves = g.kept.server.serves;
      }
    where
      make_not_close : words.Make ≡ words.Close → ⊥
      make_not_close e = absurd cc

  -- what its client waits for is this call
  waits_here : (c : IsCreating book x.closing x.cut (job h.seat) xid w) → x.cut ≡ false → (j : Job) → job h.seat ≡ Some j → (j.place ≡ c.place) × (j.stage ≡ stage.Walking xid w)
  waits_here c uncut j at =
      let same : j ≡ record { place = c.place; file = 0; stage = stage.Walking xid w } = some_is j (record { place = c.place; file = 0; stage = stage.Walking xid w }) (sym at ∙ c.waited uncut) in
      (ap (λ (z : Job). z.place) same, ap (λ (z : Job). z.stage) same)

  -- so no other answer is waited for
  old_answers : (c : IsCreating book x.closing x.cut (job h.seat) xid w) (more : Book) (taken : List TakenCall) → x.cut ≡ false → (i : ℕ) (u : Told) → slice_get q.downs i ≡ Some u → IsAnswer book x.taken x.closing (job h.seat) u → IsAnswer more taken x.closing (job h.seat) u
  old_answers c more taken uncut i u at f = unwaited book more x.taken taken x.closing (job h.seat) xid w u (λ j is. (waits_here c uncut j is).1) (λ same. up_untold n k.server.waiting q x.hung h.seat.client.next_xid (client.calls_of h.seat.client) 0 i a u (h.talk uncut).balanced (ap (λ (l : List Ask). slice_get l 0) g.first) at (sym same)) f

  -- it's the one change of its session that is on its way
  alone : is_creating w ≡ true → (commits_in us ≡ 0) × (length (own n k.server.waiting) ≡ 0)
  alone is = let single = h.single in let one = ap commits_in g.first in let mine : cond (is_creating w) 1 0 ≡ 1 = ap {B = ℕ} (λ (b : Bool). cond b 1 0) is in (omega (arith, single, one, mine), omega (arith, single, one, mine))

  serve_made : (done : TreeChange) (e : TreeEntry) (r : NameReply) (after : Tree) → is_creating w ≡ true → made ≡ (after, record { answer = name_answer r; first = Some e; second = None }) → step_by t held w.dir w.goal ≡ (after, Ok done) → done.first ≡ Some e → done.second ≡ None → EntryAt t w.goal e → AfterAt t w.dir w.goal after → walk_told w (name_answer r) ≡ leading.Ends walk_end.Done → nfs_proc (name_answer r) ≡ nfs_proc (next_call w)
      → Leads book (rest_of qs n q us) (making_got k n now x xid made)
  serve_made done e r after is_file is step first second entry_is after_is leads procs =
      let c = creating is_file in
      let aim = make_goal w.left w.goal making is_file in
      let make : c.op.word ≡ words.Make = c.word_is ∙ ap goal_word aim.1 in
      let entry : e ≡ made_entry t.next = subst (λ (z : Goal). EntryAt t z e) aim.1 entry_is in
      let so : AfterAt t w.dir (goal.Make aim.0) after = subst (λ (z : Goal). AfterAt t w.dir z after) aim.1 after_is in
      let more = made_file c e in
      let new : Op = made_op book t.next c.op in
      let goes = goes_made book (written_by n e) [] t.next c.place c.op (tells c e make entry (next_big t w.dir aim.0 after so g.kept.server.bounded g.kept.server.zero)) (λ i d at. nothing_there d at) c.there c.unmade g.kept.sound in
      let answer = ap (λ (p : Tree × Finished). p.1.answer) is in
      let ops : List Op = slice_set k.ops c.place (record c.op { file = t.next; point = Some (k.steps + 1) }) in
      let ops_is : pointed_at k.ops x.closing (k.steps + 1) (changed_file (written_by n e ∷ [])) ≡ ops =
      ap (λ (z : TreeEntry). pointed_at k.ops x.closing (k.steps + 1) (changed_file (written_by n z ∷ []))) entry
      ∙ ap (λ (z : Option ℕ). pointed_at k.ops z (k.steps + 1) (Some t.next)) c.known
      ∙ ap (λ (z : Option Op). pointed k.ops c.place t.next (k.steps + 1) z) (ap (λ (l : List Op). slice_get l c.place) (sym g.kept.ops) ∙ c.there) in
      let more_ops : more.ops ≡ ops = ap (λ (l : List Op). slice_set l c.place new) g.kept.ops ∙ ap (λ (s : ℕ). slice_set k.ops c.place (record c.op { file = t.next; point = Some (s + 1) })) g.kept.steps in
      let entries : more.entries ≡ k.entries ++ (k.steps + 1) ∷ [] = ap (λ (es : List ℕ). es ++ (book.steps + 1) ∷ []) g.kept.entries ∙ ap (λ (s : ℕ). k.entries ++ (s + 1) ∷ []) g.kept.steps in
      let z : TakenCall = record { xid = xid; step = book.steps + 1 } in
      let none = alone is_file in
      let points : entry_file done.first ≡ Some t.next = ap entry_file first ∙ ap (λ (d : TreeEntry). entry_file (Some d)) entry in
      subst (λ (p : Tree × Finished). Leads book (rest_of qs n q us) (making_got k n now x xid p)) (sym is)
      (subst (Leads book (rest_of qs n q us)) (sym (done_step after e r ops ops_is))
      (leads_entered book more k qs n leasing after (k.server.journal ++ written_by n e ∷ []) ops (k.entries ++ (k.steps + 1) ∷ []) x q a us (Walked r) (Some c.place) g.kept g.at g.is g.owned g.first g.unhung refl refl (ap (λ s. s + 1) g.kept.steps) more_ops entries (record {
        goes = goes;
        server = server_made c after done e aim.0 make step so aim.1;
        journal_is = ap (λ (l : List Entry). l ++ written_by n e ∷ []) g.kept.journal;
        made_here = λ p f. c.known ∙ f;
        program = ap (λ p. program.Nfs p) procs;
        fits = reply_fits r after (ap (λ (p : Tree × Finished). p.0) is) (stays after done step).0 answer;
        answer = λ uncut. walk_came book more k qs n now x q lbfs xid w us h.seat r g.kept h.owner (h.here uncut).0 (h.talk uncut) g.first g.noted (sent r answer) refl refl
            (λ j o at on there.
            let place = (waits_here c uncut j at).0 in
            let same : c.op ≡ o = some_is c.op o (sym c.there ∙ ap (slice_get book.ops) (sym place) ∙ there) in
            (new, ap (slice_get (slice_set book.ops c.place new)) place ∙ at_replaced book.ops c.place new c.op c.there, ap (λ (z : Op). z.begin) same, ap (λ (z : Op). z.client) same, inr (inr (makes r done after step leads uncut more refl refl j new o at on there (ap (λ (z : Op). z.client) same) (subst (λ (b : Bool). PointedBy b x.closing j new (book.steps + 1) (entry_file done.first)) (sym is_file) (inr (t.next, points, c.unmade.0, refl, refl))) e is first second))));
        answers = λ uncut. tolds_at (IsAnswer book x.taken x.closing (job h.seat)) (IsAnswer more (x.taken ++ z ∷ []) x.closing (job h.seat)) q.downs (λ i u told f. old_answers c more (x.taken ++ z ∷ []) uncut i u told f) (h.talk uncut).answers;
        commits = no_commits more x.closing x.cut (job h.seat) h.contents us none.0;
        closes = λ uncut j f. subst (λ (s : Stage). CloseOf more x.closing h.contents h.seat.client.next_temp j (client.local_bytes h.seat.client.opened j.file) s) (sym (waits_here c uncut j f).1) (λ later. absurd (last_call w.left w.goal is_file later));
        pending = λ i d f. absurd (none_waits (own n k.server.waiting) none.1 i d f);
        wanted = λ uncut. tt;
        held = λ uncut. held_still book k qs n now x q a us g (Walked r) tt tt uncut us g.first;
        running = λ p o at run. still_runs c p o at run;
      })))
    where
      last_call : (left : List (List ℕ)) (goal_ : Goal) → creates_at left goal_ ≡ true → makes_later left goal_ ≡ true → ⊥
      last_call [] (goal.Make name) e later = absurd cc
      last_call left goal_ e later = absurd cc

      none_waits : (l : List FileChange) → length l ≡ 0 → (i : ℕ) (d : FileChange) → slice_get l i ≡ Some d → ⊥
      none_waits [] e i d f = nothing_there d f
      none_waits (d ∷ l) e i c f = absurd (omega (arith, e))

      still_runs : (c : IsCreating book x.closing x.cut (job h.seat) xid w) (p : ℕ) (o : Op) → slice_get (slice_set book.ops c.place (made_op book t.next c.op)) p ≡ Some o → o.outcome ≡ told.Running → (s : Seat) × (j : Job) × (numbered k.seats o.client ≡ Some s) × (job s ≡ Some j) × (j.place ≡ p)
      still_runs c p o at run = elim (of_replaced book.ops c.place (made_op book t.next c.op) p o at) [
        | inr was ↦ g.kept.running p o was.1 run
        | inl new ↦
            let r = g.kept.running c.place c.op c.there (ap (λ (v : Op). v.outcome) (sym new.1) ∙ run) in
            (r.0, r.1, ap (λ (v : Op). numbered k.seats v.client) new.1 ∙ r.2, r.3, r.4 ∙ sym new.0)
      ]

  -- ---- either way

  serve_so : MadeSo t held w → Leads book (rest_of qs n q us) (making_got k n now x xid made)
  serve_so (refuses s r is err refused leads procs) = serve_refused s r is err (refused, leads) procs
  serve_so (enters done e r after is step first second entry_is after_is leads procs) = by (is_creating w) refl
    where
      by : (b : Bool) → is_creating w ≡ b → Leads book (rest_of qs n q us) (making_got k n now x xid made)
      by false none = serve_named done e r after none is step first second entry_is after_is leads procs
      by true some = serve_made done e r after some is step first second entry_is after_is leads procs

  pub serve_making : Leads book (rest_of qs n q us) (happens k (Serves n now (message_spell (ask_message (record { lbfs = lbfs; xid = xid; call = Walks w })))))
  serve_making = leads_got book k (rest_of qs n q us) n now (message_spell (ask_message a)) x g.at g.owned (subst (Leads book (rest_of qs n q us)) (sym step_is) (serve_so (made_walk t held w making)))
