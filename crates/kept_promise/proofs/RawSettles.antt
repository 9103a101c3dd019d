-- A pending change is made which a session asked for that is no client's: it is a change of the history by that session, and what it is told vanishes.
use Rattle.std.proofs.Common.{inl, inr, ◌≡◌, ℕ, ◌+◌, ◌≤◌, List, [], ◌∷◌, ◌++◌, length, map, replicate, append-nil, Option, Some, None, Result, Ok, Bool, true, false, ◌==◌, refl, sym, ap, ◌∙◌, subst, arith, if◌then◌else◌, IsSome, ne_eqb, ◌<◌, eq-eqb}
use Rattle.std.specs.Option.{option_map}
use Rattle.xdr_codec.specs.declared.answer.Answer.TheVariants as answer
use Rattle.xdr_codec.specs.declared.status.Status.TheVariants as status
use Rattle.hash_calls.specs.declared.message.Lb.TheVariants as lb
use Rattle.wire.specs.declared.message.Body.{Body}
use Rattle.wire.specs.declared.message.Body.TheVariants as body
use Rattle.wire.specs.declared.message.Message.TheVariants as message
use Rattle.tree_nodes.specs.Nodes.{with_id}
use Rattle.tree_reading.specs.Tree.{contents_size}
use Rattle.tree_reading.specs.declared.call.Changed.{Changed as TreeChange}
use Rattle.tree_reading.specs.declared.call.Reservation.{Reservation}
use Rattle.tree_reading.specs.declared.entry.Entry.{Entry as TreeEntry}
use Rattle.tree_reading.specs.declared.entry.EntryKind.{EntryKind}
use Rattle.tree_reading.specs.declared.entry.EntryKind.TheVariants as kind
use Rattle.tree_calls.specs.Changing.{said}
use Rattle.tree_calls.specs.Waiting.{file_of, settles as tree_settles}
use Rattle.tree_calls.specs.declared.asked.Asked.{Asked}
use Rattle.tree_calls.specs.declared.asked.Asked.TheVariants as asked
use Rattle.tree_calls.specs.declared.asked.Committing.{Committing}
use Rattle.tree_calls.specs.declared.asked.Done.{Done as Finished}
use Rattle.file_tree.specs.Step.{replaced}
use Rattle.chunk_index.specs.Index.{Indexed}
use Rattle.chunk_index.specs.Places.{indexed}
use Rattle.chunk_calls.specs.Files as the_files
use Rattle.server_core.specs.State as server
use Rattle.server_core.specs.Closing.{makes_change, committed_by, settled_by as server_settled, told_change, entered_by, entries_by, entry_by as written_by, count_of}
use Rattle.server_core.specs.Leasing.{granted}
use Rattle.server_core.specs.Recalling.{term_at}
use Rattle.server_core.specs.declared.change.Wanted.{Wanted}
use Rattle.server_core.specs.declared.change.Wanted.TheVariants as wanted
use Rattle.server_core.specs.declared.event.ServerStep.{ServerStep}
use Rattle.server_core.specs.declared.event.Sent.{Sent}
use Rattle.register_model.specs.declared.raw.Raw.{Raw}
use Rattle.register_model.specs.declared.raw.RawKind.TheVariants as raw
use Rattle.trace_ends.specs.Core.{raw_in, raw_of, raw_by, raw_kind, content_in, changed_entry, newest_entries, is_of_file}
use Rattle.server_law.proofs.lemmas.Trees.{IsBounded, replaced_own, replaced_other, replaced_size, replaced_bounded, file_bounded, given}
use Rattle.kept_promise.proofs.Common.{slice_get, sha1, cond, find, at, later, FileChange, File, Entry, Op, Core, CoreStep, Session, settles, happens, Event.Settles, numbered, Book, Queue, Tree, Leasing, chunks_of, version_at, is_raw, raws_with, raws_on, name_answer, NameReply, value_at, Status}
use Rattle.trace_ends.specs.Core.{raws_by}
use Rattle.kept_promise.proofs.Lists.{some_is, nothing_there, true_and_false}
use Rattle.kept_promise.proofs.Messages.{content_wanted, walk_for}
use Rattle.kept_promise.proofs.Rights.{WasThere, IsSound}
use Rattle.kept_promise.proofs.Growth.{Grows, there_later}
use Rattle.kept_promise.proofs.History.{onward, grows_same, goes_same, still_same, stranger_book, IsStrangers, goes_stranger, AreNames}
use Rattle.kept_promise.proofs.Takes.{file_still, fresh_still}
use Rattle.kept_promise.proofs.Turns.{also_numbered, around_same, unnoted, came_same}
use Rattle.kept_promise.proofs.Facts.{FileIs, IsServer, IsRawSession, IsKept, IsWanted}
use Rattle.kept_promise.proofs.Leading.{Leads}
use Rattle.kept_promise.proofs.Making.{entry_of, room_there, made_is}
use Rattle.kept_promise.proofs.MakingTrees.{step_stays}
use Rattle.kept_promise.proofs.Makings.{step_by}
use Rattle.kept_promise.proofs.NoZero.{replaced_none}
use Rattle.kept_promise.proofs.Rooted.{IsRooted, replaced_rooted}
use Rattle.kept_promise.proofs.Unused.{IsUnused, file_used, unused_replaced, unused_gone}
use Rattle.kept_promise.proofs.ServesFiles.{newest_more, count_is}
use Rattle.kept_promise.proofs.TakenOut.{SettlesOut, settled_to, raws_to, raw_ops, told_is, own_fewer}
use Rattle.kept_promise.proofs.Departures.{SettlesSo, refused_late, goes, settles_so, IsGoneEntry, asks_itself}
use Rattle.kept_promise.proofs.GoingCalls.{IsName}
use Rattle.kept_promise.proofs.GoingEnds.{entries_gone, count_gone, second_names}
use Rattle.kept_promise.proofs.Gone.{no_directory}
use Rattle.kept_promise.proofs.Unmade.{node_gone, commit_gone}
use Rattle.kept_promise.proofs.Strangers.{stranger_own, stranger_files, stranger_fresh, raw_step, leads_raw}

module _ (book : Book) (k : Core) (qs : List Queue) (now : ℕ) (c : FileChange) (cs : List FileChange) (kept : IsKept book k qs) (out : SettlesOut k now c cs) (x : Session) (here : numbered k.sessions c.session ≡ Some x) (its : is_raw x ≡ true) where
  abbrev n : ℕ
  n = c.session

  abbrev t : Tree
  t = k.server.tree

  abbrev s : server.State
  s = at (record k.server { waiting = cs }) now

  abbrev leasing : Leasing
  leasing = later k.server.leasing now

  abbrev made : server.State × ServerStep
  made = makes_change s c c.what

  queue : (q : Queue) × (numbered qs n ≡ Some q)
  queue = also_numbered k.sessions qs n x kept.made.1 here

  h : IsRawSession k.server n x queue.0
  h = kept.strangers n x queue.0 here queue.1 its

  -- the step in which its message came
  pub came : (b : ℕ) × (numbered k.came n ≡ Some b)
  came = also_numbered k.sessions k.came n x kept.came.many here

  early : came.0 ≤ k.steps
  early = kept.came.past n came.0 came.1

  now_is : k.steps + 1 ≡ book.steps + 1
  now_is = ap (λ (z : ℕ). z + 1) (sym kept.steps)

  -- ---- the step

  raws_is : raws_to k made ≡ k.raws ++ raw_in came.0 (k.steps + 1) made.0.tree (changed_entry (newest_entries made.0.journal made.1.entries))
  raws_is =
      ap (raws_by k made.0.tree (changed_entry (newest_entries made.0.journal made.1.entries))) (told_is s c c.what)
      ∙ ap (λ (o : Option ℕ). raws_on k.raws o (k.steps + 1) made.0.tree (changed_entry (newest_entries made.0.journal made.1.entries)) (numbered k.sessions n)) came.1
      ∙ ap (raws_on k.raws (Some came.0) (k.steps + 1) made.0.tree (changed_entry (newest_entries made.0.journal made.1.entries))) here
      ∙ ap (λ (b : Bool). raws_with k.raws b came.0 (k.steps + 1) made.0.tree (changed_entry (newest_entries made.0.journal made.1.entries))) its

  step_is : settles k now ≡ raw_step k made.0 k.sessions (k.entries ++ replicate made.1.entries (k.steps + 1)) k.came (raws_to k made) made.1.send
  step_is =
      let u : CoreStep = settled_to k made in
      let ops : u.core.ops ≡ k.ops = ap (λ (z : CoreStep). z.core.ops) (sym out.is) ∙ raw_ops k now c cs x out here h.closing in
      ap (λ (z : CoreStep). record z { core = record z.core { raws = (settles k now).core.raws } }) out.is
      ∙ ap (λ (l : List Raw). record u { core = record u.core { raws = l } }) out.raws
      ∙ ap (λ (o : List Op). record u { core = record u.core { raws = raws_to k made; ops = o } }) ops

  -- what leads from what the server makes of it
  lead : (tree : Tree) (index : Indexed) (leases : Leasing) (es : List Entry) (b : Body) (more : Book) (l : List Raw) → (let r : server.State = record k.server { tree = tree; journal = k.server.journal ++ es; index = index; waiting = cs; leasing = leases } in
      made ≡ (r, told_change c (length es) b) → raw_in came.0 (k.steps + 1) tree (changed_entry es) ≡ l
      → more.moments ≡ book.moments → more.opening ≡ book.opening → more.steps ≡ book.steps + 1 → more.ops ≡ book.ops → more.entries ≡ book.entries ++ replicate (length es) (book.steps + 1) → more.raws ≡ book.raws ++ l → more.journal ≡ book.journal ++ es
      → Grows book more None None → IsSound more → IsServer more r → Leads book qs (happens k (Settles now)))
  lead tree index leases es b more l is noted moments opening steps ops entries raws journal grows sound kept_server =
      let r : server.State = record k.server { tree = tree; journal = k.server.journal ++ es; index = index; waiting = cs; leasing = leases } in
      let told : raws_to k made ≡ k.raws ++ l =
      raws_is
      ∙ ap (λ (p : server.State × ServerStep). k.raws ++ raw_in came.0 (k.steps + 1) p.0.tree (changed_entry (newest_entries p.0.journal p.1.entries))) is
      ∙ ap (λ (z : List Entry). k.raws ++ raw_in came.0 (k.steps + 1) tree (changed_entry z)) (newest_more k.server.journal es (length es) refl)
      ∙ ap (λ (z : List Raw). k.raws ++ z) noted in
      subst (Leads book qs) (sym (step_is
      ∙ ap (λ (z : List Raw). raw_step k made.0 k.sessions (k.entries ++ replicate made.1.entries (k.steps + 1)) k.came z made.1.send) told
      ∙ ap (λ (p : server.State × ServerStep). raw_step k p.0 k.sessions (k.entries ++ replicate p.1.entries (k.steps + 1)) k.came (k.raws ++ l) p.1.send) is))
      (leads_raw book more k qs r k.sessions n x x (k.entries ++ replicate (length es) (k.steps + 1)) k.came (k.raws ++ l) (record { session = n; message = message.Answer c.xid b } ∷ []) [] kept (record {
        at = here;
        raw = its;
        around = around_same k.sessions n x here;
        owner = refl;
        grows = grows;
        sound = sound;
        ops = ops;
        server = kept_server;
        sessions_made = refl;
        view = λ m apart. record { stands_is = refl; waiting = out.out.apart m apart; temps = λ i p e lt there key. (i, there); found = λ p lt. refl };
        session = λ q is_. (let o = kept.strangers n x q here is_ its in record {
          shut = o.shut;
          closing = o.closing;
          ups = o.ups;
          downs = o.downs;
          stands_is = o.stands_is;
          temps = o.temps;
          single = let few = own_fewer k.server.waiting c cs out.out n in let one = o.single in omega (arith, few, one);
        });
        shelf = kept.shelf;
        home = λ i g there. (let y = out.out.others i g there in kept.home y.0 g y.1);
      }) (journal ∙ ap (λ (z : List Entry). z ++ es) kept.journal) moments opening (steps ∙ ap (λ (z : ℕ). z + 1) kept.steps)
      (entries ∙ ap (λ (z : List ℕ). z ++ replicate (length es) (book.steps + 1)) kept.entries ∙ ap (λ (z : ℕ). k.entries ++ replicate (length es) (z + 1)) kept.steps)
      (raws ∙ ap (λ (z : List Raw). z ++ l) kept.raws) (came_same k.came (k.steps + 1)) ((x, here, h.shut), tt) tt)

  -- ---- nothing is made

  still : (index : Indexed) → IsServer (onward book 1 book.ops) (record k.server { journal = k.server.journal ++ []; index = index; waiting = cs; leasing = leasing })
  still index =
      let more = onward book 1 book.ops in
      let grows = grows_same book 1 in
      let same = still_same book 1 kept.sound in
      let was = kept.server in
      let z = was.changes in
      let e = out.out.entries in
      let b = was.bytes in
      let u = out.out.bytes in
      record {
        held = λ f. file_still book more None None f (the_files.file_at t f) grows same (was.held f);
        fresh = λ f v. fresh_still book more None None t grows same was.fresh f v;
        bounded = was.bounded;
        zero = was.zero;
        rooted = was.rooted;
        wants = λ i d v. let y = out.out.others i d v in was.wants y.0 d y.1;
        changes = omega (arith, z, e);
        bytes = omega (arith, b, u);
        lengths = λ i d v. let y = out.out.others i d v in was.lengths y.0 d y.1;
        targets = λ i d v. let y = out.out.others i d v in there_later book more None None d.file grows (was.targets y.0 d y.1);
        xids = λ i d v. let y = out.out.others i d v in was.xids y.0 d y.1;
        leases = was.leases;
        serves = was.serves;
      }

  -- its session is told so
  nothing : (b : Body) → made ≡ (record k.server { tree = t; journal = k.server.journal ++ []; waiting = cs; leasing = leasing }, told_change c 0 b) → Leads book qs (happens k (Settles now))
  nothing b is =
      let goes_ = goes_same book 1 kept.sound in
      lead t k.server.index leasing [] b (onward book 1 book.ops) [] is refl refl refl refl refl (sym (append-nil book.entries)) (sym (append-nil book.raws)) (sym (append-nil book.journal)) goes_.grows goes_.sound (still k.server.index)

  -- ---- a content is replaced

  -- so it is noted, with that content
  abbrev pub line_of : File → Raw
  line_of f = (let content = content_wanted c.what in record { session = n; kind = raw.Commit; file = c.file; begin = came.0; point = k.steps + 1; version = f.version + 1; len = length content; sha1 = sha1 content; value = content })

  pub raws_content : (f : File) → c.what ≡ wanted.Content (content_wanted c.what) → the_files.file_at t c.file ≡ Some f → (settles k now).core.raws ≡ k.raws ++ line_of f ∷ []
  raws_content f what there =
      let content : List ℕ = content_wanted c.what in
      let after : Tree = replaced t c.file (f.version + 1) content in
      out.raws
      ∙ raws_is
      ∙ ap (λ (p : server.State × ServerStep). k.raws ++ raw_in came.0 (k.steps + 1) p.0.tree (changed_entry (newest_entries p.0.journal p.1.entries))) (made_is book k.server now c cs f kept.server out.out there what)
      ∙ ap (λ (z : List Entry). k.raws ++ raw_in came.0 (k.steps + 1) after (changed_entry z)) (newest_more k.server.journal (entry_of c content f ∷ []) 1 refl)
      ∙ ap (λ (o : Option File). k.raws ++ record (line_of f) { value = content_in o } ∷ []) (replaced_own t c.file (f.version + 1) content f there)

  replaces : (f : File) → c.what ≡ wanted.Content (content_wanted c.what) → the_files.file_at t c.file ≡ Some f → Leads book qs (happens k (Settles now))
  replaces f what there =
      let content : List ℕ = content_wanted c.what in
      let e : Entry = entry_of c content f in
      let after : Tree = replaced t c.file (f.version + 1) content in
      let own : the_files.file_at after c.file ≡ Some (record f { version = f.version + 1; content = content }) = replaced_own t c.file (f.version + 1) content f there in
      let was : FileIs book c.file (Some f) = subst (FileIs book c.file) there (kept.server.held c.file) in
      let r : Raw = record { session = n; kind = raw.Commit; file = c.file; begin = came.0; point = k.steps + 1; version = f.version + 1; len = length content; sha1 = sha1 content; value = content } in
      let goes_ = goes_stranger book r e [] (record {
        order = omega (arith, early);
        now = now_is;
        kind_is = refl;
        file = refl;
        len = refl;
        digest = refl;
        version = ap (λ (z : ℕ). z + 1) (sym was.4);
        positive = was.1;
        fit = subst (λ (v : Option (List ℕ)). IsSome v) (sym was.3.is) refl;
      }) (λ i d at. nothing_there d at) kept.sound in
      let more = stranger_book book r (e ∷ []) in
      let left = stranger_own book r (e ∷ []) now_is kept.sound in
      let short = kept.server.lengths out.out.place c out.out.there in
      let room = room_there book k.server c cs kept.server out.out what in
      let entries = room.count in
      let sizes = replaced_size t c.file (f.version + 1) content f kept.server.bounded there in
      let small = room.small in
      let now_file : FileIs more c.file (Some (record f { version = f.version + 1; content = content })) = (was.0, was.1, was.2, record { value = content; is = left.0; size = refl; same = inl refl }, left.1 ∙ ap (λ (z : ℕ). z + 1) was.4, short) in
      lead after (indexed k.server.index c.file (chunks_of content)) (granted leasing n c.file (term_at s c.file)) (e ∷ []) (body.Lb (lb.CommitTmpAnswer (answer.Done (record { version = f.version + 1; term = term_at s c.file })))) more (r ∷ []) (made_is book k.server now c cs f kept.server out.out there what)
      (ap (λ (o : Option File). record r { value = content_in o } ∷ []) own) refl refl refl refl refl refl refl goes_.grows goes_.sound (record {
        held = stranger_files book r (e ∷ []) t after now_is kept.sound (subst (FileIs more c.file) (sym own) now_file) (λ g apart. replaced_other t c.file (f.version + 1) content g (λ same. apart (sym same))) kept.server.held;
        fresh = λ z u. (let old = unused_replaced t c.file (f.version + 1) content f z there u in stranger_fresh book r (e ∷ []) z now_is kept.sound (λ same. file_used t c.file f (given t kept.server.bounded) there (subst (IsUnused t) (sym same) old)) (kept.server.fresh z old));
        bounded = replaced_bounded t c.file content f there (omega (arith, entries)) short (omega (arith, small)) kept.server.bounded;
        zero = replaced_none t c.file (f.version + 1) content 0 kept.server.zero;
        rooted = replaced_rooted t c.file (f.version + 1) content kept.server.rooted;
        wants = λ i d v. let y = out.out.others i d v in kept.server.wants y.0 d y.1;
        changes = omega (arith, entries);
        bytes = omega (arith, sizes, small);
        lengths = λ i d v. let y = out.out.others i d v in kept.server.lengths y.0 d y.1;
        targets = λ i d v. let y = out.out.others i d v in there_later book more None None d.file goes_.grows (kept.server.targets y.0 d y.1);
        xids = λ i d v. let y = out.out.others i d v in kept.server.xids y.0 d y.1;
        leases = kept.server.leases;
        serves = kept.server.serves;
      })

  -- ---- a file goes

  abbrev held : Reservation
  held = server.held cs

  gone : (a : Asked) → c.what ≡ wanted.Asked a → (done : TreeChange) (m : NameReply) (after : Tree) → tree_settles t held a ≡ (after, record { answer = name_answer m; first = done.first; second = done.second }) → step_by t held (walk_for a).dir (walk_for a).goal ≡ (after, Ok done) → IsGoneEntry t (file_of a) done.first → IsName done.second
      → ((f : ℕ) → the_files.file_at after f ≡ (if file_of a == f then None else the_files.file_at t f)) → ((f : ℕ) → with_id t.nodes f ≡ None → with_id after.nodes f ≡ None) → with_id after.nodes (file_of a) ≡ None → IsRooted after.nodes → after.next ≡ t.next → Leads book qs (happens k (Settles now))
  gone a what done m after settled step entry names files none off root next =
      let file : ℕ = file_of a in
      let d : TreeEntry = entry.entry in
      let e : Entry = written_by n d in
      let ns : List Entry = entered_by n done.second in
      let was : FileIs book file (Some entry.old) = subst (FileIs book file) entry.there (kept.server.held file) in
      let r : Raw = record { session = n; kind = raw.Remove; file = d.file; begin = came.0; point = k.steps + 1; version = d.version; len = d.len; sha1 = d.sha1; value = content_in (the_files.file_at after d.file) } in
      let gone_now : the_files.file_at after file ≡ None = files file ∙ ap (λ (b : Bool). if b then None else the_files.file_at t file) (eq-eqb file file refl) in
      let goes_ = goes_stranger book r e ns (record {
        order = omega (arith, early);
        now = now_is;
        kind_is = entry.kind_is;
        file = refl;
        len = sym entry.len_is;
        digest = sym entry.digest_is;
        version = entry.version_is ∙ ap (λ (v : ℕ). v + 1) (sym was.4 ∙ ap (λ (f : ℕ). version_at book f (book.steps + 1)) (sym entry.file_is));
        positive = subst (λ (f : ℕ). 1 < f) (sym entry.file_is) was.1;
        fit = subst (λ (f : ℕ). IsSome (value_at book f (book.steps + 1))) (sym entry.file_is) (subst (λ (v : Option (List ℕ)). IsSome v) (sym was.3.is) refl);
      }) (second_names n done.second names) kept.sound in
      let more = stranger_book book r (e ∷ ns) in
      let left = stranger_own book r (e ∷ ns) now_is kept.sound in
      let own : FileIs more d.file (the_files.file_at after d.file) = subst (λ (f : ℕ). FileIs more d.file (the_files.file_at after f)) (sym entry.file_is) (subst (FileIs more d.file) (sym gone_now) left.0) in
      let room : t.changes + server.entries_held cs + 0 ≤ 4294967295 = (let z = kept.server.changes in let y = out.out.entries in omega (arith, z, y)) in
      let stays = subst (λ (z : Tree × Result TreeChange Status). IsBounded z.0 × (z.0.changes + server.entries_held cs + 0 ≤ 4294967295) × (contents_size z.0.nodes ≤ contents_size t.nodes)) step (step_stays t held (walk_for a).dir (walk_for a).goal kept.server.bounded room) in
      let room_left = stays.1 in
      let size = stays.2 in
      let bytes = (let z = kept.server.bytes in let y = out.out.bytes in let small : contents_size t.nodes + server.waiting_size cs ≤ 1073741824 = omega (arith, z, y) in small) in
      let noted : raw_in came.0 (k.steps + 1) after (changed_entry (e ∷ ns)) ≡ r ∷ [] =
      ap (λ (b : Bool). raw_in came.0 (k.steps + 1) after (cond b (Some e) (find (λ (z : Entry). is_of_file z.kind) ns))) (ap is_of_file entry.kind_is)
      ∙ ap (λ (z : EntryKind). raw_by came.0 (k.steps + 1) after e (raw_kind z)) entry.kind_is in
      lead after k.server.index leasing (e ∷ ns) (body.Nfs (name_answer m)) more (r ∷ [])
      (ap (makes_change s c) what ∙ ap (server_settled s c) settled
      ∙ ap (λ (l : List Entry). (record s { tree = after; journal = k.server.journal ++ l }, told_change c (count_of done.first done.second) (body.Nfs (name_answer m)))) (entries_gone n done.first done.second d entry.is)
      ∙ ap (λ (z : ℕ). (record s { tree = after; journal = k.server.journal ++ e ∷ ns }, told_change c z (body.Nfs (name_answer m)))) (count_gone n done.first done.second d entry.is))
      noted refl refl refl refl refl refl refl goes_.grows goes_.sound (record {
        held = stranger_files book r (e ∷ ns) t after now_is kept.sound own (λ f apart. files f ∙ ap (λ (b : Bool). if b then None else the_files.file_at t f) (other f (λ same. apart (entry.file_is ∙ same)))) kept.server.held;
        fresh = λ f u. (let old = unused_gone t after file f next (none f) off (files f) u in stranger_fresh book r (e ∷ ns) f now_is kept.sound (λ same. file_used t file entry.old (given t kept.server.bounded) entry.there (subst (IsUnused t) (sym same ∙ entry.file_is) old)) (kept.server.fresh f old));
        bounded = stays.0;
        zero = none 0 kept.server.zero;
        rooted = root;
        wants = λ i g v. let y = out.out.others i g v in kept.server.wants y.0 g y.1;
        changes = omega (arith, room_left);
        bytes = omega (arith, size, bytes);
        lengths = λ i g v. let y = out.out.others i g v in kept.server.lengths y.0 g y.1;
        targets = λ i g v. let y = out.out.others i g v in there_later book more None None g.file goes_.grows (kept.server.targets y.0 g y.1);
        xids = λ i g v. let y = out.out.others i g v in kept.server.xids y.0 g y.1;
        leases = kept.server.leases;
        serves = kept.server.serves;
      })
    where
      other : (f : ℕ) → (file_of a ≡ f → ⊥) → (file_of a == f) ≡ false
      other f apart = ne_eqb (file_of a) f apart

  -- ---- either way

  raw_settled : (w : Wanted) → c.what ≡ w → Leads book qs (happens k (Settles now))
  raw_settled (wanted.Content content) what = by (the_files.file_at t c.file) refl
    where
      by : (o : Option File) → the_files.file_at t c.file ≡ o → Leads book qs (happens k (Settles now))
      by (Some f) there = replaces f (what ∙ ap (λ (l : List ℕ). wanted.Content l) (sym (ap content_wanted what))) there
      by None none = nothing (body.Lb (lb.CommitTmpAnswer (answer.Failed status.Stale tt)))
          (ap (makes_change s c) what ∙ ap (committed_by s c content) (commit_gone t held c.file content (term_at s c.file) (node_gone book k.server c.file kept.server (kept.server.targets out.out.place c out.out.there) none)))
  raw_settled (wanted.Asked a) what = by (settles_so t held (walk_for a) a kept.server.bounded wants.2 (asks_itself a) wants.1 (λ g d. no_directory book k.server (file_of a) g kept.server (subst (λ (f : ℕ). WasThere book f) wants.0 (kept.server.targets out.out.place c out.out.there)) d))
    where
      wants : IsWanted c.file (wanted.Asked a)
      wants = subst (IsWanted c.file) what (kept.server.wants out.out.place c out.out.there)

      by : SettlesSo t held (walk_for a) a → Leads book qs (happens k (Settles now))
      by (refused_late st m settled why refuses leads procs) = nothing (body.Nfs (name_answer m)) (ap (makes_change s c) what ∙ ap (server_settled s c) settled)
      by (goes done m after settled step entry names leads procs files none off root next) = gone a what done m after settled step entry names files none off (root kept.server.rooted) next

pub raw_settles : (book : Book) (k : Core) (qs : List Queue) (now : ℕ) (c : FileChange) (cs : List FileChange) → IsKept book k qs → SettlesOut k now c cs → (x : Session) → numbered k.sessions c.session ≡ Some x → x.hung ≡ false → is_raw x ≡ true → Leads book qs (happens k (Settles now))
raw_settles book k qs now c cs kept out x here unhung its = raw_settled book k qs now c cs kept out x here its c.what refl
