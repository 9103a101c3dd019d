-- What the server tells of a file when it takes a GETHASH or a READ, and what other calls come to.
use Rattle.std.proofs.Common.{inl, inr, ◌≡◌, ℕ, ◌+◌, ◌<◌, ◌≤◌, List, [], ◌∷◌, ◌++◌, Option, Some, None, Bool, true, false, refl, sym, ap, ◌∙◌, subst, arith, eq-eqb, map, Result, Ok, Err}
use Rattle.xdr_codec.specs.declared.status.Status.TheVariants as status
use Rattle.server_core.specs.State as server
use Rattle.chunk_calls.specs.Files as the_files
use Rattle.tree_nodes.specs.declared.node.Node.{Node as TreeNode}
use Rattle.tree_reading.specs.Tree.{directory_of}
use Rattle.chunk_calls.specs.Answers.{hash_answer, lease_answer}
use Rattle.server_core.specs.Answers.{read_answer}
use Rattle.server_core.specs.Hashed.{bytes_told}
use Rattle.wire.specs.declared.message.Message.TheVariants as message
use Rattle.wire.specs.declared.message.Body.TheVariants as body
use Rattle.client_state.specs.State as client
use Rattle.client_state.specs.declared.task.Stage.TheVariants as stage
use Rattle.hash_calls.specs.declared.message.LbProc.TheVariants as lb_proc
use Rattle.wire.specs.declared.message.Pending.{Pending}
use Rattle.trace_replay.specs.OwnCalls.{TakesCall}
use Rattle.trace_replay.specs.Trail.{served_hashed}
use Rattle.kept_promise.proofs.Common.{slice_get, cond, ◌==◌, ◌||◌, Contains, end_of, parse_of, server_waiting, Body, Message, Op, Task, chunk_bytes, Chunk, handle_bytes, Failed, Status, HashRange, Range, message_spell, MessageFits, Node, directory, file, node_of, told_chunks, hashes_of, piece_of, leased_of, File, Fetch, Stage, Value, TakenCall, Core, Seat, Session, Event.Serves, numbered, hashed_of, Book, value_at, version_at, Call.Lease, Call.Hash, Call.Read, Reply, Reply.Versioned, Reply.Hashed, Reply.Bytes, Ask, Queue, ask_message, told_message, Tree, Call.Walks, Reply.Walked, name_answer, happens, NameReply, Moment, Event, taken_at, hashed_by}
use Rattle.kept_promise.proofs.Statements.{ToldFits, CallFits}
use Rattle.kept_promise.proofs.Lists.{some_is, nothing_there}
use Rattle.kept_promise.proofs.Messages.{Job, job, job_of, lease_body, hash_body, AllAsks, Rising, IsAsked, hash_offset, IsTold, IsHashed, RefusedTold, HashTold, IsLeased, LeaseTold, IsRead, ReadTold, TriedBy, AnswerOf, IsFetch, IsReading, FetchOf, range_from, WalkCame, WalkTold, IsTakenFor, lease_xid}
use Rattle.kept_promise.proofs.Rights.{IsHeld, WasThere}
use Rattle.kept_promise.proofs.Growth.{value_later, version_later, tried_later, there_later}
use Rattle.kept_promise.proofs.History.{onward, grows_same}
use Rattle.kept_promise.proofs.Taken.{finds_last, finds_more}
use Rattle.kept_promise.proofs.Remains.{there_version}
use Rattle.kept_promise.proofs.Fits.{FitLaws}
use Rattle.kept_promise.proofs.Facts.{FileIs, is_there, IsServer, IsTalk, IsKept}
use Rattle.kept_promise.proofs.Serves.{own_node, contains_at, map_at, parsed}
use Rattle.kept_promise.proofs.Leading.{IsNoted}
use Rattle.server_law.proofs.lemmas.Trees.{file_bounded}
use Rattle.kept_promise.proofs.TreeOpens.{Named, a_directory, nobody, a_file, named_in}
use Rattle.path_calls.specs.declared.walk.Walk.{Walk}
use Rattle.path_calls.specs.Walk.{next_call}
use Rattle.kept_promise.proofs.PathNames.{is_making}
use Rattle.kept_promise.proofs.WalkReplies.{walk_reply, reply_told}
use Rattle.kept_promise.proofs.Unused.{directory_unused}
use Rattle.kept_promise.proofs.Turns.{has_owner, owned_hashed}

-- ---- what a name stands for

pub data Found (t : Tree) (f : ℕ) : Type 0 where
  is_directory : (n : TreeNode) → directory_of t.nodes f ≡ Ok n → the_files.file_at t f ≡ None → node_of t (handle_bytes f) ≡ Ok directory → Found t f
  is_gone : the_files.file_at t f ≡ None → node_of t (handle_bytes f) ≡ Err status.Stale → Found t f
  is_file : (g : File) → the_files.file_at t f ≡ Some g → node_of t (handle_bytes f) ≡ Ok (file g) → Found t f

pub looked : (t : Tree) (f : ℕ) → f < 18446744073709551616 → Found t f
looked t f lt = by (named_in t f)
  where
    by : Named t f → Found t f
    by (a_directory n there none e) = is_directory n there none (own_node t f lt ∙ e)
    by (nobody none e) = is_gone none (own_node t f lt ∙ e)
    by (a_file g at e) = is_file g at (own_node t f lt ∙ e)

-- ---- what was told in this step

abbrev pub with_taken : Session → (xid step : ℕ) → List TakenCall
with_taken x xid step = x.taken ++ record { xid = xid; step = step } ∷ []

told_now : (book : Book) (k : Core) (qs : List Queue) (n : ℕ) (x : Session) (q : Queue) (a : Ask) (us : List Ask) (c : Seat) (j : Job) (v : Value) (version : ℕ) → IsKept book k qs → numbered k.seats x.owner ≡ Some c → IsTalk book n k.server.waiting x q c → q.ups ≡ a ∷ us → job c ≡ Some j
    → value_at book j.file (book.steps + 1) ≡ v → version_at book j.file (book.steps + 1) ≡ version → IsTold (onward book 1 book.ops) (with_taken x a.xid (book.steps + 1)) j a.xid v version
told_now book k qs n x q a us c j v version kept was talk e is value versions =
    let of = (kept.seats x.owner c was).task j is in
    let g = grows_same book 1 in
    let begun = (kept.sound.rights j.place of.op of.there).begun in
    let rising = subst (λ (l : List Ask). Rising talk.floor l c.client.next_xid) e talk.rising in
    record {
      moment = book.steps + 1;
      was = finds_last x.taken talk.floor (record { xid = a.xid; step = book.steps + 1 }) talk.under rising.0;
      past = omega arith;
      value = value_later book (onward book 1 book.ops) None None j.file (book.steps + 1) g (omega arith) ∙ value;
      version_is = version_later book (onward book 1 book.ops) None None j.file (book.steps + 1) g (omega arith) ∙ versions;
      op = of.op;
      there = of.there;
      after = omega (arith, begun);
      apart = λ i f. let le = (kept.sound.past i (book.steps + 1) f).1 in omega (arith, le);
    }

-- an operation's client waits for what its stage waits for
pub waits_in : (place : Option ℕ) (task : Option Task) (j : Job) (x : ℕ) → job_of place task ≡ Some j → client.has_call (client.pending_in j.stage) x ≡ true → client.has_call (client.pending task) x ≡ true
waits_in (Some p) (Some t) j x e is = ap (λ (z : Job). client.has_call (client.pending_in z.stage) x) (some_is (record { place = p; file = t.file; stage = t.stage }) j e) ∙ is
waits_in _ _ j x e is = nothing_there j e

-- what is taken in this step is such a call
takes_now : (book : Book) (k : Core) (qs : List Queue) (n now : ℕ) (x : Session) (a : Ask) (c : Seat) (j : Job) (call : Body) → IsKept book k qs → numbered k.seats x.owner ≡ Some c → c.session ≡ Some n → job c ≡ Some j → client.has_call (client.pending_in j.stage) a.xid ≡ true
    → IsNoted book k (Serves n now (message_spell (ask_message a))) → parse_of server_waiting (message_spell (ask_message a)) ≡ Ok (message.Call a.xid call) → (o : Op) → slice_get book.ops j.place ≡ Some o → TakesCall (onward book 1 book.ops) o.client (book.steps + 1) a.xid call
takes_now book k qs n now x a c j call kept was here is own noted parsed_ o at =
    let of = (kept.seats x.owner c was).task j is in
    let steps = kept.steps in
    record {
      moment = record { before = k; event = Serves n now (message_spell (ask_message a)) };
      there = noted.there;
      step_is = omega (arith, steps);
      session = n;
      now = now;
      bytes = message_spell (ask_message a);
      event_is = refl;
      parsed = parsed_;
      waits = record { seat = c; seat_is = ap (numbered k.seats) (ap (λ (z : Op). z.client) (some_is o of.op (sym at ∙ of.there)) ∙ of.client) ∙ was; newest = here; own = waits_in c.place c.client.task j a.xid is own };
    }

-- one that asks for chunks waits
hash_waits : (s : Stage) (x o : ℕ) → hash_offset s x ≡ Some o → client.has_call (client.pending_in s) x ≡ true
hash_waits (stage.Hashing tries y) x o e = by (y == x) 0 e
  where
    by : (b : Bool) (z : ℕ) → cond b (Some z) None ≡ Some o → (b || false) ≡ true
    by true z e = refl
    by false z e = nothing_there o e
hash_waits (stage.Listing y f) x o e = by (y == x) (end_of f.chunks) e
  where
    by : (b : Bool) (z : ℕ) → cond b (Some z) None ≡ Some o → (b || false) ≡ true
    by true z e = refl
    by false z e = nothing_there o e
hash_waits _ x o e = nothing_there o e

tried_now : (book : Book) (k : Core) (qs : List Queue) (n : ℕ) (x : Session) (q : Queue) (a : Ask) (us : List Ask) (c : Seat) (j : Job) (s : Stage) (o : ℕ) → hash_offset s a.xid ≡ Some o → ((z : Op) → slice_get book.ops j.place ≡ Some z → TakesCall (onward book 1 book.ops) z.client (book.steps + 1) a.xid (hash_body book.lbfs j.file o)) → IsKept book k qs → numbered k.seats x.owner ≡ Some c → IsTalk book n k.server.waiting x q c → q.ups ≡ a ∷ us → job c ≡ Some j → j.stage ≡ s → TriedBy (onward book 1 book.ops) (with_taken x a.xid (book.steps + 1)) j a.xid s
tried_now book k qs n x q a us c j (stage.Hashing tries y) o waits call kept was talk e is at =
    let h = (kept.seats x.owner c was).trying j tries y is at in
    let g = grows_same book 1 in
    let rising = subst (λ (l : List Ask). Rising talk.floor l c.client.next_xid) e talk.rising in
    record {
      moment = book.steps + 1;
      was = finds_last x.taken talk.floor (record { xid = a.xid; step = book.steps + 1 }) talk.under rising.0;
      past = omega arith;
      op = h.op;
      there = h.there;
      count = h.count;
      tries_is = h.tries_is;
      tried = tried_later book (onward book 1 book.ops) None None j.file h.op.begin h.count (book.steps + 1) g (omega arith) h.tried;
      call = record {
        moment = book.steps + 1;
        was = finds_last x.taken talk.floor (record { xid = a.xid; step = book.steps + 1 }) talk.under rising.0;
        op = h.op;
        there = h.there;
        takes = subst (λ (z : ℕ). TakesCall (onward book 1 book.ops) h.op.client (book.steps + 1) a.xid (hash_body book.lbfs j.file z)) (first (y == a.xid) waits) (call h.op h.there);
      };
    }
  where
    first : (b : Bool) → cond b (Some 0) None ≡ Some o → o ≡ 0
    first true e = sym (some_is 0 o e)
    first false e = nothing_there o e
tried_now book k qs n x q a us c j (stage.Listing y f) o waits call kept was talk e is at =
    let h = (subst (FetchOf book x.taken j) at (talk.fetch j is)).0 in
    let past = h.told.past in
    let rising = subst (λ (l : List Ask). Rising talk.floor l c.client.next_xid) e talk.rising in
    record {
      began = h.told.moment;
      was = finds_more x.taken (record { xid = a.xid; step = book.steps + 1 }) f.first h.told.moment h.told.was;
      last = book.steps + 1;
      is = finds_last x.taken talk.floor (record { xid = a.xid; step = book.steps + 1 }) talk.under rising.0;
      order = omega (arith, past);
    }
tried_now book k qs n x q a us c j _ o waits call kept was talk e is at = tt

-- what the server has of a file then
pub held_now : (book : Book) (k : Core) (n now : ℕ) (a : Ask) (i f : ℕ) (g : File) → IsNoted book k (Serves n now (message_spell (ask_message a))) → i ≡ f → the_files.file_at k.server.tree f ≡ Some g → IsHeld book.moments i g
held_now book k n now a i f g noted same there = record { at = record { before = k; event = Serves n now (message_spell (ask_message a)) }; there = noted.there; held = ap (the_files.file_at k.server.tree) same ∙ there }

-- a directory
directory_told : (book : Book) (k : Core) (qs : List Queue) (n now : ℕ) (x : Session) (q : Queue) (a : Ask) (f : ℕ) (us : List Ask) (c : Seat) (j : Job) (d : TreeNode) → IsKept book k qs → numbered k.seats x.owner ≡ Some c → IsTalk book n k.server.waiting x q c → q.ups ≡ a ∷ us → job c ≡ Some j
    → IsNoted book k (Serves n now (message_spell (ask_message a))) → j.file ≡ f → directory_of k.server.tree.nodes f ≡ Ok d → RefusedTold (onward book 1 book.ops) (with_taken x a.xid (book.steps + 1)) j a.xid status.IsDir
directory_told book k qs n now x q a f us c j d kept was talk e is noted same there =
    let of = (kept.seats x.owner c was).task j is in
    let begun = (kept.sound.rights j.place of.op of.there).begun in
    let steps = kept.steps in
    let rising = subst (λ (l : List Ask). Rising talk.floor l c.client.next_xid) e talk.rising in
    inl (
      refl,
      record {
        at = record { before = k; event = Serves n now (message_spell (ask_message a)) };
        noted = noted.there;
        moment = book.steps + 1;
        step_is = omega (arith, steps);
        was = finds_last x.taken talk.floor (record { xid = a.xid; step = book.steps + 1 }) talk.under rising.0;
        past = omega arith;
        op = of.op;
        there = of.there;
        after = omega (arith, begun);
        node = d;
        node_is = ap (directory_of k.server.tree.nodes) same ∙ there;
      },
    )

-- a file that is not in the tree
gone_told : (book : Book) (k : Core) (qs : List Queue) (n : ℕ) (x : Session) (q : Queue) (a : Ask) (f : ℕ) (us : List Ask) (c : Seat) (j : Job) → IsKept book k qs → numbered k.seats x.owner ≡ Some c → IsTalk book n k.server.waiting x q c → q.ups ≡ a ∷ us → job c ≡ Some j
    → j.file ≡ f → the_files.file_at k.server.tree f ≡ None → RefusedTold (onward book 1 book.ops) (with_taken x a.xid (book.steps + 1)) j a.xid status.Stale
gone_told book k qs n x q a f us c j kept was talk e is same none =
    let held = subst (FileIs book f) none (kept.server.held f) in
    inr (refl, (version_at book j.file (book.steps + 1), told_now book k qs n x q a us c j None (version_at book j.file (book.steps + 1)) kept was talk e is (ap (λ (i : ℕ). value_at book i (book.steps + 1)) same ∙ held) refl))

-- ---- a GETLEASE

abbrev pub lease_reply : (term : ℕ) → Tree → (f : ℕ) → Reply
lease_reply term t f = Versioned (lease_answer term (node_of t (handle_bytes f)))

pub lease_reply_fits : FitLaws → (book : Book) (s : server.State) (xid term f : ℕ) → IsServer book s → xid < 4294967296 → term < 4294967296 → f < 18446744073709551616 → ToldFits book.lbfs (record { xid = xid; reply = lease_reply term s.tree f })
lease_reply_fits laws book s xid term f h x leased lt = by (looked s.tree f lt)
  where
    by : Found s.tree f → ToldFits book.lbfs (record { xid = xid; reply = lease_reply term s.tree f })
    by (is_directory z there none e) = subst (λ (node : Result Node Status). ToldFits book.lbfs (record { xid = xid; reply = Versioned (lease_answer term node) })) (sym e) (laws.plain book.lbfs xid (Versioned (Failed status.IsDir tt)) x tt)
    by (is_gone none e) = subst (λ (node : Result Node Status). ToldFits book.lbfs (record { xid = xid; reply = Versioned (lease_answer term node) })) (sym e) (laws.plain book.lbfs xid (Versioned (Failed status.Stale tt)) x tt)
    by (is_file g at e) =
        let b = subst (FileIs book f) at (h.held f) in
        let v = (file_bounded s.tree f g h.bounded at).0 in
        let c = h.changes in
        let id = b.0 in
        let small = b.2 in
        subst (λ (node : Result Node Status). ToldFits book.lbfs (record { xid = xid; reply = Versioned (lease_answer term node) })) (sym e) (laws.leases book.lbfs xid term g x leased (omega (arith, id, small), omega (arith, v, c), b.5))

-- the call that waits where a GETLEASE does
lease_waits : (st : Stage) (x : ℕ) → lease_xid st ≡ Some x → client.pending_in st ≡ client.lb_pending lb_proc.GetLease x
lease_waits (stage.Asking y) x e = ap (client.lb_pending lb_proc.GetLease) (some_is y x e)
lease_waits (stage.Rewriting y) x e = ap (client.lb_pending lb_proc.GetLease) (some_is y x e)
lease_waits _ x e = nothing_there x e

pub lease_told : FitLaws → (book : Book) (k : Core) (qs : List Queue) (n now : ℕ) (x : Session) (q : Queue) (lbfs xid term f : ℕ) (us : List Ask) (c : Seat) → IsKept book k qs → numbered k.seats x.owner ≡ Some c → c.session ≡ Some n → IsTalk book n k.server.waiting x q c → q.ups ≡ record { lbfs = lbfs; xid = xid; call = Lease f } ∷ us → CallFits lbfs xid (Lease f) → lbfs ≡ book.lbfs
    → IsNoted book k (Serves n now (message_spell (ask_message (record { lbfs = lbfs; xid = xid; call = Lease f })))) → AnswerOf (onward book 1 book.ops) (with_taken x xid (book.steps + 1)) x.closing (job c) xid (lease_reply term k.server.tree f)
lease_told laws book k qs n now x q lbfs xid term f us c kept was here talk e fits speaks noted = λ j is at. by j is at ((subst (AllAsks (IsAsked (job c))) e talk.asked).0 j is at) (looked k.server.tree f fits.1)
  where
    a : Ask
    a = record { lbfs = lbfs; xid = xid; call = Lease f }

    by : (j : Job) → job c ≡ Some j → lease_xid j.stage ≡ Some xid → j.file ≡ f → Found k.server.tree f → LeaseTold (onward book 1 book.ops) (with_taken x xid (book.steps + 1)) j xid (lease_answer term (node_of k.server.tree (handle_bytes f)))
    by j is asks same (is_directory d there none at) = subst (λ (node : Result Node Status). LeaseTold (onward book 1 book.ops) (with_taken x xid (book.steps + 1)) j xid (lease_answer term node)) (sym at) (directory_told book k qs n now x q a f us c j d kept was talk e is noted same there)
    by j is asks same (is_gone none at) = subst (λ (node : Result Node Status). LeaseTold (onward book 1 book.ops) (with_taken x xid (book.steps + 1)) j xid (lease_answer term node)) (sym at) (gone_told book k qs n x q a f us c j kept was talk e is same none)
    by j is asks same (is_file g there at) =
        let held = subst (FileIs book f) there (kept.server.held f) in
        let shown : IsLeased (onward book 1 book.ops) (with_taken x xid (book.steps + 1)) j xid (leased_of term g) = record {
          value = held.3.value;
          told = told_now book k qs n x q a us c j (Some held.3.value) g.version kept was talk e is (ap (λ (i : ℕ). value_at book i (book.steps + 1)) same ∙ held.3.is) (ap (λ (i : ℕ). version_at book i (book.steps + 1)) same ∙ held.4);
          call = (
              let of = (kept.seats x.owner c was).task j is in
              let own : client.has_call (client.pending_in j.stage) xid ≡ true = ap (λ (ps : List Pending). client.has_call ps xid) (lease_waits j.stage xid asks) ∙ ap (λ b. b || false) (eq-eqb xid xid refl) in
              let rising = subst (λ (l : List Ask). Rising talk.floor l c.client.next_xid) e talk.rising in
              record {
                moment = book.steps + 1;
                was = finds_last x.taken talk.floor (record { xid = xid; step = book.steps + 1 }) talk.under rising.0;
                op = of.op;
                there = of.there;
                takes = subst (λ (i : ℕ). TakesCall (onward book 1 book.ops) of.op.client (book.steps + 1) xid (lease_body book.lbfs i)) (sym same) (subst (λ (v : ℕ). TakesCall (onward book 1 book.ops) of.op.client (book.steps + 1) xid (lease_body v f)) speaks (takes_now book k qs n now x a c j (lease_body lbfs f) kept was here is own noted (parsed laws a fits) of.op of.there));
              }
              );
          known = there_later book (onward book 1 book.ops) None None j.file (grows_same book 1) (subst (λ (i : ℕ). WasThere book i) (sym same) (is_there book f g held));
        } in
        subst (λ (node : Result Node Status). LeaseTold (onward book 1 book.ops) (with_taken x xid (book.steps + 1)) j xid (lease_answer term node)) (sym at) shown

-- ---- a walk's call

-- it is taken in this step, and its client waits for the answer
abbrev pub taken_now : (book more : Book) (k : Core) (qs : List Queue) (n now : ℕ) (x : Session) (a : Ask) (w : Walk) (c : Seat) (client_ : ℕ) (j : Job) (o : Op) → IsKept book k qs → numbered k.seats x.owner ≡ Some c → c.session ≡ Some n → IsNoted book k (Serves n now (message_spell (ask_message a)))
    → parse_of server_waiting (message_spell (ask_message a)) ≡ Ok (ask_message a) → ask_message a ≡ message.Call a.xid (body.Nfs (next_call w)) → more.moments ≡ book.moments → more.steps ≡ book.steps + 1 → client_ ≡ o.client → job c ≡ Some j → slice_get book.ops j.place ≡ Some o → j.stage ≡ stage.Walking a.xid w → IsTakenFor more client_ j n a.xid w
taken_now book more k qs n now x a w c client_ j o kept was here noted parsed_ asks moments steps same is at on =
    let of = (kept.seats x.owner c was).task j is in
    let passed = kept.steps in
    record {
      at = record { before = k; event = Serves n now (message_spell (ask_message a)) };
      noted = subst (λ (l : List Moment). Contains l (record { before = k; event = Serves n now (message_spell (ask_message a)) })) (sym moments) noted.there;
      past = omega (arith, passed, steps);
      now = now;
      bytes = message_spell (ask_message a);
      event_is = refl;
      parsed = parsed_ ∙ ap (λ (m : Message). Ok m) asks;
      seat = c;
      seat_is = ap (numbered k.seats) (same ∙ ap (λ (z : Op). z.client) (some_is o of.op (sym at ∙ of.there)) ∙ of.client) ∙ was;
      newest = here;
      job_is = is;
      stage_is = on;
    }

-- an answer to a walk's call that came of it in the step of this event
pub came_told : (book more : Book) (k : Core) (qs : List Queue) (n : ℕ) (x : Session) (taken : List TakenCall) (xid : ℕ) (w : Walk) (c : Seat) (r : NameReply) (e : Event) → IsKept book k qs → numbered k.seats x.owner ≡ Some c → c.session ≡ Some n → IsNoted book k e
    → Contains (happens k e).down (record { session = n; message = message.Answer xid (body.Nfs (name_answer r)) }) → more.moments ≡ book.moments → more.steps ≡ book.steps + 1 → (j : Job) → job c ≡ Some j → (is_making w ≡ false → taken_at taken xid ≡ Some (book.steps + 1))
    → ((o : Op) → slice_get book.ops j.place ≡ Some o → (z : Op) × (slice_get more.ops j.place ≡ Some z) × (z.begin ≡ o.begin) × (z.client ≡ o.client) × WalkCame more (record { before = k; event = e }) (book.steps + 1) x.closing j z w (name_answer r))
    → WalkTold more taken x.closing j xid w (name_answer r)
came_told book more k qs n x taken xid w c r e kept was here noted sent moments steps j is was_taken came =
    let of = (kept.seats x.owner c was).task j is in
    let begun = (kept.sound.rights j.place of.op of.there).begun in
    let passed = kept.steps in
    let z = came of.op of.there in
    record {
      at = record { before = k; event = e };
      noted = subst (λ (l : List Moment). Contains l (record { before = k; event = e })) (sym moments) noted.there;
      moment = book.steps + 1;
      step_is = omega (arith, passed);
      was = was_taken;
      past = omega (arith, steps);
      op = z.0;
      there = z.1;
      after = subst (λ (b : ℕ). b ≤ book.steps + 1) (sym z.2) (omega (arith, begun));
      bounded = kept.server.bounded;
      rooted = kept.server.rooted;
      came = z.4;
      session = n;
      sent = sent;
      seat = c;
      seat_is = ap (numbered k.seats) (z.3 ∙ of.client) ∙ was;
      newest = here;
      job_is = is;
      then_op = of.op;
      then_is = ap (λ (l : List Op). slice_get l j.place) (sym kept.ops) ∙ of.there;
      then_began = sym z.2;
    }

-- an answer to it, which came of it in this step
pub walk_came : (book more : Book) (k : Core) (qs : List Queue) (n now : ℕ) (x : Session) (q : Queue) (lbfs xid : ℕ) (w : Walk) (us : List Ask) (c : Seat) (r : NameReply) → IsKept book k qs → numbered k.seats x.owner ≡ Some c → c.session ≡ Some n → IsTalk book n k.server.waiting x q c → q.ups ≡ record { lbfs = lbfs; xid = xid; call = Walks w } ∷ us
    → IsNoted book k (Serves n now (message_spell (ask_message (record { lbfs = lbfs; xid = xid; call = Walks w })))) → Contains (happens k (Serves n now (message_spell (ask_message (record { lbfs = lbfs; xid = xid; call = Walks w }))))).down (record { session = n; message = message.Answer xid (body.Nfs (name_answer r)) })
    → more.moments ≡ book.moments → more.steps ≡ book.steps + 1
    → ((j : Job) (o : Op) → job c ≡ Some j → j.stage ≡ stage.Walking xid w → slice_get book.ops j.place ≡ Some o → (z : Op) × (slice_get more.ops j.place ≡ Some z) × (z.begin ≡ o.begin) × (z.client ≡ o.client) × WalkCame more (record { before = k; event = Serves n now (message_spell (ask_message (record { lbfs = lbfs; xid = xid; call = Walks w }))) }) (book.steps + 1) x.closing j z w (name_answer r))
    → AnswerOf more (with_taken x xid (book.steps + 1)) x.closing (job c) xid (Walked r)
walk_came book more k qs n now x q lbfs xid w us c r kept was here talk e noted sent moments steps came = λ j v is at.
    let rising = subst (λ (l : List Ask). Rising talk.floor l c.client.next_xid) e talk.rising in
    let same : v ≡ w = (subst (AllAsks (IsAsked (job c))) e talk.asked).0 j v is at in
    subst (λ (u : Walk). WalkTold more (with_taken x xid (book.steps + 1)) x.closing j xid u (name_answer r)) (sym same)
    (came_told book more k qs n x (with_taken x xid (book.steps + 1)) xid w c r (Serves n now (message_spell (ask_message (record { lbfs = lbfs; xid = xid; call = Walks w })))) kept was here noted sent moments steps j is (λ none. finds_last x.taken talk.floor (record { xid = xid; step = book.steps + 1 }) talk.under rising.0)
    (λ o there. came j o is (at ∙ ap (stage.Walking xid) same) there))

-- what the tree tells of it now
pub walk_told : (book : Book) (k : Core) (qs : List Queue) (n now : ℕ) (x : Session) (q : Queue) (lbfs xid : ℕ) (w : Walk) (us : List Ask) (c : Seat) → IsKept book k qs → numbered k.seats x.owner ≡ Some c → c.session ≡ Some n → IsTalk book n k.server.waiting x q c → q.ups ≡ record { lbfs = lbfs; xid = xid; call = Walks w } ∷ us → CallFits lbfs xid (Walks w) → is_making w ≡ false
    → IsNoted book k (Serves n now (message_spell (ask_message (record { lbfs = lbfs; xid = xid; call = Walks w })))) → Contains (happens k (Serves n now (message_spell (ask_message (record { lbfs = lbfs; xid = xid; call = Walks w }))))).down (record { session = n; message = message.Answer xid (body.Nfs (name_answer (walk_reply k.server.tree w))) }) → AnswerOf (onward book 1 book.ops) (with_taken x xid (book.steps + 1)) x.closing (job c) xid (Walked (walk_reply k.server.tree w))
walk_told book k qs n now x q lbfs xid w us c kept was here talk e fits none noted sent =
    walk_came book (onward book 1 book.ops) k qs n now x q lbfs xid w us c (walk_reply k.server.tree w) kept was here talk e noted sent refl refl
    (λ j o is at there. (o, there, refl, refl, inl (reply_told k.server.tree w fits.1 none, λ i f. let le = (kept.sound.past i (book.steps + 1) f).1 in omega (arith, le))))

-- ---- a GETHASH

abbrev pub hash_range : (lbfs f offset : ℕ) → HashRange
hash_range lbfs f offset = record { lbfs = lbfs; handle = handle_bytes f; offset = offset; count = 4294967295 }

abbrev pub hash_reply : (lbfs term : ℕ) → Tree → (f offset : ℕ) → Reply
hash_reply lbfs term t f offset = Hashed (hash_answer term (node_of t (handle_bytes f)) (hash_range lbfs f offset))

pub hash_reply_fits : FitLaws → (book : Book) (s : server.State) (lbfs xid term f offset : ℕ) → IsServer book s → xid < 4294967296 → term < 4294967296 → f < 18446744073709551616 → ToldFits book.lbfs (record { xid = xid; reply = hash_reply lbfs term s.tree f offset })
hash_reply_fits laws book s lbfs xid term f offset h x leased lt = by (looked s.tree f lt)
  where
    by : Found s.tree f → ToldFits book.lbfs (record { xid = xid; reply = hash_reply lbfs term s.tree f offset })
    by (is_directory z there none e) = subst (λ (node : Result Node Status). ToldFits book.lbfs (record { xid = xid; reply = Hashed (hash_answer term node (hash_range lbfs f offset)) })) (sym e) (laws.plain book.lbfs xid (Hashed (Failed status.IsDir tt)) x tt)
    by (is_gone none e) = subst (λ (node : Result Node Status). ToldFits book.lbfs (record { xid = xid; reply = Hashed (hash_answer term node (hash_range lbfs f offset)) })) (sym e) (laws.plain book.lbfs xid (Hashed (Failed status.Stale tt)) x tt)
    by (is_file g at e) =
        let b = subst (FileIs book f) at (h.held f) in
        let v = (file_bounded s.tree f g h.bounded at).0 in
        let c = h.changes in
        let id = b.0 in
        let small = b.2 in
        subst (λ (node : Result Node Status). ToldFits book.lbfs (record { xid = xid; reply = Hashed (hash_answer term node (hash_range lbfs f offset)) })) (sym e) (laws.hashes book.lbfs lbfs xid term g (handle_bytes f) offset h.serves x leased (omega (arith, id, small), omega (arith, v, c), b.5))

pub hash_told : FitLaws → (book : Book) (k : Core) (qs : List Queue) (n now : ℕ) (x : Session) (q : Queue) (lbfs xid term f offset : ℕ) (us : List Ask) (c : Seat) → IsKept book k qs → numbered k.seats x.owner ≡ Some c → c.session ≡ Some n → IsTalk book n k.server.waiting x q c → q.ups ≡ record { lbfs = lbfs; xid = xid; call = Hash f offset } ∷ us → CallFits lbfs xid (Hash f offset) → lbfs ≡ book.lbfs
    → IsNoted book k (Serves n now (message_spell (ask_message (record { lbfs = lbfs; xid = xid; call = Hash f offset })))) → AnswerOf (onward book 1 book.ops) (with_taken x xid (book.steps + 1)) x.closing (job c) xid (hash_reply lbfs term k.server.tree f offset)
hash_told laws book k qs n now x q lbfs xid term f offset us c kept was here talk e fits speaks noted = λ j o is waits. (
  by j o is (asks j o is waits) (looked k.server.tree f fits.1),
  tried_now book k qs n x q (record { lbfs = lbfs; xid = xid; call = Hash f offset }) us c j j.stage o waits (calls j o is waits) kept was talk e is refl,
)
  where
    -- it comes on a client's session
    hashed_is : hashed_by k (Serves n now (message_spell (ask_message (record { lbfs = lbfs; xid = xid; call = Hash f offset })))) ≡ served_hashed k n (parse_of server_waiting (message_spell (ask_message (record { lbfs = lbfs; xid = xid; call = Hash f offset }))))
    hashed_is =
        let z = (kept.seats x.owner c was).session n here in
        let owned = has_owner k.seats z.0 c (ap (numbered k.seats) z.2 ∙ was) in
        owned_hashed k n now (message_spell (ask_message (record { lbfs = lbfs; xid = xid; call = Hash f offset }))) z.0 z.1 owned

    asks : (j : Job) (o : ℕ) → job c ≡ Some j → hash_offset j.stage xid ≡ Some o → (j.file ≡ f) × (o ≡ offset)
    asks j o is waits = (subst (AllAsks (IsAsked (job c))) e talk.asked).0 j o is waits

    calls : (j : Job) (o : ℕ) → job c ≡ Some j → hash_offset j.stage xid ≡ Some o → (z : Op) → slice_get book.ops j.place ≡ Some z → TakesCall (onward book 1 book.ops) z.client (book.steps + 1) xid (hash_body book.lbfs j.file o)
    calls j o is waits z at =
        let same = asks j o is waits in
        subst (λ (i : ℕ). TakesCall (onward book 1 book.ops) z.client (book.steps + 1) xid (hash_body book.lbfs i o)) (sym same.0)
        (subst (λ (y : ℕ). TakesCall (onward book 1 book.ops) z.client (book.steps + 1) xid (hash_body book.lbfs f y)) (sym same.1)
        (subst (λ (v : ℕ). TakesCall (onward book 1 book.ops) z.client (book.steps + 1) xid (hash_body v f offset)) speaks (takes_now book k qs n now x (record { lbfs = lbfs; xid = xid; call = Hash f offset }) c j (hash_body lbfs f offset) kept was here is (hash_waits j.stage xid o waits) noted (parsed laws (record { lbfs = lbfs; xid = xid; call = Hash f offset }) fits) z at)))

    by : (j : Job) (o : ℕ) → job c ≡ Some j → (j.file ≡ f) × (o ≡ offset) → Found k.server.tree f → HashTold (onward book 1 book.ops) (with_taken x xid (book.steps + 1)) j xid o (hash_answer term (node_of k.server.tree (handle_bytes f)) (hash_range lbfs f offset))
    by j o is same (is_directory d there none at) = subst (λ (node : Result Node Status). HashTold (onward book 1 book.ops) (with_taken x xid (book.steps + 1)) j xid o (hash_answer term node (hash_range lbfs f offset))) (sym at) (directory_told book k qs n now x q (record { lbfs = lbfs; xid = xid; call = Hash f offset }) f us c j d kept was talk e is noted same.0 there)
    by j o is same (is_gone none at) = subst (λ (node : Result Node Status). HashTold (onward book 1 book.ops) (with_taken x xid (book.steps + 1)) j xid o (hash_answer term node (hash_range lbfs f offset))) (sym at) (gone_told book k qs n x q (record { lbfs = lbfs; xid = xid; call = Hash f offset }) f us c j kept was talk e is same.0 none)
    by j o is same (is_file g there at) =
        let held = subst (FileIs book f) there (kept.server.held f) in
        let noted_bytes : (i : ℕ) (d : Chunk) → slice_get (told_chunks g.content (range_from offset)) i ≡ Some d → Contains (hashed_of book.moments) (chunk_bytes g.content d) = λ i d w. noted.hashed (chunk_bytes g.content d) (subst (λ (l : List (List ℕ)). Contains l (chunk_bytes g.content d)) (sym (hashed_is ∙ ap (served_hashed k n) (parsed laws (record { lbfs = lbfs; xid = xid; call = Hash f offset }) fits) ∙ ap (λ node. bytes_told node (hash_range lbfs f offset)) at)) (contains_at (map (chunk_bytes g.content) (told_chunks g.content (hash_range lbfs f offset))) i (chunk_bytes g.content d) (map_at (chunk_bytes g.content) (told_chunks g.content (hash_range lbfs f offset)) i d w))) in
        subst (λ (node : Result Node Status). HashTold (onward book 1 book.ops) (with_taken x xid (book.steps + 1)) j xid o (hash_answer term node (hash_range lbfs f offset))) (sym at) (subst (λ (z : ℕ). IsHashed (onward book 1 book.ops) (with_taken x xid (book.steps + 1)) j xid z (hashes_of term g (hash_range lbfs f offset))) (sym same.1) (record {
          file = g;
          is = refl;
          held = held_now book k n now (record { lbfs = lbfs; xid = xid; call = Hash f offset }) j.file f g noted same.0 there;
          value = held.3.value;
          value_is = held.3.same;
          told = told_now book k qs n x q (record { lbfs = lbfs; xid = xid; call = Hash f offset }) us c j (Some held.3.value) g.version kept was talk e is (ap (λ (i : ℕ). value_at book i (book.steps + 1)) same.0 ∙ held.3.is) (ap (λ (i : ℕ). version_at book i (book.steps + 1)) same.0 ∙ held.4);
          short = held.5;
          known = there_later book (onward book 1 book.ops) None None j.file (grows_same book 1) (subst (λ (i : ℕ). WasThere book i) (sym same.0) (is_there book f g held));
          hashed = noted_bytes;
        }))

-- ---- a READ

abbrev pub read_range : (f : ℕ) → Chunk → Range
read_range f d = record { handle = handle_bytes f; offset = d.start; count = d.len }

abbrev pub read_reply : Tree → (f : ℕ) → Chunk → Reply
read_reply t f d = Bytes (read_answer (node_of t (handle_bytes f)) (read_range f d))

pub read_reply_fits : FitLaws → (book : Book) (s : server.State) (xid f : ℕ) (d : Chunk) → IsServer book s → xid < 4294967296 → f < 18446744073709551616 → ToldFits book.lbfs (record { xid = xid; reply = read_reply s.tree f d })
read_reply_fits laws book s xid f d h x lt = by (looked s.tree f lt)
  where
    by : Found s.tree f → ToldFits book.lbfs (record { xid = xid; reply = read_reply s.tree f d })
    by (is_directory z there none e) = subst (λ (node : Result Node Status). ToldFits book.lbfs (record { xid = xid; reply = Bytes (read_answer node (read_range f d)) })) (sym e) (laws.plain book.lbfs xid (Bytes (Failed status.Inval None)) x tt)
    by (is_gone none e) = subst (λ (node : Result Node Status). ToldFits book.lbfs (record { xid = xid; reply = Bytes (read_answer node (read_range f d)) })) (sym e) (laws.plain book.lbfs xid (Bytes (Failed status.Stale None)) x tt)
    by (is_file g at e) =
        let b = subst (FileIs book f) at (h.held f) in
        let v = (file_bounded s.tree f g h.bounded at).0 in
        let c = h.changes in
        let id = b.0 in
        let small = b.2 in
        subst (λ (node : Result Node Status). ToldFits book.lbfs (record { xid = xid; reply = Bytes (read_answer node (read_range f d)) })) (sym e) (laws.reads book.lbfs xid g (handle_bytes f) d.start d.len x (omega (arith, id, small), omega (arith, v, c), b.5))

pub read_told : (book : Book) (k : Core) (qs : List Queue) (n now : ℕ) (x : Session) (q : Queue) (lbfs xid f : ℕ) (d : Chunk) (us : List Ask) (c : Seat) → IsKept book k qs → numbered k.seats x.owner ≡ Some c → IsTalk book n k.server.waiting x q c → q.ups ≡ record { lbfs = lbfs; xid = xid; call = Read f d } ∷ us → f < 18446744073709551616 → IsNoted book k (Serves n now (message_spell (ask_message (record { lbfs = lbfs; xid = xid; call = Read f d }))))
    → AnswerOf (onward book 1 book.ops) (with_taken x xid (book.steps + 1)) x.closing (job c) xid (read_reply k.server.tree f d)
read_told book k qs n now x q lbfs xid f d us c kept was talk e small noted = λ j g w is at waits. by j g w is at ((subst (AllAsks (IsAsked (job c))) e talk.asked).0 j w is waits) (subst (FetchOf book x.taken j) at (talk.fetch j is)) (looked k.server.tree f small)
  where
    by : (j : Job) (g : Fetch) (w : Chunk) → job c ≡ Some j → j.stage ≡ stage.Reading g → (j.file ≡ f) × (w ≡ d) → ((h : IsFetch book x.taken j g) × IsReading book h.file.content g) → Found k.server.tree f → ReadTold (onward book 1 book.ops) (with_taken x xid (book.steps + 1)) j xid g.first w (read_answer (node_of k.server.tree (handle_bytes f)) (read_range f d))
    -- what was a file is no directory
    by j g w is at same h (is_directory z there none e2) = absurd (there_version book f (subst (λ (i : ℕ). WasThere book i) same.0 h.0.known) (kept.server.fresh f (directory_unused k.server.tree f z there)))
    by j g w is at same h (is_gone none e2) = subst (λ (node : Result Node Status). ReadTold (onward book 1 book.ops) (with_taken x xid (book.steps + 1)) j xid g.first w (read_answer node (read_range f d))) (sym e2) (gone_told book k qs n x q (record { lbfs = lbfs; xid = xid; call = Read f d }) f us c j kept was talk e is same.0 none)
    by j g w is at same h (is_file z there e2) =
        let held = subst (FileIs book f) there (kept.server.held f) in
        let past = h.0.told.past in
        let grows = grows_same book 1 in
        subst (λ (node : Result Node Status). ReadTold (onward book 1 book.ops) (with_taken x xid (book.steps + 1)) j xid g.first w (read_answer node (read_range f d))) (sym e2) (subst (λ (v : Chunk). IsRead (onward book 1 book.ops) (with_taken x xid (book.steps + 1)) j g.first v (piece_of z (read_range f d))) (sym same.1) (record {
          file = z;
          is = refl;
          held = held_now book k n now (record { lbfs = lbfs; xid = xid; call = Read f d }) j.file f z noted same.0 there;
          began = h.0.told.moment;
          was = finds_more x.taken (record { xid = xid; step = book.steps + 1 }) g.first h.0.told.moment h.0.told.was;
          last = book.steps + 1;
          order = omega (arith, past);
          past = omega arith;
          version_is = version_later book (onward book 1 book.ops) None None j.file (book.steps + 1) grows (omega arith) ∙ ap (λ (i : ℕ). version_at book i (book.steps + 1)) same.0 ∙ held.4;
        }))
