-- A COMMITTMP whose file is gone once its change is settled: nothing is made, and its session is told so.
use Rattle.std.proofs.Common.{inr, ◌≡◌, ℕ, ◌+◌, List, [], ◌∷◌, ◌++◌, length, append-nil, Option, Some, None, IsSome, false, Ok, refl, sym, ap, ◌∙◌, subst, arith}
use Rattle.xdr_codec.specs.declared.answer.Answer.TheVariants as answer
use Rattle.xdr_codec.specs.declared.status.Status.TheVariants as status
use Rattle.tree_nodes.specs.declared.node.Node.{Node}
use Rattle.tree_nodes.specs.Nodes.{with_id}
use Rattle.tree_reading.specs.Chain.{◌>>=◌}
use Rattle.tree_reading.specs.Tree.{Tree, or_stale, file_or, contents_size}
use Rattle.tree_reading.specs.Plans.{within_file, spared, spared_bytes}
use Rattle.file_tree.specs.Step.{replace_if}
use Rattle.tree_reading.specs.declared.call.Reservation.{Reservation}
use Rattle.tree_calls.specs.declared.asked.Committing.{Committing}
use Rattle.tree_calls.specs.Waiting.{gives_content, with_committed}
use Rattle.server_core.specs.State as server
use Rattle.chunk_calls.specs.Files as the_files
use Rattle.server_core.specs.Closing as closing
use Rattle.server_core.specs.declared.change.Wanted.TheVariants as wanted
use Rattle.server_rules.specs.declared.told.Told.TheVariants as announced
use Rattle.client_state.specs.State as client
use Rattle.client_state.specs.declared.task.Stage.TheVariants as stage
use Rattle.kept_promise.proofs.Common.{slice_get, at, Failed, FileChange, Wanted, Entry, Op, Core, Session, CoreStep, quiet, numbered, with_numbered, settles, settled_by, unless, Book, Reply.Changed, Told, Queue, told_message, value_at, later, is_raw}
use Rattle.server_core.specs.Closing.{makes_change, committed_by}
use Rattle.server_core.specs.Recalling.{term_at}
use Rattle.kept_promise.proofs.Lists.{some_is, nothing_there, all_map}
use Rattle.kept_promise.proofs.Keys.{change_key, told_key}
use Rattle.kept_promise.proofs.Rights.{WasThere}
use Rattle.kept_promise.proofs.Remains.{there_version}
use Rattle.kept_promise.proofs.Growth.{value_later, there_later}
use Rattle.kept_promise.proofs.History.{onward, grows_same, goes_same, still_same}
use Rattle.kept_promise.proofs.Fits.{FitLaws}
use Rattle.kept_promise.proofs.Messages.{Job, job, AnswerOf, IsAnswer, IsPending}
use Rattle.kept_promise.proofs.Orderly.{Went, Wanted as IsWantedReply}
use Rattle.kept_promise.proofs.Later.{answer_later, close_later, Spares}
use Rattle.kept_promise.proofs.Takes.{file_still, fresh_still}
use Rattle.kept_promise.proofs.Turns.{turned_core, unnoted}
use Rattle.kept_promise.proofs.Facts.{FileIs, IsServer, IsSession, IsKept}
use Rattle.kept_promise.proofs.Leading.{Leads, downs_put, downs_put_in}
use Rattle.kept_promise.proofs.Hangs.{core_is}
use Rattle.kept_promise.proofs.ServesFiles.{none_newest, pointed_none}
use Rattle.kept_promise.proofs.TakenOut.{SettlesOut, settled_to}
use Rattle.kept_promise.proofs.GoingSettles.{kept_told}

-- ---- what the tree makes of it

-- what was a file and is none has no node
pub node_gone : (book : Book) (s : server.State) (f : ℕ) → IsServer book s → WasThere book f → the_files.file_at s.tree f ≡ None → with_id s.tree.nodes f ≡ None
node_gone book s f h there none = by (with_id s.tree.nodes f) refl
  where
    by : (o : Option Node) → with_id s.tree.nodes f ≡ o → o ≡ None
    by None e = refl
    by (Some n) e = absurd (there_version book f there (h.fresh f (inr (subst (λ (z : Option Node). IsSome z) (sym e) refl, none))))

pub commit_gone : (t : Tree) (held : Reservation) (id : ℕ) (content : List ℕ) (term : ℕ) → with_id t.nodes id ≡ None → gives_content t held id content term ≡ (t, record { answer = answer.Failed status.Stale tt; entry = None })
commit_gone t held id content term none = ap (λ (o : Option Node). with_committed term (replace_if t id content ((or_stale o >>= file_or status.IsDir >>= λ n. within_file (length content) >>= λ _. spared t.changes held 1 >>= λ _. spared_bytes (contents_size t.nodes) held (length content) >>= λ _. Ok n) >>= λ n. Ok (n.version + 1)))) none

-- ---- the step

abbrev pub unmade_server : server.State → (now : ℕ) → List FileChange → server.State
unmade_server s now cs = record s { leasing = later s.leasing now; waiting = cs }

abbrev pub unmade_told : FileChange → Told
unmade_told c = record { xid = c.xid; reply = Changed (Failed status.Stale tt) }

abbrev pub unmade_step : Core → (now : ℕ) → FileChange → List FileChange → CoreStep
unmade_step k now c cs = record (quiet (record k { steps = k.steps + 1; server = unmade_server k.server now cs })) { down = record { session = c.session; message = told_message (unmade_told c) } ∷ [] }

pub unmade_settles : (k : Core) (now : ℕ) (c : FileChange) (cs : List FileChange) (content : List ℕ) → SettlesOut k now c cs → c.what ≡ wanted.Content content → with_id k.server.tree.nodes c.file ≡ None → unnoted k (settles k now) ≡ unmade_step k now c cs
unmade_settles k now c cs content out what none =
    out.is
    ∙ ap (λ (w : Wanted). settled_to k (makes_change before c w)) what
    ∙ ap (λ (p : Tree × Committing). settled_to k (committed_by before c content p)) (commit_gone k.server.tree (server.held cs) c.file content (term_at before c.file) none)
    ∙ ap (λ (o : Option ℕ). with_parts (k.server.journal ++ []) (settled_by k o (announced.Settled c.session c.xid)) (k.entries ++ [])) (none_newest (k.server.journal ++ []) 0 refl)
    ∙ ap (λ (l : List Entry). with_parts l (settled_by k None (announced.Settled c.session c.xid)) (k.entries ++ [])) (append-nil k.server.journal)
    ∙ ap (λ (l : List Op). with_parts k.server.journal l (k.entries ++ [])) (same (numbered k.sessions c.session))
    ∙ ap (with_parts k.server.journal k.ops) (append-nil k.entries)
  where
    before : server.State
    before = at (record k.server { waiting = cs }) now

    with_parts : List Entry → List Op → List ℕ → CoreStep
    with_parts journal ops entries = record (quiet (record k { steps = k.steps + 1; server = record before { journal = journal }; ops = ops; entries = entries })) { down = record { session = c.session; message = told_message (unmade_told c) } ∷ [] }

    same : (o : Option Session) → Rattle.trace_ends.specs.Session.settled_ops k.ops (k.steps + 1) None o ≡ k.ops
    same None = refl
    same (Some x) = pointed_none k.ops x.closing (k.steps + 1)

-- ---- the frame

module _ (laws : FitLaws) (book : Book) (k : Core) (qs : List Queue) (now : ℕ) (c : FileChange) (cs : List FileChange) (content : List ℕ) (kept : IsKept book k qs) (out : SettlesOut k now c cs) (what : c.what ≡ wanted.Content content) (none : the_files.file_at k.server.tree c.file ≡ None)
    (x : Session) (q : Queue) (here : numbered k.sessions c.session ≡ Some x) (unhung : x.hung ≡ false) (is : numbered qs c.session ≡ Some q) (owned : is_raw x ≡ false) (p : IsPending book x.closing x.cut (job (kept.sessions c.session x q here is owned).seat) c.xid c.file content) where
  abbrev n : ℕ
  n = c.session

  abbrev h : IsSession book k.seats k.server n x q
  h = kept.sessions n x q here is owned

  abbrev t : Told
  t = unmade_told c

  abbrev s : server.State
  s = unmade_server k.server now cs

  abbrev more : Book
  more = onward book 1 book.ops

  abbrev after : Queue
  after = record q { downs = unless x.cut q.downs (t ∷ []) }

  spares : Spares x.closing None
  spares = λ z u v. nothing_there z v

  gone : value_at book c.file (book.steps + 1) ≡ None
  gone = subst (FileIs book c.file) none (kept.server.held c.file)

  key_is : told_key t ≡ change_key c
  key_is = sym (ap (λ (w : Wanted). change_key (record c { what = w })) what)

  -- its client waits for it
  job_is : x.cut ≡ false → (j : Job) → job h.seat ≡ Some j → j ≡ record { place = p.place; file = c.file; stage = stage.Committing c.xid }
  job_is uncut j at = some_is j (record { place = p.place; file = c.file; stage = stage.Committing c.xid }) (sym at ∙ p.waited uncut)

  told_now : x.cut ≡ false → AnswerOf more x.taken x.closing (job h.seat) c.xid (Changed (Failed status.Stale tt))
  told_now uncut = λ j at stage_is. (p.op, ap (λ (z : Job). slice_get book.ops z.place) (job_is uncut j at) ∙ p.there, p.unmade, p.known ∙ ap (λ (z : Job). Some z.place) (sym (job_is uncut j at)))

  went : Went more p.op
  went =
      let begun = (kept.sound.rights p.place p.op p.there).begun in
      record {
        step = book.steps + 1;
        after = omega (arith, begun);
        before = omega arith;
        value_is = value_later book more None None p.op.file (book.steps + 1) (grows_same book 1) (omega arith) ∙ ap (λ (f : ℕ). value_at book f (book.steps + 1)) p.file_is ∙ gone;
      }

  wanted_now : x.cut ≡ false → IsWantedReply more (job h.seat) c.xid (Changed (Failed status.Stale tt))
  wanted_now uncut = (record { place = p.place; file = c.file; stage = stage.Committing c.xid }, p.op, p.waited uncut, refl, p.there, p.word_is, inr (went, refl))

  server_unmade : IsServer more s
  server_unmade =
      let grows = grows_same book 1 in
      let still = still_same book 1 kept.sound in
      let z = kept.server.changes in
      let e = out.out.entries in
      let b = kept.server.bytes in
      let u = out.out.bytes in
      record {
        held = λ f. file_still book more None None f (the_files.file_at k.server.tree f) grows still (kept.server.held f);
        fresh = fresh_still book more None None k.server.tree grows still kept.server.fresh;
        bounded = kept.server.bounded;
        zero = kept.server.zero;
        rooted = kept.server.rooted;
        wants = λ i d w. let y = out.out.others i d w in kept.server.wants y.0 d y.1;
        changes = omega (arith, z, e);
        bytes = omega (arith, b, u);
        lengths = λ i d w. let y = out.out.others i d w in kept.server.lengths y.0 d y.1;
        targets = λ i d w. let y = out.out.others i d w in there_later book more None None d.file grows (kept.server.targets y.0 d y.1);
        xids = λ i d w. let y = out.out.others i d w in kept.server.xids y.0 d y.1;
        leases = kept.server.leases;
        serves = kept.server.serves;
      }

  kept_unmade : IsKept more (turned_core k more s k.seats k.sessions) (with_numbered qs n after)
  kept_unmade =
      let grows = grows_same book 1 in
      kept_told book more k qs now c cs x q (later k.server.leasing now) k.server.tree k.server.journal k.server.index (Changed (Failed status.Stale tt)) None kept out.out here is owned (record {
        goes = goes_same book 1 kept.sound;
        server = server_unmade;
        journal_is = kept.journal;
        made_here = λ z w. nothing_there z w;
        key_is = key_is;
        fits = laws.plain book.lbfs c.xid (Changed (Failed status.Stale tt)) (kept.server.xids out.out.place c out.out.there) tt;
        answers = λ uncut. all_map (IsAnswer book x.taken x.closing (job h.seat)) (IsAnswer more x.taken x.closing (job h.seat)) (λ u f. answer_later book more None None x.taken x.closing (job h.seat) u grows spares f) q.downs (h.talk uncut).answers;
        answer = told_now;
        closes = λ uncut j f. close_later book more None None x.closing h.contents h.seat.client.next_temp j (client.local_bytes h.seat.client.opened j.file) j.stage grows spares (h.closes uncut j f);
        plain = tt;
        wanted = wanted_now;
        running = kept.running;
      })

  told_queue : downs_put k.sessions qs ((n, t) ∷ []) ≡ with_numbered qs n after
  told_queue = ap (λ (o : Option Session). downs_put_in qs (n, t) o (numbered qs n)) here ∙ ap (λ (o : Option Queue). downs_put_in qs (n, t) (Some x) o) is

  pub leads_unmade : Leads book qs (unmade_step k now c cs)
  leads_unmade = record {
    sends = record { replies = []; replies_fit = tt; asks = []; up_is = refl; strays = []; strays_cut = tt; recalls = []; recalls_fit = tt; tolds = (n, t) ∷ []; down_is = refl };
    more = more;
    moments = refl;
    opening = refl;
    kept = subst (λ (z : List Queue). IsKept more (unmade_step k now c cs).core z) (sym told_queue) (subst (λ (z : Core). IsKept more z (with_numbered qs n after)) (core_is book k qs s k.seats k.sessions kept) kept_unmade);
  }
