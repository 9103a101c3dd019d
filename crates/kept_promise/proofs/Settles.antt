-- A pending change is made, and its session told.
use Rattle.std.proofs.Common.{inl, inr, ◌≡◌, ℕ, suc, ◌+◌, ◌≤◌, List, [], ◌∷◌, ◌++◌, length, Option, Some, None, Bool, true, false, refl, sym, ap, ◌∙◌, subst, arith, eq-eqb, map, IsSome}
use Rattle.tree_calls.specs.Waiting.{file_of}
use Rattle.tree_calls.specs.declared.asked.Asked.{Asked}
use Rattle.tree_calls.specs.declared.asked.Asked.TheVariants as asked
use Rattle.server_core.specs.State as server
use Rattle.chunk_calls.specs.Files as the_files
use Rattle.server_core.specs.declared.change.Wanted.TheVariants as wanted
use Rattle.file_tree.specs.Step.{replaced}
use Rattle.server_rules.specs.declared.told.Told.TheVariants as told_
use Rattle.client_state.specs.State as client
use Rattle.hash_calls.specs.declared.message.LbProc.TheVariants as lb_proc
use Rattle.wire.specs.declared.message.Program.TheVariants as program
use Rattle.client_state.specs.declared.task.Stage.TheVariants as stage
use Rattle.register_model.specs.declared.op.Outcome.TheVariants as told
use Rattle.register_model.specs.declared.op.Word.TheVariants as words
use Rattle.register_model.specs.Register.{IsFit}
use Rattle.trace_replay.specs.Faithful.{IsKind, left_by as left_of}
use Rattle.kept_promise.proofs.Common.{slice_get, slice_set, cond, ◌==◌, sha1, Done, Failed, at, FileChange, File, Entry, Fetch, Stage, Op, Core, Seat, Session, numbered, with_numbered, settled_ops, settled_by, pointed, pointed_at, unless, Book, Or, value_at, Reply, Reply.Versioned, Reply.Hashed, Reply.Bytes, Reply.Made, Reply.Named, Reply.Stored, Reply.Changed, Told, Queue, reply_program, Tree, Reply.Walked, Word, Value, value_from, unwrap_or, changes, Wanted, Event.Settles, happens, is_raw}
use Rattle.server_core.specs.Recalling.{term_at}
use Rattle.kept_promise.proofs.Recallings.{term_small}
use Rattle.kept_promise.proofs.Lists.{some_is, nothing_there, same_or_not, at_end, at_replaced, of_replaced}
use Rattle.kept_promise.proofs.Keys.{times, times_append, times_head, own, key, change_key, ask_key, told_key, wanted_program}
use Rattle.kept_promise.proofs.Messages.{Job, job, hash_offset, CommitTold, AllTolds, IsAnswer, AnswerOf, IsPending, CloseOf, content_wanted, WaitsFor, AsksFor, walk_for, lease_xid}
use Rattle.kept_promise.proofs.Rights.{IsSound, IsUnmade, IsMade, WasThere}
use Rattle.kept_promise.proofs.Growth.{Grows, or_map, made_later, or_later, there_later}
use Rattle.kept_promise.proofs.History.{made_op, IsEntryOf, grows_made, goes_made, value_now, version_now, made_book}
use Rattle.trace_ends.specs.Core.{newest_entries, changed_file}
use Rattle.kept_promise.proofs.ServesFiles.{newest_one}
use Rattle.kept_promise.proofs.Turns.{also_numbered, turned_core, unnoted, raw_or_owned, came_same}
use Rattle.kept_promise.proofs.Fits.{FitLaws}
use Rattle.kept_promise.proofs.OrderSteps.{keys_once}
use Rattle.kept_promise.proofs.Facts.{IsValue, FileIs, IsTalk, IsKept, IsWanted}
use Rattle.kept_promise.proofs.Leading.{Leads, downs_put_in, downs_put, KeptSettles, IsNoted}
use Rattle.kept_promise.proofs.Cuts.{leads_idle}
use Rattle.server_law.proofs.lemmas.Trees.{replaced_own, replaced_other, replaced_size, replaced_bounded, file_bounded, given}
use Rattle.kept_promise.proofs.Making.{entry_of, made_change, room_there, made_is}
use Rattle.path_calls.specs.declared.walk.Walk.{Walk}
use Rattle.kept_promise.proofs.NoZero.{replaced_none}
use Rattle.kept_promise.proofs.MadeFiles.{file_alike, others_alike, own_alike, gone_fresh}
use Rattle.kept_promise.proofs.Rooted.{replaced_rooted}
use Rattle.kept_promise.proofs.Unused.{unused_replaced}
use Rattle.kept_promise.proofs.TakenOut.{IsOut, SettlesOut, settled_to, WhatSettles, settles_one, settles_none, what_settles, owned_raws}
use Rattle.kept_promise.proofs.GoingSettles.{kept_told}
use Rattle.kept_promise.proofs.GoingEnds.{ends_so}
use Rattle.kept_promise.proofs.Departures.{settles_so, asks_itself}
use Rattle.kept_promise.proofs.Gone.{no_directory}
use Rattle.kept_promise.proofs.Unmade.{node_gone, unmade_settles, leads_unmade}
use Rattle.kept_promise.proofs.Hangs.{leads_noted}
use Rattle.kept_promise.proofs.RawSettles.{raw_settles}

-- ---- the tree

-- what the tree has of each file, once one got this content
held_made : (book : Book) (e : Entry) (j : ℕ) (o : Op) (t : Tree) (id : ℕ) (g : File) (x : List ℕ) → slice_get book.ops j ≡ Some o → IsUnmade o → o.word ≡ words.Close → IsSound book → o.file ≡ id → length o.value ≡ length x → Or book (o.value ≡ x) → length x ≤ 67108864 → ((f : ℕ) → FileIs book f (the_files.file_at t f)) → the_files.file_at t id ≡ Some g
    → (f : ℕ) → FileIs (made_book book (e ∷ []) j id o) f (the_files.file_at (replaced t id (g.version + 1) x) f)
held_made book e j o t id g x there_ unmade word sound mine size same short held there f = elim (same_or_not f id) [
  | inl here ↦
      let was : FileIs book id (Some g) = subst (FileIs book id) there (held id) in
      let left = own_alike book (e ∷ []) id j o there_ unmade sound in
      let now : IsValue more id x = record { value = o.value; is = left.0 ∙ ap (λ (w : Word). value_from w o.value) word; size = size; same = or_later book more (Some j) None _ _ grows (λ q. q) same } in
      let own : FileIs more id (Some (record g { version = g.version + 1; content = x })) = (was.0, was.1, was.2, now, left.1 ∙ ap (λ z. z + 1) was.4, short) in
      subst (λ (z : ℕ). FileIs more z (the_files.file_at (replaced t id (g.version + 1) x) z)) (sym here) (subst (FileIs more id) (sym (replaced_own t id (g.version + 1) x g there)) own)
  | inr apart ↦
      let alike = others_alike book (e ∷ []) id j o f there_ unmade (λ q. apart (sym q)) sound in
      subst (FileIs more f) (sym (replaced_other t id (g.version + 1) x f apart)) (file_alike book more (Some j) None f (the_files.file_at t f) grows alike.0 alike.1 (held f))
]
  where
    more : Book
    more = made_book book (e ∷ []) j id o

    grows : Grows book more (Some j) None
    grows = grows_made book (e ∷ []) id j o (λ close. sym mine) there_ unmade

-- ---- what is told

abbrev answer : FileChange → (version term : ℕ) → Told
answer c version term = record { xid = c.xid; reply = Changed (Done (record { version = version; term = term })) }

-- the term of the lease that it gets
abbrev told_term : server.State → FileChange → List FileChange → ℕ
told_term s c cs = term_at (record s { waiting = cs }) c.file

-- it is to the call that waited
answer_key : (c : FileChange) (x : List ℕ) (version term : ℕ) → c.what ≡ wanted.Content x → told_key (answer c version term) ≡ change_key c
answer_key c x version term what = sym (ap (λ (w : Wanted). change_key (record c { what = w })) what)

-- answers of which none has this key
all_but : (P Q : Told → Type 0) (k : ℕ) (ts : List Told) → times k (map told_key ts) ≡ 0 → ((t : Told) → (told_key t ≡ k → ⊥) → P t → Q t) → AllTolds P ts → AllTolds Q ts
all_but P Q k [] none f h = tt
all_but P Q k (t ∷ ts) none f h = by (told_key t == k) refl none (λ n. all_but P Q k ts n f h.1)
  where
    by : (b : Bool) → (told_key t == k) ≡ b → ◌≡◌ {A = ℕ} (cond b (suc (times k (map told_key ts))) (times k (map told_key ts))) 0 → (times k (map told_key ts) ≡ 0 → AllTolds Q ts) → Q t × AllTolds Q ts
    by true e n later = absurd (omega (arith, n))
    by false e n later = (f t (λ q. differ q e) h.0, later n)
      where
        differ : told_key t ≡ k → (told_key t == k) ≡ false → ⊥
        differ q g = let z : (told_key t == k) ≡ true = eq-eqb (told_key t) k q in absurd cc

not_reading : (x : ℕ) (f : Fetch) → stage.Committing x ≡ stage.Reading f → ⊥
not_reading x f e = absurd cc

not_walking : (x y : ℕ) (w : Walk) → stage.Committing x ≡ stage.Walking y w → ⊥
not_walking x y w e = absurd cc

not_asking : (x y : ℕ) → lease_xid (stage.Committing x) ≡ Some y → ⊥
not_asking x y e = nothing_there y e

same_xid : (x y : ℕ) → stage.Committing x ≡ stage.Committing y → x ≡ y
same_xid x y e = cc

-- where its client waits for nothing but the commit, what it was told before stays so
settled_answers : (book : Book) (e : Entry) (j : ℕ) (o : Op) (c : FileChange) (waits cs : List FileChange) (x : Session) (q : Queue) (seat : Seat) → c.what ≡ wanted.Content (content_wanted c.what)
    → Grows book (made_book book (e ∷ []) j c.file o) (Some j) None → IsOut waits c cs → job seat ≡ Some (record { place = j; file = c.file; stage = stage.Committing c.xid })
    → IsTalk book c.session waits x q seat → AllTolds (IsAnswer (made_book book (e ∷ []) j c.file o) x.taken x.closing (job seat)) q.downs
settled_answers book e j o c waits cs x q seat what g out committing t = all_but (IsAnswer book x.taken x.closing (job seat)) (IsAnswer (made_book book (e ∷ []) j c.file o) x.taken x.closing (job seat)) (change_key c) q.downs none (λ u apart h. old_reply u.xid u.reply apart h) t.answers
  where
    here : Job
    here = record { place = j; file = c.file; stage = stage.Committing c.xid }

    none : times (change_key c) (map told_key q.downs) ≡ 0
    none =
        let k = change_key c in
        let a = t.balanced.most k in
        let b = t.balanced.once c.xid in
        let d = keys_once c.xid (wanted_program c.what) (client.calls_of seat.client) in
        let e1 = ap (λ (l : List FileChange). times k (map ask_key q.ups ++ (map change_key l ++ map told_key q.downs))) out.mine in
        let e2 = times_append k (map ask_key q.ups) (map change_key (c ∷ []) ++ map told_key q.downs) in
        let e3 = times_append k (map change_key (c ∷ [])) (map told_key q.downs) in
        let e4 = times_head k [] in
        omega (arith, a, b, d, e1, e2, e3, e4)

    -- an answer to anything else is not waited for, or tells of the past
    old_reply : (y : ℕ) (r : Reply) → (key y (reply_program r) ≡ change_key c → ⊥) → AnswerOf book x.taken x.closing (job seat) y r → AnswerOf (made_book book (e ∷ []) j c.file o) x.taken x.closing (job seat) y r
    old_reply y (Versioned a) apart h = λ i f s. let same : here ≡ i = some_is here i (sym committing ∙ f) in absurd (not_asking c.xid y (ap (λ (z : Job). lease_xid z.stage) same ∙ s))
    old_reply y (Hashed a) apart h = λ i k f s. let same : here ≡ i = some_is here i (sym committing ∙ f) in nothing_there k (ap (λ (w : Job). hash_offset w.stage y) same ∙ s)
    old_reply y (Bytes a) apart h = λ i k m f s w. let same : here ≡ i = some_is here i (sym committing ∙ f) in absurd (not_reading c.xid k (ap (λ (z : Job). z.stage) same ∙ s))
    old_reply y (Changed (Done d)) apart h = λ i f s. made_later book (made_book book (e ∷ []) j c.file o) (Some j) None i.place d.version g (h i f s)
    old_reply y (Changed (Failed s u)) apart h = λ i f w.
        let same : here ≡ i = some_is here i (sym committing ∙ f) in
        let x_is : c.xid ≡ y = same_xid c.xid y (ap (λ (z : Job). z.stage) same ∙ w) in
        absurd (apart (ap (λ (z : ℕ). key z (program.Lb lb_proc.CommitTmp)) (sym x_is) ∙ answer_key c (content_wanted c.what) 0 0 what))
    old_reply y (Made a) apart h = tt
    old_reply y (Walked r) apart h = λ i w f s. let same : here ≡ i = some_is here i (sym committing ∙ f) in absurd (not_walking c.xid y w (ap (λ (z : Job). z.stage) same ∙ s))
    old_reply y (Named a) apart h = tt
    old_reply y (Stored a) apart h = tt

-- ---- the event

-- the server, once a change was made
abbrev settled_server : server.State → (now : ℕ) → FileChange → List FileChange → File → server.State
settled_server s now c cs f = (made_change (at (record s { waiting = cs }) now) c (content_wanted c.what) f).0

settled_now : FitLaws → (book : Book) (k : Core) (qs : List Queue) (now : ℕ) (c : FileChange) (cs : List FileChange) (f : File) (x : Session) (q : Queue) (j : ℕ) (o : Op) → (kept : IsKept book k qs) → IsOut k.server.waiting c cs → c.what ≡ wanted.Content (content_wanted c.what) → the_files.file_at k.server.tree c.file ≡ Some f → (here : numbered k.sessions c.session ≡ Some x) → x.hung ≡ false → (is : numbered qs c.session ≡ Some q) → (owned : is_raw x ≡ false)
    → (pending : IsPending book x.closing x.cut (job (kept.sessions c.session x q here is owned).seat) c.xid c.file (content_wanted c.what)) → pending.place ≡ j → pending.op ≡ o
    → IsKept (made_book book (entry_of c (content_wanted c.what) f ∷ []) j c.file o) (turned_core k (made_book book (entry_of c (content_wanted c.what) f ∷ []) j c.file o) (settled_server k.server now c cs f) k.seats k.sessions) (with_numbered qs c.session (record q { downs = unless x.cut q.downs (answer c (f.version + 1) (told_term k.server c cs) ∷ []) }))
settled_now laws book k qs now c cs f x q j o kept out what there here unhung is owned pending place_is op_is =
    let n : ℕ = c.session in
    let h = kept.sessions n x q here is owned in
    let e : Entry = entry_of c (content_wanted c.what) f in
    let at_ : slice_get book.ops j ≡ Some o = subst (λ (z : ℕ). slice_get book.ops z ≡ Some o) place_is (pending.there ∙ ap (λ (z : Op). Some z) op_is) in
    let known : x.closing ≡ Some j = pending.known ∙ ap (λ (z : ℕ). Some z) place_is in
    let unmade : IsUnmade o = subst IsUnmade op_is pending.unmade in
    let file_is : o.file ≡ c.file = ap (λ (z : Op). z.file) (sym op_is) ∙ pending.file_is in
    let size : length o.value ≡ length (content_wanted c.what) = ap (λ (z : Op). length z.value) (sym op_is) ∙ pending.size_is in
    let same : Or book (o.value ≡ (content_wanted c.what)) = subst (λ (z : Op). Or book (z.value ≡ (content_wanted c.what))) op_is pending.value_is in
    let own_file : FileIs book c.file (Some f) = subst (FileIs book c.file) there (kept.server.held c.file) in
    let word : o.word ≡ words.Close = ap (λ (z : Op). z.word) (sym op_is) ∙ pending.word_is in
    let left : left_of o ≡ o.value = ap (λ (w : Word). unwrap_or (value_from w o.value) []) word in
    let tells : IsEntryOf book c.file o e = record {
      kind_is = subst (λ (w : Word). IsKind w e.kind) (sym word) refl;
      file = refl;
      len = ap (λ (l : List ℕ). length l) left ∙ size;
      digest = or_map book _ _ (λ q. ap sha1 (left ∙ q)) same;
      version = ap (λ (z : ℕ). z + 1) (sym own_file.4);
      own = λ close. sym file_is;
      positive = own_file.1;
      fit = subst (λ (w : Word). IsFit w (value_at book c.file (book.steps + 1))) (sym word) (subst (λ (v : Value). IsSome v) (sym own_file.3.is) refl);
    } in
    let goes = goes_made book e [] c.file j o tells (λ i d at. nothing_there d at) at_ unmade kept.sound in
    let g = goes.grows in
    let more = made_book book (e ∷ []) j c.file o in
    let version : ℕ = f.version + 1 in
    let r = settled_server k.server now c cs f in
    let short : length (content_wanted c.what) ≤ 67108864 = kept.server.lengths out.place c out.there in
    let room = room_there book k.server c cs kept.server out what in
    let held : (z : ℕ) → FileIs more z (the_files.file_at r.tree z) = λ z. held_made book e j o k.server.tree c.file f (content_wanted c.what) at_ unmade word kept.sound file_is size same short kept.server.held there z in
    let entries = room.count in
    let sizes = replaced_size k.server.tree c.file (f.version + 1) (content_wanted c.what) f kept.server.bounded there in
    let small = room.small in
    let made : IsMade more j version = (
      made_op book c.file o,
      book.steps + 1,
      at_replaced book.ops j (made_op book c.file o) o at_,
      word,
      refl,
      omega arith,
      record {
        place = length book.entries;
        entry = e;
        step_is = at_end book.entries (book.steps + 1);
        entry_is = ap (slice_get (book.journal ++ e ∷ [])) kept.sound.journal.count ∙ at_end book.journal e;
        file_is = refl;
        version_is = refl;
        len_is = sym size;
        digest_is = or_map book _ _ (λ q. ap sha1 (sym q)) same;
      },
      (book.steps + 2, omega arith, version_now book (e ∷ []) c.file j o at_ unmade kept.sound ∙ ap (λ (z : ℕ). z + 1) own_file.4, value_now book (e ∷ []) c.file j o at_ unmade kept.sound ∙ ap (λ (w : Word). value_from w o.value) word),
    ) in
    kept_told book more k qs now c cs x q r.leasing r.tree r.journal r.index (Changed (Done (record { version = version; term = told_term k.server c cs }))) (Some j) kept out here is owned (record {
      goes = goes;
      server = record {
        held = held;
        fresh = λ z u. gone_fresh book (e ∷ []) j o c.file k.server.tree f at_ unmade kept.sound (given k.server.tree kept.server.bounded) there kept.server.fresh z (unused_replaced k.server.tree c.file (f.version + 1) (content_wanted c.what) f z there u);
        bounded = replaced_bounded k.server.tree c.file (content_wanted c.what) f there (omega (arith, entries)) short (omega (arith, small)) kept.server.bounded;
        zero = replaced_none k.server.tree c.file (f.version + 1) (content_wanted c.what) 0 kept.server.zero;
        rooted = replaced_rooted k.server.tree c.file (f.version + 1) (content_wanted c.what) kept.server.rooted;
        wants = λ i d z. let y = out.others i d z in kept.server.wants y.0 d y.1;
        changes = omega (arith, entries);
        bytes = omega (arith, sizes, small);
        lengths = λ i d z. let y = out.others i d z in kept.server.lengths y.0 d y.1;
        targets = λ i d z. let y = out.others i d z in there_later book more (Some j) None d.file g (kept.server.targets y.0 d y.1);
        xids = λ i d z. let y = out.others i d z in kept.server.xids y.0 d y.1;
        leases = kept.server.leases;
        serves = kept.server.serves;
      };
      journal_is = ap (λ (l : List Entry). l ++ e ∷ []) kept.journal;
      made_here = λ z w. known ∙ w;
      key_is = answer_key c (content_wanted c.what) version (told_term k.server c cs) what;
      fits = laws.plain book.lbfs c.xid (Changed (Done (record { version = version; term = told_term k.server c cs }))) (kept.server.xids out.place c out.there) (let a = (file_bounded k.server.tree c.file f kept.server.bounded there).0 in omega (arith, a, entries), term_small k.server.leasing.term cs (Some c.file) kept.server.leases.0);
      answers = λ uncut. settled_answers book e j o c k.server.waiting cs x q h.seat what g out (committing uncut) (h.talk uncut);
      answer = λ uncut i z w. subst (λ (u : Job). CommitTold more x.closing u (Done (record { version = version; term = told_term k.server c cs }))) (some_is (record { place = j; file = c.file; stage = stage.Committing c.xid }) i (sym (committing uncut) ∙ z)) made;
      closes = λ uncut i w. close_made more uncut i w (h.closes uncut i w);
      plain = tt;
      wanted = λ uncut. tt;
      running = λ z u w run. still_runs z u w run;
    })
  where
    pending_there : slice_get book.ops j ≡ Some o
    pending_there = subst (λ (z : ℕ). slice_get book.ops z ≡ Some o) place_is (pending.there ∙ ap (λ (z : Op). Some z) op_is)

    pending_close : o.word ≡ words.Close
    pending_close = ap (λ (z : Op). z.word) (sym op_is) ∙ pending.word_is

    pending_file : o.file ≡ c.file
    pending_file = ap (λ (z : Op). z.file) (sym op_is) ∙ pending.file_is

    pending_unmade : IsUnmade o
    pending_unmade = subst IsUnmade op_is pending.unmade

    committing : x.cut ≡ false → job (kept.sessions c.session x q here is owned).seat ≡ Some (record { place = j; file = c.file; stage = stage.Committing c.xid })
    committing uncut = subst (λ (z : ℕ). job (kept.sessions c.session x q here is owned).seat ≡ Some (record { place = z; file = c.file; stage = stage.Committing c.xid })) place_is (pending.waited uncut)

    close_made : (more : Book) → x.cut ≡ false → (i : Job) → job (kept.sessions c.session x q here is owned).seat ≡ Some i
        → CloseOf book x.closing (kept.sessions c.session x q here is owned).contents (kept.sessions c.session x q here is owned).seat.client.next_temp i (client.local_bytes (kept.sessions c.session x q here is owned).seat.client.opened i.file) i.stage
        → CloseOf (made_book book (entry_of c (content_wanted c.what) f ∷ []) j c.file o) x.closing (kept.sessions c.session x q here is owned).contents (kept.sessions c.session x q here is owned).seat.client.next_temp i (client.local_bytes (kept.sessions c.session x q here is owned).seat.client.opened i.file) i.stage
    close_made more uncut i w h =
        let own : Job = record { place = j; file = c.file; stage = stage.Committing c.xid } in
        let same : own ≡ i = some_is own i (sym (committing uncut) ∙ w) in
        committed i (sym (ap (λ (z : Job). z.stage) same)) (sym (ap (λ (z : Job). z.place) same)) h
      where
        committed : (i : Job) → i.stage ≡ stage.Committing c.xid → i.place ≡ j → CloseOf book x.closing (kept.sessions c.session x q here is owned).contents (kept.sessions c.session x q here is owned).seat.client.next_temp i (client.local_bytes (kept.sessions c.session x q here is owned).seat.client.opened i.file) i.stage
            → CloseOf (made_book book (entry_of c (content_wanted c.what) f ∷ []) j c.file o) x.closing (kept.sessions c.session x q here is owned).contents (kept.sessions c.session x q here is owned).seat.client.next_temp i (client.local_bytes (kept.sessions c.session x q here is owned).seat.client.opened i.file) i.stage
        committed i s p h =
            let v = client.local_bytes (kept.sessions c.session x q here is owned).seat.client.opened i.file in
            let old : CloseOf book x.closing (kept.sessions c.session x q here is owned).contents (kept.sessions c.session x q here is owned).seat.client.next_temp i v (stage.Committing c.xid) = subst (λ (z : Stage). CloseOf book x.closing (kept.sessions c.session x q here is owned).contents (kept.sessions c.session x q here is owned).seat.client.next_temp i v z) s h in
            let g = grows_made book (entry_of c (content_wanted c.what) f ∷ []) c.file j o (λ close. sym pending_file) pending_there pending_unmade in
            let r = g.each i.place old.0 old.1 in
            subst (λ (z : Stage). CloseOf (made_book book (entry_of c (content_wanted c.what) f ∷ []) j c.file o) x.closing (kept.sessions c.session x q here is owned).contents (kept.sessions c.session x q here is owned).seat.client.next_temp i v z) (sym s) (r.0, r.1, r.2.word ∙ old.2, r.2.value (ap changes old.2) ∙ old.3)

    still_runs : (z : ℕ) (u : Op) → slice_get (slice_set book.ops j (made_op book c.file o)) z ≡ Some u → u.outcome ≡ told.Running → (e : Seat) × (g : Job) × (numbered k.seats u.client ≡ Some e) × (job e ≡ Some g) × (g.place ≡ z)
    still_runs z u w run = elim (of_replaced book.ops j (made_op book c.file o) z u w) [
      | inr was ↦ kept.running z u was.1 run
      | inl new ↦
          let r = kept.running j o pending_there (ap (λ (v : Op). v.outcome) (sym new.1) ∙ run) in
          (r.0, r.1, ap (λ (v : Op). numbered k.seats v.client) new.1 ∙ r.2, r.3, r.4 ∙ sym new.0)
    ]

settled_core : (book more : Book) (k : Core) (r : server.State) (ops : List Op) (entries : List ℕ) → more.steps ≡ k.steps + 1 → more.ops ≡ ops → more.entries ≡ entries → turned_core k more r k.seats k.sessions ≡ record k { server = r; seats = k.seats; sessions = k.sessions; steps = k.steps + 1; ops = ops; entries = entries }
settled_core book more k r ops entries a b c =
    ap (λ (s : ℕ). record k { server = r; seats = k.seats; sessions = k.sessions; steps = s; ops = more.ops; entries = more.entries }) a
    ∙ ap (λ (o : List Op). record k { server = r; seats = k.seats; sessions = k.sessions; steps = k.steps + 1; ops = o; entries = more.entries }) b
    ∙ ap (λ (e : List ℕ). record k { server = r; seats = k.seats; sessions = k.sessions; steps = k.steps + 1; ops = ops; entries = e }) c

queue_told : (sessions : List Session) (qs : List Queue) (n : ℕ) (x : Session) (q : Queue) (t : Told) → numbered sessions n ≡ Some x → numbered qs n ≡ Some q → downs_put sessions qs ((n, t) ∷ []) ≡ with_numbered qs n (record q { downs = unless x.cut q.downs (t ∷ []) })
queue_told sessions qs n x q t at is = ap (λ (o : Option Session). downs_put_in qs (n, t) o (numbered qs n)) at ∙ ap (λ (o : Option Queue). downs_put_in qs (n, t) (Some x) o) is

settled_leads : FitLaws → (book : Book) (k : Core) (qs : List Queue) (now : ℕ) (c : FileChange) (cs : List FileChange) (f : File) → IsKept book k qs → IsOut k.server.waiting c cs → c.what ≡ wanted.Content (content_wanted c.what) → the_files.file_at k.server.tree c.file ≡ Some f → (home : (x : Session) × (numbered k.sessions c.session ≡ Some x) × (x.hung ≡ false)) → is_raw home.0 ≡ false → Leads book qs (settled_to k (made_change (at (record k.server { waiting = cs }) now) c (content_wanted c.what) f))
settled_leads laws book k qs now c cs f kept out what there home owned =
    let n : ℕ = c.session in
    let x : Session = home.0 in
    let q = also_numbered k.sessions qs n x kept.made.1 home.1 in
    let h = kept.sessions n x q.0 home.1 q.1 owned in
    let pending = subst (λ (w : Wanted). WaitsFor book c.session x.closing x.cut (job h.seat) c.xid c.file w) what (h.pending 0 c (ap (λ (l : List FileChange). slice_get l 0) out.mine)) in
    let j : ℕ = pending.place in
    let o : Op = pending.op in
    let t : Told = answer c (f.version + 1) (told_term k.server c cs) in
    let more = made_book book (entry_of c (content_wanted c.what) f ∷ []) j c.file o in
    let now_kept = settled_now laws book k qs now c cs f x q.0 j o kept out what there home.1 home.2 q.1 owned pending refl refl in
    let changed : Option ℕ = changed_file (newest_entries (settled_server k.server now c cs f).journal 1) in
    let ops_is : settled_by k changed (told_.Settled n c.xid) ≡ more.ops =
    ap (λ (z : Option ℕ). settled_by k z (told_.Settled n c.xid)) (newest_one k.server.journal (entry_of c (content_wanted c.what) f))
    ∙ ap (λ (z : Option Session). settled_ops k.ops (k.steps + 1) (Some c.file) z) home.1
    ∙ ap (λ (z : Option ℕ). pointed_at k.ops z (k.steps + 1) (Some c.file)) pending.known
    ∙ ap (λ (os : List Op). pointed_at os (Some j) (k.steps + 1) (Some c.file)) (sym kept.ops)
    ∙ ap (λ (z : Option Op). pointed book.ops j c.file (k.steps + 1) z) pending.there
    ∙ ap (λ (s : ℕ). slice_set book.ops j (record o { file = c.file; point = Some (s + 1) })) (sym kept.steps) in
    let entries_is : more.entries ≡ k.entries ++ (k.steps + 1) ∷ [] = ap (λ (es : List ℕ). es ++ (book.steps + 1) ∷ []) kept.entries ∙ ap (λ (s : ℕ). k.entries ++ (s + 1) ∷ []) kept.steps in
    let core = settled_core book more k (settled_server k.server now c cs f) (settled_by k changed (told_.Settled n c.xid)) (k.entries ++ (k.steps + 1) ∷ []) (ap (λ s. s + 1) kept.steps) (sym ops_is) entries_is in
    record {
      sends = record { replies = []; replies_fit = tt; asks = []; up_is = refl; strays = []; strays_cut = tt; recalls = []; recalls_fit = tt; tolds = (n, t) ∷ []; down_is = refl };
      more = more;
      moments = refl;
      opening = refl;
      kept = subst (λ (z : List Queue). IsKept more (settled_to k (made_change (at (record k.server { waiting = cs }) now) c (content_wanted c.what) f)).core z) (sym (queue_told k.sessions qs n x q.0 t home.1 q.1)) (subst (λ (z : Core). IsKept more z (with_numbered qs n (record q.0 { downs = unless x.cut q.0.downs (t ∷ []) }))) core now_kept);
    }

-- ---- whatever is taken out

-- a commit, by whether its file is there
settled_commit : FitLaws → (book : Book) (k : Core) (qs : List Queue) (now : ℕ) (c : FileChange) (cs : List FileChange) (content : List ℕ) → IsKept book k qs → SettlesOut k now c cs → c.what ≡ wanted.Content content → (home : (x : Session) × (numbered k.sessions c.session ≡ Some x) × (x.hung ≡ false)) → is_raw home.0 ≡ false → (o : Option File) → the_files.file_at k.server.tree c.file ≡ o → Leads book qs (unnoted k (happens k (Settles now)))
settled_commit laws book k qs now c cs content kept out what home owned (Some f) there =
    let wants = what ∙ ap (λ (x : List ℕ). wanted.Content x) (sym (ap content_wanted what)) in
    subst (Leads book qs) (sym (out.is ∙ ap (settled_to k) (made_is book k.server now c cs f kept.server out.out there wants))) (settled_leads laws book k qs now c cs f kept out.out wants there home owned)
settled_commit laws book k qs now c cs content kept out what home owned None none =
    let q = also_numbered k.sessions qs c.session home.0 kept.made.1 home.1 in
    let h = kept.sessions c.session home.0 q.0 home.1 q.1 owned in
    let pending = subst (λ (w : Wanted). WaitsFor book c.session home.0.closing home.0.cut (job h.seat) c.xid c.file w) what (h.pending 0 c (ap (λ (l : List FileChange). slice_get l 0) out.out.mine)) in
    subst (Leads book qs) (sym (unmade_settles k now c cs content out what (node_gone book k.server c.file kept.server (kept.server.targets out.out.place c out.out.there) none))) (leads_unmade laws book k qs now c cs content kept out what none home.0 q.0 home.1 home.2 q.1 owned pending)

-- a remove, or a rename over a file
settled_asked : FitLaws → (book : Book) (k : Core) (qs : List Queue) (now : ℕ) (c : FileChange) (cs : List FileChange) (a : Asked) → IsKept book k qs → IsNoted book k (Settles now) → SettlesOut k now c cs → c.what ≡ wanted.Asked a → (home : (x : Session) × (numbered k.sessions c.session ≡ Some x) × (x.hung ≡ false)) → is_raw home.0 ≡ false → Leads book qs (happens k (Settles now))
settled_asked laws book k qs now c cs a kept noted out what home owned =
    let q = also_numbered k.sessions qs c.session home.0 kept.made.1 home.1 in
    let h = kept.sessions c.session home.0 q.0 home.1 q.1 owned in
    let pending = subst (λ (w : Wanted). WaitsFor book c.session home.0.closing home.0.cut (job h.seat) c.xid c.file w) what (h.pending 0 c (ap (λ (l : List FileChange). slice_get l 0) out.out.mine)) in
    let wants = subst (IsWanted c.file) what (kept.server.wants out.out.place c out.out.there) in
    ends_so laws book k qs now c cs a kept noted out what home.0 q.0 home.1 home.2 q.1 owned pending
    (settles_so k.server.tree (server.held cs) (walk_for a) a kept.server.bounded wants.2 (asks_itself a) wants.1 (λ n d. no_directory book k.server (file_of a) n kept.server (subst (λ (f : ℕ). WasThere book f) wants.0 (kept.server.targets out.out.place c out.out.there)) d))

pub kept_settles : FitLaws → KeptSettles
kept_settles laws = λ book k qs now kept noted. by book k qs now kept noted (what_settles book k qs now kept)
  where
    by : (book : Book) (k : Core) (qs : List Queue) (now : ℕ) → IsKept book k qs → IsNoted book k (Settles now) → WhatSettles k now → Leads book qs (happens k (Settles now))
    by book k qs now kept noted (settles_none none is) = subst (Leads book qs) (sym is) (leads_idle book k qs kept)
    by book k qs now kept noted (settles_one c cs out) = elim (raw_or_owned home.0) [ inl raw ↦ raw_settles book k qs now c cs kept out home.0 home.1 home.2 raw | inr owned ↦ is_wanted owned c.what refl ]
      where
        home : (x : Session) × (numbered k.sessions c.session ≡ Some x) × (x.hung ≡ false)
        home = kept.home out.out.place c out.out.there

        is_wanted : is_raw home.0 ≡ false → (w : Wanted) → c.what ≡ w → Leads book qs (happens k (Settles now))
        is_wanted owned (wanted.Content content) what = leads_noted book k qs (happens k (Settles now)) (out.raws ∙ owned_raws k (at (record k.server { waiting = cs }) now) c c.what home.0 home.1 owned) (came_same k.came (k.steps + 1)) (settled_commit laws book k qs now c cs content kept out what home owned (the_files.file_at k.server.tree c.file) refl)
        is_wanted owned (wanted.Asked a) what = settled_asked laws book k qs now c cs a kept noted out what home owned
