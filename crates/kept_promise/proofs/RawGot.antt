-- The server takes a message of a session that is no client's: what such a step may leave, and what it leads to.
use Rattle.std.proofs.Common.{inl, inr, ◌≡◌, ℕ, ◌+◌, ◌<◌, ◌≤◌, List, [], ◌∷◌, ◌++◌, length, map, replicate, append-nil, Option, Some, None, Bool, true, false, refl, sym, ap, ◌∙◌, subst, arith, zero, suc, eq-eqb, ne_eqb, if◌then◌else◌}
use Rattle.std.specs.List.{AllByRecursion}
use Rattle.tree_reading.specs.Tree.{contents_size}
use Rattle.chunk_index.specs.Index.{Indexed}
use Rattle.chunk_calls.specs.Files as the_files
use Rattle.callback_core.specs.declared.back_calls.Asked.{Asked}
use Rattle.server_core.specs.State as server
use Rattle.server_core.specs.Recalling.{recall_sent, comes, recalls_for}
use Rattle.server_core.specs.declared.event.ServerStep.{ServerStep}
use Rattle.server_core.specs.declared.event.Sent.{Sent}
use Rattle.register_model.specs.declared.raw.Raw.{Raw}
use Rattle.register_model.specs.declared.raw.RawKind.TheVariants as raw
use Rattle.path_calls.specs.declared.walk.Goal.TheVariants as goal
use Rattle.trace_ends.specs.Core.{raw_in, changed_entry, changed_file, newest_entries, is_of_file, server_got, came_with, raws_with, content_in}
use Rattle.trace_ends.specs.Session.{taken_with}
use Rattle.kept_promise.proofs.Common.{slice_get, cond, find, stands, not, Message, Temp, with_temp, without_temp, temp_at, key_of, FileChange, Entry, Op, Core, CoreStep, Session, numbered, with_numbered, Book, Queue, Tree, Leasing, has_waiting, is_raw, pointed_at, got_if, File, at, sha1, version_at}
use Rattle.kept_promise.proofs.Lists.{some_is, nothing_there, same_or_not, of_appended, true_and_false}
use Rattle.kept_promise.proofs.Keys.{own}
use Rattle.kept_promise.proofs.Rights.{IsSound, WasThere}
use Rattle.kept_promise.proofs.Growth.{Grows, there_later}
use Rattle.kept_promise.proofs.History.{onward, entered, grows_same, goes_same, still_same, grows_named, goes_named, AreNames, still_named, stranger_book, goes_stranger}
use Rattle.kept_promise.proofs.Takes.{file_still, fresh_still}
use Rattle.kept_promise.proofs.Shelf.{IsShelf, shelf_put, shelf_out, other_put, other_out}
use Rattle.kept_promise.proofs.Shelves.{of_inserted, of_removed, keys_tell}
use Rattle.kept_promise.proofs.Ordered.{SameFound}
use Rattle.kept_promise.proofs.ServesFiles.{newest_more}
use Rattle.kept_promise.proofs.Turns.{also_numbered, around_with, came_on}
use Rattle.kept_promise.proofs.Facts.{FileIs, IsServer, IsRawSession, IsKept, IsWanted, IsLeasing}
use Rattle.kept_promise.proofs.Leading.{Leads, IsFit, IsStray}
use Rattle.kept_promise.proofs.Waitings.{own_here, own_there}
use Rattle.kept_promise.proofs.Strangers.{raw_step, leads_raw, stranger_own, stranger_files, stranger_fresh}
use Rattle.tree_nodes.specs.Nodes.{with_id}
use Rattle.tree_reading.specs.Plans.{made_entry}
use Rattle.server_core.specs.Closing.{entry_by}
use Rattle.server_law.proofs.lemmas.Trees.{IsBounded, given}
use Rattle.kept_promise.proofs.Unused.{IsUnused, unused_created, created_used}
use Rattle.kept_promise.proofs.Rooted.{IsRooted}
use Rattle.kept_promise.proofs.Makings.{AfterAt}
use Rattle.kept_promise.proofs.MakingTrees.{none_after, positive, file_made, next_big, next_small, next_none}
use Rattle.kept_promise.proofs.Messages.{content_wanted}
use Rattle.kept_promise.proofs.Recallings.{recalls_asked, recalls_small}
use Rattle.kept_promise.proofs.RecallsKept.{asks_recalls}

-- ---- of what the server has of sessions its own alone may change

pub record TempsOf (n : ℕ) (was now : List (ℕ × Temp)) : Type 0 where
  pub shelf : IsShelf now
  pub others : (o i p : ℕ) (e : ℕ × Temp) → (o ≡ n → ⊥) → p < 4294967296 → slice_get now i ≡ Some e → e.0 ≡ key_of o p → (j : ℕ) × (slice_get was j ≡ Some e)
  pub found : (o : ℕ) → (o ≡ n → ⊥) → SameFound was now o

pub temps_same : (n : ℕ) (temps : List (ℕ × Temp)) → IsShelf temps → TempsOf n temps temps
temps_same n temps shelf = record { shelf = shelf; others = λ o i p e apart lt at key. (i, at); found = λ o apart p lt. refl }

pub temps_put : (n m : ℕ) (temps : List (ℕ × Temp)) (t : Temp) → m < 4294967296 → t.fd < 4294967296 → key_of t.session t.fd ≡ key_of n m → IsShelf temps → TempsOf n temps (with_temp temps t)
temps_put n m temps t small number keyed shelf = record {
  shelf = shelf_put temps t number shelf;
  others = λ o i p e apart lt at key. elim (of_inserted temps (key_of t.session t.fd) t i e at) [
    | inl new ↦ absurd (apart (keys_tell o p n m lt small (sym key ∙ new.0 ∙ keyed)))
    | inr old ↦ old
  ];
  found = λ o apart p lt. other_put temps n m o p t small lt apart keyed;
}

pub temps_out : (n m : ℕ) (temps : List (ℕ × Temp)) → m < 4294967296 → IsShelf temps → TempsOf n temps (without_temp temps n m)
temps_out n m temps small shelf = record {
  shelf = shelf_out temps n m shelf;
  others = λ o i p e apart lt at key. of_removed _ temps i e at;
  found = λ o apart p lt. other_out temps n m o p small lt apart;
}

pub data WaitsOf (n : ℕ) (was now : List FileChange) : Type 0 where
  none_more : now ≡ was → WaitsOf n was now
  one_more : (c : FileChange) → c.session ≡ n → now ≡ was ++ c ∷ [] → own n was ≡ [] → WaitsOf n was now

-- ---- such a step

-- what is sent to the session itself, RECALLs apart
abbrev pub AreOwn : (n : ℕ) → List Sent → Type 0
AreOwn n = AllByRecursion (λ (s : Sent). s.session ≡ n)

pub record Got (book : Book) (k : Core) (n : ℕ) (r : server.State × ServerStep) : Type 0 where
  pub tree : Tree
  pub es : List Entry
  pub temps : List (ℕ × Temp)
  pub waiting : List FileChange
  pub index : Indexed
  pub leasing : Leasing
  pub is : r.0 ≡ record k.server { tree = tree; journal = k.server.journal ++ es; temps = temps; index = index; waiting = waiting; leasing = leasing }
  pub count : r.1.entries ≡ length es
  pub strays : List Sent
  pub own : AreOwn n strays
  pub recalls : List Asked
  pub fit : AllByRecursion IsFit recalls
  pub sent : r.1.send ≡ strays ++ map recall_sent recalls
  pub temps_of : TempsOf n k.server.temps temps
  pub waits : WaitsOf n k.server.waiting waiting
  pub made : List Raw
  pub noted : raw_in (k.steps + 1) (k.steps + 1) tree (changed_entry es) ≡ made
  pub more : Book
  pub moments : more.moments ≡ book.moments
  pub opening : more.opening ≡ book.opening
  pub steps : more.steps ≡ book.steps + 1
  pub ops : more.ops ≡ book.ops
  pub entries : more.entries ≡ book.entries ++ replicate (length es) (book.steps + 1)
  pub raws : more.raws ≡ book.raws ++ made
  pub journal : more.journal ≡ book.journal ++ es
  pub grows : Grows book more None None
  pub sound : IsSound more
  pub server_is : IsServer more (record k.server { tree = tree; journal = k.server.journal ++ es; temps = temps; index = index; waiting = waiting; leasing = leasing })

-- ---- what it leads to

none_own : (l : List FileChange) → length l ≤ 0 → l ≡ []
none_own [] e = refl
none_own (c ∷ l) e = absurd (omega (arith, e))

module _ (book : Book) (k : Core) (qs : List Queue) (n now : ℕ) (x : Session) (m : Message) (at : numbered k.sessions n ≡ Some x) (its : is_raw x ≡ true) (unhung : x.hung ≡ false) (kept : IsKept book k qs) (g : Got book k n (got_if k.server true n m now)) where
  abbrev r : server.State × ServerStep
  r = got_if k.server true n m now

  abbrev after : server.State
  after = record k.server { tree = g.tree; journal = k.server.journal ++ g.es; temps = g.temps; index = g.index; waiting = g.waiting; leasing = g.leasing }

  abbrev y : Session
  y = record x { taken = taken_with x.taken m (k.steps + 1) }

  abbrev sessions : List Session
  sessions = with_numbered k.sessions n y

  queue : (q : Queue) × (numbered qs n ≡ Some q)
  queue = also_numbered k.sessions qs n x kept.made.1 at

  h : IsRawSession k.server n x queue.0
  h = kept.strangers n x queue.0 at queue.1 its

  abbrev came : List ℕ
  came = came_with k.came (has_waiting k.server.waiting n) n (k.steps + 1)

  abbrev noted_in : server.State × ServerStep → List Raw
  noted_in p = raw_in (k.steps + 1) (k.steps + 1) p.0.tree (changed_entry (newest_entries p.0.journal p.1.entries))

  -- what it takes part by part
  abbrev parts : (standing : Bool) → Option ℕ → (its : Bool) → CoreStep
  parts standing closing b =
      let p = got_if k.server standing n m now in
      record (raw_step k p.0 sessions (k.entries ++ replicate p.1.entries (k.steps + 1)) came (raws_with k.raws b (k.steps + 1) (k.steps + 1) p.0.tree (changed_entry (newest_entries p.0.journal p.1.entries))) p.1.send) {
        core = record k { steps = k.steps + 1; server = p.0; sessions = sessions; ops = pointed_at k.ops closing (k.steps + 1) (changed_file (newest_entries p.0.journal p.1.entries)); entries = k.entries ++ replicate p.1.entries (k.steps + 1); came = came; raws = raws_with k.raws b (k.steps + 1) (k.steps + 1) p.0.tree (changed_entry (newest_entries p.0.journal p.1.entries)) };
      }

  none_pointed : (o : Option ℕ) → pointed_at k.ops None (k.steps + 1) o ≡ k.ops
  none_pointed None = refl
  none_pointed (Some f) = refl

  abbrev with_ops : List Op → CoreStep
  with_ops o = record (parts true None true) { core = record (parts true None true).core { ops = o } }

  step_is : server_got k n now x m ≡ raw_step k r.0 sessions (k.entries ++ replicate r.1.entries (k.steps + 1)) came (k.raws ++ noted_in r) r.1.send
  step_is =
      ap (λ (b : Bool). parts b x.closing (is_raw x)) (h.stands_is ∙ ap not unhung)
      ∙ ap (λ (o : Option ℕ). parts true o (is_raw x)) h.closing
      ∙ ap (parts true None) its
      ∙ ap with_ops (none_pointed (changed_file (newest_entries r.0.journal r.1.entries)))

  -- where its change came to wait it has no other
  single : (q : Queue) → numbered qs n ≡ Some q → length (own n g.waiting) ≤ 1
  single q is = by g.waits
    where
      one : length (own n k.server.waiting) ≤ 1
      one = (kept.strangers n x q at is its).single

      by : WaitsOf n k.server.waiting g.waiting → length (own n g.waiting) ≤ 1
      by (none_more same) = subst (λ (l : List FileChange). length (own n l) ≤ 1) (sym same) one
      by (one_more c here more none) = (let e = ap (λ (l : List FileChange). length (own n l)) more ∙ ap (λ (l : List FileChange). length l) (own_here n k.server.waiting c here ∙ ap (λ (l : List FileChange). l ++ c ∷ []) none) in omega (arith, e))

  others_wait : (o : ℕ) → (o ≡ n → ⊥) → own o g.waiting ≡ own o k.server.waiting
  others_wait o apart = by g.waits
    where
      by : WaitsOf n k.server.waiting g.waiting → own o g.waiting ≡ own o k.server.waiting
      by (none_more same) = ap (own o) same
      by (one_more c here more none) = ap (own o) more ∙ own_there o k.server.waiting c (λ e. apart (sym e ∙ here))

  still_there : (i : ℕ) (z : Session) → numbered k.sessions i ≡ Some z → (v : Session) × (numbered sessions i ≡ Some v) × (v.hung ≡ z.hung)
  still_there i z there = elim (same_or_not i n) [
    | inr apart ↦ (z, (around_with k.sessions n x y at).others i apart ∙ there, refl)
    | inl here ↦ (y, ap (numbered sessions) here ∙ (around_with k.sessions n x y at).there, ap (λ (v : Session). v.hung) (some_is x z (sym at ∙ ap (numbered k.sessions) (sym here) ∙ there)))
  ]

  home : (i : ℕ) (c : FileChange) → slice_get g.waiting i ≡ Some c → (z : Session) × (numbered sessions c.session ≡ Some z) × (z.hung ≡ false)
  home i c there = by g.waits
    where
      was : (j : ℕ) → slice_get k.server.waiting j ≡ Some c → (z : Session) × (numbered sessions c.session ≡ Some z) × (z.hung ≡ false)
      was j old = (let z = kept.home j c old in let v = still_there c.session z.0 z.1 in (v.0, v.1, v.2 ∙ z.2))

      by : WaitsOf n k.server.waiting g.waiting → (z : Session) × (numbered sessions c.session ≡ Some z) × (z.hung ≡ false)
      by (none_more same) = was i (ap (λ (l : List FileChange). slice_get l i) (sym same) ∙ there)
      by (one_more d here more none) = elim (of_appended k.server.waiting d i c (ap (λ (l : List FileChange). slice_get l i) (sym more) ∙ there)) [
        | inl new ↦ (y, ap (λ (z : FileChange). numbered sessions z.session) new.1 ∙ ap (numbered sessions) here ∙ (around_with k.sessions n x y at).there, unhung)
        | inr old ↦ was i old
      ]

  -- what is sent to itself nobody hears
  vanish : (ss : List Sent) → AreOwn n ss → AllByRecursion (IsStray sessions) ss
  vanish [] all = tt
  vanish (s ∷ ss) all = ((y, ap (numbered sessions) all.0 ∙ (around_with k.sessions n x y at).there, h.shut), vanish ss all.1)

  raws_is : k.raws ++ noted_in r ≡ k.raws ++ g.made
  raws_is =
      ap (λ (s : server.State). k.raws ++ raw_in (k.steps + 1) (k.steps + 1) s.tree (changed_entry (newest_entries s.journal r.1.entries))) g.is
      ∙ ap (λ (es : List Entry). k.raws ++ raw_in (k.steps + 1) (k.steps + 1) g.tree (changed_entry es)) (newest_more k.server.journal g.es r.1.entries g.count)
      ∙ ap (λ (l : List Raw). k.raws ++ l) g.noted

  all_is : server_got k n now x m ≡ raw_step k after sessions (k.entries ++ replicate (length g.es) (k.steps + 1)) came (k.raws ++ g.made) (g.strays ++ map recall_sent g.recalls)
  all_is =
      step_is
      ∙ ap (λ (l : List Raw). raw_step k r.0 sessions (k.entries ++ replicate r.1.entries (k.steps + 1)) came l r.1.send) raws_is
      ∙ ap (λ (s : server.State). raw_step k s sessions (k.entries ++ replicate r.1.entries (k.steps + 1)) came (k.raws ++ g.made) r.1.send) g.is
      ∙ ap (λ (c : ℕ). raw_step k after sessions (k.entries ++ replicate c (k.steps + 1)) came (k.raws ++ g.made) r.1.send) g.count
      ∙ ap (λ (d : List Sent). raw_step k after sessions (k.entries ++ replicate (length g.es) (k.steps + 1)) came (k.raws ++ g.made) d) g.sent

  pub got_leads : Leads book qs (server_got k n now x m)
  got_leads = subst (Leads book qs) (sym all_is)
      (leads_raw book g.more k qs after sessions n x y (k.entries ++ replicate (length g.es) (k.steps + 1)) came (k.raws ++ g.made) g.strays g.recalls kept (record {
        at = at;
        raw = its;
        around = around_with k.sessions n x y at;
        owner = refl;
        grows = g.grows;
        sound = g.sound;
        ops = g.ops;
        server = g.server_is;
        sessions_made = refl;
        view = λ o apart. record { stands_is = refl; waiting = others_wait o apart; temps = λ i p e lt there key. g.temps_of.others o i p e apart lt there key; found = g.temps_of.found o apart };
        session = λ q is. (let o = kept.strangers n x q at is its in record {
          shut = o.shut;
          closing = o.closing;
          ups = o.ups;
          downs = o.downs;
          stands_is = o.stands_is;
          temps = λ i p e lt there key. sym (g.temps_of.shelf.1 i e there).0;
          single = single q is;
        });
        shelf = g.temps_of.shelf;
        home = home;
      }) (g.journal ∙ ap (λ (l : List Entry). l ++ g.es) kept.journal) g.moments g.opening (g.steps ∙ ap (λ (z : ℕ). z + 1) kept.steps)
      (g.entries ∙ ap (λ (l : List ℕ). l ++ replicate (length g.es) (book.steps + 1)) kept.entries ∙ ap (λ (z : ℕ). k.entries ++ replicate (length g.es) (z + 1)) kept.steps)
      (g.raws ∙ ap (λ (l : List Raw). l ++ g.made) kept.raws) (came_on k.came (has_waiting k.server.waiting n) n (k.steps + 1)) (vanish g.strays g.own) g.fit)

-- ---- it changes no file

-- what is known of the server stays, whatever its temporary files, its index and its leases are then
pub server_same : (book : Book) (s : server.State) (journal : List Entry) (temps : List (ℕ × Temp)) (index : Indexed) (leasing : Leasing) → IsSound book → IsLeasing leasing → IsServer book s → IsServer (onward book 1 book.ops) (record s { journal = journal; temps = temps; index = index; leasing = leasing })
server_same book s journal temps index leasing sound term was =
    let more = onward book 1 book.ops in
    let grows = grows_same book 1 in
    let same = still_same book 1 sound in
    record {
      held = λ f. file_still book more None None f (the_files.file_at s.tree f) grows same (was.held f);
      fresh = λ f u. fresh_still book more None None s.tree grows same was.fresh f u;
      bounded = was.bounded;
      zero = was.zero;
      rooted = was.rooted;
      wants = was.wants;
      changes = was.changes;
      bytes = was.bytes;
      lengths = was.lengths;
      targets = λ i c f. there_later book more None None c.file grows (was.targets i c f);
      xids = was.xids;
      leases = term;
      serves = was.serves;
    }

-- it tells itself something, if anything
pub quietly_got : (book : Book) (k : Core) (qs : List Queue) (n : ℕ) (r : server.State × ServerStep) (temps : List (ℕ × Temp)) (index : Indexed) (leasing : Leasing) → IsKept book k qs → r.0 ≡ record k.server { temps = temps; index = index; leasing = leasing } → IsLeasing leasing → r.1.entries ≡ 0 → AreOwn n r.1.send → TempsOf n k.server.temps temps → Got book k n r
quietly_got book k qs n r temps index leasing kept is term none own_ temps_ =
    let goes_ = goes_same book 1 kept.sound in
    record {
      tree = k.server.tree;
      es = [];
      temps = temps;
      waiting = k.server.waiting;
      index = index;
      leasing = leasing;
      is = is ∙ ap (λ (l : List Entry). record k.server { journal = l; temps = temps; index = index; leasing = leasing }) (sym (append-nil k.server.journal));
      count = none;
      strays = r.1.send;
      own = own_;
      recalls = [];
      fit = tt;
      sent = sym (append-nil r.1.send);
      temps_of = temps_;
      waits = none_more refl;
      made = [];
      noted = refl;
      more = onward book 1 book.ops;
      moments = refl;
      opening = refl;
      steps = refl;
      ops = refl;
      entries = sym (append-nil book.entries);
      raws = sym (append-nil book.raws);
      journal = sym (append-nil book.journal);
      grows = goes_.grows;
      sound = goes_.sound;
      server_is = server_same book k.server (k.server.journal ++ []) temps index leasing kept.sound term kept.server;
    }

-- names alone change
changed_none : (es : List Entry) → AreNames es → changed_entry es ≡ None
changed_none [] names = refl
changed_none (e ∷ es) names = ap (λ (b : Bool). cond b (Some e) (find (λ (z : Entry). is_of_file z.kind) es)) (names 0 e refl) ∙ changed_none es (λ i d there. names (suc i) d there)

pub named_got : (book : Book) (k : Core) (qs : List Queue) (n : ℕ) (r : server.State × ServerStep) (tree : Tree) (es : List Entry) (leasing : Leasing) → IsKept book k qs → AreNames es → r.0 ≡ record k.server { tree = tree; journal = k.server.journal ++ es; leasing = leasing } → IsLeasing leasing → r.1.entries ≡ length es → AreOwn n r.1.send
    → ((f : ℕ) → the_files.file_at tree f ≡ the_files.file_at k.server.tree f) → ((f : ℕ) → IsUnused tree f → IsUnused k.server.tree f) → IsBounded tree → with_id tree.nodes 0 ≡ None → IsRooted tree.nodes → tree.changes + server.entries_held k.server.waiting ≤ 4294967295 → contents_size tree.nodes ≤ contents_size k.server.tree.nodes → Got book k n r
named_got book k qs n r tree es leasing kept names is term count own_ files unused bounded nought root room size =
    let goes_ = goes_named book es names kept.sound in
    let more = entered book book.ops es in
    let same = still_named book es kept.sound in
    let was = kept.server in
    let bytes = was.bytes in
    record {
      tree = tree;
      es = es;
      temps = k.server.temps;
      waiting = k.server.waiting;
      index = k.server.index;
      leasing = leasing;
      is = is;
      count = count;
      strays = r.1.send;
      own = own_;
      recalls = [];
      fit = tt;
      sent = sym (append-nil r.1.send);
      temps_of = temps_same n k.server.temps kept.shelf;
      waits = none_more refl;
      made = [];
      noted = ap (raw_in (k.steps + 1) (k.steps + 1) tree) (changed_none es names);
      more = more;
      moments = refl;
      opening = refl;
      steps = refl;
      ops = refl;
      entries = refl;
      raws = sym (append-nil book.raws);
      journal = refl;
      grows = goes_.grows;
      sound = goes_.sound;
      server_is = record {
        held = λ f. subst (FileIs more f) (sym (files f)) (file_still book more None None f (the_files.file_at k.server.tree f) goes_.grows same (was.held f));
        fresh = λ f u. fresh_still book more None None k.server.tree goes_.grows same was.fresh f (unused f u);
        bounded = bounded;
        zero = nought;
        rooted = root;
        wants = was.wants;
        changes = room;
        bytes = omega (arith, size, bytes);
        lengths = was.lengths;
        targets = λ i c f. there_later book more None None c.file goes_.grows (was.targets i c f);
        xids = was.xids;
        leases = term;
        serves = was.serves;
      };
    }

-- ---- a file is made

pub made_got : (book : Book) (k : Core) (qs : List Queue) (n dir : ℕ) (name : List ℕ) (r : server.State × ServerStep) (after : Tree) (leasing : Leasing) → IsKept book k qs → (let e = entry_by n (made_entry k.server.tree.next) in r.0 ≡ record k.server { tree = after; journal = k.server.journal ++ e ∷ []; leasing = leasing }) → IsLeasing leasing → r.1.entries ≡ 1 → AreOwn n r.1.send
    → AfterAt k.server.tree dir (goal.Make name) after → IsBounded after → IsRooted after.nodes → after.changes + server.entries_held k.server.waiting ≤ 4294967295 → contents_size after.nodes ≤ contents_size k.server.tree.nodes → Got book k n r
made_got book k qs n dir name r after leasing kept is term count own_ a bounded root room size =
    let t : Tree = k.server.tree in
    let was = kept.server in
    let e : Entry = entry_by n (made_entry t.next) in
    let now_is : k.steps + 1 ≡ book.steps + 1 = ap (λ (z : ℕ). z + 1) (sym kept.steps) in
    let big = next_big t dir name after a was.bounded was.zero in
    let fresh : version_at book t.next (book.steps + 1) ≡ 0 = was.fresh t.next (inl (omega arith)) in
    let raw_ : Raw = record { session = n; kind = raw.Make; file = t.next; begin = k.steps + 1; point = k.steps + 1; version = 1; len = 0; sha1 = sha1 []; value = [] } in
    let goes_ = goes_stranger book raw_ e [] (record {
      order = omega arith;
      now = now_is;
      kind_is = refl;
      file = refl;
      len = refl;
      digest = refl;
      version = sym (ap (λ (z : ℕ). z + 1) fresh);
      positive = big;
      fit = subst (FileIs book t.next) (next_none t (given t was.bounded)) (was.held t.next);
    }) (λ i d there. nothing_there d there) kept.sound in
    let more = stranger_book book raw_ (e ∷ []) in
    let left = stranger_own book raw_ (e ∷ []) now_is kept.sound in
    let own_file : the_files.file_at after t.next ≡ Some (record { id = t.next; version = 1; content = [] }) = file_made t dir name after (given t was.bounded) a t.next ∙ ap (λ (b : Bool). if b then Some (record { id = t.next; version = 1; content = [] }) else the_files.file_at t t.next) (eq-eqb t.next t.next refl) in
    let now_file : FileIs more t.next (Some (record { id = t.next; version = 1; content = [] })) = (refl, big, next_small t was.bounded, record { value = []; is = left.0; size = refl; same = inl refl }, left.1 ∙ ap (λ (z : ℕ). z + 1) fresh, omega arith) in
    let bytes = was.bytes in
    record {
      tree = after;
      es = e ∷ [];
      temps = k.server.temps;
      waiting = k.server.waiting;
      index = k.server.index;
      leasing = leasing;
      is = is;
      count = count;
      strays = r.1.send;
      own = own_;
      recalls = [];
      fit = tt;
      sent = sym (append-nil r.1.send);
      temps_of = temps_same n k.server.temps kept.shelf;
      waits = none_more refl;
      made = raw_ ∷ [];
      noted = ap (λ (o : Option File). record raw_ { value = content_in o } ∷ []) own_file;
      more = more;
      moments = refl;
      opening = refl;
      steps = refl;
      ops = refl;
      entries = refl;
      raws = refl;
      journal = refl;
      grows = goes_.grows;
      sound = goes_.sound;
      server_is = record {
        held = stranger_files book raw_ (e ∷ []) t after now_is kept.sound (subst (FileIs more t.next) (sym own_file) now_file) (λ f apart. file_made t dir name after (given t was.bounded) a f ∙ ap (λ (b : Bool). if b then Some (record { id = t.next; version = 1; content = [] }) else the_files.file_at t f) (ne_eqb t.next f apart)) was.held;
        fresh = λ f u. stranger_fresh book raw_ (e ∷ []) f now_is kept.sound (λ same. created_used t dir name after (given t was.bounded) a (subst (IsUnused after) (sym same) u)) (was.fresh f (unused_created t dir name after f (given t was.bounded) a u));
        bounded = bounded;
        zero = none_after t dir (goal.Make name) after 0 (given t was.bounded) a (positive t dir (goal.Make name) after a was.bounded) was.zero;
        rooted = root;
        wants = was.wants;
        changes = room;
        bytes = omega (arith, size, bytes);
        lengths = was.lengths;
        targets = λ i c f. there_later book more None None c.file goes_.grows (was.targets i c f);
        xids = was.xids;
        leases = term;
        serves = was.serves;
      };
    }

-- ---- a change comes to wait

pub coming_got : (book : Book) (k : Core) (qs : List Queue) (n now : ℕ) (temps : List (ℕ × Temp)) (d : FileChange) → IsKept book k qs → TempsOf n k.server.temps temps → d.session ≡ n → own n k.server.waiting ≡ [] → IsWanted d.file d.what → k.server.tree.changes + server.entries_held (k.server.waiting ++ d ∷ []) ≤ 4294967295
    → contents_size k.server.tree.nodes + server.waiting_size (k.server.waiting ++ d ∷ []) ≤ 1073741824 → length (content_wanted d.what) ≤ 67108864 → WasThere book d.file → d.xid < 4294967296 → Got book k n (comes (record (at k.server now) { temps = temps }) d)
coming_got book k qs n now temps d kept temps_ here none wants changes bytes short known small =
    let goes_ = goes_same book 1 kept.sound in
    let s : server.State = record (at k.server now) { temps = temps } in
    let r = comes s d in
    let more = onward book 1 book.ops in
    let was = kept.server in
    let same = still_same book 1 kept.sound in
    record {
      tree = k.server.tree;
      es = [];
      temps = temps;
      waiting = k.server.waiting ++ d ∷ [];
      index = k.server.index;
      leasing = r.0.leasing;
      is = ap (λ (l : List Entry). record k.server { journal = l; temps = temps; waiting = k.server.waiting ++ d ∷ []; leasing = r.0.leasing }) (sym (append-nil k.server.journal));
      count = refl;
      strays = [];
      own = tt;
      recalls = recalls_asked s d;
      fit = recalls_small s d known.small;
      sent = refl;
      temps_of = temps_;
      waits = one_more d here refl none;
      made = [];
      noted = refl;
      more = more;
      moments = refl;
      opening = refl;
      steps = refl;
      ops = refl;
      entries = sym (append-nil book.entries);
      raws = sym (append-nil book.raws);
      journal = sym (append-nil book.journal);
      grows = goes_.grows;
      sound = goes_.sound;
      server_is = record {
        held = λ f. file_still book more None None f (the_files.file_at k.server.tree f) goes_.grows same (was.held f);
        fresh = λ f u. fresh_still book more None None k.server.tree goes_.grows same was.fresh f u;
        bounded = was.bounded;
        zero = was.zero;
        rooted = was.rooted;
        wants = λ i c there. elim (of_appended k.server.waiting d i c there) [ inl new ↦ subst (λ (z : FileChange). IsWanted z.file z.what) (sym new.1) wants | inr old ↦ was.wants i c old ];
        changes = changes;
        bytes = bytes;
        lengths = λ i c there. elim (of_appended k.server.waiting d i c there) [ inl new ↦ subst (λ (z : FileChange). length (content_wanted z.what) ≤ 67108864) (sym new.1) short | inr old ↦ was.lengths i c old ];
        targets = λ i c there. elim (of_appended k.server.waiting d i c there) [ inl new ↦ there_later book more None None c.file goes_.grows (subst (λ (z : FileChange). WasThere book z.file) (sym new.1) known) | inr old ↦ there_later book more None None c.file goes_.grows (was.targets i c old) ];
        xids = λ i c there. elim (of_appended k.server.waiting d i c there) [ inl new ↦ subst (λ (z : FileChange). z.xid < 4294967296) (sym new.1) small | inr old ↦ was.xids i c old ];
        leases = (was.leases.0, asks_recalls (recalls_for s d) k.server.leasing.calls was.leases.1);
        serves = was.serves;
      };
    }
