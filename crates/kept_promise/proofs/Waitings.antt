-- A change comes to wait at the server: the frame of all such.
use Rattle.std.proofs.Common.{inl, inr, ◌≡◌, ℕ, ◌+◌, ◌<◌, ◌≤◌, List, [], ◌∷◌, ◌++◌, length, Some, None, Bool, true, false, refl, sym, ap, ◌∙◌, subst, arith, eq-eqb, ne_eqb, map}
use Rattle.tree_reading.specs.Tree.{contents_size}
use Rattle.server_core.specs.State as server
use Rattle.chunk_calls.specs.Files as the_files
use Rattle.server_core.specs.Leasing.{recalled}
use Rattle.server_core.specs.Recalling.{recalls_for, comes}
use Rattle.client_state.specs.State as client
use Rattle.kept_promise.proofs.Common.{slice_get, cond, ◌==◌, at, Temp, FileChange, TakenCall, Core, Session, numbered, with_numbered, hashed_of, Book, Call, Call.Lease, Ask, Queue, Leasing, later}
use Rattle.kept_promise.proofs.Lists.{some_is, nothing_there, same_or_not, of_appended, count_more, false_and_true, all_map}
use Rattle.kept_promise.proofs.Keys.{times, times_append, own, on_way, change_key, ask_key, told_key}
use Rattle.kept_promise.proofs.Messages.{job, AllAsks, Rising, IsAsked, IsAnswer, IsCommit, IsPiece, WaitsFor, TempUnder, content_wanted}
use Rattle.kept_promise.proofs.Growth.{there_later}
use Rattle.kept_promise.proofs.History.{onward, grows_same, goes_same, still_same}
use Rattle.kept_promise.proofs.Later.{waits_later, answer_later, has_fetch_later, commit_later, close_later, seat_later, Stays, Spares}
use Rattle.kept_promise.proofs.Taken.{zero_last, finds_more, under_more, answer_found, has_fetch_found, times_map_append}
use Rattle.kept_promise.proofs.Turns.{Around, around_same, around_with, turned_core, kept_turn}
use Rattle.kept_promise.proofs.Shelf.{IsShelf}
use Rattle.kept_promise.proofs.Orderly.{locals_of, HoldsTemp}
use Rattle.kept_promise.proofs.Ordered.{SameFound, orderly_taken}
use Rattle.kept_promise.proofs.Statements.{CallFits}
use Rattle.kept_promise.proofs.Facts.{IsLeasing, IsWanted, change_number, IsSession, IsKept, commits_in}
use Rattle.kept_promise.proofs.Takes.{took, file_still, fresh_still}
use Rattle.kept_promise.proofs.Calls.{Given, session_in, first_fits, rest_of, served}
use Rattle.kept_promise.proofs.Leading.{Leads}
use Rattle.kept_promise.proofs.Recallings.{recalls_asked, recalls_small, recalls_alone}
use Rattle.kept_promise.proofs.Rights.{WasThere}
use Rattle.kept_promise.proofs.RecallsKept.{asks_recalls}

pub own_more : (m : ℕ) (ws : List FileChange) (c : FileChange) → own m (ws ++ c ∷ []) ≡ own m ws ++ own m (c ∷ [])
own_more m [] c = refl
own_more m (w ∷ ws) c = by (w.session == m) (own_more m ws c)
  where
    by : (b : Bool) → own m (ws ++ c ∷ []) ≡ own m ws ++ own m (c ∷ []) → cond b (w ∷ own m (ws ++ c ∷ [])) (own m (ws ++ c ∷ [])) ≡ cond b (w ∷ own m ws) (own m ws) ++ own m (c ∷ [])
    by true e = ap (λ l. w ∷ l) e
    by false e = e

pub own_here : (m : ℕ) (ws : List FileChange) (c : FileChange) → c.session ≡ m → own m (ws ++ c ∷ []) ≡ own m ws ++ c ∷ []
own_here m ws c e = own_more m ws c ∙ ap (λ b. own m ws ++ cond b (c ∷ []) []) (eq-eqb c.session m e)

pub own_there : (m : ℕ) (ws : List FileChange) (c : FileChange) → (c.session ≡ m → ⊥) → own m (ws ++ c ∷ []) ≡ own m ws
own_there m ws c apart = own_more m ws c ∙ ap (λ b. own m ws ++ cond b (c ∷ []) []) (ne_eqb c.session m apart) ∙ nil (own m ws)
  where
    nil : (l : List FileChange) → l ++ [] ≡ l
    nil [] = refl
    nil (z ∷ l) = ap (λ t. z ∷ t) (nil l)

-- a pending change is where its call was
pub way_waits : (n y : ℕ) (w : List FileChange) (c : FileChange) (q : Queue) (a : Ask) (us : List Ask) → q.ups ≡ a ∷ us → c.session ≡ n → change_key c ≡ ask_key a → times y (on_way n (w ++ c ∷ []) (record q { ups = us })) ≡ times y (on_way n w q)
way_waits n y w c q a us e here same =
    let zero_ = ap (λ (l : List FileChange). times y (map ask_key us ++ (map change_key l ++ map told_key q.downs))) (own_here n w c here) in
    let one = times_append y (map ask_key us) (map change_key (own n w ++ c ∷ []) ++ map told_key q.downs) in
    let two = times_append y (map change_key (own n w ++ c ∷ [])) (map told_key q.downs) in
    let three = times_map_append change_key y (own n w) (c ∷ []) in
    let was = ap (λ (l : List Ask). times y (map ask_key l ++ (map change_key (own n w) ++ map told_key q.downs))) e in
    let four = times_append y (map ask_key (a ∷ us)) (map change_key (own n w) ++ map told_key q.downs) in
    let five = times_append y (map change_key (own n w)) (map told_key q.downs) in
    let six = times_append y (ask_key a ∷ []) (map ask_key us) in
    let seven : times y (change_key c ∷ []) ≡ times y (ask_key a ∷ []) = ap (λ k. times y (k ∷ [])) same in
    omega (arith, zero_, one, two, three, was, four, five, six, seven)

-- what one is to show
-- a call's number is small
call_xid : (lbfs xid : ℕ) (c : Call) → CallFits lbfs xid c → xid < 4294967296
call_xid lbfs xid (Lease f) h = h.0
call_xid lbfs xid _ h = h.0

pub record ComesToWait (book : Book) (k : Core) (n : ℕ) (x : Session) (q : Queue) (a : Ask) (us : List Ask) (temps : List (ℕ × Temp)) (d : FileChange) (h : IsSession book k.seats k.server n x q) : Type 0 where
  pub session_is : d.session ≡ n
  pub xid_is : d.xid ≡ a.xid
  pub key_is : change_key d ≡ ask_key a
  pub number : change_number a.call ≡ 1
  pub were : (i : ℕ) (e : ℕ × Temp) → slice_get temps i ≡ Some e → (j : ℕ) × (slice_get k.server.temps j ≡ Some e)
  pub wants : IsWanted d.file d.what
  pub changes : k.server.tree.changes + server.entries_held (k.server.waiting ++ d ∷ []) ≤ 4294967295
  pub bytes : contents_size k.server.tree.nodes + server.waiting_size (k.server.waiting ++ d ∷ []) ≤ 1073741824
  pub length_is : length (content_wanted d.what) ≤ 67108864
  pub known : WasThere book d.file
  pub shelf : IsShelf temps
  pub found : (o : ℕ) → (o ≡ n → ⊥) → SameFound k.server.temps temps o
  pub held : x.cut ≡ false → HoldsTemp temps n us q.downs (locals_of h.seat.client) (job h.seat)
  pub waits : WaitsFor (onward book 1 book.ops) d.session x.closing x.cut (job h.seat) d.xid d.file d.what

kept_coming : (book : Book) (k : Core) (qs : List Queue) (n now : ℕ) (leasing : Leasing) (x : Session) (q : Queue) (a : Ask) (us : List Ask) (temps : List (ℕ × Temp)) (d : FileChange) (sessions : List Session) (after : List Queue) → (g : Given book k qs n now x q a us) → IsLeasing leasing → ComesToWait book k n x q a us temps d (session_in book k qs n now x q a us g)
    → Around k.sessions sessions n (took x a.xid (book.steps + 1)) → Around qs after n (record q { ups = us })
    → IsKept (onward book 1 book.ops) (turned_core k (onward book 1 book.ops) (record k.server { leasing = leasing; temps = temps; waiting = k.server.waiting ++ d ∷ [] }) k.seats sessions) after
kept_coming book k qs n now leasing x q a us temps d sessions after g leases comes around queues =
    let kept = g.kept in
    let h = session_in book k qs n now x q a us g in
    let more = onward book 1 book.ops in
    let grows = grows_same book 1 in
    let c = h.seat in
    let y = took x a.xid (book.steps + 1) in
    let waiting : List FileChange = k.server.waiting ++ d ∷ [] in
    let r : server.State = record k.server { leasing = leasing; temps = temps; waiting = waiting } in
    let spares : Spares x.closing None = λ p u v. nothing_there p v in
    kept_turn book more k qs r k.seats sessions after n x y (record q { ups = us }) c c None None (record {
      at = g.at;
      was = h.owner;
      session_around = around;
      queue_around = queues;
      seat_around = around_same k.seats x.owner c h.owner;
      owner = refl;
      goes = goes_same book 1 kept.sound;
      server = record {
        held = λ i. file_still book more None None i (the_files.file_at k.server.tree i) grows (still_same book 1 kept.sound) (kept.server.held i);
        fresh = fresh_still book more None None k.server.tree grows (still_same book 1 kept.sound) kept.server.fresh;
        bounded = kept.server.bounded;
        zero = kept.server.zero;
        rooted = kept.server.rooted;
        wants = λ i u at. elim (of_appended k.server.waiting d i u at) [
          | inl new ↦ subst (λ (z : FileChange). IsWanted z.file z.what) (sym new.1) comes.wants
          | inr old ↦ kept.server.wants i u old
        ];
        changes = comes.changes;
        bytes = comes.bytes;
        lengths = λ i u at. elim (of_appended k.server.waiting d i u at) [
          | inl new ↦ subst (λ (z : FileChange). length (content_wanted z.what) ≤ 67108864) (sym new.1) comes.length_is
          | inr old ↦ kept.server.lengths i u old
        ];
        targets = λ i u at. elim (of_appended k.server.waiting d i u at) [
          | inl new ↦ there_later book more None None u.file grows (subst (λ (z : FileChange). WasThere book z.file) (sym new.1) comes.known)
          | inr old ↦ there_later book more None None u.file grows (kept.server.targets i u old)
        ];
        xids = λ i u at. elim (of_appended k.server.waiting d i u at) [
          | inl new ↦ subst (λ (z : FileChange). z.xid < 4294967296) (sym new.1) (subst (λ (z : ℕ). z < 4294967296) (sym comes.xid_is) (call_xid a.lbfs a.xid a.call (first_fits book k qs n now x q a us g)))
          | inr old ↦ kept.server.xids i u old
        ];
        leases = leases;
        serves = kept.server.serves;
      };
      sessions_made = refl;
      view = λ o apart. record { stands_is = refl; waiting = own_there o k.server.waiting d (λ e. apart (sym e ∙ comes.session_is)); temps = λ i p u lt at q. comes.were i u at; found = comes.found o apart };
      elsewhere = inl refl;
      closing = λ p u. inl u;
      made_here = λ p u. nothing_there p u;
      ended_here = λ p o u. nothing_there p u;
      session = record {
        seat = c;
        owner = h.owner;
        here = h.here;
        shut = h.shut;
        lost = λ hung. absurd (false_and_true x.hung g.unhung hung);
        stands_is = h.stands_is;
        ups_fit = (subst (AllAsks (λ b. CallFits b.lbfs b.xid b.call)) g.first h.ups_fit).1;
        ups_speak = (subst (AllAsks (λ b. b.lbfs ≡ book.lbfs)) g.first h.ups_speak).1;
        downs_fit = h.downs_fit;
        talk = λ uncut.
            let talk = h.talk uncut in
            let z : TakenCall = record { xid = a.xid; step = book.steps + 1 } in
            let finds = finds_more x.taken z in
            let rising = subst (λ (l : List Ask). Rising talk.floor l c.client.next_xid) g.first talk.rising in
            record {
              floor = a.xid + 1;
              under = under_more talk.floor x.taken z talk.under rising.0;
              rising = rising.1;
              numbered = (omega arith, zero_last x.taken z talk.numbered.1 (let some = talk.numbered.0 in let le = rising.0 in omega (arith, some, le)));
              asked = (subst (AllAsks (IsAsked (job c))) g.first talk.asked).1;
              answers = all_map (IsAnswer book x.taken x.closing (job c)) (IsAnswer more (x.taken ++ z ∷ []) x.closing (job c)) (λ u w. answer_found more x.taken (x.taken ++ z ∷ []) x.closing (job c) u finds (answer_later book more None None x.taken x.closing (job c) u grows spares w)) q.downs talk.answers;
              fetch = has_fetch_found more x.taken (x.taken ++ z ∷ []) (job c) finds (has_fetch_later book more None None x.taken (job c) grows talk.fetch);
              balanced = record {
                most = λ v. let b = talk.balanced.most v in let w = way_waits n v k.server.waiting d q a us g.first comes.session_is comes.key_is in omega (arith, b, w);
                least = λ hung v. let b = talk.balanced.least hung v in let w = way_waits n v k.server.waiting d q a us g.first comes.session_is comes.key_is in omega (arith, b, w);
                once = talk.balanced.once;
                below = talk.balanced.below;
                ours = talk.balanced.ours;
              };
              busy = talk.busy;
            };
        contents = h.contents;
        lengths = h.lengths;
        commits = (subst (AllAsks (IsCommit more x.closing x.cut (job c) h.contents)) g.first (all_map (IsCommit book x.closing x.cut (job c) h.contents) (IsCommit more x.closing x.cut (job c) h.contents) (λ b w. commit_later book more None None x.closing x.cut (job c) (job c) h.contents b grows spares (λ u. refl) w) q.ups h.commits)).1;
        pieces = (subst (AllAsks (IsPiece (hashed_of book.moments) h.contents)) g.first h.pieces).1;
        temps = λ i o e lt is key. let w = comes.were i e is in h.temps w.0 o e lt w.1 key;
        temps_below = λ uncut. ((subst (AllAsks (λ b. TempUnder c.client.next_temp b.call)) g.first (h.temps_below uncut).0).1, λ i o e lt is key. let w = comes.were i e is in (h.temps_below uncut).1 w.0 o e lt w.1 key);
        closes = λ uncut j u. close_later book more None None x.closing h.contents c.client.next_temp j (client.local_bytes c.client.opened j.file) j.stage grows spares (h.closes uncut j u);
        pending = λ i u at. elim (of_appended (own n k.server.waiting) d i u (ap (λ (l : List FileChange). slice_get l i) (sym (own_here n k.server.waiting d comes.session_is)) ∙ at)) [
          | inl new ↦ subst (λ (z : FileChange). WaitsFor more z.session x.closing x.cut (job c) z.xid z.file z.what) (sym new.1) comes.waits
          | inr old ↦ waits_later book more None None x.closing x.cut (job c) (job c) u.session u.xid u.file u.what grows spares (λ z. refl) (h.pending i u old)
        ];
        single =
            let s = h.single in
            let e = ap commits_in g.first in
            let l = ap (λ (z : List FileChange). length z) (own_here n k.server.waiting d comes.session_is) in
            let w = count_more (own n k.server.waiting) d in
            let one = comes.number in
            omega (arith, s, e, l, w, one);
        old = λ p u. let o = h.old p u in let w = grows.each p o.0 o.1 in (w.0, w.1, w.2.client ∙ o.2);
        orderly = λ uncut. orderly_taken book more None None n k.server.temps temps x.hung q a us c grows g.first (comes.held uncut) (h.orderly uncut);
      };
      seat = seat_later book more None None k.sessions sessions x.owner c grows stays (λ p o u. nothing_there p u) (kept.seats x.owner c h.owner);
      running = kept.running;
      shelf = comes.shelf;
      home = λ i u at. elim (of_appended k.server.waiting d i u at) [
        | inl new ↦ (y, ap (λ (z : FileChange). numbered sessions z.session) new.1 ∙ ap (numbered sessions) comes.session_is ∙ around.there, g.unhung)
        | inr old ↦ let z = kept.home i u old in let v = later_session z.0 u.session z.1 in (v.0, v.1, v.4 ∙ z.2)
      ];
    }) kept.journal kept
  where
    later_session : (z : Session) (o : ℕ) → numbered k.sessions o ≡ Some z → (v : Session) × (numbered sessions o ≡ Some v) × (v.owner ≡ z.owner) × (v.cut ≡ z.cut) × (v.hung ≡ z.hung)
    later_session z o u = elim (same_or_not o n) [
      | inr apart ↦ (z, around.others o apart ∙ u, refl, refl, refl)
      | inl here ↦
          let same : x ≡ z = some_is x z (sym g.at ∙ ap (numbered k.sessions) (sym here) ∙ u) in
          (took x a.xid (book.steps + 1), ap (numbered sessions) here ∙ around.there, ap (λ (v : Session). v.owner) same, ap (λ (v : Session). v.cut) same, ap (λ (v : Session). v.hung) same)
    ]

    stays : Stays k.sessions sessions x.owner
    stays o z u = let v = later_session z o u in (v.0, v.1, v.2, λ mine. v.3)

pub leads_coming : (book : Book) (k : Core) (qs : List Queue) (n now : ℕ) (x : Session) (q : Queue) (a : Ask) (us : List Ask) (temps : List (ℕ × Temp)) (d : FileChange) → (g : Given book k qs n now x q a us) → ComesToWait book k n x q a us temps d (session_in book k qs n now x q a us g)
    → Leads book (rest_of qs n q us) (served k n x a.xid (comes (record (at k.server now) { temps = temps }) d))
leads_coming book k qs n now x q a us temps d g shows =
    let s : server.State = record (at k.server now) { temps = temps } in
    let leasing = recalled (later k.server.leasing now) (recalls_for s d) in
    let y = took x a.xid (book.steps + 1) in
    let z = took x a.xid (k.steps + 1) in
    let same_step : y ≡ z = ap (λ (s : ℕ). took x a.xid (s + 1)) g.kept.steps in
    let sessions = with_numbered k.sessions n z in
    let around = around_with k.sessions n x z g.at in
    let more = onward book 1 book.ops in
    let r : server.State = record k.server { leasing = leasing; temps = temps; waiting = k.server.waiting ++ d ∷ [] } in
    let done : IsKept more (turned_core k more r k.seats sessions) (rest_of qs n q us) = kept_coming book k qs n now leasing x q a us temps d sessions (rest_of qs n q us) g (g.kept.server.leases.0, asks_recalls (recalls_for s d) k.server.leasing.calls g.kept.server.leases.1) shows (record { there = around.there ∙ ap (λ v. Some v) (sym same_step); others = around.others; count = around.count }) (around_with qs n q (record q { ups = us }) g.is) in
    record {
      sends = record { replies = []; replies_fit = tt; asks = []; up_is = refl; strays = []; strays_cut = tt; recalls = recalls_asked s d; recalls_fit = recalls_small s d shows.known.small; tolds = []; down_is = recalls_alone (recalls_asked s d) };
      more = more;
      moments = refl;
      opening = refl;
      kept = subst (λ (c : Core). IsKept more c (rest_of qs n q us)) (ap (λ s. record k { server = r; seats = k.seats; sessions = sessions; steps = s + 1; ops = book.ops; entries = book.entries }) g.kept.steps ∙ ap (λ o. record k { server = r; seats = k.seats; sessions = sessions; steps = k.steps + 1; ops = o; entries = book.entries }) g.kept.ops ∙ ap (λ o. record k { server = r; seats = k.seats; sessions = sessions; steps = k.steps + 1; ops = k.ops; entries = o }) g.kept.entries) done;
    }
