-- One line of a run: what stands before it stands behind it, with its moments among those that are past.
use Rattle.std.proofs.Common.{◌≡◌, ℕ, zero, suc, ◌+◌, ◌<◌, ◌≤◌, List, [], ◌∷◌, ◌++◌, length, Some, Bool, true, false, refl, sym, ap, ◌∙◌, subst, arith, append-nil, map, replicate, Option, None}
use Rattle.trace_replay.specs.declared.stage.Stage.{Stage}
use Rattle.trace_replay.specs.declared.stage.Stage.TheVariants as stage
use Rattle.trace_replay.specs.declared.turn.Turn.TheVariants as turn
use Rattle.trace_replay.specs.Run.{with_file, with_directory, with_clients, with_version, with_leases, with_drift, in_header}
use Rattle.server_core.specs.State.{with_term}
use Rattle.kept_promise.proofs.Statements.{IsSpoken}
use Rattle.kept_promise.proofs.Common.{nat_tests, nat_lt, ◌&&◌, content_bytes, Part, content_size, Turn, Queue, queue_of, Core, new_seat, Session, Event.Joins, Event.Does, Event.Settles, Event.Cuts, Event.Hangs, numbered, World, adjusts, Wire, up_length, down_length, at_events, count_of, turned, owners_of, Moment, turn_moments, Tree, can_open, is_raw, Event.RawJoins, unless, with_numbered}
use Rattle.kept_promise.proofs.Lists.{nothing_there, count_more, some_is, all_unless}
use Rattle.trace_ends.specs.declared.adjusting.Adjustment.{Adjustment}
use Rattle.kept_promise.proofs.Rights.{AreAlike}
use Rattle.kept_promise.proofs.Adjusts.{adjusted_core, kept_adjusted, adjusts_is}
use Rattle.kept_promise.proofs.Facts.{IsKept}
use Rattle.kept_promise.proofs.Fits.{FitLaws}
use Rattle.kept_promise.proofs.Leading.{CarryAll, IsCarried}
use Rattle.kept_promise.proofs.Rounds.{AreRested, AreRestedBut, rests_put}
use Rattle.kept_promise.proofs.lemmas.Owners.{owners_after, MayTurn, turned_to}
use Rattle.kept_promise.proofs.RunsCarried.{KeptLaws, book_at, Header, first_core, CarriedMix, Stands}
use Rattle.kept_promise.proofs.Mixes.{AreMixes}
use Rattle.kept_promise.proofs.RunsFirst.{IsTree, tree_more, tree_wider, kept_first}
use Rattle.kept_promise.proofs.RunsEvents.{MixFact, event_stands}
use Rattle.kept_promise.proofs.RunsDeliveries.{up_stands, down_stands, passes_stand}
use Rattle.kept_promise.proofs.RunsLines.{is_early, Allows}
use Rattle.tree_nodes.specs.declared.node.Body.TheVariants.{Directory, File as Plain}
use Rattle.file_tree.specs.Opening.{opens}
use Rattle.tree_reading.specs.Tree.{contents_size}
use Rattle.server_core.specs.Step.{opens_with}
use Rattle.server_law.proofs.lemmas.Trees.{given}
use Rattle.kept_promise.proofs.TreeOpens.{opens_file, opens_directory}
use Rattle.kept_promise.proofs.RunsLines.{IsFree, MayOpen}
use Rattle.trace_replay.specs.World.{raw_put, raw_put_in}
use Rattle.kept_promise.proofs.Routes.{carry_with}
use Rattle.kept_promise.proofs.Turns.{also_numbered, with_same}
use Rattle.kept_promise.proofs.SentBytes.{AreBytes}

-- ---- before the first event

pub record IsFirst (n : ℕ) (w : World) (past : List Moment) : Type 0 where
  pub tree : Tree
  pub count : Header
  pub core_is : w.core ≡ first_core tree count
  -- the version, the term and the drift are told before the clients are counted
  pub bare : in_header w.stage ≡ true → count.count ≡ 0
  pub wires_is : w.wires ≡ []
  pub is_tree : IsTree w.opening tree
  -- the bytes of the files are counted
  pub size : w.size ≡ contents_size tree.nodes
  pub past_is : past ≡ []
  pub few : tree.next ≤ n + 1

-- what stands before the line of this number
pub record Before (P : MixFact) (n : ℕ) (all past : List Moment) (w : World) : Type 0 where
  pub stands : Stands P all past w
  pub few : length w.core.sessions < n
  pub first : is_early w.stage ≡ true → IsFirst n w past

carry_none : (sessions : List Session) (wires : List Wire) → wires ≡ [] → CarryAll sessions wires []
carry_none sessions wires e = subst (λ (ws : List Wire). CarryAll sessions ws []) (sym e) (refl, λ n x q m at f g. by n q f)
  where
    by : {A : Type 0} (n : ℕ) (q : Wire) → numbered [] n ≡ Some q → A
    by zero q f = nothing_there q f
    by (suc k) q f = nothing_there q f

rested_none : (w : World) (tree : Tree) (count : Header) → w.core ≡ first_core tree count → w.wires ≡ [] → AreRested w
rested_none w tree count core_is wires_is = record {
  count = ap length wires_is ∙ ap (λ (k : Core). length k.sessions) (sym core_is);
  each = λ n q at. none_at n q (ap (λ (ws : List Wire). numbered ws n) (sym wires_is) ∙ at);
}
  where
    none_at : {A : Type 0} (n : ℕ) (q : Wire) → numbered [] n ≡ Some q → A
    none_at zero q f = nothing_there q f
    none_at (suc k) q f = nothing_there q f

-- nothing is on its way
none_fit : (sessions : List Session) → AreMixes sessions []
none_fit sessions zero x m at on = nothing_there m on
none_fit sessions (suc n) x m at on = nothing_there m on

-- of no moment
none_alike : AreAlike []
none_alike f g h a b e = let lt = a.there.1 in absurd (omega (arith, lt))

pub first_stands : (P : MixFact) → CarriedMix P → (n : ℕ) (all past : List Moment) (w : World) → AreAlike all → IsFirst n w past → Stands P all past w
first_stands P carried n all past w alike f =
    let kept = kept_first w.opening f.tree f.count all alike f.is_tree in
    let early = kept_first w.opening f.tree f.count past (subst AreAlike (sym f.past_is) none_alike) f.is_tree in
    record {
      mixes = [];
      fit = none_fit w.core.sessions;
      kept = subst (λ (k : Core). IsKept (book_at w.opening k all) k []) (sym f.core_is) kept;
      early = subst (λ (k : Core). IsKept (book_at w.opening k past) k []) (sym f.core_is) early;
      carry = carry_none w.core.sessions w.wires f.wires_is;
      rested = rested_none w f.tree f.count f.core_is f.wires_is;
      more = subst (λ (k : Core). P all past w.opening k []) (sym f.core_is) (subst (λ (z : List Moment). P all z w.opening (first_core f.tree f.count) []) (sym f.past_is) (carried.first all w.opening f.tree f.count kept));
    }

-- ---- the sessions

map_count : {A B : Type 0} (f : A → B) (xs : List A) → length (map f xs) ≡ length xs
map_count f [] = refl
map_count f (x ∷ xs) = ap suc (map_count f xs)

owners_count : (os : List ℕ) (t : Turn) → length (owners_after os true t) ≤ length os + 1
owners_count os (turn.Join c) = let e = count_more os c in omega (arith, e)
owners_count os turn.RawJoin = let e = count_more os 0 in omega (arith, e)
owners_count os _ = omega arith

few_turned : (n : ℕ) (w : World) (t : Turn) → MayTurn w t → length w.core.sessions < n → length (turned w t).core.sessions < n + 1
few_turned n w t may few =
    let a = map_count (λ (x : Session). x.owner) w.core.sessions in
    let b = map_count (λ (x : Session). x.owner) (turned w t).core.sessions in
    let c = ap length (turned_to w t may).owners in
    let d = owners_count (owners_of w) t in
    omega (arith, a, b, c, d, few)

made_small : (P : MixFact) (n : ℕ) (all past : List Moment) (w : World) → Before P n all past w → n ≤ 65536 → w.core.server.sessions_made < 4294967295
made_small P n all past w h le = let m = h.stands.kept.made.0 in let few = h.few in omega (arith, m, few, le)

both_true : (a b : Bool) → a ≡ true → b ≡ true → (a && b) ≡ true
both_true true true e f = refl
both_true true false e f = f
both_true false b e f = e

pub may_turn : (P : MixFact) (n : ℕ) (all past : List Moment) (w : World) (t : Turn) → Before P n all past w → n ≤ 65536 → Allows w t → MayTurn w t
may_turn P n all past w (turn.Join c) h le f =
    let made = made_small P n all past w h le in
    let room = f.3 in
    ((f.0, f.1), both_true (nat_lt (length w.core.server.sessions) 64) (nat_lt w.core.server.sessions_made 4294967295) (grind (arith, nat_tests, room)) (grind (arith, nat_tests, made)))
may_turn P n all past w turn.RawJoin h le f =
    let made = made_small P n all past w h le in
    both_true (nat_lt (length w.core.server.sessions) 64) (nat_lt w.core.server.sessions_made 4294967295) (grind (arith, nat_tests, f)) (grind (arith, nat_tests, made))
may_turn P n all past w _ h le f = tt

-- ---- lines before the first event

no_more : (past : List Moment) → past ++ [] ≡ past
no_more past = append-nil past

clients_first : (n m : ℕ) (w : World) (past : List Moment) → IsFirst n w past → IsFirst (n + 1) (with_clients w m) (past ++ [])
clients_first n m w past f = record {
  tree = f.tree;
  count = record f.count { count = m };
  core_is = ap (λ (k : Core). record k { seats = replicate m (new_seat k.drift k.lbfs) }) f.core_is;
  bare = λ header. absurd (files header);
  wires_is = f.wires_is;
  is_tree = f.is_tree;
  size = f.size;
  past_is = no_more past ∙ f.past_is;
  few = let e = f.few in omega (arith, e);
}
  where
    files : false ≡ true → ⊥
    files e = cc

term_first : (n m : ℕ) (w : World) (past : List Moment) → m < 4294967296 → w.stage ≡ stage.Term → IsFirst n w past → IsFirst (n + 1) (with_leases w m) (past ++ [])
term_first n m w past small at f = record {
  tree = f.tree;
  count = record f.count { term = m; term_fits = small };
  core_is = ap (λ (k : Core). record k { server = with_term k.server m }) f.core_is;
  bare = λ header. f.bare (ap in_header at);
  wires_is = f.wires_is;
  is_tree = f.is_tree;
  size = f.size;
  past_is = no_more past ∙ f.past_is;
  few = let e = f.few in omega (arith, e);
}

-- where there are no clients yet the drift is nobody's
bare_core : (tree : Tree) (h : Header) (m : ℕ) → h.count ≡ 0 → record (first_core tree h) { drift = m } ≡ first_core tree (record h { drift = m })
bare_core tree h m none =
    ap (λ (c : ℕ). record (first_core tree h) { drift = m; seats = replicate c (new_seat h.drift h.lbfs) }) none
    ∙ sym (ap (λ (c : ℕ). record (first_core tree h) { drift = m; seats = replicate c (new_seat m h.lbfs) }) none)

-- nor is the version
bare_version : (tree : Tree) (h : Header) (m : ℕ) (spoken : IsSpoken m) → h.count ≡ 0 → record (first_core tree h) { lbfs = m } ≡ first_core tree (record h { lbfs = m; lbfs_fits = spoken })
bare_version tree h m spoken none =
    ap (λ (c : ℕ). record (first_core tree h) { lbfs = m; seats = replicate c (new_seat h.drift h.lbfs) }) none
    ∙ sym (ap (λ (c : ℕ). record (first_core tree h) { lbfs = m; seats = replicate c (new_seat h.drift m) }) none)

version_first : (n m : ℕ) (w : World) (past : List Moment) → IsSpoken m → w.stage ≡ stage.Version → IsFirst n w past → IsFirst (n + 1) (with_version w m) (past ++ [])
version_first n m w past spoken at f = record {
  tree = f.tree;
  count = record f.count { lbfs = m; lbfs_fits = spoken };
  core_is = ap (λ (k : Core). record k { lbfs = m }) f.core_is ∙ bare_version f.tree f.count m spoken (f.bare (ap in_header at));
  bare = λ header. f.bare (ap in_header at);
  wires_is = f.wires_is;
  is_tree = f.is_tree;
  size = f.size;
  past_is = no_more past ∙ f.past_is;
  few = let e = f.few in omega (arith, e);
}

drift_first : (n m : ℕ) (w : World) (past : List Moment) → w.stage ≡ stage.Drift → IsFirst n w past → IsFirst (n + 1) (with_drift w m) (past ++ [])
drift_first n m w past at f = record {
  tree = f.tree;
  count = record f.count { drift = m };
  core_is = ap (λ (k : Core). record k { drift = m }) f.core_is ∙ bare_core f.tree f.count m (f.bare (ap in_header at));
  bare = λ header. f.bare (ap in_header at);
  wires_is = f.wires_is;
  is_tree = f.is_tree;
  size = f.size;
  past_is = no_more past ∙ f.past_is;
  few = let e = f.few in omega (arith, e);
}

file_first : (n : ℕ) (w : World) (dir : ℕ) (name : List ℕ) (content : List Part) (past : List Moment) → n ≤ 65536 → MayOpen w dir name content → IsFirst n w past → IsFirst (n + 1) (with_file w dir name (content_bytes content)) (past ++ [])
file_first n w dir name content past le may f =
    let bytes = content_bytes content in
    let few = f.few in
    let e = content_size content in
    let long = may.1 in
    let much = may.2 in
    let size = f.size in
    let server_is : w.core.server.tree ≡ f.tree = ap (λ (k : Core). k.server.tree) f.core_is in
    let can : can_open f.tree dir name ≡ true = ap (λ (t : Tree). can_open t dir name) (sym server_is) ∙ may.0 in
    let more = opens_file f.tree dir name bytes (given f.tree f.is_tree.bounded) can in
    let counted = more.size in
    record {
      tree = opens f.tree dir name (Plain bytes);
      count = f.count;
      core_is = ap (λ (k : Core). record k { server = opens_with k.server dir name (Plain bytes) }) f.core_is;
      bare = f.bare;
      wires_is = f.wires_is;
      is_tree = subst (λ (i : ℕ). IsTree (w.opening ++ record { file = i; content = bytes } ∷ []) (opens f.tree dir name (Plain bytes))) (ap (λ (t : Tree). t.next) (sym server_is)) (tree_more w.opening f.tree dir name bytes can (omega (arith, few, le)) (omega (arith, e, long)) (omega (arith, e, much, size)) f.is_tree);
      size = omega (arith, counted, size);
      past_is = no_more past ∙ f.past_is;
      few = (let next = more.next in omega (arith, few, next));
    }

directory_first : (n : ℕ) (w : World) (dir : ℕ) (name : List ℕ) (past : List Moment) → n ≤ 65536 → IsFree w dir name → IsFirst n w past → IsFirst (n + 1) (with_directory w dir name) (past ++ [])
directory_first n w dir name past le may f =
    let few = f.few in
    let server_is : w.core.server.tree ≡ f.tree = ap (λ (k : Core). k.server.tree) f.core_is in
    let can : can_open f.tree dir name ≡ true = ap (λ (t : Tree). can_open t dir name) (sym server_is) ∙ may in
    let more = opens_directory f.tree dir name (given f.tree f.is_tree.bounded) can in
    record {
      tree = opens f.tree dir name Directory;
      count = f.count;
      core_is = ap (λ (k : Core). record k { server = opens_with k.server dir name Directory }) f.core_is;
      bare = f.bare;
      wires_is = f.wires_is;
      is_tree = tree_wider w.opening f.tree dir name can (omega (arith, few, le)) f.is_tree;
      size = f.size ∙ sym more.size;
      past_is = no_more past ∙ f.past_is;
      few = (let next = more.next in omega (arith, few, next));
    }

stage_first : (n : ℕ) (w : World) (s : Stage) (past : List Moment) → (in_header s ≡ true → in_header w.stage ≡ true) → IsFirst n w past → IsFirst (n + 1) (record w { stage = s }) (past ++ [])
stage_first n w s past header f = record { tree = f.tree; count = f.count; core_is = f.core_is; bare = λ e. f.bare (header e); wires_is = f.wires_is; is_tree = f.is_tree; size = f.size; past_is = no_more past ∙ f.past_is; few = let e = f.few in omega (arith, e) }

not_early : {A : Type 0} (s : Stage) → s ≡ stage.Events → is_early s ≡ true → A
not_early s e early = absurd (by (sym (ap is_early e) ∙ early))
  where
    by : false ≡ true → ⊥
    by h = cc

first_turned : (n : ℕ) (w : World) (t : Turn) (past : List Moment) → MayTurn w t → n ≤ 65536 → Allows w t → (is_early w.stage ≡ true → IsFirst n w past) → is_early (turned w t).stage ≡ true → IsFirst (n + 1) (turned w t) (past ++ turn_moments w t)
first_turned n w turn.Skip past may le f h early = stage_first n w w.stage past (λ e. e) (h early)
first_turned n w (turn.Version m) past may le f h early = version_first n m w past f.1 f.0 (h (ap is_early f.0))
first_turned n w (turn.Term m) past may le f h early = term_first n m w past f.1 f.0 (h (ap is_early f.0))
first_turned n w (turn.Drift m) past may le f h early = drift_first n m w past f (h (ap is_early f))
first_turned n w (turn.Clients m) past may le f h early = clients_first n m w past (h f)
first_turned n w (turn.Dir dir name) past may le f h early = directory_first n w dir name past le f.1 (h f.0)
first_turned n w (turn.File dir name content) past may le f h early = file_first n w dir name content past le f.1 (h f.0)
first_turned n w e past may le f h early = not_early (turned w e).stage (turned_to w e may).stage early

-- ---- any line

same_stands : (P : MixFact) (all past : List Moment) (w : World) (s : Stage) → Stands P all past w → Stands P all past (record w { stage = s })
same_stands P all past w s h = record { mixes = h.mixes; fit = h.fit; kept = h.kept; early = h.early; carry = h.carry; rested = h.rested; more = h.more }

idle_stands : (P : MixFact) (all past : List Moment) (w : World) → Stands P all past w → Stands P all (past ++ []) w
idle_stands P all past w h = subst (λ (z : List Moment). Stands P all z w) (sym (append-nil past)) h

-- an index or a cache is changed: no event, and nothing is sent
adjusted_stands : (P : MixFact) → CarriedMix P → (all past : List Moment) (w : World) (a : Adjustment) → Stands P all past w → Stands P all past (adjusts w a)
adjusted_stands P carried all past w a h =
    let qs : List Queue = map queue_of h.mixes in
    let b = adjusts_is (book_at w.opening w.core all) w.core qs a h.kept in
    let k : Core = adjusted_core w.core b.index b.seats in
    let kept : IsKept (book_at w.opening k all) k qs = kept_adjusted (book_at w.opening w.core all) w.core qs b.index b.seats b.same b.cached h.kept in
    let d = adjusts_is (book_at w.opening w.core past) w.core qs a h.early in
    let early = kept_adjusted (book_at w.opening w.core past) w.core qs d.index d.seats d.same d.cached h.early in
    record {
      mixes = h.mixes;
      fit = subst (λ (c : Core). AreMixes c.sessions h.mixes) (sym b.is) h.fit;
      kept = subst (λ (c : Core). IsKept (book_at w.opening c all) c qs) (sym b.is) kept;
      early = subst (λ (c : Core). IsKept (book_at w.opening c past) c qs) (sym d.is) early;
      carry = subst (λ (c : Core). CarryAll c.sessions w.wires h.mixes) (sym b.is) h.carry;
      rested = subst (λ (c : Core). AreRestedBut 0 c.sessions w.wires) (sym b.is) h.rested;
      more = subst (λ (c : Core). P all past w.opening c h.mixes) (sym b.is) (carried.adjusts all past w.opening w.core h.mixes b.index b.seats b.same h.more);
    }

-- a session that is no client's sends bytes: no event, and nothing is known of them
raw_stands : (P : MixFact) (all past : List Moment) (w : World) (n : ℕ) (bytes : List ℕ) (x : Session) → numbered w.core.sessions n ≡ Some x → is_raw x ≡ true → AreBytes bytes → Stands P all past w → Stands P all past (raw_put w n bytes)
raw_stands P all past w n bytes x at raw are h =
    let carry = subst (λ (o : Option Session). CarryAll w.core.sessions (raw_put_in w.wires n bytes o (numbered w.wires n)) h.mixes) (sym at) (by (numbered w.wires n) refl) in
    record { mixes = h.mixes; fit = h.fit; kept = h.kept; early = h.early; carry = carry; rested = rests_put w n bytes h.rested; more = h.more }
  where
    more : Wire → Wire
    more q = record q { up = unless x.hung q.up bytes }

    by : (o : Option Wire) → numbered w.wires n ≡ o → CarryAll w.core.sessions (raw_put_in w.wires n bytes (Some x) o) h.mixes
    by None f = h.carry
    by (Some q) f =
        let m = also_numbered w.wires h.mixes n q (sym h.carry.0) f in
        let was : IsCarried true q m.0 = subst (λ (b : Bool). IsCarried b q m.0) raw (h.carry.1 n x q m.0 at f m.1) in
        let set = carry_with w.core.sessions w.wires h.mixes n q (more q) m.0 m.0 h.carry f m.1 (λ y at_. subst (λ (b : Bool). IsCarried b (more q) m.0) (sym (ap is_raw (some_is y x (sym at_ ∙ at)) ∙ raw)) (was.0, all_unless (λ (b : ℕ). b < 256) x.hung q.up bytes was.1 are, was.2)) in
        subst (CarryAll w.core.sessions (with_numbered w.wires n (more q))) (with_same h.mixes n m.0 m.1) set

stands_turned : (P : MixFact) → KeptLaws → FitLaws → CarriedMix P → (n : ℕ) (all past rest : List Moment) (w : World) (t : Turn) → n ≤ 65536 → Allows w t → Before P n all past w → all ≡ past ++ (turn_moments w t ++ rest) → Stands P all (past ++ turn_moments w t) (turned w t)
stands_turned P l fits carried n all past rest w turn.Skip le f h split = idle_stands P all past w h.stands
stands_turned P l fits carried n all past rest w (turn.Version m) le f h split = first_stands P carried (n + 1) all (past ++ []) (with_version w m) h.stands.kept.sound.alike (version_first n m w past f.1 f.0 (h.first (ap is_early f.0)))
stands_turned P l fits carried n all past rest w (turn.Term m) le f h split = first_stands P carried (n + 1) all (past ++ []) (with_leases w m) h.stands.kept.sound.alike (term_first n m w past f.1 f.0 (h.first (ap is_early f.0)))
stands_turned P l fits carried n all past rest w (turn.Drift m) le f h split = first_stands P carried (n + 1) all (past ++ []) (with_drift w m) h.stands.kept.sound.alike (drift_first n m w past f (h.first (ap is_early f)))
stands_turned P l fits carried n all past rest w (turn.Clients m) le f h split = first_stands P carried (n + 1) all (past ++ []) (with_clients w m) h.stands.kept.sound.alike (clients_first n m w past (h.first f))
stands_turned P l fits carried n all past rest w (turn.Dir dir name) le f h split = first_stands P carried (n + 1) all (past ++ []) (with_directory w dir name) h.stands.kept.sound.alike (directory_first n w dir name past le f.1 (h.first f.0))
stands_turned P l fits carried n all past rest w (turn.File dir name content) le f h split = first_stands P carried (n + 1) all (past ++ []) (with_file w dir name (content_bytes content)) h.stands.kept.sound.alike (file_first n w dir name content past le f.1 (h.first f.0))
stands_turned P l fits carried n all past rest w (turn.Join c) le f h split =
    event_stands P l carried all past rest (at_events w) (Joins c) (same_stands P all past w stage.Events h.stands) split ((f.0, f.1, f.2, made_small P n all past w h le, f.3, refl), refl)
stands_turned P l fits carried n all past rest w (turn.Do c now d) le f h split = event_stands P l carried all past rest (at_events w) (Does c now d) (same_stands P all past w stage.Events h.stands) split ((f.0, f.1, f.2, refl), refl)
stands_turned P l fits carried n all past rest w (turn.Settle now) le f h split = event_stands P l carried all past rest (at_events w) (Settles now) (same_stands P all past w stage.Events h.stands) split (refl, refl)
stands_turned P l fits carried n all past rest w (turn.Cut c) le f h split = event_stands P l carried all past rest (at_events w) (Cuts c) (same_stands P all past w stage.Events h.stands) split ((f.0, f.1, refl), refl)
stands_turned P l fits carried n all past rest w (turn.Hang m) le f h split = event_stands P l carried all past rest (at_events w) (Hangs m) (same_stands P all past w stage.Events h.stands) split ((f.0, f.1, refl), refl)
stands_turned P l fits carried n all past rest w turn.RawJoin le f h split = event_stands P l carried all past rest (at_events w) RawJoins (same_stands P all past w stage.Events h.stands) split ((made_small P n all past w h le, f, refl), refl)
stands_turned P l fits carried n all past rest w (turn.Raw m bytes) le f h split = idle_stands P all past (raw_put (at_events w) m bytes) (raw_stands P all past (at_events w) m bytes f.0 f.1 f.2 f.3 (same_stands P all past w stage.Events h.stands))
stands_turned P l fits carried n all past rest w (turn.Up m a now) le f h split = up_stands P l fits carried all past rest (at_events w) m (count_of a (up_length (numbered w.wires m))) now split (same_stands P all past w stage.Events h.stands)
stands_turned P l fits carried n all past rest w (turn.Down m a now) le f h split = down_stands P l carried all past rest (at_events w) m (count_of a (down_length (numbered w.wires m))) now split (same_stands P all past w stage.Events h.stands)
stands_turned P l fits carried n all past rest w (turn.Pass m k server at) le f h split = passes_stand P l fits carried k all past rest (at_events w) m server at split (same_stands P all past w stage.Events h.stands)
stands_turned P l fits carried n all past rest w (turn.Adjust a) le f h split = idle_stands P all past (adjusts (at_events w) a) (adjusted_stands P carried all past (at_events w) a (same_stands P all past w stage.Events h.stands))

pub before_next : (P : MixFact) → KeptLaws → FitLaws → CarriedMix P → (n : ℕ) (all past rest : List Moment) (w : World) (t : Turn) → n ≤ 65536 → Allows w t → Before P n all past w → all ≡ past ++ (turn_moments w t ++ rest) → Before P (n + 1) all (past ++ turn_moments w t) (turned w t)
before_next P l fits carried n all past rest w t le f h split =
    let may = may_turn P n all past w t h le f in
    record {
      stands = stands_turned P l fits carried n all past rest w t le f h split;
      few = few_turned n w t may h.few;
      first = first_turned n w t past may le f h.first;
    }
