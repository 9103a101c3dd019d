-- In one version a file has one content, at all moments of a run: the server changes a file's content only with its version, whatever it is asked.
use Rattle.std.proofs.Common.{◌⊎◌, inl, inr, ◌≡◌, ℕ, zero, suc, ◌+◌, List, [], ◌∷◌, ◌++◌, append-nil, append_assoc, Option, Some, None, Result, Ok, Err, Bool, true, false, refl, sym, ap, ◌∙◌, subst, arith, ◌≤◌, ◌<◌}
use Rattle.server_core.specs.State as server
use Rattle.chunk_calls.specs.Files as the_files
use Rattle.callback_core.specs.Waits.{without}
use Rattle.server_core.specs.Closing.{ready_by, settles_by}
use Rattle.server_core.specs.Recalling.{term_at}
use Rattle.server_core.specs.declared.change.Wanted.TheVariants as wanted
use Rattle.tree_calls.specs.Waiting.{gives_content, settles as tree_settles}
use Rattle.trace_replay.specs.declared.stage.Stage.{Stage as Part}
use Rattle.trace_replay.specs.declared.stage.Stage.TheVariants as part
use Rattle.trace_replay.specs.declared.turn.Turn.TheVariants as turn
use Rattle.cache_file.specs.Items.{items}
use Rattle.client_state.specs.Hints.{warms}
use Rattle.client_state.specs.State as client
use Rattle.trace_text.specs.declared.line.Who.TheVariants as who
use Rattle.trace_ends.specs.declared.adjusting.Adjustment.{Adjustment}
use Rattle.trace_ends.specs.declared.adjusting.Adjustment.TheVariants as adjustment
use Rattle.trace_ends.specs.Core.{adjusted, with_client}
use Rattle.kept_promise.proofs.Common.{Contains, Contains-push_cases, in_header, ended, run, run_from, content_bytes, stands, at, makes_change, lines_of, line_of, Line, LineFault, Turn, Event, Event.Joins, Event.Does, Event.Settles, Event.Cuts, Event.Hangs, File, FileChange, Core, Seat, Session, numbered, does, hears, joins, settles, cuts, hangs_if, hangs, happens, World, Wire, start, happened, all_happened, up_taken, up_events, up_at, up_length, up_all, down_taken, down_events, down_at, down_length, round, is_still, passes, asked, asked_by, at_events, count_of, turned, Moment, moments_of, up_moments_at, down_moments_at, round_moments, passes_moments, turn_moments, moments_from, moments, Wanted, Tree, step_of, Event.RawJoins}
use Rattle.kept_promise.proofs.Lists.{some_is}
use Rattle.kept_promise.proofs.Rights.{AreAlike}
use Rattle.server_law.proofs.lemmas.Trees.{IsGiven, IsSince, IsLater, later_join, Keeps, keeps_same, file_below}
use Rattle.server_law.proofs.lemmas.TreeCalls.{commits_keep, settles_keep}
use Rattle.tree_nodes.specs.declared.node.Body.TheVariants.{Directory, File as Plain}
use Rattle.kept_promise.proofs.TreeOpens.{opens_file, opens_directory, opens_counted}
use Rattle.kept_promise.proofs.CallsKeep.{got_tree, got_dirs}
use Rattle.kept_promise.proofs.TreeNames.{IsCounted, AreDirsLater, KeepsDirs, dirs_same, dirs_join}
use Rattle.kept_promise.proofs.TreeNameCalls.{commits_dirs, settles_dirs}
use Rattle.kept_promise.proofs.RunsResults.{moments_by, ran_by, no_world, ended_is}
use Rattle.kept_promise.proofs.RunsLines.{is_early, Allows, allowed, line_fits}
use Rattle.kept_promise.proofs.Happens.{what_happens}
use Rattle.trace_replay.specs.World.{raw_put}

-- ---- the tree, and what becomes of it

abbrev tree : Core → Tree
tree k = k.server.tree

-- a step gives no id twice, and changes contents with versions alone
abbrev Turns : Core → Core → Type 0
Turns k r = Keeps (tree k) (tree r)

settles_turn : (k : Core) (now : ℕ) → Turns k (settles k now).core
settles_turn k now = by (ready_by k.server now)
  where
    made : (s : server.State) (c : FileChange) (a : Wanted) → s.tree ≡ tree k → Keeps (tree k) (makes_change s c a).0.tree
    made s c (wanted.Content x) e = subst (λ (t : Tree). Keeps t (gives_content s.tree (server.held s.waiting) c.file x (term_at s c.file)).0) e (commits_keep s.tree (server.held s.waiting) c.file x (term_at s c.file))
    made s c (wanted.Asked a) e = subst (λ (t : Tree). Keeps t (tree_settles s.tree (server.held s.waiting) a).0) e (settles_keep s.tree (server.held s.waiting) a)

    by : (next : Option FileChange) → Keeps (tree k) (settles_by k.server false now next).0.tree
    by None = keeps_same (tree k)
    by (Some c) = made (at (record k.server { waiting = without k.server.waiting c.session }) now) c c.what refl

hangs_tree : (k : Core) (n : ℕ) (x : Session) → tree (hangs_if k n x false).core ≡ tree k
hangs_tree k n x = gone (stands k.server n)
  where
    gone : (b : Bool) → (Rattle.server_core.specs.Step.hangs_if k.server b n).0.tree ≡ tree k
    gone true = refl
    gone false = refl

happens_turn : (k : Core) (e : Event) → Turns k (happens k e).core
happens_turn k e = what_happens k e (λ t. Turns k t.core) (record {
  nothing = keeps_same (tree k);
  idle = keeps_same (tree k);
  joins = λ c seat is. keeps_same (tree k);
  refuses = λ c seat is. keeps_same (tree k);
  does = λ c now d seat is. keeps_same (tree k);
  takes = λ n now bytes x m is at unhung read. got_tree k.server n m now;
  hears = λ n now bytes owner seat is. keeps_same (tree k);
  settles = λ now is. settles_turn k now;
  cuts = λ c seat is. keeps_same (tree k);
  hangs = λ n x is at unhung. subst (Keeps (tree k)) (sym (hangs_tree k n x)) (keeps_same (tree k));
  closes = λ n now bytes x is at unhung. subst (Keeps (tree k)) (sym (hangs_tree k n x)) (keeps_same (tree k));
  raw_joins = λ is. keeps_same (tree k);
  raw_refuses = λ is. keeps_same (tree k);
})

-- ---- directories, and steps

-- a step leaves a directory's names with its version
happens_dirs : (k : Core) (e : Event) → KeepsDirs (tree k) (tree (happens k e).core)
happens_dirs k e = what_happens k e (λ t. KeepsDirs (tree k) (tree t.core)) (record {
  nothing = dirs_same (tree k);
  idle = dirs_same (tree k);
  joins = λ c seat is. dirs_same (tree k);
  refuses = λ c seat is. dirs_same (tree k);
  does = λ c now d seat is. dirs_same (tree k);
  takes = λ n now bytes x m is at unhung read. got_dirs k.server n m now;
  hears = λ n now bytes owner seat is. dirs_same (tree k);
  settles = λ now is. by now (ready_by k.server now);
  cuts = λ c seat is. dirs_same (tree k);
  hangs = λ n x is at unhung. subst (KeepsDirs (tree k)) (sym (hangs_tree k n x)) (dirs_same (tree k));
  closes = λ n now bytes x is at unhung. subst (KeepsDirs (tree k)) (sym (hangs_tree k n x)) (dirs_same (tree k));
  raw_joins = λ is. dirs_same (tree k);
  raw_refuses = λ is. dirs_same (tree k);
})
  where
    made : (s : server.State) (c : FileChange) (a : Wanted) → s.tree ≡ tree k → KeepsDirs (tree k) (makes_change s c a).0.tree
    made s c (wanted.Content x) e = subst (λ (t : Tree). KeepsDirs t (gives_content s.tree (server.held s.waiting) c.file x (term_at s c.file)).0) e (commits_dirs s.tree (server.held s.waiting) c.file x (term_at s c.file))
    made s c (wanted.Asked a) e = subst (λ (t : Tree). KeepsDirs t (tree_settles s.tree (server.held s.waiting) a).0) e (settles_dirs s.tree (server.held s.waiting) a)

    by : (now : ℕ) (next : Option FileChange) → KeepsDirs (tree k) (settles_by k.server false now next).0.tree
    by now None = dirs_same (tree k)
    by now (Some c) = made (at (record k.server { waiting = without k.server.waiting c.session }) now) c c.what refl

-- a step is made, or nothing happens
abbrev Passes : Core → Core → Type 0
Passes k r = (k.steps < r.steps) ⊎ (r ≡ k)

happens_passes : (k : Core) (e : Event) → Passes k (happens k e).core
happens_passes k e = what_happens k e (λ t. Passes k t.core) (record {
  nothing = inr refl;
  idle = inl (omega arith);
  joins = λ c seat is. inl (omega arith);
  refuses = λ c seat is. inl (omega arith);
  does = λ c now d seat is. inl (omega arith);
  takes = λ n now bytes x m is at unhung read. inl (omega arith);
  hears = λ n now bytes owner seat is. inl (omega arith);
  settles = λ now is. inl (omega arith);
  cuts = λ c seat is. inl (omega arith);
  hangs = λ n x is at unhung. inl (omega arith);
  closes = λ n now bytes x is at unhung. inl (omega arith);
  raw_joins = λ is. inl (omega arith);
  raw_refuses = λ is. inl (omega arith);
})

-- ---- the moments of a run so far

-- of two moments the tree of the later one has the directories as they were, or in later versions
abbrev pub AreInOrder : List Moment → Type 0
AreInOrder ms = (m e : Moment) → Contains ms m → Contains ms e → step_of e ≤ step_of m → IsGiven (tree e.before) × AreDirsLater (tree e.before) (tree m.before)

pub record Rises (past : List Moment) (w : World) : Type 0 where
  given : IsGiven (tree w.core)
  before : (m : Moment) → Contains past m → IsGiven (tree m.before)
  older : (m : Moment) → Contains past m → IsLater (tree m.before) (tree w.core)
  pub alike : AreAlike past
  counted : IsCounted (tree w.core)
  -- each moment is of a step that isn't behind, and what directories were then they are, or they have later versions
  steps : (m : Moment) → Contains past m → m.before.steps ≤ w.core.steps
  same : (m : Moment) → Contains past m → m.before.steps ≡ w.core.steps → tree m.before ≡ tree w.core
  later : (m : Moment) → Contains past m → AreDirsLater (tree m.before) (tree w.core)
  pub dirs : AreInOrder past
  early : is_early w.stage ≡ true → past ≡ []

abbrev Goes : List Moment → World → Type 0
Goes past w = Rises past w × (w.stage ≡ part.Events)

alike_by : (a b : Tree) (f : ℕ) (g h : File) → IsGiven a → IsLater a b → the_files.file_at a f ≡ Some g → the_files.file_at b f ≡ Some h → g.version ≡ h.version → g.content ≡ h.content
alike_by a b f g h known later at is same = by (subst (λ (o : Option File). IsSince o (Some h)) at (subst (IsSince (the_files.file_at a f)) is (later.files f (file_below a f g known at))))
  where
    by : IsSince (Some g) (Some h) → g.content ≡ h.content
    by (inl lt) = absurd (omega (arith, lt, same))
    by (inr e) = e.1

no_early : (s : Part) → s ≡ part.Events → is_early s ≡ true → ⊥
no_early s at early = absurd_events (sym (ap is_early at) ∙ early)
  where
    absurd_events : false ≡ true → ⊥
    absurd_events e = cc

rises_event : (past : List Moment) (w : World) (e : Event) → Goes past w → Goes (past ++ record { before = w.core; event = e } ∷ []) (happened w e)
rises_event past w e (h, at) = (
  record {
    given = turned_.0;
    before = λ m there. elim (Contains-push_cases past now m there) [
      | inl old ↦ h.before m old
      | inr new ↦ subst (λ (z : Moment). IsGiven (tree z.before)) new h.given
    ];
    older = λ m there. elim (Contains-push_cases past now m there) [
      | inl old ↦ later_join (tree m.before) (tree w.core) (tree (happens w.core e).core) (h.older m old) turned_.1
      | inr new ↦ subst (λ (z : Moment). IsLater (tree z.before) (tree (happens w.core e).core)) new turned_.1
    ];
    alike = λ f g d p q same. elim (Contains-push_cases past now p.at p.there) [
      | inl old ↦ elim (Contains-push_cases past now q.at q.there) [
        | inl also ↦ h.alike f g d (record { at = p.at; there = old; held = p.held }) (record { at = q.at; there = also; held = q.held }) same
        | inr new ↦ alike_by (tree p.at.before) (tree w.core) f g d (h.before p.at old) (h.older p.at old) p.held (ap (λ (z : Moment). the_files.file_at (tree z.before) f) new ∙ q.held) same
      ]
      | inr new ↦ elim (Contains-push_cases past now q.at q.there) [
        | inl also ↦ sym (alike_by (tree q.at.before) (tree w.core) f d g (h.before q.at also) (h.older q.at also) q.held (ap (λ (z : Moment). the_files.file_at (tree z.before) f) new ∙ p.held) (sym same))
        | inr both ↦ ap (λ (z : File). z.content) (some_is g d (sym p.held ∙ ap (λ (z : Moment). the_files.file_at (tree z.before) f) (sym new ∙ both) ∙ q.held))
      ]
    ];
    counted = dirs_.0;
    steps = λ m there. elim (Contains-push_cases past now m there) [
      | inl old ↦ (let a = h.steps m old in omega (arith, a, le))
      | inr new ↦ subst (λ (z : Moment). z.before.steps ≤ (happens w.core e).core.steps) new le
    ];
    same = λ m there is. elim (Contains-push_cases past now m there) [
      | inl old ↦ still passed m (h.steps m old) (h.same m old) is
      | inr new ↦ subst (λ (z : Moment). z.before.steps ≡ (happens w.core e).core.steps → tree z.before ≡ tree (happens w.core e).core) new (still passed now (omega arith) (λ z. refl)) is
    ];
    later = λ m there. elim (Contains-push_cases past now m there) [
      | inl old ↦ dirs_join (tree m.before) (tree w.core) (tree (happens w.core e).core) (h.older m old).next (h.later m old) dirs_.1
      | inr new ↦ subst (λ (z : Moment). AreDirsLater (tree z.before) (tree (happens w.core e).core)) new dirs_.1
    ];
    dirs = λ m d p q le_. elim (Contains-push_cases past now m p) [
      | inl old ↦ elim (Contains-push_cases past now d q) [
        | inl also ↦ h.dirs m d old also le_
        | inr new ↦ subst (λ (z : Moment). step_of z ≤ step_of m → IsGiven (tree z.before) × AreDirsLater (tree z.before) (tree m.before)) new (λ before_. (h.given, subst (AreDirsLater (tree w.core)) (sym (h.same m old (let a = h.steps m old in omega (arith, a, before_)))) (dirs_same (tree w.core) h.counted).1)) le_
      ]
      | inr new ↦ elim (Contains-push_cases past now d q) [
        | inl also ↦ (h.before d also, subst (λ (z : Moment). AreDirsLater (tree d.before) (tree z.before)) new (h.later d also))
        | inr both ↦ subst (λ (z : Moment). IsGiven (tree z.before) × AreDirsLater (tree z.before) (tree m.before)) both (h.given, subst (λ (z : Moment). AreDirsLater (tree w.core) (tree z.before)) new (dirs_same (tree w.core) h.counted).1)
      ]
    ];
    early = λ early. absurd (no_early w.stage at early);
  },
  at,
)
  where
    now : Moment
    now = record { before = w.core; event = e }

    dirs_ : IsCounted (tree (happens w.core e).core) × AreDirsLater (tree w.core) (tree (happens w.core e).core)
    dirs_ = happens_dirs w.core e h.counted

    passed : Passes w.core (happens w.core e).core
    passed = happens_passes w.core e

    le : w.core.steps ≤ (happens w.core e).core.steps
    le = elim passed [ inl lt ↦ (omega (arith, lt)) | inr same ↦ (let s = ap (λ (z : Core). z.steps) same in omega (arith, s)) ]

    still : Passes w.core (happens w.core e).core → (m : Moment) → m.before.steps ≤ w.core.steps → (m.before.steps ≡ w.core.steps → tree m.before ≡ tree w.core) → m.before.steps ≡ (happens w.core e).core.steps → tree m.before ≡ tree (happens w.core e).core
    still (inl lt) m a same is = absurd (omega (arith, lt, a, is))
    still (inr all) m a same is = same (is ∙ ap (λ (z : Core). z.steps) all) ∙ sym (ap tree all)

    turned_ : IsGiven (tree (happens w.core e).core) × IsLater (tree w.core) (tree (happens w.core e).core)
    turned_ = happens_turn w.core e h.given

rises_on : (past more : List Moment) (w : World) → past ≡ more → Goes past w → Goes more w
rises_on past more w e h = subst (λ (l : List Moment). Goes l w) e h

rises_all : (past : List Moment) (w : World) (es : List Event) → Goes past w → Goes (past ++ moments_of w es) (all_happened w es)
rises_all past w [] h = rises_on past (past ++ []) w (sym (append-nil past)) h
rises_all past w (e ∷ es) h =
    let m : Moment = record { before = w.core; event = e } in
    rises_on ((past ++ m ∷ []) ++ moments_of (happened w e) es) (past ++ m ∷ moments_of (happened w e) es) (all_happened (happened w e) es) (append_assoc past (m ∷ []) (moments_of (happened w e) es)) (rises_all (past ++ m ∷ []) (happened w e) es (rises_event past w e h))

rises_up : (past : List Moment) (w : World) (n count now : ℕ) (o : Option Wire) → Goes past w → Goes (past ++ up_moments_at w n count now o) (up_at w n count now o)
rises_up past w n count now None h = rises_on past (past ++ []) w (sym (append-nil past)) h
rises_up past w n count now (Some q) (h, at) = rises_all past (up_taken w n count q) (up_events n now count q) (record { given = h.given; before = h.before; older = h.older; alike = h.alike; counted = h.counted; steps = h.steps; same = h.same; later = h.later; dirs = h.dirs; early = h.early }, at)

rises_down : (past : List Moment) (w : World) (n count now : ℕ) (o : Option Wire) → Goes past w → Goes (past ++ down_moments_at w n count now o) (down_at w n count now o)
rises_down past w n count now None h = rises_on past (past ++ []) w (sym (append-nil past)) h
rises_down past w n count now (Some q) (h, at) = rises_all past (down_taken w n count q) (down_events n now count q) (record { given = h.given; before = h.before; older = h.older; alike = h.alike; counted = h.counted; steps = h.steps; same = h.same; later = h.later; dirs = h.dirs; early = h.early }, at)

rises_round : (past : List Moment) (w : World) (n server at : ℕ) → Goes past w → Goes (past ++ round_moments w n server at) (round w n server at)
rises_round past w n server at h =
    let v : World = up_all w n server in
    let ups = up_moments_at w n (up_length (numbered w.wires n)) server (numbered w.wires n) in
    let downs = down_moments_at v n (down_length (numbered v.wires n)) at (numbered v.wires n) in
    rises_on ((past ++ ups) ++ downs) (past ++ (ups ++ downs)) (round w n server at) (append_assoc past ups downs) (rises_down (past ++ ups) v n (down_length (numbered v.wires n)) at (numbered v.wires n) (rises_up past w n (up_length (numbered w.wires n)) server (numbered w.wires n) h))

rises_passes : (k : ℕ) (past : List Moment) (w : World) (n server at : ℕ) → Goes past w → Goes (past ++ passes_moments k w n server at) (passes k w n server at)
rises_passes zero past w n server at h = rises_on past (past ++ []) w (sym (append-nil past)) h
rises_passes (suc k) past w n server at h = by (is_still w n) (rises_passes k (past ++ round_moments w n server at) (round w n server at) n server at)
  where
    by : (b : Bool) → (Goes (past ++ round_moments w n server at) (round w n server at) → Goes ((past ++ round_moments w n server at) ++ passes_moments k (round w n server at) n server at) (passes k (round w n server at) n server at))
        → Goes (past ++ elim b as (λ (x : Bool). List Moment) [ true ↦ [] | false ↦ round_moments w n server at ++ passes_moments k (round w n server at) n server at ]) (elim b as (λ (x : Bool). World) [ true ↦ w | false ↦ passes k (round w n server at) n server at ])
    by true later = rises_on past (past ++ []) w (sym (append-nil past)) h
    by false later = rises_on ((past ++ round_moments w n server at) ++ passes_moments k (round w n server at) n server at) (past ++ (round_moments w n server at ++ passes_moments k (round w n server at) n server at)) (passes k (round w n server at) n server at) (append_assoc past (round_moments w n server at) (passes_moments k (round w n server at) n server at)) (later (rises_round past w n server at h))

-- ---- a line

begins : (past : List Moment) (w : World) → Rises past w → Goes past (at_events w)
begins past w h = (record { given = h.given; before = h.before; older = h.older; alike = h.alike; counted = h.counted; steps = h.steps; same = h.same; later = h.later; dirs = h.dirs; early = λ e. absurd (no_early part.Events refl e) }, refl)

-- where no event came yet there is nothing to compare
rises_early : (past : List Moment) (w v : World) → (IsGiven (tree w.core) → IsGiven (tree v.core)) → (IsCounted (tree w.core) → IsCounted (tree v.core)) → past ≡ [] → Rises past w → Rises (past ++ []) v
rises_early past w v names counts none h = subst (λ (l : List Moment). Rises l v) (sym (ap (λ (l : List Moment). l ++ []) none)) (record { given = names h.given; before = λ m there. nothing_in there; older = λ m there. nothing_in there; alike = λ f g d p q same. nothing_in p.there; counted = counts h.counted; steps = λ m there. nothing_in there; same = λ m there is. nothing_in there; later = λ m there. nothing_in there; dirs = λ m e p q le. nothing_in p; early = λ e. refl })
  where
    nothing_in : {A : Type 0} {m : Moment} → Contains [] m → A
    nothing_in {A} {m} there = let lt = there.1 in absurd (omega (arith, lt))

rises_same : (past : List Moment) (w : World) → Rises past w → Rises (past ++ []) w
rises_same past w h = subst (λ (l : List Moment). Rises l w) (sym (append-nil past)) h

adjusted_same : (k : Core) (a : Adjustment) → tree (adjusted k a) ≡ tree k
adjusted_same k (adjustment.Forge who.Server key place) = refl
adjusted_same k (adjustment.Forge (who.Client c) key place) = by (numbered k.seats c)
  where
    by : (o : Option Seat) → tree (with_client k c (λ s. client.forged s key place) o) ≡ tree k
    by None = refl
    by (Some seat) = refl
adjusted_same k (adjustment.Clear who.Server) = refl
adjusted_same k (adjustment.Clear (who.Client c)) = by (numbered k.seats c)
  where
    by : (o : Option Seat) → tree (with_client k c client.index_cleared o) ≡ tree k
    by None = refl
    by (Some seat) = refl
adjusted_same k (adjustment.Evict c file) = by (numbered k.seats c)
  where
    by : (o : Option Seat) → tree (with_client k c (λ s. client.evicted s file) o) ≡ tree k
    by None = refl
    by (Some seat) = refl
adjusted_same k (adjustment.Warm c content) = by (numbered k.seats c)
  where
    by : (o : Option Seat) → tree (with_client k c (λ s. warms s (items (content_bytes content))) o) ≡ tree k
    by None = refl
    by (Some seat) = refl

adjusted_steps : (k : Core) (a : Adjustment) → (adjusted k a).steps ≡ k.steps
adjusted_steps k (adjustment.Forge who.Server key place) = refl
adjusted_steps k (adjustment.Forge (who.Client c) key place) = by (numbered k.seats c)
  where
    by : (o : Option Seat) → (with_client k c (λ s. client.forged s key place) o).steps ≡ k.steps
    by None = refl
    by (Some seat) = refl
adjusted_steps k (adjustment.Clear who.Server) = refl
adjusted_steps k (adjustment.Clear (who.Client c)) = by (numbered k.seats c)
  where
    by : (o : Option Seat) → (with_client k c client.index_cleared o).steps ≡ k.steps
    by None = refl
    by (Some seat) = refl
adjusted_steps k (adjustment.Evict c file) = by (numbered k.seats c)
  where
    by : (o : Option Seat) → (with_client k c (λ s. client.evicted s file) o).steps ≡ k.steps
    by None = refl
    by (Some seat) = refl
adjusted_steps k (adjustment.Warm c content) = by (numbered k.seats c)
  where
    by : (o : Option Seat) → (with_client k c (λ s. warms s (items (content_bytes content))) o).steps ≡ k.steps
    by None = refl
    by (Some seat) = refl

pub rises_next : (past : List Moment) (w : World) (t : Turn) → Allows w t → Rises past w → Rises (past ++ turn_moments w t) (turned w t)
rises_next past w turn.Skip f h = rises_same past w h
rises_next past w (turn.Version v) f h = rises_early past w (turned w (turn.Version v)) (λ n. n) (λ n. n) (h.early (ap is_early f.0)) h
rises_next past w (turn.Term n) f h = rises_early past w (turned w (turn.Term n)) (λ n. n) (λ n. n) (h.early (ap is_early f.0)) h
rises_next past w (turn.Drift n) f h = rises_early past w (turned w (turn.Drift n)) (λ n. n) (λ n. n) (h.early (ap is_early f)) h
rises_next past w (turn.Clients m) f h = rises_early past w (turned w (turn.Clients m)) (λ n. n) (λ n. n) (h.early f) h
rises_next past w (turn.Dir dir name) f h = rises_early past w (turned w (turn.Dir dir name)) (λ n. (opens_directory w.core.server.tree dir name n f.1).given) (λ n. opens_counted w.core.server.tree dir name Directory f.1 n) (h.early f.0) h
rises_next past w (turn.File dir name content) f h = rises_early past w (turned w (turn.File dir name content)) (λ n. (opens_file w.core.server.tree dir name (content_bytes content) n f.1.0).given) (λ n. opens_counted w.core.server.tree dir name (Plain (content_bytes content)) f.1.0 n) (h.early f.0) h
rises_next past w (turn.Join c) f h = (rises_all past (at_events w) (Joins c ∷ []) (begins past w h)).0
rises_next past w (turn.Do c now d) f h = (rises_all past (at_events w) (Does c now d ∷ []) (begins past w h)).0
rises_next past w (turn.Up n a now) f h = (rises_up past (at_events w) n (count_of a (up_length (numbered w.wires n))) now (numbered w.wires n) (begins past w h)).0
rises_next past w (turn.Down n a now) f h = (rises_down past (at_events w) n (count_of a (down_length (numbered w.wires n))) now (numbered w.wires n) (begins past w h)).0
rises_next past w (turn.Settle now) f h = (rises_all past (at_events w) (Settles now ∷ []) (begins past w h)).0
rises_next past w (turn.Cut c) f h = (rises_all past (at_events w) (Cuts c ∷ []) (begins past w h)).0
rises_next past w (turn.Hang n) f h = (rises_all past (at_events w) (Hangs n ∷ []) (begins past w h)).0
rises_next past w turn.RawJoin f h = (rises_all past (at_events w) (RawJoins ∷ []) (begins past w h)).0
rises_next past w (turn.Raw n bytes) f h = (let g = (begins past w h).0 in rises_same past (raw_put (at_events w) n bytes) (record { given = g.given; before = g.before; older = g.older; alike = g.alike; counted = g.counted; steps = g.steps; same = g.same; later = g.later; dirs = g.dirs; early = g.early }))
rises_next past w (turn.Pass n k server at) f h = (rises_passes k past (at_events w) n server at (begins past w h)).0
rises_next past w (turn.Adjust a) f h =
    let g = (begins past w h).0 in
    let same = adjusted_same w.core a in
    rises_same past (turned w (turn.Adjust a)) (record { given = subst IsGiven (sym same) g.given; before = g.before; older = λ m there. subst (IsLater (tree m.before)) (sym same) (g.older m there); alike = g.alike; counted = subst IsCounted (sym same) g.counted; steps = λ m there. subst (λ (z : ℕ). m.before.steps ≤ z) (sym (adjusted_steps w.core a)) (g.steps m there); same = λ m there is. g.same m there (is ∙ adjusted_steps w.core a) ∙ sym same; later = λ m there. subst (AreDirsLater (tree m.before)) (sym same) (g.later m there); dirs = g.dirs; early = g.early })

pub rises_start : Rises [] start
rises_start = record { given = record { below = (omega arith, tt); apart = (tt, tt) }; before = λ m there. nothing_in there; older = λ m there. nothing_in there; alike = λ f g d p q same. nothing_in p.there; counted = record { given = record { below = (omega arith, tt); apart = (tt, tt) }; versions = (omega arith, tt) }; steps = λ m there. nothing_in there; same = λ m there is. nothing_in there; later = λ m there. nothing_in there; dirs = λ m e p q le. nothing_in p; early = λ e. refl }
  where
    nothing_in : {A : Type 0} {m : Moment} → Contains [] m → A
    nothing_in {A} {m} there = let lt = there.1 in absurd (omega (arith, lt))

-- ---- a whole run

abbrev Both : List Moment → Type 0
Both ms = AreAlike ms × AreInOrder ms

rises_lines : (n : ℕ) (past : List Moment) (w : World) (ls : List (List ℕ)) → Rises past w → Both (past ++ moments_from w n ls)
rises_lines n past w [] h = subst Both (sym (append-nil past)) (h.alike, h.dirs)
rises_lines n past w (l ∷ ls) h = by_line (line_of l) refl (λ t more g. rises_lines (n + 1) more (turned w t) ls g)
  where
    by_turn : (x : Line) → line_of l ≡ Some x → (r : Result Turn LineFault) → asked w n x ≡ r → ((t : Turn) (more : List Moment) → Rises more (turned w t) → Both (more ++ moments_from (turned w t) (n + 1) ls)) → Both (past ++ moments_by w n ls r)
    by_turn x read (Err f) is go = subst Both (sym (append-nil past)) (h.alike, h.dirs)
    by_turn x read (Ok t) is go = subst Both (append_assoc past (turn_moments w t) (moments_from (turned w t) (n + 1) ls)) (go t (past ++ turn_moments w t) (rises_next past w t (allowed w n x t (line_fits l x read) is) h))

    by_line : (o : Option Line) → line_of l ≡ o → ((t : Turn) (more : List Moment) → Rises more (turned w t) → Both (more ++ moments_from (turned w t) (n + 1) ls)) → Both (past ++ moments_by w n ls (asked_by w n o))
    by_line None read go = subst Both (sym (append-nil past)) (h.alike, h.dirs)
    by_line (Some x) read go = by_turn x read (asked w n x) refl go

pub runs_alike : (input : List ℕ) → AreAlike (moments input)
runs_alike input = (rises_lines 1 [] start (lines_of input) rises_start).0

-- directories keep their names in each version
pub runs_in_order : (input : List ℕ) → AreInOrder (moments input)
runs_in_order input = (rises_lines 1 [] start (lines_of input) rises_start).1

-- and at its end the ids of the tree were given once, as at each moment
given_lines : (n : ℕ) (past : List Moment) (w v : World) (ls : List (List ℕ)) → Rises past w → run_from w n ls ≡ Ok v → IsGiven (tree v.core)
given_lines n past w v [] h e = subst (λ (x : World). IsGiven (tree x.core)) (ended_is w v n (in_header w.stage) e) h.given
given_lines n past w v (l ∷ ls) h e = by_line (line_of l) refl e (λ t more g. given_lines (n + 1) more (turned w t) v ls g)
  where
    by_turn : (x : Line) → line_of l ≡ Some x → (r : Result Turn LineFault) → asked w n x ≡ r → ran_by w n ls r ≡ Ok v → ((t : Turn) (more : List Moment) → Rises more (turned w t) → run_from (turned w t) (n + 1) ls ≡ Ok v → IsGiven (tree v.core)) → IsGiven (tree v.core)
    by_turn x read (Err f) is e go = no_world _ v e
    by_turn x read (Ok t) is e go = go t (past ++ turn_moments w t) (rises_next past w t (allowed w n x t (line_fits l x read) is) h) e

    by_line : (o : Option Line) → line_of l ≡ o → ran_by w n ls (asked_by w n o) ≡ Ok v → ((t : Turn) (more : List Moment) → Rises more (turned w t) → run_from (turned w t) (n + 1) ls ≡ Ok v → IsGiven (tree v.core)) → IsGiven (tree v.core)
    by_line None read e go = no_world _ v e
    by_line (Some x) read e go = by_turn x read (asked w n x) refl e go

pub run_given : (input : List ℕ) (w : World) → run input ≡ Ok w → IsGiven w.core.server.tree
run_given input w e = given_lines 1 [] start w (lines_of input) rises_start e

pub all_given : (input : List ℕ) (m : Moment) → Contains (moments input) m → IsGiven m.before.server.tree
all_given input m there = (runs_in_order input m m there there (omega arith)).0
