-- The lines in front of the blocks are taken: the header, eight files, and four clients that join.
use Rattle.std.proofs.Common.{◌≡◌, ◌⊎◌, inl, inr, ℕ, zero, suc, ◌+◌, ◌*◌, ◌%◌, ◌^◌, ◌<◌, ◌≤◌, List, [], ◌∷◌, ◌++◌, length, Option, Some, None, Bool, true, false, decimal, refl, sym, subst, ap, ◌∙◌, arith}
use Rattle.std.specs.Prelude.{Result, Ok, Err, map, nat_lt, replicate, ◌&&◌, if◌then◌else◌}
use Rattle.std.specs.Fmt.{digits}
use Rattle.std.proofs.lemmas.Bool.Decides.{nat_tests}
use Rattle.clock_rule.specs.Keeping.{at_first, and_reading}
use Rattle.clock_rule.specs.declared.rule.Reading.TheVariants as reads
use Rattle.command_text.specs.Content.{content_bytes}
use Rattle.command_text.specs.declared.content.Part.{Part}
use Rattle.command_text.specs.declared.content.Part.TheVariants.{Random}
use Rattle.command_text.specs.Paths.{spot_of}
use Rattle.command_text.proofs.lemmas.Contents.{content_size}
use Rattle.trace_text.specs.Grammar.{line_of}
use Rattle.trace_text.specs.declared.line.Line.{Line}
use Rattle.trace_text.specs.declared.line.Line.TheVariants as line
use Rattle.trace_text.specs.declared.refusal.LineFault.{LineFault}
use Rattle.trace_text.specs.declared.refusal.LineFault.TheVariants.{Grammar}
use Rattle.client_state.specs.Ending.{joined}
use Rattle.file_tree.specs.Opening.{can_open, opens}
use Rattle.tree_reading.specs.Tree.{Tree, empty}
use Rattle.tree_nodes.specs.declared.node.Body.TheVariants.{File}
use Rattle.server_core.specs.State as server
use Rattle.server_core.specs.Step.{has_room, connect}
use Rattle.xdr_codec.specs.declared.handle.TheConstants.{ROOT}
use Rattle.trace_replay.specs.declared.stage.Stage.{Stage}
use Rattle.trace_replay.specs.declared.stage.Stage.TheVariants as stage
use Rattle.trace_replay.specs.declared.turn.Turn.{Turn}
use Rattle.trace_replay.specs.declared.turn.Turn.TheVariants as turn
use Rattle.trace_ends.specs.Core.{Core, Event.Joins, joins, joins_as, happens}
use Rattle.trace_ends.specs.Session.{Seat, Session, new_seat, new_session}
use Rattle.trace_ends.specs.Numbers.{numbered, with_numbered}
use Rattle.trace_replay.specs.World.{World, start}
use Rattle.trace_replay.specs.Run.{line_most, file_most, tree_most, sessions_most, place_for, sized, file_asks, joins_if, joins_within, event_asks, asks_at, asks, with_version, with_leases, with_drift, with_clients}
use Rattle.trace_replay.specs.Timed.{Timed, Times, read_by, timed_start, timed_turn}
use Rattle.trace_replay.proofs.lemmas.Going.{applied_then}
use Rattle.trace_generator.specs.Lines.{header, file_line, join_line, opening_lines}
use Rattle.lbfs_run.proofs.Spelled.{root_spot, file_said}
use Rattle.lbfs_run.proofs.Ticks.{Ticks, ticks_first, both_later, both_read}
use Rattle.lbfs_run.proofs.Steps.{there_at, Goes, Stands, Leads, no_lines, line_first, taken}

-- ---- the header

abbrev headed : Timed
headed = record { world = with_clients (with_drift (with_leases (with_version start 1) 1000) 50) 4; times = record { term = 1000; clocks = at_first 1000 50 } }

header_goes : Goes timed_start 1 header headed 5
header_goes = refl

-- ---- files

record Filed (v : Timed) (held : Tree) (bytes : ℕ) : Type 0 where
  stage : v.world.stage ≡ stage.Files
  tree : v.world.core.server.tree ≡ held
  size : v.world.size ≡ bytes
  seats : v.world.core.seats ≡ replicate 4 (new_seat 50 1)
  sessions : v.world.core.sessions ≡ []
  standing : v.world.core.server.sessions ≡ []
  made : v.world.core.server.sessions_made ≡ 0
  times : v.times ≡ record { term = 1000; clocks = at_first 1000 50 }

abbrev name : ℕ → List ℕ
name number = 102 ∷ decimal number

abbrev content : (seed number : ℕ) → List Part
content seed number = Random ((seed + number) % 2 ^ 64) 9000 ∷ []

abbrev bytes : (seed number : ℕ) → List ℕ
bytes seed number = content_bytes (content seed number)

abbrev file_turn : (seed number : ℕ) → Turn
file_turn seed number = turn.File ROOT (name number) (content seed number)

abbrev file_said_as : (seed number : ℕ) → Line
file_said_as seed number = line.File (root_spot (name number)) (content seed number)

file_asked : (v : Timed) (seed number : ℕ) (tree : Tree) (size : ℕ) → Filed v tree size → can_open tree ROOT (name number) ≡ true → size + 9000 ≤ tree_most → asks v.world (file_said_as seed number) ≡ Ok (file_turn seed number)
file_asked v seed number tree size h free room =
    let within : nat_lt tree_most (size + 9000) ≡ false = grind (arith, nat_tests, room) in
    ap (λ (s : Stage). asks_at v.world s (file_said_as seed number)) h.stage
    ∙ ap (λ (t : Tree). file_asks (place_for t (root_spot (name number))) v.world.size (name number) (content seed number)) h.tree
    ∙ ap (λ (b : Bool). file_asks (if b then Some ROOT else None) v.world.size (name number) (content seed number)) free
    ∙ ap (λ (n : ℕ). sized (nat_lt file_most 9000) (nat_lt tree_most (n + 9000)) (file_turn seed number)) h.size
    ∙ ap (λ (b : Bool). sized (nat_lt file_most 9000) b (file_turn seed number)) within

file_then : (v : Timed) (n seed number later until : ℕ) (tree : Tree) (size : ℕ) (lines : List (List ℕ)) → Filed v tree size → number < 2 ^ 64 → spot_of (name number) ≡ Some (root_spot (name number)) → can_open tree ROOT (name number) ≡ true → size + 9000 ≤ tree_most → n ≤ line_most
    → ((w : Timed) → Filed w (opens tree ROOT (name number) (File (bytes seed number))) (size + 9000) → Leads w (n + 1) lines later until) → Leads v n (file_line seed number ∷ lines) later until
file_then v n seed number later until tree size lines h small called free room few next =
    let w : Timed = timed_turn v (file_turn seed number, v.times) in
    let below : (seed + number) % 2 ^ 64 < 2 ^ 64 = omega arith in
    line_first v w n (file_line seed number) lines later until
    (taken v n (file_line seed number) (file_said_as seed number) (file_turn seed number) v.times (file_said number ((seed + number) % 2 ^ 64) small called below) few (file_asked v seed number tree size h free room) refl)
    (next w (record {
      stage = h.stage;
      tree = ap (λ (t : Tree). opens t ROOT (name number) (File (bytes seed number))) h.tree;
      size = ap (λ (n : ℕ). v.world.size + n) (content_size (content seed number)) ∙ ap (λ (n : ℕ). n + 9000) h.size;
      seats = h.seats;
      sessions = h.sessions;
      standing = h.standing;
      made = h.made;
      times = h.times;
    }))

-- ---- clients that join

record Joined (v : Timed) (all_seats : List Seat) (all_sessions : List Session) (all_standing : List ℕ) (count : ℕ) : Type 0 where
  stage : (v.world.stage ≡ stage.Files) ⊎ (v.world.stage ≡ stage.Events)
  seats : v.world.core.seats ≡ all_seats
  sessions : v.world.core.sessions ≡ all_sessions
  standing : v.world.core.server.sessions ≡ all_standing
  made : v.world.core.server.sessions_made ≡ count
  ticks : Ticks v.times.clocks 0 0

-- the seat of a client that has joined, by the session of this number
abbrev seated : Seat → (session : ℕ) → Seat
seated seat session = record seat { client = joined seat.client; session = Some session }

abbrev joined_core : Core → (client : ℕ) → Seat → Core
joined_core k client seat = record k {
  steps = k.steps + 2;
  server = record k.server { sessions = k.server.sessions ++ (k.server.sessions_made + 1) ∷ []; sessions_made = k.server.sessions_made + 1 };
  seats = with_numbered k.seats client (seated seat (k.server.sessions_made + 1));
  sessions = k.sessions ++ new_session client ∷ [];
  came = k.came ++ 0 ∷ [];
}

join_leaves : (k : Core) (client : ℕ) (seat : Seat) → numbered k.seats client ≡ Some seat → has_room k.server ≡ true → (happens k (Joins client)).core ≡ joined_core k client seat
join_leaves k client seat at room = ap (λ (o : Option Seat). (joins k client o).core) at ∙ ap (λ (b : Bool). let r = connect k.server b in (joins_as k client seat r.0 r.1.told).core) room

join_asked : (w : World) (client : ℕ) (seat : Seat) (linked room : Bool) → (w.stage ≡ stage.Files) ⊎ (w.stage ≡ stage.Events) → numbered w.core.seats client ≡ Some seat → seat.client.linked ≡ false → nat_lt (length w.core.server.sessions) sessions_most ≡ true → asks w (line.Join client 0 0) ≡ Ok (turn.Join client)
join_asked w client seat linked room at there free few =
    staged at
    ∙ ap (joins_if (length w.core.server.sessions) client) there
    ∙ ap (λ (b : Bool). elim b as (λ (x : Bool). Result Turn LineFault) [ true ↦ Err Grammar | false ↦ joins_within (nat_lt (length w.core.server.sessions) sessions_most) client ]) free
    ∙ ap (λ (b : Bool). joins_within b client) few
  where
    staged : (w.stage ≡ stage.Files) ⊎ (w.stage ≡ stage.Events) → asks w (line.Join client 0 0) ≡ event_asks w.core (line.Join client 0 0)
    staged (inl e) = ap (λ (s : Stage). asks_at w s (line.Join client 0 0)) e
    staged (inr e) = ap (λ (s : Stage). asks_at w s (line.Join client 0 0)) e

has_some : (s : server.State) (standing : List ℕ) (made : ℕ) → s.sessions ≡ standing → s.sessions_made ≡ made → length standing < 64 → made < 64 → has_room s ≡ true
has_some s standing made at count few low =
    let a : nat_lt (length s.sessions) 64 ≡ true = grind (arith, nat_tests, ap length at, few) in
    let b : nat_lt s.sessions_made 4294967295 ≡ true = grind (arith, nat_tests, count, low) in
    rw (a, b) refl

join_then : (v : Timed) (n client later until : ℕ) (seats : List Seat) (sessions : List Session) (standing : List ℕ) (made : ℕ) (seat : Seat) (lines : List (List ℕ)) → Joined v seats sessions standing made → line_of (join_line client) ≡ Some (line.Join client 0 0) → numbered seats client ≡ Some seat → seat.client.linked ≡ false → length standing < 64 → made < 64 → n ≤ line_most
    → ((w : Timed) → w.world.stage ≡ stage.Events → Joined w (with_numbered seats client (seated seat (made + 1))) (sessions ++ new_session client ∷ []) (standing ++ (made + 1) ∷ []) (made + 1) → Leads w (n + 1) lines later until) → Leads v n (join_line client ∷ lines) later until
join_then v n client later until seats sessions standing made seat lines h said there free few low below next =
    let k : Core = v.world.core in
    let times : Times = record v.times { clocks = and_reading v.times.clocks (reads.Both 0 client 0) } in
    let w : Timed = timed_turn v (turn.Join client, times) in
    let at : numbered k.seats client ≡ Some seat = ap (λ (xs : List Seat). numbered xs client) h.seats ∙ there in
    let some : nat_lt (length k.server.sessions) 64 ≡ true = grind (arith, nat_tests, ap length h.standing, few) in
    let is : (happens k (Joins client)).core ≡ joined_core k client seat = join_leaves k client seat at (has_some k.server standing made h.standing h.made few low) in
    let more : k.server.sessions_made + 1 ≡ made + 1 = ap (λ (n : ℕ). n + 1) h.made in
    line_first v w n (join_line client) lines later until
    (taken v n (join_line client) (line.Join client 0 0) (turn.Join client) times said below (join_asked v.world client seat false true h.stage at free some) (ap (read_by v.times) (both_read v.times.clocks 0 0 client 0 h.ticks (omega arith) (omega arith))))
    (next w refl (record {
      stage = inr refl;
      seats = ap (λ (x : Core). x.seats) is ∙ ap (λ (xs : List Seat). with_numbered xs client (seated seat (k.server.sessions_made + 1))) h.seats ∙ ap (λ (m : ℕ). with_numbered seats client (seated seat m)) more;
      sessions = ap (λ (x : Core). x.sessions) is ∙ ap (λ (xs : List Session). xs ++ new_session client ∷ []) h.sessions;
      standing = ap (λ (x : Core). x.server.sessions) is ∙ ap (λ (xs : List ℕ). xs ++ (k.server.sessions_made + 1) ∷ []) h.standing ∙ ap (λ (m : ℕ). standing ++ m ∷ []) more;
      made = ap (λ (x : Core). x.server.sessions_made) is ∙ more;
      ticks = both_later v.times.clocks 0 0 client 0 h.ticks (omega arith) (omega arith);
    }))

-- ---- all of them

abbrev IsJoin : ℕ → Type 0
IsJoin client = line_of (join_line client) ≡ Some (line.Join client 0 0)

joins_said : (IsJoin 1 × IsJoin 2) × (IsJoin 3 × IsJoin 4)
unfolding digits
joins_said = ((refl, refl), (refl, refl))

-- the clients' seats, of which the first so many have joined
abbrev seats_with : ℕ → List Seat
seats_with zero = replicate 4 (new_seat 50 1)
seats_with (suc k) = with_numbered (seats_with k) (suc k) (seated (new_seat 50 1) (k + 1))

abbrev sessions_with : ℕ → List Session
sessions_with zero = []
sessions_with (suc k) = sessions_with k ++ new_session (suc k) ∷ []

abbrev standing_with : ℕ → List ℕ
standing_with zero = []
standing_with (suc k) = standing_with k ++ (k + 1) ∷ []

joined_stands : (v : Timed) → v.world.stage ≡ stage.Events → Joined v (seats_with 4) (sessions_with 4) (standing_with 4) 4 → Stands v 0 0
joined_stands v e h = record { stage = e; owners = ap (λ (xs : List Session). map (λ x. x.owner) xs) h.sessions; seats = ap length h.seats; ticks = h.ticks }

joins_lead : (v : Timed) → Joined v (seats_with 0) (sessions_with 0) (standing_with 0) 0 → Leads v 13 (join_line 1 ∷ join_line 2 ∷ join_line 3 ∷ join_line 4 ∷ []) 0 0
joins_lead v h =
    join_then v 13 1 0 0 (seats_with 0) (sessions_with 0) (standing_with 0) 0 (new_seat 50 1) _ h joins_said.0.0 refl refl (omega arith) (omega arith) (omega arith)
    (λ v1 e1 h1. join_then v1 14 2 0 0 (seats_with 1) (sessions_with 1) (standing_with 1) 1 (new_seat 50 1) _ h1 joins_said.0.1 refl refl (omega arith) (omega arith) (omega arith)
    (λ v2 e2 h2. join_then v2 15 3 0 0 (seats_with 2) (sessions_with 2) (standing_with 2) 2 (new_seat 50 1) _ h2 joins_said.1.0 refl refl (omega arith) (omega arith) (omega arith)
    (λ v3 e3 h3. join_then v3 16 4 0 0 (seats_with 3) (sessions_with 3) (standing_with 3) 3 (new_seat 50 1) [] h3 joins_said.1.1 refl refl (omega arith) (omega arith) (omega arith)
    (λ v4 e4 h4. no_lines v4 17 0 0 (joined_stands v4 e4 h4)))))

-- the tree of the first so many files, whatever their contents are
abbrev tree_of : (contents : ℕ → List ℕ) → ℕ → Tree
tree_of contents zero = empty
tree_of contents (suc k) = opens (tree_of contents k) ROOT (name (suc k)) (File (contents (suc k)))

-- and what it is with those of a seed
abbrev seeded : (seed : ℕ) → ℕ → Tree
seeded seed k = tree_of (bytes seed) k

IsNew : ℕ → Type 0
IsNew k = (spot_of (name (suc k)) ≡ Some (root_spot (name (suc k)))) × ((contents : ℕ → List ℕ) → can_open (tree_of contents k) ROOT (name (suc k)) ≡ true)

new_names : ((IsNew 0 × IsNew 1) × (IsNew 2 × IsNew 3)) × ((IsNew 4 × IsNew 5) × (IsNew 6 × IsNew 7))
unfolding digits IsNew
new_names =
    ((((refl, λ contents. refl), (refl, λ contents. refl)), ((refl, λ contents. refl), (refl, λ contents. refl))), (((refl, λ contents. refl), (refl, λ contents. refl)), ((refl, λ contents. refl), (refl, λ contents. refl))))

next_file : (k : ℕ) (v : Timed) (n seed : ℕ) (lines : List (List ℕ)) → k < 8 → n ≤ line_most → IsNew k → Filed v (seeded seed k) (9000 * k) → ((w : Timed) → Filed w (seeded seed (suc k)) (9000 * suc k) → Leads w (n + 1) lines 0 0) → Leads v n (file_line seed (suc k) ∷ lines) 0 0
unfolding IsNew
next_file k v n seed lines low few new h next =
    file_then v n seed (suc k) 0 0 (seeded seed k) (9000 * k) lines h (omega (arith, low)) new.0 (new.1 (bytes seed)) (omega (arith, low)) few
    (λ w g. next w (subst (λ (size : ℕ). Filed w (seeded seed (suc k)) size) (more k) g))
  where
    more : (k : ℕ) → 9000 * k + 9000 ≡ 9000 * suc k
    more k = omega arith

headed_filed : Filed headed empty 0
headed_filed = record { stage = refl; tree = refl; size = refl; seats = refl; sessions = refl; standing = refl; made = refl; times = refl }

filed_joined : (v : Timed) (tree : Tree) (size : ℕ) → Filed v tree size → Joined v (seats_with 0) (sessions_with 0) (standing_with 0) 0
filed_joined v tree size h = record {
  stage = inl h.stage;
  seats = h.seats;
  sessions = h.sessions;
  standing = h.standing;
  made = h.made;
  ticks = subst (λ (t : Times). Ticks t.clocks 0 0) (sym h.times) (ticks_first 1000);
}

files_lead : (seed : ℕ) → Leads headed 5 (file_line seed 1 ∷ file_line seed 2 ∷ file_line seed 3 ∷ file_line seed 4 ∷ file_line seed 5 ∷ file_line seed 6 ∷ file_line seed 7 ∷ file_line seed 8 ∷ join_line 1 ∷ join_line 2 ∷ join_line 3 ∷ join_line 4 ∷ []) 0 0
files_lead seed =
    let new = new_names in
    next_file 0 headed 5 seed _ (omega arith) (omega arith) new.0.0.0 headed_filed
    (λ v1 h1. next_file 1 v1 6 seed _ (omega arith) (omega arith) new.0.0.1 h1
    (λ v2 h2. next_file 2 v2 7 seed _ (omega arith) (omega arith) new.0.1.0 h2
    (λ v3 h3. next_file 3 v3 8 seed _ (omega arith) (omega arith) new.0.1.1 h3
    (λ v4 h4. next_file 4 v4 9 seed _ (omega arith) (omega arith) new.1.0.0 h4
    (λ v5 h5. next_file 5 v5 10 seed _ (omega arith) (omega arith) new.1.0.1 h5
    (λ v6 h6. next_file 6 v6 11 seed _ (omega arith) (omega arith) new.1.1.0 h6
    (λ v7 h7. next_file 7 v7 12 seed _ (omega arith) (omega arith) new.1.1.1 h7
    (λ v8 h8. joins_lead v8 (filed_joined v8 (seeded seed 8) 72000 h8)))))))))

header_then : (lines : List (List ℕ)) → Leads headed 5 lines 0 0 → Leads timed_start 1 (header ++ lines) 0 0
header_then lines h = record { world = h.world; goes = applied_then timed_start headed 1 5 header lines header_goes ∙ h.goes ∙ ap (there_at h.world) (four_more (length lines)); stands = h.stands }
  where
    four_more : (k : ℕ) → 5 + k ≡ 1 + suc (suc (suc (suc k)))
    four_more k = omega arith

pub opening_leads : (seed : ℕ) → Leads timed_start 1 (opening_lines seed) 0 0
unfolding opening_lines
opening_leads seed = header_then _ (files_lead seed)
