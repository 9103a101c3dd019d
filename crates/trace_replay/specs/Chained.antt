-- A run, line by line: each moment comes upon what the one before left, and a delivery brings the records that its bytes complete of what was sent.
use Rattle.std.specs.Prelude.{◌≡◌, ℕ, zero, suc, ◌+◌, List, [], ◌∷◌, ◌++◌, map, length, replicate, take, drop, Option, Some, None, Bool, true, false, ◌==◌}
use Rattle.rpc_record.specs.Records.{split}
use Rattle.chunk_index.specs.Index.{Indexed, put, cleared}
use Rattle.client_cache.specs.Cache.{without_content}
use Rattle.cache_file.specs.Items.{items}
use Rattle.client_state.specs.Hints.{warms}
use Rattle.client_state.specs.State as client
use Rattle.command_text.specs.Content.{content_bytes}
use Rattle.command_text.specs.Parts.{lines_of}
use Rattle.command_text.specs.declared.path.Spot.{Spot}
use Rattle.trace_text.specs.Grammar.{line_of}
use Rattle.trace_text.specs.declared.line.Amount.{Amount}
use Rattle.trace_text.specs.declared.line.Amount.TheVariants as amount
use Rattle.trace_text.specs.declared.line.Line.{Line}
use Rattle.trace_text.specs.declared.line.Line.TheVariants as line
use Rattle.trace_text.specs.declared.line.Who.{Who}
use Rattle.trace_text.specs.declared.line.Who.TheVariants as who
use Rattle.tree_nodes.specs.declared.node.Body.{Body}
use Rattle.tree_nodes.specs.declared.node.Body.TheVariants.{Directory, File}
use Rattle.wire.specs.declared.message.Message.{Message}
use Rattle.server_core.specs.State.{with_term}
use Rattle.server_core.specs.Step.{opens_with}
use Rattle.server_core.specs.declared.event.Sent.{Sent}
use Rattle.trace_ends.specs.Session.{Seat, Session, new_seat}
use Rattle.trace_ends.specs.Core.{Core, CoreStep, Event, Event.Serves, Event.Hears, happens}
use Rattle.trace_ends.specs.Numbers.{numbered, with_numbered}
use Rattle.trace_ends.specs.Queue.{count_of}
use Rattle.trace_ends.specs.Wires.{bytes_of}
use Rattle.trace_replay.specs.Delivery.{spoilt_as}
use Rattle.trace_replay.specs.Trail.{Moment, event_by}
use Rattle.trace_replay.specs.World.{World, start}
use Rattle.trace_replay.specs.Run.{place_for}

-- ---- what was sent

-- the two ways on a session: up to the server, and down to its client
pub data Side : Type 0 where
  Up : Side
  Down : Side

abbrev pub sent_on : (number : ℕ) → (session : Option ℕ) → List Message → List Message
sent_on number None ms = []
sent_on number (Some n) ms = elim (n == number) [ true ↦ ms | false ↦ [] ]

abbrev pub sent_to : (number : ℕ) → List Sent → List Message
sent_to number [] = []
sent_to number (s ∷ ss) = elim (s.session == number) [ true ↦ s.message ∷ sent_to number ss | false ↦ sent_to number ss ]

-- what a step sends on a session
abbrev pub sent_by : Side → (number : ℕ) → CoreStep → List Message
sent_by Up number t = sent_on number t.session t.up
sent_by Down number t = sent_to number t.down

-- there is no such session, or the end to which this way leads saw it lost
abbrev pub is_shut : Side → Option Session → Bool
is_shut side None = true
is_shut Up (Some x) = x.hung
is_shut Down (Some x) = x.cut

abbrev pub unless_shut : Bool → List ℕ → List ℕ
unless_shut true bytes = []
unless_shut false bytes = bytes

abbrev pub bytes_after : Side → (number : ℕ) → (was : List ℕ) → Moment → List ℕ
bytes_after side number was m =
    let t : CoreStep = happens m.before m.event in
    unless_shut (is_shut side (numbered t.core.sessions number)) (was ++ bytes_of (sent_by side number t))

-- the bytes that were sent this way on a session at these moments, behind those that were; none once the end to which they go saw it lost
abbrev pub bytes_from : Side → (number : ℕ) → (was : List ℕ) → List Moment → List ℕ
bytes_from side number was [] = was
bytes_from side number was (m ∷ ms) = bytes_from side number (bytes_after side number was m) ms

-- what was sent each way on each session so far
abbrev pub AllSent : Type 0
AllSent = Side → (number : ℕ) → List ℕ

abbrev pub nothing_sent : AllSent
nothing_sent side number = []

-- a line has a session that is no client's send some bytes
abbrev pub sent_with : AllSent → Core → (session : ℕ) → List ℕ → AllSent
sent_with sent k session bytes Up number = elim (session == number) [ true ↦ unless_shut (is_shut Up (numbered k.sessions session)) (sent Up number ++ bytes) | false ↦ sent Up number ]
sent_with sent k session bytes Down number = sent Down number

-- ---- what comes

-- a line has so many bytes of a session come one way, or all of them, at a reading of that end's clock
pub record Delivery : Type 0 where
  pub side : Side
  pub session : ℕ
  pub amount : Amount
  pub now : ℕ

-- how many bytes came each way on each session
abbrev pub Came : Type 0
Came = Side → (number : ℕ) → ℕ

abbrev pub nothing_came : Came
nothing_came side number = 0

-- the bytes that come: of those that were sent the next, behind so many
abbrev pub brought : Amount → (came : ℕ) → (sent : List ℕ) → List ℕ
brought a came sent = take (count_of a (length (drop came sent))) (drop came sent)

abbrev pub is_side : Side → Side → Bool
is_side Up Up = true
is_side Down Down = true
is_side s t = false

abbrev pub more_came : (is_there is_this : Bool) → (was count : ℕ) → ℕ
more_came true true was count = was + count
more_came there this was count = was

abbrev pub came_with : Came → Delivery → (count : ℕ) → Came
came_with came d count side number = more_came (is_side d.side side) (d.session == number) (came side number) count

-- the records that some bytes complete; on the way up one that is no message is behind them, where no more can follow
abbrev pub records_in : Side → List ℕ → List (List ℕ)
records_in Up bytes = let p = split bytes in p.records ++ spoilt_as p.spoilt
records_in Down bytes = (split bytes).records

-- the end takes a record
abbrev pub event_at : Side → (session now : ℕ) → (bytes : List ℕ) → Event
event_at Up session now bytes = Serves session now bytes
event_at Down session now bytes = Hears session now bytes

-- ---- the moments, one after the other

-- each comes upon what the one before left
abbrev pub IsChain : Core → List Moment → (last : Core) → Type 0
IsChain k [] last = last ≡ k
IsChain k (m ∷ ms) last = (m.before ≡ k) × IsChain (happens k m.event).core ms last

-- A delivery brings these moments: at each the end takes a record, and these are just the records that the bytes which came before and those that come
-- now complete together, behind those that were complete before.
pub record IsDelivered (sent : List ℕ) (came : ℕ) (k : Core) (d : Delivery) (own : List Moment) (last : Core) : Type 0 where
  pub records : List (List ℕ)
  pub events : map (λ (m : Moment). m.event) own ≡ map (event_at d.side d.session d.now) records
  pub chain : IsChain k own last
  pub complete : records_in d.side (take came sent ++ brought d.amount came sent) ≡ records_in d.side (take came sent) ++ records

-- ---- lines

-- a line says which version of LBFS clients speak, for how long leases are granted, or how far clocks may drift apart; it opens with clients, or with a file or directory; something happens; a
-- session that is no client's sends bytes; an index or what a client keeps is changed; or bytes come
pub data Part : Type 0 where
  Speaks : (lbfs : ℕ) → Part
  Grants : (term : ℕ) → Part
  Drifts : (drift : ℕ) → Part
  Clients : (count : ℕ) → Part
  Opens : Spot → Body → Part
  Tells : Event → Part
  Sends : (session : ℕ) → List ℕ → Part
  Changes : Line → Part
  Brings : Delivery → Part

-- so many times all bytes go up, and then down
abbrev pub rounds_of : (rounds session server at : ℕ) → List Part
rounds_of zero session server at = []
rounds_of (suc k) session server at = Brings (record { side = Up; session = session; amount = amount.All; now = server }) ∷ Brings (record { side = Down; session = session; amount = amount.All; now = at }) ∷ rounds_of k session server at

abbrev pub parts_by : Option Line → List Part
parts_by (Some (line.Version lbfs)) = Speaks lbfs ∷ []
parts_by (Some (line.Term term)) = Grants term ∷ []
parts_by (Some (line.Drift drift)) = Drifts drift ∷ []
parts_by (Some (line.Clients count)) = Clients count ∷ []
parts_by (Some (line.Dir spot)) = Opens spot Directory ∷ []
parts_by (Some (line.File spot content)) = Opens spot (File (content_bytes content)) ∷ []
parts_by (Some (line.Up session a server)) = Brings (record { side = Up; session = session; amount = a; now = server }) ∷ []
parts_by (Some (line.Down session a at)) = Brings (record { side = Down; session = session; amount = a; now = at }) ∷ []
parts_by (Some (line.Pass session rounds server at)) = rounds_of rounds session server at
parts_by (Some (line.Raw session bytes)) = Sends session bytes ∷ []
parts_by (Some (line.Forge w key file offset count)) = Changes (line.Forge w key file offset count) ∷ []
parts_by (Some (line.Clear w)) = Changes (line.Clear w) ∷ []
parts_by (Some (line.Evict c file)) = Changes (line.Evict c file) ∷ []
parts_by (Some (line.Warm c content)) = Changes (line.Warm c content) ∷ []
parts_by l = map Tells (event_by l)

abbrev pub parts_of : List (List ℕ) → List Part
parts_of [] = []
parts_of (l ∷ ls) = parts_by (line_of l) ++ parts_of ls

-- a client, if there is one of this number, becomes another
abbrev pub client_with : Core → (number : ℕ) → (client.State → client.State) → Option Seat → Core
client_with k number change None = k
client_with k number change (Some seat) = record k { seats = with_numbered k.seats number (record seat { client = change seat.client }) }

abbrev pub index_with : Core → Who → (Indexed → Indexed) → Core
index_with k who.Server change = record k { server = record k.server { index = change k.server.index } }
index_with k (who.Client c) change = client_with k c (λ s. record s { index = change s.index }) (numbered k.seats c)

-- what such a line changes, and nothing else
abbrev pub changed_by : Core → Line → Core
changed_by k (line.Forge w key file offset count) = index_with k w (λ i. put i key (record { file = file; offset = offset; count = count }))
changed_by k (line.Clear w) = index_with k w cleared
changed_by k (line.Evict c file) = client_with k c (λ s. record s { cache = without_content s.cache file }) (numbered k.seats c)
changed_by k (line.Warm c content) = client_with k c (λ s. warms s (items (content_bytes content))) (numbered k.seats c)
changed_by k l = k

-- a file or a directory is put into the server's tree, in the directory to which its path leads
abbrev pub IsOpenedWith : Core → Spot → Body → (after : Core) → Type 0
IsOpenedWith k s b after = (dir : ℕ) × (place_for k.server.tree s ≡ Some dir) × (after ≡ record k { server = opens_with k.server dir s.name b })

-- which moments a part has, where the ends were so before, and are so after
abbrev pub HasMoments : AllSent → Came → Core → Part → (own : List Moment) → (after : Core) → Type 0
HasMoments sent came k (Speaks lbfs) own after = (own ≡ []) × (after ≡ record k { lbfs = lbfs })
HasMoments sent came k (Grants term) own after = (own ≡ []) × (after ≡ record k { server = with_term k.server term })
HasMoments sent came k (Drifts drift) own after = (own ≡ []) × (after ≡ record k { drift = drift })
HasMoments sent came k (Clients count) own after = (own ≡ []) × (after ≡ record k { seats = replicate count (new_seat k.drift k.lbfs) })
HasMoments sent came k (Opens s b) own after = (own ≡ []) × IsOpenedWith k s b after
HasMoments sent came k (Tells e) own after = (own ≡ record { before = k; event = e } ∷ []) × (after ≡ (happens k e).core)
HasMoments sent came k (Sends session bytes) own after = (own ≡ []) × (after ≡ k)
HasMoments sent came k (Changes l) own after = (own ≡ []) × (after ≡ changed_by k l)
HasMoments sent came k (Brings d) own after = IsDelivered (sent d.side d.session) (came d.side d.session) k d own after

abbrev pub came_after : AllSent → Came → Part → Came
came_after sent came (Brings d) = came_with came d (length (brought d.amount (came d.side d.session) (sent d.side d.session)))
came_after sent came p = came

-- what is sent in a part, behind what was
abbrev pub sent_after : AllSent → Core → Part → (own : List Moment) → AllSent
sent_after sent k (Sends session bytes) own = sent_with sent k session bytes
sent_after sent k p own = λ side number. bytes_from side number (sent side number) own

-- All moments are those of the parts, in order, and the ends go on from each to the next, up to the last.
abbrev pub IsRunOf : AllSent → Came → Core → List Part → (ms : List Moment) → (last : Core) → Type 0
IsRunOf sent came k [] ms last = (ms ≡ []) × (last ≡ k)
IsRunOf sent came k (p ∷ ps) ms last = (own rest : List Moment) × (mid : Core) × (ms ≡ own ++ rest) × HasMoments sent came k p own mid × IsRunOf (sent_after sent k p own) (came_after sent came p) mid ps rest last

-- of a whole trace, and of the world that it comes to
abbrev pub IsChained : (input : List ℕ) → List Moment → World → Type 0
IsChained input ms w = IsRunOf nothing_sent nothing_came start.core (parts_of (lines_of input)) ms w.core
