-- What each event is to be shown to keep.
use Rattle.std.proofs.Common.{◌≡◌, ℕ, ◌<◌, List, [], ◌∷◌, ◌++◌, length, Option, Some, None, true, false, map, ◌⊎◌, suc, Bool}
use Rattle.std.specs.List.{AllByRecursion}
use Rattle.callback_core.specs.declared.back_calls.Asked.{Asked}
use Rattle.server_core.specs.Recalling.{recall_sent}
use Rattle.server_core.specs.declared.event.Sent.{Sent}
use Rattle.lease_law.specs.Claims.{recall_message}
use Rattle.kept_promise.proofs.Common.{Contains, message_spell, Command, Core, Seat, Session, Event, Event.Joins, Event.Does, Event.Serves, Event.Hears, Event.Settles, Event.Cuts, Event.Hangs, Loss, Loss.Nothing, Loss.Down_of, Loss.Up_of, CoreStep, numbered, with_numbered, happens, Wire, unless, lost_by, up_put, down_put, hashed_of, hashed_by, Book, Ask, Told, Queue, no_queue, Carries, ask_message, told_message, Up, Up.Asks, Up.Replies, Down, Down.Tells, Down.Recalls, Mix, no_mix, reply_message, is_raw, Event.RawJoins}
use Rattle.kept_promise.proofs.PathNames.{IsSmall}
use Rattle.kept_promise.proofs.Facts.{IsKept}
use Rattle.trace_ends.specs.Core.{Loss.Made}
use Rattle.kept_promise.proofs.SentBytes.{AreBytes}

-- ---- what is sent, as calls and answers

abbrev pub sent_message : ℕ × Told → Sent
sent_message p = record { session = p.0; message = told_message p.1 }

-- a RECALL's numbers have a record
abbrev pub IsFit : Asked → Type 0
IsFit a = (a.xid < 4294967296) × (a.file < 18446744073709551616)

-- nobody hears it
abbrev pub IsStray : List Session → Sent → Type 0
IsStray sessions s = (x : Session) × (numbered sessions s.session ≡ Some x) × (x.cut ≡ true)

-- up go answers to RECALLs and calls, and down RECALLs and answers to calls; no step sends both
pub record Sends (t : CoreStep) : Type 0 where
  pub replies : List ℕ
  pub replies_fit : AllByRecursion (λ xid. xid < 4294967296) replies
  pub asks : List Ask
  pub up_is : t.up ≡ map reply_message replies ++ map ask_message asks
  pub recalls : List Asked
  pub recalls_fit : AllByRecursion IsFit recalls
  pub tolds : List (ℕ × Told)
  -- what goes down sessions that their owners left, or that have none, is heard by nobody
  pub strays : List Sent
  pub strays_cut : AllByRecursion (IsStray t.core.sessions) strays
  pub down_is : t.down ≡ strays ++ (map recall_sent recalls ++ map sent_message tolds)

-- the same, as what is on its way
abbrev pub sent_ups : (t : CoreStep) → Sends t → List Up
sent_ups t s = map Replies s.replies ++ map Asks s.asks

abbrev pub recall_down : Asked → ℕ × Down
recall_down a = (a.session, Recalls a.xid a.file)

abbrev pub told_down : ℕ × Told → ℕ × Down
told_down p = (p.0, Tells p.1)

abbrev pub sent_downs : (t : CoreStep) → Sends t → List (ℕ × Down)
sent_downs t s = map recall_down s.recalls ++ map told_down s.tolds

abbrev pub ups_put_in : List Queue → (number : ℕ) → List Ask → Option Session → Option Queue → List Queue
ups_put_in qs n asks (Some x) (Some q) = with_numbered qs n (record q { ups = unless x.hung q.ups asks })
ups_put_in qs n asks x q = qs

abbrev pub ups_put : List Session → List Queue → Option ℕ → List Ask → List Queue
ups_put sessions qs None asks = qs
ups_put sessions qs (Some n) asks = ups_put_in qs n asks (numbered sessions n) (numbered qs n)

abbrev pub downs_put_in : List Queue → ℕ × Told → Option Session → Option Queue → List Queue
downs_put_in qs p (Some x) (Some q) = with_numbered qs p.0 (record q { downs = unless x.cut q.downs (p.1 ∷ []) })
downs_put_in qs p x q = qs

abbrev pub downs_put : List Session → List Queue → List (ℕ × Told) → List Queue
downs_put sessions qs [] = qs
downs_put sessions qs (p ∷ ps) = downs_put sessions (downs_put_in qs p (numbered sessions p.0) (numbered qs p.0)) ps

abbrev pub downs_lost : List Queue → (number : ℕ) → Option Queue → List Queue
downs_lost qs n None = qs
downs_lost qs n (Some q) = with_numbered qs n (record q { downs = [] })

abbrev pub ups_lost : List Queue → (number : ℕ) → Option Queue → List Queue
ups_lost qs n None = qs
ups_lost qs n (Some q) = with_numbered qs n (record q { ups = [] })

abbrev pub queues_lost : List Queue → Loss → List Queue
queues_lost qs Nothing = qs
queues_lost qs Made = qs ++ no_queue ∷ []
queues_lost qs (Down_of n) = downs_lost qs n (numbered qs n)
queues_lost qs (Up_of n) = ups_lost qs n (numbered qs n)

-- the queues after an event, which sent these
abbrev pub queues_after : List Queue → (t : CoreStep) → Sends t → List Queue
queues_after qs t s = downs_put t.core.sessions (ups_put t.core.sessions (queues_lost qs t.loss) t.session s.asks) s.tolds

-- ---- the same with RECALLs and their answers

abbrev pub mix_ups_in : List Mix → (number : ℕ) → List Up → Option Session → Option Mix → List Mix
mix_ups_in ms n ups (Some x) (Some m) = with_numbered ms n (record m { ups = unless x.hung m.ups ups })
mix_ups_in ms n ups x m = ms

abbrev pub mix_ups : List Session → List Mix → Option ℕ → List Up → List Mix
mix_ups sessions ms None ups = ms
mix_ups sessions ms (Some n) ups = mix_ups_in ms n ups (numbered sessions n) (numbered ms n)

abbrev pub mix_downs_in : List Mix → ℕ × Down → Option Session → Option Mix → List Mix
mix_downs_in ms p (Some x) (Some m) = with_numbered ms p.0 (record m { downs = unless x.cut m.downs (p.1 ∷ []) })
mix_downs_in ms p x m = ms

abbrev pub mix_downs : List Session → List Mix → List (ℕ × Down) → List Mix
mix_downs sessions ms [] = ms
mix_downs sessions ms (p ∷ ps) = mix_downs sessions (mix_downs_in ms p (numbered sessions p.0) (numbered ms p.0)) ps

abbrev pub mix_downs_lost : List Mix → (number : ℕ) → Option Mix → List Mix
mix_downs_lost ms n None = ms
mix_downs_lost ms n (Some m) = with_numbered ms n (record m { downs = [] })

abbrev pub mix_ups_lost : List Mix → (number : ℕ) → Option Mix → List Mix
mix_ups_lost ms n None = ms
mix_ups_lost ms n (Some m) = with_numbered ms n (record m { ups = [] })

abbrev pub mixes_lost : List Mix → Loss → List Mix
mixes_lost ms Nothing = ms
mixes_lost ms Made = ms ++ no_mix ∷ []
mixes_lost ms (Down_of n) = mix_downs_lost ms n (numbered ms n)
mixes_lost ms (Up_of n) = mix_ups_lost ms n (numbered ms n)

-- what is on its way after an event, which sent these
abbrev pub mixes_after : List Mix → (t : CoreStep) → Sends t → List Mix
mixes_after ms t s = mix_downs t.core.sessions (mix_ups t.core.sessions (mixes_lost ms t.loss) t.session (sent_ups t s)) (sent_downs t s)

-- ---- an event

-- the moment is noted in the book, with what is hashed at it, before its step is made
pub record IsNoted (book : Book) (k : Core) (e : Event) : Type 0 where
  pub there : Contains book.moments (record { before = k; event = e })
  pub hashed : (b : List ℕ) → Contains (hashed_by k e) b → Contains (hashed_of book.moments) b

-- what it leaves is kept, in a book with the same moments
pub record Leads (book : Book) (qs : List Queue) (t : CoreStep) : Type 0 where
  pub sends : Sends t
  pub more : Book
  pub moments : more.moments ≡ book.moments
  pub opening : more.opening ≡ book.opening
  pub kept : IsKept more t.core (queues_after qs t sends)

-- a wire carries what is on its way; of a session that is no client's nothing is known but that nothing comes down it, and that bytes go up
abbrev pub IsCarried : (is_raw : Bool) → Wire → Mix → Type 0
IsCarried true q m = (q.down ≡ []) × AreBytes q.up × AreBytes q.server_end.rest
IsCarried false q m = Carries q m

-- wires carry what is on its way, one by one
abbrev pub CarryAll : List Session → List Wire → List Mix → Type 0
CarryAll sessions wires ms = (length wires ≡ length ms) × ((n : ℕ) (x : Session) (q : Wire) (m : Mix) → numbered sessions n ≡ Some x → numbered wires n ≡ Some q → numbered ms n ≡ Some m → IsCarried (is_raw x) q m)

-- what is sent to a session that is no client's vanishes
abbrev pub AreDeaf : List Session → Type 0
AreDeaf sessions = (n : ℕ) (x : Session) → numbered sessions n ≡ Some x → is_raw x ≡ true → x.cut ≡ true

-- each session has the owner that it had, or is new
abbrev pub OwnersStay : List Session → List Session → Type 0
OwnersStay sessions after = (n : ℕ) (y : Session) → numbered after n ≡ Some y → ((x : Session) × (numbered sessions n ≡ Some x) × (y.owner ≡ x.owner)) ⊎ (n ≡ suc (length sessions))

-- what is sent up is sent by a client
abbrev pub IsSentOwned : CoreStep → Type 0
IsSentOwned t = (n : ℕ) (x : Session) → t.session ≡ Some n → numbered t.core.sessions n ≡ Some x → is_raw x ≡ false

-- ---- wanted

abbrev pub RoutesCarry : Type 0
RoutesCarry = (sessions : List Session) (wires : List Wire) (ms : List Mix) (t : CoreStep) (s : Sends t) → OwnersStay sessions t.core.sessions → AreDeaf t.core.sessions → IsSentOwned t → length sessions ≡ length ms → CarryAll sessions wires ms → CarryAll t.core.sessions (down_put t.core.sessions (up_put t.core.sessions (lost_by wires t.loss) t.session t.up) t.down) (mixes_after ms t s)

-- the number of a session that can be made is not used up
abbrev pub KeptJoins : Type 0
KeptJoins = (book : Book) (k : Core) (qs : List Queue) (c : ℕ) → IsKept book k qs → IsNoted book k (Joins c) → k.server.sessions_made < 4294967295 → length k.server.sessions < 64
    → ((seat : Seat) → numbered k.seats c ≡ Some seat → seat.client.linked ≡ false) → Leads book qs (happens k (Joins c))

abbrev pub KeptHangs : Type 0
KeptHangs = (book : Book) (k : Core) (qs : List Queue) (n : ℕ) → IsKept book k qs → IsNoted book k (Hangs n) → Leads book qs (happens k (Hangs n))

abbrev pub KeptCuts : Type 0
KeptCuts = (book : Book) (k : Core) (qs : List Queue) (c : ℕ) → IsKept book k qs → IsNoted book k (Cuts c) → Leads book qs (happens k (Cuts c))

abbrev pub KeptSettles : Type 0
KeptSettles = (book : Book) (k : Core) (qs : List Queue) (now : ℕ) → IsKept book k qs → IsNoted book k (Settles now) → Leads book qs (happens k (Settles now))

-- a command names a file by a number of 64 bits, as every command that was read does
abbrev pub KeptDoes : Type 0
KeptDoes = (book : Book) (k : Core) (qs : List Queue) (c now : ℕ) (d : Command) → IsSmall d → IsKept book k qs → IsNoted book k (Does c now d) → Leads book qs (happens k (Does c now d))

-- the first call on its way is taken, and the first answer
abbrev pub KeptServes : Type 0
KeptServes = (book : Book) (k : Core) (qs : List Queue) (n now : ℕ) (q : Queue) (a : Ask) (us : List Ask) → IsKept book k qs → numbered qs n ≡ Some q → q.ups ≡ a ∷ us
    → IsNoted book k (Serves n now (message_spell (ask_message a))) → Leads book (with_numbered qs n (record q { ups = us })) (happens k (Serves n now (message_spell (ask_message a))))

abbrev pub KeptHears : Type 0
KeptHears = (book : Book) (k : Core) (qs : List Queue) (n now : ℕ) (q : Queue) (t : Told) (ts : List Told) → IsKept book k qs → numbered qs n ≡ Some q → q.downs ≡ t ∷ ts
    → IsNoted book k (Hears n now (message_spell (told_message t))) → Leads book (with_numbered qs n (record q { downs = ts })) (happens k (Hears n now (message_spell (told_message t))))

-- an answer to a RECALL is taken, whether it is waited for or not, and a RECALL: of calls and answers nothing moves
abbrev pub KeptReplies : Type 0
KeptReplies = (book : Book) (k : Core) (qs : List Queue) (n now xid : ℕ) (x : Session) → numbered k.sessions n ≡ Some x → x.hung ≡ false → xid < 4294967296 → IsKept book k qs → IsNoted book k (Serves n now (message_spell (reply_message xid))) → Leads book qs (happens k (Serves n now (message_spell (reply_message xid))))

abbrev pub KeptRecalls : Type 0
KeptRecalls = (book : Book) (k : Core) (qs : List Queue) (n now xid file : ℕ) → xid < 4294967296 → file < 18446744073709551616 → IsKept book k qs → IsNoted book k (Hears n now (message_spell (recall_message xid file))) → Leads book qs (happens k (Hears n now (message_spell (recall_message xid file))))

-- a session is made that is no client's
abbrev pub KeptRawJoins : Type 0
KeptRawJoins = (book : Book) (k : Core) (qs : List Queue) → IsKept book k qs → IsNoted book k RawJoins → k.server.sessions_made < 4294967295 → length k.server.sessions < 64 → Leads book qs (happens k RawJoins)

-- and sends whatever it sends
abbrev pub KeptRaws : Type 0
KeptRaws = (book : Book) (k : Core) (qs : List Queue) (n now : ℕ) (bytes : List ℕ) (x : Session) → numbered k.sessions n ≡ Some x → is_raw x ≡ true → AreBytes bytes → IsKept book k qs → IsNoted book k (Serves n now bytes) → Leads book qs (happens k (Serves n now bytes))
