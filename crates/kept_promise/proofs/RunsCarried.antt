-- What a run carries, event by event: what the laws of events give before and after each, and what is asked of any further fact.
use Rattle.std.proofs.Common.{◌⊎◌, ◌≡◌, ℕ, ◌<◌, List, [], ◌∷◌, ◌++◌, length, Some, false, map, replicate, true}
use Rattle.server_core.specs.State as server
use Rattle.lease_law.specs.Claims.{recall_message}
use Rattle.kept_promise.proofs.Statements.{IsSpoken}
use Rattle.kept_promise.proofs.Common.{message_spell, Indexed, Opening, Core, Seat, new_seat, Session, Event, Event.Joins, Event.Does, Event.Serves, Event.Hears, Event.Settles, Event.Cuts, Event.Hangs, numbered, with_numbered, happens, World, Moment, Book, book_of, Ask, Told, Queue, ask_message, told_message, reply_message, Up, Down, up_message, down_message, Mix, queue_of, Tree, Event.RawJoins, is_raw}
use Rattle.kept_promise.proofs.PathNames.{IsSmall}
use Rattle.kept_promise.proofs.Facts.{IsKept}
use Rattle.kept_promise.proofs.Adjusts.{SameSeats, adjusted_core}
use Rattle.kept_promise.proofs.Rounds.{AreRested}
use Rattle.kept_promise.proofs.Leading.{Sends, queues_after, mixes_after, IsNoted, CarryAll, KeptJoins, KeptHangs, KeptCuts, KeptSettles, KeptDoes, KeptServes, KeptReplies, KeptHears, KeptRecalls, KeptRawJoins, KeptRaws}
use Rattle.kept_promise.proofs.Mixes.{AreMixes}
use Rattle.kept_promise.proofs.SentBytes.{AreBytes}

-- ---- the laws of events

pub record KeptLaws : Type 0 where
  pub joins : KeptJoins
  pub hangs : KeptHangs
  pub cuts : KeptCuts
  pub settles : KeptSettles
  pub does : KeptDoes
  pub serves : KeptServes
  pub replies : KeptReplies
  pub hears : KeptHears
  pub recalls : KeptRecalls
  pub raw_joins : KeptRawJoins
  pub raws : KeptRaws

-- ---- the two ends and their book

-- the book of two ends, with the moments of a whole run
abbrev pub book_at : List Opening → Core → (all : List Moment) → Book
book_at opening k all = record { lbfs = k.lbfs; opening = opening; ops = k.ops; raws = k.raws; steps = k.steps; journal = k.server.journal; entries = k.entries; moments = all }

-- what the header of a trace says: the server's term, how far clocks may drift apart, the version of LBFS that clients speak, and how many clients there are
pub record Header : Type 0 where
  pub term : ℕ
  pub term_fits : term < 4294967296
  pub drift : ℕ
  pub lbfs : ℕ
  pub lbfs_fits : IsSpoken lbfs
  pub count : ℕ

-- the two ends before the first event
abbrev pub first_core : Tree → Header → Core
first_core tree h = record {
  server = server.with_term (record server.empty { tree = tree }) h.term;
  drift = h.drift;
  lbfs = h.lbfs;
  seats = replicate h.count (new_seat h.drift h.lbfs);
  sessions = [];
  steps = 0;
  ops = [];
  entries = [];
  came = [];
  raws = [];
}

abbrev pub moment : Core → Event → Moment
moment k e = record { before = k; event = e }

-- ---- one event

-- a record that comes is that of the first call on its way, which is taken off its queue
abbrev pub FindsAsk : List Queue → (n : ℕ) → (bytes : List ℕ) → (mid : List Queue) → Type 0
FindsAsk qs n bytes mid = (q : Queue) × (a : Ask) × (us : List Ask) × (numbered qs n ≡ Some q) × (q.ups ≡ a ∷ us) × (bytes ≡ message_spell (ask_message a)) × (mid ≡ with_numbered qs n (record q { ups = us }))

-- or that of an answer to a RECALL, and of the calls none is taken
pub record FindsReply (k : Core) (qs : List Queue) (n : ℕ) (bytes : List ℕ) (mid : List Queue) : Type 0 where
  pub session : Session
  pub at : numbered k.sessions n ≡ Some session
  pub unhung : session.hung ≡ false
  pub xid : ℕ
  pub fits : xid < 4294967296
  pub bytes_is : bytes ≡ message_spell (reply_message xid)
  pub mid_is : mid ≡ qs

-- or the session is no client's, and sends any bytes
abbrev pub FindsRaw : Core → List Queue → (n : ℕ) → (bytes : List ℕ) → (mid : List Queue) → Type 0
FindsRaw k qs n bytes mid = (x : Session) × (numbered k.sessions n ≡ Some x) × (is_raw x ≡ true) × (mid ≡ qs) × AreBytes bytes

-- so it is with answers, and with RECALLs, which come to nobody who left
abbrev pub FindsTold : List Queue → (n : ℕ) → (bytes : List ℕ) → (mid : List Queue) → Type 0
FindsTold qs n bytes mid = (q : Queue) × (t : Told) × (ts : List Told) × (numbered qs n ≡ Some q) × (q.downs ≡ t ∷ ts) × (bytes ≡ message_spell (told_message t)) × (mid ≡ with_numbered qs n (record q { downs = ts }))

pub record FindsRecall (k : Core) (qs : List Queue) (n : ℕ) (bytes : List ℕ) (mid : List Queue) : Type 0 where
  pub session : Session
  pub at : numbered k.sessions n ≡ Some session
  pub uncut : session.cut ≡ false
  pub xid : ℕ
  pub file : ℕ
  pub xid_fits : xid < 4294967296
  pub file_fits : file < 18446744073709551616
  pub bytes_is : bytes ≡ message_spell (recall_message xid file)
  pub mid_is : mid ≡ qs

-- what an event of a run finds: it names what is there, and what comes
abbrev pub Finds : Core → List Queue → Event → (mid : List Queue) → Type 0
Finds k qs (Joins c) mid = (seat : Seat) × (numbered k.seats c ≡ Some seat) × (seat.client.linked ≡ false) × (k.server.sessions_made < 4294967295) × (length k.server.sessions < 64) × (mid ≡ qs)
Finds k qs (Does c now d) mid = (seat : Seat) × (numbered k.seats c ≡ Some seat) × IsSmall d × (mid ≡ qs)
Finds k qs (Serves n now bytes) mid = FindsAsk qs n bytes mid ⊎ (FindsReply k qs n bytes mid ⊎ FindsRaw k qs n bytes mid)
Finds k qs (Hears n now bytes) mid = FindsTold qs n bytes mid ⊎ FindsRecall k qs n bytes mid
Finds k qs (Settles now) mid = mid ≡ qs
Finds k qs (Cuts c) mid = (seat : Seat) × (numbered k.seats c ≡ Some seat) × (mid ≡ qs)
Finds k qs (Hangs n) mid = (x : Session) × (numbered k.sessions n ≡ Some x) × (mid ≡ qs)
Finds k qs RawJoins mid = (k.server.sessions_made < 4294967295) × (length k.server.sessions < 64) × (mid ≡ qs)

-- An event of a run, of which all moments are these: those that are past, this one, and the rest. `mid` are the queues without what is
-- taken, and `after` those with what is sent.
pub record Step (all past rest : List Moment) (opening : List Opening) (k : Core) (qs : List Queue) (e : Event) (mid after : List Queue) : Type 0 where
  pub split : all ≡ past ++ moment k e ∷ rest
  pub kept : IsKept (book_at opening k all) k qs
  pub noted : IsNoted (book_at opening k all) k e
  pub finds : Finds k qs e mid
  pub sends : Sends (happens k e)
  pub after_is : after ≡ queues_after mid (happens k e) sends
  pub left : IsKept (book_at opening (happens k e).core all) (happens k e).core after
  -- and the same of what has happened by now, before it and behind it
  pub early : IsKept (book_at opening k past) k qs
  pub left_early : IsKept (book_at opening (happens k e).core (past ++ moment k e ∷ [])) (happens k e).core after

-- ---- with RECALLs and their answers among what is on its way

-- what comes up is the first of what is on its way
abbrev pub FindsUp : List Mix → (n : ℕ) → (bytes : List ℕ) → (mid : List Mix) → Type 0
FindsUp ms n bytes mid = (m : Mix) × (u : Up) × (us : List Up) × (numbered ms n ≡ Some m) × (m.ups ≡ u ∷ us) × (bytes ≡ message_spell (up_message u)) × (mid ≡ with_numbered ms n (record m { ups = us }))

-- or the session is no client's
abbrev pub FindsRawMix : Core → List Mix → (n : ℕ) → (bytes : List ℕ) → (mid : List Mix) → Type 0
FindsRawMix k ms n bytes mid = (x : Session) × (numbered k.sessions n ≡ Some x) × (is_raw x ≡ true) × (mid ≡ ms) × AreBytes bytes

abbrev pub FindsMix : Core → List Mix → Event → (mid : List Mix) → Type 0
FindsMix k ms (Serves n now bytes) mid = FindsUp ms n bytes mid ⊎ FindsRawMix k ms n bytes mid
FindsMix k ms (Hears n now bytes) mid = (m : Mix) × (d : Down) × (ds : List Down) × (numbered ms n ≡ Some m) × (m.downs ≡ d ∷ ds) × (bytes ≡ message_spell (down_message d)) × (mid ≡ with_numbered ms n (record m { downs = ds }))
FindsMix k ms (Joins c) mid = Finds k (map queue_of ms) (Joins c) (map queue_of ms) × (mid ≡ ms)
FindsMix k ms (Does c now d) mid = Finds k (map queue_of ms) (Does c now d) (map queue_of ms) × (mid ≡ ms)
FindsMix k ms (Settles now) mid = Finds k (map queue_of ms) (Settles now) (map queue_of ms) × (mid ≡ ms)
FindsMix k ms (Cuts c) mid = Finds k (map queue_of ms) (Cuts c) (map queue_of ms) × (mid ≡ ms)
FindsMix k ms (Hangs n) mid = Finds k (map queue_of ms) (Hangs n) (map queue_of ms) × (mid ≡ ms)
FindsMix k ms RawJoins mid = Finds k (map queue_of ms) RawJoins (map queue_of ms) × (mid ≡ ms)

-- the same event
pub record MixStep (all past rest : List Moment) (opening : List Opening) (k : Core) (ms : List Mix) (e : Event) (mid after : List Mix) : Type 0 where
  pub plain : Step all past rest opening k (map queue_of ms) e (map queue_of mid) (map queue_of after)
  pub found : FindsMix k ms e mid
  pub sent : Sends (happens k e)
  pub after_is : after ≡ mixes_after mid (happens k e) sent
  pub fit : AreMixes k.sessions ms
  pub left_fit : AreMixes (happens k e).core.sessions after

-- ---- what is carried

-- A further fact, of all moments of a run, of those that are past, and of the two ends and what is on its way then, without RECALLs. It is to hold
-- before the first event, and to be kept by each.
pub record Carried (P : (all past : List Moment) → List Opening → Core → List Queue → Type 0) : Type 0 where
  pub first : (all : List Moment) (opening : List Opening) (tree : Tree) (h : Header) → IsKept (book_at opening (first_core tree h) all) (first_core tree h) []
      → P all [] opening (first_core tree h) []
  pub steps : (all past rest : List Moment) (opening : List Opening) (k : Core) (qs : List Queue) (e : Event) (mid after : List Queue) → Step all past rest opening k qs e mid after → P all past opening k qs
      → P all (past ++ moment k e ∷ []) opening (happens k e).core after
  -- another index, or other contents that are kept, change nothing of it
  pub adjusts : (all past : List Moment) (opening : List Opening) (k : Core) (qs : List Queue) (index : Indexed) (seats : List Seat) → SameSeats k.seats seats → P all past opening k qs → P all past opening (adjusted_core k index seats) qs

-- one that speaks of RECALLs
pub record CarriedMix (P : (all past : List Moment) → List Opening → Core → List Mix → Type 0) : Type 0 where
  pub first : (all : List Moment) (opening : List Opening) (tree : Tree) (h : Header) → IsKept (book_at opening (first_core tree h) all) (first_core tree h) []
      → P all [] opening (first_core tree h) []
  pub steps : (all past rest : List Moment) (opening : List Opening) (k : Core) (ms : List Mix) (e : Event) (mid after : List Mix) → MixStep all past rest opening k ms e mid after → P all past opening k ms
      → P all (past ++ moment k e ∷ []) opening (happens k e).core after
  pub adjusts : (all past : List Moment) (opening : List Opening) (k : Core) (ms : List Mix) (index : Indexed) (seats : List Seat) → SameSeats k.seats seats → P all past opening k ms → P all past opening (adjusted_core k index seats) ms

-- a fact that doesn't is one that could
pub lifted : (P : (all past : List Moment) → List Opening → Core → List Queue → Type 0) → Carried P → CarriedMix (λ all past opening k ms. P all past opening k (map queue_of ms))
lifted P c = record {
  first = c.first;
  steps = λ all past rest opening k ms e mid after s h. c.steps all past rest opening k (map queue_of ms) e (map queue_of mid) (map queue_of after) s.plain h;
  adjusts = λ all past opening k ms index seats same h. c.adjusts all past opening k (map queue_of ms) index seats same h;
}

-- both
pub both_carried : (P Q : (all past : List Moment) → List Opening → Core → List Mix → Type 0) → CarriedMix P → CarriedMix Q → CarriedMix (λ all past opening k ms. P all past opening k ms × Q all past opening k ms)
both_carried P Q a b = record {
  first = λ all opening tree h kept. (a.first all opening tree h kept, b.first all opening tree h kept);
  steps = λ all past rest opening k ms e mid after s h. (a.steps all past rest opening k ms e mid after s h.0, b.steps all past rest opening k ms e mid after s h.1);
  adjusts = λ all past opening k ms index seats same h. (a.adjusts all past opening k ms index seats same h.0, b.adjusts all past opening k ms index seats same h.1);
}

-- ---- what a run leaves

pub record Stands (P : (all past : List Moment) → List Opening → Core → List Mix → Type 0) (all past : List Moment) (w : World) : Type 0 where
  pub mixes : List Mix
  pub fit : AreMixes w.core.sessions mixes
  pub kept : IsKept (book_of w all) w.core (map queue_of mixes)
  pub early : IsKept (book_of w past) w.core (map queue_of mixes)
  pub carry : CarryAll w.core.sessions w.wires mixes
  pub rested : AreRested w
  pub more : P all past w.opening w.core mixes
