-- What becomes of the changes that are pending at the server in each step of a run, and of the leases that hold them up (Gray and Cheriton, SOSP 1989): a change
-- waits no longer than these last, and than those that stand before it.
use Rattle.std.specs.Prelude.{◌≡◌, ◌⊎◌, ℕ, ◌+◌, ◌<◌, ◌≤◌, List, [], ◌∷◌, ◌++◌, length, true, nat_le, max, remove, Option, Some, None, Ok, Err, Contains, slice_get}
use Rattle.std.specs.Option.{option_map}
use Rattle.limits.specs.declared.TheConstants.{XIDS_MOST}
use Rattle.xdr_codec.specs.Handle.{file_of, handle_bytes}
use Rattle.hash_calls.specs.declared.message.Back.TheVariants as back
use Rattle.hash_calls.specs.declared.message.Lb.TheVariants as lb
use Rattle.nfs3_calls.specs.declared.message.Nfs.TheVariants as nfs
use Rattle.wire.specs.Parse.{parse_of}
use Rattle.wire.specs.declared.fault.WireFault.{WireFault}
use Rattle.wire.specs.declared.fault.WireFault.TheVariants as fault
use Rattle.wire.specs.declared.message.Body.{Body}
use Rattle.wire.specs.declared.message.Body.TheVariants as body
use Rattle.wire.specs.declared.message.Message.TheVariants as message
use Rattle.tree_nodes.specs.declared.node.Node.{Node}
use Rattle.tree_nodes.specs.Nodes.{named}
use Rattle.tree_reading.specs.Tree.{Tree}
use Rattle.lease_rules.specs.Changes.{asker}
use Rattle.lease_rules.specs.Leases.{is_others}
use Rattle.lease_rules.specs.declared.change.Kind.{Kind}
use Rattle.lease_rules.specs.declared.change.Kind.TheVariants as kind
use Rattle.lease_rules.specs.declared.lease.Lease.{Lease}
use Rattle.callback_core.specs.BackCalls.{waiting_at}
use Rattle.callback_core.specs.Waits.{without}
use Rattle.server_core.specs.Closing.{ready_by}
use Rattle.server_core.specs.State.{State, FileChange, stands}
use Rattle.server_core.specs.declared.change.Wanted.{Wanted}
use Rattle.server_core.specs.declared.change.Wanted.TheVariants as wanted
use Rattle.server_core.specs.declared.event.Sent.{Sent}
use Rattle.trace_ends.specs.Core.{Event, Event.Serves, Event.Settles, Event.Hangs, server_waiting, happens}
use Rattle.trace_ends.specs.Numbers.{numbered}
use Rattle.trace_ends.specs.Session.{Session, is_raw}
use Rattle.trace_replay.specs.Trail.{Moment, step_if}
use Rattle.trace_replay.specs.Chained.{sent_to}
use Rattle.trace_replay.specs.Numbered.{numbers_among, CountOn}
use Rattle.trace_replay.specs.Book.{Book}

-- a step of the run, at the server: what it was before and after, and what it sent
pub record Move : Type 0 where
  pub event : Event
  pub before : State
  pub after : State
  pub sent : List Sent

abbrev pub move_of : Moment → Move
move_of m = let t = happens m.before m.event in record { event = m.event; before = m.before.server; after = t.core.server; sent = t.down }

-- ---- the server's clock

-- the reading of the server's clock that an event carries
abbrev pub reading_of : Event → ℕ
reading_of (Serves session now bytes) = now
reading_of (Settles now) = now
reading_of e = 0

-- The term stays. The server's moment is the greatest reading that it went by. There is no quiet.
pub record KeepsTime (v : Move) : Type 0 where
  pub term : v.after.leasing.term ≡ v.before.leasing.term
  pub moment : (v.after.leasing.moment ≡ v.before.leasing.moment) ⊎ (v.after.leasing.moment ≡ max v.before.leasing.moment (reading_of v.event))
  pub quiet : v.before.leasing.quiet ≡ 0

-- ---- leases

-- the RECALL of a lease, under this number
abbrev pub recall_of : Lease → (xid : ℕ) → Sent
recall_of l xid = record { session = l.session; message = message.Call xid (body.Back (back.Recall (handle_bytes l.file))) }

-- the file on which a call asks for a lease
abbrev pub file_leased : Body → Option ℕ
file_leased (body.Lb (lb.GetLease z)) = file_of z.handle
file_leased (body.Lb (lb.GetHash r)) = file_of r.handle
file_leased b = None

-- what a COMMITTMP asks for
abbrev pub IsContent : Wanted → Type 0
IsContent (wanted.Content content) = Unit {0}
IsContent (wanted.Asked a) = ⊥

-- the server takes such a call of the session, or makes the change that its COMMITTMP asked for
abbrev pub GrantsTo : Move → (session file : ℕ) → Type 0
GrantsTo v session file =
    ((now xid : ℕ) × (bytes : List ℕ) × (call : Body) × (v.event ≡ Serves session now bytes) × (parse_of server_waiting bytes ≡ Ok (message.Call xid call)) × (file_leased call ≡ Some file))
    ⊎ ((now : ℕ) × (c : FileChange) × (v.event ≡ Settles now) × (ready_by v.before now ≡ Some c) × IsContent c.what × (c.session ≡ session) × (c.file ≡ file))

-- granted in this step: to a session that stands, from the moment on, for the term; and nobody has asked for it
pub record IsGranted (v : Move) (l : Lease) : Type 0 where
  pub to : GrantsTo v l.session l.file
  pub up : stands v.before l.session ≡ true
  pub ends : l.ends ≡ max v.before.leasing.moment (reading_of v.event) + v.before.leasing.term
  pub unasked : l.recall ≡ None

-- asked for in this step: its RECALL goes out, under the number that it remembers from now on
pub record IsAskedFor (v : Move) (l : Lease) : Type 0 where
  pub xid : ℕ
  pub recall : l.recall ≡ Some xid
  pub place : ℕ
  pub there : slice_get v.before.leasing.leases place ≡ Some (record l { recall = None })
  pub sent : Contains v.sent (recall_of l xid)

-- Each lease behind a step stood before, just so; or it is asked for, or granted, in this step.
abbrev pub LeasesCome : Move → Type 0
LeasesCome v = (i : ℕ) (l : Lease) → slice_get v.after.leasing.leases i ≡ Some l → ((j : ℕ) × (slice_get v.before.leasing.leases j ≡ Some l)) ⊎ (IsAskedFor v l ⊎ IsGranted v l)

-- the same lease, which was asked for by the same RECALL, or by none
pub record StoodIn (leases : List Lease) (l : Lease) : Type 0 where
  pub place : ℕ
  pub lease : Lease
  pub there : slice_get leases place ≡ Some lease
  pub session : lease.session ≡ l.session
  pub file : lease.file ≡ l.file
  pub ends : lease.ends ≡ l.ends
  pub recall : (lease.recall ≡ l.recall) ⊎ (lease.recall ≡ None)

-- No lease is granted on a file while a change of it is pending: each that there is stood before, and ended then, and one that a RECALL asked for remembers it.
abbrev pub GrantsNone : Move → Type 0
GrantsNone v = (i j : ℕ) (c : FileChange) (l : Lease) → slice_get v.after.waiting i ≡ Some c → slice_get v.after.leasing.leases j ≡ Some l → l.file ≡ c.file → StoodIn v.before.leasing.leases l

-- An answer to a RECALL gives up the leases of its session that remember it, and no others.
pub record GivesUp (v : Move) (session xid : ℕ) : Type 0 where
  pub gone : (i : ℕ) (l : Lease) → slice_get v.after.leasing.leases i ≡ Some l → l.session ≡ session → l.recall ≡ Some xid → ⊥
  pub others : (i : ℕ) (l : Lease) → slice_get v.before.leasing.leases i ≡ Some l → (l.session ≡ session → l.recall ≡ Some xid → ⊥) → (j : ℕ) × (slice_get v.after.leasing.leases j ≡ Some l)

-- So does each that says that the RECALL was done, on a session that stands.
abbrev pub FreesAnswered : Move → Type 0
FreesAnswered v = (session now xid : ℕ) (bytes : List ℕ) → v.event ≡ Serves session now bytes → stands v.before session ≡ true → parse_of (waiting_at v.before.leasing.calls session) bytes ≡ Ok (message.Answer xid (body.Back back.RecallAnswer)) → GivesUp v session xid

-- the numbers of the RECALLs that go down a session at these moments, in order
abbrev pub recall_numbers : (session : ℕ) → List Moment → List ℕ
recall_numbers session [] = []
recall_numbers session (m ∷ ms) = numbers_among (sent_to session (happens m.before m.event).down) ++ recall_numbers session ms

-- The session of a lease is asked for it by a RECALL of its file, under a number that the lease remembers; or by these moments it was sent as many RECALLs as
-- there are numbers.
abbrev pub AsksFor : (till : List Moment) → Move → Lease → Type 0
AsksFor till v l =
    ((xid : ℕ) × Contains v.sent (recall_of l xid) × (i : ℕ) × (slice_get v.after.leasing.leases i ≡ Some (record l { recall = Some xid })))
    ⊎ (XIDS_MOST ≤ length (recall_numbers l.session till))

-- So it is with each lease that holds a change up, hasn't ended at this reading, and was asked for by no RECALL, as far as its session stands.
abbrev pub AsksForAll : (till : List Moment) → Move → (now : ℕ) → FileChange → Type 0
AsksForAll till v now c = (i : ℕ) (l : Lease) → slice_get v.before.leasing.leases i ≡ Some l → l.file ≡ c.file → is_others l (asker c) ≡ true → max v.before.leasing.moment now < l.ends → l.recall ≡ None → stands v.before l.session ≡ true → AsksFor till v l

-- ---- a change comes

abbrev pub name_in : Tree → (dir : Option ℕ) → List ℕ → Option ℕ
name_in t None name = None
name_in t (Some dir) name = option_map (λ (n : Node). n.id) (named t.nodes dir name)

-- The file that a call asks to change: that of a COMMITTMP's handle, what a REMOVE's name stands for, and what the new name of a RENAME stands for, which goes.
abbrev pub file_asked : Tree → Body → Option ℕ
file_asked t (body.Lb (lb.CommitTmp a)) = file_of a.handle
file_asked t (body.Nfs (nfs.Remove a)) = name_in t (file_of a.dir) a.name
file_asked t (body.Nfs (nfs.Rename a)) = name_in t (file_of a.to.dir) a.to.name
file_asked t b = None

-- what it is to do to it
abbrev pub kind_asked : Body → Option Kind
kind_asked (body.Lb (lb.CommitTmp a)) = Some kind.Commit
kind_asked (body.Nfs (nfs.Remove a)) = Some kind.Remove
kind_asked (body.Nfs (nfs.Rename a)) = Some kind.Rename
kind_asked b = None

-- The server takes a call of a session, which is a change from now on: of the file that it asks to change, behind all others. And the leases that hold it up are
-- asked for.
pub record Comes (till : List Moment) (v : Move) (session now : ℕ) (bytes : List ℕ) (c : FileChange) : Type 0 where
  pub call : Body
  pub read : parse_of server_waiting bytes ≡ Ok (message.Call c.xid call)
  pub session_is : c.session ≡ session
  pub file_is : file_asked v.before.tree call ≡ Some c.file
  pub kind_is : kind_asked call ≡ Some c.kind
  pub behind : v.after.waiting ≡ v.before.waiting ++ c ∷ []
  pub asks : AsksForAll till v now c

-- an answer to a call that doesn't wait closes no session, but all else that is no message does
abbrev pub EndsSession : WireFault → Type 0
EndsSession (fault.UnknownXid xid) = ⊥
EndsSession e = Unit {0}

-- these bytes of a session are no message, by which the server closes it
abbrev pub ClosedBy : Move → (session : ℕ) → (bytes : List ℕ) → Type 0
ClosedBy v session bytes = (e : WireFault) × (parse_of (waiting_at v.before.leasing.calls session) bytes ≡ Err e) × EndsSession e

-- a session that is closed so is no client's
abbrev pub ClosesRaw : Moment → Type 0
ClosesRaw m = (session now : ℕ) (bytes : List ℕ) (x : Session) → m.event ≡ Serves session now bytes → numbered m.before.sessions session ≡ Some x → ClosedBy (move_of m) session bytes → is_raw x ≡ true

-- How the list of pending changes goes on: one comes, one is taken out by a settling, or the change of a session goes with it; and the others stay, in order.
abbrev pub GoesOn : (till : List Moment) → Event → Move → Type 0
GoesOn till (Serves session now bytes) v = (v.after.waiting ≡ v.before.waiting) ⊎ (((c : FileChange) × Comes till v session now bytes c) ⊎ (ClosedBy v session bytes × (v.after.waiting ≡ without v.before.waiting session)))
GoesOn till (Settles now) v = (v.after.waiting ≡ v.before.waiting) ⊎ ((place : ℕ) × (c : FileChange) × (ready_by v.before now ≡ Some c) × (slice_get v.before.waiting place ≡ Some c) × (v.after.waiting ≡ remove v.before.waiting place))
GoesOn till (Hangs session) v = v.after.waiting ≡ without v.before.waiting session
GoesOn till e v = v.after.waiting ≡ v.before.waiting

-- ---- it waits no longer than leases

-- From this reading on nothing holds the change at this place up but others before it: neither it nor one of its file that stands before it is held up by a lease,
-- since each on that ends by then, but for the session's own under its COMMITTMP.
pub record IsFreeBy (s : State) (reading place : ℕ) (c : FileChange) : Type 0 where
  pub there : slice_get s.waiting place ≡ Some c
  pub ended : (i j : ℕ) (d : FileChange) (l : Lease) → i ≤ place → slice_get s.waiting i ≡ Some d → d.file ≡ c.file → slice_get s.leasing.leases j ≡ Some l → l.file ≡ c.file → is_others l (asker d) ≡ true → l.ends ≤ reading

-- At each moment at which nothing holds it up, it is ready, or one that stands before it: that a settling makes (`TakesReady`).
abbrev pub AreReady : Book → Type 0
AreReady book = (m : Moment) (now place : ℕ) (c : FileChange) → Contains book.moments m → IsFreeBy m.before.server (max m.before.server.leasing.moment now) place c
    → (d : FileChange) × (i : ℕ) × (i ≤ place) × (slice_get m.before.server.waiting i ≡ Some d) × (ready_by m.before.server now ≡ Some d)

-- how many settlings there are at this reading or a later one
abbrev pub settling_at : (reading : ℕ) → Event → ℕ
settling_at reading (Settles now) = step_if (nat_le reading now)
settling_at reading e = 0

abbrev pub settlings : (reading : ℕ) → List Moment → ℕ
settlings reading [] = 0
settlings reading (m ∷ ms) = settling_at reading m.event + settlings reading ms

-- the change is taken out in this step: by a settling, or its session is lost or closed
abbrev pub TakesOut : Moment → FileChange → Type 0
TakesOut m c =
    ((now : ℕ) × (m.event ≡ Settles now) × (ready_by m.before.server now ≡ Some c))
    ⊎ ((m.event ≡ Hangs c.session) ⊎ ((now : ℕ) × (bytes : List ℕ) × (m.event ≡ Serves c.session now bytes) × ClosedBy (move_of m) c.session bytes))

-- Where from a moment and a reading on nothing holds it up but others before it, it is taken out by as many settlings as its place, counted from 1: whatever else
-- happens among them, and whatever comes.
abbrev pub AreSettledSoon : Book → Type 0
AreSettledSoon book = (early span late : List Moment) (m : Moment) (reading place : ℕ) (c : FileChange) → book.moments ≡ early ++ m ∷ (span ++ late) → IsFreeBy m.before.server reading place c → place < settlings reading (m ∷ span)
    → (n : Moment) × Contains (m ∷ span) n × TakesOut n c

-- ---- all of it

pub record WaitInTurn (book : Book) : Type 0 where
  pub goes_on : (early late : List Moment) (m : Moment) → book.moments ≡ early ++ m ∷ late → GoesOn (early ++ m ∷ []) m.event (move_of m)
  -- the RECALLs that go down a session are numbered from 1 on
  pub numbered : (session : ℕ) → CountOn 1 (recall_numbers session book.moments)
  pub keeps : (m : Moment) → Contains book.moments m → KeepsTime (move_of m)
  pub come : (m : Moment) → Contains book.moments m → LeasesCome (move_of m)
  pub grants_none : (m : Moment) → Contains book.moments m → GrantsNone (move_of m)
  pub frees : (m : Moment) → Contains book.moments m → FreesAnswered (move_of m)
  pub ready : AreReady book
  pub soon : AreSettledSoon book
