-- What a client may rely on by a lease (Gray and Cheriton, SOSP 1989), at a server of many sessions and files. A claim is the right to take a version of a
-- file for its present one. A client has one by each note, and by each answer that it waits for. A claim is spent once the server's clock has come far
-- enough; else it is held: the file has that version, and a lease guards it that nobody gives up before the client has read all that is on its way to it.
use Rattle.std.specs.Prelude.{◌≡◌, ◌⊎◌, ℕ, ◌+◌, ◌<◌, ◌≤◌, List, [], ◌∷◌, Option, Some, None, Bool, true, false, ◌&&◌, ◌==◌}
use Rattle.std.specs.List.{list_any, AllByRecursion}
use Rattle.std.specs.Option.{option_map}
use Rattle.clock_rule.specs.declared.rule.Note.{Note as Noted}
use Rattle.xdr_codec.specs.Handle.{file_of, handle_bytes}
use Rattle.hash_calls.specs.declared.message.Back.TheVariants as back
use Rattle.hash_calls.specs.declared.message.Lb.TheVariants as lb
use Rattle.wire.specs.declared.message.Body.TheVariants as body
use Rattle.wire.specs.declared.message.Message.{Message}
use Rattle.wire.specs.declared.message.Message.TheVariants as message
use Rattle.lease_rules.specs.declared.lease.Lease.{Lease}
use Rattle.lease_rules.specs.Changes.{asker, is_about}
use Rattle.lease_table.specs.Leases.{lease_at}
use Rattle.tree_reading.specs.Tree.{Tree}
use Rattle.chunk_calls.specs.Files.{file_at}
use Rattle.server_core.specs.Leasing.{Leasing}
use Rattle.server_core.specs.State.{State, FileChange}

-- ---- messages

-- the RECALL of a file
abbrev pub recall_message : (xid file : ℕ) → Message
recall_message xid file = message.Call xid (body.Back (back.Recall (handle_bytes file)))

-- the call that a message answers
abbrev pub answered_by : Message → Option ℕ
answered_by (message.Answer xid b) = Some xid
answered_by m = None

-- the xid of a call
abbrev pub called_by : Message → Option ℕ
called_by (message.Call xid b) = Some xid
called_by m = None

-- the file whose next content a message asks for: a COMMITTMP's
abbrev pub stored_by : Message → Option ℕ
stored_by (message.Call xid (body.Lb (lb.CommitTmp a))) = file_of a.handle
stored_by m = None

abbrev pub IsAmong : {A : Type 0} → A → List A → Type 0
IsAmong x [] = ⊥
IsAmong x (y ∷ ys) = (y ≡ x) ⊎ IsAmong x ys

-- what is on its way on a session to the server, and whether its client reads no more of what comes
pub record Way : Type 0 where
  pub ups : List Message
  pub cut : Bool

-- ---- what guards a claim

-- the RECALL that was sent is still to be read, or nothing is read any more
abbrev pub IsUnread : Option ℕ → (file : ℕ) → (cut : Bool) → (behind : List Message) → Type 0
IsUnread None file cut behind = Unit {0}
IsUnread (Some xid) file cut behind = IsAmong (recall_message xid file) behind ⊎ (cut ≡ true)

-- a message doesn't answer that RECALL, nor asks for a next content of the file
abbrev pub Spares : Option ℕ → (file : ℕ) → Message → Type 0
Spares recall file m = ((xid : ℕ) → answered_by m ≡ Some xid → recall ≡ Some xid → ⊥) × (stored_by m ≡ Some file → ⊥)

-- a change of the file that the session's lease doesn't hold up: its own COMMITTMP
abbrev pub is_own : (session file : ℕ) → FileChange → Bool
is_own session file c = (asker c == session) && is_about c file

-- none waits
abbrev pub IsAlone : List FileChange → (session file : ℕ) → Type 0
IsAlone waiting session file = list_any (is_own session file) waiting ≡ false

-- a lease of the session on the file lasts until this reading at least, and nobody gives it up before these messages are read
pub record IsGuarded (leases : List Lease) (waiting : List FileChange) (session file limit : ℕ) (way : Way) (behind : List Message) : Type 0 where
  pub lease : Lease
  pub there : lease_at leases session file ≡ Some lease
  pub lasts : limit ≤ lease.ends
  pub unread : IsUnread lease.recall file way.cut behind
  pub spared : AllByRecursion (Spares lease.recall file) way.ups
  pub alone : IsAlone waiting session file

-- ---- claims

-- what is claimed on a session, by a call that was sent when the server's clock had shown this last
pub record Claim : Type 0 where
  pub session : ℕ
  pub file : ℕ
  pub version : ℕ
  pub base : ℕ

-- none where there is no such file
abbrev pub version_at : Tree → (file : ℕ) → Option ℕ
version_at t file = option_map (λ f. f.version) (file_at t file)

-- the lease that was granted to the call ends there, or later
abbrev pub limit_of : Leasing → Claim → ℕ
limit_of g c = c.base + g.term

-- spent, or held; no change is made before the quiet ends
abbrev pub IsSafe : State → (clock : ℕ) → Claim → Way → (behind : List Message) → Type 0
IsSafe s clock c way behind =
    (limit_of s.leasing c ≤ clock)
    ⊎ ((version_at s.tree c.file ≡ Some c.version) × ((limit_of s.leasing c ≤ s.leasing.quiet) ⊎ IsGuarded s.leasing.leases s.waiting c.session c.file (limit_of s.leasing c) way behind))

abbrev pub IsClaim : State → (clock : ℕ) → Claim → Way → (behind : List Message) → Type 0
IsClaim s clock c way behind = (c.base ≤ clock) × IsSafe s clock c way behind

-- ---- what a client has by claims

-- a client's reading, and the server's last one beside it
abbrev pub noted_at : (client reading server : ℕ) → Noted
noted_at client reading server = record { client = client; reading = reading; server = server }

-- a client may take the version, by a call that it sent at this reading of its own clock
pub record HasClaim (s : State) (clock : ℕ) (noted : List Noted) (client session file version sent : ℕ) (way : Way) (behind : List Message) : Type 0 where
  pub base : ℕ
  pub known : IsAmong (noted_at client sent base) noted
  pub claim : IsClaim s clock (record { session = session; file = file; version = version; base = base }) way behind

-- so is what is noted: until the drift before the lease could end
pub record IsNote (s : State) (clock drift : ℕ) (noted : List Noted) (client session file version until : ℕ) (way : Way) (behind : List Message) : Type 0 where
  pub sent : ℕ
  pub ends : until + drift ≡ sent + s.leasing.term
  pub some : drift < s.leasing.term
  pub has : HasClaim s clock noted client session file version sent way behind

-- and what an answer that is waited for lets the client note, where it tells a term that is above the drift
abbrev pub IsPromise : State → (clock drift : ℕ) → List Noted → (client session file version term sent : ℕ) → Way → (behind : List Message) → Type 0
IsPromise s clock drift noted client session file version term sent way behind =
    drift < term → (term ≡ s.leasing.term) × HasClaim s clock noted client session file version sent way behind
