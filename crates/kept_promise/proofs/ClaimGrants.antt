-- What a server's step tells of leases: only answers to GETLEASE, GETHASH and COMMITTMP do.
use Rattle.std.proofs.Common.{◌≡◌, ℕ, List, [], ◌∷◌, length, Option, Some, None, Result, Ok, Err, Bool, true, false, refl, map}
use Rattle.std.specs.Prelude.{◌==◌, cond, filter, nat_lt, if◌then◌else◌}
use Rattle.std.specs.List.{AllByRecursion}
use Rattle.xdr_codec.specs.declared.answer.Answer.TheVariants.{Done, Failed}
use Rattle.xdr_codec.specs.declared.status.Status.{Status}
use Rattle.xdr_codec.specs.declared.status.Status.TheVariants as status
use Rattle.hash_calls.specs.declared.call.Commit.{Commit}
use Rattle.hash_calls.specs.declared.call.CondPiece.{CondPiece}
use Rattle.hash_calls.specs.declared.call.TempPiece.{TempPiece}
use Rattle.hash_calls.specs.declared.message.Lb.TheVariants as lb
use Rattle.nfs3_calls.specs.declared.message.Nfs.TheVariants as nfs
use Rattle.wire.specs.declared.message.Body.{Body}
use Rattle.wire.specs.declared.message.Body.TheVariants as body
use Rattle.wire.specs.declared.message.Message.{Message}
use Rattle.wire.specs.declared.message.Message.TheVariants as message
use Rattle.temp_files.specs.Pieces.{size_most}
use Rattle.temp_files.specs.Temps.{Temp, temp_at, room_fault, piece_fault, without_temp, assembled}
use Rattle.callback_core.specs.declared.back_calls.Asked.{Asked}
use Rattle.callback_core.specs.BackCalls.{asks}
use Rattle.tree_reading.specs.Tree.{Tree}
use Rattle.tree_calls.specs.Waiting.{calls_under, file_of}
use Rattle.tree_calls.specs.declared.asked.Outcome.{Outcome}
use Rattle.tree_calls.specs.declared.asked.Outcome.TheVariants.{Answered, Waits}
use Rattle.chunk_calls.specs.Answers.{Node, directory, file as a_file, node_of}
use Rattle.chunk_calls.specs.Writing.{cond_fault, bytes_known}
use Rattle.chunk_index.specs.Index.{key_of, place_of}
use Rattle.client_state.specs.declared.noting.Granted.{Granted}
use Rattle.client_state.specs.declared.task.Stage.{Stage}
use Rattle.client_state.specs.declared.task.Stage.TheVariants as stage
use Rattle.open_close.specs.Step.{lease_in}
use Rattle.server_core.specs.declared.change.Wanted.TheVariants as wanted
use Rattle.server_core.specs.declared.event.Sent.{Sent}
use Rattle.server_core.specs.Closing.{at, answers, has_waiting, is_full, makes, makes_unless, writes_unless, names_unless, names_bytes, looked_up, takes_commit, takes_commit_on, commits_whole}
use Rattle.server_core.specs.Recalling.{recall_sent, recalls_for, comes}
use Rattle.server_core.specs.State.{State, change_of, held, stands}
use Rattle.server_core.specs.Step.{called_under, asks as asks_outcome, got_if_under}
use Rattle.lease_law.specs.Orderly.{sent_on}

-- what an answer grants, if anything
abbrev pub grants_in : Body → Option Granted
grants_in (body.Lb (lb.GetLeaseAnswer (Done l))) = Some (record { version = l.version; term = l.term })
grants_in (body.Lb (lb.GetHashAnswer (Done h))) = Some (record { version = h.version; term = h.term })
grants_in (body.Lb (lb.CommitTmpAnswer (Done c))) = Some (record { version = c.version; term = c.term })
grants_in b = None

abbrev pub grants_by : Message → Option Granted
grants_by (message.Answer xid b) = grants_in b
grants_by m = None

nothing_granted : {A : Type 0} (g : Granted) → ◌≡◌ {A = Option Granted} None (Some g) → A
nothing_granted g e = absurd cc

-- what a stage makes of an answer is in it
pub lease_grants : (st : Stage) (b : Body) (g : Granted) → lease_in st b ≡ Some g → grants_in b ≡ Some g
lease_grants (stage.Asking x) (body.Lb (lb.GetLeaseAnswer (Done l))) g e = e
lease_grants (stage.Rewriting x) (body.Lb (lb.GetLeaseAnswer (Done l))) g e = e
lease_grants (stage.Hashing tries x) (body.Lb (lb.GetHashAnswer (Done h))) g e = e
lease_grants (stage.Listing x f) (body.Lb (lb.GetHashAnswer (Done h))) g e = e
lease_grants (stage.Committing x) (body.Lb (lb.CommitTmpAnswer (Done c))) g e = e
lease_grants st b g e = nothing_granted g e

-- ---- messages that grant nothing

abbrev pub Grantless : List Sent → Type 0
Grantless ms = AllByRecursion (λ m. grants_by m.message ≡ None) ms

recalls_none : (rs : List Asked) → Grantless (map recall_sent rs)
recalls_none [] = tt
recalls_none (r ∷ rs) = (refl, recalls_none rs)

module _ (s : State) where
  makes_none : (n xid fd : ℕ) (o : Result Node Status) → Grantless (makes s n xid fd o).1.send
  makes_none n xid fd (Err e) = (refl, tt)
  makes_none n xid fd (Ok directory) = (refl, tt)
  makes_none n xid fd (Ok (a_file f)) = by (room_fault s.temps n fd)
    where
      by : (o : Option Status) → Grantless (makes_unless s n xid fd f.id o).1.send
      by (Some e) = (refl, tt)
      by None = (refl, tt)

  writes_none : (n xid : ℕ) (a : TempPiece) (t : Option Temp) (o : Option Status) → Grantless (writes_unless s n xid a t o).1.send
  writes_none n xid a (Some t) None = (refl, tt)
  writes_none n xid a (Some t) (Some e) = (refl, tt)
  writes_none n xid a None o = (refl, tt)

  bytes_none : (n xid : ℕ) (a : CondPiece) (t : Option Temp) (o : Option (List ℕ)) → Grantless (names_bytes (looked_up s a) n xid a t o).1.send
  bytes_none n xid a (Some t) (Some bytes) = (refl, tt)
  bytes_none n xid a (Some t) None = (refl, tt)
  bytes_none n xid a None o = (refl, tt)

  names_none : (n xid : ℕ) (a : CondPiece) (t : Option Temp) (o : Option Status) → Grantless (names_unless s n xid a t o).1.send
  names_none n xid a t (Some e) = (refl, tt)
  names_none n xid a t None = bytes_none n xid a t (bytes_known s.tree a (place_of s.index.pairs (key_of a.digest)))

  whole_none : (n xid id : ℕ) (o : Option (List ℕ)) → Grantless (commits_whole s n xid id o).1.send
  whole_none n xid id None = (refl, tt)
  whole_none n xid id (Some content) = by (has_waiting s.waiting n) (is_full s (length content))
    where
      by : (a b : Bool) → Grantless (if a then answers s n xid (lb.CommitTmpAnswer (Failed status.Jukebox tt)) else if b then answers s n xid (lb.CommitTmpAnswer (Failed status.NoSpc tt)) else comes s (change_of n xid id (wanted.Content content))).1.send
      by true b = (refl, tt)
      by false true = (refl, tt)
      by false false = recalls_none (asks s.leasing.calls (recalls_for s (change_of n xid id (wanted.Content content)))).1

  commits_to_none : (n xid size : ℕ) (t : Temp) (o : Result Node Status) → Grantless (takes_commit_on s n xid size t o).1.send
  commits_to_none n xid size t (Err e) = (refl, tt)
  commits_to_none n xid size t (Ok directory) = (refl, tt)
  commits_to_none n xid size t (Ok (a_file f)) = by (nat_lt size_most size)
    where
      by : (b : Bool) → Grantless (if b then answers s n xid (lb.CommitTmpAnswer (Failed status.FBig tt)) else commits_whole s n xid f.id (assembled t size)).1.send
      by true = (refl, tt)
      by false = whole_none n xid f.id (assembled t size)

  asks_none : (n xid : ℕ) (o : Option Outcome) → Grantless (asks_outcome s n xid o).1.send
  asks_none n xid None = (refl, tt)
  asks_none n xid (Some (Answered d)) = (refl, tt)
  asks_none n xid (Some (Waits a)) = recalls_none (asks s.leasing.calls (recalls_for s (change_of n xid (file_of a) (wanted.Asked a)))).1

commits_none : (s : State) (n xid : ℕ) (a : Commit) (t : Option Temp) → Grantless (takes_commit s n xid a t).1.send
commits_none s n xid a None = (refl, tt)
commits_none s n xid a (Some t) = commits_to_none (record s { temps = without_temp s.temps n a.fd }) n xid a.size t (node_of s.tree a.handle)

-- calls that ask for no lease
abbrev pub IsLeaseless : Body → Type 0
IsLeaseless (body.Lb (lb.GetLease z)) = ⊥
IsLeaseless (body.Lb (lb.GetHash r)) = ⊥
IsLeaseless b = Unit {0}

called_none : (s : State) (fault : Bool) (n xid : ℕ) (b : Body) → IsLeaseless b → Grantless (called_under s fault n xid b).1.send
called_none s fault n xid (body.Lb (lb.Null z)) free = (refl, tt)
called_none s fault n xid (body.Lb (lb.GetLease z)) free = absurd free
called_none s fault n xid (body.Lb (lb.GetHash r)) free = absurd free
called_none s fault n xid (body.Lb (lb.MkTmpFile a)) free = makes_none s n xid a.fd (node_of s.tree a.handle)
called_none s fault n xid (body.Lb (lb.TmpWrite a)) free = writes_none s n xid a (temp_at s.temps n a.fd) (piece_fault (temp_at s.temps n a.fd) a.offset (length a.bytes))
called_none s fault n xid (body.Lb (lb.CondWrite a)) free = names_none s n xid a (temp_at s.temps n a.fd) (cond_fault a (temp_at s.temps n a.fd))
called_none s fault n xid (body.Lb (lb.CommitTmp a)) free = commits_none s n xid a (temp_at s.temps n a.fd)
called_none s fault n xid (body.Lb m) free = (refl, tt)
called_none s fault n xid (body.Nfs nfs.Null) free = (refl, tt)
called_none s fault n xid (body.Nfs (nfs.Read r)) free = (refl, tt)
called_none s fault n xid (body.Nfs m) free = let p : Tree × Option Outcome = calls_under s.tree (held s.waiting) (has_waiting s.waiting n) fault m in asks_none (record s { tree = p.0 }) n xid p.1
called_none s fault n xid (body.Back m) free = (refl, tt)

pub call_grantless : (s : State) (n xid : ℕ) (b : Body) (now : ℕ) → IsLeaseless b → Grantless (got_if_under s false (stands s n) n (message.Call xid b) now).1.send
call_grantless s n xid b now none = by (stands s n)
  where
    by : (d : Bool) → Grantless (got_if_under s false d n (message.Call xid b) now).1.send
    by true = called_none (at s now) false n xid b none
    by false = tt

pub on_grantless : (n : ℕ) (ms : List Sent) → Grantless ms → AllByRecursion (λ m. grants_by m ≡ None) (sent_on n ms)
on_grantless n [] h = tt
on_grantless n (m ∷ ms) h = by (m.session == n) (on_grantless n ms h.1)
  where
    by : (b : Bool) → AllByRecursion (λ m. grants_by m ≡ None) (sent_on n ms) → AllByRecursion (λ m. grants_by m ≡ None) (map (λ (x : Sent). x.message) (cond b (m ∷ filter (λ x. x.session == n) ms) (filter (λ x. x.session == n) ms)))
    by true later = (h.0, later)
    by false later = later
