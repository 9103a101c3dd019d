-- How an operation of a client ended, as histories and mounts tell it.
use Rattle.std.specs.Prelude.{ℕ}
use Rattle.xdr_codec.specs.Attr.{kind_number}
use Rattle.xdr_codec.specs.Status.{status_number}
use Rattle.client_state.specs.declared.step.BadPeer.{BadPeer}
use Rattle.client_state.specs.declared.step.BadPeer.TheVariants as bad
use Rattle.client_state.specs.declared.step.Outcome.{Outcome}
use Rattle.client_state.specs.declared.step.Outcome.TheVariants as outcome
use Rattle.register_model.specs.declared.op.Outcome.{Outcome as Told}
use Rattle.register_model.specs.declared.op.Outcome.TheVariants as told

-- the number of a peer's fault
abbrev pub fault_number : BadPeer → ℕ
fault_number (bad.Garbage at) = 1
fault_number (bad.UnknownXid xid) = 2
fault_number (bad.Digest got wanted) = 3
fault_number (bad.Denied code) = 4
fault_number (bad.Shape got wanted) = 5

-- an outcome as it is told
abbrev pub told_of : Outcome → Told
told_of (outcome.Opened file len sha1) = told.Opened len sha1
told_of (outcome.Piece len sha1) = told.Piece len sha1
told_of (outcome.Closed file version len sha1) = told.Closed version len sha1
told_of outcome.Done = told.Done
told_of (outcome.Names names) = told.Names names
told_of (outcome.Seen id kind version len) = told.Seen id (kind_number kind) version len
told_of outcome.Busy = told.Busy
told_of outcome.NotOpen = told.NotOpen
told_of outcome.AlreadyOpen = told.AlreadyOpen
told_of (outcome.TooBig size) = told.TooBig size
told_of outcome.Lost = told.Lost
told_of (outcome.Changed first last) = told.Changed first last
told_of outcome.NoLink = told.NoLink
told_of (outcome.Refused status) = told.Refused (status_number status)
told_of outcome.PeerMemory = told.PeerMemory
told_of (outcome.BadPeer fault) = told.BadPeer (fault_number fault)
told_of outcome.Memory = told.Memory
