-- What a record is read as doesn't depend on what waits for answers, but for an answer.
use Rattle.std.proofs.Common.{◌≡◌, ℕ, List, Ok, Err, ap, refl, ◌∙◌}
use Rattle.std.specs.Prelude.{Result}
use Rattle.xdr_codec.specs.declared.fault.Fault.{Fault}
use Rattle.xdr_codec.specs.Format.{Input}
use Rattle.rpc_record.specs.Header.{front_form}
use Rattle.rpc_record.specs.declared.header.Direction.{Direction}
use Rattle.rpc_record.specs.declared.header.Direction.TheVariants as direction
use Rattle.rpc_record.specs.declared.header.Front.{Front}
use Rattle.wire.specs.declared.message.Waiting.{Waiting}
use Rattle.wire.specs.declared.message.Side.TheVariants as side
use Rattle.wire.specs.declared.message.Message.{Message}
use Rattle.wire.specs.declared.fault.WireFault.{WireFault}
use Rattle.wire.specs.declared.fault.WireFault.TheVariants.{NotRpc, UnknownXid, Garbage}
use Rattle.wire.specs.Parse.{read_or, parse_by, parse_of, parse_call}
use Rattle.server_held.specs.Held.{server_waits}
use Rattle.wire.specs.declared.message.TheConstants.{LBFS_SERVED}

-- it is no answer
abbrev pub IsKnown : Result Message WireFault → Type 0
IsKnown (Ok message) = Unit {0}
IsKnown (Err (UnknownXid xid)) = ⊥
IsKnown (Err (NotRpc at)) = Unit {0}
IsKnown (Err (Garbage at)) = Unit {0}

by_alike : (w : Waiting) → w.side ≡ side.Server → w.lbfs ≡ LBFS_SERVED → (xid : ℕ) (d : Direction) (i : Input) → IsKnown (parse_by server_waits xid d i) → parse_by w xid d i ≡ parse_by server_waits xid d i
by_alike w same lbfs xid direction.Call i known = ap (λ s. parse_call s w.lbfs xid i) same ∙ ap (λ n. parse_call side.Server n xid i) lbfs
by_alike w same lbfs xid direction.Reply i known = absurd known

pub read_alike : (w : Waiting) → w.side ≡ side.Server → w.lbfs ≡ LBFS_SERVED → (bytes : List ℕ) → IsKnown (parse_of server_waits bytes) → parse_of w bytes ≡ parse_of server_waits bytes
read_alike w same lbfs bytes known = by (front_form.read (record { at = 0; rest = bytes })) known
  where
    by : (r : Result (Front × Input) Fault) → IsKnown (read_or NotRpc r (λ front. parse_by server_waits front.0.xid front.0.direction front.1)) → read_or NotRpc r (λ front. parse_by w front.0.xid front.0.direction front.1) ≡ read_or NotRpc r (λ front. parse_by server_waits front.0.xid front.0.direction front.1)
    by (Ok front) known = by_alike w same lbfs front.0.xid front.0.direction front.1 known
    by (Err f) known = refl
