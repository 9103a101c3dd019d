-- What a record that is a call is read as doesn't depend on the calls that wait.
use Rattle.std.proofs.Common.{◌≡◌, ℕ, List, Option, Some, None, Ok, Err, sym, ◌∙◌, ap, refl}
use Rattle.std.specs.Prelude.{Result}
use Rattle.xdr_codec.specs.declared.fault.Fault.{Fault}
use Rattle.xdr_codec.specs.Format.{Input, whole_at, ended}
use Rattle.rpc_record.specs.Header.{front_form, reply_form}
use Rattle.rpc_record.specs.declared.header.Direction.{Direction}
use Rattle.rpc_record.specs.declared.header.Direction.TheVariants as direction
use Rattle.rpc_record.specs.declared.header.Front.{Front}
use Rattle.rpc_record.specs.declared.header.ReplyHead.{ReplyHead}
use Rattle.wire.specs.declared.message.Body.{Body}
use Rattle.wire.specs.declared.message.Program.{Program}
use Rattle.wire.specs.declared.message.Waiting.{Waiting}
use Rattle.wire.specs.declared.message.RpcRefusal.{RpcRefusal}
use Rattle.wire.specs.declared.message.Message.TheVariants.{Call, Answer, Refuse}
use Rattle.wire.specs.declared.fault.WireFault.TheVariants.{NotRpc, Garbage}
use Rattle.wire.specs.Message.{result_of}
use Rattle.trace_ends.specs.Core.{Core, server_waiting, server_waits}
use Rattle.wire.specs.Parse.{read_or, refusal_of, replied, parse_reply, parse_by, parse_of, parse_call, waiting}

replied_none : (n xid : ℕ) (p : Program) (why : Option RpcRefusal) (i : Input) (y : ℕ) (b : Body) → replied n xid p why i ≡ Ok (Call y b) → ⊥
replied_none n xid p None i y b e = by (whole_at i.at (result_of n p) i.rest) e
  where
    by : (r : Result Body Fault) → read_or Garbage r (λ a. Ok (Answer xid a)) ≡ Ok (Call y b) → ⊥
    by (Ok a) e = absurd cc
    by (Err f) e = absurd cc
replied_none n xid p (Some why) i y b e = by (ended i) e
  where
    by : {A : Type 0} → (r : Result A Fault) → read_or Garbage r (λ _. Ok (Refuse xid why)) ≡ Ok (Call y b) → ⊥
    by (Ok a) e = absurd cc
    by (Err f) e = absurd cc

reply_none : (n xid : ℕ) (p : Option Program) (i : Input) (y : ℕ) (b : Body) → parse_reply n xid p i ≡ Ok (Call y b) → ⊥
reply_none n xid None i y b e = absurd cc
reply_none n xid (Some p) i y b e = by (reply_form.read i) e
  where
    by : (r : Result (ReplyHead × Input) Fault) → read_or Garbage r (λ head. replied n xid p (refusal_of head.0) head.1) ≡ Ok (Call y b) → ⊥
    by (Ok h) e = replied_none n xid p (refusal_of h.0) h.1 y b e
    by (Err f) e = absurd cc

by_alike : (v w : Waiting) → v.side ≡ w.side → v.lbfs ≡ w.lbfs → (xid : ℕ) (d : Direction) (i : Input) (y : ℕ) (b : Body) → parse_by v xid d i ≡ Ok (Call y b) → parse_by w xid d i ≡ Ok (Call y b)
by_alike v w same lbfs xid direction.Call i y b e = ap (λ s. parse_call s w.lbfs xid i) (sym same) ∙ ap (λ n. parse_call v.side n xid i) (sym lbfs) ∙ e
by_alike v w same lbfs xid direction.Reply i y b e = absurd (reply_none v.lbfs xid (waiting xid v.calls) i y b e)

pub call_read_alike : (v w : Waiting) → v.side ≡ w.side → v.lbfs ≡ w.lbfs → (bytes : List ℕ) (y : ℕ) (b : Body) → parse_of v bytes ≡ Ok (Call y b) → parse_of w bytes ≡ Ok (Call y b)
call_read_alike v w same lbfs bytes y b e = by (front_form.read (record { at = 0; rest = bytes })) e
  where
    by : (r : Result (Front × Input) Fault) → read_or NotRpc r (λ front. parse_by v front.0.xid front.0.direction front.1) ≡ Ok (Call y b) → read_or NotRpc r (λ front. parse_by w front.0.xid front.0.direction front.1) ≡ Ok (Call y b)
    by (Ok front) e = by_alike v w same lbfs front.0.xid front.0.direction front.1 y b e
    by (Err f) e = absurd cc

-- so what the server reads as a call on a session is that call, whatever it waits for
pub call_read : (k : Core) (n : ℕ) (bytes : List ℕ) (y : ℕ) (b : Body) → parse_of (server_waits k n) bytes ≡ Ok (Call y b) → parse_of server_waiting bytes ≡ Ok (Call y b)
call_read k n bytes y b e = call_read_alike (server_waits k n) server_waiting refl refl bytes y b e

pub call_reads : (k : Core) (n : ℕ) (bytes : List ℕ) (y : ℕ) (b : Body) → parse_of server_waiting bytes ≡ Ok (Call y b) → parse_of (server_waits k n) bytes ≡ Ok (Call y b)
call_reads k n bytes y b e = call_read_alike server_waiting (server_waits k n) refl refl bytes y b e
