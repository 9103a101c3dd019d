-- Whole headers of calls and replies (RFC 5531, section 9: rpc_msg).
use Rattle.std.specs.Prelude.{◌≡◌, ℕ, List, [], ◌++◌, Result, Ok, Err, nat_lt, ◌==◌, if◌then◌else◌}
use Rattle.xdr_codec.specs.declared.fault.Fault.{Fault}
use Rattle.xdr_codec.specs.declared.fault.Fault.TheVariants.{BadValue}
use Rattle.xdr_codec.specs.declared.fault.ReadError.{ReadError}
use Rattle.xdr_codec.specs.declared.fault.ReadError.TheVariants as errors
use Rattle.xdr_codec.specs.Format.{Input, Format, IsBytes, Takes, behind}
use Rattle.xdr_codec.specs.Compose.{◌⋆◌}
use Rattle.xdr_codec.specs.Xdr.{u32_form}
use Rattle.rpc_record.specs.declared.refusal.HeaderError.{HeaderError}
use Rattle.rpc_record.specs.declared.refusal.HeaderError.TheVariants.{Xdr, BadType, Memory}
use Rattle.rpc_record.specs.declared.header.CallHead.{CallHead}
use Rattle.rpc_record.specs.declared.messages.Call.{Call}
use Rattle.rpc_record.specs.declared.messages.Reply.{Reply}
use Rattle.rpc_record.specs.Header.{call_form, reply_form}

abbrev pub told : ReadError → HeaderError
told errors.Memory = Memory
told (errors.Fault fault) = Xdr fault

-- what was read, and then; or why not
abbrev pub read_then : {A B : Type 0} → Result A Fault → (A → Result B HeaderError) → Result B HeaderError
read_then (Ok a) go = go a
read_then (Err fault) go = Err (Xdr fault)

-- an xid, the number of the message's type, and what that type has
abbrev pub message_spell : {A : Type 0} → ℕ → Format A → ℕ → A → List ℕ
message_spell kind body xid a = u32_form.spell xid ++ (u32_form.spell kind ++ body.spell a)

-- what follows a message's type, which stands at this place, where it is the header's own; a number that is neither a call's nor
-- a reply's is no type, and the other of the two is a fault of this header
abbrev pub if_kind : {B : Type 0} → (kind place seen : ℕ) → Result B HeaderError → Result B HeaderError
if_kind kind place seen later = if nat_lt 1 seen then Err (BadType seen) else if seen == kind then later else Err (Xdr (BadValue place seen))

abbrev pub message_read : {A B : Type 0} → ℕ → Format A → (ℕ → A → B) → Input → Result (B × Input) HeaderError
message_read kind body make i =
    read_then (u32_form.read i) (λ xid. read_then (u32_form.read xid.1) (λ seen. if_kind kind xid.1.at seen.0 (read_then (body.read seen.1) (λ a. Ok (make xid.0 a.0, a.1)))))

abbrev pub call_body : Format (ℕ × CallHead)
call_body = u32_form ⋆ call_form

abbrev pub call_spell : Call → List ℕ
call_spell c = message_spell 0 call_body c.xid (c.rpcvers, c.head)

abbrev pub call_read : Input → Result (Call × Input) HeaderError
call_read i = message_read 0 call_body (λ x b. record { xid = x; rpcvers = b.0; head = b.1 }) i

abbrev pub CallFits : Call → Type 0
CallFits c = u32_form.Fits c.xid × call_body.Fits (c.rpcvers, c.head)

abbrev pub reply_spell : Reply → List ℕ
reply_spell r = message_spell 1 reply_form r.xid r.head

abbrev pub reply_read : Input → Result (Reply × Input) HeaderError
reply_read i = message_read 1 reply_form (λ x h. record { xid = x; head = h }) i

abbrev pub ReplyFits : Reply → Type 0
ReplyFits r = u32_form.Fits r.xid × reply_form.Fits r.head

-- what a function returned, and the input it left, are what reading gives, unless memory ran out
abbrev pub HeaderGives : {A : Type 0} → Result A HeaderError → Input → Result (A × Input) HeaderError → Type 0
HeaderGives (Ok x) new read = read ≡ Ok (x, new)
HeaderGives (Err Memory) new read = Unit {0}
HeaderGives (Err (Xdr fault)) new read = read ≡ Err (Xdr fault)
HeaderGives (Err (BadType value)) new read = read ≡ Err (BadType value)

-- reading takes exactly a header's spelling, each spelling has one header, and none is a proper prefix of another
pub record IsHeader {A : Type 0} (spell : A → List ℕ) (Fits : A → Type 0) (read : Input → Result (A × Input) HeaderError) : Type 0 where
  -- what is read is a header that fits, exactly its bytes stood there, and the place is behind them
  pub spelled : (i : Input) (a : A) (j : Input) → IsBytes i.rest → read i ≡ Ok (a, j) → Takes i (spell a) j × Fits a
  -- a spelling is read, whatever follows it
  pub again : (a : A) (at : ℕ) (rest : List ℕ) → Fits a → read (record { at = at; rest = spell a ++ rest }) ≡ Ok (a, behind at (spell a) rest)
  -- where reading is refused, no spelling begins
  pub refused : (i : Input) (why : HeaderError) → read i ≡ Err why → (a : A) (rest : List ℕ) → Fits a → ¬ (i.rest ≡ spell a ++ rest)
  -- no spelling is a proper prefix of another, and no two headers have one spelling
  pub prefix : (a b : A) (more : List ℕ) → Fits a → Fits b → spell a ++ more ≡ spell b → (a ≡ b) × (more ≡ [])
