-- Why a header is refused: a number that is no type, or its first fault from left to right (RFC 5531, section 9: rpc_msg).
use Rattle.std.specs.Prelude.{◌≡◌, ◌↔◌, ◌⊎◌, ℕ, ◌+◌, ◌<◌, ◌≤◌, List, ◌++◌, length, Result, Err}
use Rattle.xdr_codec.specs.declared.fault.Fault.{Fault}
use Rattle.xdr_codec.specs.declared.fault.Fault.TheVariants.{Short, BadValue}
use Rattle.xdr_codec.specs.Format.{Input, Format, IsBytes}
use Rattle.xdr_codec.specs.Xdr.{u32_form}
use Rattle.rpc_record.specs.declared.refusal.HeaderError.{HeaderError}
use Rattle.rpc_record.specs.declared.refusal.HeaderError.TheVariants.{Xdr, BadType, Memory}

-- behind an xid stands a number that is neither a call's nor a reply's
abbrev pub NoType : List ℕ → ℕ → Type 0
NoType bytes value = (xid : ℕ) × (more : List ℕ) × (bytes ≡ u32_form.spell xid ++ (u32_form.spell value ++ more)) × u32_form.Fits xid × u32_form.Fits value × (1 < value)

-- behind an xid stands the number of the other of the two types, which is a fault at its place
abbrev pub OtherType : ℕ → Input → Fault → Type 0
OtherType kind i fault = (xid : ℕ) × (value : ℕ) × (more : List ℕ) × (i.rest ≡ u32_form.spell xid ++ (u32_form.spell value ++ more)) × u32_form.Fits xid × (value ≤ 1) × ¬ (value ≡ kind) × (fault ≡ BadValue (i.at + 4) value)

-- the bytes end within the xid, or within the type
abbrev pub EndsEarly : Input → Fault → Type 0
EndsEarly i fault = ((length i.rest < 4) × (fault ≡ Short i.at)) ⊎ ((4 ≤ length i.rest) × (length i.rest < 8) × (fault ≡ Short (i.at + 4)))

-- behind an xid and the type's number, what the type has is refused for this fault
abbrev pub BodyFault : {A : Type 0} → ℕ → Format A → Input → Fault → Type 0
BodyFault kind body i fault = (xid : ℕ) × (more : List ℕ) × (i.rest ≡ u32_form.spell xid ++ (u32_form.spell kind ++ more)) × u32_form.Fits xid × (body.read (record { at = i.at + 8; rest = more }) ≡ Err fault)

-- each error comes exactly where its cause stands; running out of memory is none of reading's
pub record IsRefusal {A B : Type 0} (kind : ℕ) (body : Format A) (read : Input → Result (B × Input) HeaderError) : Type 0 where
  pub bad_type : (i : Input) (value : ℕ) → IsBytes i.rest → (read i ≡ Err (BadType value)) ↔ NoType i.rest value
  pub fault : (i : Input) (fault : Fault) → IsBytes i.rest → (read i ≡ Err (Xdr fault)) ↔ (EndsEarly i fault ⊎ (OtherType kind i fault ⊎ BodyFault kind body i fault))
  pub memory : (i : Input) → ¬ (read i ≡ Err Memory)
