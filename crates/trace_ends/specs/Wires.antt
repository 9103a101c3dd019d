-- What is sent on a session put on its way.
use Rattle.std.specs.Prelude.{ℕ, List, [], ◌∷◌, ◌++◌, map, Option, Some, None, Bool, true, false}
use Rattle.rpc_record.specs.Records.{stream}
use Rattle.wire.specs.Message.{message_spell}
use Rattle.wire.specs.declared.message.Message.{Message}
use Rattle.trace_ends.specs.Numbers.{numbered, with_numbered}
use Rattle.trace_ends.specs.Session.{Session}
pub use Rattle.session_rules.specs.Wires.{Wire, new_wire, is_still_at}

-- the bytes of messages, each a record of one fragment
abbrev pub bytes_of : List Message → List ℕ
bytes_of ms = stream (map message_spell ms)

-- what is sent to an end that saw the connection lost vanishes
abbrev pub unless : {A : Type 0} → (lost : Bool) → (queue more : List A) → List A
unless true queue more = queue
unless false queue more = queue ++ more

abbrev pub up_put_in : List Wire → (number : ℕ) → List Message → Option Session → Option Wire → List Wire
up_put_in wires number ms (Some x) (Some q) = with_numbered wires number (record q { up = unless x.hung q.up (bytes_of ms) })
up_put_in wires number ms x q = wires

-- the messages that a client sends on its newest session
abbrev pub up_put : List Session → List Wire → Option ℕ → List Message → List Wire
up_put sessions wires None ms = wires
up_put sessions wires (Some number) ms = up_put_in wires number ms (numbered sessions number) (numbered wires number)

-- a message that the server sends
abbrev pub message_put_in : List Wire → (number : ℕ) → Message → Option Session → Option Wire → List Wire
message_put_in wires number m (Some x) (Some q) = with_numbered wires number (record q { down = unless x.cut q.down (bytes_of (m ∷ [])) })
message_put_in wires number m x q = wires
