-- What is kept of a session.
use Rattle.std.specs.Prelude.{ℕ, List, [], Option, None, Bool, true, false, ◌==◌}
use Rattle.session_rules.specs.declared.taken_call.TakenCall.{TakenCall}

-- what is kept of a session beside the bytes on their way: its client, 0 where it is none's, the calls that the server took since the last operation began
-- that sent some, the place of the last operation that sent calls on it and may change a file, and whether an end saw the connection lost
pub record Session : Type 0 where
  pub owner : ℕ
  pub taken : List TakenCall
  pub closing : Option ℕ
  pub cut : Bool
  pub hung : Bool

abbrev pub new_session : (owner : ℕ) → Session
new_session owner = record { owner = owner; taken = []; closing = None; cut = false; hung = false }

-- one that is no client's: what is sent down it is heard by nobody
abbrev pub raw_session : Session
raw_session = record (new_session 0) { cut = true }

abbrev pub is_raw : Session → Bool
is_raw x = x.owner == 0
