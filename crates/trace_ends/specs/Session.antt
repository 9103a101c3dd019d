-- The clients of a trace and its sessions, beside the bytes on their way.
use Rattle.std.specs.Prelude.{ℕ, List, [], ◌∷◌, ◌++◌, Option, Some, None, Bool, false, is_none, length, ◌==◌, ◌&&◌}
use Rattle.wire.specs.declared.message.Message.{Message}
use Rattle.wire.specs.declared.message.Message.TheVariants as message
use Rattle.client_state.specs.State as client
use Rattle.client_state.specs.declared.step.ClientStep.{ClientStep}
use Rattle.register_model.specs.declared.op.Word.{Word}
use Rattle.session_rules.specs.declared.taken_call.TakenCall.{TakenCall}
use Rattle.trace_ends.specs.Ops.{taken_on, closing_with}
use Rattle.trace_ends.specs.Numbers.{numbered}
pub use Rattle.session_rules.specs.Session.{Session, new_session, raw_session, is_raw}
pub use Rattle.session_rules.specs.Points.{settled_ops}

-- ---- what they are

-- a client: its state, the number of its newest session, if it ever had one, and the place of the operation under way
pub record Seat : Type 0 where
  pub client : client.State
  pub session : Option ℕ
  pub place : Option ℕ

-- one that takes its clock and the server's to drift apart so far, in milliseconds, while a lease lasts, and speaks this version of LBFS
abbrev pub new_seat : (drift lbfs : ℕ) → Seat
new_seat drift lbfs = record { client = client.start_with drift lbfs; session = None; place = None }

-- a client may get the items of a cache file before it first joins, and once: they are the first that it keeps
abbrev pub may_warm : Seat → Bool
may_warm s = is_none s.session && (length s.client.cache == 0)

-- ---- a session

-- a call that was taken is remembered with its step
abbrev pub taken_with : List TakenCall → Message → ℕ → List TakenCall
taken_with taken (message.Call xid body) step = taken ++ record { xid = xid; step = step } ∷ []
taken_with taken _ step = taken

abbrev pub session_of : List Session → Option ℕ → Option Session
session_of sessions None = None
session_of sessions (Some number) = numbered sessions number

-- the calls that the server took of a client's newest session
abbrev pub taken_of : Option Session → List TakenCall
taken_of None = []
taken_of (Some x) = x.taken

-- whether this is the newest session of a client
abbrev pub is_newest : Option ℕ → (number : ℕ) → Bool
is_newest None number = false
is_newest (Some newest) number = newest == number

-- ---- what is done

-- what a command leaves of its client's newest session
abbrev pub commanded_session : Session → (running : Option ℕ) → (place : ℕ) → Word → ClientStep → Session
commanded_session x running place what acts = record x { taken = taken_on running x.taken; closing = closing_with x.closing place what acts.ended }
