-- Worked rows of what a server's threads share.
use Rattle.std.specs.Prelude.{◌≡◌, ℕ, [], ◌∷◌, true, false}
use Rattle.std.proofs.Common.{refl}
use Rattle.wire.specs.declared.message.Message.{Message}
use Rattle.wire.specs.declared.message.Message.TheVariants as message
use Rattle.wire.specs.declared.message.RpcRefusal.TheVariants as refusal
use Rattle.server_core.specs.declared.event.Sent.{Sent}
use Rattle.server_rules.specs.declared.told.Told.TheVariants as told
use Rattle.server_held.specs.declared.held.Went.TheVariants as went
use Rattle.server_held.specs.Held.{is_farewell, messages_to, settled_as, joined_as}

abbrev refused : ℕ → Message
refused xid = message.Refuse xid refusal.SystemErr

abbrev sent : (session xid : ℕ) → Sent
sent session xid = record { session = session; message = refused xid }

-- each session gets its own, in order
messages_row : messages_to 2 (sent 2 7 ∷ sent 3 8 ∷ sent 2 9 ∷ []) ≡ refused 7 ∷ refused 9 ∷ []
messages_row = refl

none_row : messages_to 4 (sent 2 7 ∷ sent 3 8 ∷ []) ≡ []
none_row = refl

settled_row : settled_as (told.Settled 2 7) ≡ went.Open 2
settled_row = refl

waits_row : settled_as told.NotReady ≡ went.NotReady
waits_row = refl

made_row : joined_as (told.Session 3) [] ≡ went.Open 3
made_row = refl

farewell_row : is_farewell 0 (went.Open 3) ≡ true
farewell_row = refl

-- under another xid it is none, nor of a session that is gone
other_row : is_farewell 5 (went.Open 3) ≡ false
other_row = refl

late_row : is_farewell 0 went.Closed ≡ false
late_row = refl

lost_row : joined_as (told.Session 3) (3 ∷ []) ≡ went.Memory
lost_row = refl
