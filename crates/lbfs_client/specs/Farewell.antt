-- What a client says last on a link: that it gives up all leases of its session.
use Rattle.hash_calls.specs.declared.message.Back.TheVariants as back
use Rattle.wire.specs.declared.message.Body.TheVariants as body
use Rattle.wire.specs.declared.message.Message.{Message}
use Rattle.wire.specs.declared.message.Message.TheVariants as message

-- the answer to a RECALL under the xid 0, which no RECALL has
abbrev pub farewell : Message
farewell = message.Answer 0 (body.Back back.RecallAnswer)
