-- What a record is, where every call and no answer is expected.
use Rattle.std.specs.Prelude.{◌≡◌, Result, Ok, Err}
use Rattle.wire.specs.Message.{program_of}
use Rattle.wire.specs.declared.message.Body.{Body}
use Rattle.wire.specs.declared.message.Message.{Message}
use Rattle.wire.specs.declared.message.Message.TheVariants as message
use Rattle.wire.specs.declared.fault.WireFault.{WireFault}
use Rattle.wire.specs.declared.fault.WireFault.TheVariants as fault
use Rattle.wire.specs.declared.fault.WireError.{WireError}
use Rattle.wire.specs.declared.fault.WireError.TheVariants as wire
use Rattle.record_show.specs.Line.{read_line}
use Rattle.record_show.specs.declared.line.Line.{Line}
use Rattle.record_show.specs.declared.reading.Said.{Said}
use Rattle.record_show.specs.declared.reading.Said.TheVariants.{Call, Unfit, NoMessage, NoCall, Unknown}

-- what was read
abbrev pub said_of : Result Message WireError → Said
said_of (Ok (message.Call xid b)) = Call xid (program_of b)
said_of (Ok (message.Unfit xid why)) = Unfit xid why
said_of (Err (wire.Fault (fault.NotRpc at))) = NoMessage at
said_of (Err wire.Memory) = Unknown
said_of _ = NoCall

-- what was read is that; nothing is said where memory ran out
abbrev pub IsSaid : Said → Result Message WireFault → Type 0
IsSaid (Call xid p) read = (b : Body) × (read ≡ Ok (message.Call xid b)) × (program_of b ≡ p)
IsSaid (Unfit xid why) read = read ≡ Ok (message.Unfit xid why)
IsSaid (NoMessage at) read = read ≡ Err (fault.NotRpc at)
IsSaid NoCall read = (answer : Line) → read_line read answer ≡ answer
IsSaid Unknown read = Unit {0}
