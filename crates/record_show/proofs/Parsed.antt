-- What is read of a record is what it is, unless memory runs out.
use Rattle.std.proofs.Common.{Result, Ok, Err, refl, ap}
use Rattle.wire.specs.Parse.{IsParsed}
use Rattle.wire.specs.declared.message.Message.{Message}
use Rattle.wire.specs.declared.message.Message.TheVariants as message
use Rattle.wire.specs.declared.fault.WireFault.{WireFault}
use Rattle.wire.specs.declared.fault.WireFault.TheVariants as fault
use Rattle.wire.specs.declared.fault.WireError.{WireError}
use Rattle.wire.specs.declared.fault.WireError.TheVariants as wire
use Rattle.record_show.specs.Line.{read_line}
use Rattle.record_show.specs.Said.{said_of, IsSaid}

pub said_parsed : (read : Result Message WireError) (parsed : Result Message WireFault) → IsParsed read parsed → IsSaid (said_of read) parsed
said_parsed (Ok (message.Call xid b)) parsed e = (b, e, refl)
said_parsed (Ok (message.Unfit xid why)) parsed e = e
said_parsed (Ok (message.Answer xid b)) parsed e = λ answer. ap (λ (r : Result Message WireFault). read_line r answer) e
said_parsed (Ok (message.Refuse xid why)) parsed e = λ answer. ap (λ (r : Result Message WireFault). read_line r answer) e
said_parsed (Err (wire.Fault (fault.NotRpc at))) parsed e = e
said_parsed (Err (wire.Fault (fault.UnknownXid xid))) parsed e = λ answer. ap (λ (r : Result Message WireFault). read_line r answer) e
said_parsed (Err (wire.Fault (fault.Garbage at))) parsed e = λ answer. ap (λ (r : Result Message WireFault). read_line r answer) e
said_parsed (Err wire.Memory) parsed e = tt
