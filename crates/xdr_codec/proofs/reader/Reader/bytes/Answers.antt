use Rattle.std.proofs.Common.{rules, arith}
use Rattle.xdr_codec.proofs.Reading.{bytes_bad, bytes_good}
use Rattle.xdr_codec.proofs.reader.Reader.bytes.Goals as goal

pub returns-then-not-is_fill-clause-gives : goal.returns-then-not-is_fill-clause-gives
returns-then-not-is_fill-clause-gives c = rw (← c.self.view_is) (bytes_bad c.args.at c.args.len _ (omega arith) (search rules))

pub returns-clause-gives : goal.returns-clause-gives
returns-clause-gives c = rw (← c.self.view_is) (search (rules, bytes_good))
