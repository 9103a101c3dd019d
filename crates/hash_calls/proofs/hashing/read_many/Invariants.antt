use Rattle.std.proofs.Common.{◌≡◌, ◌-◌}
use Rattle.xdr_codec.specs.Repeat.{repeated_read}
use Rattle.xdr_codec.proofs.lemmas.Loop.{with_front}
use Rattle.hash_calls.specs.Calls.{pair_form}
use Rattle.hash_calls.proofs.hashing.read_many.Given as goal

abbrev pub invariant-loop : goal.invariant-loop
invariant-loop l = with_front l.pairs.items (repeated_read (pair_form l.lbfs) (l.count - l.counter) l.reader) ≡ repeated_read (pair_form l.lbfs) l.count l.initial.reader
