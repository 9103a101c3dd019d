use Rattle.std.proofs.Common.{◌≡◌, ◌-◌}
use Rattle.xdr_codec.specs.Repeat.{repeated_read}
use Rattle.xdr_codec.proofs.lemmas.Loop.{with_front}
use Rattle.xdr_codec.proofs.item.read_many.Given as goal

abbrev pub invariant-loop : goal.invariant-loop
invariant-loop g l = with_front l.items.items (repeated_read g.T.Item.form (l.count - l.counter) l.reader) ≡ repeated_read g.T.Item.form l.count l.initial.reader
