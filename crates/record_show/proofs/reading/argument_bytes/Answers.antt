use Rattle.std.proofs.Common.{arith, ◌∙◌, ap, sym}
use Rattle.rpc_record.specs.Messages.{call_read}
use Rattle.record_show.proofs.Arguments.{arguments_left}
use Rattle.record_show.proofs.reading.argument_bytes.Goals.{in-Ok, in-Err}
use Rattle.record_show.proofs.reading.argument_bytes.Goals as goal

pub returns : goal.returns
returns c = elim c.match-read.branch [
  | in-Ok w ↦
      rw w.result-is (λ xid body parsed. w.left.ensures
      ∙ arguments_left c.args.contents.now xid body w.in-Ok.field-0 c.read.new.reader (λ i. omega (arith, c.type_inv.contents i)) parsed (ap call_read (sym c.new-reader.ensures) ∙ w.in-Ok.ensures.gives))
  | in-Err w ↦ rw w.result-is tt
]
