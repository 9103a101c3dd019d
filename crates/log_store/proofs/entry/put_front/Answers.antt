use Rattle.std.proofs.Common.{◌∙◌, ap}
use Rattle.std.specs.Int.{w64, to_be_bytes}
use Rattle.log_store.proofs.Coding.{front_behind}
use Rattle.log_store.proofs.entry.put_front.Goals as goal

pub returns : goal.returns
returns c = front_behind c.args.out.now.items c.push.new.self.items c.push-2.new.self.items c.extend_from_slice.new.self.items c.extend_from_slice-2.new.self.items c.args.sign c.args.which c.args.count c.letter_of.result c.to_be_bytes.result c.to_be_bytes-2.result
    c.letter_of.ensures (c.to_be_bytes.ensures ∙ ap (to_be_bytes w64) c.id_of.ensures) c.to_be_bytes-2.ensures c.in_ok-push.ensures.items c.in_ok-push-2.ensures.items c.in_ok-extend_from_slice.ensures.items c.in_ok-extend_from_slice-2.ensures.items
