use Rattle.log_store.proofs.Framing.{frame_behind}
use Rattle.log_store.proofs.frame.put_frame.Goals as goal

pub returns : goal.returns
returns c =
    frame_behind c.args.number c.args.payload.now c.args.out.now.items c.front_of-front.result c.sum_of-sum.result c.extend_from_slice.new.self.items c.extend_from_slice-2.new.self.items c.extend_from_slice-3.new.self.items
    c.front_of-front.ensures c.sum_of-sum.ensures c.in_ok-extend_from_slice.ensures.items c.in_ok-extend_from_slice-2.ensures.items c.in_ok-extend_from_slice-3.ensures.items
