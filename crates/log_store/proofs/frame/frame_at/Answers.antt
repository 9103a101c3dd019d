use Rattle.log_store.proofs.Framing.{whole_frame, split_join}
use Rattle.log_store.proofs.frame.frame_at.Goals as goal

pub returns : goal.returns
returns c =
    let whole = c.is_whole.ensures c.if-not-is_whole.false in
    whole_frame c.args.number c.in_ok-payload.payload.now c.in_ok-front.front.now c.in_ok-sum.sum.now c.in_ok-payload.rest.now c.args.bytes.now c.in_ok-front.behind.now c.in_ok-sum.behind.now
    (split_join _ _ _ _ c.in_ok-front.ensures.cases) (split_join _ _ _ _ c.in_ok-sum.ensures.cases) (split_join _ _ _ _ c.in_ok-payload.ensures.cases) whole.0 whole.1
