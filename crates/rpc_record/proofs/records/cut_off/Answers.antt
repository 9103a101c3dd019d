use Rattle.std.proofs.Common.{sym, arith, subst}
use Rattle.rpc_record.specs.Records.{HasRecord}
use Rattle.rpc_record.specs.Progress.{Reaches}
use Rattle.rpc_record.proofs.Reaching.{reach_start}
use Rattle.rpc_record.proofs.Cutting.{cuts_more, cuts_begun, cuts_bad}
use Rattle.rpc_record.proofs.records.cut_off.Goals as goal

pub loop-end-preserved : goal.loop-end-preserved
loop-end-preserved c = record {
  cuts = cuts_more _ _ _ _ _ _ _ _ c.loop-end.invariant.cuts c.in-Whole.ensures (subst (HasRecord _) (sym c.of.ensures) c.in_ok-join-in-Whole.ensures) c.split_at.ensures.back c.in_ok-push-in-Whole.ensures.items;
  known = reach_start _;
}

pub returns-in-Begun : goal.returns-in-Begun
returns-in-Begun c = record {
  parts = cuts_begun _ _ _ _ c.loop-end.invariant.cuts c.in-Begun.ensures.0;
  within = c.loop-end.invariant.cuts.within;
  known = subst (λ z. Reaches z c.in-Begun.progress) c.loop-end.invariant.cuts.left_is c.in-Begun.ensures.1;
}

pub returns-in-Bad : goal.returns-in-Bad
returns-in-Bad c = record {
  parts = cuts_bad _ _ _ _ c.in-Bad.why _ c.loop-end.invariant.cuts c.in-Bad.ensures (omega (arith, c.len.ensures));
  within = omega (arith, c.len.ensures);
  known = reach_start _;
}
