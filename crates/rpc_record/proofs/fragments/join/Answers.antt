use Rattle.std.proofs.Common.{◌∙◌}
use Rattle.rpc_record.proofs.Joining.{joins_start, joins_last, joins_more}
use Rattle.rpc_record.proofs.fragments.join.Goals as goal

pub loop-header-init : goal.loop-header-init
loop-header-init c = joins_start _ _ c.new-contents.ensures.items

pub loop-header-preserved : goal.loop-header-preserved
loop-header-preserved c =
    joins_more c.in-Some.header _ _ _ _ _ _ _ _ c.requires c.loop-header.invariant c.in-Some.ensures c.split_at.ensures.back c.min.ensures c.split_at-in-Some.ensures.front c.split_at-in-Some.ensures.back c.in_ok-extend_from_slice.ensures.items c.if-header.false

pub returns-then-header : goal.returns-then-header
returns-then-header c =
    joins_last c.in-Some.header _ _ _ _ _ _ _ c.requires c.loop-header.invariant c.in-Some.ensures c.split_at.ensures.back c.min.ensures c.split_at-in-Some.ensures.front (c.from_vec.ensures ∙ c.in_ok-extend_from_slice.ensures.items) c.if-header.true
