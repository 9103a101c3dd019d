use Rattle.std.proofs.Common.{length, sym, ap, ◌∙◌, arith}
use Rattle.rpc_record.specs.Records.{header_of}
use Rattle.rpc_record.proofs.Reaching.{reach_none, reach_out, reach_big, reach_short, reach_whole, reach_more}
use Rattle.rpc_record.proofs.fragments.look.Goals as goal

pub returns-in_default : goal.returns-in_default
returns-in_default c = (reach_none _ _ c.requires (ap header_of (sym c.split_at.ensures.back) ∙ sym c.in_default.ensures), c.requires)

pub returns-then-known-eq0 : goal.returns-then-known-eq0
returns-then-known-eq0 c = reach_out _ _ c.in-Some.header c.requires (ap header_of (sym c.split_at.ensures.back) ∙ sym c.in-Some.ensures) c.if-known-eq0.true (omega (arith, c.if-promised-gt-RECORD_MOST.false))

pub returns-then-promised-gt-RECORD_MOST : goal.returns-then-promised-gt-RECORD_MOST
returns-then-promised-gt-RECORD_MOST c =
    reach_big _ _ c.in-Some.header c.requires (ap header_of (sym c.split_at.ensures.back) ∙ sym c.in-Some.ensures) c.if-promised-gt-RECORD_MOST.true

pub returns-then-left-header : goal.returns-then-left-header
returns-then-left-header c = (
  reach_short _ _ c.in-Some.header c.requires (ap header_of (sym c.split_at.ensures.back) ∙ sym c.in-Some.ensures) (omega (arith, c.if-known-eq0.false)) (omega (arith, c.if-promised-gt-RECORD_MOST.false)) (omega (arith, c.if-left-header.true, ap length c.split_at.ensures.back)),
  c.requires,
)

pub returns-then-header : goal.returns-then-header
returns-then-header c =
    reach_whole _ _ c.in-Some.header c.requires (ap header_of (sym c.split_at.ensures.back) ∙ sym c.in-Some.ensures) (omega (arith, c.if-known-eq0.false)) (omega (arith, c.if-promised-gt-RECORD_MOST.false)) (omega (arith, c.if-left-header.false, ap length c.split_at.ensures.back)) c.if-header.true

pub returns : goal.returns
returns c = (
  reach_more _ _ c.in-Some.header c.requires (ap header_of (sym c.split_at.ensures.back) ∙ sym c.in-Some.ensures) (omega (arith, c.if-known-eq0.false)) (omega (arith, c.if-promised-gt-RECORD_MOST.false)) (omega (arith, c.if-left-header.false, ap length c.split_at.ensures.back)) c.if-header.false,
  omega (arith, c.if-known-eq0.false),
)
