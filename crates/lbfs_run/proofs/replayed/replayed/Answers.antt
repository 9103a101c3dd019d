use Rattle.std.proofs.Common.{◌≡◌, ℕ, Ok, sym, subst, arith}
use Rattle.trace_replay.specs.Timed.{Timed, accepted}
use Rattle.trace_replay.specs.Lines.{applied_from}
use Rattle.trace_generator.specs.Lines.{opening_lines, generated_text}
use Rattle.lbfs_run.specs.Taken.{AreTaken}
use Rattle.lbfs_run.proofs.Parts.{opening_taken, next_small, block_taken, block_ran, ran_accepted}
use Rattle.lbfs_run.proofs.replayed.replayed.Goals as goal

pub run_opening-requires : goal.run_opening-requires
run_opening-requires c = subst (λ (v : Timed). AreTaken v 1 (opening_lines c.args.seed)) (sym c.in_ok-world.ensures) (opening_taken c.args.seed)

pub loop-block-init : goal.loop-block-init
loop-block-init c = subst (λ (v : Timed). applied_from v 1 (opening_lines c.args.seed) ≡ Ok (c.run_opening.new.world, c.in_ok-next.next)) c.in_ok-world.ensures c.in_ok-next.ensures

pub run_block-requires-clause-small : goal.run_block-requires-clause-small
run_block-requires-clause-small c = next_small c.args.seed c.loop-block.block c.loop-block.world c.loop-block.next (omega (arith, c.requires, c.loop-block.auto.block-end)) c.loop-block.invariant

pub run_block-requires-clause-block : goal.run_block-requires-clause-block
run_block-requires-clause-block c = omega (arith, c.requires, c.loop-block-test.true)

pub run_block-requires-clause-taken : goal.run_block-requires-clause-taken
run_block-requires-clause-taken c = block_taken c.args.seed c.loop-block.block c.loop-block.world c.loop-block.next (omega (arith, c.requires, c.loop-block-test.true)) c.loop-block.invariant

pub loop-block-preserved : goal.loop-block-preserved
loop-block-preserved c = block_ran c.args.seed c.loop-block.block c.loop-block.world c.run_block.new.world c.loop-block.next c.in_ok-next-2.next c.loop-block.invariant c.in_ok-next-2.ensures

-- the loop ends behind the last block
pub returns : goal.returns
returns c =
    let all : c.loop-block.block ≡ c.args.blocks = omega (arith, c.loop-block.auto.block-end, c.loop-block-test.false) in
    subst (λ (n : ℕ). accepted (generated_text c.args.seed n) ≡ Ok c.loop-block.world.world) all (ran_accepted c.args.seed c.loop-block.block c.loop-block.world c.loop-block.next (omega (arith, c.requires, c.loop-block.auto.block-end)) c.loop-block.invariant)
