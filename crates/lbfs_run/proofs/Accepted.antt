-- Every generated trace is accepted.
use Rattle.std.proofs.Common.{◌≡◌, ℕ, zero, suc, ◌+◌, ◌*◌, ◌/◌, ◌%◌, ◌≤◌, ◌==◌, [], ◌∷◌, ◌++◌, length, Bool, true, false, cond, ap, ◌∙◌, arith}
use Rattle.std.specs.Prelude.{Ok}
use Rattle.std.proofs.lemmas.List.{length-append}
use Rattle.command_text.specs.Parts.{lines_of}
use Rattle.command_text.proofs.lemmas.Again.{lines_again}
use Rattle.trace_replay.specs.declared.stage.Stage.{Stage}
use Rattle.trace_replay.specs.World.{World}
use Rattle.trace_replay.specs.Run.{in_header, ended}
use Rattle.trace_replay.specs.Timed.{timed_start, accepted_from, accepted}
use Rattle.trace_replay.specs.Lines.{ended_at}
use Rattle.trace_replay.proofs.lemmas.Going.{accepted_at_end}
use Rattle.trace_generator.specs.Lines.{choice, client_of, file_of, offset_of, time_of, change_lines, abandon_lines, opening_lines, block_lines, generated_lines, generated_text, text_of}
use Rattle.lbfs_run.proofs.Steps.{Leads, lines_then}
use Rattle.lbfs_run.proofs.Blocks.{block_leads}
use Rattle.lbfs_run.proofs.Opening.{opening_leads}
use Rattle.lbfs_run.proofs.Clean.{generated_are}

-- ---- how many lines there are

rest_size : (leaves : Bool) (client file offset block time : ℕ) → length (cond leaves (abandon_lines client file time) (change_lines client file offset block time)) ≤ 9
rest_size true client file offset block time = omega arith
rest_size false client file offset block time = omega arith

block_size : (seed block : ℕ) → length (block_lines seed block) ≤ 11
unfolding block_lines
block_size seed block =
    let q : ℕ = choice seed block in
    omega (arith, rest_size (q / 32 % 2 == 0) (client_of q) (file_of q) (offset_of q) block (time_of block))

pub lines_count : (seed blocks : ℕ) → length (generated_lines seed blocks) ≤ 16 + 11 * blocks
unfolding opening_lines
lines_count seed zero = omega arith
lines_count seed (suc k) = omega (arith, length-append (generated_lines seed k) (block_lines seed (suc k)), lines_count seed k, block_size seed (suc k))

-- ---- the law

pub generated_leads : (seed blocks : ℕ) → blocks ≤ 5000 → Leads timed_start 1 (generated_lines seed blocks) (10 * blocks) (10 * blocks)
generated_leads seed zero few = opening_leads seed
generated_leads seed (suc k) few =
    let h : Leads timed_start 1 (generated_lines seed k) (10 * k) (10 * k) = generated_leads seed k (omega (arith, few)) in
    lines_then timed_start 1 (generated_lines seed k) (block_lines seed (suc k)) (10 * k) (10 * k) (10 * suc k) (10 * suc k) h
    (block_leads h.world (1 + length (generated_lines seed k)) (10 * k) seed (suc k) h.stands (omega arith) few (omega (arith, few, lines_count seed k)))

pub lines_again_of : (seed blocks : ℕ) → blocks ≤ 5000 → lines_of (generated_text seed blocks) ≡ generated_lines seed blocks
unfolding text_of
lines_again_of seed blocks few = lines_again (generated_lines seed blocks) (generated_are seed blocks few)

pub generated_accepted : (seed blocks : ℕ) → blocks ≤ 5000 → (w : World) × (accepted (generated_text seed blocks) ≡ Ok w)
generated_accepted seed blocks few =
    let h : Leads timed_start 1 (generated_lines seed blocks) (10 * blocks) (10 * blocks) = generated_leads seed blocks few in
    let n : ℕ = 1 + length (generated_lines seed blocks) in (
      h.world.world,
      ap (accepted_from timed_start 1) (lines_again_of seed blocks few)
          ∙ accepted_at_end timed_start 1 (generated_lines seed blocks)
          ∙ ap ended_at h.goes
          ∙ ap (λ (s : Stage). ended h.world.world n (in_header s)) h.stands.stage,
    )
