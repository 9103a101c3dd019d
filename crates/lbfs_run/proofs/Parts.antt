-- A generated trace that is run block by block.
use Rattle.std.proofs.Common.{◌≡◌, ℕ, suc, ◌+◌, ◌*◌, ◌^◌, ◌<◌, ◌≤◌, List, [], ◌∷◌, ◌++◌, length, sym, ap, subst, ◌∙◌, arith}
use Rattle.std.specs.Prelude.{Result, Ok, Err}
use Rattle.command_text.specs.Parts.{lines_of}
use Rattle.command_text.proofs.lemmas.Again.{lines_again}
use Rattle.trace_replay.specs.declared.fault.Refused.{Refused}
use Rattle.trace_replay.specs.declared.stage.Stage.{Stage}
use Rattle.trace_replay.specs.declared.stage.Stage.TheVariants as stage
use Rattle.trace_replay.specs.Run.{in_header, ended}
use Rattle.trace_replay.specs.Timed.{Timed, timed_start, accepted_from, accepted}
use Rattle.trace_replay.specs.Lines.{applied_from, ended_at}
use Rattle.trace_replay.proofs.lemmas.Going.{accepted_at_end, applied_then, applied_number}
use Rattle.trace_generator.specs.Lines.{opening_lines, block_lines, generated_lines, generated_text, text_of}
use Rattle.lbfs_run.specs.Taken.{AreTaken}
use Rattle.lbfs_run.proofs.Opening.{opening_leads}
use Rattle.lbfs_run.proofs.Clean.{opening_is, block_is}
use Rattle.lbfs_run.proofs.Accepted.{lines_count, lines_again_of, generated_leads}

-- ---- the lines of a part's text

pub opening_read : (text : List ℕ) (seed : ℕ) → text ≡ text_of (opening_lines seed) → lines_of text ≡ opening_lines seed
unfolding text_of
opening_read text seed e = ap lines_of e ∙ lines_again (opening_lines seed) (opening_is seed)

pub block_read : (text : List ℕ) (seed block : ℕ) → block ≤ 5000 → text ≡ text_of (block_lines seed block) → lines_of text ≡ block_lines seed block
unfolding text_of
block_read text seed block few e = ap lines_of e ∙ lines_again (block_lines seed block) (block_is seed block few)

-- ---- none of them is refused

pub opening_taken : (seed : ℕ) → AreTaken timed_start 1 (opening_lines seed)
opening_taken seed = let h = opening_leads seed in (h.world, 1 + length (opening_lines seed), h.goes)

-- the first so many blocks led there
abbrev pub Ran : (seed blocks : ℕ) (w : Timed) (next : ℕ) → Type 0
Ran seed blocks w next = applied_from timed_start 1 (generated_lines seed blocks) ≡ Ok (w, next)

pub next_small : (seed blocks : ℕ) (w : Timed) (next : ℕ) → blocks ≤ 5000 → Ran seed blocks w next → next < 2 ^ 63
next_small seed blocks w next few e = omega (arith, few, applied_number timed_start w 1 next (generated_lines seed blocks) e, lines_count seed blocks)

one_more : (k : ℕ) → suc k ≡ k + 1
one_more k = omega arith

pub block_taken : (seed k : ℕ) (w : Timed) (next : ℕ) → k + 1 ≤ 5000 → Ran seed k w next → AreTaken w next (block_lines seed (k + 1))
block_taken seed k w next few e =
    let h = generated_leads seed (suc k) (omega (arith, few)) in
    let goes : applied_from w next (block_lines seed (suc k)) ≡ Ok (h.world, 1 + length (generated_lines seed (suc k))) = sym (applied_then timed_start w 1 next (generated_lines seed k) (block_lines seed (suc k)) e) ∙ h.goes in
    subst (λ (n : ℕ). AreTaken w next (block_lines seed n)) (one_more k) (h.world, 1 + length (generated_lines seed (suc k)), goes)

pub block_ran : (seed k : ℕ) (w v : Timed) (next after : ℕ) → Ran seed k w next → applied_from w next (block_lines seed (k + 1)) ≡ Ok (v, after) → Ran seed (k + 1) v after
block_ran seed k w v next after e f =
    let step : applied_from w next (block_lines seed (suc k)) ≡ Ok (v, after) = ap (λ (n : ℕ). applied_from w next (block_lines seed n)) (one_more k) ∙ f in
    subst (λ (n : ℕ). Ran seed n v after) (one_more k) (applied_then timed_start w 1 next (generated_lines seed k) (block_lines seed (suc k)) e ∙ step)

-- ---- the whole

world_in : Timed → Result (Timed × ℕ) Refused → Timed
world_in v (Ok p) = p.0
world_in v (Err r) = v

pub ran_accepted : (seed blocks : ℕ) (w : Timed) (next : ℕ) → blocks ≤ 5000 → Ran seed blocks w next → accepted (generated_text seed blocks) ≡ Ok w.world
unfolding world_in
ran_accepted seed blocks w next few e =
    let h = generated_leads seed blocks few in
    let same : h.world ≡ w = ap (world_in w) (sym h.goes ∙ e) in
    let events : w.world.stage ≡ stage.Events = subst (λ (v : Timed). v.world.stage ≡ stage.Events) same h.stands.stage in
    ap (accepted_from timed_start 1) (lines_again_of seed blocks few)
    ∙ accepted_at_end timed_start 1 (generated_lines seed blocks)
    ∙ ap ended_at e
    ∙ ap (λ (s : Stage). ended w.world next (in_header s)) events
