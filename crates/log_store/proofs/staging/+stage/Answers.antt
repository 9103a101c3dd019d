use Rattle.log_store.proofs.Stage.{clear_front, clear_rest, staged_front, get_first}
use Rattle.log_store.proofs.staging.+stage.Goals as goal

pub returns-in_ok-stage_one-in-len1-up-clause-does : goal.returns-in_ok-stage_one-in-len1-up-clause-does
returns-in_ok-stage_one-in-len1-up-clause-does g t c = λ told records past pending s clear.
    let first = c.in_ok-stage_one-in-len1-up.ensures.does told records past pending s (clear_front c.args.edits.now _ c.in-len1-up.len_at_least pending clear) in
    let later = c.stage.ensures.does told records past pending first.sound (clear_rest c.args.edits.now (get_first c.args.edits.now c.in-len1-up.len_at_least) c.in-len1-up.len_at_least pending clear) in
    staged_front c.args.edits.now _ c.in-len1-up.len_at_least records past pending _ _ _ _ first later
