use Rattle.std.proofs.Common.{rules, inr}
use Rattle.log_store.specs.Lines.{all_lines}
use Rattle.log_store.proofs.Steps.{weaker}
use Rattle.log_store.proofs.End.{read_sound, rested, whichs}
use Rattle.log_store.proofs.ending.rest.Goals as goal

pub returns-in_err-catch_up-clause-does : goal.returns-in_err-catch_up-clause-does
returns-in_err-catch_up-clause-does g c = λ told f l records past is loads.
    let up = c.in_err-catch_up.ensures.does told f l past is in
    record { leaves = weaker (λ d k o. inr o) up.leaves; left = λ d k left. inr (up.left d k left); done = search rules }

pub returns-clause-does : goal.returns-clause-does
returns-clause-does g c = λ told f l records past is loads.
    let up = c.in_ok-catch_up.ensures.does told f l past is in
    rested records past (whichs (all_lines l)) f l _ _ _ _ _ c.carried.ensures up (c.carry_out.ensures.does told records _ (whichs (all_lines l)) (read_sound f l records _ up.done loads))
