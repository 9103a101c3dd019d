use Rattle.std.proofs.Common.{rules}
use Rattle.log_store.proofs.End.{loaded, leaves_swept, left_swept}
use Rattle.log_store.proofs.records.LogStore.load.Goals as goal

pub returns-in_err-rest-clause-does : goal.returns-in_err-rest-clause-does
returns-in_err-rest-clause-does g c = λ told f l records past is loads.
    let rested = c.in_err-rest.ensures.does told f l records past is loads in
    record { leaves = rested.leaves; left = rested.left; names = search rules; quiet = search rules; sound = search rules }

pub returns-in_err-names-clause-does : goal.returns-in_err-names-clause-does
returns-in_err-names-clause-does g c = λ told f l records past is loads.
    let rested = c.in_ok-rest.ensures.does told f l records past is loads in
    let swept = c.sweep.ensures.does told records rested.done in
    record {
      leaves = leaves_swept records past _ _ _ rested _ swept;
      left = left_swept records past _ _ _ rested _ swept;
      names = search rules;
      quiet = search rules;
      sound = search rules;
    }

pub returns-clause-does : goal.returns-clause-does
returns-clause-does g c = λ told f l records past is loads.
    let rested = c.in_ok-rest.ensures.does told f l records past is loads in
    loaded records past _ _ _ _ rested _ (c.in_ok-names.ensures.does told records rested.done) (c.take_reserve-later.ensures.does told)
