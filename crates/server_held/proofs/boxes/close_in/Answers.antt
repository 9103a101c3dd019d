use Rattle.server_held.proofs.Keys.{GoneAt, gone_lacks, gone_others, gone_unique, keeps_same}
use Rattle.server_held.proofs.boxes.close_in.Goals as goal

pub returns-in-Some : goal.returns-in-Some
returns-in-Some g c =
    let found = c.in-Some.ensures.found in
    let k : GoneAt c.args.boxes.now c.remove_at.new.boxes c.in-Some.key c.args.session found.0 = record { was = found.1; gone = c.remove_at.ensures.gone; others = c.remove_at.ensures.others } in
    record {
      unique = gone_unique _ _ _ _ _ k c.requires;
      gone = gone_lacks _ _ _ _ _ k c.requires;
      others = gone_others _ _ _ _ _ k;
    }

pub returns-in-None : goal.returns-in-None
returns-in-None g c = record { unique = c.requires; gone = c.in-None.ensures.none; others = keeps_same c.args.boxes.now c.args.session }
