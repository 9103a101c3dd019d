use Rattle.std.proofs.Common.{◌∙◌, ap, Some, []}
use Rattle.server_held.specs.Boxes.{Holds, Lacks}
use Rattle.server_held.proofs.Keys.{OpenAt, open_others, open_unique, full_unique, full_lacks, full_others, no_ok, on_err}
use Rattle.server_held.proofs.boxes.open_new.Goals as goal

pub returns : goal.returns
returns g c =
    let done = c.in_ok-insert in
    let k : OpenAt c.args.boxes.now c.insert.new.self done.field-0 c.args.session = record { vacant = done.ensures.was_vacant; is = done.ensures.updates.changed ∙ ap (λ ms. Some (record { session = c.args.session; messages = ms })) c.new.ensures; others = done.ensures.updates.others } in
    record {
      unique = open_unique _ _ _ _ k c.requires.none c.requires.unique;
      opened = (done.field-0, k.is);
      err = tt;
      others = open_others _ _ _ _ k;
    }

pub returns-in_err-insert : goal.returns-in_err-insert
returns-in_err-insert g c =
    let same = c.in_err-insert.ensures.err in
    record {
      unique = full_unique c.args.boxes.now c.insert.new.self same c.requires.unique;
      opened = no_ok c.from_residual.result (Holds c.insert.new.self c.args.session []) c.from_residual.ensures.0;
      err = on_err c.from_residual.result (Lacks c.insert.new.self c.args.session) (full_lacks c.args.boxes.now c.insert.new.self c.args.session same c.requires.none);
      others = full_others c.args.boxes.now c.insert.new.self c.args.session same;
    }
