use Rattle.std.proofs.Common.{◌∙◌, sym, refl, []}
use Rattle.server_held.proofs.Keys.{Changed, changed_is, changed_others, changed_unique, keeps_same, lacks_unholds}
use Rattle.server_held.proofs.boxes.take_in.Goals as goal

pub returns-in-Some : goal.returns-in-Some
returns-in-Some g c =
    let found = c.in-Some.ensures.found in
    let taken = c.take_at.ensures.taken _ found.1 in
    let k : Changed c.args.boxes.now c.take_at.new.boxes c.in-Some.key c.args.session found.0 [] = record { was = found.1; is = taken.1; others = c.take_at.ensures.others } in
    record {
      unique = changed_unique _ _ _ _ _ _ k c.requires;
      taken = λ messages held. (taken.0 ∙ sym (changed_is _ _ _ _ _ _ k c.requires messages held), (c.in-Some.key, taken.1));
      none = λ lacks. absurd (lacks c.in-Some.key _ found.1 refl);
      others = changed_others _ _ _ _ _ _ k;
    }

pub returns-in-None : goal.returns-in-None
returns-in-None g c = record {
  unique = c.requires;
  taken = λ messages held. absurd (lacks_unholds c.args.boxes.now c.args.session messages c.in-None.ensures.none held);
  none = λ lacks. (c.new.ensures, lacks);
  others = keeps_same c.args.boxes.now c.args.session;
}
