use Rattle.std.proofs.Common.{refl}
use Rattle.server_held.proofs.Keys.{PutAt, put_others, put_unique, put_there, put_kept, keeps_same, lacks_unholds}
use Rattle.server_held.proofs.boxes.put_in.Goals as goal

pub returns-in-Some : goal.returns-in-Some
returns-in-Some g c =
    let found = c.in-Some.ensures.found in
    let k : PutAt c.args.boxes.now c.put_at.new.boxes c.in-Some.key c.args.session found.0 c.args.message c.put_at.result = record { was = found.1; ok = c.put_at.ensures.ok _ found.1; err = c.put_at.ensures.err _ found.1; others = c.put_at.ensures.others } in
    record {
      unique = put_unique _ _ _ _ _ _ _ k c.requires;
      put = put_there _ _ _ _ _ _ _ k c.requires;
      kept = put_kept _ _ _ _ _ _ _ k c.requires;
      none = λ lacks. absurd (lacks c.in-Some.key _ found.1 refl);
      others = put_others _ _ _ _ _ _ _ k;
    }

pub returns-in-None : goal.returns-in-None
returns-in-None g c = record {
  unique = c.requires;
  put = λ messages held. absurd (lacks_unholds c.args.boxes.now c.args.session messages c.in-None.ensures.none held);
  kept = λ messages held. tt;
  none = λ lacks. lacks;
  others = keeps_same c.args.boxes.now c.args.session;
}
