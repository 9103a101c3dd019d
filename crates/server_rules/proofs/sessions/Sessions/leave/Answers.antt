use Rattle.std.proofs.Common.{◌≤◌, ◌∙◌, ap, sym}
use Rattle.std.specs.List.{list_any}
use Rattle.std.specs.Ordering.{nat_cmp}
use Rattle.std.specs.BTreeMap.{is_at}
use Rattle.std.proofs.lemmas.Map.Views.{All-remove_key}
use Rattle.server_rules.specs.Sessions.{Sessions, without}
use Rattle.server_rules.proofs.Numbers.{gone}
use Rattle.server_rules.proofs.sessions.Sessions.leave.Goals as goal

pub invariant_of-self : goal.invariant_of-self
invariant_of-self c = rw c.remove.ensures.keys (All-remove_key (is_at (nat_cmp c.args.session)) (λ k. k ≤ c.self.inside.made) _ c.self.invariant)

pub returns : goal.returns
returns c =
    let left = c.remove.ensures in
    let none = ap (list_any (is_at (nat_cmp c.args.session))) (sym left.keys) ∙ left.updates.1 in
    let seen : Sessions = record { standing = c.self.inside.standing.keys; made = c.self.inside.made } in
    ap (λ ks. record seen { standing = ks }) (left.keys ∙ gone c.args.session _ none)
    ∙ ap (λ s. without s c.args.session) c.self.view_is
