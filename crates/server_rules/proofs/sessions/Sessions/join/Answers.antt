use Rattle.std.proofs.Common.{◌∙◌, ap, arith, ◌≤◌, ◌++◌, ◌∷◌, []}
use Rattle.std.specs.Ordering.{nat_cmp}
use Rattle.std.proofs.lemmas.Map.Views.{All-insert_key}
use Rattle.server_rules.specs.Sessions.{Sessions, with_next}
use Rattle.server_rules.proofs.Numbers.{behind}
use Rattle.server_rules.proofs.sessions.Sessions.join.Goals as goal

-- none of those that stand is above the new number, which is the highest
pub invariant_of-self-2 : goal.invariant_of-self-2
invariant_of-self-2 c =
    let next = c.in-Some.ensures.number in
    rw c.in_ok-insert.ensures.keys (All-insert_key nat_cmp c.in-Some.session (λ k. k ≤ c.in-Some.session) _ (λ k d lt. omega (arith, next, c.self.invariant k d lt)) (omega arith))

-- it goes behind them
pub returns-clause-joined : goal.returns-clause-joined
returns-clause-joined c =
    let next = c.in-Some.ensures.number in
    let last = behind c.in-Some.session _ (λ k d lt. omega (arith, next, c.self.invariant k d lt)) in
    let made : Sessions = record { standing = c.self.inside.standing.keys; made = c.in-Some.session } in
    ap (λ ks. record made { standing = ks }) (c.in_ok-insert.ensures.keys ∙ last)
    ∙ ap (λ n. record { standing = c.self.inside.standing.keys ++ n ∷ []; made = n }) next
    ∙ ap with_next c.self.view_is
