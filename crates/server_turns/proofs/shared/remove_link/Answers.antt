use Rattle.std.proofs.Common.{◌≡◌, List, ◌∷◌, ◌<◌, length, sym, ap, subst, ◌∙◌, arith}
use Rattle.std.specs.List.Sorted.{IsPermutation}
use Rattle.std.proofs.lemmas.List.Elements.{at_read}
use Rattle.std.proofs.lemmas.List.Sorted.{IsPermutation-swap_remove}
use Rattle.server_turns.specs.declared.shared.SessionLink.{SessionLink}
use Rattle.server_turns.proofs.shared.remove_link.Goals as goal
use Rattle.server_turns.proofs.shared.remove_link.Goals.{then-loop-at-test+else-index-session, else-loop-at-test}

pub returns-then-at-len-clause-gone : goal.returns-then-at-len-clause-gone
returns-then-at-len-clause-gone g c = λ one there same.
    let links = c.args.links.now.items in
    let gone = c.swap_remove.result in
    let within : c.loop-at.at < length links = omega arith in
    elim c.loop-at-test.branch [
      | then-loop-at-test+else-index-session w ↦ (
        gone,
        ap (λ (link : SessionLink g.row.L.Denot). link.session) c.swap_remove.ensures.value ∙ at_read links (λ link. link.session ≡ c.args.session) c.loop-at.at w.index.result.now within w.index.ensures w.if-index-session.false gone,
        subst (λ left. IsPermutation links (gone ∷ left)) (sym {A = List (SessionLink g.row.L.Denot)} c.swap_remove.ensures.items) (IsPermutation-swap_remove links c.loop-at.at gone within c.swap_remove.ensures.value),
      )
      | else-loop-at-test w ↦ absurd (omega (arith, w.loop-at-test.false))
    ]
