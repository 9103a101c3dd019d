use Rattle.std.proofs.Common.{◌≤◌, sym, subst}
use Rattle.server_core.specs.State.{State, entries_held}
use Rattle.server_held.specs.Kept.{KeepsTree}
use Rattle.server_law.specs.Facts.{Holds}
use Rattle.server_law.proofs.lemmas.Steps.{gives_up_told}
use Rattle.server_held.proofs.kept.KeptServer.give_up.Goals as goal

pub invariant_of-self : goal.invariant_of-self
invariant_of-self g c = subst (λ (s : State). (entries_held s.waiting ≤ g.S.Store.spare c.self.inside.store) × Holds c.self.inside.opened.value.tree s × KeepsTree (g.S.Store.records c.self.inside.store) s.tree) (sym c.gives_up.ensures) (c.self.invariant.0, gives_up_told c.self.inside.opened.value.tree c.self.inside.server c.args.session c.self.invariant.1, c.self.invariant.2)
