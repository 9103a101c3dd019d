use Rattle.std.proofs.Common.{◌≡◌, ◌∙◌, ℕ, Bool, true, not, ◌==◌, ◌&&◌, ap, subst, sym}
use Rattle.lbfs_client.specs.Mounting.{Mount}
use Rattle.mount_desk.specs.Course.{Course}
use Rattle.mount_desk.proofs.Courses.{known_last}
use Rattle.mount_desk.proofs.kept_desk.KeptDesk.into_parts.Goals as goal

pub returns-clause-parts : goal.returns-clause-parts
returns-clause-parts g c =
    let parts = c.into_parts-mounted.ensures in (
      ap (λ (p : Mount × Bool × ℕ). p.0) parts,
      c.is_known-known.ensures ∙ ap (λ (p : Mount × Bool × ℕ). ((c.args.self.drift == c.args.drift) && (p.2 == c.args.most)) && not p.1) parts,
    )

pub returns-clause-course : goal.returns-clause-course
returns-clause-course g c =
    let d = c.args.self.desk in
    let parts = c.into_parts-mounted.ensures in
    let is : c.is_known-known.result ≡ (((c.args.self.drift == c.args.drift) && (d.most == c.args.most)) && not d.starved) =
    c.is_known-known.ensures ∙ ap (λ (p : Mount × Bool × ℕ). ((c.args.self.drift == c.args.drift) && (p.2 == c.args.most)) && not p.1) parts in
    subst (λ (m : Mount). ∥ ((n : ℕ) × (c.is_known-known.result ≡ true → Course c.args.drift c.args.most n m)) ∥₁) (sym (ap (λ (p : Mount × Bool × ℕ). p.0) parts))
    (known_last c.is_known-known.result d.starved c.args.self.drift c.args.drift d.most c.args.most d.listed d.mounted is c.args.self.course)
