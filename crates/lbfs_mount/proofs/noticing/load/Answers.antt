use Rattle.std.proofs.Common.{ℕ, List, Option, subst, sym}
use Rattle.std.specs.Borrow.{Bor}
use Rattle.std.specs.Prelude.{IfSome}
use Rattle.lbfs_client.specs.Caching.{Loads}
use Rattle.lbfs_client.specs.Mounting.{Mount}
use Rattle.lbfs_client.specs.declared.answer.Answer.{Answer}
use Rattle.mount_desk.specs.Course.{Begun}
use Rattle.lbfs_mount.proofs.noticing.load.Goals as goal

pub returns-in-Some-clause-begun : goal.returns-in-Some-clause-begun
returns-in-Some-clause-begun g c = λ drift host is. Begun.loaded host c.in-Some.name.now c.load-told.result.0 c.load-told.result.1 (subst (λ (m : Mount). Loads m c.in-Some.name.now c.load-told.result.0 c.load-told.result.1 c.load-told.new.self) is c.load-told.ensures)

pub returns-in-Some-clause-loaded : goal.returns-in-Some-clause-loaded
returns-in-Some-clause-loaded g c =
    subst (λ (o : Option (Bor (List ℕ))). IfSome o (λ name. (told : Option Answer) × Loads c.args.mounted.now name.now told c.load-told.result.1 c.load-told.new.self)) (sym c.in-Some.is)
    (c.load-told.result.0, c.load-told.ensures)

pub returns-in-None-clause-begun : goal.returns-in-None-clause-begun
returns-in-None-clause-begun g c = λ drift host is. Begun.bare host is
