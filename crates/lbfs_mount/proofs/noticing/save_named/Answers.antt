use Rattle.std.proofs.Common.{Bool, refl, rules, subst, sym}
use Rattle.lbfs_mount.specs.Saved.{SavesIf}
use Rattle.lbfs_mount.proofs.noticing.save_named.Goals as goal

pub returns-then-not-replaces-clause-saves : goal.returns-then-not-replaces-clause-saves
returns-then-not-replaces-clause-saves g c = subst (λ (b : Bool). SavesIf b c.args.keep c.args.mounted.now c.args.name.now c.args.mounted.now) (sym c.if-not-replaces.true) refl

pub returns-clause-saves : goal.returns-clause-saves
returns-clause-saves g c = subst (λ (b : Bool). SavesIf b c.args.keep c.args.mounted.now c.args.name.now c.save-told.new.self) (sym c.if-not-replaces.false) (search rules)
