use Rattle.std.proofs.Common.{◌≡◌, false, None, List, All, subst, arith}
use Rattle.clock_rule.specs.declared.rule.Note.{Note}
use Rattle.clock_rule.specs.Clocks.{breaks}
use Rattle.clock_rule.proofs.Least.{all_kept, fault_else}
use Rattle.clock_rule.proofs.window.judge.Goals as goal

pub returns-else-is_broken-clause-none : goal.returns-else-is_broken-clause-none
returns-else-is_broken-clause-none c =
    let least = subst (λ (xs : List Note). All (λ m. breaks c.args.term c.args.drift m c.args.later ≡ false) xs) c.deref-2.ensures.value (c.is_broken.ensures c.if-is_broken.false) in
    fault_else c.args.term c.args.drift c.args.notes.now c.args.window.now c.args.later None c.requires.fits c.requires.client (omega arith)
    (all_kept c.args.term c.args.drift c.args.notes.now c.args.window.now c.args.later c.requires.fits c.requires.client (omega arith) least)
