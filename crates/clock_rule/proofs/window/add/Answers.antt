use Rattle.std.proofs.Common.{◌≡◌, ◌≤◌, refl, arith, sym, ap, subst, List, length}
use Rattle.std.specs.List.{AllWithin}
use Rattle.std.proofs.lemmas.Grind.{common_steps}
use Rattle.clock_rule.specs.declared.rule.Note.{Note}
use Rattle.clock_rule.specs.declared.window.Window.{Window}
use Rattle.clock_rule.specs.Clocks.{notes_of}
use Rattle.clock_rule.specs.Windows.{Fits, Rises, Covers}
use Rattle.clock_rule.proofs.Least.{fits_same, fits_alike, fits_more}
use Rattle.clock_rule.proofs.window.add.Goals as goal

pub returns-in_err-push-clause-fits : goal.returns-in_err-push-clause-fits
returns-in_err-push-clause-fits c =
    fits_same c.args.term c.args.notes.now.items c.push.new.self.items c.args.window.now (ap (notes_of c.args.window.now.client) c.in_err-push.ensures.items) c.requires.fits

pub returns-in-Err-clause-fits : goal.returns-in-Err-clause-fits
returns-in-Err-clause-fits c =
    let e : c.pop.new.self.items ≡ c.args.notes.now.items = grind (arith, common_steps) in
    let new : Window = record { client = c.args.window.now.client; last = c.args.window.now.last; passed = c.args.window.now.passed; least = c.put.new.least } in
    fits_alike c.args.term c.args.notes.now.items c.pop.new.self.items c.args.window.now new refl refl refl c.in-Err.ensures.err (ap (notes_of c.args.window.now.client) e) c.requires.fits

pub returns-clause-fits : goal.returns-clause-fits
returns-clause-fits c =
    let new : Window = record { client = c.args.window.now.client; last = c.args.later.reading; passed = c.min-window.result; least = c.put.new.least } in
    let keep = c.kept-keep.result in
    let is = c.deref.ensures.value in
    let more = fits_more c.args.term c.args.notes.now.items c.args.window.now new c.args.later c.args.at keep c.requires.fits c.requires.client c.requires.order c.requires.reach
    (subst (λ (xs : List Note). keep ≤ length xs) is c.kept-keep.ensures.within)
    (subst (λ (xs : List Note). AllWithin (λ m. Rises m c.args.later) xs 0 keep) is c.kept-keep.ensures.rise)
    (subst (λ (xs : List Note). AllWithin (λ m. Covers c.args.later m) xs keep (length xs)) is c.kept-keep.ensures.covered)
    refl refl c.min-window.ensures c.in_default.ensures.ok in
    subst (λ (ns : List Note). Fits c.args.term ns new) (sym c.in_ok-push.ensures.items) more
