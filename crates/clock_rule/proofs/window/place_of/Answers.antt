use Rattle.std.proofs.Common.{refl, arith, sym, ap, ◌∙◌}
use Rattle.std.proofs.lemmas.Option.{slice_get_read, slice_get_within}
use Rattle.clock_rule.specs.declared.window.Window.{Window}
use Rattle.clock_rule.proofs.Windows.{not_here}
use Rattle.clock_rule.proofs.window.place_of.Goals as goal

pub returns-then-windows-at-clause-found : goal.returns-then-windows-at-clause-found
returns-then-windows-at-clause-found c =
    (c.index-windows-at.result, slice_get_read c.args.windows.now _ c.loop-at.at c.index-windows-at.result refl (omega arith) c.index-windows-at.is, ap (λ (d : Window). d.client) c.index-windows-at.is ∙ c.if-windows-at.true)

pub loop-at-preserved : goal.loop-at-preserved
loop-at-preserved c =
    not_here c.args.windows.now c.loop-at.at c.index-windows-at.result c.args.client
    (slice_get_read c.args.windows.now _ c.loop-at.at c.index-windows-at.result refl (omega arith) c.index-windows-at.is)
    (λ e. c.if-windows-at.false (sym (ap (λ (d : Window). d.client) c.index-windows-at.is) ∙ e)) c.loop-at.invariant

pub returns-clause-none : goal.returns-clause-none
returns-clause-none c = λ i d there. c.loop-at.invariant i d (omega (arith, slice_get_within c.args.windows.now i d there)) there
