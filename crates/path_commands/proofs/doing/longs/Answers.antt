use Rattle.std.proofs.Common.{refl, sym, subst, ap, ◌∙◌, ℕ, ◌+◌, ◌-◌, List, length, take, arith}
use Rattle.std.proofs.lemmas.List.{take_all}
use Rattle.std.proofs.lemmas.Result.{IfOk-weaker}
use Rattle.shell_walks.specs.Telling.{fine}
use Rattle.shell_walks.specs.declared.told.Told.{Told}
use Rattle.path_commands.specs.Doing.{Longs, Longs.none, ListsLong.all, ListsLong.stopped, with_left}
use Rattle.path_commands.proofs.Walking.{long_on, shown_at}
use Rattle.path_commands.proofs.doing.longs.Goals as goal

pub loop-at-init : goal.loop-at-init
loop-at-init g c = none _ _ _ refl (c.fine-told.ensures ∙ ap (λ (t : List ℕ). fine t) c.new.ensures) refl

pub returns-then-not-is_answered : goal.returns-then-not-is_answered
returns-then-not-is_answered g c = IfOk-weaker c.with_left.result _ _ (λ told t. stopped c.loop-at.at c.as_slice-name.result.now c.loop-at.told c.loop-at.remote c.in_ok-answer.answer (omega (arith, c.loop-at-test.true)) (shown_at c.args.names.now c.loop-at.at c.index-names-at.result _ c.index-names-at.is c.as_slice-name.ensures) c.loop-at.invariant c.in_ok-answer.ensures (sym c.is_answered.ensures ∙ c.if-not-is_answered.true) (t ∙ ap (λ (x : Told). with_left (length c.args.names.now - (c.loop-at.at + 1)) x) c.in_ok-put_long.ensures)) c.with_left.ensures

pub loop-at-preserved : goal.loop-at-preserved
loop-at-preserved g c = long_on g.R.Remote.asks _ c.args.path.now c.args.names.now c.loop-at.at c.as_slice-name.result.now _ _ _ _ _ (omega (arith, c.loop-at-test.true)) (shown_at c.args.names.now c.loop-at.at c.index-names-at.result _ c.index-names-at.is c.as_slice-name.ensures) c.loop-at.invariant c.in_ok-answer.ensures (sym c.is_answered.ensures ∙ c.if-not-is_answered.false) c.in_ok-put_long.ensures

pub returns : goal.returns
returns g c = all (subst (λ (l : List (List ℕ)). Longs g.R.Remote.asks c.args.remote.now c.args.path.now l c.loop-at.told c.loop-at.remote) (take_all c.loop-at.at c.args.names.now c.loop-at-test.false) c.loop-at.invariant)
