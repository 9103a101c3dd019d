use Rattle.std.proofs.Common.{◌≡◌, refl, sym, subst, ap, ◌∙◌, ℕ, ◌+◌, List, Bool, length, take, arith}
use Rattle.std.proofs.lemmas.Result.{IfOk-weaker}
use Rattle.shell_walks.specs.Telling.{refused_told}
use Rattle.shell_walks.specs.declared.remote.Why.{Why}
use Rattle.path_commands.specs.Doing.{Makes, Makes.none, Makes.one, MakesAll.stopped, MakesAll.made, is_file, unmade_of}
use Rattle.path_commands.proofs.doing.make_all.Goals as goal

pub loop-end-init : goal.loop-end-init
loop-end-init g c = none _ _ refl refl

pub returns-then-not-is_there : goal.returns-then-not-is_there
returns-then-not-is_there g c = IfOk-weaker c.refused_told.result _ _ (λ told t. stopped c.loop-end.end c.loop-end.remote c.in_ok-answer.answer c.loop-end.invariant c.in_ok-answer.ensures (sym c.is_there.ensures ∙ c.if-not-is_there.true) (t ∙ ap (λ (p : List (List ℕ)). refused_told p c.why_of-why.result) (c.unmade_of-unmade.ensures ∙ ap (λ (b : Bool). unmade_of b (take c.loop-end.end c.args.path.now) (take (c.loop-end.end + 1) c.args.path.now)) c.is_file.ensures) ∙ ap (λ (w : Why). refused_told (unmade_of (is_file w) (take c.loop-end.end c.args.path.now) (take (c.loop-end.end + 1) c.args.path.now)) w) c.why_of-why.ensures)) c.refused_told.ensures

pub loop-end-preserved : goal.loop-end-preserved
loop-end-preserved g c = one c.loop-end.end c.loop-end.remote c.ask_on.new.remote c.in_ok-answer.answer c.loop-end.invariant c.in_ok-answer.ensures (sym c.is_there.ensures ∙ c.if-not-is_there.false)

pub returns : goal.returns
returns g c =
    let e : c.loop-end.end ≡ length c.args.path.now = omega (arith, c.loop-end-test.false, c.loop-end.auto.end-end) in
    IfOk-weaker c.directory_told.result _ _ (λ told t. made c.loop-end.remote c.in_ok-looked.looked (subst (λ (k : ℕ). Makes g.R.Remote.asks c.args.remote.now c.args.path.now k c.loop-end.remote) e c.loop-end.invariant) c.in_ok-looked.ensures t) c.directory_told.ensures
