use Rattle.std.proofs.Common.{rules, sym, ◌∙◌, true≢false}
use Rattle.log_store.proofs.Hold.{relieved_applied, not_relieved}
use Rattle.log_store.proofs.Steps.{on_ok, always}
use Rattle.log_store.proofs.records.LogStore.apply.Goals as goal

pub returns-clause-made : goal.returns-clause-made
returns-clause-made g c = on_ok c.add_or_again.result (λ u. search rules) (always c.add_or_again.result)

pub returns-clause-does : goal.returns-clause-does
returns-clause-does g c = λ told records past held sure.
    let kept = c.in_ok-make_way.ensures.sure sure in
    let relieved = c.in_ok-make_way.ensures.does told records past sure held in
    relieved_applied c.args.edits.now records past _ _ _ _ _ _ _ _ relieved (c.add_or_again.ensures.does told records past (relieved.held kept) c.in_ok-make_way.ensures.clear kept)

pub returns-in_err-make_way-clause-does : goal.returns-in_err-make_way-clause-does
returns-in_err-make_way-clause-does g c = λ told records past held sure.
    not_relieved c.args.edits.now records past _ _ _ _ _ (search rules) (c.in_err-make_way.ensures.does told records past sure held)

pub returns-then-self-clause-does : goal.returns-then-self-clause-does
returns-then-self-clause-does g c = λ told records past held sure. absurd (true≢false (sym c.if-self.true ∙ sure))
