use Rattle.std.proofs.Common.{rules}
use Rattle.log_store.proofs.Hold.{relieved_applied, not_relieved, clear_empty}
use Rattle.log_store.proofs.records.LogStore.add_behind.Goals as goal

pub returns-clause-does : goal.returns-clause-does
returns-clause-does g c = λ told records past s sure.
    let empty = c.in_ok-carry_out.ensures.empty in
    let relieved = c.in_ok-carry_out.ensures.does told records past sure (λ u. s) in
    relieved_applied c.args.edits.now records past _ _ _ _ _ _ _ _ relieved
    (c.add.ensures.does told records past (relieved.held empty.1) (clear_empty c.args.edits.now _ empty.0) empty.1)

pub returns-in_err-carry_out-clause-does : goal.returns-in_err-carry_out-clause-does
returns-in_err-carry_out-clause-does g c = λ told records past s sure.
    not_relieved c.args.edits.now records past _ _ _ _ _ (search rules) (c.in_err-carry_out.ensures.does told records past sure (λ u. s))
