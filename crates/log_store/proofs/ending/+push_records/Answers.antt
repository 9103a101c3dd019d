use Rattle.std.proofs.Common.{rules}
use Rattle.log_store.proofs.End.{still_there, none_there}
use Rattle.log_store.proofs.ending.+push_records.Goals as goal

pub returns-in_err-push-in-Record-clause-stays : goal.returns-in_err-push-in-Record-clause-stays
returns-in_err-push-in-Record-clause-stays t c = λ n is. still_there _ _ n c.in_err-push-in-Record.ensures.items is

pub returns-in_err-push-in-Record-clause-done : goal.returns-in_err-push-in-Record-clause-done
returns-in_err-push-in-Record-clause-done t c = search rules

pub returns-in-empty-clause-done : goal.returns-in-empty-clause-done
returns-in-empty-clause-done t c = λ n is. absurd (none_there c.args.names.now _ c.in-empty.len_below is)
