use Rattle.log_store.proofs.End.{tidied_on}
use Rattle.log_store.proofs.ending.+remove_news.Goals as goal

pub returns-in-len1-up-clause-does : goal.returns-in-len1-up-clause-does
returns-in-len1-up-clause-does g t c = λ told records q.
    let first = c.remove_new.ensures.does told records q in
    tidied_on records _ _ _ first (c.remove_news.ensures.does told records first.quiet)
