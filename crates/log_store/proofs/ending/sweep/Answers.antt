use Rattle.std.proofs.Common.{rules, ◌∙◌, ap, subst, sym, ◌⊎◌, ◌≡◌, Contains}
use Rattle.log_store.proofs.End.{swept, all_by, quiet_stayed, contains_by}
use Rattle.log_store.proofs.ending.sweep.Goals as goal

pub returns-in_err-push_records-clause-does : goal.returns-in_err-push_records-clause-does
returns-in_err-push_records-clause-does g c = λ told records q.
    let looked = c.in_ok-names.ensures.does told in
    swept records _ _ _ _ q looked (c.remove_news.ensures.does told records (quiet_stayed records _ _ q looked)) (search rules)

pub returns-clause-does : goal.returns-clause-does
returns-clause-does g c = λ told records q.
    let looked = c.in_ok-names.ensures.does told in
    swept records _ _ _ _ q looked (c.remove_news.ensures.does told records (quiet_stayed records _ _ q looked))
    (all_by records (g.D.Folder.state c.args.folder.now) c.in_ok-names.names.items c.push_records.new.records.items q.there (c.in_ok-names.ensures.tells told)
    (λ n is. c.in_ok-push_records.ensures.done n (contains_by _ _ _ (sym c.deref-2.ensures.value) is)))
