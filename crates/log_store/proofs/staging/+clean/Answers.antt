use Rattle.log_store.proofs.Stage.{clear_front, clear_rest, cleaned_on, get_first}
use Rattle.log_store.proofs.Gone.{gone_front}
use Rattle.log_store.proofs.staging.+clean.Goals as goal

pub returns-in-len1-up-clause-gone : goal.returns-in-len1-up-clause-gone
returns-in-len1-up-clause-gone g t c = λ told.
    gone_front c.args.edits.now _ c.in-len1-up.len_at_least (g.D.Folder.state c.clean_one.new.folder) (g.D.Folder.state c.clean.new.folder)
    (g.D.Folder.faults c.args.folder.now) (g.D.Folder.faults c.clean_one.new.folder) (g.D.Folder.faults c.clean.new.folder) c.clean_one.ensures.later c.clean.ensures.later
    (c.clean_one.ensures.gone told) (c.clean.ensures.stays told) (c.clean.ensures.gone told)

pub returns-in-len1-up-clause-does : goal.returns-in-len1-up-clause-does
returns-in-len1-up-clause-does g t c = λ told records past pending s clear.
    let first = c.clean_one.ensures.does told records past pending s (clear_front c.args.edits.now _ c.in-len1-up.len_at_least pending clear) in
    let later = c.clean.ensures.does told records past pending first.sound (clear_rest c.args.edits.now (get_first c.args.edits.now c.in-len1-up.len_at_least) c.in-len1-up.len_at_least pending clear) in
    cleaned_on records past pending _ _ _ first later
