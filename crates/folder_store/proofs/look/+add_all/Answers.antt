use Rattle.folder_store.proofs.Looks.{looks_on}
use Rattle.folder_store.proofs.look.+add_all.Goals as goal

pub returns-in_ok-add-in-len1-up : goal.returns-in_ok-add-in-len1-up
returns-in_ok-add-in-len1-up g t c = looks_on c.add_all.result c.args.records.now _ c.args.found.now c.add.new.found c.add_all.new.found c.in-len1-up.len_at_least c.in_ok-add-in-len1-up.ensures c.add_all.ensures
