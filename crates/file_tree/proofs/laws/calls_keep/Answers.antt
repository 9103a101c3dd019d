use Rattle.std.proofs.Common.{length}
use Rattle.file_tree.proofs.lemmas.Stored.{create_stored, mkdir_stored, remove_stored, rmdir_stored, rename_stored, replace_stored}
use Rattle.file_tree.proofs.laws.calls_keep.Goals as goal

pub returns-clause-create : goal.returns-clause-create
returns-clause-create c t held dir name m records stored = create_stored t held dir name m records stored

pub returns-clause-mkdir : goal.returns-clause-mkdir
returns-clause-mkdir c t held dir name records stored = mkdir_stored t held dir name records stored

pub returns-clause-remove : goal.returns-clause-remove
returns-clause-remove c t held dir name records stored = remove_stored t held dir name records stored

pub returns-clause-rmdir : goal.returns-clause-rmdir
returns-clause-rmdir c t held dir name records stored = rmdir_stored t held dir name records stored

pub returns-clause-rename : goal.returns-clause-rename
returns-clause-rename c t held dir name to to_name records stored = rename_stored t held dir name to to_name records stored

pub returns-clause-replace : goal.returns-clause-replace
returns-clause-replace c t held id content records stored = replace_stored t held id content (length content) records stored
