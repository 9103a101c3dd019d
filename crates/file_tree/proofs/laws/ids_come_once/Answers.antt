use Rattle.std.proofs.Common.{length}
use Rattle.tree_reading.specs.Plans.{create_plan, may_mkdir, remove_plan, rmdir_plan, rename_plan, replace_plan}
use Rattle.file_tree.proofs.Ids.{rises_created, made_created, made_mkdir, same_removed, same_renamed, same_replaced}
use Rattle.file_tree.proofs.laws.ids_come_once.Goals as goal

pub returns-clause-create : goal.returns-clause-create
returns-clause-create c t held dir name m = rises_created t dir name (create_plan t held dir name m)

pub returns-clause-made : goal.returns-clause-made
returns-clause-made c t held dir name m done e f = made_created t dir name (create_plan t held dir name m) done e f

pub returns-clause-mkdir : goal.returns-clause-mkdir
returns-clause-mkdir c t held dir name done f = made_mkdir t dir name (may_mkdir t held dir name) done f

pub returns-clause-remove : goal.returns-clause-remove
returns-clause-remove c t held dir name = same_removed t dir (remove_plan t held dir name)

pub returns-clause-rmdir : goal.returns-clause-rmdir
returns-clause-rmdir c t held dir name = same_removed t dir (rmdir_plan t held dir name)

pub returns-clause-rename : goal.returns-clause-rename
returns-clause-rename c t held dir name to to_name = same_renamed t dir name to to_name (rename_plan t held dir name to to_name)

pub returns-clause-replace : goal.returns-clause-replace
returns-clause-replace c t held id content = same_replaced t id content (replace_plan t held id (length content))
