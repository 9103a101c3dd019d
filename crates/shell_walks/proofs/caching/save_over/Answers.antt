use Rattle.std.proofs.Common.{refl}
use Rattle.shell_walks.specs.Caching.{SavesOver.not_saved}
use Rattle.shell_walks.proofs.Cached.{saved_so}
use Rattle.shell_walks.proofs.caching.save_over.Goals as goal

pub returns-in-Ok : goal.returns-in-Ok
returns-in-Ok g c = saved_so g.R.Remote.saves g.F.Folder.writes _ _ _ _ _ _ _ _ c.in-Ok.ensures c.as_slice.ensures c.write.ensures

pub returns-in-Err : goal.returns-in-Err
returns-in-Err g c = not_saved refl refl
