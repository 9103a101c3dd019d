use Rattle.std.proofs.Common.{subst, List, ℕ}
use Rattle.cache_file.specs.Items.{is_cache}
use Rattle.shell_walks.specs.Caching.{SavesWhere}
use Rattle.shell_walks.proofs.caching.save_read.Goals as goal

pub returns-in-Ok : goal.returns-in-Ok
returns-in-Ok g c = rw (c.in-Ok.is) (subst (λ (b : List ℕ). SavesWhere g.R.Remote.saves g.F.Folder.writes (is_cache b) c.args.remote.now c.args.folder.now c.args.name.now b c.save_on.result c.save_on.new.folder) c.as_slice.ensures c.save_on.ensures)
