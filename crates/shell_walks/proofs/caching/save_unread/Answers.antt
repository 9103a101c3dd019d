use Rattle.shell_walks.proofs.Cached.{stays_unread}
use Rattle.shell_walks.proofs.caching.save_unread.Goals as goal

pub returns-in-Missing : goal.returns-in-Missing
returns-in-Missing g c = rw (c.in-Missing.is) c.save_over.ensures

pub returns-in_default : goal.returns-in_default
returns-in_default g c = stays_unread g.R.Remote.saves g.F.Folder.writes _ _ _ _ c.in_default.not-Missing
