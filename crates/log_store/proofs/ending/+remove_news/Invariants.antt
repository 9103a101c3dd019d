use Rattle.std.proofs.Common.{length}
use Rattle.log_store.proofs.ending.+remove_news.Given as goal

abbrev pub decreases-remove_news : goal.decreases-remove_news
decreases-remove_news g l = length l.names.now
