use Rattle.lbfs_client.proofs.lemmas.Bounds.{is_bounded}
use Rattle.lbfs_client.proofs.laws.what_is_kept_is_bounded.Goals as goal

pub returns : goal.returns
returns c = λ most s is. is_bounded most s is
