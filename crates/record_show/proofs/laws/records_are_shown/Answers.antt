use Rattle.record_show.proofs.Sent.{framed_shown}
use Rattle.record_show.proofs.laws.records_are_shown.Goals as goal

pub returns : goal.returns
returns c = framed_shown
