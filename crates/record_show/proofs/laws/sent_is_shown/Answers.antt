use Rattle.record_show.proofs.Sent.{sent_shown}
use Rattle.record_show.proofs.laws.sent_is_shown.Goals as goal

pub returns : goal.returns
returns c = sent_shown
