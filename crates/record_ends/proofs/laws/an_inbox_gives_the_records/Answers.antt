use Rattle.std.proofs.Common.{refl}
use Rattle.record_ends.proofs.laws.an_inbox_gives_the_records.Goals as goal

pub returns : goal.returns
returns c = λ bytes. refl
