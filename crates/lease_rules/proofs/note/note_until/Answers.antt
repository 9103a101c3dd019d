use Rattle.std.proofs.Common.{rules}
use Rattle.lease_rules.proofs.note.note_until.Goals as goal

pub returns : goal.returns
returns c = search rules
