use Rattle.std.proofs.Common.{rules}
use Rattle.xdr_codec.proofs.filling.is_at_end.Goals as goal

pub returns : goal.returns
returns c = search rules
