use Rattle.std.proofs.Common.{sym}
use Rattle.rpc_record.proofs.Alone.{alone_found}
use Rattle.rpc_record.proofs.fragments.is_alone.Goals as goal

pub returns : goal.returns
returns c = alone_found _ c.in-Some.header (sym c.in-Some.ensures) c.if-not-header.false c.if-header-gt-RECORD_MOST.false
