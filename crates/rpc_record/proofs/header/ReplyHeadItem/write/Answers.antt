use Rattle.rpc_record.proofs.Headers.{accepted_fits, on_ok_then}
use Rattle.rpc_record.proofs.header.ReplyHeadItem.write.Goals as goal

pub returns-in_ok-u32-in-Accepted-clause-fits : goal.returns-in_ok-u32-in-Accepted-clause-fits
returns-in_ok-u32-in-Accepted-clause-fits c = on_ok_then c.write_accepted.result _ _ (accepted_fits _ _ _ c.in-Accepted.is) c.write_accepted.ensures.fits
