use Rattle.hash_calls.proofs.Writing.{ok_map}
use Rattle.hash_calls.proofs.lb.LbProgramBody.write_in.Goals as goal

pub returns-in-GetHashAnswer-clause-fits : goal.returns-in-GetHashAnswer-clause-fits
returns-in-GetHashAnswer-clause-fits c = rw c.in-GetHashAnswer.is (ok_map c.write_hashes.result (λ fits short. (short.0, fits short.0 short.1)) c.write_hashes.ensures.fits)
