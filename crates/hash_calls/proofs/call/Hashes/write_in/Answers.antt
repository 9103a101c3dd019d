use Rattle.std.proofs.Common.{sym}
use Rattle.hash_calls.specs.Calls.{hashes_form}
use Rattle.hash_calls.proofs.Writing.{on_ok}
use Rattle.hash_calls.proofs.call.Hashes.write_in.Goals as goal

pub returns-clause-fits : goal.returns-clause-fits
unfolding hashes_form
returns-clause-fits c =
    let front = c.in_ok-write.ensures.fits (tt, (tt, tt)) in
    rw (sym c.as_slice.ensures) (on_ok c.bool.result (λ v few named. (front.0, (front.1.0, (front.1.1, (c.in_ok-write_pairs.ensures.fits v few named, c.bool.ensures.fits))))))
