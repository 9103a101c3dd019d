use Rattle.std.proofs.Common.{refl}
use Rattle.hash_calls.specs.Version.{has_base}
use Rattle.hash_calls.specs.Calls.{commit_form}
use Rattle.hash_calls.proofs.Writing.{ok_map}
use Rattle.hash_calls.proofs.call.Commit.write_in.Goals as goal

pub returns-clause-fits : goal.returns-clause-fits
unfolding commit_form
returns-clause-fits c =
    let front = c.in_ok-write.ensures.fits (tt, (tt, tt)) in
    ok_map c.write_base.result (λ base based. (refl, (front.0, (front.1.0, (front.1.1, base (has_base c.args.self.now.lbfs) based))))) c.write_base.ensures.fits
