use Rattle.std.proofs.Common.{arith}
use Rattle.std.proofs.lemmas.Bool.{leb-true}
use Rattle.temp_files.proofs.Laying.{next_is}
use Rattle.temp_files.proofs.gathering.is_next.Goals as goal

pub returns : goal.returns
returns c = λ fits.
    let held = c.args.front.now.ok in
    next_is c.args.rest.now.entries (c.in-Some.at.now, c.in-Some.bytes.now) _ _ c.in-Some.ensures.first
    (omega (arith, c.if-at-len.false, c.len.ensures, held.0))
    (omega (arith, leb-true _ _ fits, c.len-2.ensures, c.len-3.ensures, c.capacity.ensures, held.0, held.1))
