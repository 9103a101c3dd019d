use Rattle.rabin_window.proofs.Rolling.{fp-lt}
use Rattle.rabin_window.proofs.roll.Goals as goal

pub append-requires : goal.append-requires
append-requires c =
    rw (c.without.ensures c.requires.0 c.requires.1 c.requires.2) (fp-lt _)

pub returns : goal.returns
returns c w l is = c.append.ensures w (c.without.ensures w l is)
