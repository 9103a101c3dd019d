use Rattle.wire.proofs.lemmas.Sizes.{small_fits}
use Rattle.wire.proofs.laws.small_fits.Goals as goal

pub returns : goal.returns
returns c = small_fits
