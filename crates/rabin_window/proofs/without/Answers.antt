use Rattle.rabin_window.proofs.Rolling.{rest_of}
use Rattle.rabin_window.proofs.without.Goals as goal

pub returns : goal.returns
returns c = rest_of c.args.print c.args.oldest c.oldest_part.result c.oldest_part.ensures
