use Rattle.xdr_codec.specs.Exact.{exact}
use Rattle.xdr_codec.proofs.laws.form_is_exact.Goals as goal

pub returns : goal.returns
returns g c = exact g.T.Item.form
