use Rattle.register_model.proofs.LegalLemmas.{legal_is_test}
use Rattle.register_model.proofs.legal.is_legal.Goals as goal

pub returns : goal.returns
returns c = legal_is_test c.passes.result c.args.history.now c.passes.ensures
