use Rattle.rpc_record.proofs.lemmas.Splitting.{pieces_fed, split_cut}
use Rattle.rpc_record.proofs.laws.cuts_do_not_matter.Goals as goal

pub returns-clause-pieces : goal.returns-clause-pieces
returns-clause-pieces c = pieces_fed

pub returns-clause-more : goal.returns-clause-more
returns-clause-more c = split_cut
