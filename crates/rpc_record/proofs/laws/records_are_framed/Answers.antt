use Rattle.rpc_record.proofs.lemmas.Framing.{framed_is_split, fed_leaves, fed_unframed}
use Rattle.rpc_record.proofs.Reframing.{split_is_framed}
use Rattle.rpc_record.proofs.laws.records_are_framed.Goals as goal

pub returns-clause-sound : goal.returns-clause-sound
returns-clause-sound c = split_is_framed

pub returns-clause-complete : goal.returns-clause-complete
returns-clause-complete c = framed_is_split

pub returns-clause-left : goal.returns-clause-left
returns-clause-left c = fed_leaves

pub returns-clause-unframed : goal.returns-clause-unframed
returns-clause-unframed c = fed_unframed
