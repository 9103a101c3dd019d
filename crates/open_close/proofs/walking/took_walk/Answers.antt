use Rattle.std.proofs.Common.{sym, subst}
use Rattle.path_calls.specs.declared.answers.Told.{Told}
use Rattle.open_close.specs.Walking.{HasXidsFor}
use Rattle.open_close.proofs.Walks.{told_xids}
use Rattle.open_close.proofs.walking.took_walk.Goals as goal

pub walked-requires-clause-xids : goal.walked-requires-clause-xids
walked-requires-clause-xids c = subst (λ (t : Told). HasXidsFor c.args.state.now.next_xid t) (sym c.in_ok-told-in-Nfs.ensures.told) (told_xids c.args.state.now.next_xid c.args.walk c.in-Nfs.answer c.requires.xids)
