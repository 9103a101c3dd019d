use denote.Exit.{no}
use denote.Param.Send.{param_send, arg_send}
use Rattle.lbfs_server.proofs.lemmas.Sending.{held_sent}
use Rattle.trial_outside.specs.contracts.tried_store.TriedStore.{the_row}
use Rattle.trial_outside.specs.contracts.tried_store.TriedStoreStore.TheImpl.{ghosts}
use Rattle.trial_outside.proofs.tried_store.TriedStore.TheSendSync.{the_send}
use Rattle.rows_session.proofs.sessions.put_held.Goals as goal

-- what the threads share may go to another, since the store may
pub put_shared-requires-send-H : goal.put_shared-requires-send-H
put_shared-requires-send-H g c κs within = param_send 1 _ (arg_send _ no _ (held_sent the_row ghosts the_send))
