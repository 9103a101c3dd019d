use denote.Exit.{no}
use denote.Param.Send.{param_send, arg_send}
use Rattle.std.proofs.Common.{subst, ap}
use Rattle.std.proofs.Crossing.{Box-send}
use Rattle.lb_base.specs.Causes.{Rose}
use Rattle.server_held.specs.Kept.{journal_of}
use Rattle.turn_post.proofs.lemmas.Fronts.{prefix_self}
use Rattle.lbfs_server.proofs.lemmas.Sending.{held_sent}
use Rattle.lbfs_server.proofs.Serving.{is_front_in, told_anyhow, told_of, sessions_told, front_told}
use Rattle.lbfs_server.proofs.serve.serve.Goals as goal

pub returns-clause-place : goal.returns-clause-place
returns-clause-place g c = told_anyhow _ c.closed-told.result c.in-Ok.ensures.place

pub returns-clause-port : goal.returns-clause-port
returns-clause-port g c = told_of _ c.closed-told.result c.serve_post-ended.result.0 c.closed-told.ensures.ended c.serve_post-ended.ensures.at

pub returns-clause-sessions : goal.returns-clause-sessions
returns-clause-sessions g c = sessions_told _ c.closed-told.result c.serve_post-ended.result.0 c.args.sessions c.changes_in-front.result c.closed-told.ensures.told c.closed-told.ensures.ended c.serve_post-ended.ensures.counted

pub returns-clause-front : goal.returns-clause-front
returns-clause-front g c = front_told c.closed-told.result c.args.sessions c.changes_in-front.result _ _ c.closed-told.ensures.told
    (is_front_in (g.S.Store.records c.args.store) (g.S.Store.records c.store_of-store.result) (g.S.Store.records c.closed-told.new.store) c.args.term _ _ c.new.result.kept c.serve_post-ended.result.3.value.kept _ _ c.serve_post-ended.result.2 c.changes_in-front.result c.in-Ok.ensures.tree c.new.ensures.kept (ap journal_of c.in-Ok-boxed.ensures) c.serve_post-ended.ensures.seen (prefix_self _) c.serve_post-ended.ensures.front c.changes_in-front.ensures c.store_of-store.ensures.accounted c.store_of-store.ensures.kept c.closed-told.ensures.kept)

pub returns-clause-network : goal.returns-clause-network
returns-clause-network g c = λ is. c.serve_post-ended.ensures.cause (c.closed-told.ensures.network is)

pub returns-clause-alone : goal.returns-clause-alone
returns-clause-alone g c = λ is. c.serve_post-ended.ensures.alone (c.closed-told.ensures.alone is)

pub returns-clause-store : goal.returns-clause-store
returns-clause-store g c = λ is. subst (λ before. Rose before (g.S.Store.faults c.closed-told.new.store)) c.fault_count-before.ensures (c.closed-told.ensures.store is)

pub returns-clause-record : goal.returns-clause-record
returns-clause-record g c = λ which is. absurd (c.closed-told.ensures.record which is)

-- what is shared may go to another thread, since the store may
pub serve_post-ended-requires-send-H : goal.serve_post-ended-requires-send-H
serve_post-ended-requires-send-H g c κs within = param_send 1 _ (arg_send _ no _ (Box-send _ (held_sent _ g.S.Store c.type_bounds.send-S)))
