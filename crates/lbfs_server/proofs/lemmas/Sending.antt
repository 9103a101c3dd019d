-- What the threads of a server share may go from one to another, since its store may. Where `search` looks at all of it, it spends its steps: so part by part.
use denote.RattleType.{RattleType}
use denote.Param.Send.{IsSend, sendable, recorded_send, struct_send}
use denote.Struct.Declared.{shape}
use Rattle.std.proofs.Crossing.{crosses}
use Rattle.std.proofs.MapsCrossing.{crosses as maps_cross}
use Rattle.std.specs.contracts.snapshot.Snapshot.{the_row as snapshot_row}
use Rattle.store.specs.declared.store.Store as store
use Rattle.wire.proofs.message.Message.TheSendSync as message
use Rattle.wire.specs.contracts.message.Message.{the_row as message_row}
use Rattle.server_core.proofs.server.Server.TheSendSync as server
use Rattle.server_core.specs.contracts.server.Server.{the_row as server_row}
use Rattle.server_held.specs.contracts.held.SharedServer as held
use Rattle.server_held.specs.contracts.kept.KeptServer as kept
use Rattle.server_held.specs.contracts.kept.KeptServer.TheInside as kept_in
use Rattle.server_held.specs.contracts.outboxes.Outboxes.TheInside as boxes_in

-- a snapshot has no bytes
opened_sent : IsSend (snapshot_row server_row)
opened_sent = search crosses depth 20

module _ (S : RattleType) (g : store.Ghosts S.Denot) (s : IsSend S) where
  kept_inside : IsSend (kept_in.the_row S g)
  kept_inside = recorded_send (kept_in.the_field S g).row _ _ (kept_in.the_type S g).to_one (struct_send (shape (kept_in.the_type S g)) (search (server.the_send, sendable), (search (s, sendable), (search (opened_sent, sendable), tt))))

  kept_sent : IsSend (kept.the_row S g)
  kept_sent = record { owned = λ d vs x. (kept_inside.owned x.0 vs, tt); leaving = λ k d w. tt }

  boxes_inside : IsSend (boxes_in.the_row message_row)
  boxes_inside = search (message.the_send, sendable, crosses, maps_cross) depth 200 fits 100000

  pub held_sent : IsSend (held.the_row S g)
  held_sent = recorded_send (held.the_field S g).row _ _ (held.the_type S g).to_one (struct_send (shape (held.the_type S g)) (kept_sent, (record { owned = λ d vs x. (boxes_inside.owned x.0 vs, tt); leaving = λ k d w. tt }, tt)))
