-- What the server sends is put on its way as a message of its session.
use Rattle.std.proofs.Common.{◌≡◌, List, Option, Some, None, refl}
use Rattle.server_core.specs.declared.event.Sent.{Sent}
use Rattle.trace_ends.specs.Session.{Session}
use Rattle.trace_ends.specs.Wires.{Wire, message_put_in}
use Rattle.trace_replay.specs.World.{down_put_in}

pub message_in : (wires : List Wire) (s : Sent) (x : Option Session) (q : Option Wire) → message_put_in wires s.session s.message x q ≡ down_put_in wires s x q
message_in wires s None q = refl
message_in wires s (Some x) None = refl
message_in wires s (Some x) (Some q) = refl
