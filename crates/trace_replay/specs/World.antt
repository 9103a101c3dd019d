-- The world that a trace runs in: the two ends, and the bytes between them.
use Rattle.std.specs.Prelude.{ℕ, List, [], ◌∷◌, ◌++◌, map, Option, Some, None, if◌then◌else◌}
use Rattle.std.specs.List.{list_any}
use Rattle.rpc_record.specs.Records.{nothing_read}
use Rattle.server_core.specs.State as server
use Rattle.server_core.specs.declared.event.Sent.{Sent}
use Rattle.register_model.specs.Register.{History}
use Rattle.register_model.specs.Raw.{op_of}
use Rattle.register_model.specs.declared.raw.Raw.{Raw}
use Rattle.register_model.specs.declared.op.Opening.{Opening}
use Rattle.trace_ends.specs.declared.adjusting.Adjustment.{Adjustment}
use Rattle.trace_replay.specs.declared.stage.Stage.{Stage}
use Rattle.trace_replay.specs.declared.stage.Stage.TheVariants as stage
use Rattle.trace_ends.specs.Core.{Core, CoreStep, Event, Loss, Loss.Nothing, Loss.Made, Loss.Down_of, Loss.Up_of, happens, adjusted}
use Rattle.trace_ends.specs.Session.{Session, is_raw}
use Rattle.trace_ends.specs.Numbers.{numbered, with_numbered}
use Rattle.trace_ends.specs.Wires.{Wire, bytes_of, new_wire, unless, up_put}

pub record World : Type 0 where
  -- which lines may come next
  pub stage : Stage
  -- the files that the trace opens with, and the bytes of their contents together
  pub opening : List Opening
  pub size : ℕ
  pub core : Core
  -- the bytes of each session that was ever made, by its number
  pub wires : List Wire

abbrev pub start : World
start = record {
  stage = stage.Version;
  opening = [];
  size = 0;
  core = record { server = server.empty; drift = 0; lbfs = 1; seats = []; sessions = []; steps = 0; ops = []; entries = []; came = []; raws = [] };
  wires = [];
}

-- the changes by sessions that are no client's, if there is such a session
abbrev pub raws_of : Core → Option (List Raw)
raws_of k = if list_any is_raw k.sessions then Some k.raws else None

-- the history that a world has come to
abbrev pub history_of : World → History
history_of w = record { lbfs = w.core.lbfs; opening = w.opening; ops = w.core.ops ++ map op_of w.core.raws; raws = raws_of w.core; steps = w.core.steps }

-- ---- what is sent

abbrev pub down_put_in : List Wire → Sent → Option Session → Option Wire → List Wire
down_put_in wires s (Some x) (Some q) = with_numbered wires s.session (record q { down = unless x.cut q.down (bytes_of (s.message ∷ [])) })
down_put_in wires s x q = wires

-- those that the server sends
abbrev pub down_put : List Session → List Wire → List Sent → List Wire
down_put sessions wires [] = wires
down_put sessions wires (s ∷ ss) = down_put sessions (down_put_in wires s (numbered sessions s.session) (numbered wires s.session)) ss

-- ---- what an event does to the bytes on their way

abbrev pub down_lost : List Wire → (number : ℕ) → Option Wire → List Wire
down_lost wires number None = wires
down_lost wires number (Some q) = with_numbered wires number (record q { down = []; client_end = nothing_read })

abbrev pub up_lost : List Wire → (number : ℕ) → Option Wire → List Wire
up_lost wires number None = wires
up_lost wires number (Some q) = with_numbered wires number (record q { up = []; server_end = nothing_read })

abbrev pub lost_by : List Wire → Loss → List Wire
lost_by wires Nothing = wires
lost_by wires Made = wires ++ new_wire ∷ []
lost_by wires (Down_of number) = down_lost wires number (numbered wires number)
lost_by wires (Up_of number) = up_lost wires number (numbered wires number)

abbrev pub routed : World → CoreStep → World
routed w t = record w { core = t.core; wires = down_put t.core.sessions (up_put t.core.sessions (lost_by w.wires t.loss) t.session t.up) t.down }

abbrev pub happened : World → Event → World
happened w e = routed w (happens w.core e)

-- bytes that a session sends which is no client's: they vanish where the server has seen it lost, or closed it
abbrev pub raw_put_in : List Wire → (number : ℕ) → List ℕ → Option Session → Option Wire → List Wire
raw_put_in wires number bytes (Some x) (Some q) = with_numbered wires number (record q { up = unless x.hung q.up bytes })
raw_put_in wires number bytes x q = wires

abbrev pub raw_put : World → (number : ℕ) → List ℕ → World
raw_put w number bytes = record w { wires = raw_put_in w.wires number bytes (numbered w.core.sessions number) (numbered w.wires number) }

-- what changes an index or a cache alone leaves the bytes on their way as they are
abbrev pub adjusts : World → Adjustment → World
adjusts w a = record w { core = adjusted w.core a }
