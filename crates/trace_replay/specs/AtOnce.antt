-- What ends at once: a content of its file is fresh to its client, and nobody is asked.
use Rattle.std.specs.Prelude.{◌≡◌, ℕ, List, [], Option, Some, None, Contains}
use Rattle.client_cache.specs.declared.kept.Content.{Content}
use Rattle.file_open.specs.Caching.{fresh_content}
use Rattle.register_model.specs.declared.op.Op.{Op}
use Rattle.trace_ends.specs.Core.{Core, Event, Event.Does, Event.Hears, happens}
use Rattle.trace_ends.specs.Numbers.{numbered}
use Rattle.trace_ends.specs.Session.{Seat, Session}
use Rattle.trace_replay.specs.Trail.{Moment, step_of}

-- the client that acts at an event, and the reading of its clock
abbrev pub acts_for : Event → Option Session → Option (ℕ × ℕ)
acts_for (Hears n now bytes) (Some x) = Some (x.owner, now)
acts_for e x = None

abbrev pub acts_at : Core → Event → Option (ℕ × ℕ)
acts_at k (Does c now d) = Some (c, now)
acts_at k (Hears n now bytes) = acts_for (Hears n now bytes) (numbered k.sessions n)
acts_at k e = None

-- An operation ended in a step of its client in which nothing was sent, and a content that was kept of its file was fresh then.
pub record EndsFresh (moments : List Moment) (o : Op) : Type 0 where
  pub moment : Moment
  pub there : Contains moments moment
  pub end_is : o.end ≡ Some (step_of moment)
  pub quiet : (happens moment.before moment.event).up ≡ []
  pub now : ℕ
  pub acts : acts_at moment.before moment.event ≡ Some (o.client, now)
  pub seat : Seat
  pub seat_is : numbered moment.before.seats o.client ≡ Some seat
  pub content : Content
  pub fresh : fresh_content seat.client.cache o.file now ≡ Some content
