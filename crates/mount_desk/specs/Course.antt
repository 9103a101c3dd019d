-- What the client of a mount goes through, from its beginning to its end: turns, each a line, a put that goes on, a connection, a record or the end of a link.
use Rattle.std.specs.Prelude.{◌≡◌, ℕ, List, Option, None, Bool}
use Rattle.record_ends.specs.declared.end.End.{End}
use Rattle.client_state.specs.State.{start_with}
use Rattle.wire.specs.declared.message.TheConstants.{LBFS_SPOKEN}
use Rattle.lbfs_client.specs.Caching.{Loads}
use Rattle.lbfs_client.specs.Host.{Host}
use Rattle.lbfs_client.specs.Mounting.{Mount, Continues, joined_step}
use Rattle.lbfs_client.specs.declared.answer.Answer.{Answer}
use Rattle.lbfs_client.specs.declared.line.MountLine.{MountLine}
use Rattle.mount_desk.specs.Turns.{Hears, Loses, RunsHinted, Turns, counted}

-- no connection, no file, and no line; clocks may drift apart so far while a lease lasts
abbrev pub nothing_done : (drift : ℕ) → Host → Mount
nothing_done drift host = record { host = host; client = start_with drift LBFS_SPOKEN; walk = None }

-- a mount begins so, or with the items of a cache file
pub data Begun (drift : ℕ) (m : Mount) : Type 0 where
  bare : (host : Host) → m ≡ nothing_done drift host → Begun drift m
  loaded : (host : Host) (name : List ℕ) (told : Option Answer) (replaces : Bool) → Loads (nothing_done drift host) name told replaces m → Begun drift m

-- and goes on by turns. The answers to a line are counted, from none as it begins; where a line ends, what is kept is bounded (Sends of Turns)
pub data Course (drift most : ℕ) : (listed : ℕ) → Mount → Type 0 where
  begins : (m : Mount) → Begun drift m → Course drift most 0 m
  runs : (listed : ℕ) (m : Mount) (l : MountLine) (now : ℕ) (m' : Mount) → Course drift most listed m → Turns most (λ n said. RunsHinted m l now n said) now m' → Course drift most 0 m'
  goes_on : (listed : ℕ) (m : Mount) (now : ℕ) (m' : Mount) → Course drift most listed m → Turns most (λ n said. Continues m now n said) now m' → Course drift most listed m'
  joins : (listed : ℕ) (m : Mount) (now : ℕ) (m' : Mount) → Course drift most listed m → Turns most (λ n said. joined_step m ≡ (n, said)) now m' → Course drift most listed m'
  hears : (listed : ℕ) (m : Mount) (bytes : List ℕ) (now : ℕ) (m' : Mount) → Course drift most listed m → Hears most listed m bytes now m' → Course drift most (counted listed bytes) m'
  stops : (listed : ℕ) (m : Mount) (end : End) (now : ℕ) (m' : Mount) → Course drift most listed m → Loses most m end now m' → Course drift most listed m'
