-- What went out on a link: messages that were taken out for its session, each lot in a turn.
use Rattle.std.specs.Prelude.{◌≡◌, ℕ, List, Bool, true, false, Option, flat_map}
use Rattle.std.specs.Io.KnownBytes.{Appends}
use Rattle.lb_base.specs.Known.{AppendsPrefix}
use Rattle.record_ends.specs.Ends.{out_bytes}
use Rattle.turn_post.specs.declared.journaled.Journaled.{Ghosts}
use Rattle.turn_post.specs.declared.post.Pass.{Pass}
use Rattle.wire.specs.declared.message.Message.{Message}
use Rattle.server_turns.specs.Turned.{IsTaken}
use Rattle.lbfs_server.specs.Ordered.{InOrder}

-- a link was given all of these bytes, where more may follow, and else a front of them
abbrev pub Given : (follows : Bool) → (held held' : Option (List ℕ)) → List ℕ → Type 0
Given true held held' bytes = Appends held held' bytes
Given false held held' bytes = AppendsPrefix held held' bytes

-- the same of a link to which more may go; to another nothing goes
abbrev pub Goes : (may follows : Bool) → (held held' : Option (List ℕ)) → List ℕ → Type 0
Goes true follows held held' bytes = Given follows held held' bytes
Goes false follows held held' bytes = (follows ≡ false) × (held' ≡ held)

module _ {V E : Type 0} {g : Ghosts V E} (journal : V → List E) (gives : V → ℕ → List Message → V → Type 0) (session : ℕ) where
  -- these lots of messages were taken out for the session, one behind the other, and their bytes, in that order, are what went to the link
  pub record GivesTaken (may follows : Bool) (held held' : Option (List ℕ)) (before behind : Pass V E g) : Type 0 where
    pub lots : List (List Message)
    pub taken : InOrder (IsTaken journal gives session) lots before behind
    pub given : Goes may follows held held' (flat_map out_bytes lots)
