-- What a turn did, of which the passes of a thread tell. Another thread's turns may stand before and behind it.
use Rattle.std.specs.Prelude.{◌≡◌, ℕ, List, Option, Some, None}
use mathlib.Core.List.{IsPrefix}
use Rattle.turn_post.specs.declared.journaled.Journaled.{Ghosts}
use Rattle.turn_post.specs.declared.post.Pass.{Pass}
use Rattle.turn_post.specs.Passes.{seen}
use Rattle.server_core.specs.declared.event.Event.{Event}
use Rattle.server_core.specs.declared.event.Event.TheVariants as event
use Rattle.server_held.specs.declared.held.Went.{Went}
use Rattle.wire.specs.declared.message.Message.{Message}
use Rattle.server_turns.specs.declared.outgoing.Taken.{Taken}

module _ {V E : Type 0} {g : Ghosts V E} (journal : V → List E) where
  -- A turn did this to the value: its journal began with all that the pass before had seen, and the pass behind has seen all that it left.
  pub record InTurn (did : V → V → Type 0) (before behind : Pass V E g) : Type 0 where
    pub found : V
    pub left : V
    pub begins : IsPrefix (seen before) (journal found)
    pub done : did found left
    pub ends : IsPrefix (journal left) (seen behind)

module _ {V E : Type 0} {g : Ghosts V E} (journal : V → List E) (hears : V → ℕ → List ℕ → ℕ → Went → V → Type 0) (session : ℕ) where
  -- a record of the session was heard in a turn, at this reading
  abbrev pub IsHeard : (now : ℕ) → List ℕ → (before behind : Pass V E g) → Type 0
  IsHeard now bytes before behind = (said : Went) × InTurn journal (λ found left. hears found session bytes now said left) before behind

module _ {V E : Type 0} {g : Ghosts V E} (journal : V → List E) (does : V → Event → Went → V → Type 0) where
  -- a session was hung in a turn
  abbrev pub IsHung : (session : ℕ) → (before behind : Pass V E g) → Type 0
  IsHung session before behind = (said : Went) × InTurn journal (λ found left. does found (event.Hang session) said left) before behind

  -- a connection came in a turn, and this was said of it
  abbrev pub IsConnected : (said : Went) → (before behind : Pass V E g) → Type 0
  IsConnected said before behind = InTurn journal (λ found left. does found event.Connect said left) before behind

  -- a pending change was made in a turn, if one could be, at this reading
  abbrev pub IsSettled : (now : ℕ) → (before behind : Pass V E g) → Type 0
  IsSettled now before behind = (said : Went) × InTurn journal (λ found left. does found (event.Settle now) said left) before behind

module _ {V : Type 0} (gives : V → ℕ → List Message → V → Type 0) (session : ℕ) where
  -- this was taken out for the session, or nothing was done
  abbrev pub TakesOut : Option Taken → (found left : V) → Type 0
  TakesOut (Some taken) found left = gives found session taken.messages.items left
  TakesOut None found left = left ≡ found

module _ {V E : Type 0} {g : Ghosts V E} (journal : V → List E) (gives : V → ℕ → List Message → V → Type 0) (session : ℕ) where
  -- these messages were taken out for the session in a turn
  abbrev pub IsTaken : List Message → (before behind : Pass V E g) → Type 0
  IsTaken messages before behind = InTurn journal (λ found left. gives found session messages left) before behind

module _ {V E : Type 0} {g : Ghosts V E} (journal : V → List E) (hears : V → ℕ → List ℕ → ℕ → Went → V → Type 0) (gives : V → ℕ → List Message → V → Type 0) (session : ℕ) where
  -- A record of the session was heard at this reading, and behind it these messages were taken out for the session: a pass may have seen the one and not yet what the other left.
  pub record IsAnswered (now : ℕ) (bytes : List ℕ) (messages : List Message) (before behind : Pass V E g) : Type 0 where
    pub between : Pass V E g
    pub heard : IsHeard journal hears session now bytes before between
    pub took : IsTaken journal gives session messages between behind
    pub first : IsPrefix (seen before) (seen between)
    pub later : IsPrefix (seen between) (seen behind)
