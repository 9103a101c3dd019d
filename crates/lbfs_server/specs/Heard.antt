-- Which records of a link were heard, each in a turn, and answered.
use Rattle.std.specs.Prelude.{◌≡◌, ℕ, List, [], Option}
use Rattle.std.specs.Io.KnownBytes.{Consumes}
use Rattle.record_ends.specs.Ends.{Kept, nothing_kept}
use Rattle.turn_post.specs.declared.journaled.Journaled.{Ghosts}
use Rattle.turn_post.specs.declared.post.Pass.{Pass}
use Rattle.server_core.specs.declared.event.Event.{Event}
use Rattle.server_held.specs.declared.held.Went.{Went}
use Rattle.wire.specs.declared.message.Message.{Message}
use Rattle.server_turns.specs.Turned.{IsAnswered, IsHung}
use Rattle.lbfs_server.specs.Ends.{Gave}
use Rattle.lbfs_server.specs.Ordered.{InOrder}

module _ {V E : Type 0} {g : Ghosts V E} (journal : V → List E) (hears : V → ℕ → List ℕ → ℕ → Went → V → Type 0) (gives : V → ℕ → List Message → V → Type 0) (session : ℕ) where
  -- a record of the session was heard, at some reading, and behind it some messages were taken out for the session
  abbrev pub AnswersRecord : List ℕ → (before behind : Pass V E g) → Type 0
  AnswersRecord bytes before behind = (now : ℕ) × (messages : List Message) × IsAnswered journal hears gives session now bytes messages before behind

  -- Of what was to come on a link some bytes were taken, and the records that stand in them were answered, in order; this is kept of the bytes.
  pub record HearsAll (left left' : Option (List ℕ)) (kept : Kept) (before behind : Pass V E g) : Type 0 where
    pub bytes : List ℕ
    pub records : List (List ℕ)
    pub consumed : Consumes left left' bytes
    pub gave : Gave nothing_kept bytes records kept
    pub answered : InOrder AnswersRecord records before behind

  -- the same, and no record is kept that wasn't answered
  abbrev pub HearsToEnd : (left left' : Option (List ℕ)) → (before behind : Pass V E g) → Type 0
  HearsToEnd left left' before behind = (kept : Kept) × (kept.waiting ≡ []) × HearsAll left left' kept before behind

module _ {V E : Type 0} {g : Ghosts V E} (journal : V → List E) (hears : V → ℕ → List ℕ → ℕ → Went → V → Type 0) (gives : V → ℕ → List Message → V → Type 0) (does : V → Event → Went → V → Type 0) (session : ℕ) where
  -- and behind these the session was hung in a turn
  abbrev pub HearsThenHung : (left left' : Option (List ℕ)) → (before behind : Pass V E g) → Type 0
  HearsThenHung left left' before behind = (between : Pass V E g) × HearsToEnd journal hears gives session left left' before between × IsHung journal does session between behind
