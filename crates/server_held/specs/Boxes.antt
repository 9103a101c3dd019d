-- The boxes of messages that sessions have.
use Rattle.std.specs.Prelude.{◌≡◌, ℕ, List, [], Some}
use Rattle.slab.specs.Slab.{Slab, get}
use Rattle.server_held.specs.declared.boxes.Outbox.{Outbox}

module _ {T : Type 0} where
  -- the session has a box with these messages
  abbrev pub Holds : Slab (Outbox T) → ℕ → List T → Type 0
  Holds boxes session messages = (key : ℕ) × (get boxes key ≡ Some (record { session = session; messages = messages }))

  -- the session has no box
  abbrev pub Lacks : Slab (Outbox T) → ℕ → Type 0
  Lacks boxes session = (key : ℕ) (one : Outbox T) → get boxes key ≡ Some one → ¬ (one.session ≡ session)

  -- nothing is in any box
  abbrev pub AllEmpty : Slab (Outbox T) → Type 0
  AllEmpty boxes = (key : ℕ) (one : Outbox T) → get boxes key ≡ Some one → one.messages ≡ []

  -- a session has one box at most
  abbrev pub IsUnique : Slab (Outbox T) → Type 0
  IsUnique boxes = (i j : ℕ) (a b : Outbox T) → get boxes i ≡ Some a → get boxes j ≡ Some b → a.session ≡ b.session → i ≡ j

  -- the boxes of all other sessions are as before
  pub record KeepsOthers (old new : Slab (Outbox T)) (session : ℕ) : Type 0 where
    pub there : (other : ℕ) (messages : List T) → ¬ (other ≡ session) → Holds old other messages → Holds new other messages
    pub back : (other : ℕ) (messages : List T) → ¬ (other ≡ session) → Holds new other messages → Holds old other messages
