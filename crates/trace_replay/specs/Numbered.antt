-- The numbers (xids) of the calls that go up a session.
use Rattle.std.specs.Prelude.{◌≡◌, ℕ, ◌+◌, List, [], ◌∷◌, ◌++◌, Bool, true, false}
use Rattle.wire.specs.declared.message.Message.{Message}
use Rattle.wire.specs.declared.message.Message.TheVariants as message
use Rattle.trace_ends.specs.Core.{CoreStep, happens}
use Rattle.trace_ends.specs.Session.{is_newest}
use Rattle.trace_replay.specs.Trail.{Moment}

-- of the calls among messages
abbrev pub numbers_among : List Message → List ℕ
numbers_among [] = []
numbers_among (message.Call xid b ∷ ms) = xid ∷ numbers_among ms
numbers_among (m ∷ ms) = numbers_among ms

abbrev pub numbers_if : (is_there : Bool) → List Message → List ℕ
numbers_if true ms = numbers_among ms
numbers_if false ms = []

-- of those that a step sends up a session
abbrev pub numbers_by : (session : ℕ) → CoreStep → List ℕ
numbers_by session t = numbers_if (is_newest t.session session) t.up

-- and all moments, in order
abbrev pub numbers_of : (session : ℕ) → List Moment → List ℕ
numbers_of session [] = []
numbers_of session (m ∷ ms) = numbers_by session (happens m.before m.event) ++ numbers_of session ms

-- they count on from this one
abbrev pub CountOn : (next : ℕ) → List ℕ → Type 0
CountOn next [] = Unit {0}
CountOn next (x ∷ xs) = (x ≡ next) × CountOn (next + 1) xs
