use Rattle.std.proofs.Common.{◌≡◌, ℕ, [], Some, Contains}
use Rattle.slab.specs.Slab.{get}
use Rattle.server_held.specs.declared.boxes.Outbox.{Outbox}
use Rattle.server_held.proofs.boxes.is_still_in.Given as goal

-- a box that isn't empty is among those that are left, and each that is left is a box of the slab
abbrev pub invariant-loop-key : goal.invariant-loop-key
invariant-loop-key g l =
    (goal.iterator-loop-key g).can_next l._key-iterator ×
    (goal.iterator-loop-key g).is_finite l._key-iterator ×
    ((key : ℕ) (one : Outbox g.row.T.Denot) → (get l.boxes key ≡ Some one) → ¬ (one.messages ≡ []) → Contains l._key-iterator (key, one)) ×
    ((key : ℕ) (one : Outbox g.row.T.Denot) → Contains l._key-iterator (key, one) → get l.boxes key ≡ Some one)
