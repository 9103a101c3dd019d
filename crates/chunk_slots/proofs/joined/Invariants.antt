use Rattle.std.proofs.Common.{◌≡◌, ◌++◌, length, drop}
use Rattle.chunk_slots.specs.Slots.{slots_bytes, slots_of, total}
use Rattle.chunk_slots.proofs.joined.Given as goal

-- those so far, and those that are left
abbrev pub invariant-loop-slot : goal.invariant-loop-slot
invariant-loop-slot l = (total l.lens_left ≡ length l.left) × (l.whole.items ++ slots_bytes (slots_of l.left l.lens_left (drop l.slot-index l.apart)) ≡ slots_bytes (slots_of l.front l.lens l.apart))
