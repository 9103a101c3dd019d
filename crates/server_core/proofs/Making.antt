-- What a change that may wait has its place in.
use Rattle.std.proofs.Common.{◌≡◌, refl, ℕ, ◌+◌, ◌≤◌, Bool, true, false, true≢false, arith}
use Rattle.std.specs.Prelude.{◌||◌, nat_lt}
use Rattle.server_core.specs.Closing.{is_full, changes_most, tree_most}
use Rattle.server_core.specs.State.{State, entries_held, waiting_size, bytes_held}

or_false : (a b : Bool) → (a || b) ≡ false → (a ≡ false) × (b ≡ false)
or_false true b h = absurd (true≢false h)
or_false false b h = (refl, h)

not_below : (a b : ℕ) → nat_lt a b ≡ false → b ≤ a
not_below a b h = grind (arith, h)

-- the bytes of a change that may wait have their place beside those that wait
pub has_place : (s : State) (size : ℕ) → is_full s size ≡ false → waiting_size s.waiting + size ≤ tree_most
has_place s size h =
    let parts = or_false (nat_lt changes_most (s.tree.changes + entries_held s.waiting + 1)) (nat_lt tree_most (bytes_held s + size)) h in
    let all : bytes_held s + size ≤ tree_most = not_below tree_most (bytes_held s + size) parts.1 in
    omega (arith, all)
