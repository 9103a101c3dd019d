-- Rules of the tree that need none of its nodes.
use Rattle.std.specs.Prelude.{ℕ, ◌+◌, Bool, ◌==◌, nat_lt}
use Rattle.limits.specs.declared.TheConstants.{CHANGES_MOST}

-- so many changes more have no room beside those that were ever made and the entries that those which wait will make
abbrev pub are_too_many : (changes waiting more : ℕ) → Bool
are_too_many changes waiting more = nat_lt CHANGES_MOST (changes + waiting + more)

-- what a name stands for is the node that it stood for before
abbrev pub is_still : (found before : ℕ) → Bool
is_still found before = found == before
