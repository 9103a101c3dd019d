use Rattle.std.proofs.Common.{◌≡◌, ◌-◌, length}
use Rattle.std.specs.List.{AllWithin}
use Rattle.server_turns.proofs.shared.remove_link.Given as goal

-- none that was looked at is the session's
abbrev pub invariant-loop-at : goal.invariant-loop-at
invariant-loop-at g l = AllWithin (λ one. ¬ (one.session ≡ l.session)) l.links.items 0 l.at

abbrev pub decreases-loop-at : goal.decreases-loop-at
decreases-loop-at g l = length l.links.items - l.at
