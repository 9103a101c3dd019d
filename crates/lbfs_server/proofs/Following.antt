-- Passes that follow on one another.
use Rattle.std.proofs.Common.{arith}
use Rattle.turn_post.proofs.lemmas.Fronts.{prefix_self, prefix_trans}
use Rattle.turn_post.specs.declared.journaled.Journaled.{Ghosts}
use Rattle.turn_post.specs.declared.post.Post.{Post}
use Rattle.turn_post.specs.declared.post.Pass.{Pass}
use Rattle.turn_post.specs.Passes.{Follows, IsPassOf, seen}

module _ {V E : Type 0} {g : Ghosts V E} where
  -- a pass follows on itself
  pub follows_self : (p : Post V E) (q : Pass V E g) → IsPassOf p q → Follows p q q
  follows_self p q is = (is, prefix_self (seen q), omega arith)

  pub follows_trans : (p : Post V E) (a b c : Pass V E g) → Follows p a b → Follows p b c → Follows p a c
  follows_trans p a b c one two = (two.0, prefix_trans (seen a) (seen b) (seen c) one.1 two.1, omega (arith, one.2, two.2))
