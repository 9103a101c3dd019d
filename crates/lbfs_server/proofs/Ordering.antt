-- Turns one behind the other.
use Rattle.std.specs.Prelude.{List, [], ◌∷◌, ◌++◌}
use mathlib.Core.List.{IsPrefix}
use Rattle.turn_post.proofs.lemmas.Fronts.{prefix_self, prefix_trans}
use Rattle.turn_post.specs.declared.journaled.Journaled.{Ghosts}
use Rattle.turn_post.specs.declared.post.Pass.{Pass}
use Rattle.turn_post.specs.Passes.{seen}
use Rattle.server_turns.specs.Turned.{InTurn}
use Rattle.lbfs_server.specs.Ordered.{InOrder}

module _ {V E : Type 0} {g : Ghosts V E} (journal : V → List E) where
  -- what a turn did it did between any two passes, of which the one had seen no more before, and the other no less behind
  pub turned_between : (did : V → V → Type 0) (p m n q : Pass V E g) → IsPrefix (seen p) (seen m) → InTurn journal did m n → IsPrefix (seen n) (seen q) → InTurn journal did p q
  turned_between did p m n q first turn last = record {
    found = turn.found;
    left = turn.left;
    begins = prefix_trans (seen p) (seen m) (journal turn.found) first turn.begins;
    done = turn.done;
    ends = prefix_trans (journal turn.left) (seen n) (seen q) turn.ends last;
  }

-- what was done behind a pass was done behind each before it
abbrev pub Widens : {V E A : Type 0} {g : Ghosts V E} → (A → Pass V E g → Pass V E g → Type 0) → Type 0
Widens {V} {E} {A} {g} turn = (one : A) (p m q : Pass V E g) → IsPrefix (seen p) (seen m) → turn one m q → turn one p q

module _ {V E A : Type 0} {g : Ghosts V E} (turn : A → (before behind : Pass V E g) → Type 0) (wider : Widens turn) where
  in_order_behind : (later : List A) (p m q : Pass V E g) → IsPrefix (seen p) (seen m) → InOrder turn later m q → InOrder turn later p q
  in_order_behind [] p m q first all = prefix_trans (seen p) (seen m) (seen q) first all
  in_order_behind (one ∷ later) p m q first all = (all.0, wider one p m all.0 first all.1, all.2)

  pub in_order_all : (first later : List A) (p m q : Pass V E g) → InOrder turn first p m → InOrder turn later m q → InOrder turn (first ++ later) p q
  in_order_all [] later p m q one other = in_order_behind later p m q one other
  in_order_all (a ∷ first) later p m q one other = (one.0, one.1, in_order_all first later one.0 m q one.2 other)

  pub in_order_one : (first : List A) (last : A) (p m q : Pass V E g) → InOrder turn first p m → turn last m q → InOrder turn (first ++ last ∷ []) p q
  in_order_one first last p m q all one = in_order_all first (last ∷ []) p m q all (q, one, prefix_self (seen q))
