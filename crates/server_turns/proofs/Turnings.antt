-- What a turn did, of passes that lie further apart.
use Rattle.std.specs.Prelude.{◌≡◌, ◌+◌, ◌≤◌, ◌++◌, List, length}
use Rattle.std.proofs.Common.{sym, ap, ◌∙◌, subst, arith, length-append}
use mathlib.Core.List.{IsPrefix}
use Rattle.turn_post.proofs.lemmas.Fronts.{prefix_trans}
use Rattle.server_law.specs.Growth.{MayAdd}
use Rattle.turn_post.specs.declared.journaled.Journaled.{Ghosts}
use Rattle.turn_post.specs.declared.post.Pass.{Pass}
use Rattle.turn_post.specs.declared.post.Post.{Post}
use Rattle.turn_post.specs.Passes.{seen, known, IsPassOf, Follows}
use Rattle.server_turns.specs.Turned.{InTurn}

module _ {V E : Type 0} (journal : V → List E) where
  -- a turn can be left whose value went on: it was found with this journal, and lent
  pub left_begins : (found lent left : V) (es : List E) → journal found ≡ es → lent ≡ found → MayAdd (journal lent) (journal left) → IsPrefix es (journal left)
  left_begins found lent left es is same more = (more.0, ap (λ z. z ++ more.0) (sym is ∙ ap journal (sym same)) ∙ more.1)

  pub left_few : (found lent left : V) (es : List E) → journal found ≡ es → lent ≡ found → MayAdd (journal lent) (journal left) → length (journal left) ≤ length es + 2
  left_few found lent left es is same more =
      let len = ap length (sym more.1) ∙ length-append (journal lent) more.0 in
      let front = ap length (ap journal same ∙ is) in
      omega (arith, len, front, more.2)

module _ {V E : Type 0} {g : Ghosts V E} (journal : V → List E) where
  -- a later pass has seen it too
  pub turned_until : (did : V → V → Type 0) (p m q : Pass V E g) → InTurn journal did p m → IsPrefix (seen m) (seen q) → InTurn journal did p q
  turned_until did p m q turn last = record { found = turn.found; left = turn.left; begins = turn.begins; done = turn.done; ends = prefix_trans (journal turn.left) (seen m) (seen q) turn.ends last }

  -- the pass behind a turn has seen all that the one before had, since the value went on
  pub seen_more : (p q : Pass V E g) (found left : V) (es : List E) → IsPrefix (seen p) es → journal found ≡ es → MayAdd (journal found) (journal left) → seen q ≡ journal left → IsPrefix (seen p) (seen q)
  seen_more p q found left es first is more last = prefix_trans (seen p) (journal found) (seen q) (subst (IsPrefix (seen p)) (sym is) first) (more.0, more.1 ∙ sym last)

  -- the pass behind that turn follows the one before it
  pub turn_follows : (post : Post V E) (p q : Pass V E g) (found lent left : V) (es : List E) → journal found ≡ es → lent ≡ found → MayAdd (journal lent) (journal left) → IsPassOf post q → IsPrefix (seen p) es → seen q ≡ journal left → known p ≤ length es → known q ≡ length es → Follows post p q
  turn_follows post p q found lent left es is same more its first last few now =
      let begins = left_begins journal found lent left es is same more in
      (its, prefix_trans (seen p) es (seen q) first (begins.0, begins.1 ∙ sym last), omega (arith, few, now))

-- passes that follow one another
pub follows_on : {V E : Type 0} {g : Ghosts V E} (post : Post V E) (p m q : Pass V E g) → Follows post p m → Follows post m q → Follows post p q
follows_on post p m q one two = (two.0, prefix_trans (seen p) (seen m) (seen q) one.1 two.1, omega (arith, one.2, two.2))
