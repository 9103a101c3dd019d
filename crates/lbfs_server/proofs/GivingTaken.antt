-- What went to a link, of turns one behind the other.
use Rattle.std.specs.Prelude.{◌≡◌, ℕ, List, [], ◌∷◌, ◌++◌, Bool, Option, flat_map}
use Rattle.std.proofs.Common.{refl, sym, ap, ◌∙◌, subst, append_assoc}
use Rattle.std.proofs.lemmas.List.{append-nil}
use mathlib.Core.List.{IsPrefix}
use Rattle.record_ends.specs.Ends.{out_bytes}
use Rattle.turn_post.proofs.lemmas.Fronts.{prefix_self, prefix_trans}
use Rattle.turn_post.specs.declared.journaled.Journaled.{Ghosts}
use Rattle.turn_post.specs.declared.post.Pass.{Pass}
use Rattle.turn_post.specs.Passes.{seen}
use Rattle.server_held.specs.declared.held.Went.{Went}
use Rattle.server_turns.specs.Turned.{IsAnswered, IsTaken}
use Rattle.wire.specs.declared.message.Message.{Message}
use Rattle.lbfs_server.specs.Given.{GivesTaken, Goes}
use Rattle.lbfs_server.specs.Ordered.{InOrder}
use Rattle.lbfs_server.proofs.Giving.{goes_more, goes_none}
use Rattle.lbfs_server.proofs.Ordering.{turned_between, in_order_all}

bytes_all : (first later : List (List Message)) → flat_map out_bytes (first ++ later) ≡ flat_map out_bytes first ++ flat_map out_bytes later
bytes_all [] later = refl
bytes_all (lot ∷ first) later = ap (λ z. out_bytes lot ++ z) (bytes_all first later) ∙ sym (append_assoc (out_bytes lot) (flat_map out_bytes first) (flat_map out_bytes later))

module _ {V E : Type 0} {g : Ghosts V E} (journal : V → List E) (gives : V → ℕ → List Message → V → Type 0) (session : ℕ) where
  pub taken_wider : (lot : List Message) (p m q : Pass V E g) → IsPrefix (seen p) (seen m) → IsTaken journal gives session lot m q → IsTaken journal gives session lot p q
  taken_wider lot p m q first taken = turned_between journal (λ found left. gives found session lot left) p m q q first taken (prefix_self (seen q))

  pub gives_none : (may : Bool) (held : Option (List ℕ)) (p q : Pass V E g) → IsPrefix (seen p) (seen q) → GivesTaken journal gives session may may held held p q
  gives_none may held p q first = record { lots = []; taken = first; given = goes_none may held }

  pub gives_one : (may follows : Bool) (a b : Option (List ℕ)) (lot : List Message) (p m q : Pass V E g) → IsPrefix (seen p) (seen m) → IsTaken journal gives session lot m q → Goes may follows a b (out_bytes lot)
      → GivesTaken journal gives session may follows a b p q
  gives_one may follows a b lot p m q first taken goes = record {
    lots = lot ∷ [];
    taken = (q, taken_wider lot p m q first taken, prefix_self (seen q));
    given = subst (Goes may follows a b) (sym (append-nil (out_bytes lot))) goes;
  }

  pub gives_all : (may between follows : Bool) (a b c : Option (List ℕ)) (p m q : Pass V E g) → GivesTaken journal gives session may between a b p m → GivesTaken journal gives session between follows b c m q
      → GivesTaken journal gives session may follows a c p q
  gives_all may between follows a b c p m q one other = record {
    lots = one.lots ++ other.lots;
    taken = in_order_all (IsTaken journal gives session) taken_wider one.lots other.lots p m q one.taken other.taken;
    given = subst (Goes may follows a c) (sym (bytes_all one.lots other.lots)) (goes_more may between follows a b c _ _ one.given other.given);
  }

  -- a later pass has seen it too
  pub gives_until : (may follows : Bool) (a b : Option (List ℕ)) (p m q : Pass V E g) → GivesTaken journal gives session may follows a b p m → IsPrefix (seen m) (seen q) → GivesTaken journal gives session may follows a b p q
  gives_until may follows a b p m q one last = gives_all may follows follows a b b p m q one (gives_none follows b m q last)

module _ {V E : Type 0} {g : Ghosts V E} (journal : V → List E) (hears : V → ℕ → List ℕ → ℕ → Went → V → Type 0) (gives : V → ℕ → List Message → V → Type 0) (session : ℕ) where
  -- what goes out behind a record, and what is said after that, goes behind what went before
  pub gives_answer : (may between follows last : Bool) (a b b' c d : Option (List ℕ)) (now : ℕ) (bytes : List ℕ) (messages : List Message) (p m n q r : Pass V E g)
      → GivesTaken journal gives session may between a b p m → b' ≡ b → IsPrefix (seen m) (seen n) → IsAnswered journal hears gives session now bytes messages n q → Goes between follows b' c (out_bytes messages)
      → GivesTaken journal gives session follows last c d q r → GivesTaken journal gives session may last a d p r
  gives_answer may between follows last a b b' c d now bytes messages p m n q r before same first answered goes behind =
      let answer : GivesTaken journal gives session between follows b c m q =
      gives_one journal gives session between follows b c messages m answered.between q (prefix_trans (seen m) (seen n) (seen answered.between) first answered.first) answered.took (subst (λ z. Goes between follows z c (out_bytes messages)) same goes) in
      gives_all journal gives session may follows last a c d p q r (gives_all journal gives session may between follows a b c p m q before answer) behind
