-- What a script gives, over several pieces.
use Rattle.std.proofs.Common.{◌≡◌, ℕ, ◌+◌, List, [], ◌∷◌, ◌++◌, length, true, false, refl, sym, ap, subst, ◌∙◌, append_assoc, length-append, arith}
use Rattle.std.specs.Prelude.{Option, Some, None, Result, Err}
use Rattle.std.specs.Io.KnownBytes.{Consumes}
use Rattle.command_text.specs.Parts.{lines_of}
use Rattle.lbfs_mount.specs.Script.{Coming, coming, Takes, Gives}

-- a piece that was split
pub takes_piece : (old new : Coming) (piece : List ℕ) → ((more : List ℕ) → old.lines ++ lines_of (old.rest ++ (piece ++ more)) ≡ new.lines ++ lines_of (new.rest ++ more)) → new.taken ≡ old.taken + length piece → Takes old piece new
takes_piece old new piece split count = record { same = λ more may. split more; count = count }

-- the input has ended
pub takes_end : (old new : Coming) → old.lines ++ lines_of (old.rest ++ []) ≡ new.lines ++ [] → new.rest ≡ [] → new.ended ≡ true → new.taken ≡ old.taken → Takes old [] new
takes_end old new lines none ended count = record {
  same = λ more may.
      let empty : more ≡ [] = may ended in
      subst (λ (xs : List ℕ). coming old ([] ++ xs) ≡ coming new xs) (sym empty) (lines ∙ ap (λ (xs : List ℕ). new.lines ++ lines_of (xs ++ [])) (sym none));
  count = omega (arith, count);
}

pub takes_none : (k : Coming) → Takes k [] k
takes_none k = record { same = λ more may. refl; count = omega arith }

pub apart : true ≡ false → ⊥
apart e = cc

-- some bytes, and then some more, where the input had not ended between
pub takes_more : (a b c : Coming) (xs ys : List ℕ) → b.ended ≡ false → Takes a xs b → Takes b ys c → Takes a (xs ++ ys) c
takes_more a b c xs ys goes_on p q = record {
  same = λ more may. ap (coming a) (append_assoc xs ys more) ∙ p.same (ys ++ more) (λ e. absurd (apart (sym e ∙ goes_on))) ∙ q.same more may;
  count = omega (arith, p.count, q.count, length-append xs ys);
}

-- the first line that waits is given
pub gives_first : (old held new : Coming) (bytes line : List ℕ) → Takes old bytes held → held.lines ≡ line ∷ new.lines → new.rest ≡ held.rest → new.ended ≡ held.ended → new.taken ≡ held.taken → Gives old bytes line new
gives_first old held new bytes line took first rest ended count = record {
  first = λ more may.
      took.same more (λ e. may (ended ∙ e))
      ∙ ap (λ (ls : List (List ℕ)). ls ++ lines_of (held.rest ++ more)) first
      ∙ ap (λ (xs : List ℕ). line ∷ (new.lines ++ lines_of (xs ++ more))) (sym rest);
  count = count ∙ took.count;
}

-- of known bytes none are taken
pub consumes_none : (a : Option (List ℕ)) → Consumes a a []
consumes_none None = tt
consumes_none (Some bytes) = refl

-- known bytes begin with some, and then with more
pub consumes_more : (a b c : Option (List ℕ)) (xs ys : List ℕ) → Consumes a b xs → Consumes b c ys → Consumes a c (xs ++ ys)
consumes_more None b c xs ys p q = tt
consumes_more (Some us) None c xs ys p q = absurd p
consumes_more (Some us) (Some bs) None xs ys p q = absurd q
consumes_more (Some us) (Some bs) (Some cs) xs ys p q = p ∙ ap (λ z. xs ++ z) q ∙ sym (append_assoc xs ys cs)

-- the error of a result is one
pub error_is : {A E : Type 0} → (x y : E) → (◌≡◌ {A = Result A E} (Err x) (Err y)) → x ≡ y
error_is x y e = cc
