-- Numbers that rise in a set: what one more behind all others does to their list, and one that goes.
use Rattle.std.proofs.Common.{◌≡◌, refl, ℕ, ◌<◌, List, [], ◌∷◌, ◌++◌, false, arith}
use Rattle.std.specs.Prelude.{◌==◌, not, filter}
use Rattle.std.specs.List.{All, list_any}
use Rattle.std.specs.Ordering.{nat_cmp}
use Rattle.std.specs.BTreeMap.{is_at}
use Rattle.std.specs.BTreeSet.{insert_key}
use Rattle.std.specs.Set.{remove_key}
use Rattle.std.proofs.lemmas.Bool.Decides.{nat_tests}
use Rattle.std.proofs.lemmas.List.Elements.{All-head, All-tail}

-- a number above all others goes behind them
pub behind : (n : ℕ) (ks : List ℕ) → All (λ k. k < n) ks → insert_key nat_cmp ks n ≡ ks ++ n ∷ []
behind n [] below = refl
behind n (k ∷ ks) below = grind (arith, nat_tests, All-head (λ k. k < n) k ks below, behind n ks (All-tail (λ k. k < n) k ks below))

-- where a number isn't, all stay without it
kept : (q : ℕ) (ks : List ℕ) → list_any (is_at (nat_cmp q)) ks ≡ false → filter (λ k. not (k == q)) ks ≡ ks
kept q [] none = refl
kept q (k ∷ ks) none = grind (arith, nat_tests, none, kept q ks)

-- the first that is a number goes, and where that was the only one this is all without it
pub gone : (q : ℕ) (ks : List ℕ) → list_any (is_at (nat_cmp q)) (remove_key (is_at (nat_cmp q)) ks) ≡ false → remove_key (is_at (nat_cmp q)) ks ≡ filter (λ k. not (k == q)) ks
gone q [] none = refl
gone q (k ∷ ks) none = grind (arith, nat_tests, none, kept q ks, gone q ks)
