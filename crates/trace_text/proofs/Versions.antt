-- Versions that a trace names.
use Rattle.std.proofs.Common.{◌≡◌, ℕ, ◌<◌, ◌≤◌, ◌^◌, List, None, Some, Bool, true, false, refl, sym, arith}
use Rattle.std.specs.Prelude.{cond, ◌&&◌, nat_le}
use Rattle.std.proofs.lemmas.Bool.Decides.{nat_tests}
use Rattle.command_text.specs.Fields.{◌>>=◌, number_of, number_within}
use Rattle.trace_text.specs.declared.line.TheConstants.{LBFS_TRACED}
use Rattle.trace_text.proofs.Found.{Of, of_it, of_then, of_any}

of_version : (word : List ℕ) → Of (λ n. n ≤ LBFS_TRACED) (number_within 1 LBFS_TRACED word)
of_version word = of_then (λ a. Unit {0}) (λ n. n ≤ LBFS_TRACED) (number_of word) _ (of_any (number_of word)) (λ n h. by n (nat_le 1 n) (nat_le n LBFS_TRACED) refl)
  where
    by : (n : ℕ) (a b : Bool) → nat_le n LBFS_TRACED ≡ b → Of (λ m. m ≤ LBFS_TRACED) (cond (a && b) (Some n) None)
    by n true true e = grind (arith, nat_tests, e)
    by n true false e = tt
    by n false b e = tt

-- it has 32 bits
pub version_small : (word : List ℕ) (n : ℕ) → Some n ≡ number_within 1 LBFS_TRACED word → n < 2 ^ 32
version_small word n e = let h = of_it (λ m. m ≤ LBFS_TRACED) (number_within 1 LBFS_TRACED word) n (of_version word) (sym e) in omega (arith, h)
