-- The entries of the tables, each by evaluation.
use Rattle.std.proofs.Common.{◌≡◌, ℕ, zero, suc, ◌+◌, ◌<◌, List, [], ◌∷◌, get_or, refl, ap, ◌∙◌, arith, zero-add}
use Rattle.rabin_window.specs.Fingerprint.{fp, high_part, oldest_part}
use Rattle.rabin_window.specs.declared.tables.TheConstants.{OLDEST, HIGH}

-- the values of f at n, n + 1, .. , as many as asked
abbrev values_from : (ℕ → ℕ) → ℕ → ℕ → List ℕ
values_from f zero n = []
values_from f (suc more) n = f n ∷ values_from f more (n + 1)

get_or-values_from : (f : ℕ → ℕ) (more n k : ℕ) → k < more → get_or (values_from f more n) k 0 ≡ f (n + k)
get_or-values_from f zero n k h = absurd (omega arith)
get_or-values_from f (suc more) n zero h = ap f (omega arith)
get_or-values_from f (suc more) n (suc k) h = get_or-values_from f more (n + 1) k (omega arith) ∙ ap f (omega arith)

high_values : HIGH ≡ values_from high_part 256 0
unfolding high_part
high_values = refl

oldest_values : OLDEST ≡ values_from oldest_part 256 0
unfolding oldest_part fp
oldest_values = refl

pub high_at : (t : ℕ) → t < 256 → get_or HIGH t 0 ≡ high_part t
high_at t h = ap (λ (xs : List ℕ). get_or xs t 0) high_values ∙ get_or-values_from high_part 256 0 t h ∙ ap high_part (zero-add t)

pub oldest_at : (b : ℕ) → b < 256 → get_or OLDEST b 0 ≡ oldest_part b
oldest_at b h = ap (λ (xs : List ℕ). get_or xs b 0) oldest_values ∙ get_or-values_from oldest_part 256 0 b h ∙ ap oldest_part (zero-add b)
