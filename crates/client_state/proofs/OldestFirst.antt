-- What is kept is looked at from the oldest on.
use Rattle.std.proofs.Common.{◌≡◌, ℕ, zero, suc, ◌-◌, ◌<◌, ◌≤◌, sym, ap, ◌∙◌, refl, arith}
use Rattle.std.specs.Prelude.{slice_get}
use Rattle.client_cache.specs.Cache.{contents_in}
use Rattle.client_state.specs.Bounding.{evicted_if_over, evicted_oldest}
use Rattle.client_state.specs.State.{State}

one_less : (most n : ℕ) (s : State) → evicted_oldest most (suc n) s ≡ evicted_oldest most n (evicted_if_over most s (slice_get (contents_in s.cache) n))
unfolding evicted_oldest
one_less most n s = refl

-- one was looked at
pub goes_down : (most left : ℕ) (s t e : State) → 0 < left → t ≡ evicted_if_over most s (slice_get (contents_in s.cache) (left - 1)) → evicted_oldest most left s ≡ e → evicted_oldest most (left - 1) t ≡ e
goes_down most left s t e some is leads =
    let k : left ≡ suc (left - 1) = omega arith in
    ap (evicted_oldest most (left - 1)) is ∙ sym (one_less most (left - 1) s) ∙ ap (λ (n : ℕ). evicted_oldest most n s) (sym k) ∙ leads

none_left : (most : ℕ) (s : State) → evicted_oldest most 0 s ≡ s
unfolding evicted_oldest
none_left most s = refl

-- and none is left
pub all_seen : (most left : ℕ) (s e : State) → left ≤ 0 → evicted_oldest most left s ≡ e → s ≡ e
all_seen most left s e le leads =
    let k : left ≡ 0 = omega arith in
    sym (none_left most s) ∙ ap (λ (n : ℕ). evicted_oldest most n s) (sym k) ∙ leads
