-- A round more.
use Rattle.std.proofs.Common.{◌≡◌, ℕ, zero, suc, ◌-◌, ◌<◌, Bool, true, false, arith, refl, sym, ap, ◌∙◌}
use Rattle.trace_replay.specs.World.{World}
use Rattle.trace_replay.specs.Delivery.{is_still, round, passes}

moves : (b : Bool) (k : ℕ) (w : World) (number server at : ℕ) → b ≡ false → (elim b as (λ (x : Bool). World) [ true ↦ w | false ↦ passes k (round w number server at) number server at ]) ≡ passes k (round w number server at) number server at
moves true k w number server at s = absurd cc
moves false k w number server at s = refl

-- where something is on its way, so many rounds are one, and those that are left
pub passes_on : (k : ℕ) (w v : World) (number server at : ℕ) → 0 < k → is_still w number ≡ false → v ≡ round w number server at → passes (k - 1) v number server at ≡ passes k w number server at
passes_on zero w v number server at p s e = absurd (omega (arith, p))
passes_on (suc k) w v number server at p s e = let d : suc k - 1 ≡ k = omega arith in ap (λ (n : ℕ). passes n v number server at) d ∙ ap (λ (u : World). passes k u number server at) e ∙ sym (moves (is_still w number) k w number server at s)
