use Rattle.std.proofs.Common.{◌≡◌, ℕ, List, [], length, replicate, refl, ap, lit<, arith}
use Rattle.chunk_cut.specs.Search.{closed_ends}
use Rattle.chunk_cut.specs.Cutting.{IsUnderWay}
use Rattle.chunk_cut.proofs.Chains.{is_open_late}
use Rattle.chunk_cut.proofs.Windows.{recent_none}
use Rattle.chunk_cut.proofs.cutter.Cutter.new.Goals as goal

begins : (window : List ℕ) → window ≡ replicate 48 0 → IsUnderWay [] 0 0 window
begins window e =
    let full : length window ≡ 48 = ap (λ (xs : List ℕ). length xs) e in
    record { size = refl; goes_on = is_open_late [] 0 (lit< tt); full = full; recent = recent_none [] 0 window (omega arith) full }

pub returns-clause-empty : goal.returns-clause-empty
unfolding closed_ends
returns-clause-empty c =
    record { start = refl; under_way = begins _ c.new.ensures; hashed = c.new-2.ensures }
