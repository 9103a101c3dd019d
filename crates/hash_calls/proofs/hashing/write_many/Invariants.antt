use Rattle.std.proofs.Common.{◌≡◌, ℕ, ◌++◌, take}
use Rattle.std.specs.Prelude.{All}
use Rattle.std.specs.List.{flat_map}
use Rattle.hash_calls.specs.Calls.{pair_form, IsNamedIn}
use Rattle.hash_calls.proofs.hashing.write_many.Given as goal

abbrev pub invariant-loop-pair : goal.invariant-loop-pair
invariant-loop-pair l = record {
  spelled : l.writer ≡ l.initial.writer ++ flat_map (pair_form 1).spell (take l.pair-index l.pairs);
  fits : (v : ℕ) → All (IsNamedIn v) l.pairs → All (pair_form v).Fits (take l.pair-index l.pairs);
}
