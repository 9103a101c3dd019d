use Rattle.std.proofs.Common.{◌≡◌, ℕ, drop}
use Rattle.std.specs.Prelude.{◌==◌}
use Rattle.std.specs.List.{list_all}
use Rattle.xdr_codec.proofs.filling.is_fill.Given as goal

-- those that are left decide
abbrev pub invariant-loop-byte : goal.invariant-loop-byte
invariant-loop-byte l = list_all (λ (b : ℕ). b == 0) (drop l.byte-index l.fill) ≡ list_all (λ (b : ℕ). b == 0) l.fill
