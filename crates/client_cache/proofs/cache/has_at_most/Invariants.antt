use Rattle.std.proofs.Common.{◌≡◌}
use Rattle.std.specs.Prelude.{nat_le}
use Rattle.client_cache.specs.Cache.{kept_bytes}
use Rattle.client_cache.proofs.cache.has_at_most.Given as goal

-- those that are left have at most what is left, where all have at most that
abbrev pub invariant-loop-file : goal.invariant-loop-file
invariant-loop-file l = nat_le (kept_bytes l._file-iterator) l.left ≡ nat_le (kept_bytes l.entries.entries) l.most
