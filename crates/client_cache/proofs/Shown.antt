-- The contents that are kept are no more than the entries.
use Rattle.std.proofs.Common.{ℕ, ◌≤◌, List, [], ◌∷◌, length, Option, Some, None, arith}
use Rattle.client_cache.specs.declared.kept.Content.{Content}
use Rattle.client_cache.specs.Cache.{Entries, with_shown, contents_in}

pub contents_fewer : (entries : Entries) → length (contents_in entries) ≤ length entries
contents_fewer [] = omega arith
contents_fewer ((file, k) ∷ entries) = by k.content (contents_fewer entries)
  where
    by : (o : Option Content) → length (contents_in entries) ≤ length entries → length (with_shown file o (contents_in entries)) ≤ length ((file, k) ∷ entries)
    by None le = omega (arith, le)
    by (Some c) le = omega (arith, le)
