use Rattle.std.proofs.Common.{◌≡◌, slice_get}
use Rattle.client_cache.specs.Cache.{contents_in}
use Rattle.client_cache.proofs.cache.content_at.Given as goal

-- the place that is left among the entries that are left is the place among all
abbrev pub invariant-loop-file : goal.invariant-loop-file
invariant-loop-file l = slice_get (contents_in l.file-iterator) l.left ≡ slice_get (contents_in l.entries.entries) l.place
