use Rattle.std.proofs.Common.{◌≤◌, ◌-◌, length, drop}
use Rattle.std.specs.List.{flat_map}
use Rattle.client_cache.specs.Cache.{contents_in}
use Rattle.cache_file.specs.Saved.{pieces_kept}
use Rattle.cache_file.proofs.Filling.{Leads}
use Rattle.cache_file.proofs.saving.Saving.contents.Given as goal

abbrev pub invariant-contents : goal.invariant-contents
invariant-contents l = record {
  small : l.place ≤ length (contents_in l.cache);
  leads : Leads l.initial.self (flat_map pieces_kept (contents_in l.cache)) l.self (flat_map pieces_kept (drop l.place (contents_in l.cache)));
}

abbrev pub decreases-contents : goal.decreases-contents
decreases-contents l = length (contents_in l.cache) - l.place
