use Rattle.client_cache.proofs.Entries.{bounded, evicts_within}
use Rattle.client_cache.proofs.cache.Cache.evict.Goals as goal

pub invariant_of-self : goal.invariant_of-self
invariant_of-self c = bounded c.drop_content.new.entries _ _ c.drop_content.ensures (evicts_within c.self.inside.entries.entries c.args.file _ c.self.invariant.0) c.self.invariant.1
