use Rattle.std.proofs.Common.{ℕ, sym, subst}
use Rattle.std.specs.Prelude.{IsSome}
use Rattle.lru.specs.LruCache.{LruCache}
use Rattle.client_cache.specs.declared.kept.Kept.{Kept}
use Rattle.client_cache.specs.Cache.{kept_of}
use Rattle.client_cache.proofs.Entries.{bounded, keeps_within}
use Rattle.client_cache.proofs.lemmas.There.{kept_there}
use Rattle.client_cache.proofs.cache.Cache.keep_cut.Goals as goal

pub invariant_of-self : goal.invariant_of-self
invariant_of-self c = bounded c.set_content.new.entries _ _ c.set_content.ensures (keeps_within c.self.inside.entries.entries c.args.file c.args.version c.args.bytes c.self.invariant.0) c.self.invariant.1

pub returns-clause-there : goal.returns-clause-there
returns-clause-there c =
    subst (λ (x : LruCache ℕ Kept). IsSome (kept_of x.entries c.args.file)) (sym c.set_content.ensures)
    (kept_there c.self.inside.entries.entries c.args.file c.args.version c.args.bytes (rw (← c.self.view_is) at c.requires))
