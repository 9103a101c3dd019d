use Rattle.std.proofs.Common.{ℕ, sym, subst}
use Rattle.std.specs.Prelude.{IsSome}
use Rattle.std.proofs.lemmas.Result.{on_ok_weaker}
use Rattle.lru.specs.LruCache.{LruCache}
use Rattle.client_cache.specs.declared.kept.Kept.{Kept}
use Rattle.client_cache.specs.Cache.{kept_of}
use Rattle.client_cache.proofs.Entries.{bounded_given}
use Rattle.client_cache.proofs.lemmas.There.{reserved_there}
use Rattle.client_cache.proofs.cache.Cache.reserve.Goals as goal

pub invariant_of-self : goal.invariant_of-self
invariant_of-self c = bounded_given c.give_entry.result c.self.inside.entries c.give_entry.new.entries c.args.file c.self.invariant c.give_entry.ensures.ok c.give_entry.ensures.err

pub returns-clause-there : goal.returns-clause-there
returns-clause-there c =
    on_ok_weaker c.give_entry.result
    (λ is. subst (λ (x : LruCache ℕ Kept). IsSome (kept_of x.entries c.args.file)) (sym is) (reserved_there c.self.inside.entries.entries c.args.file))
    c.give_entry.ensures.ok
