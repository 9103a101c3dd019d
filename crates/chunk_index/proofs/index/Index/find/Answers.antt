use Rattle.std.proofs.Common.{◌∙◌, ap, ℕ}
use Rattle.lru.specs.LruCache.{LruCache}
use Rattle.chunk_index.specs.declared.place.Place.{Place}
use Rattle.chunk_index.specs.Index.{Indexed, found}
use Rattle.chunk_index.proofs.lemmas.Recent.{got_fits, got_leaves}
use Rattle.chunk_index.proofs.index.Index.find.Goals as goal

-- what a contract sees of a cache
abbrev seen : LruCache ℕ Place → Indexed
seen cache = record { pairs = cache.entries; capacity = cache.cap }

pub invariant_of-self : goal.invariant_of-self
invariant_of-self c = got_fits c.self.inside.pairs c.get.follows.lender-at-none c.key_of.result c.self.invariant.0 c.self.invariant.1 c.get.follows.holds-at-none

pub returns-clause-order : goal.returns-clause-order
returns-clause-order c =
    ap (λ (x : LruCache ℕ Place). seen x) (got_leaves c.self.inside.pairs c.get.follows.lender-at-none c.key_of.result c.get.follows.holds-at-none)
    ∙ ap (λ (i : Indexed). found i c.key_of.result) c.self.view_is
    ∙ ap (λ (k : ℕ). found c.args.self.now k) c.key_of.ensures
