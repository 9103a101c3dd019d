use Rattle.std.proofs.Common.{◌∙◌, ap, ℕ}
use Rattle.lru.specs.LruCache.{LruCache}
use Rattle.chunk_index.specs.declared.place.Place.{Place}
use Rattle.chunk_index.specs.Index.{Indexed, put}
use Rattle.chunk_index.proofs.lemmas.Recent.{put_fits, put_leaves}
use Rattle.chunk_index.proofs.index.Index.forge.Goals as goal

-- what a contract sees of a cache
abbrev seen : LruCache ℕ Place → Indexed
seen cache = record { pairs = cache.entries; capacity = cache.cap }

pub invariant_of-self-2 : goal.invariant_of-self-2
invariant_of-self-2 c = put_fits c.self.inside.pairs c.put.new.self c.args.key c.args.place c.self.invariant.0 c.self.invariant.1 c.in_ok-put.ensures.entries

pub returns-clause-ok : goal.returns-clause-ok
returns-clause-ok c =
    ap (λ (x : LruCache ℕ Place). seen x) (put_leaves c.self.inside.pairs c.put.new.self c.args.key c.args.place c.self.invariant.0 c.self.invariant.1 c.in_ok-put.ensures.entries)
    ∙ ap (λ (i : Indexed). put i c.args.key c.args.place) c.self.view_is
