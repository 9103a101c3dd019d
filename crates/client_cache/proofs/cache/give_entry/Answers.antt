use Rattle.std.proofs.Common.{ℕ, sym, ap, ◌∙◌, nat_eq}
use Rattle.lru.specs.LruCache.{LruCache, lru_cache, put_entries}
use Rattle.client_cache.specs.declared.kept.Kept.{Kept}
use Rattle.client_cache.specs.Cache.{nothing}
use Rattle.client_cache.proofs.Entries.{given_there, given_new, not_there, on_err}
use Rattle.client_cache.proofs.cache.give_entry.Goals as goal

pub returns-then-promote-clause-ok : goal.returns-then-promote-clause-ok
returns-then-promote-clause-ok c =
    given_there c.args.entries.now c.promote.new.self c.args.file c.requires.within c.requires.cap (sym c.promote.ensures.value ∙ c.if-promote.true) c.promote.ensures.entries

pub returns-in_err-put-clause-err : goal.returns-in_err-put-clause-err
returns-in_err-put-clause-err c =
    on_err c.from_residual.result (c.in_err-put.ensures.err ∙ not_there c.args.entries.now c.promote.new.self c.args.file (sym c.promote.ensures.value ∙ c.if-promote.false) c.promote.ensures.entries)

pub returns-clause-ok : goal.returns-clause-ok
returns-clause-ok c =
    let none = sym c.promote.ensures.value ∙ c.if-promote.false in
    let same = not_there c.args.entries.now c.promote.new.self c.args.file none c.promote.ensures.entries in
    given_new c.args.entries.now c.put.new.self c.args.file c.requires.within c.requires.cap none
    (c.in_ok-put.ensures.entries ∙ ap (λ (x : LruCache ℕ Kept). lru_cache (put_entries nat_eq x c.args.file nothing) x.cap) same)
