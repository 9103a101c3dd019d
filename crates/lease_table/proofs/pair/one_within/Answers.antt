use Rattle.lease_table.proofs.Between.{first_is_there, none_is_there, one_spared, none_spared}
use Rattle.lease_table.proofs.pair.one_within.Goals as goal

pub returns-in-Some-clause-some : goal.returns-in-Some-clause-some
returns-in-Some-clause-some g c = first_is_there g.K.Ord.cmp g.met.K.Ord.total c.args.map.now _ c.requires.whole _ _ _ _ _ _ _ _ c.new.ensures.start c.new.ensures.end (c.range.ensures.in_range c.new.ensures.exhausted) c.in-Some.ensures.steps

pub returns-in-None-clause-some : goal.returns-in-None-clause-some
returns-in-None-clause-some g c = one_spared g.K.Ord.cmp g.met.K.Ord.total _ _ c.requires.whole _ _ _ c.deref.ensures.value c.one_within.result c.one_within.ensures.some

pub returns-in-None-clause-none : goal.returns-in-None-clause-none
returns-in-None-clause-none g c =
    none_spared g.K.Ord.cmp g.met.K.Ord.total _ _ c.requires.whole _ _ _ c.deref.ensures.value c.one_within.result (none_is_there g.K.Ord.cmp g.met.K.Ord.total _ _ _ _ c.args.map.now _ c.new.ensures.start c.new.ensures.end (c.range.ensures.in_range c.new.ensures.exhausted) c.in-None.ensures.steps.0) c.one_within.ensures.none
