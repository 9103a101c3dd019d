use Rattle.tree_load.proofs.Broken.{none_where, first_where}
use Rattle.tree_load.proofs.laws.the_first_broken_is_named.Goals as goal

pub returns-clause-none : goal.returns-clause-none
returns-clause-none c = none_where

pub returns-clause-first : goal.returns-clause-first
returns-clause-first c = first_where
