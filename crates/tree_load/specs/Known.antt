-- What is known of records before they are looked at one by one.
use Rattle.std.specs.Prelude.{List, length}
use Rattle.store.specs.declared.record.Kept.{Kept}
use Rattle.tree_load.specs.Above.{ups, AreWalks}
use Rattle.tree_load.specs.Found.{AreFirstNodes, AreFirstNames, AreFirstContents}
use Rattle.tree_load.specs.declared.rules.Known.{Known}

pub record IsKnown (all : List Kept) (w : Known) : Type 0 where
  pub nodes : AreFirstNodes 0 all w.nodes
  pub names : AreFirstNames 0 all w.names
  pub contents : AreFirstContents 0 all w.contents
  pub tops : AreWalks (length all) (ups all) w.tops.items
