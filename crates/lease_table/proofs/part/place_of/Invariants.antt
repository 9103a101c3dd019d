use Rattle.std.proofs.Common.{◌≡◌, ◌++◌, take, drop}
use Rattle.std.specs.BTreeMap.{insert_entry}
use Rattle.lease_table.proofs.part.place_of.Given as goal

-- those that were looked at stand before it
abbrev pub invariant-loop-at : goal.invariant-loop-at
invariant-loop-at g l = record {
  place : (v : _) → insert_entry g.K.Ord.cmp l.fn.entries l.fn.key v ≡ take l.at l.fn.entries ++ insert_entry g.K.Ord.cmp (drop l.at l.fn.entries) l.fn.key v;
  entries : l.entries ≡ l.fn.entries;
  key : l.key ≡ l.fn.key;
}
