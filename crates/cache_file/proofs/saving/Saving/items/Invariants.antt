use Rattle.std.proofs.Common.{drop}
use Rattle.cache_file.proofs.Filling.{Leads}
use Rattle.cache_file.proofs.saving.Saving.items.Given as goal

abbrev pub invariant-loop-item : goal.invariant-loop-item
invariant-loop-item l = Leads l.initial.self l.items l.self (drop l.item-index l.items)
