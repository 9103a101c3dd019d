use Rattle.std.specs.Prelude.{◌≡◌}
use Rattle.temp_files.specs.Laid.{AreLengthsOf, laid}
use Rattle.temp_files.proofs.gathering.gather_all.Given as goal

-- the same pieces still
abbrev pub invariant-loop-at : goal.invariant-loop-at
invariant-loop-at l = AreLengthsOf l.front.items l.lengths.items × (laid l.front.items l.lengths.items l.rest.entries ≡ laid l.fn.front.items l.fn.lengths.items l.fn.rest.entries)
