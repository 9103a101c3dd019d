-- What is counted of a step, and of all steps.
use Rattle.std.specs.Prelude.{◌+◌}
use Rattle.transfer_rules.specs.declared.counts.Counts.{Counts}

abbrev pub no_counts : Counts
no_counts = record { cond_writes = 0; temp_writes = 0; reads = 0; bytes = 0 }

-- what was counted, with a step's share
abbrev pub with_share : Counts → Counts → Counts
with_share n share = record { cond_writes = n.cond_writes + share.cond_writes; temp_writes = n.temp_writes + share.temp_writes; reads = n.reads + share.reads; bytes = n.bytes + share.bytes }
