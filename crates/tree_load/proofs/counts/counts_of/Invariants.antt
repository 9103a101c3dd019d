use Rattle.std.proofs.Common.{◌≡◌, ℕ, ◌+◌, ◌*◌, ◌^◌, ◌≤◌, length, drop}
use Rattle.tree_load.specs.Counts.{counts_of}
use Rattle.tree_load.proofs.counts.counts_of.Given as goal

abbrev pub invariant-records : goal.invariant-records
invariant-records l = record {
  within : l.place ≤ length l.records;
  counted : l.counts ≡ counts_of (drop l.place l.records);
  files : l.counts.files + l.place ≤ length l.records;
  directories : l.counts.directories + l.place ≤ length l.records;
  bytes : l.counts.bytes + l.place * (2 ^ 64) ≤ length l.records * (2 ^ 64);
}

abbrev pub decreases-records : goal.decreases-records
decreases-records l = l.place
