use Rattle.std.proofs.Common.{◌≡◌, ◌++◌, drop, string_bytes, flat_map}
use Rattle.record_show.specs.Show.{record_text}
use Rattle.record_show.proofs.show.put_records.Given as goal

abbrev pub invariant-loop-contents : goal.invariant-loop-contents
invariant-loop-contents l = string_bytes l.out ++ flat_map record_text (drop l.contents-index l.records) ≡ string_bytes l.fn.out ++ flat_map record_text l.records
