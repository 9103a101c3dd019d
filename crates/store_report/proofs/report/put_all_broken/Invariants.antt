use Rattle.std.proofs.Common.{◌≡◌, ◌++◌, drop, string_bytes, flat_map}
use Rattle.store_report.specs.Report.{broken_line}
use Rattle.store_report.proofs.report.put_all_broken.Given as goal

abbrev pub invariant-loop-one : goal.invariant-loop-one
invariant-loop-one l = string_bytes l.out ++ flat_map (broken_line l.records) (drop l.one-index l.all) ≡ string_bytes l.fn.out ++ flat_map (broken_line l.records) l.all
