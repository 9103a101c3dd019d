use Rattle.std.proofs.Common.{◌≡◌, ◌++◌, drop, map, string_bytes, flat_map}
use Rattle.store_report.specs.Report.{finding_line}
use Rattle.store_report.proofs.report.put_findings.Given as goal

abbrev pub invariant-loop-finding : goal.invariant-loop-finding
invariant-loop-finding l = string_bytes l.out ++ flat_map finding_line (map (λ w. string_bytes w) (drop l.finding-index l.findings)) ≡ string_bytes l.fn.out ++ flat_map finding_line (map (λ w. string_bytes w) l.findings)
