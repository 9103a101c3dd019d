-- What is written for a refusal.
use Rattle.std.specs.Prelude.{ℕ, List, ◌++◌, codes, decimal}
use Rattle.clock_rule.specs.declared.rule.ClockFault.{ClockFault}
use Rattle.clock_rule.specs.declared.rule.ClockFault.TheVariants as clock
use Rattle.trace_text.specs.declared.refusal.LineFault.{LineFault}
use Rattle.trace_text.specs.declared.refusal.LineFault.TheVariants.{Grammar, Limit, Clock}
use Rattle.trace_text.specs.declared.refusal.Limit.{Limit as Limits}
use Rattle.trace_text.specs.declared.refusal.Limit.TheVariants.{Lines, File, Tree, Sessions}
use Rattle.trace_text.specs.declared.refusal.Refusal.{Refusal}
use Rattle.trace_text.specs.declared.refusal.Refusal.TheVariants.{Words, LimitBytes, Line}

abbrev pub limit_of : Limits → List ℕ
limit_of Lines = codes "lines"
limit_of File = codes "file"
limit_of Tree = codes "tree"
limit_of Sessions = codes "sessions"

-- how readings break the clock rule
abbrev pub clock_of : ClockFault → List ℕ
clock_of (clock.Server from to) = codes "clock server from " ++ (decimal from ++ (codes " to " ++ decimal to))
clock_of (clock.Client client from to) = codes "clock client " ++ (decimal client ++ (codes " from " ++ (decimal from ++ (codes " to " ++ decimal to))))
clock_of (clock.Drift client from server_from to server_to) = codes "clock client " ++ (decimal client ++ (codes " from " ++ (decimal from ++ (codes " " ++ (decimal server_from ++ (codes " to " ++ (decimal to ++ (codes " " ++ decimal server_to))))))))

abbrev pub fault_of : LineFault → List ℕ
fault_of Grammar = codes "grammar"
fault_of (Limit which) = codes "limit " ++ limit_of which
fault_of (Clock fault) = clock_of fault

abbrev pub refusal_of : Refusal → List ℕ
refusal_of Words = codes "refused words\n"
refusal_of LimitBytes = codes "refused limit bytes\n"
refusal_of (Line number fault) = codes "refused line " ++ decimal number ++ codes " " ++ fault_of fault ++ codes "\n"
