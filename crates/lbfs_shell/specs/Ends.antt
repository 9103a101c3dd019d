-- Which ends of a shell have a cause outside it, by counts of faults before and behind.
use Rattle.std.specs.Prelude.{ℕ, Bool, true, false}
use Rattle.lb_base.specs.Causes.{Rose}
use Rattle.lb_base.specs.declared.sink.GiveError.{GiveError}
use Rattle.lb_base.specs.declared.sink.GiveError.TheVariants as give
use Rattle.lb_base.specs.declared.source.ReadError.{ReadError}
use Rattle.lb_base.specs.declared.source.ReadError.TheVariants as read
use Rattle.exit_status.specs.declared.shell_end.ShellEnd.{ShellEnd}
use Rattle.exit_status.specs.declared.shell_end.ShellEnd.TheVariants as end
use Rattle.lbfs_shell.specs.declared.saying.Flow.{Flow}
use Rattle.lbfs_shell.specs.declared.saying.Flow.TheVariants as flow

-- of what touches the output alone
abbrev pub SinkCause : (writes writes' : ℕ) → ShellEnd → Type 0
SinkCause w w' end.ReadFault = ⊥
SinkCause w w' end.WriteFault = Rose w w'
SinkCause w w' e = Unit {0}

-- and the input
abbrev pub HasCause : (reads reads' writes writes' : ℕ) → ShellEnd → Type 0
HasCause r r' w w' end.ReadFault = Rose r r'
HasCause r r' w w' end.WriteFault = Rose w w'
HasCause r r' w w' e = Unit {0}

-- ---- what comes of writing, and of reading

abbrev pub given_end : GiveError → ShellEnd
given_end give.Failed = end.WriteFault
given_end give.Memory = end.Memory

abbrev pub read_end : ReadError → ShellEnd
read_end read.Fault = end.ReadFault
read_end read.TooLong = end.TooLong
read_end read.Memory = end.Memory

-- whether what a line asked for was done
abbrev pub flow_of : (is_fine : Bool) → Flow
flow_of true = flow.Done
flow_of false = flow.Undone

-- the end of a shell that did all that it was told, or not all
abbrev pub end_of : Bool → ShellEnd
end_of true = end.Done
end_of false = end.Undone

-- ---- leases

-- a farewell was the last that was said on a connection
abbrev pub HasLeft : {R : Type 0} → (farewells : R → R → Type 0) → R → Type 0
HasLeft {R = R} farewells new = (old : R) × farewells old new
