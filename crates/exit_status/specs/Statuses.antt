-- The numbers that the program ends with.
use Rattle.std.specs.Prelude.{ℕ}
use Rattle.exit_status.specs.declared.shell_end.ShellEnd.{ShellEnd}
use Rattle.exit_status.specs.declared.shell_end.ShellEnd.TheVariants as shell
use Rattle.exit_status.specs.declared.status.Status.{Status}
use Rattle.exit_status.specs.declared.status.Status.TheVariants as status

abbrev pub code_of : Status → ℕ
code_of status.Done = 0
code_of status.BadWords = 2
code_of status.ReadFault = 3
code_of status.WriteFault = 4
code_of status.Refused = 5
code_of status.Memory = 6
code_of status.NoThread = 6
code_of status.Network = 7
code_of status.Store = 8
code_of status.Broken = 8

-- and with a shell
abbrev pub shell_code_of : ShellEnd → ℕ
shell_code_of shell.Done = 0
shell_code_of shell.Undone = 1
shell_code_of shell.BadWords = 2
shell_code_of shell.ReadFault = 3
shell_code_of shell.WriteFault = 4
shell_code_of shell.TooLong = 5
shell_code_of shell.Memory = 6
shell_code_of shell.Network = 7
