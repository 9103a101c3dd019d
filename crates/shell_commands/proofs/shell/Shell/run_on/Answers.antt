use Rattle.shell_commands.proofs.Lined.{mv_so}
use Rattle.shell_commands.proofs.shell.Shell.run_on.Goals as goal

pub returns-in_ok-told-in-Mv-clause-does : goal.returns-in_ok-told-in-Mv-clause-does
returns-in_ok-told-in-Mv-clause-does g c = mv_so _ _ _ _ _ _ _ _ _ _ _ _ _ _ _ _ c.in-Mv.is c.as_slice-dir.ensures c.as_slice-in-Mv.ensures c.operand.ensures c.in_ok-told-in-Mv.ensures
