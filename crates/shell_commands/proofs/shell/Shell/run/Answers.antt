use Rattle.shell_commands.proofs.Lined.{lcd_so}
use Rattle.shell_commands.proofs.shell.Shell.run.Goals as goal

pub returns-in_ok-told-in-Lcd-clause-runs : goal.returns-in_ok-told-in-Lcd-clause-runs
returns-in_ok-told-in-Lcd-clause-runs g c = lcd_so _ _ _ _ _ _ _ _ _ _ _ _ _ _ _ c.in-Lcd.is c.operand-word.ensures c.in_ok-told-in-Lcd.ensures
