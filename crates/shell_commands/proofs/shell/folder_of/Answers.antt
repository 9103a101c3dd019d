use Rattle.shell_commands.proofs.Lined.{before_so, without_so}
use Rattle.shell_commands.proofs.shell.folder_of.Goals as goal

pub returns-in-Some : goal.returns-in-Some
returns-in-Some c = before_so _ _ _ c.in-Some.is c.rsplit_once.ensures.cases

pub returns-in-None : goal.returns-in-None
returns-in-None c = without_so _ _ c.in-None.is c.rsplit_once.ensures.cases
