use Rattle.std.proofs.Common.{rules}
use Rattle.exit_status.proofs.status.Status.code.Goals as goal

pub returns-in-ReadFault : goal.returns-in-ReadFault
returns-in-ReadFault c = search rules

pub returns-in-WriteFault : goal.returns-in-WriteFault
returns-in-WriteFault c = search rules

pub returns-in-Refused : goal.returns-in-Refused
returns-in-Refused c = search rules

pub returns-in-Network : goal.returns-in-Network
returns-in-Network c = search rules

pub returns-in-Store : goal.returns-in-Store
returns-in-Store c = search rules
