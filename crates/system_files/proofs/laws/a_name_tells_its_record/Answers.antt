use Rattle.system_files.proofs.Names.{name_again}
use Rattle.system_files.proofs.laws.a_name_tells_its_record.Goals as goal

pub returns : goal.returns
returns c = name_again
