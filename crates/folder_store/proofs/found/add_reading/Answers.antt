use Rattle.folder_store.proofs.Looks.{no_record}
use Rattle.folder_store.proofs.found.add_reading.Goals as goal

pub returns-in-None : goal.returns-in-None
returns-in-None c = no_record c.add_line.result c.args.which c.args.name.now c.args.reading c.in-Bytes.bytes c.in_ok-record-in-Bytes.field-0 c.args.found.now c.add_line.new.found c.in-Bytes.is c.in_ok-record-in-Bytes.ensures c.in-None.is c.add_line.ensures.records c.add_line.ensures.line
