use Rattle.std.proofs.Common.{rules}
use Rattle.folder_store.proofs.Parts.{parted}
use Rattle.folder_store.proofs.ahead.content_from.Goals as goal

pub returns-clause-bytes : goal.returns-clause-bytes
returns-clause-bytes g c =
    parted
    (g.F.Read.remaining c.args.file.now)
    (g.F.Read.remaining c.read_exact.new.self)
    c.read_exact.new.buf
    c.read_to_end.new.buf.items
    c.args.id
    c.in_ok-content_of.field-0
    c.read_exact.auto.buf
    c.in_ok-read_exact.ensures.bytes
    (search rules)
    (search rules)
    (search rules)
    (search rules)
