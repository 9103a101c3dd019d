-- What a turn adds to the journal.
use Rattle.std.proofs.Common.{List, [], arith}
use Rattle.std.proofs.lemmas.List.{append-nil}
use Rattle.server_law.specs.Growth.{MayAdd}

-- nothing is added
pub adds_none : {E : Type 0} (es : List E) → MayAdd es es
adds_none es = ([], append-nil es, omega arith)
