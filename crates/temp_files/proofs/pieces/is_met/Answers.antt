use Rattle.temp_files.proofs.Apart.{range_none, range_last}
use Rattle.temp_files.proofs.pieces.is_met.Goals as goal

pub returns-in-Some : goal.returns-in-Some
returns-in-Some c = rw (c.from.ensures, c.from-in-Some.ensures, c.len.ensures) (range_last _ _ _ _ _ _ c.requires (c.range.ensures.between tt) c.in-Some.ensures.steps)

pub returns-in-None : goal.returns-in-None
returns-in-None c = range_none c.args.pieces.now.entries c.range.result c.args.start c.args.end (c.range.ensures.between tt) c.in-None.ensures.steps.0
