use Rattle.command_text.proofs.Cuts.{some_word}
use Rattle.command_text.proofs.parts.Words.end.Goals as goal

pub returns-in-Some : goal.returns-in-Some
returns-in-Some c = rw (← c.self.view_is, c.in-Some.is) (some_word c.in-Some.field-0.now)
