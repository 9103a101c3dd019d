use Rattle.std.proofs.Common.{List, ℕ, subst, sym}
use Rattle.mount_desk.specs.Turns.{IsAnswer}
use Rattle.mount_desk.proofs.answer_line.AnswerLine.as_slice.Goals as goal

pub returns-clause-answer : goal.returns-clause-answer
returns-clause-answer c = subst (λ (text : List ℕ). IsAnswer text) (sym c.as_slice.ensures) c.args.self.now.told
