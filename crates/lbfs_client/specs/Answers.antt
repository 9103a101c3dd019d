-- What is written for a line.
use Rattle.std.specs.Prelude.{ℕ, List, ◌++◌, codes}
use Rattle.register_model.specs.Text.{outcome_text}
use Rattle.lbfs_client.specs.declared.answer.Answer.{Answer}
use Rattle.lbfs_client.specs.declared.answer.Answer.TheVariants as answer

-- how an operation ended, in the words of a history, or that a file of the host failed
abbrev pub answer_text : Answer → List ℕ
answer_text (answer.Ended outcome) = outcome_text outcome
answer_text answer.LocalFault = codes "LocalFault"

-- the line that is written
abbrev pub answer_line : Answer → List ℕ
answer_line a = answer_text a ++ codes "\n"
