use Rattle.command_text.proofs.lemmas.Decimals.{number_again, number_only}
use Rattle.command_text.proofs.laws.numbers_are_decimal.Goals as goal

pub returns-clause-read : goal.returns-clause-read
returns-clause-read c = number_again

pub returns-clause-only : goal.returns-clause-only
returns-clause-only c = number_only
