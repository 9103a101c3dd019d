-- What the readers of a line, and of a content, answer.
use Rattle.std.specs.Prelude.{◌≡◌, Option, Some, None, Result, Ok, Err}
use Rattle.command_text.specs.declared.line_error.LineError.{LineError}
use Rattle.command_text.specs.declared.line_error.LineError.TheVariants.{BadLine, Memory}

abbrev pub Fails : {A : Type 0} → LineError → Option A → Type 0
Fails BadLine said = said ≡ None
Fails Memory said = Unit {0}

-- it gives what the text says, and BadLine where that is nothing, unless memory runs out
abbrev pub Gives : {A : Type 0} → Result A LineError → Option A → Type 0
Gives (Ok a) said = said ≡ Some a
Gives (Err e) said = Fails e said
