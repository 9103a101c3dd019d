-- What the readers of a line answer.
use Rattle.std.specs.Prelude.{◌≡◌, Result, Ok, Err}
use Rattle.shell_words.specs.declared.mistake.Mistake.{Mistake}
use Rattle.shell_words.specs.declared.mistake.ReadError.{ReadError}
use Rattle.shell_words.specs.declared.mistake.ReadError.TheVariants as errors

abbrev pub Fails : {A : Type 0} → ReadError → Result A Mistake → Type 0
Fails (errors.Mistaken m) said = said ≡ Err m
Fails errors.Memory said = Unit {0}

-- it gives what the line says, or the mistake that is in it, unless memory runs out
abbrev pub Gives : {A : Type 0} → Result A ReadError → Result A Mistake → Type 0
Gives (Ok a) said = said ≡ Ok a
Gives (Err e) said = Fails e said

-- the value, and what follows from it
infixl 10 ◌>>=◌
abbrev pub ◌>>=◌ : {A B : Type 0} → Result A Mistake → (A → Result B Mistake) → Result B Mistake
(Ok x) >>= f = f x
(Err m) >>= f = Err m
