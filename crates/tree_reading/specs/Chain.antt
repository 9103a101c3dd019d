-- What is done where nothing was refused before.
use Rattle.std.specs.Prelude.{Result, Ok, Err}
use Rattle.xdr_codec.specs.declared.status.Status.{Status}

infixl 1 ◌>>=◌
abbrev pub ◌>>=◌ : {A B : Type 0} → Result A Status → (A → Result B Status) → Result B Status
Ok x >>= f = f x
Err s >>= f = Err s

-- why, where it was refused
abbrev pub refused : {A : Type 0} → Result A Status → Result Unit Status
refused (Ok x) = Ok tt
refused (Err s) = Err s
