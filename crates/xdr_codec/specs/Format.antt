-- A format: how a value is spelled in bytes, and how it is read again.
use Rattle.std.specs.Prelude.{◌≡◌, ℕ, ◌+◌, ◌<◌, List, ◌++◌, length, get_or, Result, Ok, Err, ◌==◌, if◌then◌else◌}
use Rattle.xdr_codec.specs.declared.fault.Fault.{Fault}
use Rattle.xdr_codec.specs.declared.fault.Fault.TheVariants.{Trailing}
use Rattle.xdr_codec.specs.declared.fault.ReadError.{ReadError}
use Rattle.xdr_codec.specs.declared.fault.ReadError.TheVariants as errors

-- what is left of a record, and its place counted from the record's first byte
pub record Input : Type 0 where
  pub at : ℕ
  pub rest : List ℕ

infixl 10 ◌>>=◌
abbrev pub ◌>>=◌ : {A B : Type 0} → Result A Fault → (A → Result B Fault) → Result B Fault
(Ok x) >>= f = f x
(Err e) >>= f = Err e

abbrev pub IsBytes : List ℕ → Type 0
IsBytes bytes = (i : ℕ) → get_or bytes i 0 < 256

-- these bytes stood at the front of one input, and the other follows them
pub record Takes (i : Input) (text : List ℕ) (j : Input) : Type 0 where
  pub parts : i.rest ≡ text ++ j.rest
  pub place : j.at ≡ i.at + length text
  pub rest_fits : IsBytes j.rest

-- the input behind these bytes
abbrev pub behind : ℕ → List ℕ → List ℕ → Input
behind at text rest = record { at = at + length text; rest = rest }

pub record Format (A : Type 0) : Type 1 where
  pub spell : A → List ℕ
  pub read : Input → Result (A × Input) Fault
  -- what has a spelling
  pub Fits : A → Type 0
  -- what is read is spelled so, and fits
  pub takes : (i : Input) (a : A) (j : Input) → IsBytes i.rest → read i ≡ Ok (a, j) → Takes i (spell a) j × Fits a
  -- what fits and is spelled so is read, whatever follows
  pub again : (a : A) (at : ℕ) (rest : List ℕ) → Fits a → read (record { at = at; rest = spell a ++ rest }) ≡ Ok (a, behind at (spell a) rest)

-- nothing is left
abbrev pub ended : Input → Result (Unit {0}) Fault
ended i = if length i.rest == 0 then Ok tt else Err (Trailing i.at)

-- all that is left of a record behind a header of so many bytes
abbrev pub whole_at : {A : Type 0} → ℕ → Format A → List ℕ → Result A Fault
whole_at start f bytes = do
  x ← f.read (record { at = start; rest = bytes })
  _ ← ended x.1
  Ok x.0

-- all of a record's bytes
abbrev pub whole : {A : Type 0} → Format A → List ℕ → Result A Fault
whole f bytes = whole_at 0 f bytes

-- what a function returned, and the input it left, are what reading gives, unless memory ran out
abbrev pub Fails : {Y : Type 0} → ReadError → Result Y Fault → Type 0
Fails errors.Memory read = Unit {0}
Fails (errors.Fault f) read = read ≡ Err f

abbrev pub Gives : {A : Type 0} → Result A ReadError → Input → Result (A × Input) Fault → Type 0
Gives (Ok x) new read = read ≡ Ok (x, new)
Gives (Err e) new read = Fails e read

abbrev pub GivesAll : {A : Type 0} → Result A ReadError → Result A Fault → Type 0
GivesAll (Ok x) read = read ≡ Ok x
GivesAll (Err e) read = Fails e read
