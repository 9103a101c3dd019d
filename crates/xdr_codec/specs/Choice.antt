-- Items that may be there, and numbers of a choice (RFC 4506, sections 4.3, 4.15 and 4.19).
use Rattle.std.proofs.Common.{◌≡◌, ℕ, Bool, true, false, cond, List, ◌++◌, Option, Some, None, Result, Ok, Err, refl, sym, subst}
use Rattle.std.specs.Prelude.{if◌then◌else◌, is_some}
use Rattle.xdr_codec.specs.declared.fault.Fault.{Fault}
use Rattle.xdr_codec.specs.declared.fault.Fault.TheVariants.{BadValue}
use Rattle.xdr_codec.specs.Format.{Input, Format, IsBytes, Takes, behind, ◌>>=◌}
use Rattle.xdr_codec.specs.Laws.{bind_ok, ok_is}
use Rattle.xdr_codec.specs.Compose.{tagged, nothing, variant}
use Rattle.xdr_codec.specs.Xdr.{u32_form, bool_form, if_ok}

-- ---- an item that may be there

abbrev pub option_forms : {A : Type 0} → Format A → Bool → Format (Option A)
option_forms f true = variant Some (λ o. o) (λ a. refl) some_there f
  where
    some_there : {A : Type 0} (b : Option A) (a : A) → b ≡ Some a → Some a ≡ b
    some_there b a e = sym e
option_forms f false = nothing None

pub option_one : {A : Type 0} (f : Format A) (b : Bool) (o : Option A) → bool_form.Fits b → (option_forms f b).Fits o → is_some o ≡ b
option_one f true (Some a) small fits = refl
option_one f true None small fits = absurd fits
option_one f false None small fits = refl
option_one f false (Some a) small fits = absurd cc

abbrev pub optional : {A : Type 0} → Format A → Format (Option A)
optional f = tagged is_some bool_form (option_forms f) (option_one f)

-- ---- a form chosen by a number

abbrev pub known_read : (ℕ → Bool) → Input → Result (ℕ × Input) Fault
known_read known i = do
  n ← u32_form.read i
  if known n.0 then Ok n else Err (BadValue i.at n.0)

pub known_takes : (known : ℕ → Bool) (i : Input) (n : ℕ) (j : Input) → IsBytes i.rest → known_read known i ≡ Ok (n, j) → Takes i (u32_form.spell n) j × (u32_form.Fits n × (known n ≡ true))
known_takes known i n j fits e =
    let a = bind_ok (u32_form.read i) (λ n. cond (known n.0) (Ok n) (Err (BadValue i.at n.0))) (n, j) e in
    let g = if_ok (known a.0.0) (BadValue i.at a.0.0) (Ok a.0) (n, j) a.2 in
    let t = u32_form.takes i a.0.0 a.0.1 fits a.1 in
    subst (λ (y : ℕ × Input). Takes i (u32_form.spell y.0) y.1 × (u32_form.Fits y.0 × (known y.0 ≡ true))) (ok_is a.0 (n, j) g.1) (t.0, (t.1, g.0))

pub known_again : (known : ℕ → Bool) (n at : ℕ) (rest : List ℕ) → u32_form.Fits n × (known n ≡ true) → known_read known (record { at = at; rest = u32_form.spell n ++ rest }) ≡ Ok (n, behind at (u32_form.spell n) rest)
known_again known n at rest fits = rw (u32_form.again n at rest fits.0, fits.1) refl

-- a number of some
abbrev pub known_form : (ℕ → Bool) → Format ℕ
known_form known = record { spell = u32_form.spell; read = known_read known; Fits = λ n. u32_form.Fits n × (known n ≡ true); takes = known_takes known; again = known_again known }
