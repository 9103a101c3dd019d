-- Items one after the other (RFC 4506, sections 4.12 and 4.13).
use Rattle.std.proofs.Common.{◌≡◌, ℕ, zero, suc, ◌+◌, List, [], ◌∷◌, ◌++◌, length, Result, Ok, refl, sym, ap, subst, append_assoc, add-zero, arith}
use Rattle.std.specs.Prelude.{All}
use Rattle.std.specs.List.{flat_map}
use Rattle.std.proofs.lemmas.List.Elements.{All-nil, All-cons}
use Rattle.xdr_codec.specs.declared.fault.Fault.{Fault}
use Rattle.xdr_codec.specs.Format.{Input, Format, IsBytes, Takes, behind, ◌>>=◌}
use Rattle.xdr_codec.specs.Laws.{bind_ok, done, ok_is, Takes-then, behind-then, All-head, All-tail}
use Rattle.xdr_codec.specs.Compose.{tagged}
use Rattle.xdr_codec.specs.Xdr.{count_form}

-- ---- items one after the other (RFC 4506, section 4.12)

abbrev pub repeated_read : {A : Type 0} → Format A → ℕ → Input → Result (List A × Input) Fault
repeated_read f zero i = Ok ([], i)
repeated_read f (suc n) i = do
  first ← f.read i
  others ← repeated_read f n first.1
  Ok (first.0 ∷ others.0, others.1)

pub repeated_takes : {A : Type 0} (f : Format A) (n : ℕ) (i : Input) (xs : List A) (j : Input) → IsBytes i.rest → repeated_read f n i ≡ Ok (xs, j) → Takes i (flat_map f.spell xs) j × ((length xs ≡ n) × All f.Fits xs)
repeated_takes {A} f zero i xs j fits e =
    subst (λ (y : List A × Input). Takes i (flat_map f.spell y.0) y.1 × ((length y.0 ≡ 0) × All f.Fits y.0)) (ok_is {A = List A × Input} ([], i) (xs, j) e) (record { parts = refl; place = sym (add-zero i.at); rest_fits = fits }, (refl, All-nil f.Fits))
repeated_takes {A} f (suc n) i xs j fits e =
    let a = bind_ok (f.read i) (λ first. repeated_read f n first.1 >>= λ others. Ok (first.0 ∷ others.0, others.1)) (xs, j) e in
    let b = bind_ok (repeated_read f n a.0.1) (λ others. Ok (a.0.0 ∷ others.0, others.1)) (xs, j) a.2 in
    let t = f.takes i a.0.0 a.0.1 fits a.1 in
    let u = repeated_takes f n a.0.1 b.0.0 b.0.1 t.0.rest_fits b.1 in
    let made : List A × Input = (a.0.0 ∷ b.0.0, b.0.1) in
    subst (λ (y : List A × Input). Takes i (flat_map f.spell y.0) y.1 × ((length y.0 ≡ suc n) × All f.Fits y.0)) (ok_is made (xs, j) b.2) (Takes-then i (f.spell a.0.0) a.0.1 (flat_map f.spell b.0.0) b.0.1 t.0 u.0, (ap suc u.1.0, All-cons f.Fits a.0.0 b.0.0 t.1 u.1.1))

pub repeated_again : {A : Type 0} (f : Format A) (n : ℕ) (xs : List A) (at : ℕ) (rest : List ℕ) → (length xs ≡ n) × All f.Fits xs → repeated_read f n (record { at = at; rest = flat_map f.spell xs ++ rest }) ≡ Ok (xs, behind at (flat_map f.spell xs) rest)
repeated_again {A} f zero [] at rest fits = ap (λ (k : ℕ). done {A = List A × Input} ([], record { at = k; rest = rest })) (sym (add-zero at))
repeated_again f zero (x ∷ xs) at rest fits = absurd (omega (arith, fits.0))
repeated_again f (suc n) [] at rest fits = absurd (omega (arith, fits.0))
repeated_again {A} f (suc n) (x ∷ xs) at rest fits =
    let a = f.spell x in
    let b = flat_map f.spell xs in
    let len : length xs ≡ n = omega (arith, fits.0) in
    rw (append_assoc a b rest, f.again x at (b ++ rest) (All-head f.Fits x xs fits.1), repeated_again f n xs (at + length a) rest (len, All-tail f.Fits x xs fits.1)) (ap (λ (k : Input). done {A = List A × Input} (x ∷ xs, k)) (behind-then at a b rest))

abbrev pub repeated : {A : Type 0} → Format A → ℕ → Format (List A)
repeated f n = record { spell = flat_map f.spell; read = repeated_read f n; Fits = λ xs. (length xs ≡ n) × All f.Fits xs; takes = repeated_takes f n; again = repeated_again f n }

-- items behind their number (RFC 4506, section 4.13)
abbrev pub counted : {A : Type 0} → ℕ → Format A → Format (List A)
counted max f = tagged length (count_form max) (repeated f) (λ n xs small fits. fits.0)
