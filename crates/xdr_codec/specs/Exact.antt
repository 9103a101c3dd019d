-- What the laws of a format come to.
use Rattle.std.proofs.Common.{◌≡◌, ℕ, ◌+◌, List, [], ◌++◌, length, Ok, Err, sym, ap, ◌∙◌}
use Rattle.std.proofs.lemmas.List.{append-nil}
use Rattle.xdr_codec.specs.declared.fault.Fault.{Fault}
use Rattle.xdr_codec.specs.Format.{Input, Format, IsBytes, behind}
use Rattle.xdr_codec.specs.Laws.{ok_is, no_value}

-- Reading takes exactly the spelling of a value that fits, and each such spelling is read as that value, whatever follows it;
-- where reading is refused no such spelling begins; none is a proper prefix of another, and no two values have one.
pub record IsExact {A : Type 0} (f : Format A) : Type 0 where
  -- what is read is a value that fits, exactly its bytes stood there, and the place is behind them
  pub spelled : (i : Input) (a : A) (j : Input) → IsBytes i.rest → f.read i ≡ Ok (a, j) → f.Fits a × (i.rest ≡ f.spell a ++ j.rest) × (j.at ≡ i.at + length (f.spell a))
  -- a spelling is read, whatever follows it
  pub read : (a : A) (at : ℕ) (rest : List ℕ) → f.Fits a → f.read (record { at = at; rest = f.spell a ++ rest }) ≡ Ok (a, record { at = at + length (f.spell a); rest = rest })
  -- where reading is refused, no spelling begins
  pub refused : (i : Input) (fault : Fault) → f.read i ≡ Err fault → (a : A) (rest : List ℕ) → f.Fits a → ¬ (i.rest ≡ f.spell a ++ rest)
  -- no spelling is a proper prefix of another, and no two values have one spelling
  pub prefix : (a b : A) (more : List ℕ) → f.Fits a → f.Fits b → f.spell a ++ more ≡ f.spell b → (a ≡ b) × (more ≡ [])

exact_refused : {A : Type 0} (f : Format A) (i : Input) (fault : Fault) → f.read i ≡ Err fault → (a : A) (rest : List ℕ) → f.Fits a → ¬ (i.rest ≡ f.spell a ++ rest)
exact_refused {A} f i fault e a rest fits is =
    let given : f.read i ≡ Ok (a, behind i.at (f.spell a) rest) = ap (λ (r : List ℕ). f.read (record { at = i.at; rest = r })) is ∙ f.again a i.at rest fits in
    no_value (f.read i) fault (a, behind i.at (f.spell a) rest) e given

exact_prefix : {A : Type 0} (f : Format A) (a b : A) (more : List ℕ) → f.Fits a → f.Fits b → f.spell a ++ more ≡ f.spell b → (a ≡ b) × (more ≡ [])
exact_prefix {A} f a b more fits_a fits_b e =
    let one : f.read (record { at = 0; rest = f.spell b ++ [] }) ≡ Ok (a, behind 0 (f.spell a) more) = ap (λ (r : List ℕ). f.read (record { at = 0; rest = r })) (append-nil (f.spell b) ∙ sym e) ∙ f.again a 0 more fits_a in
    let two : f.read (record { at = 0; rest = f.spell b ++ [] }) ≡ Ok (b, behind 0 (f.spell b) []) = f.again b 0 [] fits_b in
    let same = ok_is {A = A × Input} (a, behind 0 (f.spell a) more) (b, behind 0 (f.spell b) []) (sym one ∙ two) in
    (ap (λ p. p.0) same, ap (λ p. p.1.rest) same)

pub exact : {A : Type 0} (f : Format A) → IsExact f
exact f = record {
  spelled = λ i a j fits e. let t = f.takes i a j fits e in (t.1, t.0.parts, t.0.place);
  read = f.again;
  refused = exact_refused f;
  prefix = exact_prefix f;
}
