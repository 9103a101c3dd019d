-- All bytes of a record, or all that are left of it.
use Rattle.std.proofs.Common.{◌≡◌, ℕ, Bool, true, false, cond, List, [], ◌++◌, length, Result, Ok, Err, refl, sym, ap, subst, ◌∙◌}
use Rattle.std.specs.Prelude.{◌==◌, IfOk}
use Rattle.std.proofs.lemmas.Bool.{eqb-true}
use Rattle.std.proofs.lemmas.List.{append-nil, nil_from_length}
use Rattle.xdr_codec.specs.declared.fault.Fault.{Fault}
use Rattle.xdr_codec.specs.declared.fault.Fault.TheVariants.{Trailing}
use Rattle.xdr_codec.specs.declared.fault.ReadError.{ReadError}
use Rattle.xdr_codec.specs.Format.{Input, Format, IsBytes, behind, ◌>>=◌, whole_at, ended, GivesAll}
use Rattle.xdr_codec.specs.Laws.{bind_ok, done, ok_is}

pub ended_ok : (b : Bool) (d : Fault) (x : Unit {0}) → cond b (done x) (Err d) ≡ Ok x → b ≡ true
ended_ok true d x e = refl
ended_ok false d x e = absurd cc

pub whole_found : {A : Type 0} (start : ℕ) (f : Format A) (bytes : List ℕ) (a : A) → IsBytes bytes → whole_at start f bytes ≡ Ok a → f.Fits a × (bytes ≡ f.spell a)
whole_found {A} start f bytes a fits e =
    let here : Input = record { at = start; rest = bytes } in
    let b = bind_ok (f.read here) (λ x. ended x.1 >>= λ _. Ok x.0) a e in
    let g = bind_ok (ended b.0.1) (λ _. Ok b.0.0) a b.2 in
    let t = f.takes here b.0.0 b.0.1 fits b.1 in
    let none : b.0.1.rest ≡ [] = nil_from_length b.0.1.rest (eqb-true _ _ (ended_ok (length b.0.1.rest == 0) (Trailing b.0.1.at) tt g.1)) in
    let all : bytes ≡ f.spell b.0.0 = t.0.parts ∙ ap (λ (r : List ℕ). f.spell b.0.0 ++ r) none ∙ append-nil (f.spell b.0.0) in
    subst (λ (x : A). f.Fits x × (bytes ≡ f.spell x)) (ok_is b.0.0 a g.2) (t.1, all)

pub whole_again : {A : Type 0} (start : ℕ) (f : Format A) (a : A) → f.Fits a → whole_at start f (f.spell a) ≡ Ok a
whole_again start f a fits =
    let e : f.read (record { at = start; rest = f.spell a }) ≡ Ok (a, behind start (f.spell a) []) = ap (λ (r : List ℕ). f.read (record { at = start; rest = r })) (sym (append-nil (f.spell a))) ∙ f.again a start [] fits in
    rw e refl

-- the two laws, for a function that reads all that is left

pub found_by : {A : Type 0} (start : ℕ) (f : Format A) (bytes : List ℕ) (r : Result A ReadError) → IsBytes bytes → GivesAll r (whole_at start f bytes) → IfOk r (λ a. f.Fits a × (bytes ≡ f.spell a))
found_by start f bytes (Ok a) fits gives = whole_found start f bytes a fits gives
found_by start f bytes (Err e) fits gives = tt

pub only_by : {A : Type 0} (start : ℕ) (f : Format A) (bytes : List ℕ) (r : Result A ReadError) → GivesAll r (whole_at start f bytes) → (a : A) → f.Fits a → bytes ≡ f.spell a → GivesAll r (Ok a)
only_by {A} start f bytes r gives a fits e = subst (λ (x : Result A Fault). GivesAll r x) (ap (whole_at start f) e ∙ whole_again start f a fits) gives
