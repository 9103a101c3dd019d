-- The text of lines that follow others.
use Rattle.std.proofs.Common.{◌≡◌, ℕ, suc, ◌+◌, List, [], ◌∷◌, ◌++◌, refl, sym, ap, ◌∙◌, append_assoc, arith}
use Rattle.std.proofs.lemmas.List.{append-nil}
use Rattle.std.specs.Prelude.{Result, Ok, Err, OnOk}
use Rattle.trace_generator.specs.Lines.{text_of, block_lines, generated_lines}

text_append : (xs ys : List (List ℕ)) → text_of (xs ++ ys) ≡ text_of xs ++ text_of ys
unfolding text_of
text_append [] ys = refl
text_append (x ∷ xs) ys = ap (λ t. (x ++ 10 ∷ []) ++ t) (text_append xs ys) ∙ sym (append_assoc (x ++ 10 ∷ []) (text_of xs) (text_of ys))

-- what was written, and then the lines that follow
pub followed : (out : List ℕ) (xs ys : List (List ℕ)) → (out ++ text_of xs) ++ text_of ys ≡ out ++ text_of (xs ++ ys)
followed out xs ys = append_assoc out (text_of xs) (text_of ys) ∙ ap (λ t. out ++ t) (sym (text_append xs ys))

-- no line has no text
pub none_followed : (out : List ℕ) → out ≡ out ++ text_of []
unfolding text_of
none_followed out = sym (append-nil out)

-- ---- what calls wrote, one after the other

pub on_ok : {A E : Type 0} (r : Result A E) (P Q : Type 0) → (P → Q) → OnOk r P → OnOk r Q
on_ok (Ok a) P Q f h = f h
on_ok (Err e) P Q f h = tt

pub then_text : (old mid new : List ℕ) (xs ys : List (List ℕ)) → mid ≡ old ++ text_of xs → new ≡ mid ++ text_of ys → new ≡ old ++ text_of (xs ++ ys)
then_text old mid new xs ys e f = f ∙ ap (λ t. t ++ text_of ys) e ∙ followed old xs ys

-- a line in two parts
pub one_line : (old mid new front rest : List ℕ) → mid ≡ old ++ front → new ≡ mid ++ (rest ++ 10 ∷ []) → new ≡ old ++ text_of ((front ++ rest) ∷ [])
unfolding text_of
one_line old mid new front rest e f =
    f ∙ ap (λ t. t ++ (rest ++ 10 ∷ [])) e
    ∙ append_assoc old front (rest ++ 10 ∷ [])
    ∙ ap (λ t. old ++ t) (sym (append_assoc front rest (10 ∷ [])) ∙ sym (append-nil (front ++ rest ++ 10 ∷ [])))

-- one block more
pub with_block : (out new : List ℕ) (seed k : ℕ) → out ≡ text_of (generated_lines seed k) → new ≡ out ++ text_of (block_lines seed (k + 1)) → new ≡ text_of (generated_lines seed (k + 1))
with_block out new seed k e f =
    let s : k + 1 ≡ suc k = omega arith in
    f ∙ ap (λ t. t ++ text_of (block_lines seed (k + 1))) e
    ∙ ap (λ n. text_of (generated_lines seed k) ++ text_of (block_lines seed n)) s
    ∙ sym (text_append (generated_lines seed k) (block_lines seed (suc k)))
    ∙ ap (λ n. text_of (generated_lines seed n)) (sym s)
