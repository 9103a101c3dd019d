-- What is written and how long it is then.
use Rattle.std.proofs.Common.{◌≡◌, refl, sym, ap, ◌∙◌, ℕ, ◌+◌, ◌-◌, ◌<◌, ◌≤◌, List, [], ◌∷◌, ◌++◌, length, take, drop, replicate, arith}
use Rattle.std.specs.Prelude.{min, max}
use Rattle.std.proofs.Math.ListN.{drop_of_length-le}
use Rattle.std.proofs.Math.Seq.{drop-length}
use Rattle.std.proofs.lemmas.List.{length-append, length-replicate, length-take, length-drop, take_all}
use Rattle.client_state.specs.Local.{written, written_size, truncated}

-- a write of some bytes
pub written_some : (content : List ℕ) (offset : ℕ) (more : List ℕ) → 0 < length more → written content offset more ≡ take offset content ++ replicate (offset - length content) 0 ++ more ++ drop (offset + length more) content
written_some content offset [] some = let no : ⊥ = omega (arith, some) in absurd no
written_some content offset (b ∷ bs) some = refl

-- the first bytes, and a gap behind them, are those of the first bytes alone
pub filled_first : (n : ℕ) (content : List ℕ) → take n (take n content) ++ replicate (n - length (take n content)) 0 ≡ take n content ++ replicate (n - length content) 0
filled_first n content = ap (λ l. l ++ replicate (n - length (take n content)) 0) (take_again n content) ∙ ap (λ m. take n content ++ replicate m 0) (let l = length-take n content in omega (arith, l))
  where
    take_again : (n : ℕ) (content : List ℕ) → take n (take n content) ≡ take n content
    take_again n content = take_all n (take n content) (let l = length-take n content in omega (arith, l))

-- past its end a content has no bytes
pub drop_past : (n : ℕ) (content : List ℕ) → length content ≤ n → drop n content ≡ drop (length content) content
drop_past n content past = drop_of_length-le content past ∙ sym (drop-length content)

pub truncated_length : (content : List ℕ) (size : ℕ) → length (truncated content size) ≡ size
truncated_length content size =
    let a = length-append (take size content) (replicate (size - length content) 0) in
    let b = length-take size content in
    let c = length-replicate {A = ℕ} (size - length content) 0 in
    omega (arith, a, b, c)

four_parts : (a b c d : List ℕ) → length (((a ++ b) ++ c) ++ d) ≡ length a + (length b + (length c + length d))
four_parts a b c d =
    let p = length-append ((a ++ b) ++ c) d in
    let q = length-append (a ++ b) c in
    let r = length-append a b in
    omega (arith, p, q, r)

sum_of_parts : (t z d offset size more : ℕ) → t ≡ min offset size → z ≡ offset - size → d ≡ size - (offset + more) → t + (z + (more + d)) ≡ max size (offset + more)
sum_of_parts t z d offset size more p q r = omega (arith, p, q, r)

pub written_length : (content : List ℕ) (offset : ℕ) (more : List ℕ) → 0 < length more → length (written content offset more) ≡ written_size (length content) offset (length more)
written_length content offset more some =
    ap length (written_some content offset more some)
    ∙ four_parts (take offset content) (replicate {A = ℕ} (offset - length content) 0) more (drop (offset + length more) content)
    ∙ sum_of_parts _ _ _ offset (length content) (length more) (length-take offset content) (length-replicate {A = ℕ} (offset - length content) 0) (length-drop (offset + length more) content)

-- what `written` goes by
pub ruleset by_written = (written_some, written_length)
