-- Items that may be there, up to the first that isn't (RFC 4506, section 4.19: optional-data as a linked list).
use Rattle.std.proofs.Common.{◌≡◌, ℕ, zero, suc, ◌+◌, ◌<◌, true, false, List, [], ◌∷◌, ◌++◌, length, Option, Some, None, Result, Ok, Err, refl, sym, ap, subst, ◌∙◌, append_assoc, arith, length-append}
use Rattle.std.specs.Prelude.{All}
use Rattle.std.specs.List.{flat_map}
use Rattle.std.proofs.lemmas.List.Elements.{All-nil, All-cons}
use Rattle.xdr_codec.specs.declared.fault.Fault.{Fault}
use Rattle.xdr_codec.specs.declared.fault.Fault.TheVariants.{Short}
use Rattle.xdr_codec.specs.Format.{Input, Format, IsBytes, Takes, behind, ◌>>=◌}
use Rattle.xdr_codec.specs.Laws.{bind_ok, done, ok_is, Takes-then, behind-then, All-head, All-tail}
use Rattle.xdr_codec.specs.Xdr.{bool_form, bool_fits, bool_len}
use Rattle.xdr_codec.specs.Choice.{optional}

-- an item behind a true
abbrev pub link_spell : {A : Type 0} → Format A → A → List ℕ
link_spell f x = (optional f).spell (Some x)

-- all of them, and a false
abbrev pub chain_spell : {A : Type 0} → Format A → List A → List ℕ
chain_spell f xs = flat_map (link_spell f) xs ++ (optional f).spell None

abbrev pub chain_after : {A : Type 0} → (Input → Result (List A × Input) Fault) → Option A → Input → Result (List A × Input) Fault
chain_after others None j = Ok ([], j)
chain_after others (Some x) j = do
  xs ← others j
  Ok (x ∷ xs.0, xs.1)

-- with fewer than so many items
abbrev pub chain_read : {A : Type 0} → Format A → ℕ → Input → Result (List A × Input) Fault
chain_read f zero i = Err (Short i.at)
chain_read f (suc n) i = do
  link ← (optional f).read i
  chain_after (chain_read f n) link.0 link.1

chain_step : {A : Type 0} (f : Format A) (n : ℕ) (later : (i : Input) (xs : List A) (k : Input) → IsBytes i.rest → chain_read f n i ≡ Ok (xs, k) → Takes i (chain_spell f xs) k × All f.Fits xs) (i : Input) (o : Option A) (j : Input) (xs : List A) (k : Input) → Takes i ((optional f).spell o) j → (optional f).Fits o → chain_after (chain_read f n) o j ≡ Ok (xs, k) → Takes i (chain_spell f xs) k × All f.Fits xs
chain_step {A} f n later i None j xs k t fits e =
    subst (λ (y : List A × Input). Takes i (chain_spell f y.0) y.1 × All f.Fits y.0) (ok_is {A = List A × Input} ([], j) (xs, k) e) (t, All-nil f.Fits)
chain_step {A} f n later i (Some x) j xs k t fits e =
    let b = bind_ok (chain_read f n j) (λ xs. Ok (x ∷ xs.0, xs.1)) (xs, k) e in
    let v = later j b.0.0 b.0.1 t.rest_fits b.1 in
    let made : List A × Input = (x ∷ b.0.0, b.0.1) in
    let both : Takes i (chain_spell f made.0) made.1 = subst (λ (s : List ℕ). Takes i s b.0.1) (sym (append_assoc (link_spell f x) (flat_map (link_spell f) b.0.0) ((optional f).spell None))) (Takes-then i (link_spell f x) j (chain_spell f b.0.0) b.0.1 t v.0) in
    subst (λ (y : List A × Input). Takes i (chain_spell f y.0) y.1 × All f.Fits y.0) (ok_is made (xs, k) b.2) (both, All-cons f.Fits x b.0.0 fits.1 v.1)

pub chain_takes : {A : Type 0} (f : Format A) (n : ℕ) (i : Input) (xs : List A) (k : Input) → IsBytes i.rest → chain_read f n i ≡ Ok (xs, k) → Takes i (chain_spell f xs) k × All f.Fits xs
chain_takes f zero i xs k fits e = absurd cc
chain_takes f (suc n) i xs k fits e =
    let a = bind_ok ((optional f).read i) (λ link. chain_after (chain_read f n) link.0 link.1) (xs, k) e in
    let t = (optional f).takes i a.0.0 a.0.1 fits a.1 in
    chain_step f n (chain_takes f n) i a.0.0 a.0.1 xs k t.0 t.1 a.2

pub chain_again : {A : Type 0} (f : Format A) (n : ℕ) (xs : List A) (at : ℕ) (rest : List ℕ) → length xs < n → All f.Fits xs → chain_read f n (record { at = at; rest = chain_spell f xs ++ rest }) ≡ Ok (xs, behind at (chain_spell f xs) rest)
chain_again f zero xs at rest small fits = absurd (omega arith)
chain_again {A} f (suc n) [] at rest small fits =
    ap (λ (r : Result (Option A × Input) Fault). r >>= λ link. chain_after (chain_read f n) link.0 link.1) ((optional f).again None at rest (bool_fits false, refl))
chain_again {A} f (suc n) (x ∷ xs) at rest small fits =
    let a = link_spell f x in
    let c = chain_spell f xs in
    let end = (optional f).spell None in
    let regroup : chain_spell f (x ∷ xs) ≡ a ++ c = append_assoc a (flat_map (link_spell f) xs) end in
    let link : (optional f).read (record { at = at; rest = a ++ (c ++ rest) }) ≡ Ok (Some x, behind at a (c ++ rest)) = (optional f).again (Some x) at (c ++ rest) (bool_fits true, All-head f.Fits x xs fits) in
    let one : chain_read f (suc n) (record { at = at; rest = a ++ (c ++ rest) }) ≡ Ok (x ∷ xs, behind (at + length a) c rest) =
    ap (λ (r : Result (Option A × Input) Fault). r >>= λ link. chain_after (chain_read f n) link.0 link.1) link ∙ ap (λ (r : Result (List A × Input) Fault). r >>= λ xs. Ok (x ∷ xs.0, xs.1)) (chain_again f n xs (at + length a) rest (omega arith) (All-tail f.Fits x xs fits)) in
    let two : chain_read f (suc n) (record { at = at; rest = (a ++ c) ++ rest }) ≡ Ok (x ∷ xs, behind at (a ++ c) rest) =
    ap (λ (r : List ℕ). chain_read f (suc n) (record { at = at; rest = r })) (append_assoc a c rest) ∙ one ∙ ap (λ (k : Input). done {A = List A × Input} (x ∷ xs, k)) (behind-then at a c rest) in
    subst (λ (t : List ℕ). chain_read f (suc n) (record { at = at; rest = t ++ rest }) ≡ Ok (x ∷ xs, behind at t rest)) (sym regroup) two

-- each link takes at least one byte
pub chain_long : {A : Type 0} (f : Format A) (xs : List A) → length xs < length (chain_spell f xs)
chain_long f [] = omega (arith, bool_len false, length-append (bool_form.spell false) [])
chain_long f (x ∷ xs) =
    omega (arith, ap length (append_assoc (link_spell f x) (flat_map (link_spell f) xs) ((optional f).spell None)), length-append (link_spell f x) (chain_spell f xs), length-append (bool_form.spell true) (f.spell x), bool_len true, chain_long f xs)

pub chained_again : {A : Type 0} (f : Format A) (xs : List A) (at : ℕ) (rest : List ℕ) → All f.Fits xs → chain_read f (length (chain_spell f xs ++ rest)) (record { at = at; rest = chain_spell f xs ++ rest }) ≡ Ok (xs, behind at (chain_spell f xs) rest)
chained_again f xs at rest fits = chain_again f (length (chain_spell f xs ++ rest)) xs at rest (omega (arith, length-append (chain_spell f xs) rest, chain_long f xs)) fits

abbrev pub chained : {A : Type 0} → Format A → Format (List A)
chained f = record { spell = chain_spell f; read = λ i. chain_read f (length i.rest) i; Fits = All f.Fits; takes = λ i. chain_takes f (length i.rest) i; again = chained_again f }
