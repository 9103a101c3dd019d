-- The pieces come to a content exactly where they cover it.
use Rattle.std.proofs.Common.{◌≡◌, refl, sym, ap, ◌∙◌, subst, ℕ, ◌+◌, ◌<◌, ◌≤◌, List, [], ◌∷◌, ◌++◌, length, take, drop, Option, Some, None, Bool, true, false, ◌⊎◌, inl, inr, append_assoc, arith, length-append}
use Rattle.std.specs.Prelude.{◌==◌, ◌&&◌, nat_lt, nat_le, All, filter, cond, if◌then◌else◌}
use Rattle.std.proofs.lemmas.Bool.{lt-ltb, le-ltb, le-leb, lt-leb, eqb-true, eq-eqb, and_right, cases_lt}
use Rattle.std.proofs.lemmas.List.{take-append-drop, take_at, drop_at}
use Rattle.std.proofs.lemmas.List.Elements.{All-nil, All-cons, All-head, All-tail}
use Rattle.temp_files.specs.Pieces.{Piece, StandApart, joined}
use Rattle.temp_files.specs.Covered.{has_place, IsCovered, ComesTo}
use Rattle.temp_files.proofs.lemmas.Joins.{behind}

-- ---- who has a place

-- no piece that begins behind a place has it
none_before : (at : ℕ) (ps : List Piece) (k : ℕ) → StandApart at ps → k < at → filter (has_place k) ps ≡ []
none_before at [] k a lt = refl
none_before at (p ∷ ps) k a lt =
    let begins = a.0 in
    let later = none_before (p.0 + length p.1) ps k a.2 (omega arith) in
    ap (λ b. cond (b && nat_lt k (p.0 + length p.1)) (p ∷ filter (has_place k) ps) (filter (has_place k) ps)) (lt-leb p.0 k (omega arith)) ∙ later

-- a place of the first piece is in no other
first_has : (p : Piece) (ps : List Piece) (k : ℕ) → StandApart (p.0 + length p.1) ps → p.0 ≤ k → k < p.0 + length p.1 → filter (has_place k) (p ∷ ps) ≡ p ∷ []
first_has p ps k a from lt =
    ap (λ b. cond (b && nat_lt k (p.0 + length p.1)) (p ∷ filter (has_place k) ps) (filter (has_place k) ps)) (le-leb p.0 k from)
    ∙ ap (λ b. cond b (p ∷ filter (has_place k) ps) (filter (has_place k) ps)) (lt-ltb k (p.0 + length p.1) lt)
    ∙ ap (λ l. p ∷ l) (none_before (p.0 + length p.1) ps k a lt)

-- a place behind the first piece isn't in it
first_hasnt : (p : Piece) (ps : List Piece) (k : ℕ) → p.0 + length p.1 ≤ k → filter (has_place k) (p ∷ ps) ≡ filter (has_place k) ps
first_hasnt p ps k past = ap (λ b. cond b (p ∷ filter (has_place k) ps) (filter (has_place k) ps)) (and_right (nat_le p.0 k) _ (le-ltb k (p.0 + length p.1) past))

-- ---- from a place on

-- The content is covered from this place on.
record IsCoveredFrom (at : ℕ) (pieces : List Piece) (size : ℕ) (content : List ℕ) : Type 0 where
  once : (k : ℕ) → at ≤ k → k < size → length (filter (has_place k) pieces) ≡ 1
  within : All (λ p. p.0 + length p.1 ≤ size) pieces
  len : length content ≡ size
  bytes : All (λ p. take (length p.1) (drop p.0 content) ≡ p.1) pieces

some_same : (b c : List ℕ) → Some b ≡ Some c → b ≡ c
some_same b c e = cc

none_differs : (b : List ℕ) → None ≡ Some b → ⊥
none_differs b e = cc

-- a piece's bytes stand behind those before them
piece_stands : (w b rest : List ℕ) (at : ℕ) → at ≡ length w → take (length b) (drop at (w ++ (b ++ rest))) ≡ b
piece_stands w b rest at is = ap (λ t. take (length b) t) (drop_at w (b ++ rest) at (sym is)) ∙ take_at b rest (length b) refl

covers_more : (w : List ℕ) (size : ℕ) (p : Piece) (ps : List Piece) (rest : List ℕ) → p.0 ≡ length w → StandApart (p.0 + length p.1) ps
    → IsCoveredFrom (length (w ++ p.1)) ps size ((w ++ p.1) ++ rest) → IsCoveredFrom (length w) (p ∷ ps) size (w ++ (p.1 ++ rest))
covers_more w size p ps rest is a later = record {
  once = λ k from lt. by k from lt (cases_lt k (p.0 + length p.1));
  within = All-cons (λ (q : Piece). q.0 + length q.1 ≤ size) p ps ends later.within;
  len = ap length same ∙ later.len;
  bytes = All-cons (λ (q : Piece). take (length q.1) (drop q.0 (w ++ (p.1 ++ rest))) ≡ q.1) p ps (piece_stands w p.1 rest p.0 is)
      (subst (λ (t : List ℕ). All (λ (q : Piece). take (length q.1) (drop q.0 t) ≡ q.1) ps) (sym same) later.bytes);
}
  where
    same : w ++ (p.1 ++ rest) ≡ (w ++ p.1) ++ rest
    same = sym (append_assoc w p.1 rest)

    ends : p.0 + length p.1 ≤ size
    ends = omega (arith, is, later.len, length-append w p.1, length-append (w ++ p.1) rest)

    by : (k : ℕ) → length w ≤ k → k < size → (k < p.0 + length p.1) ⊎ (p.0 + length p.1 ≤ k) → length (filter (has_place k) (p ∷ ps)) ≡ 1
    by k from lt (inl h) = ap length (first_has p ps k a (omega (arith, is)) h)
    by k from lt (inr h) = ap length (first_hasnt p ps k h) ∙ later.once k (omega (arith, is, length-append w p.1)) lt

covers_from : (w : List ℕ) (size : ℕ) (ps : List Piece) (bytes : List ℕ) → StandApart (length w) ps → joined (length w) size ps ≡ Some bytes → IsCoveredFrom (length w) ps size (w ++ bytes)
covers_from w size [] bytes a h = by (length w == size) refl h
  where
    by : (b : Bool) → (length w == size) ≡ b → (if b then Some [] else None) ≡ Some bytes → IsCoveredFrom (length w) [] size (w ++ bytes)
    by true e g = let empty = ap length (some_same [] bytes g) in record {
      once = λ k from lt. absurd (omega (arith, eqb-true _ _ e, from, lt));
      within = All-nil (λ (q : Piece). q.0 + length q.1 ≤ size);
      len = omega (arith, eqb-true _ _ e, length-append w bytes, empty);
      bytes = All-nil (λ (q : Piece). take (length q.1) (drop q.0 (w ++ bytes)) ≡ q.1);
    }
    by false e g = absurd (none_differs bytes g)
covers_from w size (p ∷ ps) bytes a h = by (p.0 == length w) refl (joined (length w + length p.1) size ps) refl h
    (λ rest g. covers_from (w ++ p.1) size ps rest)
  where
    by : (b : Bool) → (p.0 == length w) ≡ b → (o : Option (List ℕ)) → joined (length w + length p.1) size ps ≡ o → (if b then behind p.1 o else None) ≡ Some bytes
        → ((rest : List ℕ) → o ≡ Some rest → StandApart (length (w ++ p.1)) ps → joined (length (w ++ p.1)) size ps ≡ Some rest → IsCoveredFrom (length (w ++ p.1)) ps size ((w ++ p.1) ++ rest))
        → IsCoveredFrom (length w) (p ∷ ps) size (w ++ bytes)
    by true e (Some rest) is g later =
        let at = eqb-true _ _ e in
        let long : length (w ++ p.1) ≡ length w + length p.1 = length-append w p.1 in
        let ended : StandApart (length (w ++ p.1)) ps = subst (λ (n : ℕ). StandApart n ps) (omega (arith, at, long)) a.2 in
        let rested : joined (length (w ++ p.1)) size ps ≡ Some rest = ap (λ n. joined n size ps) long ∙ is in
        subst (λ (t : List ℕ). IsCoveredFrom (length w) (p ∷ ps) size (w ++ t)) (some_same (p.1 ++ rest) bytes g) (covers_more w size p ps rest at a.2 (later rest refl ended rested))
    by true e None is g later = absurd (none_differs bytes g)
    by false e o is g later = absurd (none_differs bytes g)

-- ---- and back

no_one : (n : ℕ) → n ≡ 0 → n ≡ 1 → ⊥
no_one n e g = omega (arith, e, g)

-- a content that is covered from the length of its front on is that front, and the pieces joined
joins_from : (w : List ℕ) (size : ℕ) (ps : List Piece) (bytes : List ℕ) → StandApart (length w) ps → IsCoveredFrom (length w) ps size (w ++ bytes) → joined (length w) size ps ≡ Some bytes
joins_from w size [] bytes a c = by (cases_lt (length w) size)
  where
    empty : (b : List ℕ) → length b ≡ 0 → Some [] ≡ Some b
    empty [] e = refl
    empty (x ∷ b) e = absurd (omega (arith, e))

    by : (length w < size) ⊎ (size ≤ length w) → joined (length w) size [] ≡ Some bytes
    by (inl lt) = absurd (no_one 0 refl (c.once (length w) (omega arith) lt))
    by (inr le) =
        let long = length-append w bytes in
        let len = c.len in
        ap (λ b. if b then Some [] else None) (eq-eqb (length w) size (omega (arith, le, long, len))) ∙ empty bytes (omega (arith, le, long, len))
joins_from w size (p ∷ ps) bytes a c = by (cases_lt (length w) p.0) (joins_from (w ++ p.1) size ps (drop (length p.1) bytes))
  where
    ends : p.0 + length p.1 ≤ size
    ends = All-head (λ (q : Piece). q.0 + length q.1 ≤ size) p ps c.within

    begins : length w ≤ p.0
    begins = a.0

    some_there : 0 < length p.1
    some_there = a.1

    -- the front of what is left is the piece
    front : p.0 ≡ length w → p.1 ++ drop (length p.1) bytes ≡ bytes
    front is =
        let there : take (length p.1) (drop p.0 (w ++ bytes)) ≡ p.1 = All-head (λ (q : Piece). take (length q.1) (drop q.0 (w ++ bytes)) ≡ q.1) p ps c.bytes in
        let here : take (length p.1) bytes ≡ p.1 = ap (λ t. take (length p.1) t) (sym (drop_at w bytes p.0 (sym is))) ∙ there in
        ap (λ t. t ++ drop (length p.1) bytes) (sym here) ∙ take-append-drop (length p.1) bytes

    left : p.0 ≡ length w → IsCoveredFrom (length (w ++ p.1)) ps size ((w ++ p.1) ++ drop (length p.1) bytes)
    left is =
        let same : (w ++ p.1) ++ drop (length p.1) bytes ≡ w ++ bytes = append_assoc w p.1 (drop (length p.1) bytes) ∙ ap (λ t. w ++ t) (front is) in
        subst (λ (t : List ℕ). IsCoveredFrom (length (w ++ p.1)) ps size t) (sym same) (record {
          once = λ k from lt. ap length (sym (first_hasnt p ps k (omega (arith, from, is, length-append w p.1)))) ∙ c.once k (omega (arith, from, length-append w p.1)) lt;
          within = All-tail (λ (q : Piece). q.0 + length q.1 ≤ size) p ps c.within;
          len = c.len;
          bytes = All-tail (λ (q : Piece). take (length q.1) (drop q.0 (w ++ bytes)) ≡ q.1) p ps c.bytes;
        })

    by : (length w < p.0) ⊎ (p.0 ≤ length w)
        → (StandApart (length (w ++ p.1)) ps → IsCoveredFrom (length (w ++ p.1)) ps size ((w ++ p.1) ++ drop (length p.1) bytes) → joined (length (w ++ p.1)) size ps ≡ Some (drop (length p.1) bytes))
        → joined (length w) size (p ∷ ps) ≡ Some bytes
    by (inl lt) later =
        let none : filter (has_place (length w)) (p ∷ ps) ≡ [] = none_before p.0 (p ∷ ps) (length w) (omega arith, some_there, a.2) lt in
        absurd (no_one _ (ap length none) (c.once (length w) (omega arith) (omega (arith, ends, some_there, lt))))
    by (inr le) later =
        let is : p.0 ≡ length w = omega (arith, begins, le) in
        let long : length (w ++ p.1) ≡ length w + length p.1 = length-append w p.1 in
        let ended : StandApart (length (w ++ p.1)) ps = subst (λ (n : ℕ). StandApart n ps) (omega (arith, is, long)) a.2 in
        ap (λ b. if b then behind p.1 (joined (length w + length p.1) size ps) else None) (eq-eqb p.0 (length w) is)
        ∙ ap (λ n. behind p.1 (joined n size ps)) (sym long)
        ∙ ap (λ o. behind p.1 o) (later ended (left is))
        ∙ ap Some (front is)

-- ---- from the front on

covered : (pieces : List Piece) (size : ℕ) (content : List ℕ) → StandApart 0 pieces → joined 0 size pieces ≡ Some content → IsCovered pieces size content
covered pieces size content a h =
    let c = covers_from [] size pieces content a h in
    record { once = λ at lt. c.once at (omega arith) lt; within = c.within; len = c.len; bytes = c.bytes }

joins : (pieces : List Piece) (size : ℕ) (content : List ℕ) → StandApart 0 pieces → IsCovered pieces size content → joined 0 size pieces ≡ Some content
joins pieces size content a c = joins_from [] size pieces content a (record { once = λ k from lt. c.once k lt; within = c.within; len = c.len; bytes = c.bytes })

-- what the pieces come to, joined
comes_to : (pieces : List Piece) (size : ℕ) → StandApart 0 pieces → ComesTo pieces size (joined 0 size pieces)
comes_to pieces size a = by (joined 0 size pieces) refl
  where
    by : (o : Option (List ℕ)) → joined 0 size pieces ≡ o → ComesTo pieces size o
    by None is = λ content c. none_differs content (sym is ∙ joins pieces size content a c)
    by (Some content) is = covered pieces size content a is

-- the same of what is the pieces, joined
pub comes_if : (pieces : List Piece) (size : ℕ) (o : Option (List ℕ)) → StandApart 0 pieces → o ≡ joined 0 size pieces → ComesTo pieces size o
comes_if pieces size o a h = subst (λ (x : Option (List ℕ)). ComesTo pieces size x) (sym h) (comes_to pieces size a)
