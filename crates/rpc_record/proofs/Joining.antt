-- One fragment after the other makes the record.
use Rattle.std.proofs.Common.{◌≡◌, ℕ, zero, suc, ◌+◌, ◌≤◌, min, List, [], ◌++◌, length, take, drop, Bool, true, false, Some, None, sym, ap, ◌∙◌, subst, arith}
use Rattle.std.proofs.lemmas.List.{length-drop}
use Rattle.limits.specs.declared.TheConstants.{FRAGMENTS_MOST}
use Rattle.rpc_record.specs.declared.fragments.Header.{Header}
use Rattle.rpc_record.specs.Records.{header_of, Whole, Begun, front, record_of, HasRecord}
use Rattle.rpc_record.specs.Progress.{Joins}
use Rattle.rpc_record.proofs.Fronts.{front_none, front_out, front_big, front_short, front_last, front_more, big, short, last, more, shape, append_none}

-- what a fragment does to the contents that were joined
pub record Adds (h : Header) (bytes contents left : List ℕ) : Type 0 where
  pub long : 4 + h.len ≤ length left
  pub ends : h.last ≡ true → HasRecord bytes (contents ++ take h.len (drop 4 left))
  pub goes : h.last ≡ false → Joins bytes (contents ++ take h.len (drop 4 left)) (drop h.len (drop 4 left))

true_false : {A : Type 0} (b : Bool) → b ≡ true → b ≡ false → A
true_false true e f = absurd cc
true_false false e f = absurd cc

joins_by : (n : ℕ) (h : Header) (bytes contents left whole after : List ℕ) → front n contents left ≡ record_of bytes → record_of bytes ≡ Whole whole after → header_of left ≡ Some h → Adds h bytes contents left
joins_by zero h bytes contents left whole after same is e = let bad = front_out contents left h e in absurd cc
joins_by (suc n) h bytes contents left whole after same is e =
    elim (shape h contents left) [
      | big lt ↦ let bad = sym plain ∙ front_big (suc n) contents left [] h e lt in absurd cc
      | short le lt ↦ let bad = front_short n contents left h e le lt in absurd cc
      | last le long true_is ↦ record {
        long = long;
        ends = λ _. (drop h.len (drop 4 left) ++ [], sym same ∙ sym plain ∙ front_last n contents left [] h e le long true_is);
        goes = λ false_is. true_false h.last true_is false_is;
      }
      | more le long false_is ↦ record {
        long = long;
        ends = λ true_is. true_false h.last true_is false_is;
        goes = λ _. record {
          more = n;
          is = ap (λ (z : List ℕ). front n (contents ++ take h.len (drop 4 left)) z) (sym (append_none (drop h.len (drop 4 left)))) ∙ sym (front_more n contents left [] h e le long false_is) ∙ plain ∙ same;
        };
      }
    ]
  where
    plain : front (suc n) contents (left ++ []) ≡ front (suc n) contents left
    plain = ap (λ (z : List ℕ). front (suc n) contents z) (append_none left)

pub joins_fragment : (h : Header) (bytes contents left : List ℕ) → (whole : List ℕ) × HasRecord bytes whole → Joins bytes contents left → header_of left ≡ Some h → Adds h bytes contents left
joins_fragment h bytes contents left w j e = joins_by j.more h bytes contents left w.0 w.1.0 j.is w.1.1 e

pub joins_start : (bytes contents : List ℕ) → contents ≡ [] → Joins bytes contents bytes
unfolding record_of
joins_start bytes contents e = record { more = FRAGMENTS_MOST; is = ap (λ (z : List ℕ). front FRAGMENTS_MOST z bytes) e }

-- a header stands before the end of a record
pub joins_none : {A : Type 0} (bytes contents left : List ℕ) → (whole : List ℕ) × HasRecord bytes whole → Joins bytes contents left → header_of left ≡ None → A
joins_none bytes contents left w j e = let begun : Whole w.0 w.1.0 ≡ Begun = sym w.1.1 ∙ sym j.is ∙ front_none j.more contents left e in absurd cc

-- the fragment's bytes, as the code takes them
pub body_is : (h : Header) (bytes contents left behind body : List ℕ) (m : ℕ) → Adds h bytes contents left → behind ≡ drop 4 left → m ≡ min h.len (length behind) → body ≡ take m behind → body ≡ take h.len (drop 4 left)
body_is h bytes contents left behind body m a behind_is m_is is =
    let len : m ≡ h.len = omega (arith, a.long, m_is, ap length behind_is, length-drop 4 left) in
    is ∙ ap (λ (n : ℕ). take n behind) len ∙ ap (take h.len) behind_is

pub after_is : (h : Header) (bytes contents left behind after : List ℕ) (m : ℕ) → Adds h bytes contents left → behind ≡ drop 4 left → m ≡ min h.len (length behind) → after ≡ drop m behind → after ≡ drop h.len (drop 4 left)
after_is h bytes contents left behind after m a behind_is m_is is =
    let len : m ≡ h.len = omega (arith, a.long, m_is, ap length behind_is, length-drop 4 left) in
    is ∙ ap (λ (n : ℕ). drop n behind) len ∙ ap (drop h.len) behind_is

pub joins_last : (h : Header) (bytes contents left behind body joined : List ℕ) (m : ℕ) → (whole : List ℕ) × HasRecord bytes whole → Joins bytes contents left → Some h ≡ header_of left
    → behind ≡ drop 4 left → m ≡ min h.len (length behind) → body ≡ take m behind → joined ≡ contents ++ body → h.last ≡ true → HasRecord bytes joined
joins_last h bytes contents left behind body joined m w j e behind_is m_is is joined_is last_is =
    let a : Adds h bytes contents left = joins_fragment h bytes contents left w j (sym e) in
    subst (HasRecord bytes) (sym (joined_is ∙ ap (λ (z : List ℕ). contents ++ z) (body_is h bytes contents left behind body m a behind_is m_is is))) (a.ends last_is)

pub joins_more : (h : Header) (bytes contents left behind body after joined : List ℕ) (m : ℕ) → (whole : List ℕ) × HasRecord bytes whole → Joins bytes contents left → Some h ≡ header_of left
    → behind ≡ drop 4 left → m ≡ min h.len (length behind) → body ≡ take m behind → after ≡ drop m behind → joined ≡ contents ++ body → h.last ≡ false → Joins bytes joined after
joins_more h bytes contents left behind body after joined m w j e behind_is m_is is after_eq joined_is last_is =
    let a : Adds h bytes contents left = joins_fragment h bytes contents left w j (sym e) in
    let k : Joins bytes joined (drop h.len (drop 4 left)) = subst (λ (z : List ℕ). Joins bytes z (drop h.len (drop 4 left))) (sym (joined_is ∙ ap (λ (z : List ℕ). contents ++ z) (body_is h bytes contents left behind body m a behind_is m_is is))) (a.goes last_is) in
    subst (λ (z : List ℕ). Joins bytes joined z) (sym (after_is h bytes contents left behind after m a behind_is m_is after_eq)) k
