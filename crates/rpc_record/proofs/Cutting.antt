-- One record after the other is cut off.
use Rattle.std.proofs.Common.{◌≡◌, ℕ, ◌+◌, ◌≤◌, List, [], ◌∷◌, ◌++◌, length, drop, Some, None, sym, ap, ◌∙◌, arith, append_assoc}
use Rattle.std.proofs.lemmas.List.{length-drop, drop-drop, drop_all, append-nil}
use Rattle.rpc_record.specs.declared.refusal.Refusal.{Refusal}
use Rattle.rpc_record.specs.Records.{Whole, Begun, Bad, record_of, Parts, split, HasRecord}
use Rattle.rpc_record.specs.Progress.{EndsAt}
use Rattle.rpc_record.proofs.lemmas.Splitting.{with_records, split_whole, split_begun, split_bad}

pub contents_are : (a b c d : List ℕ) → Whole a b ≡ Whole c d → a ≡ c
contents_are a b c d e = cc

-- what is cut so far, and the bytes left
pub record Cuts (bytes : List ℕ) (records : List (List ℕ)) (used : ℕ) (left : List ℕ) : Type 0 where
  pub left_is : left ≡ drop used bytes
  pub within : used ≤ length bytes
  pub parts : split bytes ≡ with_records records (split left)

pub cuts_more : (bytes left left' : List ℕ) (used end : ℕ) (records records' : List (List ℕ)) (contents : List ℕ)
    → Cuts bytes records used left → EndsAt left end → HasRecord left contents → left' ≡ drop end left → records' ≡ records ++ contents ∷ [] → Cuts bytes records' (used + end) left'
cuts_more bytes left left' used end records records' contents k ends has left_is records_is =
    let same : contents ≡ ends.contents = contents_are contents has.0 ends.contents (drop end left) (sym has.1 ∙ ends.is) in
    let whole : record_of left ≡ Whole contents left' = ends.is ∙ ap (λ (z : List ℕ). Whole z (drop end left)) (sym same) ∙ ap (λ (z : List ℕ). Whole contents z) (sym left_is) in
    let later : Parts = split left' in
    record {
      left_is = left_is ∙ ap (drop end) k.left_is ∙ drop-drop end used bytes;
      within = omega (arith, k.within, ends.within, ap length k.left_is, length-drop used bytes);
      parts = k.parts ∙ ap (with_records records) (split_whole left contents left' whole) ∙ ap (λ (rs : List (List ℕ)). record { records = rs; rest = later.rest; spoilt = later.spoilt }) (sym (append_assoc records (contents ∷ []) later.records) ∙ ap (λ (rs : List (List ℕ)). rs ++ later.records) (sym records_is));
    }

pub cuts_begun : (bytes left : List ℕ) (used : ℕ) (records : List (List ℕ)) → Cuts bytes records used left → record_of left ≡ Begun → split bytes ≡ record { records = records; rest = drop used bytes; spoilt = None }
cuts_begun bytes left used records k begun =
    k.parts ∙ ap (with_records records) (split_begun left begun) ∙ ap (λ (rs : List (List ℕ)). record { records = rs; rest = left; spoilt = None }) (append-nil records) ∙ ap (λ (z : List ℕ). record { records = records; rest = z; spoilt = None }) k.left_is

pub cuts_bad : (bytes left : List ℕ) (used : ℕ) (records : List (List ℕ)) (why : Refusal) (n : ℕ) → Cuts bytes records used left → record_of left ≡ Bad why → length bytes ≤ n → split bytes ≡ record { records = records; rest = drop n bytes; spoilt = Some why }
cuts_bad bytes left used records why n k bad le =
    k.parts ∙ ap (with_records records) (split_bad left why bad) ∙ ap (λ (rs : List (List ℕ)). record { records = rs; rest = []; spoilt = Some why }) (append-nil records) ∙ ap (λ (z : List ℕ). record { records = records; rest = z; spoilt = Some why }) (sym (drop_all n bytes le))
