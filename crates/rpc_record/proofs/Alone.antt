-- A record of one fragment, and nothing else.
use Rattle.std.proofs.Common.{◌≡◌, ℕ, ◌+◌, ◌≤◌, List, [], ◌∷◌, ◌++◌, length, take, drop, Bool, true, false, not, Some, None, refl, sym, ap, ◌∙◌, arith}
use Rattle.std.specs.Prelude.{◌==◌, IsTrue}
use Rattle.std.proofs.lemmas.Bool.{eqb-true}
use Rattle.std.proofs.lemmas.List.{length-drop, take_all, drop_all}
use Rattle.limits.specs.declared.TheConstants.{RECORD_MOST, FRAGMENTS_MOST}
use Rattle.rpc_record.specs.declared.fragments.Header.{Header}
use Rattle.rpc_record.specs.Records.{header_of, Whole, front, record_of, split}
use Rattle.rpc_record.specs.Progress.{IsAlone}
use Rattle.rpc_record.proofs.Fronts.{header_long, front_last, append_none}
use Rattle.rpc_record.proofs.lemmas.Splitting.{split_whole}

pub alone_is : (bytes : List ℕ) (h : Header) → header_of bytes ≡ Some h → h.last ≡ true → h.len ≤ RECORD_MOST → length bytes ≡ 4 + h.len → IsAlone bytes
unfolding record_of
alone_is bytes h e last le len =
    let long : 4 ≤ length bytes = header_long bytes h e in
    let behind : length (drop 4 bytes) ≡ h.len = omega (arith, len, length-drop 4 bytes) in
    let whole : front FRAGMENTS_MOST [] (bytes ++ []) ≡ Whole (take h.len (drop 4 bytes)) (drop h.len (drop 4 bytes) ++ []) = front_last 1023 [] bytes [] h e (omega (arith, le)) (omega (arith, len)) last in (
      long,
      ap record_of (sym (append_none bytes)) ∙ whole
          ∙ ap (λ (z : List ℕ). Whole z (drop h.len (drop 4 bytes) ++ [])) (take_all h.len (drop 4 bytes) (omega (arith, behind)))
          ∙ ap (λ (z : List ℕ). Whole (drop 4 bytes) z) (append_none (drop h.len (drop 4 bytes)) ∙ drop_all h.len (drop 4 bytes) (omega (arith, behind))),
    )

-- as the code tests it
pub alone_found : (bytes : List ℕ) (h : Header) → header_of bytes ≡ Some h → not h.last ≡ false → h.len ≤ RECORD_MOST → IsTrue (length bytes == 4 + h.len) → IsAlone bytes
alone_found bytes h e last le same = alone_is bytes h e (is_last h.last last) le (eqb-true _ _ same)
  where
    is_last : (b : Bool) → not b ≡ false → b ≡ true
    is_last true p = refl
    is_last false p = absurd cc

pub alone_split : (bytes : List ℕ) → IsAlone bytes → split bytes ≡ record { records = drop 4 bytes ∷ []; rest = []; spoilt = None }
alone_split bytes a = split_whole bytes (drop 4 bytes) [] a.1

-- as the code takes it off
pub alone_taken : (bytes contents left : List ℕ) (records : List (List ℕ)) → IsAlone bytes → contents ≡ drop 4 bytes → records ≡ contents ∷ [] → left ≡ [] → split bytes ≡ record { records = records; rest = left; spoilt = None }
alone_taken bytes contents left records a contents_is records_is left_is =
    alone_split bytes a
    ∙ ap (λ (rs : List (List ℕ)). record { records = rs; rest = []; spoilt = None }) (sym (records_is ∙ ap (λ (z : List ℕ). z ∷ []) contents_is))
    ∙ ap (λ (z : List ℕ). record { records = records; rest = z; spoilt = None }) (sym left_is)
