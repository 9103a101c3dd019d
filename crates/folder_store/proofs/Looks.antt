-- Lines and records are added one by one.
use Rattle.std.proofs.Common.{◌≡◌, ℕ, List, [], ◌∷◌, ◌++◌, map, codes, string_bytes, String, Vec, Option, None, Result, Ok, Err, OnOk, refl, sym, ◌∙◌, ap, subst, length, ◌≤◌, ◌-◌, get_or, take, drop, arith}
use Rattle.std.proofs.lemmas.List.{take_all}
use Rattle.std.specs.declared.alloc.Global.{Global}
use Rattle.store.specs.declared.record.Kept.{Kept}
use Rattle.log_store.specs.declared.which.Which.{Which}
use Rattle.system_files.specs.Names.{name_of}
use Rattle.synced_store.specs.declared.checks.CheckedStore.{CheckedStore}
use Rattle.folder_store.specs.declared.found.Reading.{Reading}
use Rattle.folder_store.specs.declared.found.Reading.TheVariants as reading
use Rattle.folder_store.specs.Found.{Adds, LooksOver, IsFound, if_kept, lines_in, record_in, unless_kept}

pub texts_more : {Z : Type 0} (xs : List (String Z)) (s : String Z) → map (λ w. string_bytes w) (xs ++ s ∷ []) ≡ map (λ w. string_bytes w) xs ++ string_bytes s ∷ []
texts_more [] s = refl
texts_more (x ∷ xs) s = ap (λ l. string_bytes x ∷ l) (texts_more xs s)

pub none_more : {A : Type 0} (xs : List A) → xs ≡ xs ++ []
none_more [] = refl
none_more (x ∷ xs) = ap (λ l. x ∷ l) (none_more xs)

-- bytes that say no record
pub no_record : {E : Type 0} (result : Result (Unit {0}) E) (w : Which) (name : List ℕ) (r : Reading) (v : Vec ℕ Global) (o : Option Kept) (old new : CheckedStore)
    → r ≡ reading.Bytes v → o ≡ record_in w v.items → o ≡ None → OnOk result (new.records ≡ old.records) → OnOk result (lines_in new ≡ lines_in old ++ (name ++ codes ": " ++ codes "holds no record (was it cut?)") ∷ []) → OnOk result (Adds w name r old new)
no_record (Ok u) w name r v o old new is by none records lines =
    let gone : record_in w v.items ≡ None = sym by ∙ none in
    subst (λ (q : Reading). Adds w name q old new) (sym is) (
      ap (λ (q : Vec Kept Global). q.items) records ∙ none_more old.records.items ∙ ap (λ (q : Option Kept). old.records.items ++ if_kept q) (sym gone),
      lines ∙ ap (λ (q : Option Kept). lines_in old ++ unless_kept q (name ++ codes ": " ++ codes "holds no record (was it cut?)")) (sym gone),
    )
no_record (Err e) w name r v o old new is by none records lines = tt

first_of : (ws : List Which) (d : Which) → 1 ≤ length ws → ws ≡ get_or ws 0 d ∷ take (length ws - 1) (drop 1 ws)
first_of [] d le = absurd (omega arith)
first_of (w ∷ ws) d le = ap (λ (l : List Which). w ∷ l) (sym (take_all (length (w ∷ ws) - 1) ws (omega arith)))

-- a record more in front of those that are looked over
pub looks_on : {E : Type 0} (result : Result (Unit {0}) E) (ws : List Which) (d : Which) (old mid new : CheckedStore)
    → 1 ≤ length ws → ((r : Reading) × Adds (get_or ws 0 d) (name_of (get_or ws 0 d)) r old mid) → OnOk result (LooksOver (take (length ws - 1) (drop 1 ws)) mid new) → OnOk result (LooksOver ws old new)
looks_on (Ok u) ws d old mid new le one rest = subst (λ (l : List Which). LooksOver l old new) (sym (first_of ws d le)) (mid, one, rest)
looks_on (Err e) ws d old mid new le one rest = tt

pub found_by : (ws : List Which) (first found : CheckedStore) → first.records.items ≡ [] → LooksOver ws first found → IsFound found
found_by ws first found none looks = (ws, first, none, looks)
