-- What a listing told, at one place of it.
use Rattle.std.proofs.Common.{◌≡◌, sym, ap, ◌∙◌, ℕ, suc, ◌+◌, ◌<◌, List, ◌∷◌, ◌++◌, length, drop, get_or, Bool, true, cond, Option, arith}
use Rattle.std.specs.Prelude.{slice_get, bytes_eq}
use Rattle.std.proofs.Math.Seq.{drop-cons}
use Rattle.std.proofs.lemmas.List.{append_assoc}
use Rattle.shell_walks.specs.Tasks.{known, get_more, get_tasks}
use Rattle.shell_walks.specs.declared.tasks.Storing.{Storing}
use Rattle.shell_walks.specs.declared.tasks.Task.{Task}

one_more : (n : ℕ) → suc n ≡ n + 1
one_more n = omega arith

at_place : (names : List (List ℕ)) (at : ℕ) (name : List ℕ) → at < length names → name ≡ get_or names at name → drop at names ≡ name ∷ drop (at + 1) names
at_place names at name within is = drop-cons names at name within ∙ ap (λ (x : List ℕ). x ∷ drop (suc at) names) (sym is) ∙ ap (λ (k : ℕ). name ∷ drop k names) (one_more at)

-- a name that stands there
pub known_here : (s : Storing) (ids : List ℕ) (at : ℕ) (names : List (List ℕ)) (name other : List ℕ) (id : Option ℕ) → at < length names → other ≡ get_or names at other → bytes_eq other name ≡ true → id ≡ slice_get ids at → known s ids at (drop at names) name ≡ known s ids 0 names name → record s { id = id } ≡ known s ids 0 names name
known_here s ids at names name other id within is same told so =
    ap (λ (x : Option ℕ). record s { id = x }) told
    ∙ sym (ap (λ (l : List (List ℕ)). known s ids at l name) (at_place names at other within is) ∙ ap (λ (b : Bool). cond b (record s { id = slice_get ids at }) (known s ids (at + 1) (drop (at + 1) names) name)) same)
    ∙ so

-- the task of the name that stands there
pub gets_on : (path : List (List ℕ)) (local : List ℕ) (ids : List ℕ) (at : ℕ) (names : List (List ℕ)) (name shown : List ℕ) (id : Option ℕ) (before after : List Task) → at < length names → name ≡ get_or names at name → shown ≡ name → id ≡ slice_get ids at → after ≡ before ++ get_more path local id shown → before ++ get_tasks path local ids at (drop at names) ≡ get_tasks path local ids 0 names → after ++ get_tasks path local ids (at + 1) (drop (at + 1) names) ≡ get_tasks path local ids 0 names
gets_on path local ids at names name shown id before after within is same told e so =
    let rest : List Task = get_tasks path local ids (at + 1) (drop (at + 1) names) in
    ap (λ (l : List Task). l ++ rest) e
    ∙ append_assoc before (get_more path local id shown) rest
    ∙ ap (λ (n : List ℕ). before ++ (get_more path local id n ++ rest)) same
    ∙ ap (λ (i : Option ℕ). before ++ (get_more path local i name ++ rest)) told
    ∙ sym (ap (λ (l : List (List ℕ)). before ++ get_tasks path local ids at l) (at_place names at name within is))
    ∙ so
