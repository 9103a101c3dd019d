-- Records told apart, and what logs say of them.
use Rattle.std.proofs.Common.{◌≡◌, ◌⊎◌, inl, inr, ℕ, ◌==◌, ◌++◌, Bool, true, false, if◌then◌else◌, List, [], ◌∷◌, Option, Some, None, refl, sym, ◌∙◌, ap, ap₂, subst, true≢false, arith}
use Rattle.std.proofs.lemmas.Bool.{cases_eq}
use Rattle.std.proofs.lemmas.Bool.Decides.{nat_tests}
use Rattle.log_store.specs.Names.{same_which, is_among}
use Rattle.log_store.specs.Lines.{Log, Records, over, latest, task_of, all_lines, names, lines_of, task_by, is_large, is_large_what, is_clear, larges}
use Rattle.log_store.specs.Disk.{Disk}
use Rattle.log_store.specs.Sound.{IsSound, moves}
use Rattle.log_store.specs.Making.{Covers}
use Rattle.log_store.specs.declared.edit.Edit.{Edit}
use Rattle.log_store.specs.declared.edit.What.{What}
use Rattle.log_store.specs.declared.edit.What.TheVariants as what
use Rattle.log_store.specs.declared.edit.Line.{Line}
use Rattle.log_store.specs.declared.edit.Task.{Task}
use Rattle.log_store.specs.declared.which.Which.{Which}
use Rattle.log_store.specs.declared.which.Which.TheVariants as which

same_nat : (n m : ℕ) → (n == m) ≡ true → n ≡ m
same_nat n m is = grind (arith, nat_tests)

pub is_same : (n m : Which) → same_which n m ≡ true → n ≡ m
is_same which.Head which.Head is = refl
is_same which.Head (which.Node m) is = absurd (true≢false (sym is))
is_same which.Head (which.Content m) is = absurd (true≢false (sym is))
is_same (which.Node n) which.Head is = absurd (true≢false (sym is))
is_same (which.Node n) (which.Node m) is = ap (λ (k : ℕ). which.Node k) (same_nat n m is)
is_same (which.Node n) (which.Content m) is = absurd (true≢false (sym is))
is_same (which.Content n) which.Head is = absurd (true≢false (sym is))
is_same (which.Content n) (which.Node m) is = absurd (true≢false (sym is))
is_same (which.Content n) (which.Content m) is = ap (λ (k : ℕ). which.Content k) (same_nat n m is)

nat_self : (n : ℕ) → (n == n) ≡ true
nat_self n = grind (arith, nat_tests)

pub self : (n : Which) → same_which n n ≡ true
self which.Head = refl
self (which.Node n) = nat_self n
self (which.Content n) = nat_self n

-- one record or two
pub same_or_not : (n m : Which) → (n ≡ m) ⊎ (same_which n m ≡ false)
same_or_not n m = by (same_which n m) refl
  where
    by : (b : Bool) → same_which n m ≡ b → (n ≡ m) ⊎ (same_which n m ≡ false)
    by true is = inl (is_same n m is)
    by false is = inr is

pub over_none : (t : Option Task) → over t None ≡ t
over_none None = refl
over_none (Some t) = refl

pub over_over : (a b c : Option Task) → over a (over b c) ≡ over (over a b) c
over_over None b c = refl
over_over (Some t) b c = refl

-- lines behind others
pub latest_append : (xs ys : List Line) (n : Which) → latest (xs ++ ys) n ≡ over (latest ys n) (latest xs n)
latest_append [] ys n = sym (over_none (latest ys n))
latest_append (x ∷ xs) ys n =
    let here : Option Task = if same_which n x.which then Some x.task else None in
    ap (λ (t : Option Task). over t here) (latest_append xs ys n) ∙ sym (over_over (latest ys n) (latest xs n) here)

-- what is said entry by entry is said by all lines
pub all_say : (l : Log) (n : Which) → latest (all_lines l) n ≡ task_of l n
all_say [] n = refl
all_say (e ∷ es) n = latest_append e (all_lines es) n ∙ ap (λ (t : Option Task). over t (latest e n)) (all_say es n)

-- an entry behind others
pub says_append : (l : Log) (e : List Line) (n : Which) → task_of (l ++ e ∷ []) n ≡ over (latest e n) (task_of l n)
says_append [] e n = sym (over_none (latest e n))
says_append (x ∷ l) e n = ap (λ (t : Option Task). over t (latest x n)) (says_append l e n) ∙ sym (over_over (latest e n) (task_of l n) (latest x n))

is_some : Option Task → Type 0
is_some None = ⊥
is_some (Some t) = Unit {0}

pub some_not_none : (o : Option Task) (t : Task) → o ≡ Some t → o ≡ None → ⊥
unfolding is_some
some_not_none o t is none = subst is_some (sym is ∙ none) tt

-- a record of which no line is
not_named_by : (x : Line) (xs : List Line) (n : Which) → (names xs n ≡ false → latest xs n ≡ None) → names (x ∷ xs) n ≡ false → (b : Bool) → same_which n x.which ≡ b → latest (x ∷ xs) n ≡ None
not_named_by x xs n later is true at = absurd (true≢false (sym (ap (λ (b : Bool). if b then true else names xs n) at) ∙ is))
not_named_by x xs n later is false at =
    let rest : names xs n ≡ false = sym (ap (λ (b : Bool). if b then true else names xs n) at) ∙ is in
    ap₂ over (later rest) (ap (λ (b : Bool). if b then Some x.task else None) at)

pub not_named : (xs : List Line) (n : Which) → names xs n ≡ false → latest xs n ≡ None
not_named [] n is = refl
not_named (x ∷ xs) n is = not_named_by x xs n (not_named xs n) is (same_which n x.which) refl

named_by : (x : Line) (xs : List Line) (n : Which) → (names xs n ≡ true → (t : Task) × (latest xs n ≡ Some t)) → names (x ∷ xs) n ≡ true
    → (b : Bool) → same_which n x.which ≡ b → (o : Option Task) → latest xs n ≡ o → (t : Task) × (latest (x ∷ xs) n ≡ Some t)
named_by x xs n later is true at None e = (x.task, ap₂ over e (ap (λ (b : Bool). if b then Some x.task else None) at))
named_by x xs n later is true at (Some t) e = (t, ap (λ (o : Option Task). over o (if same_which n x.which then Some x.task else None)) e)
named_by x xs n later is false at o e =
    let rest : names xs n ≡ true = sym (ap (λ (b : Bool). if b then true else names xs n) at) ∙ is in
    let found = later rest in
    (found.0, ap (λ (o : Option Task). over o (if same_which n x.which then Some x.task else None)) found.1)

pub named : (xs : List Line) (n : Which) → names xs n ≡ true → (t : Task) × (latest xs n ≡ Some t)
named [] n is = absurd (true≢false (sym is))
named (x ∷ xs) n is = named_by x xs n (named xs n) is (same_which n x.which) refl (latest xs n) refl

pub at_front : (x : Line) (xs : List Line) → latest xs x.which ≡ None → latest (x ∷ xs) x.which ≡ Some x.task
at_front x xs none = ap₂ over none (ap (λ (b : Bool). if b then Some x.task else None) (self x.which))

pub behind : (x : Line) (xs : List Line) (n : Which) → same_which n x.which ≡ false → latest (x ∷ xs) n ≡ latest xs n
behind x xs n ne = ap (λ (o : Option Task). over (latest xs n) o) (ap (λ (b : Bool). if b then Some x.task else None) ne) ∙ over_none (latest xs n)

among_step : (a b : Bool) → (if a then true else b) ≡ false → (a ≡ false) × (b ≡ false)
among_step true b is = absurd (true≢false is)
among_step false b is = (refl, is)

among_join : (a b : Bool) → a ≡ false → b ≡ false → (if a then true else b) ≡ false
among_join true b is bs = is
among_join false b is bs = bs

pub among_front : (n : Which) (xs ys : List Which) → is_among n (xs ++ ys) ≡ false → is_among n xs ≡ false
among_front n [] ys is = refl
among_front n (x ∷ xs) ys is =
    let parts = among_step (same_which n x) (is_among n (xs ++ ys)) is in
    among_join (same_which n x) (is_among n xs) parts.0 (among_front n xs ys parts.1)

pub among_back : (n : Which) (xs ys : List Which) → is_among n (xs ++ ys) ≡ false → is_among n ys ≡ false
among_back n [] ys is = is
among_back n (x ∷ xs) ys is = among_back n xs ys (among_step (same_which n x) (is_among n (xs ++ ys)) is).1

-- a record of no large edit moves no new file
larges_here : (w : What) (b : Bool) → is_large_what w ≡ false → moves (if b then Some (task_by w) else None) ≡ false
larges_here (what.Put p) true is = refl
larges_here (what.Large p) true is = absurd (true≢false is)
larges_here what.Goes true is = refl
larges_here w false is = refl

moves_over : (t u : Option Task) → moves t ≡ false → moves u ≡ false → moves (over t u) ≡ false
moves_over None u a b = b
moves_over (Some t) u a b = a

larges_by : (n : Which) (e : Edit) (es : List Edit) → (is_among n (larges es) ≡ false → moves (latest (lines_of es) n) ≡ false) → (b : Bool) → is_large e ≡ b
    → is_among n (if b then e.which ∷ larges es else larges es) ≡ false → moves (latest (lines_of (e ∷ es)) n) ≡ false
larges_by n e es later true at is =
    let parts = among_step (same_which n e.which) (is_among n (larges es)) is in
    moves_over (latest (lines_of es) n) (if same_which n e.which then Some (task_by e.what) else None) (later parts.1) (ap (λ (b : Bool). moves (if b then Some (task_by e.what) else None)) parts.0)
larges_by n e es later false at is =
    moves_over (latest (lines_of es) n) (if same_which n e.which then Some (task_by e.what) else None) (later is) (larges_here e.what (same_which n e.which) at)

pub no_large_moves : (n : Which) (edits : List Edit) → is_among n (larges edits) ≡ false → moves (latest (lines_of edits) n) ≡ false
no_large_moves n [] is = refl
no_large_moves n (e ∷ es) is = larges_by n e es (no_large_moves n es) (is_large e) refl is

pub covers : (pending more : List Which) (edits : List Edit) → more ≡ pending ++ larges edits → Covers pending edits more
covers pending more edits is n no_one =
    let joined : is_among n (pending ++ larges edits) ≡ false = ap (is_among n) (sym is) ∙ no_one in
    (among_front n pending (larges edits) joined, no_large_moves n edits (among_back n pending (larges edits) joined))

clear_nothing : (b c : Bool) → c ≡ true → (if b then (if false then false else c) else c) ≡ true
clear_nothing true c is = is
clear_nothing false c is = is

pub all_clear : (edits : List Edit) → is_clear edits [] ≡ true
all_clear [] = refl
all_clear (e ∷ es) = clear_nothing (is_large e) (is_clear es []) (all_clear es)

-- a longer list of what is pending does as well
pub sound_more : (records : Records) (past : List Records) (pending more : List Which) (d : Disk) → ((n : Which) → is_among n more ≡ false → is_among n pending ≡ false) → IsSound records past pending d → IsSound records past more d
sound_more records past pending more d fewer s = record {
  seen = s.seen;
  whole = s.whole;
  each = s.each;
  free = λ n is. s.free n (fewer n is);
  free_left = λ c l left n is. s.free_left c l left n (fewer n is);
}
