-- The lines of an entry are read as they were written.
use Rattle.std.proofs.Common.{◌≡◌, ℕ, zero, suc, ◌+◌, ◌<◌, ◌≤◌, ◌^◌, ◌++◌, Bool, true, false, if◌then◌else◌, List, [], ◌∷◌, length, take, drop, get_or, ◌==◌, true≢false, Option, Some, None, nat_lt, refl, sym, ◌∙◌, ap, ap₂, subst, arith}
use Rattle.std.proofs.lemmas.Bool.Decides.{nat_tests}
use Rattle.std.proofs.lemmas.Nat.{from_be_bytes-to_be_bytes_8}
use Rattle.std.specs.Int.{w64, to_be_bytes, from_be_bytes}
use Rattle.log_store.specs.Lines.{bytes_of, task_by, lines_of}
use Rattle.log_store.specs.Entries.{letter_of, id_of, line_front, line_bytes, entry_bytes, which_in, task_in, line_by, word_in, line_in, size_by, count_of, AreWords}
use Rattle.log_store.specs.declared.edit.Edit.{Edit}
use Rattle.log_store.specs.declared.edit.Parts.{Parts}
use Rattle.log_store.specs.declared.edit.Line.{Line}
use Rattle.log_store.specs.declared.edit.Task.{Task}
use Rattle.log_store.specs.declared.edit.Task.TheVariants as task
use Rattle.log_store.specs.declared.edit.What.{What}
use Rattle.log_store.specs.declared.edit.What.TheVariants as what
use Rattle.log_store.specs.declared.which.Which.{Which}
use Rattle.log_store.specs.declared.which.Which.TheVariants as which

joined : {A : Type 0} (a b c : List A) → (a ++ b) ++ c ≡ a ++ (b ++ c)
joined [] b c = refl
joined (x ∷ a) b c = ap (λ ys. x ∷ ys) (joined a b c)

pub take_front : (a b : List ℕ) → take (length a) (a ++ b) ≡ a
take_front [] b = refl
take_front (x ∷ a) b = ap (λ (ys : List ℕ). x ∷ ys) (take_front a b)

pub drop_front : (a b : List ℕ) → drop (length a) (a ++ b) ≡ b
drop_front [] b = refl
drop_front (x ∷ a) b = drop_front a b

length_front : (a b : List ℕ) → length a ≤ length (a ++ b)
length_front [] b = omega arith
length_front (x ∷ a) b = let rest : length a ≤ length (a ++ b) = length_front a b in omega (arith, rest)

not_less : (n m : ℕ) → m ≤ n → nat_lt n m ≡ false
not_less n m le = grind (arith, nat_tests, le)

which_read : (w : Which) (k : ℕ) → k ≡ id_of w → which_in (letter_of w) k ≡ Some w
which_read which.Head k is = refl
which_read (which.Node id) k is = ap (λ (n : ℕ). Some (which.Node n)) is
which_read (which.Content id) k is = ap (λ (n : ℕ). Some (which.Content n)) is

-- bytes that a front stands before
module _ (sign : ℕ) (w : Which) (count : ℕ) (rest : List ℕ) (id_fits : id_of w < 2 ^ 64) (fits : count < 2 ^ 64) where
  long : nat_lt (length (line_front sign w count ++ rest)) 18 ≡ false
  long = not_less (length (line_front sign w count ++ rest)) 18 (omega arith)

  pub front_read : (t : Task) → task_in sign count rest ≡ Some t → line_in (line_front sign w count ++ rest) ≡ Some (record { which = w; task = t })
  front_read t says =
      ap (λ (b : Bool). if b then None else line_by (which_in (letter_of w) (from_be_bytes w64 (to_be_bytes w64 (id_of w)))) (task_in sign (from_be_bytes w64 (to_be_bytes w64 count)) rest)) long
      ∙ ap₂ line_by (which_read w (from_be_bytes w64 (to_be_bytes w64 (id_of w))) (from_be_bytes-to_be_bytes_8 (id_of w) id_fits))
      (ap (λ (n : ℕ). task_in sign n rest) (from_be_bytes-to_be_bytes_8 count fits) ∙ says)

put_read : (bytes rest : List ℕ) → task_in 43 (length bytes) (bytes ++ rest) ≡ Some (task.Put bytes)
put_read bytes rest = ap (λ (b : Bool). if b then None else Some (task.Put (take (length bytes) (bytes ++ rest)))) (not_less (length (bytes ++ rest)) (length bytes) (length_front bytes rest))
    ∙ ap (λ (xs : List ℕ). Some (task.Put xs)) (take_front bytes rest)

pub line_read : (w : Which) (t : What) (rest : List ℕ) → id_of w < 2 ^ 64 → count_of t < 2 ^ 64 → line_in (line_bytes w t ++ rest) ≡ Some (record { which = w; task = task_by t })
line_read w (what.Put p) rest a b = front_read 43 w (length (bytes_of p)) (bytes_of p ++ rest) a b (task.Put (bytes_of p)) (put_read (bytes_of p) rest)
line_read w (what.Large p) rest a b = front_read 62 w (length (bytes_of p)) rest a b (task.Moves (length (bytes_of p))) refl
line_read w what.Goes rest a b = front_read 45 w 0 rest a b task.Goes refl

pub size_read : (w : Which) (t : What) → size_by (task_by t) ≡ length (line_bytes w t)
size_read w (what.Put p) = omega arith
size_read w (what.Large p) = refl
size_read w what.Goes = refl

-- what is written one behind the other
pub front_behind : (out x y z u : List ℕ) (sign : ℕ) (w : Which) (count letter : ℕ) (i k : List ℕ) → letter ≡ letter_of w → i ≡ to_be_bytes w64 (id_of w) → k ≡ to_be_bytes w64 count
    → x ≡ out ++ sign ∷ [] → y ≡ x ++ letter ∷ [] → z ≡ y ++ i → u ≡ z ++ k → u ≡ out ++ line_front sign w count
front_behind out x y z u sign w count letter i k l a b e f g h =
    h ∙ ap (λ (t : List ℕ). t ++ k) (g ∙ ap (λ (t : List ℕ). t ++ i) (f ∙ ap (λ (t : List ℕ). t ++ letter ∷ []) e))
    ∙ joined ((out ++ sign ∷ []) ++ letter ∷ []) i k ∙ joined (out ++ sign ∷ []) (letter ∷ []) (i ++ k) ∙ joined out (sign ∷ []) (letter ∷ (i ++ k))
    ∙ ap (λ (m : ℕ). out ++ sign ∷ m ∷ (i ++ k)) l ∙ ap₂ (λ (s t : List ℕ). out ++ sign ∷ letter_of w ∷ (s ++ t)) a b

pub parts_behind : (out x y f b : List ℕ) → x ≡ out ++ f → y ≡ x ++ b → y ≡ out ++ (f ++ b)
parts_behind out x y f b is more = more ∙ ap (λ (t : List ℕ). t ++ b) is ∙ joined out f b

pub put_behind : (out x y : List ℕ) (w : Which) (t : What) (p : Parts) (n : ℕ) → t ≡ what.Put p → n ≡ length (bytes_of p) → x ≡ out ++ line_front 43 w n → y ≡ x ++ bytes_of p → y ≡ out ++ line_bytes w t
put_behind out x y w t p n is count a b =
    parts_behind out x y (line_front 43 w n) (bytes_of p) a b ∙ ap (λ (k : ℕ). out ++ (line_front 43 w k ++ bytes_of p)) count ∙ ap (λ (u : What). out ++ line_bytes w u) (sym is)

is_less : (n m : ℕ) → n < m → nat_lt n m ≡ true
is_less n m lt = grind (arith, nat_tests, lt)

-- a line from its parts
line_whole : (b : List ℕ) (w : Option Which) (t : Option Task) (k j : ℕ) → 18 ≤ length b → w ≡ which_in (get_or b 1 0) k → k ≡ word_in (drop 2 b) → t ≡ task_in (get_or b 0 0) j (drop 18 b) → j ≡ word_in (drop 10 b) → line_by w t ≡ line_in b
line_whole b w t k j le is at says count =
    let whole : Option Line = line_by (which_in (get_or b 1 0) (word_in (drop 2 b))) (task_in (get_or b 0 0) (word_in (drop 10 b)) (drop 18 b)) in
    ap₂ line_by (is ∙ ap (which_in (get_or b 1 0)) at) (says ∙ ap (λ (n : ℕ). task_in (get_or b 0 0) n (drop 18 b)) count)
    ∙ sym (ap (λ (c : Bool). if c then None else whole) (not_less (length b) 18 le))

pub line_made : (b : List ℕ) (w : Which) (t : Task) (k j : ℕ) → 18 ≤ length b → Some w ≡ which_in (get_or b 1 0) k → k ≡ word_in (drop 2 b) → Some t ≡ task_in (get_or b 0 0) j (drop 18 b) → j ≡ word_in (drop 10 b)
    → Some (record { which = w; task = t }) ≡ line_in b
line_made b w t k j le is at says count = line_whole b (Some w) (Some t) k j le is at says count

pub line_of_no_task : (b : List ℕ) (w : Which) (k j : ℕ) → 18 ≤ length b → Some w ≡ which_in (get_or b 1 0) k → k ≡ word_in (drop 2 b) → None ≡ task_in (get_or b 0 0) j (drop 18 b) → j ≡ word_in (drop 10 b) → None ≡ line_in b
line_of_no_task b w k j le is at says count = line_whole b (Some w) None k j le is at says count

pub line_of_no_record : (b : List ℕ) (k : ℕ) → 18 ≤ length b → None ≡ which_in (get_or b 1 0) k → k ≡ word_in (drop 2 b) → None ≡ line_in b
line_of_no_record b k le is at = line_whole b None (task_in (get_or b 0 0) (word_in (drop 10 b)) (drop 18 b)) k (word_in (drop 10 b)) le is at refl refl

pub line_too_short : (b : List ℕ) → length b < 18 → None ≡ line_in b
line_too_short b lt =
    let whole : Option Line = line_by (which_in (get_or b 1 0) (word_in (drop 2 b))) (task_in (get_or b 0 0) (word_in (drop 10 b)) (drop 18 b)) in
    sym (ap (λ (c : Bool). if c then None else whole) (is_less (length b) 18 lt))

long_line : (w : Which) (t : What) (rest : List ℕ) → 1 ≤ length (line_bytes w t ++ rest)
long_line w (what.Put p) rest = omega arith
long_line w (what.Large p) rest = omega arith
long_line w what.Goes rest = omega arith

none_left : (xs : List ℕ) → true ≡ (length xs == 0) → 1 ≤ length xs → ⊥
none_left xs is le = grind (arith, nat_tests, is, le)

some_left : (xs : List ℕ) → false ≡ (length xs == 0) → xs ≡ [] → ⊥
some_left xs is empty = true≢false (sym (is ∙ ap (λ (ys : List ℕ). length ys == 0) empty))

nil_behind : {A : Type 0} (xs : List A) → xs ≡ xs ++ []
nil_behind [] = refl
nil_behind (x ∷ xs) = ap (λ ys. x ∷ ys) (nil_behind xs)

pub no_lines : (edits : List Edit) (xs : List ℕ) (lines : List Line) → xs ≡ entry_bytes edits → true ≡ (length xs == 0) → lines ≡ lines ++ lines_of edits
no_lines [] xs lines is empty = nil_behind lines
no_lines (e ∷ es) xs lines is empty = absurd (none_left xs empty (subst (λ (ys : List ℕ). 1 ≤ length ys) (sym is) (long_line e.which e.what (entry_bytes es))))

is_there : Option Line → Type 0
is_there None = ⊥
is_there (Some x) = Unit {0}

value : Line → Option Line → Line
value x None = x
value x (Some y) = y

none_some : (x : Line) → ◌≡◌ {A = Option Line} None (Some x) → ⊥
unfolding is_there
none_some x e = subst is_there (sym e) tt

same_line : (x y : Line) → ◌≡◌ {A = Option Line} (Some x) (Some y) → x ≡ y
unfolding value
same_line x y e = ap (value x) e

line_of : Edit → Line
line_of e = record { which = e.which; task = task_by e.what }

-- no entry is read as none
pub not_read : (edits : List Edit) (xs : List ℕ) → AreWords edits → xs ≡ entry_bytes edits → false ≡ (length xs == 0) → line_in xs ≡ None → ⊥
unfolding line_of
not_read [] xs words is some none = some_left xs some is
not_read (e ∷ es) xs words is some none = none_some (line_of e) (sym none ∙ ap line_in is ∙ line_read e.which e.what (entry_bytes es) words.0 words.1)

-- what is left behind the first line
pub record Behind (edits : List Edit) (xs : List ℕ) (line : Line) : Type 0 where
  pub rest : List Edit
  pub words : AreWords rest
  pub bytes : drop (size_by line.task) xs ≡ entry_bytes rest
  pub lines : lines_of edits ≡ line ∷ lines_of rest
  pub le : size_by line.task ≤ length xs

behind_line : (e : Edit) (es : List Edit) (xs : List ℕ) → AreWords es → xs ≡ line_bytes e.which e.what ++ entry_bytes es → Behind (e ∷ es) xs (line_of e)
unfolding line_of
behind_line e es xs words is = record {
  rest = es;
  words = words;
  bytes = ap₂ drop (size_read e.which e.what) is ∙ drop_front (line_bytes e.which e.what) (entry_bytes es);
  lines = refl;
  le = subst (λ (k : ℕ). k ≤ length xs) (sym (size_read e.which e.what)) (subst (λ (ys : List ℕ). length (line_bytes e.which e.what) ≤ length ys) (sym is) (length_front (line_bytes e.which e.what) (entry_bytes es)));
}

pub split_off : (edits : List Edit) (xs : List ℕ) (line : Line) → AreWords edits → xs ≡ entry_bytes edits → false ≡ (length xs == 0) → line_in xs ≡ Some line → Behind edits xs line
unfolding line_of
split_off [] xs line words is some reads = absurd (some_left xs some is)
split_off (e ∷ es) xs line words is some reads =
    let same : line_of e ≡ line = same_line (line_of e) line (sym (ap line_in is ∙ line_read e.which e.what (entry_bytes es) words.0 words.1) ∙ reads) in
    subst (λ (l : Line). Behind (e ∷ es) xs l) same (behind_line e es xs words.2 is)

pub lines_on : (before mid after : List Line) (edits rest : List Edit) (line : Line) → lines_of edits ≡ line ∷ lines_of rest → mid ≡ before ++ line ∷ [] → after ≡ mid ++ lines_of rest → after ≡ before ++ lines_of edits
lines_on before mid after edits rest line is a b = b ∙ ap (λ (xs : List Line). xs ++ lines_of rest) a ∙ joined before (line ∷ []) (lines_of rest) ∙ ap (λ (xs : List Line). before ++ xs) (sym is)

pub too_long : (n m k : ℕ) → n < m → m ≡ k → k ≤ n → ⊥
too_long n m k lt is le = omega (arith, lt, is, le)
