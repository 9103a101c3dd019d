-- The names of a command that was read: each is spelt, none is a dot or two, none is long, and there are few. So are those of its walk, as far as it comes.
use Rattle.std.proofs.Common.{◌≡◌, ◌⊎◌, inl, inr, ℕ, zero, suc, ◌+◌, ◌-◌, ◌<◌, ◌≤◌, List, [], ◌∷◌, ◌++◌, length, take, drop, Some, None, Bool, true, false, not, ◌&&◌, ◌||◌, ◌==◌, refl, sym, ap, ◌∙◌, subst, arith, nat_le, if◌then◌else◌}
use Rattle.std.specs.Prelude.{codes, bytes_eq, slice_index_or}
use Rattle.std.specs.List.{AllByRecursion, list_all, list_any}
use Rattle.std.proofs.lemmas.Bool.Decides.{nat_tests}
use Rattle.tree_reading.specs.Names.{is_misspelt}
use Rattle.command_text.specs.Fields.{is_letter, is_text, is_name, name_of}
use Rattle.command_text.specs.Parts.{cut_at}
use Rattle.command_text.specs.Paths.{names_of, within_path, names_in, spot_at, spot_in, spot_of, path_of}
use Rattle.command_text.specs.Commands.{find_of, renew_of, spot_command, rename_of, list_of, look_of, path_command_of}
use Rattle.command_text.specs.declared.command.Command.{Command}
use Rattle.command_text.specs.declared.command.Command.TheVariants as command
use Rattle.command_text.specs.declared.path.PathCommand.{PathCommand}
use Rattle.command_text.specs.declared.path.PathCommand.TheVariants as path
use Rattle.command_text.specs.declared.path.Spot.{Spot}
use Rattle.trace_ends.specs.Commands.{file_of}
use Rattle.path_calls.specs.declared.walk.Goal.{Goal}
use Rattle.path_calls.specs.declared.walk.Goal.TheVariants as goal
use Rattle.path_calls.specs.declared.walk.Walk.{Walk}
use Rattle.path_calls.specs.Walk.{begun, arrives, no_pages, goal_left, calls_left}
use Rattle.kept_promise.proofs.Parsed.{Gives, gives_some, gives_none, gives_if, gives_after}
use Rattle.kept_promise.proofs.TreeWalks.{IsUndotted}

-- ---- a name

abbrev pub IsName : List ℕ → Type 0
IsName n = IsUndotted n × (length n ≤ 255) × (is_misspelt n ≡ false)

and_true : (a b : Bool) → (a && b) ≡ true → (a ≡ true) × (b ≡ true)
and_true true b e = (refl, e)
and_true false b e = absurd cc

not_true : (a : Bool) → not a ≡ true → a ≡ false
not_true true e = absurd cc
not_true false e = refl

-- no letter is a slash or the byte zero
letter_apart : (b : ℕ) → is_letter b ≡ true → ((b == 47) || (b == 0)) ≡ false
letter_apart b h = by (b == 47) refl (b == 0) refl
  where
    no_slash : is_letter 47 ≡ true → ⊥
    no_slash e = absurd cc

    no_zero : is_letter 0 ≡ true → ⊥
    no_zero e = absurd cc

    by : (x : Bool) → (b == 47) ≡ x → (y : Bool) → (b == 0) ≡ y → (x || y) ≡ false
    by true e y f = let same : b ≡ 47 = grind (arith, nat_tests, e) in absurd (no_slash (subst (λ (c : ℕ). is_letter c ≡ true) same h))
    by false e true f = let same : b ≡ 0 = grind (arith, nat_tests, f) in absurd (no_zero (subst (λ (c : ℕ). is_letter c ≡ true) same h))
    by false e false f = refl

letters_apart : (word : List ℕ) → list_all is_letter word ≡ true → list_any (λ b. (b == 47) || (b == 0)) word ≡ false
letters_apart [] h = refl
letters_apart (b ∷ bs) h =
    let both = and_true (is_letter b) (list_all is_letter bs) h in
    ap (λ (x : Bool). x || list_any (λ b. (b == 47) || (b == 0)) bs) (letter_apart b both.0) ∙ letters_apart bs both.1

text_spelt : (word : List ℕ) → is_text word ≡ true → is_misspelt word ≡ false
text_spelt word h =
    let both = and_true (not (length word == 0)) (list_all is_letter word) h in
    ap (λ (x : Bool). x || list_any (λ b. (b == 47) || (b == 0)) word) (not_true (length word == 0) both.0) ∙ letters_apart word both.1

name_named : (word : List ℕ) → Gives IsName (name_of word)
name_named word = by (is_name word) refl
  where
    by : (b : Bool) → is_name word ≡ b → Gives IsName (if b then Some word else None)
    by true e =
        let a = and_true (is_text word && nat_le (length word) 255 && not (bytes_eq word (codes "."))) (not (bytes_eq word (codes ".."))) e in
        let b = and_true (is_text word && nat_le (length word) 255) (not (bytes_eq word (codes "."))) a.0 in
        let c = and_true (is_text word) (nat_le (length word) 255) b.0 in
        let short = c.1 in
        gives_some IsName word ((not_true (bytes_eq word (codes ".")) b.1, not_true (bytes_eq word (codes "..")) a.1), grind (arith, nat_tests, short), text_spelt word c.0)
    by false e = gives_none IsName

-- ---- names

abbrev pub AreNames : List (List ℕ) → Type 0
AreNames ns = AllByRecursion IsName ns × (length ns ≤ 64)

names_named : (words : List (List ℕ)) → Gives (AllByRecursion IsName) (names_of words)
names_named [] = gives_some (AllByRecursion IsName) [] tt
names_named (w ∷ ws) = gives_after IsName (AllByRecursion IsName) (name_of w) _ (name_named w) (λ n h. gives_after (AllByRecursion IsName) (AllByRecursion IsName) (names_of ws) _ (names_named ws) (λ ns hs. gives_some (AllByRecursion IsName) (n ∷ ns) (h, hs)))

within_named : (names : List (List ℕ)) → AllByRecursion IsName names → Gives AreNames (within_path names)
within_named names all = by (nat_le (length names) 64) refl
  where
    by : (b : Bool) → nat_le (length names) 64 ≡ b → Gives AreNames (if b then Some names else None)
    by true e = gives_some AreNames names (all, grind (arith, nat_tests, e))
    by false e = gives_none AreNames

in_named : (word : List ℕ) → Gives AreNames (names_in word)
in_named word = gives_after (AllByRecursion IsName) AreNames (names_of (cut_at 47 word)) within_path (names_named (cut_at 47 word)) within_named

-- ---- a spot: the last of them, and those before it

abbrev pub IsSpot : Spot → Type 0
IsSpot s = AreNames s.dirs × IsName s.name

all_but : {A : Type 0} (P : A → Type 0) (xs : List A) (i : ℕ) → AllByRecursion P xs → AllByRecursion P (take i xs ++ drop (suc i) xs)
all_but P [] zero all = tt
all_but P [] (suc i) all = tt
all_but P (x ∷ xs) zero all = all.1
all_but P (x ∷ xs) (suc i) all = (all.0, all_but P xs i all.1)

fewer_but : {A : Type 0} (xs : List A) (i : ℕ) → length (take i xs ++ drop (suc i) xs) ≤ length xs
fewer_but [] zero = omega arith
fewer_but [] (suc i) = omega arith
fewer_but (x ∷ xs) zero = omega arith
fewer_but (x ∷ xs) (suc i) = let le = fewer_but xs i in omega (arith, le)

one_of : {A : Type 0} (P : A → Type 0) (xs : List A) (i : ℕ) (d : A) → i < length xs → AllByRecursion P xs → P (slice_index_or xs i d)
one_of P [] i d within all = absurd (omega (arith, within))
one_of P (x ∷ xs) zero d within all = all.0
one_of P (x ∷ xs) (suc i) d within all = one_of P xs i d (omega (arith, within)) all.1

in_spot : (names : List (List ℕ)) → AreNames names → Gives IsSpot (spot_in names)
in_spot [] h = gives_none IsSpot
in_spot (n ∷ ns) h =
    let few = h.1 in
    let le = fewer_but (n ∷ ns) (length (n ∷ ns) - 1) in
    gives_some IsSpot (spot_at (n ∷ ns)) ((all_but IsName (n ∷ ns) (length (n ∷ ns) - 1) h.0, omega (arith, few, le)), one_of IsName (n ∷ ns) (length (n ∷ ns) - 1) [] (omega arith) h.0)

spot_named : (word : List ℕ) → Gives IsSpot (spot_of word)
spot_named word = gives_after AreNames IsSpot (names_in word) spot_in (in_named word) in_spot

path_named : (word : List ℕ) → Gives AreNames (path_of word)
path_named word = gives_if AreNames (bytes_eq word (codes "/")) (Some []) (names_in word) (gives_some AreNames [] (tt, omega arith)) (in_named word)

-- ---- a command

abbrev pub HasNames : PathCommand → Type 0
HasNames (path.Find s) = IsSpot s
HasNames (path.Rewrite s) = IsSpot s
HasNames (path.Look s) = IsSpot s
HasNames path.LookRoot = Unit {0}
HasNames (path.List p) = AreNames p
HasNames (path.Make s) = IsSpot s
HasNames (path.MakeDir s) = IsSpot s
HasNames (path.Remove s) = IsSpot s
HasNames (path.RemoveDir s) = IsSpot s
HasNames (path.Rename s t) = IsSpot s × IsSpot t

-- its id has a number of 64 bits, or its names are names
abbrev pub IsSmall : Command → Type 0
IsSmall (command.Named k) = HasNames k
IsSmall d = file_of d < 18446744073709551616

-- its id has a number of 64 bits, or its names are names
abbrev pub IsPlain : Command → Type 0
IsPlain (command.Named k) = HasNames k
IsPlain d = file_of d < 18446744073709551616

-- it is one on names, which are such
abbrev pub IsNamed : Command → Type 0
IsNamed (command.Named k) = HasNames k
IsNamed d = ⊥

pub find_named : (word : List ℕ) → Gives IsNamed (find_of word)
find_named word = gives_after IsSpot IsNamed (spot_of word) _ (spot_named word) (λ s h. gives_some IsNamed (command.Named (path.Find s)) h)

pub renew_named : (word : List ℕ) → Gives IsNamed (renew_of word)
renew_named word = gives_after IsSpot IsNamed (spot_of word) _ (spot_named word) (λ s h. gives_some IsNamed (command.Named (path.Rewrite s)) h)

spot_command_named : (k : Spot → PathCommand) → ((s : Spot) → IsSpot s → HasNames (k s)) → (words : List (List ℕ)) → Gives IsNamed (spot_command k words)
spot_command_named k has [] = gives_none IsNamed
spot_command_named k has (word ∷ []) = gives_after IsSpot IsNamed (spot_of word) _ (spot_named word) (λ s h. gives_some IsNamed (command.Named (k s)) (has s h))
spot_command_named k has (word ∷ other ∷ words) = gives_none IsNamed

rename_named : (words : List (List ℕ)) → Gives IsNamed (rename_of words)
rename_named (from ∷ to ∷ []) = gives_after IsSpot IsNamed (spot_of from) _ (spot_named from) (λ f h. gives_after IsSpot IsNamed (spot_of to) _ (spot_named to) (λ t g. gives_some IsNamed (command.Named (path.Rename f t)) (h, g)))
rename_named _ = gives_none IsNamed

list_named : (words : List (List ℕ)) → Gives IsNamed (list_of words)
list_named (word ∷ []) = gives_after AreNames IsNamed (path_of word) _ (path_named word) (λ p h. gives_some IsNamed (command.Named (path.List p)) h)
list_named _ = gives_none IsNamed

look_named : (words : List (List ℕ)) → Gives IsNamed (look_of words)
look_named (word ∷ []) = gives_if IsNamed (bytes_eq word (codes "/")) _ _ (gives_some IsNamed (command.Named path.LookRoot) tt) (gives_after IsSpot IsNamed (spot_of word) _ (spot_named word) (λ s h. gives_some IsNamed (command.Named (path.Look s)) h))
look_named _ = gives_none IsNamed

pub path_command_named : (word : List ℕ) (words : List (List ℕ)) → Gives IsNamed (path_command_of word words)
path_command_named word words =
    gives_if IsNamed (bytes_eq word (codes "make")) _ _ (spot_command_named path.Make (λ s h. h) words)
    (gives_if IsNamed (bytes_eq word (codes "mkdir")) _ _ (spot_command_named path.MakeDir (λ s h. h) words)
    (gives_if IsNamed (bytes_eq word (codes "remove")) _ _ (spot_command_named path.Remove (λ s h. h) words)
    (gives_if IsNamed (bytes_eq word (codes "rmdir")) _ _ (spot_command_named path.RemoveDir (λ s h. h) words)
    (gives_if IsNamed (bytes_eq word (codes "rename")) _ _ (rename_named words)
    (gives_if IsNamed (bytes_eq word (codes "list")) _ _ (list_named words)
    (gives_if IsNamed (bytes_eq word (codes "look")) _ _ (look_named words) (gives_none IsNamed)))))))

-- ---- a walk

abbrev pub IsGoalNamed : Goal → Type 0
IsGoalNamed (goal.Find n) = IsName n
IsGoalNamed (goal.Rewrite n) = IsName n
IsGoalNamed (goal.Look n) = IsName n
IsGoalNamed goal.LookRoot = Unit {0}
IsGoalNamed (goal.List p) = Unit {0}
IsGoalNamed (goal.Make n) = IsName n
IsGoalNamed (goal.MakeDir n) = IsName n
IsGoalNamed (goal.Remove n) = IsName n
IsGoalNamed (goal.RemoveDir n) = IsName n
IsGoalNamed (goal.RenameFrom n to) = IsName n × IsSpot to
IsGoalNamed (goal.RenameTo dir n to) = IsName n × IsName to

-- its names are names, and of those that are left there are few
abbrev pub IsWalkNamed : Walk → Type 0
IsWalkNamed w = AreNames w.left × IsGoalNamed w.goal

pub no_names : AreNames []
no_names = (tt, omega arith)

pub arrives_named : (dir : ℕ) (left : List (List ℕ)) (g : Goal) → AreNames left → IsGoalNamed g → IsWalkNamed (arrives dir left g)
arrives_named dir (n ∷ ns) g h aim = (h, aim)
arrives_named dir [] (goal.RenameFrom n to) h aim = (aim.1.0, (aim.0, aim.1.1))
arrives_named dir [] _ h aim = (no_names, aim)

pub begun_named : (k : PathCommand) → HasNames k → IsWalkNamed (begun k)
begun_named path.LookRoot h = (no_names, tt)
begun_named (path.List p) h = (h, tt)
begun_named (path.Rename s t) h = arrives_named 1 s.dirs (goal.RenameFrom s.name t) h.0.0 (h.0.1, h.1)
begun_named _ h = h

-- ---- what a walk that is under way is

-- it asks behind an entry, and of a directory, whose number has a spelling
abbrev pub IsAsking : Goal → Type 0
IsAsking (goal.Find n) = Unit {0}
IsAsking (goal.Rewrite n) = Unit {0}
IsAsking (goal.Look n) = Unit {0}
IsAsking goal.LookRoot = Unit {0}
IsAsking (goal.List p) = (p.cookie < 18446744073709551616) × (p.verifier < 18446744073709551616)
IsAsking (goal.Make n) = Unit {0}
IsAsking (goal.MakeDir n) = Unit {0}
IsAsking (goal.Remove n) = Unit {0}
IsAsking (goal.RemoveDir n) = Unit {0}
IsAsking (goal.RenameFrom n to) = Unit {0}
IsAsking (goal.RenameTo from n to) = from < 18446744073709551616

-- whether its next call makes, removes or renames something
abbrev pub makes_at : (left : List (List ℕ)) → Goal → Bool
makes_at [] (goal.Make n) = true
makes_at [] (goal.MakeDir n) = true
makes_at [] (goal.Remove n) = true
makes_at [] (goal.RemoveDir n) = true
makes_at [] (goal.RenameTo from n to) = true
makes_at left g = false

abbrev pub is_making : Walk → Bool
is_making w = makes_at w.left w.goal

-- of these, whether it makes, or removes a directory, which is done at once; or removes or renames
abbrev pub builds_at : (left : List (List ℕ)) → Goal → Bool
builds_at [] (goal.Make n) = true
builds_at [] (goal.MakeDir n) = true
builds_at [] (goal.RemoveDir n) = true
builds_at left g = false

abbrev pub is_building : Walk → Bool
is_building w = builds_at w.left w.goal

abbrev pub goes_at : (left : List (List ℕ)) → Goal → Bool
goes_at [] (goal.Remove n) = true
goes_at [] (goal.RenameTo from n to) = true
goes_at left g = false

abbrev pub is_going : Walk → Bool
is_going w = goes_at w.left w.goal

pub making_is : (left : List (List ℕ)) (g : Goal) → makes_at left g ≡ true → (builds_at left g ≡ true) ⊎ (goes_at left g ≡ true)
making_is [] (goal.Make n) e = inl refl
making_is [] (goal.MakeDir n) e = inl refl
making_is [] (goal.RemoveDir n) e = inl refl
making_is [] (goal.Remove n) e = inr refl
making_is [] (goal.RenameTo from n to) e = inr refl
making_is left g e = absurd cc

pub building_makes : (left : List (List ℕ)) (g : Goal) → builds_at left g ≡ true → makes_at left g ≡ true
building_makes [] (goal.Make n) e = refl
building_makes [] (goal.MakeDir n) e = refl
building_makes [] (goal.RemoveDir n) e = refl
building_makes left g e = absurd cc

pub going_makes : (left : List (List ℕ)) (g : Goal) → goes_at left g ≡ true → makes_at left g ≡ true
going_makes [] (goal.Remove n) e = refl
going_makes [] (goal.RenameTo from n to) e = refl
going_makes left g e = absurd cc

-- whether its next call may change a file; and whether one behind that may
abbrev pub creates_at : (left : List (List ℕ)) → Goal → Bool
creates_at [] (goal.Make n) = true
creates_at [] (goal.Remove n) = true
creates_at [] (goal.RenameTo from n to) = true
creates_at left g = false

abbrev pub is_creating : Walk → Bool
is_creating w = creates_at w.left w.goal

pub going_creates : (left : List (List ℕ)) (g : Goal) → goes_at left g ≡ true → creates_at left g ≡ true
going_creates [] (goal.Remove n) e = refl
going_creates [] (goal.RenameTo from n to) e = refl
going_creates left g e = absurd cc

abbrev pub makes_later : (left : List (List ℕ)) → Goal → Bool
makes_later (name ∷ names) (goal.Make n) = true
makes_later (name ∷ names) (goal.Remove n) = true
makes_later (name ∷ names) (goal.RenameTo from n to) = true
makes_later left (goal.RenameFrom n to) = true
makes_later left g = false

-- while a first name of a rename is looked for, names are left
abbrev pub IsAhead : List (List ℕ) → Goal → Type 0
IsAhead [] (goal.RenameFrom n to) = ⊥
IsAhead left g = Unit {0}

abbrev pub is_from_goal : Goal → Bool
is_from_goal (goal.RenameFrom n to) = true
is_from_goal g = false

pub ahead_else : (left : List (List ℕ)) (g : Goal) → is_from_goal g ≡ false → IsAhead left g
ahead_else [] (goal.RenameFrom n to) e = absurd cc
ahead_else _ _ e = tt

-- what arrives is ahead
pub arrives_ahead : (dir : ℕ) (left : List (List ℕ)) (g : Goal) → IsAhead (arrives dir left g).left (arrives dir left g).goal
arrives_ahead dir [] (goal.RenameFrom n to) = ahead_else to.dirs (goal.RenameTo dir n to.name) refl
arrives_ahead dir _ _ = tt

pub record IsWalkSmall (w : Walk) : Type 0 where
  pub dir : w.dir < 18446744073709551616
  pub named : IsWalkNamed w
  pub asking : IsAsking w.goal
  pub ahead : IsAhead w.left w.goal

pub begun_small : (k : PathCommand) → HasNames k → IsWalkSmall (begun k)
begun_small k h = record { dir = dir k; named = begun_named k h; asking = asking k; ahead = ahead k }
  where
    renames : (dirs : List (List ℕ)) (n : List ℕ) (to : Spot) → ((arrives 1 dirs (goal.RenameFrom n to)).dir < 18446744073709551616) × IsAsking (arrives 1 dirs (goal.RenameFrom n to)).goal × IsAhead (arrives 1 dirs (goal.RenameFrom n to)).left (arrives 1 dirs (goal.RenameFrom n to)).goal
    renames [] n to = (omega arith, omega arith, ahead_else to.dirs (goal.RenameTo 1 n to.name) refl)
    renames (d ∷ ds) n to = (omega arith, tt, tt)

    ahead : (k : PathCommand) → IsAhead (begun k).left (begun k).goal
    ahead (path.Find s) = ahead_else s.dirs (goal.Find s.name) refl
    ahead (path.Rewrite s) = ahead_else s.dirs (goal.Rewrite s.name) refl
    ahead (path.Look s) = ahead_else s.dirs (goal.Look s.name) refl
    ahead path.LookRoot = tt
    ahead (path.List p) = ahead_else p (goal.List no_pages) refl
    ahead (path.Make s) = ahead_else s.dirs (goal.Make s.name) refl
    ahead (path.MakeDir s) = ahead_else s.dirs (goal.MakeDir s.name) refl
    ahead (path.Remove s) = ahead_else s.dirs (goal.Remove s.name) refl
    ahead (path.RemoveDir s) = ahead_else s.dirs (goal.RemoveDir s.name) refl
    ahead (path.Rename s t) = (renames s.dirs s.name t).2

    dir : (k : PathCommand) → (begun k).dir < 18446744073709551616
    dir (path.Rename s t) = (renames s.dirs s.name t).0
    dir _ = omega arith

    asking : (k : PathCommand) → IsAsking (begun k).goal
    asking (path.List p) = (omega arith, omega arith)
    asking (path.Rename s t) = (renames s.dirs s.name t).1
    asking _ = tt

-- the calls of the open that may follow
abbrev pub open_calls : Goal → ℕ
open_calls (goal.Find n) = 380002
open_calls (goal.Rewrite n) = 1
open_calls g = 0

-- what it may still send behind its next call
abbrev pub walk_calls : Walk → ℕ
walk_calls w = calls_left w + open_calls w.goal

calls_short : (w : Walk) (g : Goal) → w.goal ≡ g → IsGoalNamed g → length w.left ≤ 64 → walk_calls w ≤ 900064
calls_short w g is aim few = subst (λ (z : Goal). length w.left + goal_left z + open_calls z ≤ 900064) (sym is) (by g aim)
  where
    by : (g : Goal) → IsGoalNamed g → length w.left + goal_left g + open_calls g ≤ 900064
    by (goal.RenameFrom n to) aim = let some = aim.1.0.1 in omega (arith, few, some)
    by _ aim = omega (arith, few)

pub walk_calls_short : (w : Walk) → IsWalkNamed w → walk_calls w ≤ 900064
walk_calls_short w h = calls_short w w.goal refl h.1 h.0.1
