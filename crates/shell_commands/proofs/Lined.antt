-- What a line comes to, by the cases of its command.
use Rattle.std.proofs.Common.{◌≡◌, refl, sym, subst, ℕ, ◌+◌, ◌≤◌, List, length, take, drop, Bool, Option, Some, None, MatchOption, Bor}
use Rattle.std.specs.Prelude.{codes}
use Rattle.std.specs.Str.Pattern.{RFindsChar}
use Rattle.command_text.specs.declared.command.Command.{Command}
use Rattle.shell_words.specs.declared.command.Line.{Line}
use Rattle.shell_words.specs.declared.command.Verb.{Verb}
use Rattle.shell_words.specs.declared.command.Verb.TheVariants as verb
use Rattle.shell_walks.specs.Fetched.{Fetched}
use Rattle.shell_walks.specs.declared.folder.Kind.{Kind}
use Rattle.shell_walks.specs.declared.remote.Answer.{Answer}
use Rattle.shell_walks.specs.declared.told.Told.{Told}
use Rattle.shell_commands.specs.Lines.{DoesPath, MovesTo, MovesTo.mistaken_so, Names, operand_of, RunsAs}
use Rattle.path_commands.specs.Doing.{Moves}
use Rattle.shell_commands.specs.Here.{has_word, IsFolderOf, IsFolderOf.before_slash, IsFolderOf.without_slash, LcdIf}
use Rattle.shell_commands.specs.declared.shell.Named.{Named}
use Rattle.shell_commands.specs.declared.shell.Named.TheVariants as named
use Rattle.shell_commands.specs.declared.shell.Went.TheVariants as went

pub named_as : (d dir : List (List ℕ)) (w word : List ℕ) (n m : Named) → d ≡ dir → w ≡ word → n ≡ m → Names d w n → Names dir word m
named_as d dir w word n m e1 e2 e3 k =
    let a : Names dir w n = subst (λ (x : List (List ℕ)). Names x w n) e1 k in
    let b : Names dir word n = subst (λ (x : List ℕ). Names dir x n) e2 a in
    subst (λ (x : Named). Names dir word x) e3 b

pub mistaken_moves : {R : Type 0} (asks : R → Command → Answer → R → Type 0) (s : R) (dir from : List (List ℕ)) (word : List ℕ) (told : Told) → Names dir word (named.Mistaken told) → MovesTo asks s dir from word told s
mistaken_moves asks s dir from word told k = mistaken_so k.0 k.1 k.2 refl

pub moves_as : {R : Type 0} (asks : R → Command → Answer → R → Type 0) (old new : R) (w wants : Bool) (from to : List (List ℕ)) (told : Told) → w ≡ wants → Moves asks old w from to told new → Moves asks old wants from to told new
moves_as asks old new w wants from to told e m = subst (λ (x : Bool). Moves asks old x from to told new) e m

pub mv_so : {R F : Type 0} (asks : R → Command → Answer → R → Type 0) (content : R → ℕ → Fetched) (finds : F → Bool → List ℕ → Kind → F → Type 0) (clears : F → List ℕ → F → Type 0) (v : Verb) (line : Line) (folder : List ℕ) (d dir p path : List (List ℕ)) (word : List ℕ) (old new : R) (h : F) (told : Told) → v ≡ verb.Mv → d ≡ dir → p ≡ path → word ≡ operand_of line 1 → MovesTo asks old d p word told new → DoesPath asks content finds clears v line folder dir path old h (went.Told told) new h dir
mv_so asks content finds clears v line folder d dir p path word old new h told is e1 e2 e3 m =
    let a : MovesTo asks old dir p word told new = subst (λ (x : List (List ℕ)). MovesTo asks old x p word told new) e1 m in
    let b : MovesTo asks old dir path word told new = subst (λ (x : List (List ℕ)). MovesTo asks old dir x word told new) e2 a in
    let c : MovesTo asks old dir path (operand_of line 1) told new = subst (λ (x : List ℕ). MovesTo asks old dir path x told new) e3 b in
    subst (λ (x : Verb). DoesPath asks content finds clears x line folder dir path old h (went.Told told) new h dir) (sym is) (refl, refl, (told, refl, c))

pub lcd_so : {R F : Type 0} (asks : R → Command → Answer → R → Type 0) (content : R → ℕ → Fetched) (finds : F → Bool → List ℕ → Kind → F → Type 0) (clears : F → List ℕ → F → Type 0) (v : Verb) (line : Line) (here : Option (List ℕ)) (folder word : List ℕ) (dir : List (List ℕ)) (s : R) (h h' : F) (told : Told) (folder' : List ℕ) → v ≡ verb.Lcd → word ≡ operand_of line 0 → LcdIf finds h (has_word word) here word folder told h' folder' → RunsAs asks content finds clears v line here folder dir s h (went.Told told) s h' folder' dir
lcd_so asks content finds clears v line here folder word dir s h h' told folder' is e k =
    let a : LcdIf finds h (has_word (operand_of line 0)) here (operand_of line 0) folder told h' folder' = subst (λ (x : List ℕ). LcdIf finds h (has_word x) here x folder told h' folder') e k in
    subst (λ (x : Verb). RunsAs asks content finds clears x line here folder dir s h (went.Told told) s h' folder' dir) (sym is) (refl, refl, (told, refl, a))

-- what `rsplit_once` ensures of its two parts
abbrev Splits : (path : List ℕ) → Bor (List ℕ) × Bor (List ℕ) → Type 0
Splits path x = (i : ℕ) × (j : ℕ) × RFindsChar 47 path (Some (i, j)) × (x.0.now ≡ take i path) × (x.1.now ≡ drop j path) × (i ≤ j) × (length x.0.now ≡ i) × (length x.1.now + j ≡ length path)

pub before_so : (path : List ℕ) (r : Option (Bor (List ℕ) × Bor (List ℕ))) (x : Bor (List ℕ) × Bor (List ℕ)) → r ≡ Some x → MatchOption r (RFindsChar 47 path None) (Splits path) → IsFolderOf path x.0.now
before_so path r x is h =
    let m : Splits path x = subst (λ (o : Option (Bor (List ℕ) × Bor (List ℕ))). MatchOption o (RFindsChar 47 path None) (Splits path)) is h in
    before_slash m.0 m.1 m.2 m.3

pub without_so : (path : List ℕ) (r : Option (Bor (List ℕ) × Bor (List ℕ))) → r ≡ None → MatchOption r (RFindsChar 47 path None) (Splits path) → IsFolderOf path (codes ".")
without_so path r is h =
    let m : RFindsChar 47 path None = subst (λ (o : Option (Bor (List ℕ) × Bor (List ℕ))). MatchOption o (RFindsChar 47 path None) (Splits path)) is h in
    without_slash m refl
