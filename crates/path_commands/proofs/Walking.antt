-- Names of a directory, and of a path, one after the other.
use Rattle.std.proofs.Common.{◌≡◌, sym, subst, ap, ◌∙◌, ℕ, suc, ◌+◌, ◌<◌, List, [], ◌∷◌, ◌++◌, length, take, get_or, Bool, true, arith}
use Rattle.std.proofs.Math.Seq.{take-suc}
use Rattle.command_text.specs.declared.command.Command.{Command}
use Rattle.shell_walks.specs.Asking.{command_on, AsksOn}
use Rattle.shell_walks.specs.declared.asking.Deed.TheVariants as deed
use Rattle.shell_walks.specs.declared.remote.Answer.{Answer}
use Rattle.shell_walks.specs.declared.told.Told.{Told}
use Rattle.path_commands.specs.Doing.{is_answered, Longs, Longs.one, with_long}

one_more : (n : ℕ) → suc n ≡ n + 1
one_more n = omega arith

-- the names up to one, and that one
pub taken : (names : List (List ℕ)) (at : ℕ) (name : List ℕ) → at < length names → name ≡ get_or names at name → take (at + 1) names ≡ take at names ++ name ∷ []
taken names at name within is = sym (ap (λ (k : ℕ). take k names) (one_more at)) ∙ take-suc names at name within ∙ ap (λ (x : List ℕ). take at names ++ x ∷ []) (sym is)

-- a name that is read there stands there
pub shown_at : (names : List (List ℕ)) (at : ℕ) (item shown : List ℕ) → item ≡ get_or names at item → shown ≡ item → shown ≡ get_or names at shown
shown_at names at item shown is e = subst (λ (n : List ℕ). n ≡ get_or names at n) (sym e) is

-- the name that stands there was looked at, and answered
pub long_on : {R : Type 0} (asks : R → Command → Answer → R → Type 0) (old : R) (path names : List (List ℕ)) (at : ℕ) (name : List ℕ) (told after : Told) (s t : R) (a : Answer) → at < length names → name ≡ get_or names at name → Longs asks old path (take at names) told s → AsksOn asks s (command_on deed.Look (path ++ name ∷ [])) a t → is_answered a ≡ true → after ≡ with_long path name told a → Longs asks old path (take (at + 1) names) after t
long_on asks old path names at name told after s t a within is h asked so w = one (take at names) (take (at + 1) names) name told after s t a h asked so w (taken names at name within is)
