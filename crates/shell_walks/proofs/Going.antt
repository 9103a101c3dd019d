-- What is left to go, one thing after the other.
use Rattle.std.proofs.Common.{◌≡◌, subst, ap, ◌∙◌, ℕ, List, [], ◌∷◌, ◌++◌, false, true, length, option_to_list, Some}
use Rattle.command_text.specs.declared.command.Command.{Command}
use Rattle.shell_walks.specs.Removing.{both, first, RemovesAll, RemovesAll.cut_off, RemovesOne, Removes, Removes.one_more}
use Rattle.shell_walks.specs.declared.remote.Answer.{Answer}
use Rattle.shell_walks.specs.declared.removing.Came.{Came}
use Rattle.shell_walks.specs.declared.removing.Doomed.{Doomed}
use Rattle.shell_walks.specs.declared.removing.Gone.{Gone}
use Rattle.shell_walks.specs.declared.removing.Removal.{Removal}

pub went_on : {R : Type 0} (asks : R → Command → Answer → R → Type 0) (old : R) (path : List (List ℕ)) (whole left after : List Doomed) (one : Doomed) (s t : R) (r q : Removal) (c : Came) → Removes asks old path whole s r → r.is_off ≡ false → whole ≡ left ++ option_to_list (Some one) → RemovesOne asks s one c t → after ≡ left ++ c.more → q ≡ both r c.said → Removes asks old path after t q
went_on asks old path whole left after one s t r q c h on is o e f = one_more left after one s t r q c (subst (λ (l : List Doomed). Removes asks old path l s r) is h) on o e f

pub started : (path p : List (List ℕ)) (none todo : List Doomed) → none ≡ [] → todo ≡ none ++ record { path = p; emptied = false } ∷ [] → p ≡ path → todo ≡ first path
started path p none todo is e so = e ∙ ap (λ (l : List Doomed). l ++ record { path = p; emptied = false } ∷ []) is ∙ ap (λ (q : List (List ℕ)). first q) so

pub off : {R : Type 0} (asks : R → Command → Answer → R → Type 0) (old : R) (path : List (List ℕ)) (left : List Doomed) (s : R) (g : Gone) → Removes asks old path left s g.said → g.said.is_off ≡ true → g.left ≡ length left → RemovesAll asks old path s g
off asks old path left s g h is many = cut_off left h is many
