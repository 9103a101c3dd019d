-- The bytes of a file that are stored.
use Rattle.std.proofs.Common.{◌≡◌, sym, subst, ℕ, List, Bool, true, false, Result, IfOk}
use Rattle.std.proofs.lemmas.Result.{IfOk-weaker}
use Rattle.command_text.specs.declared.command.Command.{Command}
use Rattle.shell_walks.specs.Fetched.{Fetched}
use Rattle.shell_walks.specs.Storing.{Makes, Puts, PutsNew, Offers, PutsBytes, is_compared}
use Rattle.shell_walks.specs.declared.remote.Answer.{Answer}
use Rattle.shell_walks.specs.declared.tasks.Storing.{Storing}

-- behind what may have been offered
puts_new : {R : Type 0} (asks : R → Command → Answer → R → Type 0) (content : R → ℕ → Fetched) (offers : R → List ℕ → R → Type 0) (old mid new : R) (path : List (List ℕ)) (s : Storing) (bytes : List ℕ) (a : Answer) (c fresh : Bool) → c ≡ is_compared s → Offers offers old c bytes mid → s.fresh ≡ fresh → PutsNew asks content fresh mid s.id path s.changed_only bytes a new → PutsBytes asks content offers old path s bytes a new
puts_new asks content offers old mid new path s bytes a c fresh is o f p = record {
  between = mid;
  may_offer = subst (λ (b : Bool). Offers offers old b bytes mid) is o;
  puts = subst (λ (b : Bool). PutsNew asks content b mid s.id path s.changed_only bytes a new) (sym f) p;
}

pub made : {R E : Type 0} (asks : R → Command → Answer → R → Type 0) (content : R → ℕ → Fetched) (offers : R → List ℕ → R → Type 0) (old mid new : R) (path : List (List ℕ)) (s : Storing) (shown bytes : List ℕ) (r : Result Answer E) (c : Bool) → shown ≡ bytes → c ≡ is_compared s → Offers offers old c shown mid → s.fresh ≡ true → IfOk r (λ a. Makes asks mid path bytes a new) → IfOk r (λ a. PutsBytes asks content offers old path s bytes a new)
made asks content offers old mid new path s shown bytes r c same is o f h = IfOk-weaker r _ _ (λ a m. puts_new asks content offers old mid new path s bytes a c true is (subst (λ (b : List ℕ). Offers offers old c b mid) same o) f m) h

pub put : {R E : Type 0} (asks : R → Command → Answer → R → Type 0) (content : R → ℕ → Fetched) (offers : R → List ℕ → R → Type 0) (old mid new : R) (path : List (List ℕ)) (s : Storing) (shown bytes : List ℕ) (r : Result Answer E) (c : Bool) → shown ≡ bytes → c ≡ is_compared s → Offers offers old c shown mid → s.fresh ≡ false → IfOk r (λ a. Puts asks content mid s.id path s.changed_only bytes a new) → IfOk r (λ a. PutsBytes asks content offers old path s bytes a new)
put asks content offers old mid new path s shown bytes r c same is o f h = IfOk-weaker r _ _ (λ a m. puts_new asks content offers old mid new path s bytes a c false is (subst (λ (b : List ℕ). Offers offers old c b mid) same o) f m) h
