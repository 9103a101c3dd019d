-- What the pending changes need.
use Rattle.std.proofs.Common.{◌≡◌, ℕ, ◌+◌, ◌≤◌, List, [], ◌∷◌, ◌++◌, length, arith, ap, refl}
use Rattle.std.specs.List.{AllByRecursion}
use Rattle.std.proofs.lemmas.List.Sums.{sum_by-cons}
use Rattle.callback_core.specs.Waits.{entries_of as told_entries, bytes_of as told_bytes}
use Rattle.tree_calls.specs.Waiting.{entries_of}
use Rattle.tree_calls.specs.declared.asked.Asked.{Asked}
use Rattle.tree_calls.specs.declared.asked.Asked.TheVariants as asked
use Rattle.server_core.specs.declared.change.Wanted.{Wanted}
use Rattle.server_core.specs.declared.change.Wanted.TheVariants as wanted
use Rattle.server_core.specs.State.{FileChange, entries_wanted, entries_held, waiting_size}
use Rattle.server_core.specs.View.{IsMade}

two_asked : (a : Asked) → entries_of a ≤ 2
two_asked (asked.Remove r) = omega arith
two_asked (asked.Rename r) = omega arith

pub two_wanted : (w : Wanted) → entries_wanted w ≤ 2
two_wanted (wanted.Content content) = omega arith
two_wanted (wanted.Asked a) = two_asked a

-- two entries each at the most
pub few_entries : (waiting : List FileChange) → entries_held waiting ≤ length waiting + length waiting
few_entries [] = omega arith
few_entries (c ∷ cs) = omega (arith, two_wanted c.what, few_entries cs)

-- what changes say that they need is what they need
pub made_entries : (waiting : List FileChange) → AllByRecursion IsMade waiting → told_entries waiting ≡ entries_held waiting
made_entries [] made = refl
made_entries (c ∷ cs) made =
    let more = sum_by-cons (λ (x : FileChange). x.entries) c cs in
    omega (arith, more, ap (λ (x : FileChange). x.entries) made.0, made_entries cs made.1)

pub made_bytes : (waiting : List FileChange) → AllByRecursion IsMade waiting → told_bytes waiting ≡ waiting_size waiting
made_bytes [] made = refl
made_bytes (c ∷ cs) made =
    let more = sum_by-cons (λ (x : FileChange). x.bytes) c cs in
    omega (arith, more, ap (λ (x : FileChange). x.bytes) made.0, made_bytes cs made.1)

-- one more behind them
pub entries_more : (waiting : List FileChange) (c : FileChange) → entries_held (waiting ++ c ∷ []) ≡ entries_held waiting + entries_wanted c.what
entries_more [] c = search arith
entries_more (w ∷ ws) c = omega (arith, entries_more ws c)

pub made_more : (waiting : List FileChange) (c : FileChange) → AllByRecursion IsMade waiting → IsMade c → AllByRecursion IsMade (waiting ++ c ∷ [])
made_more [] c made is = (is, tt)
made_more (w ∷ ws) c made is = (made.0, made_more ws c made.1 is)
