-- What the changes of all other sessions need, and what is left where one is taken out.
use Rattle.std.proofs.Common.{◌≡◌, ℕ, zero, suc, ◌+◌, ◌≤◌, List, [], ◌∷◌, Some, Bool, true, false, length, ap, subst, arith}
use Rattle.std.specs.Prelude.{◌==◌, cond, not, filter, slice_get}
use Rattle.std.specs.List.{AllByRecursion}
use Rattle.std.proofs.lemmas.Bool.Decides.{nat_tests}
use Rattle.lease_table.proofs.lemmas.Lists.{some_is}
use Rattle.server_core.specs.State.{FileChange, size_wanted, waiting_size, entries_wanted, entries_held}
use Rattle.server_core.specs.View.{IsMade}

-- the changes of all other sessions
abbrev pub others : (session : ℕ) → List FileChange → List FileChange
others session waiting = filter (λ c. not (c.session == session)) waiting

less_if : (b : Bool) (c : FileChange) (rest cs : List FileChange) → waiting_size rest ≤ waiting_size cs → waiting_size (cond b (c ∷ rest) rest) ≤ size_wanted c.what + waiting_size cs
less_if true c rest cs le = omega (arith, le)
less_if false c rest cs le = omega (arith, le)

pub less_others : (session : ℕ) (waiting : List FileChange) → waiting_size (others session waiting) ≤ waiting_size waiting
less_others session [] = omega arith
less_others session (c ∷ cs) = less_if (not (c.session == session)) c (others session cs) cs (less_others session cs)

few_if : (b : Bool) (c : FileChange) (rest cs : List FileChange) → length rest ≤ length cs → length (cond b (c ∷ rest) rest) ≤ length (c ∷ cs)
few_if true c rest cs le = omega (arith, le)
few_if false c rest cs le = omega (arith, le)

pub few_others : (session : ℕ) (waiting : List FileChange) → length (others session waiting) ≤ length waiting
few_others session [] = omega arith
few_others session (c ∷ cs) = few_if (not (c.session == session)) c (others session cs) cs (few_others session cs)

fewer_if : (b : Bool) (c : FileChange) (rest cs : List FileChange) → entries_held rest ≤ entries_held cs → entries_held (cond b (c ∷ rest) rest) ≤ entries_wanted c.what + entries_held cs
fewer_if true c rest cs le = omega (arith, le)
fewer_if false c rest cs le = omega (arith, le)

pub fewer_others : (session : ℕ) (waiting : List FileChange) → entries_held (others session waiting) ≤ entries_held waiting
fewer_others session [] = omega arith
fewer_others session (c ∷ cs) = fewer_if (not (c.session == session)) c (others session cs) cs (fewer_others session cs)

made_if : (b : Bool) (c : FileChange) (rest : List FileChange) → IsMade c → AllByRecursion IsMade rest → AllByRecursion IsMade (cond b (c ∷ rest) rest)
made_if true c rest is made = (is, made)
made_if false c rest is made = made

pub made_others : (session : ℕ) (waiting : List FileChange) → AllByRecursion IsMade waiting → AllByRecursion IsMade (others session waiting)
made_others session [] made = tt
made_others session (c ∷ cs) made = made_if (not (c.session == session)) c (others session cs) made.0 (made_others session cs made.1)

-- ---- the one at a place, and the others

own_gone : (c : FileChange) (cs : List FileChange) → others c.session (c ∷ cs) ≡ others c.session cs
own_gone c cs = let itself : (not (c.session == c.session)) ≡ false = grind (arith, nat_tests) in ap (λ (b : Bool). cond b (c ∷ others c.session cs) (others c.session cs)) itself

entries_if : (b : Bool) (w : FileChange) (rest ws : List FileChange) (n : ℕ) → entries_held rest + n ≤ entries_held ws → entries_held (cond b (w ∷ rest) rest) + n ≤ entries_wanted w.what + entries_held ws
entries_if true w rest ws n le = omega (arith, le)
entries_if false w rest ws n le = omega (arith, le)

pub taken_entries : (waiting : List FileChange) (i : ℕ) (c : FileChange) → slice_get waiting i ≡ Some c → entries_held (others c.session waiting) + entries_wanted c.what ≤ entries_held waiting
taken_entries [] i c at = absurd cc
taken_entries (w ∷ ws) zero c at =
    subst (λ (x : FileChange). entries_held (others x.session (w ∷ ws)) + entries_wanted x.what ≤ entries_wanted w.what + entries_held ws) (some_is w c at)
    (let gone = ap entries_held (own_gone w ws) in let le = fewer_others w.session ws in omega (arith, gone, le))
taken_entries (w ∷ ws) (suc i) c at = entries_if (not (w.session == c.session)) w (others c.session ws) ws (entries_wanted c.what) (taken_entries ws i c at)

less_place : (b : Bool) (w : FileChange) (rest ws : List FileChange) → length rest + 1 ≤ length ws → length (cond b (w ∷ rest) rest) + 1 ≤ length (w ∷ ws)
less_place true w rest ws le = omega (arith, le)
less_place false w rest ws le = omega (arith, le)

pub taken_place : (waiting : List FileChange) (i : ℕ) (c : FileChange) → slice_get waiting i ≡ Some c → length (others c.session waiting) + 1 ≤ length waiting
taken_place [] i c at = absurd cc
taken_place (w ∷ ws) zero c at =
    subst (λ (x : FileChange). length (others x.session (w ∷ ws)) + 1 ≤ length (w ∷ ws)) (some_is w c at)
    (let gone = ap length (own_gone w ws) in let le = few_others w.session ws in omega (arith, gone, le))
taken_place (w ∷ ws) (suc i) c at = less_place (not (w.session == c.session)) w (others c.session ws) ws (taken_place ws i c at)

pub taken_made : (waiting : List FileChange) (i : ℕ) (c : FileChange) → AllByRecursion IsMade waiting → slice_get waiting i ≡ Some c → IsMade c
taken_made [] i c made at = absurd cc
taken_made (w ∷ ws) zero c made at = subst IsMade (some_is w c at) made.0
taken_made (w ∷ ws) (suc i) c made at = taken_made ws i c made.1 at
