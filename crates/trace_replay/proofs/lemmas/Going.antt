-- Lines that are run in parts.
use Rattle.std.proofs.Common.{◌≡◌, ℕ, suc, ◌+◌, List, [], ◌∷◌, ◌++◌, length, true, false, refl, sym, ap, subst, ◌∙◌, arith}
use Rattle.command_text.specs.Parts.{lines_of}
use Rattle.std.specs.Prelude.{Result, Ok, Err}
use Rattle.trace_text.specs.Grammar.{line_of}
use Rattle.trace_text.specs.declared.refusal.LineFault.{LineFault}
use Rattle.trace_text.specs.declared.refusal.LineFault.TheVariants.{Grammar}
use Rattle.trace_replay.specs.declared.fault.Refused.{Refused}
use Rattle.trace_replay.specs.declared.fault.TraceError.{TraceError}
use Rattle.trace_replay.specs.declared.fault.TraceError.TheVariants as errors
use Rattle.trace_replay.specs.declared.turn.Turn.{Turn}
use Rattle.trace_replay.specs.World.{World}
use Rattle.trace_replay.specs.Run.{refused, in_header, ended}
use Rattle.trace_replay.specs.Timed.{Timed, Times, timed_start, timed_by, timed_turn, accepted_from, accepted}
use Rattle.trace_replay.specs.Lines.{applied_from, ended_at, ComesTo}

-- a trace is accepted where all its lines are taken and it may end there
pub accepted_at_end : (v : Timed) (n : ℕ) (ls : List (List ℕ)) → accepted_from v n ls ≡ ended_at (applied_from v n ls)
accepted_at_end v n [] = refl
accepted_at_end v n (l ∷ ls) = by (timed_by v n (line_of l)) (λ t. accepted_at_end (timed_turn v t) (n + 1) ls)
  where
    by : (r : Result (Turn × Times) LineFault) → ((t : Turn × Times) → accepted_from (timed_turn v t) (n + 1) ls ≡ ended_at (applied_from (timed_turn v t) (n + 1) ls))
        → elim r as (λ (x : Result (Turn × Times) LineFault). Result World Refused) [ Err f ↦ Err (refused n f) | Ok t ↦ accepted_from (timed_turn v t) (n + 1) ls ] ≡ ended_at (elim r as (λ (x : Result (Turn × Times) LineFault). Result (Timed × ℕ) Refused) [ Err f ↦ Err (refused n f) | Ok t ↦ applied_from (timed_turn v t) (n + 1) ls ])
    by (Err f) later = refl
    by (Ok t) later = later t

-- what a trace comes to whose lines come to this
at_end : (input : List ℕ) (first : Timed) (r : Result (Timed × ℕ) Refused) → first ≡ timed_start → applied_from first 1 (lines_of input) ≡ r → accepted input ≡ ended_at r
at_end input first r start ran = accepted_at_end timed_start 1 (lines_of input) ∙ ap (λ (v : Timed). ended_at (applied_from v 1 (lines_of input))) (sym start) ∙ ap ended_at ran

pub runs_through : (input : List ℕ) (first new : Timed) (next : ℕ) → first ≡ timed_start → applied_from first 1 (lines_of input) ≡ Ok (new, next) → in_header new.world.stage ≡ false → accepted input ≡ Ok new.world
runs_through input first new next start ran last = at_end input first (Ok (new, next)) start ran ∙ ap (ended new.world next) last

pub stops_short : (input : List ℕ) (first new : Timed) (next : ℕ) (e : TraceError) → first ≡ timed_start → applied_from first 1 (lines_of input) ≡ Ok (new, next) → in_header new.world.stage ≡ true → e ≡ errors.Refused (refused next Grammar) → ComesTo (Err e) (accepted input)
stops_short input first new next e start ran wanted is = subst (λ (x : TraceError). ComesTo (Err x) (accepted input)) (sym is) (at_end input first (Ok (new, next)) start ran ∙ ap (ended new.world next) wanted)

abbrev these : Timed × ℕ → Result (Timed × ℕ) Refused
these p = Ok p

no_pair : {A : Type 0} (r : Refused) (p : Timed × ℕ) → Err r ≡ these p → A
no_pair r p e = absurd cc

-- what is run from there
abbrev after : List (List ℕ) → Result (Timed × ℕ) Refused → Result (Timed × ℕ) Refused
after ys (Ok p) = applied_from p.0 p.1 ys
after ys (Err r) = Err r

abbrev number_in : Result (Timed × ℕ) Refused → ℕ
number_in (Ok p) = p.1
number_in (Err r) = 0

-- lines that follow lines that are taken
pub applied_then : (v w : Timed) (n m : ℕ) (xs ys : List (List ℕ)) → applied_from v n xs ≡ Ok (w, m) → applied_from v n (xs ++ ys) ≡ applied_from w m ys
applied_then v w n m [] ys e = ap (after ys) e
applied_then v w n m (x ∷ xs) ys e = by (timed_by v n (line_of x)) (λ t. applied_then (timed_turn v t) w (n + 1) m xs ys) e
  where
    by : (r : Result (Turn × Times) LineFault) → ((t : Turn × Times) → applied_from (timed_turn v t) (n + 1) xs ≡ Ok (w, m) → applied_from (timed_turn v t) (n + 1) (xs ++ ys) ≡ applied_from w m ys)
        → elim r as (λ (x : Result (Turn × Times) LineFault). Result (Timed × ℕ) Refused) [ Err f ↦ Err (refused n f) | Ok t ↦ applied_from (timed_turn v t) (n + 1) xs ] ≡ Ok (w, m)
        → elim r as (λ (x : Result (Turn × Times) LineFault). Result (Timed × ℕ) Refused) [ Err f ↦ Err (refused n f) | Ok t ↦ applied_from (timed_turn v t) (n + 1) (xs ++ ys) ] ≡ applied_from w m ys
    by (Err f) later e = no_pair _ (w, m) e
    by (Ok t) later e = later t e

-- the next line's number
pub applied_number : (v w : Timed) (n m : ℕ) (xs : List (List ℕ)) → applied_from v n xs ≡ Ok (w, m) → m ≡ n + length xs
applied_number v w n m [] e = omega (arith, ap number_in e)
applied_number v w n m (x ∷ xs) e = by (timed_by v n (line_of x)) (λ t. applied_number (timed_turn v t) w (n + 1) m xs) e
  where
    by : (r : Result (Turn × Times) LineFault) → ((t : Turn × Times) → applied_from (timed_turn v t) (n + 1) xs ≡ Ok (w, m) → m ≡ n + 1 + length xs)
        → elim r as (λ (x : Result (Turn × Times) LineFault). Result (Timed × ℕ) Refused) [ Err f ↦ Err (refused n f) | Ok t ↦ applied_from (timed_turn v t) (n + 1) xs ] ≡ Ok (w, m)
        → m ≡ n + suc (length xs)
    by (Err f) later e = no_pair _ (w, m) e
    by (Ok t) later e = omega (arith, later t e)
