-- The law over runs: what is kept by each event holds of what a whole run leaves, and the moments of the book are those of the run.
use Rattle.std.proofs.Common.{◌≡◌, ℕ, ◌+◌, List, [], ◌∷◌, ◌++◌, Option, Some, None, refl, sym, ◌∙◌, subst, arith, append-nil, append_assoc, Result, Ok, Err}
use Rattle.kept_promise.proofs.Common.{lines_of, line_of, Line, LineFault, Turn, World, start, asked, asked_by, turned, in_header, run_from, run, Moment, turn_moments, moments_from, moments}
use Rattle.kept_promise.proofs.Rights.{AreAlike}
use Rattle.kept_promise.proofs.Alike.{Rises, rises_start, rises_next, runs_alike}
use Rattle.kept_promise.proofs.Statements.{ClocksKeepTheRule}
use Rattle.kept_promise.proofs.Fits.{FitLaws}
use Rattle.kept_promise.proofs.Readings.{HasRoom, clocks_keep_the_rule}
use Rattle.kept_promise.proofs.RunsCarried.{KeptLaws, Carried, CarriedMix, lifted, Stands}
use Rattle.kept_promise.proofs.RunsFirst.{no_tree}
use Rattle.kept_promise.proofs.RunsEvents.{Fact, MixFact, AsMix}
use Rattle.kept_promise.proofs.RunsLines.{line_fits, allowed, within_lines}
use Rattle.kept_promise.proofs.RunsTurns.{IsFirst, Before, first_stands, may_turn, before_next}
use Rattle.kept_promise.proofs.RunsResults.{no_world, ended_is, ran_by, moments_by}
use Rattle.tree_reading.specs.Tree.{empty as root_alone}

-- ---- the start

first_is : IsFirst 1 start []
first_is = record { tree = root_alone; count = record { term = 0; term_fits = omega arith; drift = 0; lbfs = 1; lbfs_fits = record { least = omega arith; most = omega arith }; count = 0 }; core_is = refl; bare = λ header. refl; wires_is = refl; is_tree = no_tree; size = refl; past_is = refl; few = omega arith }

before_first : (P : MixFact) → CarriedMix P → (all : List Moment) → AreAlike all → Before P 1 all [] start
before_first P carried all alike = record { stands = first_stands P carried 1 all [] start alike first_is; few = omega arith; first = λ early. first_is }

-- ---- a line that was read

next_of : (P : MixFact) → KeptLaws → FitLaws → CarriedMix P → (n : ℕ) (all past rest : List Moment) (w : World) (bytes : List ℕ) (l : Line) (t : Turn) → line_of bytes ≡ Some l → asked w n l ≡ Ok t → Before P n all past w → all ≡ past ++ (turn_moments w t ++ rest) → Before P (n + 1) all (past ++ turn_moments w t) (turned w t)
next_of P laws fits carried n all past rest w bytes l t read is h split = before_next P laws fits carried n all past rest w t (within_lines w n l t is) (allowed w n l t (line_fits bytes l read) is) h split

-- ---- all lines

carried_lines : (P : MixFact) → KeptLaws → FitLaws → CarriedMix P → (n : ℕ) (all past : List Moment) (w v : World) (ls : List (List ℕ)) → run_from w n ls ≡ Ok v → all ≡ past ++ moments_from w n ls → Before P n all past w → Stands P all all v
carried_lines P laws fits carried n all past w v [] e split h =
    let same : past ≡ all = sym (split ∙ append-nil past) in
    subst (λ (z : List Moment). Stands P all z v) same (subst (λ (z : World). Stands P all past z) (ended_is w v n (in_header w.stage) e) h.stands)
carried_lines P laws fits carried n all past w v (l ∷ ls) e split h = by_line (line_of l) refl (λ t before. carried_lines P laws fits carried (n + 1) all before (turned w t) v ls) e split
  where
    by_turn : (x : Line) → line_of l ≡ Some x → (r : Result Turn LineFault) → asked w n x ≡ r
        → ((t : Turn) (before : List Moment) → run_from (turned w t) (n + 1) ls ≡ Ok v → all ≡ before ++ moments_from (turned w t) (n + 1) ls → Before P (n + 1) all before (turned w t) → Stands P all all v)
        → ran_by w n ls r ≡ Ok v → all ≡ past ++ moments_by w n ls r → Stands P all all v
    by_turn x read (Err f) is go e split = no_world _ v e
    by_turn x read (Ok t) is go e split =
        let rest : List Moment = moments_from (turned w t) (n + 1) ls in
        go t (past ++ turn_moments w t) e (split ∙ sym (append_assoc past (turn_moments w t) rest)) (next_of P laws fits carried n all past rest w l x t read is h split)

    by_line : (o : Option Line) → line_of l ≡ o
        → ((t : Turn) (before : List Moment) → run_from (turned w t) (n + 1) ls ≡ Ok v → all ≡ before ++ moments_from (turned w t) (n + 1) ls → Before P (n + 1) all before (turned w t) → Stands P all all v)
        → ran_by w n ls (asked_by w n o) ≡ Ok v → all ≡ past ++ moments_by w n ls (asked_by w n o) → Stands P all all v
    by_line None read go e split = no_world _ v e
    by_line (Some x) read go e split = by_turn x read (asked w n x) refl go e split

-- What each event keeps holds of what a run leaves, whatever further facts are carried along.
pub carried_run : (P : MixFact) → KeptLaws → FitLaws → CarriedMix P → (input : List ℕ) (w : World) → run input ≡ Ok w → Stands P (moments input) (moments input) w
carried_run P laws fits carried input w e = carried_lines P laws fits carried 1 (moments input) [] start w (lines_of input) e refl (before_first P carried (moments input) (runs_alike input))

-- the same of a fact that speaks of no RECALL
pub carried_plain : (P : Fact) → KeptLaws → FitLaws → Carried P → (input : List ℕ) (w : World) → run input ≡ Ok w → Stands (AsMix P) (moments input) (moments input) w
carried_plain P laws fits carried input w e = carried_run (AsMix P) laws fits (lifted P carried) input w e

-- ---- nothing further

abbrev pub Plain : Fact
Plain all past opening k qs = Unit {0}

pub plain_carried : Carried Plain
plain_carried = record { first = λ all opening tree header kept. tt; steps = λ all past rest opening k qs e mid after step holds. tt; adjusts = λ all past opening k qs index seats same holds. tt }

pub kept_run : KeptLaws → FitLaws → (input : List ℕ) (w : World) → run input ≡ Ok w → Stands (AsMix Plain) (moments input) (moments input) w
kept_run laws fits input w e = carried_run (AsMix Plain) laws fits (lifted Plain plain_carried) input w e

-- ---- the clocks: there is room for each session that is asked for

-- what stands before a line, whatever moments come behind it
abbrev pub Whatever : ℕ → World → Type 0
Whatever n w = (past : List Moment) × Rises past w × ((rest : List Moment) → AreAlike (past ++ rest) → Before (AsMix Plain) n (past ++ rest) past w)

pub has_room : KeptLaws → FitLaws → HasRoom Whatever
has_room laws fits = record {
  first = ([], rises_start, λ rest alike. before_first (AsMix Plain) (lifted Plain plain_carried) rest alike);
  next = λ n w bytes l t read h is.
      let le = within_lines w n l t is in
      let may = allowed w n l t (line_fits bytes l read) is in (
        may_turn (AsMix Plain) n (h.0 ++ []) h.0 w t (h.2 [] (subst AreAlike (sym (append-nil h.0)) h.1.alike)) le may,
        (
          h.0 ++ turn_moments w t,
          rises_next h.0 w t may h.1,
          λ rest alike. subst (λ (z : List Moment). Before (AsMix Plain) (n + 1) z (h.0 ++ turn_moments w t) (turned w t)) (sym (append_assoc h.0 (turn_moments w t) rest))
              (next_of (AsMix Plain) laws fits (lifted Plain plain_carried) n (h.0 ++ (turn_moments w t ++ rest)) h.0 rest w bytes l t read is (h.2 (turn_moments w t ++ rest) (subst AreAlike (append_assoc h.0 (turn_moments w t) rest) alike)) refl),
        ),
      );
}

-- a trace is accepted exactly where its run goes through and it keeps the clock rule
pub clocks_kept : KeptLaws → FitLaws → ClocksKeepTheRule
clocks_kept laws fits = clocks_keep_the_rule Whatever (has_room laws fits)
