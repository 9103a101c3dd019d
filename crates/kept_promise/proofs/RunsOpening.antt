-- What a run opens with is what the `file` lines say.
use Rattle.std.proofs.Common.{◌≡◌, ℕ, zero, suc, ◌+◌, List, [], ◌∷◌, ◌++◌, Option, Some, None, Bool, true, false, refl, sym, ap, ◌∙◌, arith, append-nil, append_assoc, Result, Ok, Err}
use Rattle.trace_text.specs.declared.line.Line.TheVariants as line
use Rattle.trace_replay.specs.declared.turn.Turn.TheVariants as turn
use Rattle.trace_replay.specs.Trail.{opened_by, opening_by, openings_from, openings_of}
use Rattle.kept_promise.proofs.Common.{content_bytes, lines_of, Opening, line_of, Line, LineFault, Turn, Event, numbered, World, Wire, start, happened, all_happened, up_taken, up_events, up_at, down_taken, down_events, down_at, up_length, down_length, up_all, round, is_still, passes, asked, asked_by, at_events, count_of, turned, in_header, run_from, run}
use Rattle.kept_promise.proofs.RunsAsked.{turn_of, asked_turn}
use Rattle.kept_promise.proofs.RunsResults.{no_world, ended_is, ran_by}
use Rattle.trace_replay.specs.declared.stage.Stage.{Stage}
use Rattle.trace_replay.specs.declared.stage.Stage.TheVariants as stage
use Rattle.server_law.proofs.lemmas.Trees.{IsGiven}
use Rattle.kept_promise.proofs.TreeOpens.{opens_file, opens_directory}
use Rattle.kept_promise.proofs.lemmas.Owners.{turned_to}
use Rattle.kept_promise.proofs.RunsLines.{is_early, Allows, allowed, line_fits}

-- ---- no event changes what was opened with

all_same : (w : World) (es : List Event) → (all_happened w es).opening ≡ w.opening
all_same w [] = refl
all_same w (e ∷ es) = all_same (happened w e) es

up_same : (w : World) (n count now : ℕ) (o : Option Wire) → (up_at w n count now o).opening ≡ w.opening
up_same w n count now None = refl
up_same w n count now (Some q) = all_same (up_taken w n count q) (up_events n now count q)

down_same : (w : World) (n count now : ℕ) (o : Option Wire) → (down_at w n count now o).opening ≡ w.opening
down_same w n count now None = refl
down_same w n count now (Some q) = all_same (down_taken w n count q) (down_events n now count q)

round_same : (w : World) (n server at : ℕ) → (round w n server at).opening ≡ w.opening
round_same w n server at =
    let v : World = up_all w n server in
    down_same v n (down_length (numbered v.wires n)) at (numbered v.wires n) ∙ up_same w n (up_length (numbered w.wires n)) server (numbered w.wires n)

passes_same : (k : ℕ) (w : World) (n server at : ℕ) → (passes k w n server at).opening ≡ w.opening
passes_same zero w n server at = refl
passes_same (suc k) w n server at = by (is_still w n) (passes_same k (round w n server at) n server at)
  where
    by : (b : Bool) → (passes k (round w n server at) n server at).opening ≡ (round w n server at).opening → (elim b as (λ (x : Bool). World) [ true ↦ w | false ↦ passes k (round w n server at) n server at ]).opening ≡ w.opening
    by true later = refl
    by false later = later ∙ round_same w n server at

-- ---- what a line adds

-- by a turn, where this is the next id
abbrev added : (next : ℕ) → Turn → List Opening
added next (turn.File dir name content) = record { file = next; content = content_bytes content } ∷ []
added next t = []

-- how many files and directories
abbrev count_added : Turn → ℕ
count_added (turn.Dir dir name) = 1
count_added (turn.File dir name content) = 1
count_added t = 0

no_more : (w v : World) → v.opening ≡ w.opening → v.opening ≡ w.opening ++ []
no_more w v e = e ∙ sym (append-nil w.opening)

-- before the first event the tree's next id is that which the lines count to
abbrev HasNext : (next : ℕ) → World → Type 0
HasNext next w = is_early w.stage ≡ true → IsGiven w.core.server.tree × (w.core.server.tree.next ≡ next)

not_early : {A : Type 0} (s : Stage) → s ≡ stage.Events → is_early s ≡ true → A
not_early s e early = absurd (by (sym (ap is_early e) ∙ early))
  where
    by : false ≡ true → ⊥
    by h = cc

next_stays : (next : ℕ) (w : World) → IsGiven w.core.server.tree × (w.core.server.tree.next ≡ next) → IsGiven w.core.server.tree × (w.core.server.tree.next ≡ next + 0)
next_stays next w h = let is = h.1 in (h.0, omega (arith, is))

next_turned : (next : ℕ) (w : World) (t : Turn) → Allows w t → HasNext next w → HasNext (next + count_added t) (turned w t)
next_turned next w turn.Skip f h = λ early. next_stays next w (h early)
next_turned next w (turn.Version n) f h = λ early. next_stays next w (h (ap is_early f.0))
next_turned next w (turn.Term m) f h = λ early. next_stays next w (h (ap is_early f.0))
next_turned next w (turn.Drift m) f h = λ early. next_stays next w (h (ap is_early f))
next_turned next w (turn.Clients m) f h = λ early. next_stays next w (h f)
next_turned next w (turn.Dir dir name) f h = λ early.
    let was = h f.0 in
    let more = opens_directory w.core.server.tree dir name was.0 f.1 in
    (more.given, more.next ∙ ap (λ (i : ℕ). i + 1) was.1)
next_turned next w (turn.File dir name content) f h = λ early.
    let was = h f.0 in
    let more = opens_file w.core.server.tree dir name (content_bytes content) was.0 f.1.0 in
    (more.given, more.next ∙ ap (λ (i : ℕ). i + 1) was.1)
next_turned next w (turn.Join c) f h = λ early. not_early (turned w (turn.Join c)).stage refl early
next_turned next w turn.RawJoin f h = λ early. not_early (turned w turn.RawJoin).stage refl early
next_turned next w e f h = λ early. not_early (turned w e).stage (turned_to w e tt).stage early

next_first : HasNext 2 start
next_first = λ early. (record { below = (omega arith, tt); apart = (tt, tt) }, refl)

turn_adds : (next : ℕ) (w : World) (t : Turn) → Allows w t → HasNext next w → (turned w t).opening ≡ w.opening ++ added next t
turn_adds next w (turn.File dir name content) f h = ap (λ (i : ℕ). w.opening ++ record { file = i; content = content_bytes content } ∷ []) (h f.0).1
turn_adds next w (turn.Up n a now) f h = no_more w (turned w (turn.Up n a now)) (up_same (at_events w) n (count_of a (up_length (numbered w.wires n))) now (numbered w.wires n))
turn_adds next w (turn.Down n a now) f h = no_more w (turned w (turn.Down n a now)) (down_same (at_events w) n (count_of a (down_length (numbered w.wires n))) now (numbered w.wires n))
turn_adds next w (turn.Pass n k server at) f h = no_more w (turned w (turn.Pass n k server at)) (passes_same k (at_events w) n server at)
turn_adds next w _ f h = no_more w w refl

line_adds : (c dir : ℕ) (l : Line) → added c (turn_of dir l) ≡ opening_by c (Some l)
line_adds c dir line.Skipped = refl
line_adds c dir _ = refl

line_counts : (dir : ℕ) (l : Line) → count_added (turn_of dir l) ≡ opened_by (Some l)
line_counts dir line.Skipped = refl
line_counts dir _ = refl

-- ---- all lines

abbrev behind : (next : ℕ) → Option Line → List (List ℕ) → List Opening
behind next o ls = opening_by next o ++ openings_from (next + opened_by o) ls

lines_add : (next n : ℕ) (w v : World) (ls : List (List ℕ)) → HasNext next w → run_from w n ls ≡ Ok v → v.opening ≡ w.opening ++ openings_from next ls
lines_add next n w v [] h e = ap (λ (z : World). z.opening) (sym (ended_is w v n (in_header w.stage) e)) ∙ sym (append-nil w.opening)
lines_add next n w v (l ∷ ls) h e = by_line (line_of l) refl (λ more t has. lines_add more (n + 1) (turned w t) v ls has) e
  where
    by_turn : (x : Line) → line_of l ≡ Some x → (r : Result Turn LineFault) → asked w n x ≡ r → ((more : ℕ) (t : Turn) → HasNext more (turned w t) → run_from (turned w t) (n + 1) ls ≡ Ok v → v.opening ≡ (turned w t).opening ++ openings_from more ls) → ran_by w n ls r ≡ Ok v → v.opening ≡ w.opening ++ behind next (Some x) ls
    by_turn x read (Err f) is go e = no_world _ v e
    by_turn x read (Ok t) is go e =
        let first : List Opening = opening_by next (Some x) in
        let may = allowed w n x t (line_fits l x read) is in
        let asks = asked_turn w n x t is in
        let adds : (turned w t).opening ≡ w.opening ++ first = turn_adds next w t may h ∙ ap (λ (z : List Opening). w.opening ++ z) (ap (added next) asks.1 ∙ line_adds next asks.0 x) in
        let counts : count_added t ≡ opened_by (Some x) = ap count_added asks.1 ∙ line_counts asks.0 x in
        go (next + count_added t) t (next_turned next w t may h) e
        ∙ ap (λ (z : List Opening). z ++ openings_from (next + count_added t) ls) adds
        ∙ ap (λ (c : ℕ). (w.opening ++ first) ++ openings_from (next + c) ls) counts
        ∙ append_assoc w.opening first (openings_from (next + opened_by (Some x)) ls)

    by_line : (o : Option Line) → line_of l ≡ o → ((more : ℕ) (t : Turn) → HasNext more (turned w t) → run_from (turned w t) (n + 1) ls ≡ Ok v → v.opening ≡ (turned w t).opening ++ openings_from more ls) → ran_by w n ls (asked_by w n o) ≡ Ok v → v.opening ≡ w.opening ++ behind next o ls
    by_line None read go e = no_world _ v e
    by_line (Some x) read go e = by_turn x read (asked w n x) refl go e

pub opening_said : (input : List ℕ) (w : World) → run input ≡ Ok w → w.opening ≡ openings_of (lines_of input)
opening_said input w e = lines_add 2 1 start w (lines_of input) next_first e
