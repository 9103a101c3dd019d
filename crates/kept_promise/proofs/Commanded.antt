-- What happens in a run, deliveries apart, is what its lines tell, and the commands are those of its `do` lines.
use Rattle.std.proofs.Common.{◌≡◌, ℕ, zero, suc, ◌+◌, List, [], ◌∷◌, ◌++◌, Option, Some, None, Bool, true, false, refl, sym, ap, ◌∙◌, append_assoc, Result, Ok, Err, map, take}
use Rattle.trace_text.specs.declared.line.Line.TheVariants as line
use Rattle.trace_replay.specs.declared.turn.Turn.TheVariants as turn
use Rattle.trace_replay.specs.Trail.{told_in, event_by, events_of, told_by, told_of, command_by, commands_of}
use Rattle.kept_promise.proofs.Common.{flat_map, fed, lines_of, Command, line_of, Line, LineFault, Turn, Event, Event.Joins, Event.Does, Event.Serves, Event.Hears, Event.Settles, Event.Cuts, Event.Hangs, numbered, World, Wire, start, happened, up_taken, down_taken, up_length, down_length, up_all, round, is_still, at_events, count_of, asked, asked_by, turned, run_from, run, Moment, Deed, deed_by, deeds_from, deeds_of, step_of, moments_of, up_moments_at, up_moments, down_moments_at, down_moments, round_moments, passes_moments, turn_moments, moments_from, moments, Event.RawJoins, taken_up}
use Rattle.kept_promise.proofs.RunsAsked.{turn_of, asked_turn}
use Rattle.kept_promise.proofs.RunsResults.{no_world, ran_by, moments_by}

-- ---- of moments

both_told : (xs ys : List Moment) (a b : List Event) → told_of xs ≡ a → told_of ys ≡ b → told_of (xs ++ ys) ≡ a ++ b
both_told [] ys a b e f = ap (λ (z : List Event). z ++ told_of ys) e ∙ ap (λ (z : List Event). a ++ z) f
both_told (x ∷ xs) ys a b e f =
    ap (λ (z : List Event). told_by x.event ++ z) (both_told xs ys (told_of xs) b refl f)
    ∙ sym (append_assoc (told_by x.event) (told_of xs) b)
    ∙ ap (λ (z : List Event). z ++ b) e

-- ---- of a turn

serves_told : (w : World) (n now : ℕ) (rs : List (List ℕ)) → told_of (moments_of w (map (Serves n now) rs)) ≡ []
serves_told w n now [] = refl
serves_told w n now (r ∷ rs) = serves_told (happened w (Serves n now r)) n now rs

hears_told : (w : World) (n now : ℕ) (rs : List (List ℕ)) → told_of (moments_of w (map (Hears n now) rs)) ≡ []
hears_told w n now [] = refl
hears_told w n now (r ∷ rs) = hears_told (happened w (Hears n now r)) n now rs

up_told : (w : World) (n count now : ℕ) → told_of (up_moments w n count now) ≡ []
up_told w n count now = by (numbered w.wires n)
  where
    by : (o : Option Wire) → told_of (up_moments_at w n count now o) ≡ []
    by None = refl
    by (Some q) = serves_told (up_taken w n count q) n now (taken_up (fed q.server_end (take count q.up)).1)

down_told : (w : World) (n count now : ℕ) → told_of (down_moments w n count now) ≡ []
down_told w n count now = by (numbered w.wires n)
  where
    by : (o : Option Wire) → told_of (down_moments_at w n count now o) ≡ []
    by None = refl
    by (Some q) = hears_told (down_taken w n count q) n now (fed q.client_end (take count q.down)).1.records

round_told : (w : World) (n server at : ℕ) → told_of (round_moments w n server at) ≡ []
round_told w n server at =
    let v : World = up_all w n server in
    let up = up_length (numbered w.wires n) in
    let down = down_length (numbered v.wires n) in
    both_told (up_moments w n up server) (down_moments v n down at) [] [] (up_told w n up server) (down_told v n down at)

passes_told : (k : ℕ) (w : World) (n server at : ℕ) → told_of (passes_moments k w n server at) ≡ []
passes_told zero w n server at = refl
passes_told (suc k) w n server at = by (is_still w n) (passes_told k (round w n server at) n server at)
  where
    later : List Moment
    later = passes_moments k (round w n server at) n server at

    by : (b : Bool) → told_of later ≡ [] → told_of (elim b as (λ (x : Bool). List Moment) [ true ↦ [] | false ↦ round_moments w n server at ++ later ]) ≡ []
    by true e = refl
    by false e = both_told (round_moments w n server at) later [] [] (round_told w n server at) e

abbrev turn_told : Turn → List Event
turn_told (turn.Join c) = Joins c ∷ []
turn_told (turn.Do c now d) = Does c now d ∷ []
turn_told (turn.Settle now) = Settles now ∷ []
turn_told (turn.Cut c) = Cuts c ∷ []
turn_told (turn.Hang n) = Hangs n ∷ []
turn_told turn.RawJoin = RawJoins ∷ []
turn_told t = []

turn_tells : (w : World) (t : Turn) → told_of (turn_moments w t) ≡ turn_told t
turn_tells w (turn.Up n a now) = up_told (at_events w) n (count_of a (up_length (numbered w.wires n))) now
turn_tells w (turn.Down n a now) = down_told (at_events w) n (count_of a (down_length (numbered w.wires n))) now
turn_tells w (turn.Pass n k server at) = passes_told k (at_events w) n server at
turn_tells w _ = refl

-- ---- of a line

line_tells : (dir : ℕ) (l : Line) → turn_told (turn_of dir l) ≡ event_by (Some l)
line_tells dir line.Skipped = refl
line_tells dir _ = refl

-- ---- of all lines

abbrev Later : ℕ → (w v : World) → List (List ℕ) → Type 0
Later n w v ls = (t : Turn) → run_from (turned w t) (n + 1) ls ≡ Ok v → told_of (moments_from (turned w t) (n + 1) ls) ≡ events_of ls

lines_tell : (n : ℕ) (w v : World) (ls : List (List ℕ)) → run_from w n ls ≡ Ok v → told_of (moments_from w n ls) ≡ events_of ls
lines_tell n w v [] e = refl
lines_tell n w v (l ∷ ls) e = by_line (line_of l) (λ t. lines_tell (n + 1) (turned w t) v ls) e
  where
    by_turn : (x : Line) (r : Result Turn LineFault) → asked w n x ≡ r → Later n w v ls → ran_by w n ls r ≡ Ok v → told_of (moments_by w n ls r) ≡ event_by (Some x) ++ events_of ls
    by_turn x (Err f) is go e = no_world _ v e
    by_turn x (Ok t) is go e =
        both_told (turn_moments w t) (moments_from (turned w t) (n + 1) ls) (event_by (Some x)) (events_of ls) (turn_tells w t ∙ ap turn_told (asked_turn w n x t is).1 ∙ line_tells (asked_turn w n x t is).0 x) (go t e)

    by_line : (o : Option Line) → Later n w v ls → ran_by w n ls (asked_by w n o) ≡ Ok v → told_of (moments_by w n ls (asked_by w n o)) ≡ event_by o ++ events_of ls
    by_line None go e = no_world _ v e
    by_line (Some x) go e = by_turn x (asked w n x) refl go e

pub events_said : (input : List ℕ) (w : World) → run input ≡ Ok w → told_of (moments input) ≡ events_of (lines_of input)
events_said input w e = lines_tell 1 start w (lines_of input) e

-- ---- the commands among them

abbrev Told : Type 0
Told = ℕ × Command

abbrev commanded : Event → List Told
commanded (Does c now d) = (c, d) ∷ []
commanded e = []

deeds_told : (past ms : List Moment) → map told_in (deeds_from past ms) ≡ flat_map commanded (told_of ms)
deeds_told past [] = refl
deeds_told past (m ∷ ms) = by m.event (deeds_from (past ++ m ∷ []) ms) (told_of ms) (deeds_told (past ++ m ∷ []) ms)
  where
    by : (e : Event) (ds : List Deed) (es : List Event) → map told_in ds ≡ flat_map commanded es → map told_in (deed_by past m.before e ++ ds) ≡ flat_map commanded (told_by e ++ es)
    by (Does c now d) ds es h = ap (λ (z : List Told). (c, d) ∷ z) h
    by _ ds es h = h

lines_told : (ls : List (List ℕ)) → flat_map commanded (events_of ls) ≡ commands_of ls
lines_told [] = refl
lines_told (l ∷ ls) = by (line_of l) ∙ ap (λ (z : List Told). command_by (line_of l) ++ z) (lines_told ls)
  where
    by_line : (x : Line) → flat_map commanded (event_by (Some x) ++ events_of ls) ≡ command_by (Some x) ++ flat_map commanded (events_of ls)
    by_line line.Skipped = refl
    by_line _ = refl

    by : (o : Option Line) → flat_map commanded (event_by o ++ events_of ls) ≡ command_by o ++ flat_map commanded (events_of ls)
    by None = refl
    by (Some x) = by_line x

pub commands_said : (input : List ℕ) (w : World) → run input ≡ Ok w → map told_in (deeds_of (moments input)) ≡ commands_of (lines_of input)
commands_said input w e = deeds_told [] (moments input) ∙ ap (λ (z : List Event). flat_map commanded z) (events_said input w e) ∙ lines_told (lines_of input)
