-- The server's last readings at the moments of a trace that is accepted never fall, and what its clients' moments note keeps the clock rule.
use Rattle.std.proofs.Common.{◌≡◌, inl, inr, ℕ, zero, suc, ◌+◌, ◌≤◌, List, [], ◌∷◌, ◌++◌, Option, Some, None, Result, Ok, Err, Bool, true, false, refl, sym, ap, ◌∙◌, subst, arith, map}
use Rattle.std.specs.Prelude.{All, AllPairs, slice_get, take}
use Rattle.std.specs.List.{AllByRecursion}
use Rattle.std.proofs.lemmas.List.{append-nil}
use Rattle.clock_rule.specs.Clocks.{Clocked, read_at}
use Rattle.clock_rule.specs.Keeping.{KeepRule, KeptSoFar, and_reading, at_first}
use Rattle.clock_rule.specs.declared.rule.ClockFault.{ClockFault}
use Rattle.clock_rule.specs.declared.rule.Note.{Note as Noted}
use Rattle.clock_rule.specs.declared.rule.Reading.{Reading}
use Rattle.clock_rule.specs.declared.rule.Reading.TheVariants as reads
use Rattle.clock_rule.proofs.lemmas.Keeping.{pairs_head, pairs_tail, kept_taken, kept_at_start}
use Rattle.trace_text.specs.declared.line.Line.TheVariants as line
use Rattle.trace_replay.specs.declared.stage.Stage.{Stage}
use Rattle.trace_replay.specs.declared.stage.Stage.TheVariants as stage
use Rattle.trace_replay.specs.declared.turn.Turn.TheVariants as turn
use Rattle.trace_replay.specs.Timed.{Timed, Times, down_timing, pass_timing, timing_of, read_by, times_with, with_times, times_if, timed_by, timed_turn, timed_start, accepted_from}
use Rattle.trace_replay.specs.Run.{refused, is_owned_at}
use Rattle.lease_law.specs.Claims.{noted_at, IsAmong}
use Rattle.lease_law.proofs.lemmas.Claiming.{all_among}
use Rattle.kept_promise.proofs.Common.{lines_of, line_of, Line, LineFault, Grammar, Refused, Turn, Session, Event.Serves, Event.Hears, numbered, World, Wire, happened, fed, up_all, up_length, down_length, up_taken, down_taken, is_still, round, at_events, count_of, asks_if, event_asks, asks_at, asks, asked, asked_by, turned, in_header, owners_of, accepted, Moment, moments_of, up_moments_at, up_moments, down_moments_at, down_moments, round_moments, passes_moments, turn_moments, moments_from, moments, nat_le, line_most}
use Rattle.kept_promise.proofs.lemmas.Owners.{TurnedTo, turned_to, header_of, header_after, stage_after, happened_same, up_same, round_same}
use Rattle.kept_promise.proofs.Readings.{HasRoom}
use Rattle.kept_promise.proofs.RunsAsked.{turn_of, asked_turn, within}
use Rattle.kept_promise.proofs.RunsResults.{asking, refused_line, no_world, ended_is}
use Rattle.kept_promise.proofs.RecallsKept.{all_map, all_join}
use Rattle.kept_promise.proofs.Claimed.{noted_of, noted_in, IsReadAt, KeepsWith, AreClocked}
use Rattle.trace_replay.specs.Delivery.{taken_up}

-- ---- lists

abbrev AllAmong : List Noted → List Noted → Type 0
AllAmong xs ys = AllByRecursion (λ x. IsAmong x ys) xs

pub among_left : (x : Noted) (xs ys : List Noted) → IsAmong x xs → IsAmong x (xs ++ ys)
among_left x [] ys h = absurd h
among_left x (z ∷ xs) ys (inl e) = inl e
among_left x (z ∷ xs) ys (inr h) = inr (among_left x xs ys h)

pub among_right : (x : Noted) (xs ys : List Noted) → IsAmong x ys → IsAmong x (xs ++ ys)
among_right x [] ys h = h
among_right x (z ∷ xs) ys h = inr (among_right x xs ys h)

last_all : {A : Type 0} (P : A → Type 0) (xs : List A) (x : A) → All P (xs ++ x ∷ []) → P x
last_all P [] x h = h zero x (omega arith)
last_all P (y ∷ ys) x h = last_all P ys x (λ i d inside. h (suc i) d (omega (arith, inside)))

-- all with the last
pairs_last : {A : Type 0} (R : A → A → Type 0) (xs : List A) (x : A) → R x x → AllPairs R (xs ++ x ∷ []) → AllByRecursion (λ n. R n x) (xs ++ x ∷ [])
pairs_last R [] x own h = (own, tt)
pairs_last R (y ∷ ys) x own h = (last_all (R y) ys x (pairs_head R y (ys ++ x ∷ []) h), pairs_last R ys x own (pairs_tail R y (ys ++ x ∷ []) h))

keeps_itself : (term drift : ℕ) (x : Noted) → KeepRule term drift x x
keeps_itself term drift x = record { server = omega arith; client = λ e. omega arith; apart = λ e le. omega arith }

-- ---- a line with its reading

abbrev clock_header : Clocked → ℕ × ℕ
clock_header c = (c.term, c.drift)

-- the clocks before a line and behind it, and what it notes
record Reads (clocks new : Clocked) (fresh : List Noted) : Type 0 where
  pub kept : KeptSoFar new
  pub header : clock_header new ≡ clock_header clocks
  pub up : clocks.server ≤ new.server
  pub notes : new.notes ≡ clocks.notes ++ fresh
  pub rule : (x : Noted) → IsAmong x fresh → AllByRecursion (λ n. KeepRule new.term new.drift n x) (clocks.notes ++ fresh)

abbrev fresh_by : Reading → (server : ℕ) → List Noted
fresh_by (reads.Server s) at = []
fresh_by (reads.Client c r) at = noted_at c r at ∷ []
fresh_by (reads.Both s c r) at = noted_at c r at ∷ []

reads_none : (clocks : Clocked) → KeptSoFar clocks → Reads clocks clocks []
reads_none clocks kept = record { kept = kept; header = refl; up = omega arith; notes = sym (append-nil clocks.notes); rule = λ x there. absurd there }

one_kept : (term drift : ℕ) (old : List Noted) (x : Noted) → AllPairs (KeepRule term drift) (old ++ x ∷ []) → (y : Noted) → IsAmong y (x ∷ []) → AllByRecursion (λ n. KeepRule term drift n y) (old ++ x ∷ [])
one_kept term drift old x h y (inl e) = subst (λ (z : Noted). AllByRecursion (λ n. KeepRule term drift n z) (old ++ x ∷ [])) e (pairs_last (KeepRule term drift) old x (keeps_itself term drift x) h)
one_kept term drift old x h y (inr none) = absurd none

read_more : (clocks : Clocked) (r : Reading) → KeptSoFar (and_reading clocks r) → clocks.server ≤ (and_reading clocks r).server → Reads clocks (and_reading clocks r) (fresh_by r (and_reading clocks r).server)
read_more clocks (reads.Server s) kept up = record { kept = kept; header = refl; up = up; notes = sym (append-nil clocks.notes); rule = λ x there. absurd there }
read_more clocks (reads.Client c at) kept up = record { kept = kept; header = refl; up = up; notes = refl; rule = one_kept clocks.term clocks.drift clocks.notes (noted_at c at clocks.server) kept.pairs }
read_more clocks (reads.Both s c at) kept up = record { kept = kept; header = refl; up = up; notes = refl; rule = one_kept clocks.term clocks.drift clocks.notes (noted_at c at s) kept.pairs }

-- ---- the moments of a line

-- at this reading of the server's, and what is noted is among these
abbrev IsOfLine : (at : ℕ) → (fresh : List Noted) → Moment → Type 0
IsOfLine at fresh m = IsReadAt at m.event × AllAmong (noted_in at m.before m.event) fresh

serves_all : (w : World) (n now : ℕ) (fresh : List Noted) (rs : List (List ℕ)) → AllByRecursion (IsOfLine now fresh) (moments_of w (map (Serves n now) rs))
serves_all w n now fresh [] = tt
serves_all w n now fresh (r ∷ rs) = ((refl, tt), serves_all (happened w (Serves n now r)) n now fresh rs)

ups_all : (w : World) (n count now : ℕ) (fresh : List Noted) → AllByRecursion (IsOfLine now fresh) (up_moments w n count now)
ups_all w n count now fresh = by (numbered w.wires n)
  where
    by : (o : Option Wire) → AllByRecursion (IsOfLine now fresh) (up_moments_at w n count now o)
    by None = tt
    by (Some q) = serves_all (up_taken w n count q) n now fresh (taken_up (fed q.server_end (take count q.up)).1)

abbrev owner_of : Option Session → Option ℕ
owner_of None = None
owner_of (Some x) = Some x.owner

owner_got : (xs : List Session) (i : ℕ) → slice_get (map (λ (x : Session). x.owner) xs) i ≡ owner_of (slice_get xs i)
owner_got [] i = refl
owner_got (x ∷ xs) zero = refl
owner_got (x ∷ xs) (suc i) = owner_got xs i

owner_at : (xs : List Session) (n : ℕ) → numbered (map (λ (x : Session). x.owner) xs) n ≡ owner_of (numbered xs n)
owner_at xs zero = refl
owner_at xs (suc i) = owner_got xs i

noted_owner : (xs : List Session) (n owner now at : ℕ) → numbered (map (λ (x : Session). x.owner) xs) n ≡ Some owner → AllAmong (noted_of at now (numbered xs n)) (noted_at owner now at ∷ [])
noted_owner xs n owner now at e = by (numbered xs n) (sym (owner_at xs n) ∙ e)
  where
    is : (a b : ℕ) → ◌≡◌ {A = Option ℕ} (Some a) (Some b) → a ≡ b
    is a b e = cc

    by : (o : Option Session) → owner_of o ≡ Some owner → AllAmong (noted_of at now o) (noted_at owner now at ∷ [])
    by None e = tt
    by (Some x) e = (inl (ap (λ (i : ℕ). noted_at i now at) (sym (is x.owner owner e))), tt)

hears_all : (w : World) (n now at owner : ℕ) (rs : List (List ℕ)) → numbered (owners_of w) n ≡ Some owner → AllByRecursion (IsOfLine at (noted_at owner now at ∷ [])) (moments_of w (map (Hears n now) rs))
hears_all w n now at owner [] e = tt
hears_all w n now at owner (r ∷ rs) e =
    ((tt, noted_owner w.core.sessions n owner now at e), hears_all (happened w (Hears n now r)) n now at owner rs (ap (λ (os : List ℕ). numbered os n) (happened_same w (Hears n now r) tt).owners ∙ e))

downs_all : (w : World) (n count now at owner : ℕ) → numbered (owners_of w) n ≡ Some owner → AllByRecursion (IsOfLine at (noted_at owner now at ∷ [])) (down_moments w n count now)
downs_all w n count now at owner e = by (numbered w.wires n)
  where
    by : (o : Option Wire) → AllByRecursion (IsOfLine at (noted_at owner now at ∷ [])) (down_moments_at w n count now o)
    by None = tt
    by (Some q) = hears_all (down_taken w n count q) n now at owner (fed q.client_end (take count q.down)).1.records e

round_all : (w : World) (n server at owner : ℕ) → numbered (owners_of w) n ≡ Some owner → AllByRecursion (IsOfLine server (noted_at owner at server ∷ [])) (round_moments w n server at)
round_all w n server at owner e =
    all_join (IsOfLine server (noted_at owner at server ∷ [])) (up_moments w n (up_length (numbered w.wires n)) server) (down_moments (up_all w n server) n (down_length (numbered (up_all w n server).wires n)) at)
    (ups_all w n (up_length (numbered w.wires n)) server (noted_at owner at server ∷ []))
    (downs_all (up_all w n server) n (down_length (numbered (up_all w n server).wires n)) at server owner (ap (λ (os : List ℕ). numbered os n) (up_same w n (up_length (numbered w.wires n)) server).owners ∙ e))

passes_all : (k : ℕ) (w : World) (n server at owner : ℕ) → numbered (owners_of w) n ≡ Some owner → AllByRecursion (IsOfLine server (noted_at owner at server ∷ [])) (passes_moments k w n server at)
passes_all zero w n server at owner e = tt
passes_all (suc k) w n server at owner e = by (is_still w n) (passes_all k (round w n server at) n server at owner (ap (λ (os : List ℕ). numbered os n) (round_same w n server at).owners ∙ e))
  where
    by : (b : Bool) → AllByRecursion (IsOfLine server (noted_at owner at server ∷ [])) (passes_moments k (round w n server at) n server at)
        → AllByRecursion (IsOfLine server (noted_at owner at server ∷ [])) (elim b as (λ (x : Bool). List Moment) [ true ↦ [] | false ↦ round_moments w n server at ++ passes_moments k (round w n server at) n server at ])
    by true later = tt
    by false later = all_join (IsOfLine server (noted_at owner at server ∷ [])) (round_moments w n server at) (passes_moments k (round w n server at) n server at) (round_all w n server at owner e) later

-- ---- what a line of events reads

record EventLine (clocks new : Clocked) (w : World) (t : Turn) : Type 0 where
  pub fresh : List Noted
  pub reads : Reads clocks new fresh
  pub moments : AllByRecursion (IsOfLine new.server fresh) (turn_moments w t)
  pub header : (h : ℕ × ℕ) → header_after h t ≡ h
  pub stage : (s : Stage) → stage_after s t ≡ stage.Events

abbrev taking : Times → Result Times ClockFault
taking t = Ok t

times_are : (s t : Times) → taking s ≡ taking t → s ≡ t
times_are s t e = cc

no_times : {A : Type 0} (f : ClockFault) (t : Times) → Err f ≡ taking t → A
no_times f t e = absurd cc

module _ (times new : Times) (w : World) (kept : KeptSoFar times.clocks) where
  quiet_line : (t : Turn) → taking times ≡ taking new → turn_moments w t ≡ [] → ((h : ℕ × ℕ) → header_after h t ≡ h) → ((s : Stage) → stage_after s t ≡ stage.Events) → EventLine times.clocks new.clocks w t
  quiet_line t e none header at_stage = subst (λ (z : Times). EventLine times.clocks z.clocks w t) (times_are times new e) (record {
    fresh = [];
    reads = reads_none times.clocks kept;
    moments = subst (AllByRecursion (IsOfLine times.clocks.server [])) (sym none) tt;
    header = header;
    stage = at_stage;
  })

  read_line : (t : Turn) (r : Reading) → read_by times (read_at times.clocks r) ≡ taking new
      → AllByRecursion (IsOfLine (and_reading times.clocks r).server (fresh_by r (and_reading times.clocks r).server)) (turn_moments w t) → ((h : ℕ × ℕ) → header_after h t ≡ h) → ((s : Stage) → stage_after s t ≡ stage.Events) → EventLine times.clocks new.clocks w t
  read_line t r e of header at_stage = by (read_at times.clocks r) refl e
    where
      by : (x : Result Clocked ClockFault) → read_at times.clocks r ≡ x → read_by times x ≡ taking new → EventLine times.clocks new.clocks w t
      by (Err f) is e = no_times f new e
      by (Ok c) is e =
          let h = kept_taken times.clocks c r kept is in
          let more = read_more times.clocks r (subst KeptSoFar h.more h.kept) (subst (λ (d : Clocked). times.clocks.server ≤ d.server) h.more h.server) in
          subst (λ (z : Times). EventLine times.clocks z.clocks w t) (times_are (record times { clocks = c }) new e)
          (subst (λ (d : Clocked). EventLine times.clocks d w t) (sym h.more) (record { fresh = fresh_by r (and_reading times.clocks r).server; reads = more; moments = of; header = header; stage = at_stage }))

  -- a session that something comes down is a client's
  there : {A : Type 0} (o : Option Session) (t u : Turn) → asks_if (is_owned_at o) u ≡ asking t → ((x : Session) → o ≡ Some x → A) → A
  there None t u e h = refused_line Grammar t e
  there (Some x) t u e h = h x refl

  owned : (n : ℕ) (x : Session) → numbered w.core.sessions n ≡ Some x → numbered (owners_of w) n ≡ Some x.owner
  owned n x at = owner_at w.core.sessions n ∙ ap owner_of at

  event_line : (l : Line) (dir : ℕ) → times_with times (timing_of (owners_of w) l) ≡ taking new → event_asks w.core l ≡ asking (turn_of dir l) → EventLine times.clocks new.clocks w (turn_of dir l)
  event_line (line.Join c r s) dir e a = read_line (turn.Join c) (reads.Both s c r) e ((tt, tt), tt) (λ h. refl) (λ s. refl)
  event_line (line.Do c r d) dir e a = read_line (turn.Do c r d) (reads.Client c r) e ((tt, (inl refl, tt)), tt) (λ h. refl) (λ s. refl)
  event_line (line.Up n x s) dir e a = read_line (turn.Up n x s) (reads.Server s) e (ups_all (at_events w) n (count_of x (up_length (numbered w.wires n))) s []) (λ h. refl) (λ s. refl)
  event_line (line.Down n x r) dir e a = there (numbered w.core.sessions n) (turn.Down n x r) (turn.Down n x r) a
      (λ z at. read_line (turn.Down n x r) (reads.Client z.owner r) (sym (ap (λ (o : Option ℕ). times_with times (down_timing r o)) (owned n z at)) ∙ e)
      (downs_all (at_events w) n (count_of x (down_length (numbered w.wires n))) r times.clocks.server z.owner (owned n z at)) (λ h. refl) (λ s. refl))
  event_line (line.Settle s) dir e a = read_line (turn.Settle s) (reads.Server s) e ((refl, tt), tt) (λ h. refl) (λ s. refl)
  event_line (line.Cut c r) dir e a = read_line (turn.Cut c) (reads.Client c r) e ((tt, tt), tt) (λ h. refl) (λ s. refl)
  event_line (line.RawJoin s) dir e a = read_line turn.RawJoin (reads.Server s) e ((tt, tt), tt) (λ h. refl) (λ s. refl)
  event_line (line.Raw n bytes) dir e a = quiet_line (turn_of dir (line.Raw n bytes)) e refl (λ h. refl) (λ s. refl)
  event_line (line.Hang n s) dir e a = read_line (turn.Hang n) (reads.Server s) e ((tt, tt), tt) (λ h. refl) (λ s. refl)
  event_line (line.Pass n k s r) dir e a = there (numbered w.core.sessions n) (turn.Pass n k s r) (turn.Pass n k s r) a
      (λ z at. read_line (turn.Pass n k s r) (reads.Both s z.owner r) (sym (ap (λ (o : Option ℕ). times_with times (pass_timing s r o)) (owned n z at)) ∙ e)
      (passes_all k (at_events w) n s r z.owner (owned n z at)) (λ h. refl) (λ s. refl))
  event_line (line.Forge u key file offset count) dir e a = quiet_line (turn_of dir (line.Forge u key file offset count)) e refl (λ h. refl) (λ s. refl)
  event_line (line.Clear u) dir e a = quiet_line (turn_of dir (line.Clear u)) e refl (λ h. refl) (λ s. refl)
  event_line (line.Evict c file) dir e a = quiet_line (turn_of dir (line.Evict c file)) e refl (λ h. refl) (λ s. refl)
  event_line (line.Warm c content) dir e a = quiet_line (turn_of dir (line.Warm c content)) e refl (λ h. refl) (λ s. refl)
  event_line l dir e a = refused_line Grammar (turn_of dir l) a

-- ---- all moments

abbrev Rest : (w : World) → (clock : ℕ) → List Noted → List Moment → Type 0
Rest w clock noted ms = (ats : List ℕ) × AreClocked w.core.server.leasing.term w.core.drift clock noted ats ms

line_on : (w : World) (at : ℕ) (all fresh : List Noted) → ((x : Noted) → IsAmong x fresh → AllByRecursion (λ n. KeepRule w.core.server.leasing.term w.core.drift n x) all) → ((x : Noted) → IsAmong x fresh → IsAmong x all)
    → (ms rest : List Moment) → AllByRecursion (IsOfLine at fresh) ms → ((clock : ℕ) (noted : List Noted) → clock ≤ at → AllAmong noted all → Rest w clock noted rest)
    → (clock : ℕ) (noted : List Noted) → clock ≤ at → AllAmong noted all → Rest w clock noted (ms ++ rest)
line_on w at all fresh rule own [] rest h then_ clock noted le among = then_ clock noted le among
line_on w at all fresh rule own (m ∷ ms) rest h then_ clock noted le among =
    let term = w.core.server.leasing.term in
    let more = noted_in at m.before m.event in
    let r = line_on w at all fresh rule own ms rest h.1 then_ at (noted ++ more) (omega arith) (all_join (λ x. IsAmong x all) noted more among (all_map (λ x. IsAmong x fresh) (λ x. IsAmong x all) more own h.0.1)) in (
      at ∷ r.0,
      (
        record {
          after = le;
          read = h.0.0;
          rule = all_map (λ x. IsAmong x fresh) (KeepsWith term w.core.drift noted) more (λ x there. all_map (λ n. IsAmong n all) (λ n. KeepRule term w.core.drift n x) noted (λ n i. all_among (λ k. KeepRule term w.core.drift k x) n all (rule x there) i) among) h.0.1;
        },
        r.1,
      ),
    )

-- ---- how far the clocks have come at a stage

record IsOn (v : Timed) (clock : ℕ) (noted : List Noted) : Type 0 where
  pub header : clock_header v.times.clocks ≡ header_of v.world.core
  pub kept : KeptSoFar v.times.clocks
  pub up : clock ≤ v.times.clocks.server
  pub among : AllAmong noted v.times.clocks.notes

abbrev IsAt : Stage → Timed → (clock : ℕ) → List Noted → Type 0
IsAt stage.Version v clock noted = (clock ≡ 0) × (noted ≡ [])
IsAt stage.Term v clock noted = (clock ≡ 0) × (noted ≡ [])
IsAt stage.Drift v clock noted = (clock ≡ 0) × (noted ≡ []) × (v.times.term ≡ v.world.core.server.leasing.term)
IsAt stage.Clients v clock noted = IsOn v clock noted
IsAt stage.Files v clock noted = IsOn v clock noted
IsAt stage.Events v clock noted = IsOn v clock noted

abbrev is_on : Stage → Bool
is_on stage.Version = false
is_on stage.Term = false
is_on stage.Drift = false
is_on s = true

-- what comes of the moments that are left, and the header of the end
abbrev Ends : (v : Timed) (w : World) (ms : List Moment) (clock : ℕ) (noted : List Noted) → Type 0
Ends v w ms clock noted = Rest w clock noted ms × (is_on v.world.stage ≡ true → header_of w.core ≡ header_of v.world.core)

abbrev Goes : (v : Timed) (w : World) (ms : List Moment) → Type 0
Goes v w ms = (clock : ℕ) (noted : List Noted) → IsAt v.world.stage v clock noted → Ends v w ms clock noted

-- before the first client none is on
off : {A : Type 0} (s z : Stage) → z ≡ s → is_on s ≡ false → is_on z ≡ true → A
off s z e none on = let k : false ≡ true = sym none ∙ subst (λ (y : Stage). is_on y ≡ true) e on in absurd cc

pair_is : (p q : ℕ × ℕ) → p ≡ q → (p.0 ≡ q.0) × (p.1 ≡ q.1)
pair_is p q e = (ap (λ (p : ℕ × ℕ). p.0) e, ap (λ (p : ℕ × ℕ). p.1) e)

-- ---- one line

module _ (v : Timed) (w : World) (t : Turn) (times : Times) (rest : List Moment) where
  abbrev next_ : Timed
  next_ = timed_turn v (t, times)

  -- where the clocks go on
  on_line : (to : TurnedTo v.world (turned v.world t) t true) → ((h : ℕ × ℕ) → header_after h t ≡ h) → is_on (turned v.world t).stage ≡ true → ((clock : ℕ) (noted : List Noted) → IsOn next_ clock noted → IsAt (turned v.world t).stage next_ clock noted)
      → (fresh : List Noted) → Reads v.times.clocks times.clocks fresh → AllByRecursion (IsOfLine times.clocks.server fresh) (turn_moments v.world t)
      → Goes next_ w rest → (clock : ℕ) (noted : List Noted) → IsOn v clock noted → Ends v w (turn_moments v.world t ++ rest) clock noted
  on_line to header later enter fresh r of then_ clock noted on = (line_on w times.clocks.server times.clocks.notes fresh rule own (turn_moments v.world t) rest of go clock noted (omega (arith, on.up, r.up)) first, λ q. (then_ times.clocks.server [] (enter times.clocks.server [] (on_then times.clocks.server [] (omega arith) tt))).1 later ∙ same_header)
    where
      same_header : header_of (turned v.world t).core ≡ header_of v.world.core
      same_header = to.header ∙ header (header_of v.world.core)

      on_then : (c : ℕ) (ns : List Noted) → c ≤ times.clocks.server → AllAmong ns times.clocks.notes → IsOn next_ c ns
      on_then c ns le among = record { header = r.header ∙ on.header ∙ sym same_header; kept = r.kept; up = le; among = among }

      go : (c : ℕ) (ns : List Noted) → c ≤ times.clocks.server → AllAmong ns times.clocks.notes → Rest w c ns rest
      go c ns le among = (then_ c ns (enter c ns (on_then c ns le among))).0

      ended : header_of w.core ≡ clock_header times.clocks
      ended = (then_ times.clocks.server [] (enter times.clocks.server [] (on_then times.clocks.server [] (omega arith) tt))).1 later ∙ same_header ∙ sym on.header ∙ sym r.header

      rule : (x : Noted) → IsAmong x fresh → AllByRecursion (λ n. KeepRule w.core.server.leasing.term w.core.drift n x) times.clocks.notes
      rule x there =
          let p = pair_is (header_of w.core) (clock_header times.clocks) ended in
          subst (λ (ns : List Noted). AllByRecursion (λ n. KeepRule w.core.server.leasing.term w.core.drift n x) ns) (sym r.notes)
          (subst (λ (a : ℕ). AllByRecursion (λ n. KeepRule a w.core.drift n x) (v.times.clocks.notes ++ fresh)) (sym p.0)
          (subst (λ (b : ℕ). AllByRecursion (λ n. KeepRule times.clocks.term b n x) (v.times.clocks.notes ++ fresh)) (sym p.1) (r.rule x there)))

      own : (x : Noted) → IsAmong x fresh → IsAmong x times.clocks.notes
      own x there = subst (IsAmong x) (sym r.notes) (among_right x v.times.clocks.notes fresh there)

      first : AllAmong noted times.clocks.notes
      first = all_map (λ x. IsAmong x v.times.clocks.notes) (λ x. IsAmong x times.clocks.notes) noted (λ x there. subst (IsAmong x) (sym r.notes) (among_left x v.times.clocks.notes fresh there)) on.among

abbrev header_with : ℕ → ℕ → ℕ × ℕ
header_with a b = (a, b)

-- ---- any line

module _ (v : Timed) (w : World) (times : Times) (rest : List Moment) where
  abbrev StepsOn : (dir : ℕ) → Line → Stage → Type 0
  StepsOn dir x s = TurnedTo v.world (turned v.world (turn_of dir x)) (turn_of dir x) true → Goes (timed_turn v (turn_of dir x, times)) w rest
      → (clock : ℕ) (noted : List Noted) → IsAt s v clock noted → Ends v w (turn_moments v.world (turn_of dir x) ++ rest) clock noted

  -- one that reads no clock
  still_line : (t : Turn) (s : Stage) → is_on s ≡ true → (turned v.world t).stage ≡ s → ((clock : ℕ) (noted : List Noted) → IsOn (timed_turn v (t, times)) clock noted → IsAt s (timed_turn v (t, times)) clock noted) → taking v.times ≡ taking times → turn_moments v.world t ≡ []
      → ((h : ℕ × ℕ) → header_after h t ≡ h) → TurnedTo v.world (turned v.world t) t true → Goes (timed_turn v (t, times)) w rest → (clock : ℕ) (noted : List Noted) → IsOn v clock noted → Ends v w (turn_moments v.world t ++ rest) clock noted
  still_line t s late is enter e none header to then_ clock noted on =
      on_line v w t times rest to header (ap is_on is ∙ late) (λ c ns h. subst (λ (z : Stage). IsAt z (timed_turn v (t, times)) c ns) (sym is) (enter c ns h)) []
      (subst (λ (z : Times). Reads v.times.clocks z.clocks []) (times_are v.times times e) (reads_none v.times.clocks on.kept))
      (subst (AllByRecursion (IsOfLine times.clocks.server [])) (sym none) tt) then_ clock noted on

  -- one of events
  late_line : (x : Line) (dir : ℕ) → event_asks v.world.core x ≡ asking (turn_of dir x) → times_with v.times (timing_of (owners_of v.world) x) ≡ taking times
      → TurnedTo v.world (turned v.world (turn_of dir x)) (turn_of dir x) true → Goes (timed_turn v (turn_of dir x, times)) w rest → (clock : ℕ) (noted : List Noted) → IsOn v clock noted → Ends v w (turn_moments v.world (turn_of dir x) ++ rest) clock noted
  late_line x dir a e to then_ clock noted on =
      let h = event_line v.times times v.world on.kept x dir e a in
      let is : (turned v.world (turn_of dir x)).stage ≡ stage.Events = to.stage ∙ h.stage v.world.stage in
      on_line v w (turn_of dir x) times rest to h.header (ap is_on is) (λ c ns k. subst (λ (z : Stage). IsAt z (timed_turn v (turn_of dir x, times)) c ns) (sym is) k) h.fresh h.reads h.moments then_ clock noted on

  stage_line : (s : Stage) → v.world.stage ≡ s → (x : Line) (dir : ℕ) → asks_at v.world s x ≡ asking (turn_of dir x) → times_with v.times (timing_of (owners_of v.world) x) ≡ taking times → StepsOn dir x s
  stage_line stage.Version is (line.Version b) dir a e to then_ clock noted h = ((then_ clock noted h).0, λ q. off stage.Version v.world.stage is refl q)
  stage_line stage.Term is (line.Term n) dir a e to then_ clock noted h =
      ((then_ clock noted (h.0, h.1, ap (λ (z : Times). z.term) (sym (times_are (record v.times { term = n }) times e)))).0, λ q. off stage.Term v.world.stage is refl q)
  stage_line stage.Drift is (line.Drift d) dir a e to then_ clock noted h =
      let zero_ = h.0 in
      let on = subst (λ (z : Times). IsOn (timed_turn v (turn.Drift d, z)) clock noted) (times_are (record v.times { clocks = at_first v.times.term d }) times e) (record {
        header = ap (λ (a : ℕ). header_with a d) h.2;
        kept = kept_at_start v.times.term d;
        up = omega (arith, zero_);
        among = subst (λ (ns : List Noted). AllAmong ns []) (sym h.1) tt;
      }) in
      ((then_ clock noted on).0, λ q. off stage.Drift v.world.stage is refl q)
  stage_line stage.Clients is (line.Clients n) dir a e to then_ clock noted h = still_line (turn.Clients n) stage.Files refl refl (λ c ns k. k) e refl (λ h. refl) to then_ clock noted h
  stage_line stage.Files is (line.Dir spot) dir a e to then_ clock noted h = still_line (turn.Dir dir spot.name) stage.Files refl (to.stage ∙ is) (λ c ns k. k) e refl (λ h. refl) to then_ clock noted h
  stage_line stage.Files is (line.File spot content) dir a e to then_ clock noted h = still_line (turn.File dir spot.name content) stage.Files refl (to.stage ∙ is) (λ c ns k. k) e refl (λ h. refl) to then_ clock noted h
  stage_line stage.Files is x dir a e to then_ clock noted h = late_line x dir a e to then_ clock noted h
  stage_line stage.Events is x dir a e to then_ clock noted h = late_line x dir a e to then_ clock noted h
  stage_line s is x dir a e to then_ clock noted h = refused_line Grammar (turn_of dir x) a

  any_line : (x : Line) (dir : ℕ) → asks v.world x ≡ asking (turn_of dir x) → times_with v.times (timing_of (owners_of v.world) x) ≡ taking times → TurnedTo v.world (turned v.world (turn_of dir x)) (turn_of dir x) true
      → Goes (timed_turn v (turn_of dir x, times)) w rest → Goes v w (turn_moments v.world (turn_of dir x) ++ rest)
  any_line line.Skipped dir a e to then_ clock noted h = subst (λ (z : Times). Goes (record { world = v.world; times = z }) w rest) (sym (times_are v.times times e)) then_ clock noted h
  any_line x dir a e to then_ clock noted h = stage_line v.world.stage refl x dir a e to then_ clock noted h

-- ---- all lines

abbrev accepted_by : Timed → ℕ → List (List ℕ) → Result (Turn × Times) LineFault → Result World Refused
accepted_by v n ls r = elim r [ Err f ↦ Err (refused n f) | Ok t ↦ accepted_from (timed_turn v t) (n + 1) ls ]

abbrev moments_with : World → ℕ → List (List ℕ) → Result Turn LineFault → List Moment
moments_with w n ls r = elim r [ Err f ↦ [] | Ok t ↦ turn_moments w t ++ moments_from (turned w t) (n + 1) ls ]

abbrev Later : (Inv : ℕ → World → Type 0) (v : Timed) (n : ℕ) (ls : List (List ℕ)) (w : World) → Type 0
Later Inv v n ls w = (t : Turn) (times : Times) → Inv (n + 1) (turned v.world t) → accepted_from (timed_turn v (t, times)) (n + 1) ls ≡ Ok w → Goes (timed_turn v (t, times)) w (moments_from (turned v.world t) (n + 1) ls)

clocked_from : (Inv : ℕ → World → Type 0) (room : HasRoom Inv) (v : Timed) (n : ℕ) (ls : List (List ℕ)) (w : World) → Inv n v.world → accepted_from v n ls ≡ Ok w → Goes v w (moments_from v.world n ls)
clocked_from Inv room v n [] w holds e = λ clock noted h. (([], tt), λ q. sym (ap (λ (z : World). header_of z.core) (ended_is v.world w n (in_header v.world.stage) e)))
clocked_from Inv room v n (l ∷ ls) w holds e = by_line (line_of l) refl (λ t times. clocked_from Inv room (timed_turn v (t, times)) (n + 1) ls w) e
  where
    by_times : (x : Line) (t : Turn) (r : Result Times ClockFault) → line_of l ≡ Some x → asked v.world n x ≡ Ok t → times_with v.times (timing_of (owners_of v.world) x) ≡ r → Later Inv v n ls w → accepted_by v n ls (with_times t r) ≡ Ok w
        → Goes v w (turn_moments v.world t ++ moments_from (turned v.world t) (n + 1) ls)
    by_times x t (Err f) read is said go e = no_world _ w e
    by_times x t (Ok times) read is said go e =
        let step = room.next n v.world l x t read holds is in
        let turn_ = asked_turn v.world n x t is in
        subst (λ (z : Turn). asks v.world x ≡ asking z → TurnedTo v.world (turned v.world z) z true → Goes (timed_turn v (z, times)) w (moments_from (turned v.world z) (n + 1) ls) → Goes v w (turn_moments v.world z ++ moments_from (turned v.world z) (n + 1) ls)) (sym turn_.1)
        (λ a to then_. any_line v w times (moments_from (turned v.world (turn_of turn_.0 x)) (n + 1) ls) x turn_.0 a said to then_)
        (within (nat_le n line_most) (asks v.world x) t is) (turned_to v.world t step.0) (go t times step.1 e)

    by_turn : (x : Line) (r : Result Turn LineFault) → line_of l ≡ Some x → asked v.world n x ≡ r → Later Inv v n ls w → accepted_by v n ls (times_if v.times (timing_of (owners_of v.world) x) r) ≡ Ok w → Goes v w (moments_with v.world n ls r)
    by_turn x (Err f) read is go e = no_world _ w e
    by_turn x (Ok t) read is go e = by_times x t (times_with v.times (timing_of (owners_of v.world) x)) read is refl go e

    by_line : (o : Option Line) → line_of l ≡ o → Later Inv v n ls w → accepted_by v n ls (timed_by v n o) ≡ Ok w → Goes v w (moments_with v.world n ls (asked_by v.world n o))
    by_line None read go e = no_world _ w e
    by_line (Some x) read go e = by_turn x (asked v.world n x) read refl go e

pub accepted_clocked : (Inv : ℕ → World → Type 0) (room : HasRoom Inv) (input : List ℕ) (w : World) → accepted input ≡ Ok w → (ats : List ℕ) × AreClocked w.core.server.leasing.term w.core.drift 0 [] ats (moments input)
accepted_clocked Inv room input w e = (clocked_from Inv room timed_start 1 (lines_of input) w room.first e 0 [] (refl, refl)).0
