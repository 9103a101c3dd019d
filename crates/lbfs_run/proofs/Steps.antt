-- Lines that are taken, one after the other.
use Rattle.std.proofs.Common.{◌≡◌, ◌⊎◌, ℕ, zero, suc, ◌+◌, ◌<◌, ◌≤◌, List, [], ◌∷◌, ◌++◌, length, Option, Some, None, Bool, true, false, refl, sym, ap, ◌∙◌, arith}
use Rattle.std.specs.Prelude.{Result, Ok, Err, map, nat_le, not, ◌==◌, slice_get}
use Rattle.std.proofs.lemmas.Bool.Decides.{nat_tests}
use Rattle.std.proofs.lemmas.List.{length-append}
use Rattle.clock_rule.specs.Keeping.{and_reading}
use Rattle.clock_rule.specs.declared.rule.ClockFault.{ClockFault}
use Rattle.clock_rule.specs.declared.rule.Reading.TheVariants as reads
use Rattle.command_text.specs.declared.command.Command.{Command}
use Rattle.trace_text.specs.Grammar.{line_of}
use Rattle.trace_text.specs.declared.line.Line.{Line}
use Rattle.trace_text.specs.declared.line.Line.TheVariants as line
use Rattle.trace_text.specs.declared.refusal.LineFault.{LineFault}
use Rattle.trace_replay.specs.declared.fault.Refused.{Refused}
use Rattle.trace_replay.specs.declared.stage.Stage.{Stage}
use Rattle.trace_replay.specs.declared.stage.Stage.TheVariants as stage
use Rattle.trace_replay.specs.declared.timing.Timing.TheVariants as timing
use Rattle.trace_replay.specs.declared.turn.Turn.{Turn}
use Rattle.trace_replay.specs.declared.turn.Turn.TheVariants as turn
use Rattle.trace_ends.specs.Session.{Session}
use Rattle.trace_ends.specs.Numbers.{numbered}
use Rattle.trace_replay.specs.World.{World}
use Rattle.trace_replay.specs.Run.{line_most, is_there, is_owned_at, asks_if, asks_at, asks, asks_within, at_events, refused}
use Rattle.trace_replay.specs.Timed.{Timed, Times, timing_of, pass_timing, owners_of, read_by, times_with, with_times, times_if, timed_by, timed_turn}
use Rattle.trace_replay.specs.Lines.{applied_from}
use Rattle.trace_replay.proofs.lemmas.Going.{applied_then}
use Rattle.kept_promise.proofs.lemmas.Owners.{turned_to}
use Rattle.lbfs_run.proofs.Ticks.{Ticks, server_later, server_read, client_later, client_read, both_later, both_read}
use Rattle.lbfs_run.proofs.Seats.{does_count, passes_count}

-- ---- a line

abbrev pub there_at : Timed → ℕ → Result (Timed × ℕ) Refused
there_at w m = Ok (w, m)

-- these lines, of which the first has the number n, are taken and lead there
abbrev pub Goes : (v : Timed) (n : ℕ) (lines : List (List ℕ)) (w : Timed) (m : ℕ) → Type 0
Goes v n lines w m = applied_from v n lines ≡ Ok (w, m)

abbrev applied_by : Timed → ℕ → Result (Turn × Times) LineFault → Result (Timed × ℕ) Refused
applied_by v n r = elim r [ Err f ↦ Err (refused n f) | Ok t ↦ applied_from (timed_turn v t) (n + 1) [] ]

pub taken : (v : Timed) (n : ℕ) (bytes : List ℕ) (l : Line) (t : Turn) (times : Times) → line_of bytes ≡ Some l → n ≤ line_most → asks v.world l ≡ Ok t → times_with v.times (timing_of (owners_of v.world) l) ≡ Ok times
    → Goes v n (bytes ∷ []) (timed_turn v (t, times)) (n + 1)
taken v n bytes l t times said few asked clock =
    let within : nat_le n line_most ≡ true = grind (arith, nat_tests, few) in
    ap (λ (o : Option Line). applied_by v n (timed_by v n o)) said
    ∙ ap (λ (r : Result Turn LineFault). applied_by v n (times_if v.times (timing_of (owners_of v.world) l) (asks_within (nat_le n line_most) r))) asked
    ∙ ap (λ (b : Bool). applied_by v n (times_if v.times (timing_of (owners_of v.world) l) (asks_within b (Ok t)))) within
    ∙ ap (λ (r : Result Times ClockFault). applied_by v n (with_times t r)) clock

-- ---- what stands while blocks are run

pub record Stands (v : Timed) (server at : ℕ) : Type 0 where
  pub stage : v.world.stage ≡ stage.Events
  pub owners : owners_of v.world ≡ 1 ∷ 2 ∷ 3 ∷ 4 ∷ []
  pub seats : length v.world.core.seats ≡ 4
  pub ticks : Ticks v.times.clocks server at

-- lines lead there
pub record Leads (v : Timed) (n : ℕ) (lines : List (List ℕ)) (server at : ℕ) : Type 0 where
  pub world : Timed
  pub goes : Goes v n lines world (n + length lines)
  pub stands : Stands world server at

pub no_lines : (v : Timed) (n server at : ℕ) → Stands v server at → Leads v n [] server at
no_lines v n server at h = record { world = v; goes = ap (there_at v) (plus_none n); stands = h }
  where
    plus_none : (n : ℕ) → n ≡ n + 0
    plus_none n = omega arith

pub line_first : (v w : Timed) (n : ℕ) (bytes : List ℕ) (lines : List (List ℕ)) (server at : ℕ) → Goes v n (bytes ∷ []) w (n + 1) → Leads w (n + 1) lines server at → Leads v n (bytes ∷ lines) server at
line_first v w n bytes lines server at goes later = record {
  world = later.world;
  goes = applied_then v w n (n + 1) (bytes ∷ []) lines goes ∙ later.goes ∙ ap (there_at later.world) (one_more n (length lines));
  stands = later.stands;
}
  where
    one_more : (n k : ℕ) → n + 1 + k ≡ n + suc k
    one_more n k = omega arith

pub lines_then : (v : Timed) (n : ℕ) (xs ys : List (List ℕ)) (server at later until : ℕ) → (h : Leads v n xs server at) → Leads h.world (n + length xs) ys later until → Leads v n (xs ++ ys) later until
lines_then v n xs ys server at later until h next = record {
  world = next.world;
  goes = applied_then v h.world n (n + length xs) xs ys h.goes ∙ next.goes ∙ ap (there_at next.world) (all n (length xs) (length ys) (length (xs ++ ys)) (length-append xs ys));
  stands = next.stands;
}
  where
    all : (n a b c : ℕ) → c ≡ a + b → n + a + b ≡ n + c
    all n a b c e = omega (arith, e)

-- ---- clients and their sessions

abbrev pub IsClient : ℕ → Type 0
IsClient c = (1 ≤ c) × (c ≤ 4)

found : {A : Type 0} (xs : List A) (i : ℕ) → i < length xs → is_there (slice_get xs i) ≡ true
found [] i h = absurd (omega (arith, h))
found (x ∷ xs) zero h = refl
found (x ∷ xs) (suc i) h = found xs i (omega (arith, h))

there : {A : Type 0} (xs : List A) (c : ℕ) → length xs ≡ 4 → IsClient c → is_there (numbered xs c) ≡ true
there xs zero four c = absurd (omega (arith, c.0))
there xs (suc i) four c = found xs i (omega (arith, four, c.1))

own_session : (c : ℕ) → IsClient c → numbered (1 ∷ 2 ∷ 3 ∷ 4 ∷ []) c ≡ Some c
own_session zero c = absurd (omega (arith, c.0))
own_session (suc zero) c = refl
own_session (suc (suc zero)) c = refl
own_session (suc (suc (suc zero))) c = refl
own_session (suc (suc (suc (suc zero)))) c = refl
own_session (suc (suc (suc (suc (suc n))))) c = absurd (omega (arith, c.1))

-- whether a session with this owner is a client's
abbrev owned_by : Option ℕ → Bool
owned_by None = false
owned_by (Some owner) = not (owner == 0)

own_client : (c : ℕ) → IsClient c → owned_by (Some c) ≡ true
own_client zero c = absurd (omega (arith, c.0))
own_client (suc zero) c = refl
own_client (suc (suc zero)) c = refl
own_client (suc (suc (suc zero))) c = refl
own_client (suc (suc (suc (suc zero)))) c = refl
own_client (suc (suc (suc (suc (suc n))))) c = absurd (omega (arith, c.1))

owned_in : (xs : List Session) (i : ℕ) → is_owned_at (slice_get xs i) ≡ owned_by (slice_get (map (λ x. x.owner) xs) i)
owned_in [] i = refl
owned_in (x ∷ xs) zero = refl
owned_in (x ∷ xs) (suc i) = owned_in xs i

owned_numbered : (xs : List Session) (c : ℕ) → is_owned_at (numbered xs c) ≡ owned_by (numbered (map (λ x. x.owner) xs) c)
owned_numbered xs zero = refl
owned_numbered xs (suc i) = owned_in xs i

-- the session of a client's number is a client's
owned_session : (v : Timed) (server at client : ℕ) → Stands v server at → IsClient client → is_owned_at (numbered v.world.core.sessions client) ≡ true
owned_session v server at client h c =
    owned_numbered v.world.core.sessions client
    ∙ ap (λ (os : List ℕ). owned_by (numbered os client)) h.owners
    ∙ ap owned_by (own_session client c)
    ∙ own_client client c

-- ---- the lines of blocks

-- a command of a client
pub does_then : (v : Timed) (n server at client now later until : ℕ) (bytes : List ℕ) (k : Command) (lines : List (List ℕ)) → Stands v server at → line_of bytes ≡ Some (line.Do client now k) → n ≤ line_most → IsClient client → at ≤ now → server ≤ now → now ≤ server + 10
    → ((w : Timed) → Stands w server now → Leads w (n + 1) lines later until) → Leads v n (bytes ∷ lines) later until
does_then v n server at client now later until bytes k lines h said few c after up near next =
    let w : World = v.world in
    let t : Turn = turn.Do client now k in
    let times : Times = record v.times { clocks = and_reading v.times.clocks (reads.Client client now) } in
    let asked : asks w (line.Do client now k) ≡ Ok t = ap (λ (s : Stage). asks_at w s (line.Do client now k)) h.stage ∙ ap (λ (b : Bool). asks_if b t) (there w.core.seats client h.seats c) in
    let clock : times_with v.times (timing_of (owners_of w) (line.Do client now k)) ≡ Ok times = ap (read_by v.times) (client_read v.times.clocks server at client now h.ticks after up near) in
    line_first v (timed_turn v (t, times)) n bytes lines later until (taken v n bytes (line.Do client now k) t times said few asked clock)
    (next (timed_turn v (t, times)) (record {
      stage = (turned_to w t tt).stage;
      owners = (turned_to w t tt).owners ∙ h.owners;
      seats = does_count (at_events w) client now k ∙ h.seats;
      ticks = client_later v.times.clocks server at client now h.ticks after up near;
    }))

-- rounds of a client's session, both clocks reading the same
pub passes_then : (v : Timed) (n server at client rounds now later until : ℕ) (bytes : List ℕ) (lines : List (List ℕ)) → Stands v server at → line_of bytes ≡ Some (line.Pass client rounds now now) → n ≤ line_most → IsClient client → at ≤ now → server ≤ now
    → ((w : Timed) → Stands w now now → Leads w (n + 1) lines later until) → Leads v n (bytes ∷ lines) later until
passes_then v n server at client rounds now later until bytes lines h said few c after up next =
    let w : World = v.world in
    let t : Turn = turn.Pass client rounds now now in
    let times : Times = record v.times { clocks = and_reading v.times.clocks (reads.Both now client now) } in
    let asked : asks w (line.Pass client rounds now now) ≡ Ok t = ap (λ (s : Stage). asks_at w s (line.Pass client rounds now now)) h.stage ∙ ap (λ (b : Bool). asks_if b t) (owned_session v server at client h c) in
    let says : timing_of (owners_of w) (line.Pass client rounds now now) ≡ timing.Reads (reads.Both now client now) = ap (λ (os : List ℕ). pass_timing now now (numbered os client)) h.owners ∙ ap (pass_timing now now) (own_session client c) in
    let clock : times_with v.times (timing_of (owners_of w) (line.Pass client rounds now now)) ≡ Ok times = ap (times_with v.times) says ∙ ap (read_by v.times) (both_read v.times.clocks server at client now h.ticks up after) in
    line_first v (timed_turn v (t, times)) n bytes lines later until (taken v n bytes (line.Pass client rounds now now) t times said few asked clock)
    (next (timed_turn v (t, times)) (record {
      stage = (turned_to w t tt).stage;
      owners = (turned_to w t tt).owners ∙ h.owners;
      seats = passes_count rounds (at_events w) client now now ∙ h.seats;
      ticks = both_later v.times.clocks server at client now h.ticks up after;
    }))

-- a change is made
pub settles_then : (v : Timed) (n server at now later until : ℕ) (bytes : List ℕ) (lines : List (List ℕ)) → Stands v server at → line_of bytes ≡ Some (line.Settle now) → n ≤ line_most → server ≤ now
    → ((w : Timed) → Stands w now at → Leads w (n + 1) lines later until) → Leads v n (bytes ∷ lines) later until
settles_then v n server at now later until bytes lines h said few up next =
    let w : World = v.world in
    let t : Turn = turn.Settle now in
    let times : Times = record v.times { clocks = and_reading v.times.clocks (reads.Server now) } in
    let asked : asks w (line.Settle now) ≡ Ok t = ap (λ (s : Stage). asks_at w s (line.Settle now)) h.stage in
    let clock : times_with v.times (timing_of (owners_of w) (line.Settle now)) ≡ Ok times = ap (read_by v.times) (server_read v.times.clocks server at now h.ticks up) in
    line_first v (timed_turn v (t, times)) n bytes lines later until (taken v n bytes (line.Settle now) t times said few asked clock)
    (next (timed_turn v (t, times)) (record {
      stage = (turned_to w t tt).stage;
      owners = (turned_to w t tt).owners ∙ h.owners;
      seats = h.seats;
      ticks = server_later v.times.clocks server at now h.ticks up;
    }))
