-- A run whose readings keep the clock rule keeps what holds of the machine of one lease.
use Rattle.std.proofs.Common.{◌≡◌, ℕ, ◌+◌, ◌≤◌, List, [], ◌∷◌, ◌++◌, Option, Some, None, Bool, true, false, refl, sym, subst, arith}
use Rattle.std.specs.Prelude.{All, AllPairs}
use Rattle.std.proofs.lemmas.List.Elements.{All-cons, All-head, All-append, All-contains, Contains-append_left, Contains-append_right, Contains-push}
use Rattle.std.proofs.lemmas.List.Kept.{AllPairs-cons}
use Rattle.std.proofs.lemmas.List.{append_assoc}
use Rattle.clock_rule.specs.declared.rule.Note.{Note as Noted}
use Rattle.clock_rule.specs.declared.rule.Reading.{Reading}
use Rattle.clock_rule.specs.declared.rule.Reading.TheVariants as reads
use Rattle.clock_rule.specs.Clocks.{Clocked, event_of}
use Rattle.clock_rule.specs.Keeping.{KeepRule, KeepsRule, NeverFall, and_reading, servers, events}
use Rattle.lease_table.specs.Machine.{Machine, Up, Up.Ask, Up.Commit, Up.Reply, Down, Down.Answered, Down.Recall, Event, Event.Open, Event.Fetch, Event.Store, Event.Read, Event.Take, Event.Arrive, Event.Change, Event.Settle, Event.Refuse, Event.Drop, Event.Cut, Event.Hang, Event.Restart, event_at, fresh, is_free, asks_if, opens_by, stores_if, reads_one, unless, answers, takes_one, recalls_if, changes, settles_if, refuses_if, happens, reading_of, after_reading, timed, step, run, start}
use Rattle.lease_table.specs.Claims.{readings_of, with_reading, KeepsClocks, IsNoted, IsTimed, IsLater, IsKept, AllRight}
use Rattle.lease_table.proofs.lemmas.Lists.{pairs_head, pairs_tail}
use Rattle.lease_table.proofs.Claiming.{kept_later, kept_happens, kept_start}

-- ---- no event touches the clocks

-- what no event changes but by its reading
abbrev fixed : Machine → Clocked × ℕ
fixed m = (m.clocks, m.client)

same_asks : (b : Bool) (m : Machine) (seen : ℕ) → fixed (asks_if b m seen) ≡ fixed m
same_asks true m seen = refl
same_asks false m seen = refl

same_opens : (o : Option ℕ) (m : Machine) (seen : ℕ) → fixed (opens_by o m seen) ≡ fixed m
same_opens (Some v) m seen = refl
same_opens None m seen = same_asks (is_free m) m seen

same_stores : (b : Bool) (m : Machine) (seen : ℕ) → fixed (stores_if b m seen) ≡ fixed m
same_stores true m seen = refl
same_stores false m seen = refl

same_reads : (m : Machine) (ds : List Down) → fixed (reads_one m ds) ≡ fixed m
same_reads m [] = refl
same_reads m (Answered v t ∷ ds) = refl
same_reads m (Recall x ∷ ds) = refl

same_unless : (b : Bool) (m n : Machine) → fixed n ≡ fixed m → fixed (unless b m n) ≡ fixed m
same_unless true m n e = refl
same_unless false m n e = e

same_answers : (b : Bool) (m : Machine) → fixed (answers b m) ≡ fixed m
same_answers true m = refl
same_answers false m = refl

same_takes : (b : Bool) (m : Machine) (us : List Up) → fixed (takes_one b m us) ≡ fixed m
same_takes b m [] = refl
same_takes b m (Ask ∷ us) = same_answers b (record m { ups = us })
same_takes b m (Commit ∷ us) = refl
same_takes b m (Reply x ∷ us) = refl

same_recalls : (b : Bool) (m : Machine) → fixed (recalls_if b m) ≡ fixed m
same_recalls true m = refl
same_recalls false m = refl

same_settles : (b grants : Bool) (m : Machine) → fixed (settles_if b grants m) ≡ fixed m
same_settles true grants m = same_answers grants (record m { waits = false; version = m.version + 1 })
same_settles false grants m = refl

same_refuses : (b : Bool) (m : Machine) → fixed (refuses_if b m) ≡ fixed m
same_refuses true m = same_answers false (record m { waits = false })
same_refuses false m = refl

same_fixed : (m : Machine) (e : Event) → fixed (happens m e) ≡ fixed m
same_fixed m (Open seen) = same_opens (fresh m.note seen) m seen
same_fixed m (Fetch seen) = same_asks (is_free m) m seen
same_fixed m (Store seen) = same_stores (is_free m) m seen
same_fixed m (Read seen) = same_unless m.cut m (reads_one m m.downs) (same_reads m m.downs)
same_fixed m (Take at grants) = same_unless m.hung m (takes_one grants m m.ups) (same_takes grants m m.ups)
same_fixed m (Arrive by at) = same_recalls _ m
same_fixed m (Change by at) = same_unless _ m (changes m) refl
same_fixed m (Settle at grants) = same_settles _ grants m
same_fixed m (Refuse at) = same_refuses m.waits m
same_fixed m Drop = refl
same_fixed m (Cut seen) = refl
same_fixed m (Hang at) = refl
same_fixed m (Restart at grace) = refl

-- ---- readings that are left

-- what is left of the readings keeps the rule with all before
record KeepsFrom (clocks : Clocked) (rs : List Reading) : Type 0 where
  pub server : NeverFall (clocks.server ∷ servers rs)
  pub rule : KeepsRule clocks.term clocks.drift (clocks.notes ++ events clocks.server rs)

pairs_middle : {X : Type 0} (R : X → X → Type 0) (xs : List X) (y : X) (ys : List X) → AllPairs R (xs ++ y ∷ ys) → All (λ x. R x y) xs
pairs_middle R [] y ys h = λ k d within. absurd (omega arith)
pairs_middle R (x ∷ xs) y ys h =
    All-cons (λ z. R z y) x xs (All-contains (R x) (xs ++ y ∷ ys) y (pairs_head R x (xs ++ y ∷ ys) h) (Contains-append_right xs (y ∷ ys) y (0, omega arith, refl))) (pairs_middle R xs y ys (pairs_tail R x (xs ++ y ∷ ys) h))

later_with : (clocks : Clocked) (n : Noted) (server : ℕ) → clocks.server ≤ server → IsLater clocks (record clocks { server = server; notes = clocks.notes ++ n ∷ [] })
later_with clocks n server h = record { term = refl; drift = refl; server = h; notes = λ q c. Contains-append_left clocks.notes (n ∷ []) q c }

rises : (clocks : Clocked) (server : ℕ) (rest : List ℕ) → NeverFall (clocks.server ∷ server ∷ rest) → clocks.server ≤ server
rises clocks server rest h = All-head (λ s. clocks.server ≤ s) server rest (pairs_head (λ a b. a ≤ b) clocks.server (server ∷ rest) h)

later_read : (clocks : Clocked) (o : Option Reading) (rs : List Reading) → KeepsFrom clocks (with_reading o rs) → IsLater clocks (after_reading clocks o)
later_read clocks None rs k = record { term = refl; drift = refl; server = omega arith; notes = λ n c. c }
later_read clocks (Some (reads.Server s)) rs k = record { term = refl; drift = refl; server = rises clocks s (servers rs) k.server; notes = λ n c. c }
later_read clocks (Some (reads.Client c seen)) rs k = later_with clocks (event_of clocks c seen) clocks.server (omega arith)
later_read clocks (Some (reads.Both s c seen)) rs k = later_with clocks (record { client = c; reading = seen; server = s }) s (rises clocks s (servers rs) k.server)

keeps_rest : (clocks : Clocked) (o : Option Reading) (rs : List Reading) → KeepsFrom clocks (with_reading o rs) → KeepsFrom (after_reading clocks o) rs
keeps_rest clocks None rs k = k
keeps_rest clocks (Some (reads.Server s)) rs k = record { server = pairs_tail (λ a b. a ≤ b) clocks.server (s ∷ servers rs) k.server; rule = k.rule }
keeps_rest clocks (Some (reads.Client c seen)) rs k = record { server = k.server; rule = subst (AllPairs (KeepRule clocks.term clocks.drift)) (sym (append_assoc clocks.notes (event_of clocks c seen ∷ []) (events clocks.server rs))) k.rule }
keeps_rest clocks (Some (reads.Both s c seen)) rs k = record {
  server = pairs_tail (λ a b. a ≤ b) clocks.server (s ∷ servers rs) k.server;
  rule = subst (AllPairs (KeepRule clocks.term clocks.drift)) (sym (append_assoc clocks.notes (record { client = c; reading = seen; server = s } ∷ []) (events s rs))) k.rule;
}

keeps_itself : (term drift : ℕ) (n : Noted) → KeepRule term drift n n
keeps_itself term drift n = record { server = omega arith; client = λ e. omega arith; apart = λ e h. omega arith }

is_noted : (m : Machine) (seen : ℕ) (rs : List Reading) → KeepsFrom m.clocks (reads.Client m.client seen ∷ rs) → IsNoted (record m { clocks = and_reading m.clocks (reads.Client m.client seen) }) seen
is_noted m seen rs k = (
  Contains-push m.clocks.notes (event_at m seen),
  All-append (λ n. KeepRule m.clocks.term m.clocks.drift n (event_at m seen)) m.clocks.notes (event_at m seen ∷ [])
      (pairs_middle (KeepRule m.clocks.term m.clocks.drift) m.clocks.notes (event_at m seen) (events m.clocks.server rs) k.rule)
      (All-cons (λ n. KeepRule m.clocks.term m.clocks.drift n (event_at m seen)) (event_at m seen) [] (keeps_itself m.clocks.term m.clocks.drift (event_at m seen)) (λ i d within. absurd (omega arith))),
)

is_timed : (m : Machine) (e : Event) (rs : List Reading) → KeepsFrom m.clocks (with_reading (reading_of m.client e) rs) → IsTimed (timed m e) e
is_timed m (Open seen) rs k = is_noted m seen rs k
is_timed m (Fetch seen) rs k = is_noted m seen rs k
is_timed m (Store seen) rs k = is_noted m seen rs k
is_timed m (Read seen) rs k = is_noted m seen rs k
is_timed m (Take at grants) rs k = tt
is_timed m (Arrive by at) rs k = tt
is_timed m (Change by at) rs k = tt
is_timed m (Settle at grants) rs k = tt
is_timed m (Refuse at) rs k = tt
is_timed m Drop rs k = tt
is_timed m (Cut seen) rs k = is_noted m seen rs k
is_timed m (Hang at) rs k = tt
is_timed m (Restart at grace) rs k = tt

-- ---- runs

-- the readings that are left are those of the same client
abbrev Keeps : (clocks : Clocked) (client : ℕ) (es : List Event) → Type 0
Keeps clocks client es = KeepsFrom clocks (readings_of client es)

kept_run : (es : List Event) (m : Machine) → Keeps m.clocks m.client es → IsKept m → IsKept (run m es)
kept_run [] m keeps k = k
kept_run (e ∷ es) m keeps k =
    kept_run es (step m e)
    (subst (λ (c : Clocked × ℕ). Keeps c.0 c.1 es) (sym (same_fixed (timed m e) e)) (keeps_rest m.clocks (reading_of m.client e) (readings_of m.client es) keeps))
    (kept_happens (timed m e) e (is_timed m e (readings_of m.client es) keeps) (kept_later m (after_reading m.clocks (reading_of m.client e)) (later_read m.clocks (reading_of m.client e) (readings_of m.client es) keeps) k))

pub runs_are_right : (client session file term drift : ℕ) (es : List Event) → KeepsClocks client term drift es → AllRight (run (start client session file term drift) es).opens
runs_are_right client session file term drift es keeps =
    (kept_run es (start client session file term drift) (record { server = AllPairs-cons (λ a b. a ≤ b) 0 (servers (readings_of client es)) (λ k d within. omega arith) keeps.server; rule = keeps.rule })
    (kept_start client session file term drift)).opens
