-- A line in place is applied.
use Rattle.std.proofs.Common.{◌≡◌, ℕ, Ok, Err, refl, sym, ap, subst, ◌∙◌}
use Rattle.clock_rule.specs.declared.rule.ClockFault.{ClockFault}
use Rattle.clock_rule.specs.declared.rule.NoteError.{NoteError}
use Rattle.clock_rule.specs.declared.rule.NoteError.TheVariants.{Fault}
use Rattle.trace_text.specs.declared.line.Line.{Line}
use Rattle.trace_text.specs.declared.refusal.LineFault.TheVariants.{Clock}
use Rattle.trace_replay.specs.declared.fault.TraceError.{TraceError}
use Rattle.trace_replay.specs.declared.fault.TraceError.TheVariants as errors
use Rattle.trace_replay.specs.declared.timing.Timing.{Timing}
use Rattle.trace_replay.specs.declared.turn.Turn.{Turn}
use Rattle.trace_replay.specs.World.{World}
use Rattle.trace_replay.specs.Run.{asked, turned}
use Rattle.trace_replay.specs.Timed.{Times, Timed, timing_of, owners_of, times_with, with_times, times_if, timed_asked, IsTaken}
use Rattle.trace_replay.specs.Turns.{IsApplied, IsRefused}

-- what the line asks for, with the clocks once its readings are taken
asks_for : (w : World) (s r : Times) (n : ℕ) (l : Line) (t : Turn) (m : Timing) → Ok t ≡ asked w n l → m ≡ timing_of (owners_of w) l → times_with s m ≡ Ok r → timed_asked (record { world = w; times = s }) n l ≡ Ok (t, r)
asks_for w s r n l t m a i k = ap (times_if s (timing_of (owners_of w) l)) (sym a) ∙ ap (λ (x : Timing). with_times t (times_with s x)) (sym i) ∙ ap (with_times t) k

pub applied : (w u : World) (s r : Times) (v : Timed) (n : ℕ) (l : Line) (t : Turn) (m : Timing) → record { world = w; times = s } ≡ v → Ok t ≡ asked w n l → m ≡ timing_of (owners_of w) l → times_with s m ≡ Ok r → u ≡ turned w t → IsApplied v n l (record { world = u; times = r })
applied w u s r v n l t m e a i k d = subst (λ (x : Timed). IsApplied x n l (record { world = u; times = r })) e ((t, r), asks_for w s r n l t m a i k, ap (λ (x : World). record { world = x; times = r }) d)

-- ---- a line whose readings break the clock rule

by_fault : (w : World) (s : Times) (n : ℕ) (l : Line) (t : Turn) (m : Timing) (f : ClockFault) → Ok t ≡ asked w n l → m ≡ timing_of (owners_of w) l → times_with s m ≡ Err f → timed_asked (record { world = w; times = s }) n l ≡ Err (Clock f)
by_fault w s n l t m f a i k = ap (times_if s (timing_of (owners_of w) l)) (sym a) ∙ ap (λ (x : Timing). with_times t (times_with s x)) (sym i) ∙ ap (with_times t) k

pub faulted : (T : Type 0) (w : World) (s r : Times) (v : Timed) (n : ℕ) (l : Line) (t : Turn) (m : Timing) (g : NoteError) (f : ClockFault) (e : TraceError) → record { world = w; times = s } ≡ v → Ok t ≡ asked w n l → m ≡ timing_of (owners_of w) l
    → IsTaken {T = T} (Err g) (times_with s m) s r → g ≡ Fault f → e ≡ errors.Refused (record { line = n; fault = Clock f }) → IsRefused e v n l (record { world = w; times = r })
faulted T w s r v n l t m g f e is a i k of told =
    let both : (times_with s m ≡ Err f) × (r ≡ s) = subst (λ (x : NoteError). IsTaken {T = T} (Err x) (times_with s m) s r) of k in
    subst (λ (x : TraceError). IsRefused x v n l (record { world = w; times = r })) (sym told)
    (refl, ap (λ (x : Timed). timed_asked x n l) (sym is) ∙ by_fault w s n l t m f a i both.0, ap (λ (x : Times). record { world = w; times = x }) both.1 ∙ is)
