-- A message that the server takes, from what each part of it gives.
use Rattle.std.proofs.Common.{◌≡◌, ℕ, zero, suc, ◌+◌, List, [], ◌∷◌, ◌++◌, Option, Some, None, Bool, refl, sym, ap, subst, ◌∙◌}
use Rattle.std.specs.Prelude.{slice_get, slice_set, replicate, IfSome}
use Rattle.std.proofs.lemmas.Option.{none-some}
use native.Mathlib.Numerals.{unary_clauses}
use Rattle.wire.specs.declared.message.Message.{Message}
use Rattle.server_core.specs.State as server
use Rattle.server_core.specs.Closing.{has_waiting}
use Rattle.server_core.specs.Step.{server_step}
use Rattle.server_core.specs.declared.event.Event.TheVariants as event
use Rattle.server_core.specs.declared.event.ServerStep.{ServerStep}
use Rattle.trace_ends.specs.Core.{Core, CoreStep, came_with, changed_entry, changed_file, newest_entries, raws_with, server_got}
use Rattle.trace_ends.specs.Ops.{pointed_at}
use Rattle.trace_ends.specs.Session.{Session, is_raw, taken_with}
use Rattle.trace_ends.specs.Numbers.{with_numbered}
use Rattle.trace_ends.specs.declared.core_step.Loss.TheVariants as lost
use Rattle.trace_ends.specs.declared.core_step.CoreStep.{CoreStep as Left}
use Rattle.trace_ends.proofs.Commanded.{as_core_step}

at_set : {A : Type 0} (xs : List A) (i : ℕ) (x y : A) → slice_get xs i ≡ Some y → slice_get (slice_set xs i x) i ≡ Some x
at_set [] i x y e = absurd (none-some y e)
at_set (z ∷ xs) zero x y e = refl
at_set (z ∷ xs) (suc i) x y e = at_set xs i x y e

session_set : (xs : List Session) (place : ℕ) (x : Session) → with_numbered xs (place + 1) x ≡ slice_set xs place x
session_set xs place x = simp unary_clauses refl

abbrev pub told : Session → Message → (step : ℕ) → Session
told x m step = record x { taken = taken_with x.taken m step }

-- the message is counted and remembered
abbrev pub noted : Core → (place : ℕ) → Message → (waits : Bool) → Session → Core
noted k place m waits x = record k { steps = k.steps + 1; sessions = slice_set k.sessions place (told x m (k.steps + 1)); came = came_with k.came waits (place + 1) (k.steps + 1) }

-- what the server made of it is entered
abbrev pub entered : Core → (made : ℕ) → Session → Core
entered k made x = record k {
  ops = pointed_at k.ops x.closing k.steps (changed_file (newest_entries k.server.journal made));
  entries = k.entries ++ replicate made k.steps;
  raws = raws_with k.raws (is_raw x) k.steps k.steps k.server.tree (changed_entry (newest_entries k.server.journal made));
}

abbrev pub served_of : ServerStep → Left
served_of st = record { loss = lost.Nothing; session = None; up = []; down = st.send }

abbrev took : Core → (number : ℕ) → Session → (waits : Bool) → List Session → server.State × ServerStep → CoreStep
took k number x waits sessions r = as_core_step (record k {
  steps = k.steps + 1;
  server = r.0;
  sessions = sessions;
  ops = pointed_at k.ops x.closing (k.steps + 1) (changed_file (newest_entries r.0.journal r.1.entries));
  entries = k.entries ++ replicate r.1.entries (k.steps + 1);
  came = came_with k.came waits number (k.steps + 1);
  raws = raws_with k.raws (is_raw x) (k.steps + 1) (k.steps + 1) r.0.tree (changed_entry (newest_entries r.0.journal r.1.entries));
}) (served_of r.1)

got_here : (k n e : Core) (place now : ℕ) (x : Session) (m : Message) (waits : Bool) (s : server.State) (st : ServerStep) (t : Left)
    → slice_get k.sessions place ≡ Some x
    → waits ≡ has_waiting k.server.waiting (place + 1)
    → n ≡ noted k place m waits x
    → server_step n.server (event.Got (place + 1) m now) ≡ (s, st)
    → IfSome (slice_get n.sessions place) (λ y. e ≡ entered (record n { server = s }) st.entries y)
    → t ≡ served_of st
    → as_core_step e t ≡ server_got k (place + 1) now x m
got_here k n e place now x m waits s st t at waiting is stepped enters left =
    let new : Session = told x m (k.steps + 1) in
    let own : slice_get n.sessions place ≡ Some new = ap (λ (z : Core). slice_get z.sessions place) is ∙ at_set k.sessions place new x at in
    let ended : e ≡ entered (record n { server = s }) st.entries new = subst (λ (o : Option Session). IfSome o (λ y. e ≡ entered (record n { server = s }) st.entries y)) own enters in
    let r = server_step k.server (event.Got (place + 1) m now) in
    let same : r ≡ (s, st) = sym (ap (λ (z : Core). server_step z.server (event.Got (place + 1) m now)) is) ∙ stepped in
    ap (as_core_step e) left
    ∙ ap (λ (z : Core). as_core_step z (served_of st)) (ended ∙ ap (λ (z : Core). entered (record z { server = s }) st.entries new) is)
    ∙ sym (ap (took k (place + 1) x waits (slice_set k.sessions place new)) same)
    ∙ ap (λ (b : Bool). took k (place + 1) x b (slice_set k.sessions place new) r) waiting
    ∙ sym (ap (λ (xs : List Session). took k (place + 1) x (has_waiting k.server.waiting (place + 1)) xs r) (session_set k.sessions place new))

pub got_is : (k n e : Core) (place number now : ℕ) (o : Option Session) (m : Message) (waits : Bool) (s : server.State) (st : ServerStep) (t : Left)
    → number ≡ place + 1
    → slice_get k.sessions place ≡ o
    → waits ≡ has_waiting k.server.waiting number
    → IfSome o (λ x. n ≡ noted k place m waits x)
    → server_step n.server (event.Got number m now) ≡ (s, st)
    → IfSome (slice_get n.sessions place) (λ y. e ≡ entered (record n { server = s }) st.entries y)
    → t ≡ served_of st
    → IfSome o (λ x. as_core_step e t ≡ server_got k (place + 1) now x m)
got_is k n e place number now None m waits s st t next at waiting is stepped enters left = tt
got_is k n e place number now (Some x) m waits s st t next at waiting is stepped enters left =
    got_here k n e place now x m waits s st t at (waiting ∙ ap (has_waiting k.server.waiting) next) is
    (sym (ap (λ (z : ℕ). server_step n.server (event.Got z m now)) next) ∙ stepped) enters left
