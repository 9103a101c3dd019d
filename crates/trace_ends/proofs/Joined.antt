-- A client that joins, from what each part of it gives.
use Rattle.std.proofs.Common.{◌≡◌, ℕ, zero, suc, ◌+◌, ◌<◌, List, [], ◌∷◌, ◌++◌, length, Option, Some, None, arith, refl, sym, ap, ◌∙◌, slice_index_or}
use Rattle.std.specs.Prelude.{slice_get, slice_set}
use Rattle.std.proofs.lemmas.Option.{slice_get_read}
use Rattle.server_core.specs.State as server
use Rattle.server_core.specs.Step.{server_step}
use Rattle.server_core.specs.declared.event.Event.TheVariants as event
use Rattle.server_rules.specs.declared.told.Told.{Told}
use Rattle.server_rules.specs.declared.told.Told.TheVariants as told
use Rattle.client_state.specs.Ending.{joined}
use Rattle.trace_ends.specs.Core.{Core, joins_as, joins}
use Rattle.trace_ends.specs.Session.{Seat, Session, new_session}
use Rattle.trace_ends.specs.Numbers.{numbered, with_numbered}
use Rattle.trace_ends.specs.declared.core_step.Loss.TheVariants as lost
use Rattle.trace_ends.specs.declared.core_step.CoreStep.{CoreStep as Left}
use Rattle.trace_ends.proofs.Commanded.{as_core_step, seat_set}

abbrev pub made_of : Left
made_of = record { loss = lost.Made; session = None; up = []; down = [] }

-- the two ends with these parts in place of their own
abbrev pub after : Core → server.State → List Seat → List Session → (steps : ℕ) → (came : List ℕ) → Core
after k s seats sessions steps came = record { server = s; drift = k.drift; lbfs = k.lbfs; seats = seats; sessions = sessions; steps = steps; ops = k.ops; entries = k.entries; came = came; raws = k.raws }

joins_at : (k : Core) (place : ℕ) (seat : Seat) (s : server.State) (made steps : ℕ) (seats : List Seat) (sessions : List Session) (came : List ℕ) (t : Left)
    → slice_get k.seats place ≡ Some seat
    → (server_step k.server event.Connect).0 ≡ s
    → (server_step k.server event.Connect).1.told ≡ told.Session made
    → steps ≡ k.steps + 2
    → seats ≡ slice_set k.seats place (record seat { client = joined seat.client; session = Some made })
    → sessions ≡ k.sessions ++ new_session (place + 1) ∷ []
    → came ≡ k.came ++ 0 ∷ []
    → t ≡ made_of
    → as_core_step (after k s seats sessions steps came) t ≡ joins k (place + 1) (slice_get k.seats place)
joins_at k place seat s made steps seats sessions came t at is tells counted seated listed marked left =
    let r = server_step k.server event.Connect in
    let new : Seat = record seat { client = joined seat.client; session = Some made } in
    let owned : List Session = k.sessions ++ new_session (place + 1) ∷ [] in
    ap (as_core_step (after k s seats sessions steps came)) left
    ∙ ap (λ (n : ℕ). as_core_step (after k s seats sessions n came) made_of) counted
    ∙ ap (λ (x : List Seat). as_core_step (after k s x sessions (k.steps + 2) came) made_of) (seated ∙ sym (seat_set k.seats place new))
    ∙ ap (λ (x : List Session). as_core_step (after k s (with_numbered k.seats (place + 1) new) x (k.steps + 2) came) made_of) listed
    ∙ ap (λ (x : List ℕ). as_core_step (after k s (with_numbered k.seats (place + 1) new) owned (k.steps + 2) x) made_of) marked
    ∙ sym (ap (joins k (place + 1)) at
    ∙ ap (λ (o : Told). joins_as k (place + 1) seat r.0 o) tells
    ∙ ap (λ (z : server.State). joins_as k (place + 1) seat z (told.Session made)) is)

-- what is said of a place is said of its number
by_number : {A B : Type 0} (f : ℕ → Option A → B) (xs : List A) (place number : ℕ) → number ≡ place + 1 → f (place + 1) (slice_get xs place) ≡ f number (numbered xs number)
by_number f xs place zero next = absurd (omega (arith, next))
by_number f xs place (suc n) next =
    let same : place ≡ n = omega (arith, next) in
    ap (λ (m : ℕ). f m (slice_get xs place)) (sym next) ∙ ap (λ (p : ℕ). f (suc n) (slice_get xs p)) same

pub joins_is : (k : Core) (place number : ℕ) (seat : Seat) (s : server.State) (made steps : ℕ) (seats : List Seat) (sessions : List Session) (came : List ℕ) (t : Left)
    → number ≡ place + 1
    → place < length k.seats
    → seat ≡ slice_index_or k.seats place seat
    → (server_step k.server event.Connect).0 ≡ s
    → (server_step k.server event.Connect).1.told ≡ told.Session made
    → steps ≡ k.steps + 2
    → seats ≡ slice_set k.seats place (record seat { client = joined seat.client; session = Some made })
    → sessions ≡ k.sessions ++ new_session number ∷ []
    → came ≡ k.came ++ 0 ∷ []
    → t ≡ made_of
    → as_core_step (after k s seats sessions steps came) t ≡ joins k number (numbered k.seats number)
joins_is k place number seat s made steps seats sessions came t next lt read is tells counted seated listed marked left =
    joins_at k place seat s made steps seats sessions came t (slice_get_read k.seats (length k.seats) place seat refl lt read) is tells counted seated (listed ∙ ap (λ (n : ℕ). k.sessions ++ new_session n ∷ []) next) marked left
    ∙ by_number (joins k) k.seats place number next
