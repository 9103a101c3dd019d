-- A command's step, from what each part of it gives.
use Rattle.std.proofs.Common.{◌≡◌, ℕ, ◌+◌, List, [], ◌∷◌, ◌++◌, length, Option, Some, None, Bool, true, false, refl, sym, ap, ◌∙◌}
use Rattle.std.specs.Prelude.{slice_get, slice_set}
use native.Mathlib.Numerals.{unary_clauses}
use Rattle.command_text.specs.declared.command.Command.{Command}
use Rattle.command_text.specs.declared.command.Command.TheVariants as command
use Rattle.command_text.specs.declared.path.PathCommand.{PathCommand}
use Rattle.command_text.specs.declared.path.PathCommand.TheVariants as path
use Rattle.client_state.specs.State as client
use Rattle.client_state.specs.State.{local_at}
use Rattle.client_state.specs.Noting.{at}
use Rattle.open_close.specs.Step.{command_step}
use Rattle.client_state.specs.Ending.{on_local, may_ask}
use Rattle.file_close.specs.Storing.{closes, asks_temp}
use Rattle.client_state.specs.declared.task.Local.{Local}
use Rattle.client_state.specs.declared.task.Task.{Task}
use Rattle.client_state.specs.declared.step.ClientStep.{ClientStep}
use Rattle.client_state.specs.declared.step.Ended.{Ended}
use Rattle.register_model.specs.declared.op.Op.{Op}
use Rattle.register_model.specs.declared.op.Word.TheVariants as word
use Rattle.trace_ends.specs.Commands.{path_word, word_of, file_of, value_at_begin}
use Rattle.trace_ends.specs.Core.{Core, CoreStep, Loss.Nothing, commanded_sessions, does}
use Rattle.trace_ends.specs.Session.{Seat, Session, session_of}
use Rattle.trace_ends.specs.Numbers.{with_numbered}
use Rattle.trace_ends.specs.View.{loss_of}
use Rattle.trace_ends.specs.declared.core_step.Loss.TheVariants as lost
use Rattle.trace_ends.specs.declared.core_step.CoreStep.{CoreStep as Left}
use Rattle.trace_ends.specs.Ops.{begun, op_after, place_with}

abbrev pub as_core_step : Core → Left → CoreStep
as_core_step k t = record { core = k; loss = loss_of t.loss; session = t.session; up = t.up; down = t.down }

-- what is left where these are the seats, the sessions and the operations
abbrev pub left : Core → (first : Seat) → List Seat → List Session → List Op → ClientStep → CoreStep
left k first seats sessions ops acts = record {
  core = record { server = k.server; drift = k.drift; lbfs = k.lbfs; seats = seats; sessions = sessions; steps = k.steps + 1; ops = ops; entries = k.entries; came = k.came; raws = k.raws };
  loss = Nothing;
  session = first.session;
  up = acts.send;
  down = [];
}

pub seat_set : (seats : List Seat) (place : ℕ) (seat : Seat) → with_numbered seats (place + 1) seat ≡ slice_set seats place seat
seat_set seats place seat = simp unary_clauses refl

-- what a command on names begins has no content to store
names_store_nothing : (s t : client.State) (k : PathCommand) (file : ℕ) (e : Option Ended) → value_at_begin t (path_word k) file e ≡ value_at_begin s (path_word k) file e
names_store_nothing s t (path.Find spot) file e = refl
names_store_nothing s t (path.Rewrite spot) file e = refl
names_store_nothing s t (path.Look spot) file e = refl
names_store_nothing s t path.LookRoot file e = refl
names_store_nothing s t (path.List names) file e = refl
names_store_nothing s t (path.Make spot) file e = refl
names_store_nothing s t (path.MakeDir spot) file e = refl
names_store_nothing s t (path.Remove spot) file e = refl
names_store_nothing s t (path.RemoveDir spot) file e = refl
names_store_nothing s t (path.Rename spot over) file e = refl

-- a close that goes on leaves the local content as it was
value_stays : (s : client.State) (command : Command) (now : ℕ) → value_at_begin (command_step s command now).0 (word_of command) (file_of command) (command_step s command now).1.ended ≡ value_at_begin s (word_of command) (file_of command) (command_step s command now).1.ended
value_stays s (command.Open file) now = refl
value_stays s (command.Rewrite file) now = refl
value_stays s (command.Write file offset content) now = refl
value_stays s (command.Trunc file size) now = refl
value_stays s (command.Read file offset count) now = refl
value_stays s (command.Abandon file) now = refl
value_stays s (command.Named k) now = names_store_nothing s (command_step s (command.Named k) now).0 k 0 (command_step s (command.Named k) now).1.ended
value_stays s (command.Close file) now = by s.task (local_at s.opened file)
  where
    asks : (b : Bool) → value_at_begin (asks_temp (at s now) file b).0 word.Close file (asks_temp (at s now) file b).1.ended ≡ value_at_begin s word.Close file (asks_temp (at s now) file b).1.ended
    asks true = refl
    asks false = refl

    by : (t : Option Task) (l : Option Local) → (let r = on_local (at s now) t l (closes (at s now) file) in value_at_begin r.0 word.Close file r.1.ended ≡ value_at_begin s word.Close file r.1.ended)
    by (Some t) l = refl
    by None None = refl
    by None (Some l) = asks (may_ask (at s now))

-- the operation that a command begins, from the client behind its step
op_is : (c now step : ℕ) (command : Command) (s t : client.State) (acts : ClientStep)
    → (command_step s command now).1 ≡ acts
    → t ≡ (command_step s command now).0
    → op_after (begun c (word_of command) (file_of command) (value_at_begin t (word_of command) (file_of command) acts.ended) step) t [] step acts ≡ op_after (begun c (word_of command) (file_of command) (value_at_begin s (word_of command) (file_of command) (command_step s command now).1.ended) step) (command_step s command now).0 [] step (command_step s command now).1
op_is c now step command s t acts a n =
    let w = word_of command in
    let f = file_of command in
    let r = command_step s command now in
    ap (λ (x : ClientStep). op_after (begun c w f (value_at_begin t w f x.ended) step) t [] step x) (sym a)
    ∙ ap (λ (x : client.State). op_after (begun c w f (value_at_begin x w f r.1.ended) step) x [] step r.1) n
    ∙ ap (λ (v : List ℕ). op_after (begun c w f v step) r.0 [] step r.1) (value_stays s command now)

does_by : (k : Core) (place now : ℕ) (command : Command) (seat new : Seat) (sessions : List Session) (ops : List Op) (acts : ClientStep)
    → (command_step seat.client command now).1 ≡ acts
    → new ≡ record seat { client = (command_step seat.client command now).0; place = place_with seat.place (length k.ops) acts.ended }
    → sessions ≡ commanded_sessions k.sessions seat.session (session_of k.sessions seat.session) seat.place (length k.ops) (word_of command) acts
    → ops ≡ k.ops ++ op_after (begun (place + 1) (word_of command) (file_of command) (value_at_begin new.client (word_of command) (file_of command) acts.ended) (k.steps + 1)) new.client [] (k.steps + 1) acts ∷ []
    → left k seat (with_numbered k.seats (place + 1) new) sessions ops acts ≡ does k (place + 1) now command (Some seat)
does_by k place now command seat new sessions ops acts a n s p =
    let r = command_step seat.client command now in
    let own : Op = op_after (begun (place + 1) (word_of command) (file_of command) (value_at_begin seat.client (word_of command) (file_of command) r.1.ended) (k.steps + 1)) r.0 [] (k.steps + 1) r.1 in
    ap (λ (x : List Op). left k seat (with_numbered k.seats (place + 1) new) sessions x acts) (p ∙ ap (λ (x : Op). k.ops ++ x ∷ []) (op_is (place + 1) now (k.steps + 1) command seat.client new.client acts a (ap (λ (x : Seat). x.client) n)))
    ∙ ap (λ (x : List Session). left k seat (with_numbered k.seats (place + 1) new) x (k.ops ++ own ∷ []) acts) s
    ∙ ap (λ (x : Seat). left k seat (with_numbered k.seats (place + 1) x) (commanded_sessions k.sessions seat.session (session_of k.sessions seat.session) seat.place (length k.ops) (word_of command) acts) (k.ops ++ own ∷ []) acts) n
    ∙ ap (λ (x : ClientStep). left k seat (with_numbered k.seats (place + 1) (record seat { client = r.0; place = place_with seat.place (length k.ops) x.ended })) (commanded_sessions k.sessions seat.session (session_of k.sessions seat.session) seat.place (length k.ops) (word_of command) x) (k.ops ++ own ∷ []) x) (sym a)

pub does_is : (k : Core) (place now : ℕ) (command : Command) (seat new : Seat) (sessions : List Session) (ops : List Op) (acts : ClientStep)
    → slice_get k.seats place ≡ Some seat
    → (command_step seat.client command now).1 ≡ acts
    → new ≡ record seat { client = (command_step seat.client command now).0; place = place_with seat.place (length k.ops) acts.ended }
    → sessions ≡ commanded_sessions k.sessions seat.session (session_of k.sessions seat.session) seat.place (length k.ops) (word_of command) acts
    → ops ≡ k.ops ++ op_after (begun (place + 1) (word_of command) (file_of command) (value_at_begin new.client (word_of command) (file_of command) acts.ended) (k.steps + 1)) new.client [] (k.steps + 1) acts ∷ []
    → left k seat (slice_set k.seats place new) sessions ops acts ≡ does k (place + 1) now command (slice_get k.seats place)
does_is k place now command seat new sessions ops acts at a n s p =
    ap (λ (x : List Seat). left k seat x sessions ops acts) (sym (seat_set k.seats place new))
    ∙ does_by k place now command seat new sessions ops acts a n s p ∙ ap (does k (place + 1) now command) (sym at)

-- with the count of steps and the session as they were read
pub left_is : (k : Core) (seat : Seat) (seats : List Seat) (sessions : List Session) (ops : List Op) (acts : ClientStep) (step : ℕ) (session : Option ℕ) (t : Left)
    → t ≡ record { loss = lost.Nothing; session = session; up = acts.send; down = [] }
    → step ≡ k.steps + 1
    → session ≡ seat.session
    → as_core_step (record { server = k.server; drift = k.drift; lbfs = k.lbfs; seats = seats; sessions = sessions; steps = step; ops = ops; entries = k.entries; came = k.came; raws = k.raws }) t ≡ left k seat seats sessions ops acts
left_is k seat seats sessions ops acts step session t e n s =
    let core : ℕ → Core = λ m. record { server = k.server; drift = k.drift; lbfs = k.lbfs; seats = seats; sessions = sessions; steps = m; ops = ops; entries = k.entries; came = k.came; raws = k.raws } in
    ap (as_core_step (core step)) e
    ∙ ap (λ (m : ℕ). as_core_step (core m) (record { loss = lost.Nothing; session = session; up = acts.send; down = [] })) n
    ∙ ap (λ (o : Option ℕ). as_core_step (core (k.steps + 1)) (record { loss = lost.Nothing; session = o; up = acts.send; down = [] })) s
