-- Each event of a run keeps what is true of operations by what was said for them, if each step of a client does.
use Rattle.std.proofs.Common.{◌⊎◌, inl, inr, ◌≡◌, ℕ, ◌+◌, List, [], length, ◌∷◌, ◌++◌, Option, Some, None, Ok, Bool, true, false, refl, sym, ap, ◌∙◌, subst, arith, append-nil, map}
use Rattle.wire.specs.declared.message.Body.TheVariants as body
use Rattle.wire.specs.declared.message.Message.TheVariants as message
use Rattle.path_calls.specs.Walk.{begun as walk_begun, next_call}
use Rattle.path_calls.specs.declared.answers.Ended.{Ended as WalkEnd}
use Rattle.path_calls.specs.declared.answers.Ended.TheVariants as walk_end
use Rattle.path_calls.specs.declared.answers.Told.{Told as Leading}
use Rattle.path_calls.specs.declared.answers.Told.TheVariants as leading
use Rattle.path_calls.specs.declared.walk.Walk.{Walk}
use Rattle.open_close.specs.Walking.{asks_next, outcome_of, is_look, seen_in}
use Rattle.client_state.specs.Ending.{forgets as forgets_of}
use Rattle.file_close.specs.Closing.{make_call}
use Rattle.file_open.specs.Looking.{reading_by, with_file, reading_if, reading}
use Rattle.client_state.specs.State as client
use Rattle.client_state.specs.Noting.{at as at_clock}
use Rattle.client_state.specs.declared.step.BadPeer.TheVariants as bad
use Rattle.client_state.specs.declared.step.Outcome.TheVariants as outcome
use Rattle.client_state.specs.declared.task.Stage.TheVariants as stage
use Rattle.register_model.specs.declared.op.Outcome.{Outcome as History}
use Rattle.register_model.specs.declared.op.Outcome.TheVariants as told
use Rattle.register_model.specs.declared.op.Word.TheVariants as words
use Rattle.trace_ends.specs.Session.{taken_of as session_taken}
use Rattle.trace_replay.specs.Trail.{given_in, given_by_message}
use Rattle.kept_promise.proofs.Common.{sha1, Deal.Sent, Deal.Took, slice_get, slice_set, Command, Body, Message, Pending, lease_call, hash_call, asks_kept, asks_temp, command_step, got_step, got_message, bad_peer, idle, took, took_if, drops, ClientStep, Ended, Outcome, Fetch, Stage, Task, Op, Opening, Word, TakenCall, word_of, file_of, counted, op_after, told_of, value_of, Core, Seat, Event, numbered, session_of, ops_after, ops_with, acted, does, happens, Moment, wanted_if, wanted_by, Deal, deals_with, deals_of, Book, Queue, reply_body, told_message}
use Rattle.kept_promise.proofs.Lists.{some_is, nothing_there, at_replaced}
use Rattle.kept_promise.proofs.Keys.{times}
use Rattle.kept_promise.proofs.Messages.{Job, job, goal_word, stage_word, AllTolds, AnswerOf, IsAnswer, CloseOf, FetchOf, IsTrying}
use Rattle.kept_promise.proofs.Rights.{IsRight, Caused, gets_file}
use Rattle.kept_promise.proofs.Fits.{FitLaws}
use Rattle.kept_promise.proofs.Taken.{times_map_append}
use Rattle.kept_promise.proofs.Facts.{IsKept, IsSession, IsMatched}
use Rattle.kept_promise.proofs.RunsCarried.{book_at, moment, Step, Carried}
use Rattle.kept_promise.proofs.CountedRuns.{no_fault_after}
use Rattle.kept_promise.proofs.Actors.{job_place, job_task, Heard, own_op}
use Rattle.kept_promise.proofs.StepCases.{FetchNow, fronts, command_cases, given_idle, IsOfFile, Walks, walk_cases}
use Rattle.kept_promise.proofs.Steps.{goal_not_close}
use Rattle.kept_promise.proofs.Commands.{begun_word}
use Rattle.kept_promise.proofs.NamesLog.{IsNameDeal, NamesOnly, names_join, call_named, answer_named, finds_open}
use Rattle.kept_promise.proofs.FindsOpen.{finds_rewrite}
use Rattle.file_open.specs.Rewriting.{asks_version}
use Rattle.file_open.specs.Fetching.{opens_fresh}
use Rattle.kept_promise.proofs.Shapes.{busy_command}
use Rattle.kept_promise.proofs.EventCases.{IsChange}
use Rattle.kept_promise.proofs.VersionRuns.{of_file_unnamed}
use Rattle.kept_promise.proofs.Taking.{IsApart, tried_from, Taking, apart_in, IsWhole, fetched_now}
use Rattle.kept_promise.proofs.Logs.{Going, Ending, HaveLogs, logs_kept}
use Rattle.kept_promise.proofs.Found.{file_after, took_finds}
use Rattle.kept_promise.proofs.PathNames.{IsSmall}
use Rattle.trace_ends.specs.Ops.{file_with}
use Rattle.kept_promise.proofs.CommandOps.{made_by}
use Rattle.kept_promise.proofs.OpFacts.{IsNew, FactLaws, facts_event, past_event}
use Rattle.kept_promise.proofs.OpFacts
use Rattle.kept_promise.proofs.Turns.{has_owner}

-- ---- what is asked

-- no open got its content
abbrev pub IsUnopened : History → Type 0
IsUnopened u = (len : ℕ) (digest : List ℕ) → u ≡ told.Opened len digest → ⊥

-- and none ended by versions that differ
abbrev pub IsUnchanged : History → Type 0
IsUnchanged u = (first last : ℕ) → u ≡ told.Changed first last → ⊥

abbrev IsOther : History → Type 0
IsOther (told.Opened len digest) = ⊥
IsOther u = Unit {0}

not_opened : (u : History) → IsOther u → IsUnopened u
not_opened (told.Opened l d) other len digest e = absurd other
not_opened u other len digest e = absurd cc

pub opened_or : (u : History) → ((len : ℕ) × (digest : List ℕ) × (u ≡ told.Opened len digest)) ⊎ IsUnopened u
opened_or (told.Opened len digest) = inl (len, digest, refl)
opened_or u = inr (not_opened u tt)

unopened_running : (u : History) → u ≡ told.Running → IsUnopened u
unopened_running u is len digest e = apart (sym is ∙ e)
  where
    apart : told.Running ≡ told.Opened len digest → ⊥
    apart e = cc

unchanged_running : (u : History) → u ≡ told.Running → IsUnchanged u
unchanged_running u is first last e = apart (sym is ∙ e)
  where
    apart : told.Running ≡ told.Changed first last → ⊥
    apart e = cc

-- an operation keeps its file, and its value unless it is an open that got its content
pub file_stays : (o : Op) (c : client.State) (taken : List TakenCall) (step : ℕ) (acts : ClientStep) → acts.found ≡ None → (op_after o c taken step acts).file ≡ o.file
file_stays o c taken step acts none = file_after o c taken step acts none

pub value_stays : (o : Op) (c : client.State) (taken : List TakenCall) (step : ℕ) (acts : ClientStep) → IsUnopened (op_after o c taken step acts).outcome → (op_after o c taken step acts).value ≡ o.value
value_stays o c taken step acts un = by acts.ended un
  where
    ended : (u : Outcome) → IsUnopened (told_of u) → value_of o.value c u ≡ o.value
    ended (outcome.Opened file len digest) un = absurd (un len digest refl)
    ended u un = refl

    by : (e : Option Ended) → IsUnopened (op_after o c taken step (record acts { ended = e })).outcome → (op_after o c taken step (record acts { ended = e })).value ≡ o.value
    by None un = refl
    by (Some e) un = ended e.outcome un

-- what is known as a client takes an answer that its operation waits for, which makes this of it
pub record Answering (book more : Book) (taken : List TakenCall) (j : Job) (o : Op) (p : ℕ) (s : client.State) (x : ℕ) (b : Body) (r : client.State × ClientStep) : Type 0 where
  pub taking : Taking book more taken j o p
  -- which is no walk
  pub known : IsOfFile j.stage
  pub finds : r.1.found ≡ None
  pub apart : IsApart x j.stage
  pub fetched : (f : Fetch) (bytes : ℕ) → FetchNow j.stage x b f bytes → IsWhole book taken j f
  pub value : stage_word j.stage ≡ words.Close → o.value ≡ client.local_bytes s.opened j.file
  pub ops : more.ops ≡ slice_set book.ops p (op_after o r.0 taken (book.steps + 1) r.1)
  pub right : IsRight more (op_after o r.0 taken (book.steps + 1) r.1)
  pub moments : more.moments ≡ book.moments

-- what is true of the operation then, for which this was said
pub record After (P : Going) (E : Ending) (log : List Deal) (r : client.State × ClientStep) (new : Op) : Type 0 where
  pub stage : (u : Task) → r.1.ended ≡ None → r.0.task ≡ Some u → P log new.file new.value u.stage
  pub each : E log new.word new.file new.value new.outcome

-- the places of the chunks that the index gives then
abbrev pub found_in : client.State → (file : ℕ) → Stage → (xid : ℕ) → Body → List (ℕ × ℕ)
found_in s file st x b = given_in (idle s) (with_file file (reading_by st x b))

-- an answer came, by the index these chunks were given, and this was done
abbrev pub Answered : Going → Ending → Book → List TakenCall → Op → (log : List Deal) → (xid : ℕ) → Body → (found : List (ℕ × ℕ)) → client.State × ClientStep → Type 0
Answered P E book taken o log x b found r = After P E (log ++ deals_with (message.Answer x b ∷ []) found r.1.send) r (op_after o r.0 taken (book.steps + 1) r.1)

pub record LogLaws (all : List Moment) (P : Going) (E : Ending) : Type 0 where
  -- of a walk that it is one is said alone
  pub walks : (log : List Deal) (file : ℕ) (v : List ℕ) (x : ℕ) (w : Walk) → NamesOnly log → P log file v (stage.Walking x w)
  pub walked : (log : List Deal) (file : ℕ) (v : List ℕ) (x : ℕ) (w : Walk) → P log file v (stage.Walking x w) → NamesOnly log
  -- nothing was said for it but what a walk says
  pub none : (w : Word) (file : ℕ) (v : List ℕ) (u : History) → IsUnopened u → IsUnchanged u → (log : List Deal) → NamesOnly log → E log w file v u
  -- it is an open that got its content at once
  pub now : (log : List Deal) (file : ℕ) (v : List ℕ) (len : ℕ) (digest : List ℕ) → NamesOnly log → E log words.Open file v (told.Opened len digest)
  -- its first call was sent, maybe behind a walk
  pub asks : (log : List Deal) → NamesOnly log → (lbfs x file : ℕ) (v : List ℕ) → P (log ++ Sent (lease_call lbfs x file) ∷ []) file v (stage.Asking x)
  pub opens : (log : List Deal) → NamesOnly log → (lbfs x file : ℕ) (v : List ℕ) → P (log ++ Sent (hash_call lbfs x file 0) ∷ []) file v (stage.Hashing 1 x)
  pub renews : (log : List Deal) → NamesOnly log → (lbfs x file : ℕ) (v : List ℕ) → P (log ++ Sent (lease_call lbfs x file) ∷ []) file v (stage.Rewriting x)
  pub closes : (lbfs x temp file : ℕ) (v : List ℕ) → P (Sent (make_call lbfs x temp file) ∷ []) file v (stage.Making x temp)
  -- the file that an operation gets from the server is nothing to what is true of it
  pub moves : (log : List Deal) (file other : ℕ) (v : List ℕ) (w : Word) (u : History) → gets_file w ≡ true → E log w file v u → E log w other v u
  -- what is true of one under way is so however it ends, but where an open gets its content
  pub other : (log : List Deal) (file : ℕ) (v : List ℕ) (st : Stage) (u : History) → IsOfFile st → P log file v st → IsUnopened u → IsUnchanged u → E log (stage_word st) file v u
  -- an answer came
  pub heard : (book more : Book) (taken : List TakenCall) (j : Job) (o : Op) (p : ℕ) (s : client.State) (x : ℕ) (b : Body) → book.moments ≡ all → Answering book more taken j o p s x b (took (idle s) (client.calls_of s) j.file j.stage x b)
      → (log : List Deal) → P log o.file o.value j.stage → Answered P E book taken o log x b (found_in s j.file j.stage x b) (took (idle s) (client.calls_of s) j.file j.stage x b)

-- of one at any stage
over_any : (P : Going) (E : Ending) (all : List Moment) → LogLaws all P E → (log : List Deal) (file : ℕ) (v : List ℕ) (st : Stage) (u : History) → P log file v st → IsUnopened u → IsUnchanged u → E log (stage_word st) file v u
over_any P E all laws log file v (stage.Walking x w) u p un same = laws.none (stage_word (stage.Walking x w)) file v u un same log (laws.walked log file v x w p)
over_any P E all laws log file v st u p un same = laws.other log file v st u tt p un same

abbrev pub LogsAt : (P : Going) (E : Ending) (past : List Moment) → Core → Type 0
LogsAt P E past k = HaveLogs P E past k.steps k.seats k.ops

-- ---- events of the server

-- what gets its file from the server walks, and of a walk the file doesn't matter
walk_moves : (P : Going) (E : Ending) (all : List Moment) → LogLaws all P E → (log : List Deal) (f g : ℕ) (v : List ℕ) (st : Stage) → gets_file (stage_word st) ≡ true → P log f v st → P log g v st
walk_moves P E all laws log f g v (stage.Walking x w) is p = laws.walks log g v x w (laws.walked log f v x w p)
walk_moves P E all laws log f g v st is p = absurd cc

job_moves : (P : Going) (E : Ending) (all : List Moment) → LogLaws all P E → (book : Book) (k : Core) (qs : List Queue) (ops : List Op) (c : IsChange k ops) (log : List Deal) (i : ℕ) (seat : Seat) (j : Job) → IsKept book k qs → numbered k.seats i ≡ Some seat → job seat ≡ Some j → j.place ≡ c.place → P log c.op.file c.op.value j.stage → P log c.file c.op.value j.stage
job_moves P E all laws book k qs ops c log i seat j kept here is at p = elim c.kind [
  | inl close ↦ subst (λ (f : ℕ). P log f c.op.value j.stage) (sym close.1) p
  | inr make ↦
      let of = (kept.seats i seat here).task j is in
      let same : of.op ≡ c.op = some_is of.op c.op (sym of.there ∙ ap (slice_get book.ops) at ∙ ap (λ (l : List Op). slice_get l c.place) kept.ops ∙ c.there) in
      walk_moves P E all laws log c.op.file c.file c.op.value j.stage (ap gets_file (sym of.word ∙ ap (λ (z : Op). z.word) same) ∙ make.0) p
]

end_moves : (P : Going) (E : Ending) (all : List Moment) → LogLaws all P E → (k : Core) (ops : List Op) (c : IsChange k ops) (log : List Deal) → E log c.op.word c.op.file c.op.value c.op.outcome → E log c.op.word c.file c.op.value c.op.outcome
end_moves P E all laws k ops c log h = elim c.kind [
  | inl close ↦ subst (λ (f : ℕ). E log c.op.word f c.op.value c.op.outcome) (sym close.1) h
  | inr make ↦ laws.moves log c.op.file c.file c.op.value c.op.word c.op.outcome make.0 h
]

-- ---- a command

-- a client with nothing under way answers a command by itself, or its first call goes out
abbrev Answers : client.State × ClientStep → Type 0
Answers r = (r.1.send ≡ []) × ((e : Ended) × (r.1.ended ≡ Some e))

-- the first call of an open, of a rewrite, of a walk, or of a close, in any version of LBFS
abbrev IsFirst : (file : ℕ) → Message → Stage → Type 0
IsFirst file m (stage.Asking x) = (lbfs : ℕ) × (m ≡ lease_call lbfs x file)
IsFirst file m (stage.Rewriting x) = (lbfs : ℕ) × (m ≡ lease_call lbfs x file)
IsFirst file m (stage.Hashing tries x) = (tries ≡ 1) × ((lbfs : ℕ) × (m ≡ hash_call lbfs x file 0))
IsFirst file m (stage.Making x temp) = (lbfs : ℕ) × (m ≡ make_call lbfs x temp file)
IsFirst file m (stage.Walking x w) = IsNameDeal (Sent m)
IsFirst file m st = ⊥

abbrev Asks : Command → client.State × ClientStep → Type 0
Asks d r = (m : Message) × (st : Stage) × (r.1.ended ≡ None) × (r.1.send ≡ m ∷ []) × (r.0.task ≡ Some (record { file = file_of d; stage = st })) × (stage_word st ≡ word_of d) × IsFirst (file_of d) m st

begins_free : (s : client.State) (d : Command) (now : ℕ) → IsSmall d → s.task ≡ None → (let r = command_step s d now in Answers r ⊎ Asks d r)
begins_free s d now small free = command_cases (λ r. Answers r ⊎ Asks d r) s d now (record {
  busy = λ t is. nothing_there t (sym free ∙ is);
  answers = λ un opened o plain. inl (refl, (_, refl));
  fetches = λ file is un may. subst (λ (c : Command). let r = asks_kept (fronts s file) file None in Answers r ⊎ Asks c r) (sym is) (inr (hash_call s.lbfs s.next_xid file 0, stage.Hashing 1 s.next_xid, refl, refl, refl, refl, (refl, (s.lbfs, refl))));
  asks = λ file kept is un may at. subst (λ (c : Command). let r = asks_kept (fronts s file) file (Some kept) in Answers r ⊎ Asks c r) (sym is) (inr (lease_call s.lbfs s.next_xid file, stage.Asking s.next_xid, refl, refl, refl, refl, (s.lbfs, refl)));
  renews = λ file is un may. subst (λ (c : Command). let r = asks_version (fronts s file) file in Answers r ⊎ Asks c r) (sym is) (inr (lease_call s.lbfs s.next_xid file, stage.Rewriting s.next_xid, refl, refl, refl, refl, (s.lbfs, refl)));
  opens_now = λ file c is un shut now. inl (refl, (_, refl));
  empties_now = λ file c is un shut now. inl (refl, (_, refl));
  walks = λ c is un may. subst (λ (z : Command). let r = asks_next s (walk_begun c) in Answers r ⊎ Asks z r) (sym is) (inr (message.Call s.next_xid (body.Nfs (next_call (walk_begun c))), stage.Walking s.next_xid (walk_begun c), refl, refl, refl, sym (begun_word c), call_named s.next_xid (walk_begun c).dir (walk_begun c).left (walk_begun c).goal));
  closes = λ file l is un may at. subst (λ (c : Command). let r = asks_temp s file true in Answers r ⊎ Asks c r) (sym is) (inr (make_call s.lbfs s.next_xid s.next_temp file, stage.Making s.next_xid s.next_temp, refl, refl, refl, refl, (s.lbfs, refl)));
})

first_said : (P : Going) (E : Ending) (all : List Moment) → LogLaws all P E → (file : ℕ) (v : List ℕ) (m : Message) (st : Stage) → IsFirst file m st → P (Sent m ∷ []) file v st
first_said P E all laws file v m (stage.Asking x) (lbfs, is) = subst (λ (z : Message). P (Sent z ∷ []) file v (stage.Asking x)) (sym is) (laws.asks [] tt lbfs x file v)
first_said P E all laws file v m (stage.Rewriting x) (lbfs, is) = subst (λ (z : Message). P (Sent z ∷ []) file v (stage.Rewriting x)) (sym is) (laws.renews [] tt lbfs x file v)
first_said P E all laws file v m (stage.Hashing tries x) (one, (lbfs, is)) = subst (λ (z : Message). P (Sent z ∷ []) file v (stage.Hashing tries x)) (sym is) (subst (λ (n : ℕ). P (Sent (hash_call lbfs x file 0) ∷ []) file v (stage.Hashing n x)) (sym one) (laws.opens [] tt lbfs x file v))
first_said P E all laws file v m (stage.Making x temp) (lbfs, is) = subst (λ (z : Message). P (Sent z ∷ []) file v (stage.Making x temp)) (sym is) (laws.closes lbfs x temp file v)
first_said P E all laws file v m (stage.Walking x w) is = laws.walks (Sent m ∷ []) file v x w (is, tt)
first_said P E all laws file v m st is = absurd is

logs_first : (P : Going) (E : Ending) (all : List Moment) → LogLaws all P E → (k : Core) (c now : ℕ) (d : Command) (seat : Seat) → IsSmall d → seat.client.task ≡ None
    → (let r = command_step seat.client d now in let new = made_by k c now d seat r.0 r.1 in IsNew c d (k.steps + 1) r.1 new → (u : Task) → r.1.ended ≡ None → r.0.task ≡ Some u → P (map Sent r.1.send) new.file new.value u.stage)
logs_first P E all laws k c now d seat small free is u running task = elim (begins_free seat.client d now small free) [
  | inl a ↦ nothing_there a.1.0 (sym running ∙ a.1.1)
  | inr (m, st, goes, send, on, word, first) ↦
      let r = command_step seat.client d now in
      let new : Op = made_by k c now d seat r.0 r.1 in
      subst (λ (z : Task). P (map Sent r.1.send) new.file new.value z.stage) (some_is (record { file = file_of d; stage = st }) u (sym on ∙ task))
      (subst (λ (f : ℕ). P (map Sent r.1.send) f new.value st) (sym is.file) (subst (λ (l : List Message). P (map Sent l) (file_of d) new.value st) (sym send) (first_said P E all laws (file_of d) new.value m st first)))
]

logs_begun : (P : Going) (E : Ending) (all : List Moment) → LogLaws all P E → (more : Book) (k : Core) (c now : ℕ) (d : Command) (seat : Seat) → IsSmall d → IsMatched seat
    → (let r = command_step seat.client d now in let new = made_by k c now d seat r.0 r.1 in IsNew c d (k.steps + 1) r.1 new → IsRight more new → E (map Sent r.1.send) new.word new.file new.value new.outcome)
logs_begun P E all laws more k c now d seat small matched is right = by matched
  where
    new : Op
    new = made_by k c now d seat (command_step seat.client d now).0 (command_step seat.client d now).1

    -- there was no time to try
    unchanged : (first last : ℕ) → new.outcome ≡ told.Changed first last → ⊥
    unchanged first last e =
        let w = (subst (Caused more new) e right.cause).1 in
        let le = tried_from more new.file new.begin 3 w.first w.before in
        let lt = w.order in
        let past = w.past in
        let end = is.over w.end w.end_is in
        let begin = is.begin in
        absurd (omega (arith, le, lt, past, end, begin))

    nothing : (command_step seat.client d now).1.send ≡ [] → E (map Sent (command_step seat.client d now).1.send) new.word new.file new.value new.outcome
    nothing none = subst (λ (l : List Message). E (map Sent l) new.word new.file new.value new.outcome) (sym none) (elim (opened_or new.outcome) [
      | inl (len, digest, e) ↦ subst (λ (u : History). E [] new.word new.file new.value u) (sym e) (subst (λ (z : Word). E [] z new.file new.value (told.Opened len digest)) (sym (subst (Caused more new) e right.cause).0) (laws.now [] new.file new.value len digest tt))
      | inr un ↦ laws.none new.word new.file new.value new.outcome un unchanged [] tt
    ])

    by : IsMatched seat → E (map Sent (command_step seat.client d now).1.send) new.word new.file new.value new.outcome
    by (inr m) = nothing (busy_command seat.client d now (record { file = m.0.file; stage = m.0.stage }) (job_task seat.place seat.client.task m.0 m.1)).0
    by (inl free) = elim (begins_free seat.client d now small free.1) [
      | inl a ↦ nothing a.0
      | inr (m, st, goes, send, on, word, first) ↦
          subst (λ (z : Word). E (map Sent (command_step seat.client d now).1.send) z new.file new.value new.outcome) (word ∙ sym is.word)
          (over_any P E all laws (map Sent (command_step seat.client d now).1.send) new.file new.value st new.outcome
          (subst (λ (f : ℕ). P (map Sent (command_step seat.client d now).1.send) f new.value st) (sym is.file) (subst (λ (l : List Message). P (map Sent l) (file_of d) new.value st) (sym send) (first_said P E all laws (file_of d) new.value m st first)))
          (unopened_running new.outcome (is.running goes)) unchanged)
    ]

-- ---- an answer

-- what an answer comes to, of which these were taken
abbrev Comes : (P : Going) (E : Ending) (more : Book) (ops : List Op) (p : ℕ) → Op → List TakenCall → (steps : ℕ) → List Deal → client.State × ClientStep → List Message → (found : List (ℕ × ℕ)) → Type 0
Comes P E more ops p o taken n log got ms found = more.ops ≡ slice_set ops p (op_after o got.0 taken (n + 1) got.1) → IsRight more (op_after o got.0 taken (n + 1) got.1) → After P E (log ++ deals_with ms found got.1.send) got (op_after o got.0 taken (n + 1) got.1)

abbrev WalkAfter : (P : Going) (E : Ending) (more : Book) (taken : List TakenCall) (step : ℕ) → Op → (x : ℕ) → Body → List Deal → client.State × ClientStep → Type 0
WalkAfter P E more taken step o x b log r = IsRight more (op_after o r.0 taken step r.1) → After P E (log ++ deals_with (message.Answer x b ∷ []) [] r.1.send) r (op_after o r.0 taken step r.1)

-- one to a walk
walk_after : (P : Going) (E : Ending) (all : List Moment) → LogLaws all P E → (more : Book) (taken : List TakenCall) (step : ℕ) (o : Op) (s : client.State) (calls : List Pending) (file y : ℕ) (w : Walk) (x : ℕ) (b : Body) (log : List Deal) → NamesOnly log → o.word ≡ goal_word w.goal → o.outcome ≡ told.Running
    → WalkAfter P E more taken step o x b log (took s calls file (stage.Walking y w) x b)
walk_after P E all laws more taken step o s calls file y w x b log names word running = walk_cases (WalkAfter P E more taken step o x b log) s calls file y w x b (record {
  fault = λ f untold right. (let r = bad_peer s f 0 in absurd (no_fault_after more o r.0 taken step r.1 right (f, refl)));
  asks = λ v k right. (let all_named = names_join log (Took (message.Answer x b) ∷ Sent (message.Call s.next_xid (body.Nfs (next_call v))) ∷ []) names (took_named (leading.Asks v) k, (call_named s.next_xid v.dir v.left v.goal, tt)) in record {
    stage = λ u going is. subst (λ (t : Task). P (log ++ Took (message.Answer x b) ∷ Sent (message.Call s.next_xid (body.Nfs (next_call v))) ∷ []) o.file o.value t.stage) (some_is (record { file = 0; stage = stage.Walking s.next_xid v }) u is) (laws.walks (log ++ Took (message.Answer x b) ∷ Sent (message.Call s.next_xid (body.Nfs (next_call v))) ∷ []) o.file o.value s.next_xid v all_named);
    each = laws.none o.word o.file o.value o.outcome (unopened_running o.outcome running) (unchanged_running o.outcome running) (log ++ Took (message.Answer x b) ∷ Sent (message.Call s.next_xid (body.Nfs (next_call v))) ∷ []) all_named;
  });
  open_already = λ id k is right. record {
    stage = λ u going. nothing_there _ (sym going);
    each = laws.none o.word id o.value told.AlreadyOpen (λ len digest e. absurd (already_opened len digest e)) (λ first last e. absurd (already_changed first last e)) (log ++ Took (message.Answer x b) ∷ []) (one_more (leading.Finds id) k);
  };
  fetches = λ id k shut none right. (let r = asks_kept (fronts s id) id None in found id (stage.Hashing 1 s.next_xid) (hash_call s.lbfs s.next_xid id 0) r.0 (record r.1 { found = Some id }) tt (sym (stage_word_open id k)) refl) (subst (λ (l : List Deal). P l id o.value (stage.Hashing 1 s.next_xid)) (joined log (Took (message.Answer x b) ∷ []) (Sent (hash_call s.lbfs s.next_xid id 0) ∷ [])) (laws.opens (log ++ Took (message.Answer x b) ∷ []) (one_more (leading.Finds id) k) s.lbfs s.next_xid id o.value));
  leases = λ id v k shut some right. (let r = asks_kept (fronts s id) id (Some v) in found id (stage.Asking s.next_xid) (lease_call s.lbfs s.next_xid id) r.0 (record r.1 { found = Some id }) tt (sym (stage_word_open id k)) refl) (subst (λ (l : List Deal). P l id o.value (stage.Asking s.next_xid)) (joined log (Took (message.Answer x b) ∷ []) (Sent (lease_call s.lbfs s.next_xid id) ∷ [])) (laws.asks (log ++ Took (message.Answer x b) ∷ []) (one_more (leading.Finds id) k) s.lbfs s.next_xid id o.value));
  opens_now = λ id c k shut now right. (let r = opens_fresh (forgets_of s calls x) id c in record {
    stage = λ u going. nothing_there _ (sym going);
    each = subst (λ (z : Word). E (log ++ Took (message.Answer x b) ∷ []) z id (client.local_bytes r.0.opened id) (told.Opened (length c.bytes) (sha1 c.bytes))) (sym (stage_word_open id k)) (laws.now (log ++ Took (message.Answer x b) ∷ []) id (client.local_bytes r.0.opened id) (length c.bytes) (sha1 c.bytes) (one_more (leading.Finds id) k));
  });
  renew_already = λ id k is right. record {
    stage = λ u going. nothing_there _ (sym going);
    each = laws.none o.word id o.value told.AlreadyOpen (λ len digest e. absurd (already_opened len digest e)) (λ first last e. absurd (already_changed first last e)) (log ++ Took (message.Answer x b) ∷ []) (one_more (leading.Rewrites id) k);
  };
  renews = λ id k shut right. (let r = asks_version (fronts s id) id in found id (stage.Rewriting s.next_xid) (lease_call s.lbfs s.next_xid id) r.0 (record r.1 { found = Some id }) tt (sym (stage_word_rewrite id k)) refl) (subst (λ (l : List Deal). P l id o.value (stage.Rewriting s.next_xid)) (joined log (Took (message.Answer x b) ∷ []) (Sent (lease_call s.lbfs s.next_xid id) ∷ [])) (laws.renews (log ++ Took (message.Answer x b) ∷ []) (one_more (leading.Rewrites id) k) s.lbfs s.next_xid id o.value));
  empties_now = λ id c k shut now right. record {
    stage = λ u going. nothing_there _ (sym going);
    each = laws.none o.word id o.value told.Done (λ len digest e. absurd (done_opened len digest e)) (λ first last e. absurd (done_changed first last e)) (log ++ Took (message.Answer x b) ∷ []) (one_more (leading.Rewrites id) k);
  };
  ends = λ v e k same right. record {
    stage = λ u going. nothing_there _ (sym going);
    each = laws.none o.word (file_with o.file (seen_in (is_look v.goal) e)) (value_of o.value (forgets_of s calls x) (outcome_of e)) (told_of (outcome_of e)) (ended_unopened e) (ended_unchanged e) (log ++ Took (message.Answer x b) ∷ []) (one_more (leading.Ends e) k);
  };
})
  where
    joined : (xs ys zs : List Deal) → (xs ++ ys) ++ zs ≡ xs ++ (ys ++ zs)
    joined [] ys zs = refl
    joined (d ∷ xs) ys zs = ap (λ l. d ∷ l) (joined xs ys zs)

    took_named : (t : Leading) → Walks (stage.Walking y w) b t → IsNameDeal (Took (message.Answer x b))
    took_named t k = subst (λ (z : Body). IsNameDeal (Took (message.Answer x z))) (sym k.body_is) (answer_named x k.walk k.answer k.its)

    one_more : (t : Leading) → Walks (stage.Walking y w) b t → NamesOnly (log ++ Took (message.Answer x b) ∷ [])
    one_more t k = names_join log (Took (message.Answer x b) ∷ []) names (took_named t k, tt)

    stage_word_open : (id : ℕ) → Walks (stage.Walking y w) b (leading.Finds id) → o.word ≡ words.Open
    stage_word_open id k = word ∙ ap stage_word k.stage_is ∙ finds_open k.walk k.answer id k.told_is

    stage_word_rewrite : (id : ℕ) → Walks (stage.Walking y w) b (leading.Rewrites id) → o.word ≡ words.Rewrite
    stage_word_rewrite id k = word ∙ ap stage_word k.stage_is ∙ finds_rewrite k.walk k.answer id k.told_is

    already_opened : (len : ℕ) (digest : List ℕ) → told.AlreadyOpen ≡ told.Opened len digest → ⊥
    already_opened len digest e = cc

    already_changed : (first last : ℕ) → told.AlreadyOpen ≡ told.Changed first last → ⊥
    already_changed first last e = cc

    done_opened : (len : ℕ) (digest : List ℕ) → told.Done ≡ told.Opened len digest → ⊥
    done_opened len digest e = cc

    done_changed : (first last : ℕ) → told.Done ≡ told.Changed first last → ⊥
    done_changed first last e = cc

    ended_unopened : (e : WalkEnd) → IsUnopened (told_of (outcome_of e))
    ended_unopened walk_end.Done len digest q = absurd cc
    ended_unopened _ len digest q = absurd cc

    ended_unchanged : (e : WalkEnd) → IsUnchanged (told_of (outcome_of e))
    ended_unchanged walk_end.Done first last q = absurd cc
    ended_unchanged _ first last q = absurd cc

    -- an open of the file goes on
    found : (id : ℕ) (st : Stage) (m : Message) (r : client.State) (acts : ClientStep) → IsOfFile st → stage_word st ≡ o.word → r.task ≡ Some (record { file = id; stage = st }) → P (log ++ Took (message.Answer x b) ∷ Sent m ∷ []) id o.value st → After P E (log ++ deals_with (message.Answer x b ∷ []) [] (m ∷ [])) (r, acts) (record o { file = id; traffic = counted o.traffic acts.counts })
    found id st m r acts of open_ task p = record {
      stage = λ u going is. subst (λ (t : Task). P (log ++ Took (message.Answer x b) ∷ Sent m ∷ []) id o.value t.stage) (some_is (record { file = id; stage = st }) u (sym task ∙ is)) p;
      each = subst (λ (z : Word). E (log ++ Took (message.Answer x b) ∷ Sent m ∷ []) z id o.value o.outcome) open_ (laws.other (log ++ Took (message.Answer x b) ∷ Sent m ∷ []) id o.value st o.outcome of p (unopened_running o.outcome running) (unchanged_running o.outcome running));
    }

-- whatever holds of an answer that is dropped, and of one to what is under way, holds of each answer
pub answer_cases : (Z : client.State × ClientStep → List Message → List (ℕ × ℕ) → Type 0) (c : client.State) (t : Task) (x : ℕ) (b : Body) → c.task ≡ Some t → ((forgotten : Bool) → Z (drops c (Some t) x forgotten) [] [])
    → (client.has_call (client.pending_in t.stage) x ≡ true → Z (took (idle c) (client.calls_of c) t.file t.stage x b) (message.Answer x b ∷ []) (given_in c (with_file t.file (reading_by t.stage x b)))) → Z (got_message c c.task (message.Answer x b)) (wanted_by c (Ok (message.Answer x b))) (given_by_message c (Ok (message.Answer x b)))
answer_cases Z c t x b task dropped own = subst (λ (o : Option Task). Z (took_if c o x b (client.has_call (client.pending o) x)) (wanted_if (client.has_call (client.pending o) x) (message.Answer x b)) (given_in c (reading o (message.Answer x b)))) (sym task) (by (client.has_call (client.pending_in t.stage) x) refl)
  where
    by : (is_own : Bool) → client.has_call (client.pending_in t.stage) x ≡ is_own → Z (took_if c (Some t) x b is_own) (wanted_if is_own (message.Answer x b)) (given_in c (reading_if t x b is_own))
    by true is = own is
    by false is = dropped (client.has_call c.forgotten x)

abbrev Goes_on : (P : Going) (E : Ending) (more : Book) (ops : List Op) (p : ℕ) → Op → List TakenCall → (steps : ℕ) → List Deal → client.State → (file x : ℕ) → Body → Stage → Type 0
Goes_on P E more ops p o taken n log c file x b st = (let got = took (idle c) (client.calls_of c) file st x b in more.ops ≡ slice_set ops p (op_after o got.0 taken (n + 1) got.1) → IsRight more (op_after o got.0 taken (n + 1) got.1) → After P E (log ++ deals_with (message.Answer x b ∷ []) (given_in c (with_file file (reading_by st x b))) got.1.send) got (op_after o got.0 taken (n + 1) got.1))

answered : (P : Going) (E : Ending) (all : List Moment) → LogLaws all P E → (book more : Book) (taken : List TakenCall) (j : Job) (o : Op) (p : ℕ) (c : client.State) (x : ℕ) (b : Body) (log : List Deal) → book.moments ≡ all → c.task ≡ Some (record { file = j.file; stage = j.stage }) → o.word ≡ stage_word j.stage → o.outcome ≡ told.Running → P log o.file o.value j.stage → E log o.word o.file o.value o.outcome
    → (IsOfFile j.stage → (got : client.State × ClientStep) → client.has_call (client.pending_in j.stage) x ≡ true → more.ops ≡ slice_set book.ops p (op_after o got.0 taken (book.steps + 1) got.1) → IsRight more (op_after o got.0 taken (book.steps + 1) got.1) → got.1.found ≡ None → Answering book more taken j o p c x b got)
    → Comes P E more book.ops p o taken book.steps log (got_message c c.task (message.Answer x b)) (wanted_by c (Ok (message.Answer x b))) (given_by_message c (Ok (message.Answer x b)))
answered P E all laws book more taken j o p c x b log all_is task word running was each known =
    answer_cases (Comes P E more book.ops p o taken book.steps log) c (record { file = j.file; stage = j.stage }) x b task dropped (going j.stage refl)
  where
    dropped : (forgotten : Bool) → Comes P E more book.ops p o taken book.steps log (drops c (Some (record { file = j.file; stage = j.stage })) x forgotten) [] []
    dropped true ops right = record {
      stage = λ u running is. subst (λ l. P l o.file o.value u.stage) (sym (append-nil log)) (subst (P log o.file o.value) (ap (λ (z : Task). z.stage) (some_is (record { file = j.file; stage = j.stage }) u (sym task ∙ is))) was);
      each = subst (λ l. E l o.word o.file o.value o.outcome) (sym (append-nil log)) each;
    }
    dropped false ops right = let r = bad_peer c (bad.UnknownXid x) 0 in absurd (no_fault_after more o r.0 taken (book.steps + 1) r.1 right (bad.UnknownXid x, refl))

    filed : IsOfFile j.stage → client.has_call (client.pending_in j.stage) x ≡ true → Goes_on P E more book.ops p o taken book.steps log c j.file x b j.stage
    filed of own ops right =
        let got = took (idle c) (client.calls_of c) j.file j.stage x b in
        subst (λ (l : List (ℕ × ℕ)). Answered P E book taken o log x b l got) (given_idle c (with_file j.file (reading_by j.stage x b))) (laws.heard book more taken j o p c x b all_is (known of got own ops right (took_finds (idle c) (client.calls_of c) j.file j.stage x b of)) log was)

    going : (st : Stage) → j.stage ≡ st → client.has_call (client.pending_in j.stage) x ≡ true → Goes_on P E more book.ops p o taken book.steps log c j.file x b st
    going (stage.Walking y w) at own ops right = walk_after P E all laws more taken (book.steps + 1) o (idle c) (client.calls_of c) j.file y w x b log (laws.walked log o.file o.value y w (subst (P log o.file o.value) at was)) (word ∙ ap stage_word at) running right
    going st at own ops right = subst (Goes_on P E more book.ops p o taken book.steps log c j.file x b) at (filed (subst IsOfFile (sym at) tt) own) ops right

-- what holds with each word of those that get their file from the server
pub by_getting : (Z : Word → Type 0) → Z words.Make → Z words.Remove → Z words.Rename → (w : Word) → gets_file w ≡ true → Z w
by_getting Z make remove rename words.Make gets = make
by_getting Z make remove rename words.Remove gets = remove
by_getting Z make remove rename words.Rename gets = rename
by_getting Z make remove rename w gets = absurd cc

logs_heard : (P : Going) (E : Ending) (all : List Moment) → LogLaws all P E → (opening : List Opening) (past : List Moment) (k : Core) (qs after : List Queue) (n now : ℕ) (bytes : List ℕ) (mid : List Queue) → IsKept (book_at opening k all) k qs → (h : Heard k qs n now bytes mid)
    → (let r = got_step h.seat.client (Ok (told_message h.told)) now in let t = acted k h.session.owner h.seat r.0 r.1 in IsKept (book_at opening t.core all) t.core after → (j : Job) (o : Op) → job h.seat ≡ Some j → slice_get k.ops j.place ≡ Some o → P (deals_of o past) o.file o.value j.stage → E (deals_of o past) o.word o.file o.value o.outcome
    → After P E (deals_of o past ++ deals_with (wanted_by h.seat.client (Ok (told_message h.told))) (given_by_message h.seat.client (Ok (told_message h.told))) r.1.send) r (op_after o r.0 (session_taken (session_of k.sessions h.seat.session)) (k.steps + 1) r.1))
logs_heard P E all laws opening past k qs after n now bytes mid kept h left j o job_at at was each =
    let book : Book = book_at opening k all in
    let r = got_step h.seat.client (Ok (told_message h.told)) now in
    let taken : List TakenCall = session_taken (session_of k.sessions h.seat.session) in
    let more : Book = book_at opening (acted k h.session.owner h.seat r.0 r.1).core all in
    let taken_is : h.session.taken ≡ taken = sym (ap (λ l. session_taken (session_of k.sessions l)) h.newest ∙ ap session_taken h.at) in
    let s : IsSession book k.seats k.server n h.session h.queue = kept.sessions n h.session h.queue h.at h.queue_is (has_owner k.seats h.session h.seat h.owner) in
    let same_seat : s.seat ≡ h.seat = some_is s.seat h.seat (sym s.owner ∙ h.owner) in
    let place = job_place h.seat.place h.seat.client.task j job_at in
    let w = own_op book k qs h.session.owner h.seat j.place o kept h.owner place at in
    let of = (kept.seats h.session.owner h.seat h.owner).task j job_at in
    let same : of.op ≡ o = some_is of.op o (sym of.there ∙ at) in
    let word : o.word ≡ stage_word j.stage = ap (λ (z : Op). z.word) (sym same) ∙ of.word in
    let task = job_task h.seat.place h.seat.client.task j job_at in
    let new : Op = op_after o r.0 taken (k.steps + 1) r.1 in
    let ops_are : more.ops ≡ slice_set k.ops j.place new = ap (λ l. ops_with k.ops l r.0 taken (k.steps + 1) r.1) place ∙ ap (λ l. ops_after k.ops j.place l r.0 taken (k.steps + 1) r.1) at in
    let right = left.sound.rights j.place new (ap (λ (l : List Op). slice_get l j.place) ops_are ∙ at_replaced k.ops j.place new o at) in
    let job_is : job s.seat ≡ Some j = ap job same_seat ∙ job_at in
    let talk = s.talk h.uncut in
    let fetch = subst (λ z. FetchOf book z j j.stage) taken_is (talk.fetch j job_is) in
    let answer = subst (λ z. AnswerOf book z h.session.closing (Some j) h.told.xid h.told.reply) taken_is (subst (λ z. AnswerOf book h.session.taken h.session.closing z h.told.xid h.told.reply) job_is (subst (AllTolds (IsAnswer book h.session.taken h.session.closing (job s.seat))) h.first talk.answers).0) in
    let trying = subst (IsTrying book) job_at (kept.seats h.session.owner h.seat h.owner).trying in
    let all_once = talk.balanced.once h.told.xid in
    let split = times_map_append (λ (c : Pending). c.xid) h.told.xid (client.pending_in j.stage) s.seat.client.forgotten in
    let task_there = ap (λ (z : Seat). z.client.task) same_seat ∙ task in
    let calls = ap (λ (t : Option Task). times h.told.xid (map (λ (c : Pending). c.xid) (client.pending t ++ s.seat.client.forgotten))) task_there in
    let apart = apart_in h.told.xid j.stage (omega (arith, all_once, split, calls)) in
    let close = subst (λ (z : Seat). CloseOf book h.session.closing s.contents z.client.next_temp j (client.local_bytes z.client.opened j.file) j.stage) same_seat (s.closes h.uncut j job_is) in
    let value = value_by book h.session.closing s.contents h.seat.client.next_temp j o (client.local_bytes h.seat.client.opened j.file) at j.stage close in
    answered P E all laws book more taken j o j.place (at_clock h.seat.client now) h.told.xid (reply_body h.told.reply) (deals_of o past) refl task word (ap (λ (z : Op). z.outcome) (sym same) ∙ of.running) was each (λ of_known got mine ops_got right_got finds. record {
      known = of_known;
      finds = finds;
      taking = record { at = at; place = refl; file = ap (λ (z : Op). z.file) (sym same) ∙ of.file (of_file_unnamed j.stage of_known); word = word; running = ap (λ (z : Op). z.outcome) (sym same) ∙ of.running; fetch = fetch; trying = trying; opening = refl; raws = refl };
      apart = apart;
      fetched = fetched_now book taken h.session.closing j h.told.xid h.told.reply kept.sound fetch answer mine;
      value = value;
      ops = ops_got;
      right = right_got;
      moments = refl;
    }) ops_are right
  where
    value_by : (book : Book) (closing : Option ℕ) (contents : ℕ → List ℕ) (m : ℕ) (j : Job) (o : Op) (v : List ℕ) → slice_get book.ops j.place ≡ Some o → (st : Stage) → CloseOf book closing contents m j v st → stage_word st ≡ words.Close → o.value ≡ v
    value_by book closing contents m j o v at (stage.Making x temp) h is = ap (λ (z : Op). z.value) (some_is o h.0.op (sym at ∙ h.0.there)) ∙ h.0.value_is
    value_by book closing contents m j o v at (stage.Storing st) h is = ap (λ (z : Op). z.value) (some_is o h.0.op (sym at ∙ h.0.there)) ∙ h.0.value_is
    value_by book closing contents m j o v at (stage.Committing x) h is = ap (λ (z : Op). z.value) (some_is o h.0 (sym at ∙ h.1)) ∙ h.3
    value_by book closing contents m j o v at (stage.Walking x w) h is = absurd (goal_not_close w.goal is)
    value_by book closing contents m j o v at _ h is = absurd cc

-- ---- any event

abbrev As : Going → Rattle.kept_promise.proofs.OpFacts.Going
As P past log p o st = P log o.file o.value st

abbrev AsEnd : Ending → Rattle.kept_promise.proofs.OpFacts.Ending
AsEnd E past log p o = E log o.word o.file o.value o.outcome

log_facts : (P : Going) (E : Ending) (all : List Moment) → LogLaws all P E → (past rest : List Moment) (opening : List Opening) (k : Core) (qs mid after : List Queue) → IsKept (book_at opening k all) k qs → FactLaws (As P) (AsEnd E) all past rest opening k qs mid after
log_facts P E all laws past rest opening k qs mid after kept = record {
  stays = λ e log p o st lt h. h;
  ends_stay = λ e log p o lt h. h;
  changes = λ ops c log i seat j here is same h. job_moves P E all laws (book_at opening k all) k qs ops c log i seat j kept here is same h;
  ends_change = λ ops c log h. end_moves P E all laws k ops c log h;
  begins = λ c now d seat here small free is u running task. logs_first P E all laws k c now d seat small free is u running task;
  begun = λ c now d seat here small is right. logs_begun P E all laws (book_at opening (does k c now d (Some seat)).core all) k c now d seat small (kept.seats c seat here).matched is right;
  hears = λ n now bytes w left j o is at was each. (let a = logs_heard P E all laws opening past k qs after n now bytes mid kept w left j o is at was each in record { stage = a.stage; each = a.each });
  lost = λ c seat here j o is at was each.
      let of = (kept.seats c seat here).task j is in
      let word : o.word ≡ stage_word j.stage = ap (λ (z : Op). z.word) (some_is o of.op (sym at ∙ of.there)) ∙ of.word in
      subst (λ (z : Word). E (deals_of o past) z o.file o.value told.Lost) (sym word) (over_any P E all laws (deals_of o past) o.file o.value j.stage told.Lost was (λ len digest z. lost_not len digest z) (λ first last z. lost_not_changed first last z));
}
  where
    lost_not : (len : ℕ) (digest : List ℕ) → told.Lost ≡ told.Opened len digest → ⊥
    lost_not len digest z = absurd cc

    lost_not_changed : (first last : ℕ) → told.Lost ≡ told.Changed first last → ⊥
    lost_not_changed first last z = absurd cc

logs_event : (P : Going) (E : Ending) (all : List Moment) → LogLaws all P E → FitLaws → (past rest : List Moment) (opening : List Opening) (k : Core) (qs : List Queue) (e : Event) (mid after : List Queue) → Step all past rest opening k qs e mid after → LogsAt P E past k → LogsAt P E (past ++ moment k e ∷ []) (happens k e).core
logs_event P E all laws fits past rest opening k qs e mid after s h =
    let f = facts_event fits (As P) (AsEnd E) all past rest opening k qs e mid after s h.by (log_facts P E all laws past rest opening k qs mid after s.kept) (record { jobs = h.jobs; each = h.each }) in
    record { by = past_event fits all past rest opening k qs e mid after s h.by; jobs = f.jobs; each = f.each }

-- whatever each step of a client keeps is carried
pub carried_logs : (P : List Moment → Going) (E : List Moment → Ending) → ((all : List Moment) → LogLaws all (P all) (E all)) → FitLaws → Carried (λ all past opening k qs. LogsAt (P all) (E all) past k)
carried_logs P E laws fits = record {
  first = λ all opening tree count kept. record { by = tt; jobs = λ i seat j o here is at. nothing_there o at; each = λ p o at. nothing_there o at };
  steps = λ all past rest opening k qs e mid after s h. logs_event (P all) (E all) all (laws all) fits past rest opening k qs e mid after s h;
  adjusts = λ all past opening k qs index seats same h. logs_kept (P all) (E all) past k.steps k.seats seats k.ops same h;
}
