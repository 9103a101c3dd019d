-- A run carries that what was said for each operation on names is its walk's, and then its file's.
use Rattle.std.proofs.Common.{◌⊎◌, inl, inr, ◌≡◌, ℕ, zero, suc, ◌+◌, ◌<◌, List, [], ◌∷◌, ◌++◌, length, append-nil, Option, Some, None, Ok, Bool, true, false, refl, sym, ap, ◌∙◌, subst, arith, map, eqb-true}
use Rattle.command_text.specs.declared.command.Command.TheVariants as command
use Rattle.command_text.specs.declared.path.PathCommand.{PathCommand}
use Rattle.command_text.specs.declared.path.PathCommand.TheVariants as path
use Rattle.client_state.specs.declared.step.BadPeer.{BadPeer}
use Rattle.register_model.specs.declared.op.Outcome.{Outcome as History}
use Rattle.wire.specs.declared.message.Message.TheVariants as message
use Rattle.path_calls.specs.Walk.{begun}
use Rattle.path_calls.specs.declared.walk.Walk.{Walk}
use Rattle.client_state.specs.Noting.{at as at_clock}
use Rattle.client_state.specs.State as client
use Rattle.client_state.specs.Ending.{may_walk}
use Rattle.client_state.specs.declared.step.Outcome.TheVariants as outcome
use Rattle.client_state.specs.declared.step.BadPeer.TheVariants as bad
use Rattle.client_state.specs.declared.task.Stage.TheVariants as stage
use Rattle.open_close.specs.Walking.{walks, walks_if}
use Rattle.register_model.specs.declared.op.Outcome.TheVariants as told
use Rattle.register_model.specs.declared.op.Word.TheVariants as words
use Rattle.trace_ends.specs.Session.{taken_of as session_taken}
use Rattle.trace_ends.specs.Ops.{begun as op_begun, file_with}
use Rattle.trace_replay.specs.Trail.{is_fresh_for, given_in, given_by_message}
use Rattle.file_open.specs.Looking.{reading_by, with_file}
use Rattle.trace_replay.specs.Walking.{Part, Part.asks, IsWalk, AreCalls, HasWalkFile, HasFoundFile}
use Rattle.kept_promise.proofs.Common.{◌==◌, Word, Outcome, told_of, slice_get, slice_set, Command, ClientStep, Ended, ended_by, command_step, Stage, Task, Op, Opening, TakenCall, op_after, ops_with, ops_after, place_after, Core, Seat, Event, Event.Does, Event.Hears, Event.Cuts, numbered, with_numbered, acted, session_of, happens, Moment, Deed, deeds_of, Book, Queue, got_step, got_message, told_message, reply_body, Body, took, idle, drops, Message, joined_from, calls_from, deed_by, word_of, file_of, value_at_begin, wanted_by, Deal, Deal.Sent, deals_with, deals_of}
use Rattle.kept_promise.proofs.Lists.{some_is, nothing_there, at_replaced, at_end, within}
use Rattle.kept_promise.proofs.Messages.{Job, job, job_of, stage_word, goal_word}
use Rattle.kept_promise.proofs.Facts.{IsKept, IsOf, is_naming}
use Rattle.kept_promise.proofs.Fits.{FitLaws}
use Rattle.kept_promise.proofs.Locally.{deeds_more}
use Rattle.kept_promise.proofs.RunsCarried.{book_at, moment, Step}
use Rattle.kept_promise.proofs.Actors.{job_place, job_task, Heard}
use Rattle.kept_promise.proofs.CountedRuns.{no_fault_after}
use Rattle.kept_promise.proofs.CommandOps.{made_by}
use Rattle.kept_promise.proofs.VersionRuns.{or_none, unnamed, word_after}
use Rattle.kept_promise.proofs.Rights.{gets_file}
use Rattle.kept_promise.proofs.Found.{took_finds}
use Rattle.kept_promise.proofs.StepCases.{IsOfFile, IsFault}
use Rattle.kept_promise.proofs.Logs.{ArePast}
use Rattle.kept_promise.proofs.LogEvents.{answer_cases}
use Rattle.kept_promise.proofs.WalkLog.{GaveUp, walk_gave, IsUnder, SaidOn, outcome_by, runs_so, lost_so, SendsNone, PlainOn, under_walk, IsGetting, under_word, walk_said, file_said, plain_said, first_said, command_none, command_plain, none_named, under_walking}
use Rattle.kept_promise.proofs.OwnLog.{AreNear, near_is_own}
use Rattle.kept_promise.proofs.WalkFile.{filed_found, filed_as, filed_made, found_as, unfound_as, unfound_of, walk_filed, command_filed, lost_point}
use Rattle.kept_promise.proofs.Commands.{begun_word}
use Rattle.kept_promise.proofs.WalkPages.{begun_file}
use Rattle.kept_promise.proofs.Turns.{around_with}
use Rattle.register_model.specs.Register.{changes}
use Rattle.kept_promise.proofs.EventCases.{IsChange}
use Rattle.kept_promise.proofs.OpFacts.{Going, Ending, HaveFacts, FactLaws, changed, facts_event, IsNew}

-- of a walk the file doesn't matter
under_moves : (p : Part) (ds : List Deal) (f g : ℕ) (st : Stage) → (is_naming st ≡ false → f ≡ g) → IsUnder p ds f st → IsUnder p ds g st
under_moves p ds f g (stage.Walking x w) same h = under_walking p ds f g x w h
under_moves p ds f g st same h = subst (λ (z : ℕ). IsUnder p ds z st) (same refl) h

-- ---- an operation that is under way, after a step of its client

-- where it ends, in this step
abbrev end_by : (step : ℕ) → Option Ended → Option ℕ
end_by step None = None
end_by step (Some e) = Some step

end_now : (o : Op) (c : client.State) (taken : List TakenCall) (step : ℕ) (acts : ClientStep) → o.end ≡ None → (op_after o c taken step acts).end ≡ end_by step acts.ended
end_now o c taken step acts none = by acts.ended
  where
    by : (e : Option Ended) → (op_after o c taken step (record acts { ended = e })).end ≡ end_by step e
    by None = none
    by (Some e) = refl

outcome_now : (o : Op) (c : client.State) (taken : List TakenCall) (step : ℕ) (acts : ClientStep) → o.outcome ≡ told.Running → (op_after o c taken step acts).outcome ≡ outcome_by acts.ended
outcome_now o c taken step acts running = by acts.ended
  where
    by : (e : Option Ended) → (op_after o c taken step (record acts { ended = e })).outcome ≡ outcome_by e
    by None = running
    by (Some e) = refl

-- an operation's file then
file_now : (o : Op) (c : client.State) (taken : List TakenCall) (step : ℕ) (acts : ClientStep) → (op_after o c taken step acts).file ≡ file_with o.file acts.found
file_now o c taken step acts = by acts.ended
  where
    by : (e : Option Ended) → (op_after o c taken step (record acts { ended = e })).file ≡ file_with o.file acts.found
    by None = refl
    by (Some e) = refl

-- and its point, while it goes on
point_now : (o : Op) (c : client.State) (taken : List TakenCall) (step : ℕ) (acts : ClientStep) → acts.ended ≡ None → (op_after o c taken step acts).point ≡ o.point
point_now o c taken step acts none = ap (λ (l : Option Ended). (op_after o c taken step (record acts { ended = l })).point) none

-- ---- what is carried

-- of one under way
abbrev pub IsSaid : Command → List Deal → (file : ℕ) → Stage → Type 0
IsSaid (command.Named c) log file st = IsUnder (asks (begun c)) log file st
-- of one by an id none is on names
IsSaid d log file st = IsOfFile st × SendsNone log

-- of any
abbrev pub HasCalls : Command → History → (end : Option ℕ) → (begin : ℕ) → List Deal → Type 0
HasCalls (command.Named c) u end begin log = ((log ≡ []) × (end ≡ Some begin) × ((u ≡ told.Busy) ⊎ (u ≡ told.NoLink))) ⊎ IsWalk u (asks (begun c)) log
HasCalls d u end begin log = SendsNone log

-- also where its connection was lost
lost_calls : (d : Command) (end : Option ℕ) (begin : ℕ) (log : List Deal) (file : ℕ) (st : Stage) → IsSaid d log file st → HasCalls d told.Lost end begin log
lost_calls (command.Named c) end begin log file st h = inr (under_walk told.Lost (asks (begun c)) log file st (lost_so st) h)
lost_calls _ end begin log file st h = h.1

-- a listing that ended so, behind its first step, gave up
abbrev pub GaveNow : Command → History → (end : Option ℕ) → (begin : ℕ) → List Deal → Type 0
GaveNow (command.Named (path.List ns)) u end begin log = u ≡ told.NoLink → (end ≡ Some begin → ⊥) → GaveUp (asks (begun (path.List ns))) log
GaveNow d u end begin log = Unit {0}

gave_not : (d : Command) (u : History) (end : Option ℕ) (begin : ℕ) (log : List Deal) → (u ≡ told.NoLink → ⊥) → GaveNow d u end begin log
gave_not (command.Named (path.List ns)) u end begin log not = λ is late. absurd (not is)
gave_not d u end begin log not = tt

gave_first : (d : Command) (u : History) (end : Option ℕ) (begin : ℕ) (log : List Deal) → end ≡ Some begin → GaveNow d u end begin log
gave_first (command.Named (path.List ns)) u end begin log first = λ is late. absurd (late first)
gave_first d u end begin log first = tt

lost_link : told.Lost ≡ told.NoLink → ⊥
lost_link e = absurd cc

running_link : told.Running ≡ told.NoLink → ⊥
running_link e = absurd cc

-- of an operation of this command, for which this was said
pub record HasSaid (d : Command) (log : List Deal) (o : Op) : Type 0 where
  pub each : HasCalls d o.outcome o.end o.begin log
  pub gave : GaveNow d o.outcome o.end o.begin log
  pub filed : HasFoundFile d o log

abbrev pub SaidGoing : Going
SaidGoing past log p o st = (d : Deed) → slice_get (deeds_of past) p ≡ Some d → IsSaid d.command log o.file st

abbrev pub SaidEnding : Ending
SaidEnding past log p o = (d : Deed) → slice_get (deeds_of past) p ≡ Some d → HasSaid d.command log o

abbrev pub AreSaid : (past : List Moment) → Core → Type 0
AreSaid past k = HaveFacts SaidGoing SaidEnding past k

-- each operation is of its command's word
abbrev pub AreWorded : (past : List Moment) → List Op → Type 0
AreWorded past ops = (p : ℕ) (d : Deed) (o : Op) → slice_get (deeds_of past) p ≡ Some d → slice_get ops p ≡ Some o → o.word ≡ word_of d.command

-- so what was said for a command is its operation's own, or its walk's
pub own_calls : (d : Command) (o : Op) (ds : List Deal) → HasCalls d o.outcome o.end o.begin ds → AreNear o.word o.file o.value ds → AreCalls d o ds
own_calls (command.Named k) o ds said near = said
own_calls _ o ds said near = near_is_own o.word o.file o.value ds near (none_named ds said)

-- ---- a change is made

gets_changes : (w : Word) → gets_file w ≡ true → changes w ≡ true
gets_changes words.Make e = refl
gets_changes words.Remove e = refl
gets_changes words.Rename e = refl
gets_changes w e = absurd cc

getting_changes : (what : Word) → IsGetting what → changes what ≡ false
getting_changes what (inl e) = ap changes e
getting_changes what (inr e) = ap changes e

getting_not : (what : Word) → IsGetting what → changes what ≡ true → ⊥
getting_not what gets e = no (sym (getting_changes what gets) ∙ e)
  where
    no : false ≡ true → ⊥
    no z = absurd cc

-- of a walk the file doesn't matter, and what gets one from the server walks
walk_moves : (d : Command) (log : List Deal) (f g : ℕ) (st : Stage) → gets_file (stage_word st) ≡ true → IsSaid d log f st → IsSaid d log g st
walk_moves (command.Named n) log f g (stage.Walking x w) is p = under_walking (asks (begun n)) log f g x w p
walk_moves (command.Open z) log f g (stage.Walking x w) is p = p
walk_moves (command.Rewrite z) log f g (stage.Walking x w) is p = p
walk_moves (command.Write z a b) log f g (stage.Walking x w) is p = p
walk_moves (command.Trunc z a) log f g (stage.Walking x w) is p = p
walk_moves (command.Read z a b) log f g (stage.Walking x w) is p = p
walk_moves (command.Close z) log f g (stage.Walking x w) is p = p
walk_moves (command.Abandon z) log f g (stage.Walking x w) is p = p
walk_moves d log f g st is p = absurd cc

job_moves : (book : Book) (k : Core) (qs : List Queue) (ops : List Op) (c : IsChange k ops) (d : Command) (log : List Deal) (i : ℕ) (seat : Seat) (j : Job) → IsKept book k qs → numbered k.seats i ≡ Some seat → job seat ≡ Some j → j.place ≡ c.place → IsSaid d log c.op.file j.stage → IsSaid d log c.file j.stage
job_moves book k qs ops c d log i seat j kept here is at p = elim c.kind [
  | inl close ↦ subst (λ (f : ℕ). IsSaid d log f j.stage) (sym close.1) p
  | inr make ↦
      let of = (kept.seats i seat here).task j is in
      let same : of.op ≡ c.op = some_is of.op c.op (sym of.there ∙ ap (slice_get book.ops) at ∙ ap (λ (l : List Op). slice_get l c.place) kept.ops ∙ c.there) in
      walk_moves d log c.op.file c.file j.stage (ap gets_file (sym of.word ∙ ap (λ (z : Op). z.word) same) ∙ make.0) p
]

-- what a change is of changes files, and so is no open, and no rewrite
file_made : (k : Core) (ops : List Op) (c : IsChange k ops) (x : Command) (log : List Deal) → c.op.word ≡ word_of x → HasFoundFile x c.op log → HasFoundFile x (changed c) log
file_made k ops c (command.Named n) log word h = filed_made c.op (changed c) (inr (changing, refl)) (asks (begun n)) log (λ e. getting_not (goal_word (begun n).goal) e (sym (ap changes (word ∙ begun_word n)) ∙ changing)) h
  where
    changing : changes c.op.word ≡ true
    changing = elim c.kind [ inl close ↦ ap changes close.0 | inr gets ↦ gets_changes c.op.word gets.0 ]
file_made k ops c x log word h = tt

-- ---- a connection is lost

lost_filed : (o : Op) (d : Command) (log : List Deal) (c : client.State) (taken : List TakenCall) (step : ℕ) (t : Task) → HasFoundFile d o log → HasFoundFile d (op_after o c taken step (ended_by (Some t) (record { outcome = outcome.Lost; rests_on = 0 }))) log
lost_filed o d log c taken step t h =
    let acts = ended_by (Some t) (record { outcome = outcome.Lost; rests_on = 0 }) in
    let new : Op = op_after o c taken step acts in
    found_as d o new log refl (unfound_as o new refl (word_after o c taken step acts) (lost_point o c taken step acts (λ e is. ap (λ (z : Ended). z.outcome) (sym (some_is (record { outcome = outcome.Lost; rests_on = 0 }) e is))))) h

-- ---- a command

walk_first : (s : client.State) (c : PathCommand) (t : Option Task) → t ≡ s.task → s.task ≡ None → (u : Task) → (walks s c t).0.task ≡ Some u → (file : ℕ) → IsUnder (asks (begun c)) (map Sent (walks s c t).1.send) file u.stage
walk_first s c (Some t) e none u at file = nothing_there t (sym none ∙ sym e)
walk_first s c None e none u at file = by (may_walk s (begun c)) at
  where
    by : (b : Bool) → (walks_if s (begun c) b).0.task ≡ Some u → IsUnder (asks (begun c)) (map Sent (walks_if s (begun c) b).1.send) file u.stage
    by true at = subst (λ (z : Task). IsUnder (asks (begun c)) (map Sent (walks_if s (begun c) true).1.send) file z.stage) (some_is (record { file = 0; stage = stage.Walking s.next_xid (begun c) }) u at) (first_said s.next_xid (begun c) file)
    by false at = nothing_there u (sym none ∙ at)

command_first : (s : client.State) (d : Command) (now : ℕ) → s.task ≡ None → (u : Task) → (command_step s d now).0.task ≡ Some u → (file : ℕ) → IsSaid d (map Sent (command_step s d now).1.send) file u.stage
command_first s (command.Named c) now none u at file = walk_first (at_clock s now) c s.task refl none u at file
command_first s d now none u at file = (command_plain s d now (λ c e. absurd cc) none u at, command_none s d now (λ c e. absurd cc))

-- of an operation that begins in this step
walk_calls : (s : client.State) (c : PathCommand) (t : Option Task) (step : ℕ) → (let r = walks s c t in HasCalls (command.Named c) (outcome_by r.1.ended) (end_by step r.1.ended) step (map Sent r.1.send))
walk_calls s c (Some t) step = inl (refl, refl, inl refl)
walk_calls s c None step = by (may_walk s (begun c))
  where
    by : (b : Bool) → (let r = walks_if s (begun c) b in HasCalls (command.Named c) (outcome_by r.1.ended) (end_by step r.1.ended) step (map Sent r.1.send))
    by true = inr (refl, inl refl)
    by false = inl (refl, refl, inr refl)

command_calls : (s : client.State) (d : Command) (now step : ℕ) → (let r = command_step s d now in HasCalls d (outcome_by r.1.ended) (end_by step r.1.ended) step (map Sent r.1.send))
command_calls s (command.Named c) now step = walk_calls (at_clock s now) c s.task step
command_calls s d now step = command_none s d now (λ c e. absurd cc)

begins_said : (k : Core) (c now : ℕ) (d : Command) (seat : Seat) → (let r = command_step seat.client d now in let new = made_by k c now d seat r.0 r.1 in IsNew c d (k.steps + 1) r.1 new → HasSaid d (map Sent r.1.send) new)
begins_said k c now d seat is = record {
  each =
      subst (λ (u : History). HasCalls d u new.end new.begin (map Sent r.1.send)) (sym (outcome_now o r.0 [] (k.steps + 1) r.1 refl))
      (subst (λ (t : Option ℕ). HasCalls d (outcome_by r.1.ended) t new.begin (map Sent r.1.send)) (sym (end_now o r.0 [] (k.steps + 1) r.1 refl))
      (subst (λ (b : ℕ). HasCalls d (outcome_by r.1.ended) (end_by (k.steps + 1) r.1.ended) b (map Sent r.1.send)) (sym is.begin) (command_calls seat.client d now (k.steps + 1))));
  gave = gave r.1.ended refl;
  filed = command_filed new seat.client d now is.file;
}
  where
    r : client.State × ClientStep
    r = command_step seat.client d now

    o : Op
    o = op_begun c (word_of d) (file_of d) (value_at_begin seat.client (word_of d) (file_of d) (command_step seat.client d now).1.ended) (k.steps + 1)

    new : Op
    new = made_by k c now d seat (command_step seat.client d now).0 (command_step seat.client d now).1

    gave : (e : Option Ended) → (command_step seat.client d now).1.ended ≡ e → GaveNow d new.outcome new.end new.begin (map Sent (command_step seat.client d now).1.send)
    gave None running = gave_not d new.outcome new.end new.begin (map Sent r.1.send) (λ z. running_link (sym (is.running running) ∙ z))
    gave (Some x) over = gave_first d new.outcome new.end new.begin (map Sent r.1.send) (ap (λ (l : Option Ended). (op_after o r.0 [] (k.steps + 1) (record r.1 { ended = l })).end) over ∙ ap (λ (n : ℕ). Some n) (sym is.begin))

-- ---- an answer is heard

own_stage : (st : Stage) → IsOfFile st ⊎ ((y : ℕ) × (w : Walk) × (st ≡ stage.Walking y w))
own_stage (stage.Walking y w) = inr (y, w, refl)
own_stage st = inl tt

-- what it makes of the client's operation
abbrev AnswerSaid : Part → List Deal → (file : ℕ) → client.State × ClientStep → List Message → List (ℕ × ℕ) → Type 0
AnswerSaid p log file r ms found = (IsFault r.1.ended → ⊥) → SaidOn p (log ++ deals_with ms found r.1.send) (file_with file r.1.found) r

heard_said : (p : Part) (log : List Deal) (c : client.State) (j : Job) (x : ℕ) (b : Body) → c.task ≡ Some (record { file = j.file; stage = j.stage }) → IsUnder p log j.file j.stage → AnswerSaid p log j.file (got_message c c.task (message.Answer x b)) (wanted_by c (Ok (message.Answer x b))) (given_by_message c (Ok (message.Answer x b)))
heard_said p log c j x b task was =
    answer_cases (AnswerSaid p log j.file) c (record { file = j.file; stage = j.stage }) x b task dropped (own j.stage was)
  where
    dropped : (forgotten : Bool) → AnswerSaid p log j.file (drops c (Some (record { file = j.file; stage = j.stage })) x forgotten) [] []
    dropped true = λ well. record {
      stage = λ u running is. subst (λ (l : List Deal). IsUnder p l j.file u.stage) (sym (append-nil log)) (subst (IsUnder p log j.file) (ap (λ (z : Task). z.stage) (some_is (record { file = j.file; stage = j.stage }) u (sym task ∙ is))) was);
      each = subst (IsWalk told.Running p) (sym (append-nil log)) (under_walk told.Running p log j.file j.stage (runs_so j.stage) was);
    }
    dropped false = λ well. absurd (well (bad.UnknownXid x, refl))

    own : (st : Stage) → IsUnder p log j.file st → client.has_call (client.pending_in st) x ≡ true → AnswerSaid p log j.file (took (idle c) (client.calls_of c) j.file st x b) (message.Answer x b ∷ []) (given_in c (with_file j.file (reading_by st x b)))
    own st was mine well = elim (own_stage st) [
      | inl of ↦
          let r = took (idle c) (client.calls_of c) j.file st x b in
          let found = given_in c (with_file j.file (reading_by st x b)) in
          subst (λ (f : Option ℕ). SaidOn p (log ++ deals_with (message.Answer x b ∷ []) found r.1.send) (file_with j.file f) r) (sym (took_finds (idle c) (client.calls_of c) j.file st x b of)) (file_said p log j.file (idle c) (client.calls_of c) st x b found of (under_word p log j.file st was of) was)
      | inr (y, w, is) ↦
          subst (λ (z : Stage). IsUnder p log j.file z → client.has_call (client.pending_in z) x ≡ true → AnswerSaid p log j.file (took (idle c) (client.calls_of c) j.file z x b) (message.Answer x b ∷ []) (given_in c (with_file j.file (reading_by z x b)))) (sym is)
          (λ was mine well. walk_said p log j.file (idle c) (client.calls_of c) j.file y w x b (sym (eqb-true y x (or_none (y == x) mine))) was well) was mine well
    ]

-- the file of its operation, which was this, and is that then
abbrev AnswerFiled : (n o : Op) → Part → List Deal → client.State × ClientStep → List Message → List (ℕ × ℕ) → Type 0
AnswerFiled n o p log r ms found = (IsFault r.1.ended → ⊥) → n.file ≡ file_with o.file r.1.found → n.word ≡ o.word → (r.1.ended ≡ None → n.point ≡ o.point) → HasWalkFile n p (log ++ deals_with ms found r.1.send)

heard_filed : (n o : Op) (p : Part) (log : List Deal) (c : client.State) (j : Job) (x : ℕ) (b : Body) → c.task ≡ Some (record { file = j.file; stage = j.stage }) → IsUnder p log o.file j.stage → HasWalkFile o p log → AnswerFiled n o p log (got_message c c.task (message.Answer x b)) (wanted_by c (Ok (message.Answer x b))) (given_by_message c (Ok (message.Answer x b)))
heard_filed n o p log c j x b task was has =
    answer_cases (AnswerFiled n o p log) c (record { file = j.file; stage = j.stage }) x b task dropped (own j.stage was)
  where
    dropped : (forgotten : Bool) → AnswerFiled n o p log (drops c (Some (record { file = j.file; stage = j.stage })) x forgotten) [] []
    dropped true = λ well file word point. subst (HasWalkFile n p) (sym (append-nil log)) (filed_as o n file (unfound_as o n file word (point refl)) p log has)
    dropped false = λ well. absurd (well (bad.UnknownXid x, refl))

    own : (st : Stage) → IsUnder p log o.file st → client.has_call (client.pending_in st) x ≡ true → AnswerFiled n o p log (took (idle c) (client.calls_of c) j.file st x b) (message.Answer x b ∷ []) (given_in c (with_file j.file (reading_by st x b)))
    own st was mine = elim (own_stage st) [
      | inl of ↦ λ well file word point. filed_found n p log o.file st was of (file ∙ ap (file_with o.file) (took_finds (idle c) (client.calls_of c) j.file st x b of)) (deals_with (message.Answer x b ∷ []) (given_in c (with_file j.file (reading_by st x b))) (took (idle c) (client.calls_of c) j.file st x b).1.send)
      | inr (y, w, is) ↦
          subst (λ (z : Stage). IsUnder p log o.file z → client.has_call (client.pending_in z) x ≡ true → AnswerFiled n o p log (took (idle c) (client.calls_of c) j.file z x b) (message.Answer x b ∷ []) (given_in c (with_file j.file (reading_by z x b)))) (sym is)
          (λ was mine well file word point. walk_filed n o.file p log o.file (idle c) (client.calls_of c) j.file y w x b (sym (eqb-true y x (or_none (y == x) mine))) was well file (λ none running. unfound_as o n (file ∙ ap (file_with o.file) none) word (point running) (unfound_of o p log o.file y w was has))) was mine
    ]

-- and where a listing gives up
abbrev AnswerGave : Part → List Deal → client.State × ClientStep → List Message → List (ℕ × ℕ) → Type 0
AnswerGave p log r ms found = (e : Ended) → r.1.ended ≡ Some e → e.outcome ≡ outcome.NoLink → GaveUp p (log ++ deals_with ms found r.1.send)

bad_link : (f : BadPeer) → outcome.BadPeer f ≡ outcome.NoLink → ⊥
bad_link f e = absurd cc

heard_gave : (ns : List (List ℕ)) (log : List Deal) (c : client.State) (j : Job) (x : ℕ) (b : Body) → c.task ≡ Some (record { file = j.file; stage = j.stage }) → IsUnder (asks (begun (path.List ns))) log j.file j.stage → AnswerGave (asks (begun (path.List ns))) log (got_message c c.task (message.Answer x b)) (wanted_by c (Ok (message.Answer x b))) (given_by_message c (Ok (message.Answer x b)))
heard_gave ns log c j x b task was =
    answer_cases (AnswerGave (asks (begun (path.List ns))) log) c (record { file = j.file; stage = j.stage }) x b task dropped (own j.stage was)
  where
    dropped : (forgotten : Bool) → AnswerGave (asks (begun (path.List ns))) log (drops c (Some (record { file = j.file; stage = j.stage })) x forgotten) [] []
    dropped true = λ e at link. nothing_there e at
    dropped false = λ e at link. absurd (bad_link (bad.UnknownXid x) (ap (λ (z : Ended). z.outcome) (some_is _ e at) ∙ link))

    own : (st : Stage) → IsUnder (asks (begun (path.List ns))) log j.file st → client.has_call (client.pending_in st) x ≡ true → AnswerGave (asks (begun (path.List ns))) log (took (idle c) (client.calls_of c) j.file st x b) (message.Answer x b ∷ []) (given_in c (with_file j.file (reading_by st x b)))
    own st was mine = elim (own_stage st) [
      | inl of ↦ absurd (begun_file ns log j.file st was of)
      | inr (y, w, is) ↦
          subst (λ (z : Stage). IsUnder (asks (begun (path.List ns))) log j.file z → client.has_call (client.pending_in z) x ≡ true → AnswerGave (asks (begun (path.List ns))) log (took (idle c) (client.calls_of c) j.file z x b) (message.Answer x b ∷ []) (given_in c (with_file j.file (reading_by z x b)))) (sym is)
          (λ was mine. walk_gave (asks (begun (path.List ns))) log j.file (idle c) (client.calls_of c) j.file y w x b (sym (eqb-true y x (or_none (y == x) mine))) was) was mine
    ]

told_link : (u : Outcome) → told_of u ≡ told.NoLink → u ≡ outcome.NoLink
told_link outcome.NoLink e = refl
told_link u e = absurd cc

-- and of one by an id
abbrev AnswerPlain : List Deal → client.State × ClientStep → List Message → List (ℕ × ℕ) → Type 0
AnswerPlain log r ms found = (IsFault r.1.ended → ⊥) → PlainOn (log ++ deals_with ms found r.1.send) r

heard_plain : (log : List Deal) (c : client.State) (j : Job) (x : ℕ) (b : Body) → c.task ≡ Some (record { file = j.file; stage = j.stage }) → IsOfFile j.stage → SendsNone log → AnswerPlain log (got_message c c.task (message.Answer x b)) (wanted_by c (Ok (message.Answer x b))) (given_by_message c (Ok (message.Answer x b)))
heard_plain log c j x b task of none =
    answer_cases (AnswerPlain log) c (record { file = j.file; stage = j.stage }) x b task dropped (λ is well. plain_said log (idle c) (client.calls_of c) j.file j.stage x b (given_in c (with_file j.file (reading_by j.stage x b))) of none)
  where
    dropped : (forgotten : Bool) → AnswerPlain log (drops c (Some (record { file = j.file; stage = j.stage })) x forgotten) [] []
    dropped true = λ well. record {
      stage = λ u running is. subst IsOfFile (ap (λ (z : Task). z.stage) (some_is (record { file = j.file; stage = j.stage }) u (sym task ∙ is))) of;
      each = subst SendsNone (sym (append-nil log)) none;
    }
    dropped false = λ well. absurd (well (bad.UnknownXid x, refl))

said_hears : (all past : List Moment) (opening : List Opening) (k : Core) (qs after : List Queue) (n now : ℕ) (bytes : List ℕ) (mid : List Queue) → IsKept (book_at opening k all) k qs → (h : Heard k qs n now bytes mid)
    → (let r = got_step h.seat.client (Ok (told_message h.told)) now in let t = acted k h.session.owner h.seat r.0 r.1 in IsKept (book_at opening t.core all) t.core after → (j : Job) (o : Op) → job h.seat ≡ Some j → slice_get k.ops j.place ≡ Some o → (x : Command) → IsSaid x (deals_of o past) o.file j.stage → HasFoundFile x o (deals_of o past)
    → (let new = op_after o r.0 (session_taken (session_of k.sessions h.seat.session)) (k.steps + 1) r.1 in let log = deals_of o past ++ deals_with (wanted_by h.seat.client (Ok (told_message h.told))) (given_by_message h.seat.client (Ok (told_message h.told))) r.1.send in ((u : Task) → r.1.ended ≡ None → r.0.task ≡ Some u → IsSaid x log new.file u.stage) × HasSaid x log new))
said_hears all past opening k qs after n now bytes mid kept h left j o job_is at = on
  where
    more : Book
    more = book_at opening (acted k h.session.owner h.seat (got_step h.seat.client (Ok (told_message h.told)) now).0 (got_step h.seat.client (Ok (told_message h.told)) now).1).core all

    r : client.State × ClientStep
    r = got_step h.seat.client (Ok (told_message h.told)) now

    taken : List TakenCall
    taken = session_taken (session_of k.sessions h.seat.session)

    task : h.seat.client.task ≡ Some (record { file = j.file; stage = j.stage })
    task = job_task h.seat.place h.seat.client.task j job_is

    of : IsOf (book_at opening k all) h.session.owner j
    of = (kept.seats h.session.owner h.seat h.owner).task j job_is

    same_op : of.op ≡ o
    same_op = some_is of.op o (sym of.there ∙ at)

    running_is : o.outcome ≡ told.Running
    running_is = ap (λ (z : Op). z.outcome) (sym same_op) ∙ of.running

    named : is_naming j.stage ≡ false → o.file ≡ j.file
    named e = ap (λ (z : Op). z.file) (sym same_op) ∙ of.file e

    new : Op
    new = op_after o (got_step h.seat.client (Ok (told_message h.told)) now).0 (session_taken (session_of k.sessions h.seat.session)) (k.steps + 1) (got_step h.seat.client (Ok (told_message h.told)) now).1

    ops_are : more.ops ≡ slice_set k.ops j.place new
    ops_are = ap (λ l. ops_with k.ops l r.0 taken (k.steps + 1) r.1) (job_place h.seat.place h.seat.client.task j job_is) ∙ ap (λ l. ops_after k.ops j.place l r.0 taken (k.steps + 1) r.1) at

    faultless : IsFault r.1.ended → ⊥
    faultless fault = no_fault_after more o r.0 taken (k.steps + 1) r.1 (left.sound.rights j.place new (ap (λ (l : List Op). slice_get l j.place) ops_are ∙ at_replaced k.ops j.place new o at)) fault

    said_now : List Deal
    said_now = deals_of o past ++ deals_with (wanted_by h.seat.client (Ok (told_message h.told))) (given_by_message h.seat.client (Ok (told_message h.told))) (got_step h.seat.client (Ok (told_message h.told)) now).1.send

    plain : IsOfFile j.stage × SendsNone (deals_of o past) → PlainOn (deals_of o past ++ deals_with (wanted_by h.seat.client (Ok (told_message h.told))) (given_by_message h.seat.client (Ok (told_message h.told))) (got_step h.seat.client (Ok (told_message h.told)) now).1.send) (got_step h.seat.client (Ok (told_message h.told)) now)
    plain was = heard_plain (deals_of o past) (at_clock h.seat.client now) j h.told.xid (reply_body h.told.reply) task was.0 was.1 faultless

    listed : (c : PathCommand) → IsUnder (asks (begun c)) (deals_of o past) o.file j.stage → GaveNow (command.Named c) new.outcome new.end new.begin said_now
    listed (path.List ns) was = λ link late. ended r.1.ended refl link
      where
        g : AnswerGave (asks (begun (path.List ns))) (deals_of o past) (got_step h.seat.client (Ok (told_message h.told)) now) (wanted_by h.seat.client (Ok (told_message h.told))) (given_by_message h.seat.client (Ok (told_message h.told)))
        g = heard_gave ns (deals_of o past) (at_clock h.seat.client now) j h.told.xid (reply_body h.told.reply) task (under_moves (asks (begun (path.List ns))) (deals_of o past) o.file j.file j.stage named was)

        ended : (e : Option Ended) → r.1.ended ≡ e → (op_after o r.0 taken (k.steps + 1) (record r.1 { ended = e })).outcome ≡ told.NoLink → GaveUp (asks (begun (path.List ns))) said_now
        ended None is link = absurd (running_link (sym running_is ∙ link))
        ended (Some e) is link = g e is (told_link e.outcome link)
    listed c was = tt

    -- its operation's word is that of the stage then
    word_then : (u : Task) → r.1.ended ≡ None → r.0.task ≡ Some u → o.word ≡ stage_word u.stage
    word_then u running is =
        let seat : Seat = record h.seat { client = r.0; place = place_after h.seat.place r.1.ended } in
        let there : numbered (with_numbered k.seats h.session.owner seat) h.session.owner ≡ Some seat = (around_with k.seats h.session.owner h.seat seat h.owner).there in
        let now_is : job seat ≡ Some (record { place = j.place; file = u.file; stage = u.stage }) = ap (λ (q : Option ℕ). job_of (place_after q r.1.ended) r.0.task) (job_place h.seat.place h.seat.client.task j job_is) ∙ ap (λ (q : Option Ended). job_of (place_after (Some j.place) q) r.0.task) running ∙ ap (job_of (Some j.place)) is in
        let now_of = (left.seats h.session.owner seat there).task (record { place = j.place; file = u.file; stage = u.stage }) now_is in
        let same : now_of.op ≡ new = some_is now_of.op new (sym now_of.there ∙ ap (λ (l : List Op). slice_get l j.place) ops_are ∙ at_replaced k.ops j.place new o at) in
        sym (word_after o r.0 taken (k.steps + 1) r.1) ∙ ap (λ (z : Op). z.word) (sym same) ∙ now_of.word

    now_under : (c : PathCommand) (u : Task) → r.1.ended ≡ None → r.0.task ≡ Some u → (st : Stage) → u.stage ≡ st → IsUnder (asks (begun c)) said_now (file_with j.file r.1.found) st → IsUnder (asks (begun c)) said_now new.file st
    now_under c u running is (stage.Walking x v) on h2 = under_walking (asks (begun c)) said_now (file_with j.file r.1.found) new.file x v h2
    now_under c u running is st on h2 =
        let word : stage_word j.stage ≡ stage_word st = sym of.word ∙ ap (λ (z : Op). z.word) same_op ∙ word_then u running is ∙ ap stage_word on in
        let plain_ : changes (stage_word j.stage) ≡ false = ap changes word ∙ getting_changes (stage_word st) (under_word (asks (begun c)) said_now (file_with j.file r.1.found) st h2 tt) in
        subst (λ (f : ℕ). IsUnder (asks (begun c)) said_now f st) (sym (file_now o r.0 taken (k.steps + 1) r.1 ∙ ap (λ (f : ℕ). file_with f r.1.found) (named (unnamed j.stage plain_)))) h2

    on : (x : Command) → IsSaid x (deals_of o past) o.file j.stage → HasFoundFile x o (deals_of o past) → ((u : Task) → r.1.ended ≡ None → r.0.task ≡ Some u → IsSaid x said_now new.file u.stage) × HasSaid x said_now new
    on (command.Named c) was has =
        let a = heard_said (asks (begun c)) (deals_of o past) (at_clock h.seat.client now) j h.told.xid (reply_body h.told.reply) task (under_moves (asks (begun c)) (deals_of o past) o.file j.file j.stage named was) faultless in (
          λ u running is. now_under c u running is u.stage refl (a.stage u running is),
          record {
            each = inr (subst (λ (u : History). IsWalk u (asks (begun c)) said_now) (sym (outcome_now o r.0 taken (k.steps + 1) r.1 running_is)) a.each);
            gave = listed c was;
            filed = heard_filed new o (asks (begun c)) (deals_of o past) (at_clock h.seat.client now) j h.told.xid (reply_body h.told.reply) task was has faultless (file_now o r.0 taken (k.steps + 1) r.1) (word_after o r.0 taken (k.steps + 1) r.1) (point_now o r.0 taken (k.steps + 1) r.1);
          },
        )
    on _ was has = (λ u running is. ((plain was).stage u running is, (plain was).each), record { each = (plain was).each; gave = tt; filed = tt })

-- ---- any event

-- a command of before
front : {A : Type 0} (xs ys : List A) (p : ℕ) (x : A) → p < length xs → slice_get (xs ++ ys) p ≡ Some x → slice_get xs p ≡ Some x
front [] ys p x lt at = absurd (omega (arith, lt))
front (z ∷ xs) ys zero x lt at = at
front (z ∷ xs) ys (suc p) x lt at = front xs ys p x (omega (arith, lt)) at

said_laws : (all past rest : List Moment) (opening : List Opening) (k : Core) (qs mid after : List Queue) → IsKept (book_at opening k all) k qs → length k.ops ≡ length (deeds_of past) → AreWorded past k.ops → FactLaws SaidGoing SaidEnding all past rest opening k qs mid after
said_laws all past rest opening k qs mid after kept count worded = record {
  stays = λ e log p o st lt h d deed. h d (deed_was e p d deed lt);
  ends_stay = λ e log p o lt h d deed. h d (deed_was e p d deed lt);
  changes = λ ops c log i seat j here is same h d deed. job_moves (book_at opening k all) k qs ops c d.command log i seat j kept here is same (h d deed);
  ends_change = λ ops c log h d deed. let a = h d deed in record { each = a.each; gave = a.gave; filed = file_made k ops c d.command log (worded c.place d c.op deed c.there) a.filed };
  begins = λ c now d seat here small free is u running task x deed. subst (λ (z : Command). IsSaid z (map Sent (command_step seat.client d now).1.send) (made_by k c now d seat (command_step seat.client d now).0 (command_step seat.client d now).1).file u.stage) (sym (deed_new c now d x deed)) (command_first seat.client d now free u task (made_by k c now d seat (command_step seat.client d now).0 (command_step seat.client d now).1).file);
  begun = λ c now d seat here small is right x deed. subst (λ (z : Command). HasSaid z (map Sent (command_step seat.client d now).1.send) (made_by k c now d seat (command_step seat.client d now).0 (command_step seat.client d now).1)) (sym (deed_new c now d x deed)) (begins_said k c now d seat is);
  hears = λ n now bytes w left j o is at was has. record {
    stage = λ u running task d deed. let old = deed_was (Hears n now bytes) j.place d deed (within k.ops j.place o at) in (said_hears all past opening k qs after n now bytes mid kept w left j o is at d.command (was d old) (has d old).filed).0 u running task;
    each = λ d deed. let old = deed_was (Hears n now bytes) j.place d deed (within k.ops j.place o at) in (said_hears all past opening k qs after n now bytes mid kept w left j o is at d.command (was d old) (has d old).filed).1;
  };
  lost = λ c seat here j o is at was has d deed. let old = deed_was (Cuts c) j.place d deed (within k.ops j.place o at) in record {
    each = lost_calls d.command (Some (k.steps + 1)) o.begin (deals_of o past) o.file j.stage (was d old);
    gave = gave_not d.command told.Lost (Some (k.steps + 1)) o.begin (deals_of o past) lost_link;
    filed = lost_filed o d.command (deals_of o past) (record seat.client { linked = false; task = None; forgotten = [] }) (session_taken (session_of k.sessions seat.session)) (k.steps + 1) (record { file = j.file; stage = j.stage }) (has d old).filed;
  };
}
  where
    deed_was : (e : Event) (p : ℕ) (d : Deed) → slice_get (deeds_of (past ++ moment k e ∷ [])) p ≡ Some d → p < length k.ops → slice_get (deeds_of past) p ≡ Some d
    deed_was e p d deed lt = front (deeds_of past) (deed_by past k e) p d (omega (arith, lt, count)) (ap (λ (l : List Deed). slice_get l p) (sym (deeds_more past (moment k e))) ∙ deed)

    deed_new : (c now : ℕ) (d : Command) (x : Deed) → slice_get (deeds_of (past ++ moment k (Does c now d) ∷ [])) (length k.ops) ≡ Some x → x.command ≡ d
    deed_new c now d x deed =
        let told_ : Deed = record { client = c; command = d; begin = k.steps + 1; joined = joined_from c false past; calls = calls_from c 0 past; fresh = is_fresh_for (numbered k.seats c) now d } in
        ap (λ (z : Deed). z.command) (some_is x told_ (sym (ap (λ (l : List Deed). slice_get l (length k.ops)) (sym (deeds_more past (moment k (Does c now d)))) ∙ deed) ∙ ap (slice_get (deeds_of past ++ told_ ∷ [])) count ∙ at_end (deeds_of past) told_))

pub said_event : FitLaws → (all past rest : List Moment) (opening : List Opening) (k : Core) (qs : List Queue) (e : Event) (mid after : List Queue) → Step all past rest opening k qs e mid after → ArePast k.steps past → length k.ops ≡ length (deeds_of past) → AreWorded past k.ops → AreSaid past k → AreSaid (past ++ moment k e ∷ []) (happens k e).core
said_event fits all past rest opening k qs e mid after s before count worded h = facts_event fits SaidGoing SaidEnding all past rest opening k qs e mid after s before (said_laws all past rest opening k qs mid after s.kept count worded) h
