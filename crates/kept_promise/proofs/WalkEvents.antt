-- A run carries how far each command on names has come, and what each that ended was told.
use Rattle.std.proofs.Common.{◌⊎◌, inl, inr, ◌≡◌, ℕ, ◌+◌, ◌≤◌, List, [], ◌∷◌, ◌++◌, length, append-nil, Option, Some, None, Ok, Bool, true, false, refl, sym, ap, ◌∙◌, subst, arith, suc, eqb-true}
use Rattle.command_text.specs.declared.command.Command.TheVariants as command
use Rattle.command_text.specs.declared.path.PathCommand.{PathCommand}
use Rattle.command_text.specs.declared.path.Spot.{Spot}
use Rattle.client_state.specs.Ending.{unknown}
use Rattle.xdr_codec.specs.declared.handle.TheConstants.{ROOT}
use Rattle.trace_replay.specs.Causes.{HasNeither}
use Rattle.trace_replay.specs.Naming.{Leads, all_names, FindsFile}
use Rattle.command_text.specs.declared.path.PathCommand.TheVariants as path
use Rattle.client_state.specs.State as client
use Rattle.wire.specs.declared.message.Body.TheVariants as body
use Rattle.wire.specs.declared.message.Message.TheVariants as message
use Rattle.client_state.specs.declared.step.Outcome.TheVariants as outcome
use Rattle.client_state.specs.declared.task.Stage.TheVariants as stage
use Rattle.register_model.specs.declared.op.Outcome.TheVariants as told
use Rattle.register_model.specs.declared.op.Word.TheVariants as words
use Rattle.nfs3_calls.specs.declared.message.Nfs.TheVariants as nfs
use Rattle.path_calls.specs.Told.{walk_told}
use Rattle.path_calls.specs.declared.walk.Walk.{Walk}
use Rattle.client_cache.specs.Cache.{content_of, reserved}
use Rattle.client_cache.specs.declared.kept.Content.{Content}
use Rattle.path_calls.specs.Walk.{begun}
use Rattle.trace_ends.specs.Ops.{begun as op_begun}
use Rattle.client_state.specs.Ending.{may_walk}
use Rattle.client_state.specs.Noting.{at as clocked}
use Rattle.file_open.specs.Caching.{fresh_content}
use Rattle.file_open.specs.Fetching.{opens_kept}
use Rattle.file_open.specs.Rewriting.{asks_anew, renews_kept, rewrites_if, rewrites}
use Rattle.open_close.specs.Walking.{walks, walks_if, is_its, is_look, told_walk, walked}
use Rattle.trace_ends.specs.Session.{taken_of as session_taken}
use Rattle.trace_replay.specs.Trail.{AreCounted, steps_by, is_fresh_for}
use Rattle.trace_ends.specs.Commands.{path_word}
use Rattle.kept_promise.proofs.Common.{slice_get, Contains, Contains-push_cases, Command, ClientStep, Ended, ended_by, command_step, Pending, Stage, Task, Op, Opening, TakenCall, op_after, ops_with, place_after, Core, Seat, Event, Event.Does, Event.Hears, Event.Cuts, numbered, does, cuts_if, acted, session_of, happens, Moment, step_of, Deed, deeds_of, Book, Queue, taken_by, got_step, told_message, Body, took, took_if, got_message, has_call, pending, idle, drops, reply_body, ◌==◌, ◌||◌, Contains-append_cases, Reply, Reply.Walked, Reply.Bytes, name_answer, Message, wanted_if, Contains-push, file_of, joined_from, calls_from, place_with, nat_lt, if◌then◌else◌, Local, Part, content_length, content_bytes, on_local, edits, truncates, reads, abandons, too_big, writes, done_with, closes, asks_temp, opens, opens_if, asks_file, asks_kept, is_open, may_ask, local_most, written_size, written, truncated, ends, word_of, value_at_begin, Word, point_if, has_point, told_of, Outcome}
use Rattle.kept_promise.proofs.Actors.{job_place, job_task, Heard, heard_takes, own_op}
use Rattle.kept_promise.proofs.Lists.{some_is, nothing_there, of_appended, kept_appended, count_more, within, at_end}
use Rattle.kept_promise.proofs.Messages.{Job, job, job_of, stage_word, WalkCame, WalkTold, AllTolds, IsAnswer, AnswerOf, FetchOf, CloseOf}
use Rattle.kept_promise.proofs.PathNames.{IsSmall, IsWalkSmall, makes_later}
use Rattle.kept_promise.proofs.Facts.{IsKept, IsMatched}
use Rattle.kept_promise.proofs.Fits.{FitLaws}
use Rattle.kept_promise.proofs.JobFacts.{job_after}
use Rattle.kept_promise.proofs.RunsCarried.{book_at, moment, Step, Carried}
use Rattle.kept_promise.proofs.Versions.{of_numbered}
use Rattle.kept_promise.proofs.EventCases.{event_cases}
use Rattle.kept_promise.proofs.Rights.{Caused, IsRight}
use Rattle.kept_promise.proofs.CommandOps.{made_by, job_stays}
use Rattle.kept_promise.proofs.Shapes.{busy_command}
use Rattle.kept_promise.proofs.Alike.{AreInOrder}
use Rattle.kept_promise.proofs.Fetched.{IsFetched, ends_fetched}
use Rattle.kept_promise.proofs.Leaving.{Leaves, IsLeftBy, took_left}
use Rattle.open_close.specs.Step.{takes}
use Rattle.kept_promise.proofs.Found.{took_finds, file_after, command_finds}
use Rattle.kept_promise.proofs.StepCases.{IsOfFile, renoted}
use Rattle.kept_promise.proofs.Walked.{HasWalk, leads_past, walk_begins}
use Rattle.kept_promise.proofs.WalkRuns.{bare, GetsFile, OnWay, IsOn, EndsAs, IsOver, Walks, EarlyBy, is_on, took_file, heard_walk, IsBare}
use Rattle.kept_promise.proofs.OneSession.{AtOneSession}
use Rattle.kept_promise.proofs.WalksOnward.{WayKept, same_kept, onward, walks_still, begin_stays, word_stays, acted_at, StepComes, acted_onward}
use Rattle.kept_promise.proofs.Turns.{has_owner}

-- ---- one on a file, and one whose file was found

-- its file is known
abbrev IsFound : (all : List Moment) → PathCommand → Op → (now : ℕ) → Type 0
IsFound all c o now = ((s : Spot) × GetsFile c s × ((step : ℕ) × Leads (bare all) o.begin ROOT (all_names s) o.file step × (step ≤ now))) × (o.point ≡ None) × (o.word ≡ path_word c)

found_of : (all : List Moment) (c : PathCommand) (o : Op) (st : Stage) (n : ℕ) → IsOfFile st → OnWay all c o st n → IsFound all c o n
found_of all c o (stage.Walking x w) n of h = absurd of
found_of all c o _ n of h = h

of_found : (all : List Moment) (c : PathCommand) (o : Op) (st : Stage) (n : ℕ) → IsOfFile st → IsFound all c o n → OnWay all c o st n
of_found all c o (stage.Walking x w) n of h = absurd of
of_found all c o _ n of h = h

some_number : (n m : ℕ) → ◌≡◌ {A = Option ℕ} (Some n) (Some m) → n ≡ m
some_number n m e = some_is n m e

-- what an open is told that is open already gives no point
told_already : (u : Outcome) → told_of u ≡ told.AlreadyOpen → has_point words.Open u ≡ false
told_already outcome.AlreadyOpen e = refl
told_already u e = absurd cc

-- an operation that ends in a step, which found no file then
pub record EndsIn (o r : Op) (m : ℕ) : Type 0 where
  pub begin : r.begin ≡ o.begin
  pub file : r.file ≡ o.file
  pub word : r.word ≡ o.word
  pub end : r.end ≡ Some m
  pub already : r.outcome ≡ told.AlreadyOpen → o.point ≡ None → o.word ≡ words.Open → r.point ≡ None
  pub fetched : IsFetched o.word r.outcome

-- it ends with its file
found_over : (all : List Moment) (c : PathCommand) (o r : Op) (n m : ℕ) → EndsIn o r m → n ≤ m → IsFound all c o n → EndsAs all c r r.outcome
found_over all c o r n m e le ((s, gets, (step, leads, before)), pointless, word) = by gets
  where
    found : FindsFile (bare all) r s
    found = record {
      step = step;
      found = subst (λ (b : ℕ). Leads (bare all) b ROOT (all_names s) r.file step) (sym e.begin) (subst (λ (f : ℕ). Leads (bare all) o.begin ROOT (all_names s) f step) (sym e.file) leads);
      inside = (let past = leads_past (bare all) o.begin ROOT (all_names s) o.file step leads in let begin = e.begin in omega (arith, past, begin), λ z at. let same = some_number m z (sym e.end ∙ at) in omega (arith, before, le, same));
    }

    fetched : (k : PathCommand) → c ≡ k → IsFetched (path_word k) r.outcome
    fetched k is = subst (λ (w : Word). IsFetched w r.outcome) (word ∙ ap path_word is) e.fetched

    by : GetsFile c s → EndsAs all c r r.outcome
    by (inl is) = subst (λ (k : PathCommand). EndsAs all k r r.outcome) (sym is) (inl (found, λ u. e.already u pointless (word ∙ ap path_word is), fetched (path.Find s) is))
    by (inr is) = subst (λ (k : PathCommand). EndsAs all k r r.outcome) (sym is) (inl (found, fetched (path.Rewrite s) is))

-- a step of an operation on a file finds none
on_file_on : (all : List Moment) (d : Command) (o r : Op) (st new : Stage) (n m : ℕ) → r.word ≡ o.word → r.point ≡ o.point → r.begin ≡ o.begin → r.file ≡ o.file → n ≤ m → IsOfFile st → IsOfFile new → IsOn all d o st n → IsOn all d r new m
on_file_on all (command.Named c) o r st new n m word point begin file le of of_new h = of_found all c r new m of_new (found_of all c r st m of (is_on all (command.Named c) o r st n m word (inl point) begin file le h))
on_file_on all _ o r st new n m word point begin file le of of_new h = of_new

on_file_over : (all : List Moment) (d : Command) (o r : Op) (st : Stage) (n m : ℕ) → EndsIn o r m → n ≤ m → IsOfFile st → IsOn all d o st n → IsOver all d r
on_file_over all (command.Named c) o r st n m e le of h = let f = found_of all c o st n of h in (e.word ∙ f.2, inr (inr (found_over all c o r n m e le f)))
on_file_over all _ o r st n m e le of h = tt

-- ---- its connection is lost

walk_lost : (all : List Moment) (c : PathCommand) (o r : Op) → r.file ≡ o.file → IsBare c o → EndsAs all c r told.Lost
walk_lost all (path.Find s) o r file plain = inr (file ∙ plain.0, tt)
walk_lost all (path.Rewrite s) o r file plain = inr (file ∙ plain.0, tt)
walk_lost all _ o r file plain = tt

lost_over : (all : List Moment) (d : Command) (o r : Op) (st : Stage) (n m : ℕ) → EndsIn o r m → r.outcome ≡ told.Lost → n ≤ m → IsOn all d o st n → IsOver all d r
lost_over all (command.Named c) o r (stage.Walking x w) n m e is le h = (e.word ∙ h.4, inr (inr (subst (EndsAs all c r) (sym is) (walk_lost all c o r e.file h.3))))
lost_over all _ o r (stage.Walking x w) n m e is le h = tt
lost_over all d o r v n m e is le h = on_file_over all d o r v n m e le tt h

lost_comes : (all : List Moment) (d : Deed) (o : Op) (j : Job) (n : ℕ) (s : client.State) (taken : List TakenCall) → IsOn all d.command o j.stage n → (t : Option Task) → t ≡ Some (record { file = j.file; stage = j.stage }) → StepComes all d o (s, ended_by t (record { outcome = outcome.Lost; rests_on = 0 })) taken (n + 1)
lost_comes all d o j n s taken on t e = subst (λ (z : Option Task). StepComes all d o (s, ended_by z (record { outcome = outcome.Lost; rests_on = 0 })) taken (n + 1)) (sym e) (record {
  way = λ runs u at. nothing_there (record { outcome = outcome.Lost; rests_on = 0 }) (sym runs);
  over = λ x is. lost_over all d.command o (op_after o s taken (n + 1) (ended_by (Some (record { file = j.file; stage = j.stage })) (record { outcome = outcome.Lost; rests_on = 0 }))) j.stage n (n + 1) (record { begin = refl; file = refl; word = refl; end = refl; already = λ e. absurd cc; fetched = tt }) refl (omega arith) on;
})

-- ---- moments that are past

one_is : (m x : Moment) → Contains (m ∷ []) x → m ≡ x
one_is m x there = elim (Contains-push_cases [] m x there) [ inl none ↦ (let lt = none.1 in absurd (omega (arith, lt))) | inr same ↦ same ]

counted_behind : (first last : ℕ) (ms : List Moment) (x : Moment) → AreCounted first ms last → Contains ms x → first ≤ x.before.steps
counted_behind first last [] x h there = let lt = there.1 in absurd (omega (arith, lt))
counted_behind first last (m ∷ ms) x h there = elim (Contains-append_cases (m ∷ []) ms x there) [
  | inl own ↦ (let same = ap (λ (z : Moment). z.before.steps) (one_is m x own) in let is = h.0 in omega (arith, is, same))
  | inr behind ↦ (let later = counted_behind (first + steps_by m.before m.event) last ms x h.1 behind in omega (arith, later))
]

counted_from : (first last : ℕ) (past ms : List Moment) → AreCounted first (past ++ ms) last → (mid : ℕ) × AreCounted mid ms last
counted_from first last [] ms h = (first, h)
counted_from first last (m ∷ past) ms h = counted_from (first + steps_by m.before m.event) last past ms h.1

-- the moments of a run count on
abbrev pub Dated : List Moment → Type 0
Dated all = (last : ℕ) × AreCounted 0 all last

-- each moment of a step up to now is past
in_past : (all past rest : List Moment) (k : Core) (e : Event) (last : ℕ) → all ≡ past ++ moment k e ∷ rest → AreCounted 0 all last → (x : Moment) → Contains all x → step_of x ≤ k.steps → Contains past x
in_past all past rest k e last split counted x there le = elim (Contains-append_cases past (moment k e ∷ rest) x (subst (λ (l : List Moment). Contains l x) split there)) [
  | inl old ↦ old
  | inr new ↦
      let c = counted_from 0 last past (moment k e ∷ rest) (subst (λ (l : List Moment). AreCounted 0 l last) split counted) in
      let behind = counted_behind c.0 last (moment k e ∷ rest) x c.1 new in
      let is = c.1.0 in
      absurd (omega (arith, behind, is, le))
]

-- ---- an answer comes

-- what it leaves open
left_taken : (s : client.State) (calls : List Pending) (file : ℕ) (st : Stage) (x : ℕ) (b : Body) → IsOfFile st → IsLeftBy (stage_word st) s file (took s calls file st x b)
left_taken s calls file st x b known = renoted (λ found r. IsLeftBy (stage_word st) s file r) s file st b (λ found r g until lease is h. h) [] (takes s calls file st x b) (took_left s calls file st x b known)

-- to one on a file
file_comes : (all : List Moment) (d : Deed) (o : Op) (n : ℕ) (s : client.State) (calls : List Pending) (file : ℕ) (st : Stage) (x : ℕ) (b : Body) (taken : List TakenCall) → IsOfFile st → o.word ≡ stage_word st → IsOn all d.command o st n → StepComes all d o (took s calls file st x b) taken (n + 1)
file_comes all d o n s calls file st x b taken of word on =
    let r = took s calls file st x b in
    let new : Op = op_after o r.0 taken (n + 1) r.1 in
    let none = took_finds s calls file st x b of in
    record {
      way = λ runs u at. on_file_on all d.command o new st u.stage n (n + 1) (word_stays o r.0 taken (n + 1) r.1) (ap (λ (l : Option Ended). (op_after o r.0 taken (n + 1) (record r.1 { ended = l })).point) runs) (began r.0 r.1 r.1.ended) (file_after o r.0 taken (n + 1) r.1 none) (omega arith) of (took_file s calls file st x b of u at) on;
      over = λ e is. on_file_over all d.command o new st n (n + 1) (record { begin = began r.0 r.1 r.1.ended; file = file_after o r.0 taken (n + 1) r.1 none; word = word_stays o r.0 taken (n + 1) r.1; end = ap (λ (l : Option Ended). (op_after o r.0 taken (n + 1) (record r.1 { ended = l })).end) is; already = already r.0 r.1 r.1.ended; fetched = subst (λ (l : Option Ended). IsFetched o.word (op_after o r.0 taken (n + 1) (record r.1 { ended = l })).outcome) (sym is) (subst (λ (w : Word). IsFetched w (told_of e.outcome)) (sym word) (ends_fetched (stage_word st) e.outcome s.opened r.0.opened file (subst (Leaves (stage_word st) s.opened r.0.opened file) is (left_taken s calls file st x b of).1))) }) (omega arith) of on;
    }
  where
    began : (c : client.State) (acts : ClientStep) (l : Option Ended) → (op_after o c taken (n + 1) (record acts { ended = l })).begin ≡ o.begin
    began c acts None = refl
    began c acts (Some e) = refl

    already : (c : client.State) (acts : ClientStep) (l : Option Ended) → (op_after o c taken (n + 1) (record acts { ended = l })).outcome ≡ told.AlreadyOpen → o.point ≡ None → o.word ≡ words.Open → (op_after o c taken (n + 1) (record acts { ended = l })).point ≡ None
    already c acts None is none word = none
    already c acts (Some e) is none word = ap (λ (w : Word). point_if (has_point w e.outcome) taken e.rests_on (n + 1) o.point) word ∙ ap (λ (b : Bool). point_if b taken e.rests_on (n + 1) o.point) (told_already e.outcome is) ∙ none

-- no outcome is a peer's fault
abbrev NoFault : Op → (r : client.State × ClientStep) → List TakenCall → (now : ℕ) → Type 0
NoFault o r taken now = (f : ℕ) → (op_after o r.0 taken now r.1).outcome ≡ told.BadPeer f → ⊥

fault_comes : (all : List Moment) (d : Deed) (o : Op) (s : client.State) (x : ℕ) (taken : List TakenCall) (now : ℕ) → NoFault o (unknown s x) taken now → StepComes all d o (unknown s x) taken now
fault_comes all d o s x taken now right = record { way = λ runs u at. nothing_there u at; over = λ e is. absurd (right 2 refl) }

-- it is dropped
drop_comes : (all : List Moment) (d : Deed) (o : Op) (n : ℕ) (s : client.State) (t : Task) (x : ℕ) (taken : List TakenCall) → s.task ≡ Some t → IsOn all d.command o t.stage n → (b : Bool) → NoFault o (drops s (Some t) x b) taken (n + 1) → StepComes all d o (drops s (Some t) x b) taken (n + 1)
drop_comes all d o n s t x taken task on true right = record { way = λ runs u at. is_on all d.command o _ u.stage n (n + 1) refl (inl refl) refl refl (omega arith) (subst (λ (z : Task). IsOn all d.command o z.stage n) (some_is t u (sym task ∙ at)) on); over = λ e is. nothing_there e is }
drop_comes all d o n s t x taken task on false right = fault_comes all d o s x taken (n + 1) right

heard_comes : FitLaws → (all past : List Moment) (opening : List Opening) (k : Core) (qs : List Queue) (n now : ℕ) (bytes : List ℕ) (mid : List Queue) → IsKept (book_at opening k all) k qs → (h : Heard k qs n now bytes mid) → AreInOrder all → AtOneSession all → Contains all (moment k (Hears n now bytes)) → ((z : Moment) → Contains all z → step_of z ≤ k.steps → Contains past z) → Walks all past k → (j : Job) (d : Deed) (o : Op) → job h.seat ≡ Some j → slice_get (deeds_of past) j.place ≡ Some d → slice_get k.ops j.place ≡ Some o → o.begin ≡ d.begin → IsOn all d.command o j.stage k.steps
    → (let r = got_step h.seat.client (Ok (told_message h.told)) now in NoFault o r (session_taken (session_of k.sessions h.seat.session)) (k.steps + 1) → StepComes all d o r (session_taken (session_of k.sessions h.seat.session)) (k.steps + 1))
heard_comes laws all past opening k qs n now bytes mid kept h order one noted is_past walks j d o is deed at begun on right = by h.seat.client.task (job_task h.seat.place h.seat.client.task j is) right
  where
    taken : List TakenCall
    taken = session_taken (session_of k.sessions h.seat.session)

    x : ℕ
    x = h.told.xid

    s : client.State
    s = clocked h.seat.client now

    mine : Task
    mine = record { file = j.file; stage = j.stage }

    book : Book
    book = book_at opening k all

    taken_is : h.session.taken ≡ taken
    taken_is = sym (ap (λ l. session_taken (session_of k.sessions l)) h.newest ∙ ap session_taken h.at)

    become : client.State × ClientStep → Op
    become r = op_after o r.0 taken (k.steps + 1) r.1

    own_word : o.word ≡ stage_word j.stage
    own_word =
        let of = (kept.seats h.session.owner h.seat h.owner).task j is in
        let same : of.op ≡ o = some_is of.op o (sym of.there ∙ at) in
        ap (λ (z : Op). z.word) (sym same) ∙ of.word

    or_none : (b : Bool) → (b || false) ≡ true → b ≡ true
    or_none true e = refl
    or_none false e = e

    -- to a walk
    to_walk : (y : ℕ) (w : Walk) → j.stage ≡ stage.Walking y w → y ≡ x → (r : Reply) → h.told.reply ≡ r → has_call (pending s.task) x ≡ true → IsOn all d.command o (stage.Walking y w) k.steps → NoFault o (took (idle s) (client.calls_of s) j.file (stage.Walking y w) x (reply_body r)) taken (k.steps + 1) → StepComes all d o (took (idle s) (client.calls_of s) j.file (stage.Walking y w) x (reply_body r)) taken (k.steps + 1)
    to_walk y w e own (Walked r) is_reply waits on right = answered (is_its w (name_answer r)) right
      where
        on_path : (cmd : Command) → d.command ≡ cmd → IsOn all cmd o (stage.Walking y w) k.steps → (let z = walked (idle s) (client.calls_of s) x (is_look w.goal) (walk_told w (name_answer r)) in StepComes all d o z taken (k.steps + 1))
        on_path (command.Named c) named (step, has, before, plain, word) =
            let sess = kept.sessions n h.session h.queue h.at h.queue_is (has_owner k.seats h.session h.seat h.owner) in
            let same_seat : sess.seat ≡ h.seat = some_is sess.seat h.seat (sym sess.owner ∙ h.owner) in
            let talk = sess.talk h.uncut in
            let job_ : job sess.seat ≡ Some j = ap job same_seat ∙ is in
            let first = (subst (AllTolds (IsAnswer book h.session.taken h.session.closing (job sess.seat))) h.first talk.answers).0 in
            let walking : j.stage ≡ stage.Walking x w = e ∙ ap (λ (z : ℕ). stage.Walking z w) own in
            let answer : AnswerOf book taken h.session.closing (job sess.seat) x (Walked r) = subst (AnswerOf book taken h.session.closing (job sess.seat) x) is_reply (subst (λ (l : List TakenCall). AnswerOf book l h.session.closing (job sess.seat) x h.told.reply) taken_is first) in
            let told : WalkTold book taken h.session.closing j x w (name_answer r) = answer j w job_ walking in
            let owed : makes_later w.left w.goal ≡ true → HasNeither o = λ later. (let no = subst (CloseOf book h.session.closing sess.contents sess.seat.client.next_temp j (client.local_bytes sess.seat.client.opened j.file)) walking (sess.closes h.uncut j job_) later in let same_op = sym (some_is no.op o (sym no.there ∙ at)) in (ap (λ (z : Op). z.file) same_op ∙ no.file_is, ap (λ (z : Op). z.point) same_op ∙ no.unmade.1)) in
            let small : IsWalkSmall w = (subst (FetchOf book h.session.taken j) e (talk.fetch j job_)).1 in
            let late = told.past in
            let f = far told in
            let mine_ : told.op ≡ o = some_is told.op o (sym told.there ∙ at) in
            let own : told.op.client ≡ h.session.owner = ap (λ (z : Op). z.client) mine_ ∙ client_is in
            -- the answer came on the session on which it was sent
            let same_session : told.session ≡ n = some_is told.session n (sym told.newest ∙ sym (one told.at told.op.client told.seat j told.noted told.seat_is told.job_is (moment k (Hears n now bytes)) h.seat j noted (ap (numbered k.seats) own ∙ h.owner) is refl) ∙ h.newest) in
            let comes = heard_walk all book refl order taken h.session.closing j x w (name_answer r) told walking small c o mine_ plain owed word f.0 f.1 f.2 f.3 (k.steps + 1) (omega (arith, late)) (moment k (Hears n now bytes)) noted refl now bytes (ap (λ (l : ℕ). Hears l now bytes) (sym same_session)) takes (idle s) (client.calls_of s) in
            record {
              way = λ runs u task. subst (λ (z : Command). IsOn all z (become (walked (idle s) (client.calls_of s) x (is_look w.goal) (walk_told w (name_answer r)))) u.stage (k.steps + 1)) (sym named) (comes.way runs u task);
              over = λ z ended. subst (λ (y : Command). IsOver all y (become (walked (idle s) (client.calls_of s) x (is_look w.goal) (walk_told w (name_answer r))))) (sym named) (word_stays o (walked (idle s) (client.calls_of s) x (is_look w.goal) (walk_told w (name_answer r))).0 taken (k.steps + 1) (walked (idle s) (client.calls_of s) x (is_look w.goal) (walk_told w (name_answer r))).1 ∙ word, inr (inr (comes.ends z ended)));
            }
          where
            client_is : o.client ≡ h.session.owner
            client_is = (own_op book k qs h.session.owner h.seat j.place o kept h.owner (job_place h.seat.place h.seat.client.task j is) at).3

            -- how far its walk had come, by the end's job then
            came_so : (z : Moment) (i : ℕ) (seat : Seat) → Contains all z → step_of z ≤ k.steps → numbered z.before.seats i ≡ Some seat → job seat ≡ Some j → (step : ℕ) × HasWalk (bare all) o.begin c w step × (step ≤ z.before.steps)
            came_so z i seat there past here mine_job =
                let was = walks.before z (is_past z there past) i seat j here mine_job in
                let same_deed : was.0 ≡ d = some_is was.0 d (sym was.2 ∙ deed) in
                let walking : j.stage ≡ stage.Walking x w = e ∙ ap (λ (z : ℕ). stage.Walking z w) own in
                let then_ : OnWay all c was.1 (stage.Walking x w) z.before.steps = subst (λ (y : Command). IsOn all y was.1 (stage.Walking x w) z.before.steps) (ap (λ (y : Deed). y.command) same_deed ∙ named) (subst (λ (y : Stage). IsOn all was.0.command was.1 y z.before.steps) walking was.6) in
                let begin : was.1.begin ≡ o.begin = was.4 ∙ ap (λ (y : Deed). y.begin) same_deed ∙ sym begun in
                (then_.0, subst (λ (b : ℕ). HasWalk (bare all) b c w then_.0) begin then_.1, then_.2)

            -- as its call was taken, if that made something, and else as it was answered
            far : (told : WalkTold book taken h.session.closing j x w (name_answer r)) → (step : ℕ) × HasWalk (bare all) o.begin c w step × (step ≤ step_of told.at) × EarlyBy book told.at told.moment h.session.closing j told.op w (name_answer r) step told.came
            far told = by told.came
              where
                late : step_of told.at ≤ k.steps
                late = let is = told.step_is in let past = told.past in omega (arith, is, past)

                by : (z : WalkCame book told.at told.moment h.session.closing j told.op w (name_answer r)) → (step : ℕ) × HasWalk (bare all) o.begin c w step × (step ≤ step_of told.at) × EarlyBy book told.at told.moment h.session.closing j told.op w (name_answer r) step z
                by (inl t) = let f = came_so told.at told.op.client told.seat told.noted late told.seat_is told.job_is in let le = f.2 in (f.0, f.1, omega (arith, le), tt)
                by (inr (inl t)) = let f = came_so told.at told.op.client told.seat told.noted late told.seat_is told.job_is in let le = f.2 in (f.0, f.1, omega (arith, le), tt)
                by (inr (inr m)) =
                    let before = m.before in
                    let is = told.step_is in
                    let past = told.past in
                    let f = came_so m.taken.at told.op.client m.taken.seat m.taken.noted (omega (arith, before, past)) m.taken.seat_is m.taken.job_is in
                    let le = f.2 in
                    (f.0, f.1, omega (arith, le, before, is), omega (arith, le))

            takes : Contains (taken_by k o.client (Hears n now bytes)) (message.Answer x (body.Nfs (name_answer r)))
            takes =
                let one : Contains (message.Answer x (body.Nfs (name_answer r)) ∷ []) (message.Answer x (body.Nfs (name_answer r))) = Contains-push [] (message.Answer x (body.Nfs (name_answer r))) in
                subst (λ (i : ℕ). Contains (taken_by k i (Hears n now bytes)) (message.Answer x (body.Nfs (name_answer r)))) (sym client_is)
                (subst (λ (l : List Message). Contains l (message.Answer x (body.Nfs (name_answer r)))) (sym (heard_takes laws book k qs n now bytes mid kept h ∙ ap (λ (b : Bool). wanted_if b (told_message h.told)) waits ∙ ap (λ (z : Reply). message.Answer x (reply_body z) ∷ []) is_reply)) one)
        on_path (command.Open f) named on = absurd on
        on_path _ named on = absurd on

        answered : (its : Bool) → NoFault o (told_walk (idle s) (client.calls_of s) x w (name_answer r) its) taken (k.steps + 1) → StepComes all d o (told_walk (idle s) (client.calls_of s) x w (name_answer r) its) taken (k.steps + 1)
        answered true right = on_path d.command refl on
        answered false right = fault_comes all d o (idle s) x taken (k.steps + 1) right
    to_walk y w e own (Bytes a) is b on right = answered (is_its w (nfs.ReadAnswer a)) right
      where
        answered : (its : Bool) → NoFault o (told_walk (idle s) (client.calls_of s) x w (nfs.ReadAnswer a) its) taken (k.steps + 1) → StepComes all d o (told_walk (idle s) (client.calls_of s) x w (nfs.ReadAnswer a) its) taken (k.steps + 1)
        answered true right = fault_comes all d o (idle s) x taken (k.steps + 1) right
        answered false right = fault_comes all d o (idle s) x taken (k.steps + 1) right
    to_walk y w e own _ is b on right = fault_comes all d o (idle s) x taken (k.steps + 1) right

    own_took : (st : Stage) → j.stage ≡ st → has_call (client.pending_in st) x ≡ true → IsOn all d.command o st k.steps → NoFault o (took (idle s) (client.calls_of s) j.file st x (reply_body h.told.reply)) taken (k.steps + 1) → StepComes all d o (took (idle s) (client.calls_of s) j.file st x (reply_body h.told.reply)) taken (k.steps + 1)
    own_took (stage.Walking y w) e has on right = to_walk y w e (eqb-true y x (or_none (y == x) has)) h.told.reply refl (ap (λ (z : Option Task). has_call (pending z) x) (job_task h.seat.place h.seat.client.task j is) ∙ ap (λ (z : Stage). has_call (client.pending_in z) x) e ∙ has) on right
    own_took v e has on right = file_comes all d o k.steps (idle s) (client.calls_of s) j.file v x (reply_body h.told.reply) taken tt (own_word ∙ ap stage_word e) on

    own : (t : Option Task) → t ≡ Some mine → (b : Bool) → has_call (pending t) x ≡ b → NoFault o (took_if s t x (reply_body h.told.reply) b) taken (k.steps + 1) → StepComes all d o (took_if s t x (reply_body h.told.reply) b) taken (k.steps + 1)
    own t e true has right = subst (λ (z : Option Task). NoFault o (took_if s z x (reply_body h.told.reply) true) taken (k.steps + 1) → StepComes all d o (took_if s z x (reply_body h.told.reply) true) taken (k.steps + 1)) (sym e) (own_took j.stage refl (ap (λ (z : Option Task). has_call (pending z) x) (sym e) ∙ has) on) right
    own t e false has right = subst (λ (z : Option Task). NoFault o (took_if s z x (reply_body h.told.reply) false) taken (k.steps + 1) → StepComes all d o (took_if s z x (reply_body h.told.reply) false) taken (k.steps + 1)) (sym e) (drop_comes all d o k.steps s mine x taken (job_task h.seat.place h.seat.client.task j is) on (has_call s.forgotten x)) right

    by : (t : Option Task) → t ≡ Some mine → NoFault o (got_message s t (told_message h.told)) taken (k.steps + 1) → StepComes all d o (got_message s t (told_message h.told)) taken (k.steps + 1)
    by t e right = own t e (has_call (pending t) x) refl right

fault_not : (more : Book) (o : Op) (f : ℕ) → IsRight more o → o.outcome ≡ told.BadPeer f → ⊥
fault_not more o f right bad = subst (Caused more o) bad right.cause

-- ---- a command begins

-- a command on a file begins no walk
file_of_task : (t u : Task) → ◌≡◌ {A = Option Task} (Some t) (Some u) → IsOfFile t.stage → IsOfFile u.stage
file_of_task t u e h = subst (λ (z : Task). IsOfFile z.stage) (some_is t u e) h

asks_of_file : (s : client.State) (file : ℕ) (may : Bool) (u : Task) → s.task ≡ None → (asks_file s file may).0.task ≡ Some u → IsOfFile u.stage
asks_of_file s file true u none at = by (content_of s.cache file) at
  where
    by : (kept : Option Content) → (asks_kept (record s { cache = reserved s.cache file }) file kept).0.task ≡ Some u → IsOfFile u.stage
    by None at = file_of_task _ u at tt
    by (Some c) at = file_of_task _ u at tt
asks_of_file s file false u none at = nothing_there u (sym none ∙ at)

opens_of_file : (s : client.State) (file : ℕ) (u : Task) → s.task ≡ None → (t : Option Task) → t ≡ None → (opens s file t).0.task ≡ Some u → IsOfFile u.stage
opens_of_file s file u none (Some t) e at = nothing_there t (sym e)
opens_of_file s file u none None e at = by (is_open s.opened file) at
  where
    kept : (o : Option Content) → (opens_kept s file o).0.task ≡ Some u → IsOfFile u.stage
    kept (Some c) at = nothing_there u (sym none ∙ at)
    kept None at = asks_of_file s file (may_ask s) u none at

    by : (b : Bool) → (opens_if s file b).0.task ≡ Some u → IsOfFile u.stage
    by true at = nothing_there u (sym none ∙ at)
    by false at = kept (fresh_content s.cache file s.clock) at

rewrites_of_file : (s : client.State) (file : ℕ) (u : Task) → s.task ≡ None → (t : Option Task) → t ≡ None → (rewrites s file t).0.task ≡ Some u → IsOfFile u.stage
rewrites_of_file s file u none (Some t) e at = nothing_there t (sym e)
rewrites_of_file s file u none None e at = by (is_open s.opened file) at
  where
    asks : (b : Bool) → (asks_anew s file b).0.task ≡ Some u → IsOfFile u.stage
    asks true at = file_of_task _ u at tt
    asks false at = nothing_there u (sym none ∙ at)

    kept : (o : Option Content) → (renews_kept s file o).0.task ≡ Some u → IsOfFile u.stage
    kept (Some c) at = nothing_there u (sym none ∙ at)
    kept None at = asks (may_ask s) at

    by : (b : Bool) → (rewrites_if s file b).0.task ≡ Some u → IsOfFile u.stage
    by true at = nothing_there u (sym none ∙ at)
    by false at = kept (fresh_content s.cache file s.clock) at

-- what is done on an open file leaves nothing under way, but a close
local_none : (s : client.State) (t : Option Task) (l : Option Local) (does : Local → client.State × ClientStep) (u : Task) → s.task ≡ None → ((l : Local) → (does l).0.task ≡ Some u → IsOfFile u.stage) → (on_local s t l does).0.task ≡ Some u → IsOfFile u.stage
local_none s (Some t) l does u none h at = nothing_there u (sym none ∙ at)
local_none s None None does u none h at = nothing_there u (sym none ∙ at)
local_none s None (Some l) does u none h at = h l at

edits_none : (s : client.State) (file : ℕ) (l : Local) (size : ℕ) (x : List ℕ) (u : Task) → s.task ≡ None → (edits s file l size x).0.task ≡ Some u → IsOfFile u.stage
edits_none s file l size x u none at = by (nat_lt local_most size) at
  where
    by : (b : Bool) → (if b then too_big s size else done_with s file l x).0.task ≡ Some u → IsOfFile u.stage
    by true at = nothing_there u (sym none ∙ at)
    by false at = nothing_there u (sym none ∙ at)

writes_none : (s : client.State) (file offset : ℕ) (content : List Part) (l : Local) (u : Task) → s.task ≡ None → (writes s file offset content l).0.task ≡ Some u → IsOfFile u.stage
writes_none s file offset content l u none at = by (content_length content == 0) at
  where
    by : (b : Bool) → (if b then (s, ends outcome.Done 0 0) else edits s file l (written_size (length l.bytes) offset (content_length content)) (written l.bytes offset (content_bytes content))).0.task ≡ Some u → IsOfFile u.stage
    by true at = nothing_there u (sym none ∙ at)
    by false at = edits_none s file l (written_size (length l.bytes) offset (content_length content)) (written l.bytes offset (content_bytes content)) u none at

closes_none : (s : client.State) (file : ℕ) (l : Local) (u : Task) → s.task ≡ None → (closes s file l).0.task ≡ Some u → IsOfFile u.stage
closes_none s file l u none at = by (may_ask s) at
  where
    by : (b : Bool) → (asks_temp s file b).0.task ≡ Some u → IsOfFile u.stage
    by true at = file_of_task _ u at tt
    by false at = nothing_there u (sym none ∙ at)

walk_begun : (all : List Moment) (s : client.State) (c : PathCommand) (t : Option Task) → t ≡ None → s.task ≡ None → (u : Task) → (walks s c t).0.task ≡ Some u → (o : Op) (n : ℕ) → n ≡ o.begin → o.file ≡ 0 → o.point ≡ None → o.word ≡ path_word c → OnWay all c o u.stage n
walk_begun all s c (Some t) e none u at o n begin file pointless word = nothing_there t (sym e)
walk_begun all s c None e none u at o n begin file pointless word = by (may_walk s (begun c)) at
  where
    plain : (k : PathCommand) → IsBare k o
    plain (path.Make p) = tt
    plain (path.Remove p) = tt
    plain (path.Rename p q) = tt
    plain _ = (file, pointless)

    by : (b : Bool) → (walks_if s (begun c) b).0.task ≡ Some u → OnWay all c o u.stage n
    by true at = subst (λ (z : Task). OnWay all c o z.stage n) (some_is (record { file = 0; stage = stage.Walking s.next_xid (begun c) }) u at) (o.begin, walk_begins (bare all) o.begin c, omega (arith, begin), plain c, word)
    by false at = nothing_there u (sym none ∙ at)

command_begins : (all : List Moment) (s : client.State) (d : Command) (now : ℕ) → s.task ≡ None → (u : Task) → (command_step s d now).0.task ≡ Some u → (o : Op) (n : ℕ) → n ≡ o.begin → o.file ≡ file_of d → o.point ≡ None → o.word ≡ word_of d → IsOn all d o u.stage n
command_begins all s (command.Named c) now none u at o n begin file pointless word = walk_begun all (clocked s now) c s.task none none u at o n begin file pointless word
command_begins all s (command.Open f) now none u at o n begin file pointless word = opens_of_file (clocked s now) f u none s.task none at
command_begins all s (command.Rewrite f) now none u at o n begin file pointless word = rewrites_of_file (clocked s now) f u none s.task none at
command_begins all s (command.Write f offset content) now none u at o n begin file pointless word = local_none (clocked s now) s.task (client.local_at s.opened f) (writes (clocked s now) f offset content) u none (λ l. writes_none (clocked s now) f offset content l u none) at
command_begins all s (command.Trunc f size) now none u at o n begin file pointless word = local_none (clocked s now) s.task (client.local_at s.opened f) (truncates (clocked s now) f size) u none (λ l. edits_none (clocked s now) f l size (truncated l.bytes size) u none) at
command_begins all s (command.Read f offset count) now none u at o n begin file pointless word = local_none (clocked s now) s.task (client.local_at s.opened f) (reads (clocked s now) offset count) u none (λ l e. nothing_there u (sym none ∙ e)) at
command_begins all s (command.Close f) now none u at o n begin file pointless word = local_none (clocked s now) s.task (client.local_at s.opened f) (closes (clocked s now) f) u none (λ l. closes_none (clocked s now) f l u none) at
command_begins all s (command.Abandon f) now none u at o n begin file pointless word = local_none (clocked s now) s.task (client.local_at s.opened f) (abandons (clocked s now) f) u none (λ l e. nothing_there u (sym none ∙ e)) at

-- one that walks runs, or was answered at once
walk_over : (s : client.State) (c : PathCommand) (o : Op) (step : ℕ) → o.outcome ≡ told.Running → o.begin ≡ step → (t : Option Task) → (let r = walks s c t in let new : Op = op_after o r.0 [] step r.1 in (new.outcome ≡ told.Running) ⊎ (new.end ≡ Some new.begin))
walk_over s c o step run begin (Some t) = inr (ap (λ (n : ℕ). Some n) (sym begin))
walk_over s c o step run begin None = by (may_walk s (begun c))
  where
    by : (b : Bool) → (let r = walks_if s (begun c) b in let new : Op = op_after o r.0 [] step r.1 in (new.outcome ≡ told.Running) ⊎ (new.end ≡ Some new.begin))
    by true = inl run
    by false = inr (ap (λ (n : ℕ). Some n) (sym begin))

command_over : (all : List Moment) (s : client.State) (d : Command) (now : ℕ) (o : Op) (step : ℕ) → o.word ≡ word_of d → o.outcome ≡ told.Running → o.begin ≡ step → (let r = command_step s d now in IsOver all d (op_after o r.0 [] step r.1))
command_over all s (command.Named c) now o step word run begin = (word_stays o (walks (clocked s now) c s.task).0 [] step (walks (clocked s now) c s.task).1 ∙ word, elim (walk_over (clocked s now) c o step run begin s.task) [ inl runs ↦ inl runs | inr once ↦ inr (inl once) ])
command_over all s _ now o step word run begin = tt

does_onward : (all past : List Moment) (opening : List Opening) (k : Core) (qs : List Queue) (c now : ℕ) (d : Command) (seat : Seat) → IsSmall d → IsKept (book_at opening k all) k qs → numbered k.seats c ≡ Some seat → Walks all past k → Walks all (past ++ moment k (Does c now d) ∷ []) (does k c now d (Some seat)).core
does_onward all past opening k qs c now d seat small kept here h = onward all past k r (Does c now d) (omega arith) (count_more k.ops new ∙ ap suc h.count ∙ sym (count_more (deeds_of past) deed))
    (λ i z j there is. elim (of_numbered k.seats c then_ i z there) [
      | inr other ↦ inl (z, other.1, is, λ o at. (o, kept_appended k.ops new j.place o at, same_kept o))
      | inl mine ↦ own i mine.0 (kept.seats c seat here).matched j (ap job (sym mine.1) ∙ is)
    ])
    (λ p x q at is. elim (of_appended k.ops new p q is) [
      | inr old ↦ inl (q, deed_before p x at q old, old, same_kept q)
      | inl last ↦ inr (subst (λ (z : Deed). IsOver all z.command q) (sym (deed_last p x at last.0)) (subst (IsOver all d) (sym last.1) over))
    ]) h
  where
    acts : client.State × ClientStep
    acts = command_step seat.client d now

    new : Op
    new = made_by k c now d seat acts.0 acts.1

    deed : Deed
    deed = record { client = c; command = d; begin = k.steps + 1; joined = joined_from c false past; calls = calls_from c 0 past; fresh = is_fresh_for (numbered k.seats c) now d }

    r : Core
    r = (does k c now d (Some seat)).core

    then_ : Seat
    then_ = record seat { client = acts.0; place = place_with seat.place (length k.ops) acts.1.ended }

    deed_before : (p : ℕ) (x : Deed) → slice_get (deeds_of past ++ deed ∷ []) p ≡ Some x → (q : Op) → slice_get k.ops p ≡ Some q → slice_get (deeds_of past) p ≡ Some x
    deed_before p x at q old = elim (of_appended (deeds_of past) deed p x at) [
      | inr was ↦ was
      | inl last ↦ (let lt = within k.ops p q old in let e = last.0 in let count = h.count in absurd (omega (arith, lt, e, count)))
    ]

    deed_last : (p : ℕ) (x : Deed) → slice_get (deeds_of past ++ deed ∷ []) p ≡ Some x → p ≡ length k.ops → x ≡ deed
    deed_last p x at e = elim (of_appended (deeds_of past) deed p x at) [
      | inl last ↦ last.1
      | inr was ↦ (let lt = within (deeds_of past) p x was in let count = h.count in absurd (omega (arith, lt, e, count)))
    ]

    over : IsOver all d new
    over = command_over all seat.client d now (op_begun c (word_of d) (file_of d) (value_at_begin seat.client (word_of d) (file_of d) (command_step seat.client d now).1.ended) (k.steps + 1)) (k.steps + 1) refl refl refl

    own : (i : ℕ) → i ≡ c → IsMatched seat → (j : Job) → job then_ ≡ Some j → ((old : Seat) × (numbered k.seats i ≡ Some old) × (job old ≡ Some j) × ((o : Op) → slice_get k.ops j.place ≡ Some o → (q : Op) × (slice_get r.ops j.place ≡ Some q) × WayKept o q)) ⊎ ((x : Deed) × (o : Op) × (slice_get (deeds_of past ++ deed ∷ []) j.place ≡ Some x) × (slice_get r.ops j.place ≡ Some o) × (o.begin ≡ x.begin) × (o.word ≡ word_of x.command) × IsOn all x.command o j.stage r.steps)
    own i mine (inr (old, busy)) j is =
        let task = job_task seat.place seat.client.task old busy in
        let same : acts.0 ≡ clocked seat.client now = (busy_command seat.client d now (record { file = old.file; stage = old.stage }) task).1 in
        inl (seat, ap (numbered k.seats) mine ∙ here, job_stays seat old (length k.ops) busy j acts.1.ended (ap (λ (z : client.State). job_of (place_with seat.place (length k.ops) acts.1.ended) z.task) (sym same) ∙ is), λ o at. (o, kept_appended k.ops new j.place o at, same_kept o))
    own i mine (inl idle) j is = inr (begins acts.1.ended refl (ap (λ (l : Option ℕ). job_of (place_with l (length k.ops) acts.1.ended) acts.0.task) (sym idle.0) ∙ is))
      where
        begins : (e : Option Ended) → acts.1.ended ≡ e → job_of (place_with None (length k.ops) e) acts.0.task ≡ Some j → (x : Deed) × (o : Op) × (slice_get (deeds_of past ++ deed ∷ []) j.place ≡ Some x) × (slice_get r.ops j.place ≡ Some o) × (o.begin ≡ x.begin) × (o.word ≡ word_of x.command) × IsOn all x.command o j.stage r.steps
        begins (Some e) ended at = nothing_there j at
        begins None ended at =
            let place : length k.ops ≡ j.place = some_is (length k.ops) j.place (job_place (Some (length k.ops)) acts.0.task j at) in
            let task = job_task (Some (length k.ops)) acts.0.task j at in
            let begin : new.begin ≡ k.steps + 1 = begin_stays (op_begun c (word_of d) (file_of d) (value_at_begin seat.client (word_of d) (file_of d) (command_step seat.client d now).1.ended) (k.steps + 1)) acts.0 [] (k.steps + 1) acts.1 in
            (deed, new, ap (slice_get (deeds_of past ++ deed ∷ [])) (sym place ∙ h.count) ∙ at_end (deeds_of past) deed, ap (slice_get (k.ops ++ new ∷ [])) (sym place) ∙ at_end k.ops new, begin, word_stays (op_begun c (word_of d) (file_of d) (value_at_begin seat.client (word_of d) (file_of d) (command_step seat.client d now).1.ended) (k.steps + 1)) acts.0 [] (k.steps + 1) acts.1, command_begins all seat.client d now idle.1 (record { file = j.file; stage = j.stage }) task new (k.steps + 1) (sym begin) (file_after (op_begun c (word_of d) (file_of d) (value_at_begin seat.client (word_of d) (file_of d) (command_step seat.client d now).1.ended) (k.steps + 1)) acts.0 [] (k.steps + 1) acts.1 (command_finds seat.client d now small)) (ap (λ (l : Option Ended). (made_by k c now d seat acts.0 (record acts.1 { ended = l })).point) ended) (word_stays (op_begun c (word_of d) (file_of d) (value_at_begin seat.client (word_of d) (file_of d) (command_step seat.client d now).1.ended) (k.steps + 1)) acts.0 [] (k.steps + 1) acts.1))

-- ---- any event

walks_event : FitLaws → (all past rest : List Moment) (opening : List Opening) (k : Core) (qs : List Queue) (e : Event) (mid after : List Queue) → Step all past rest opening k qs e mid after → AreInOrder all → Dated all → AtOneSession all → Walks all past k → Walks all (past ++ moment k e ∷ []) (happens k e).core
walks_event laws all past rest opening k qs e mid after s order dated one h = event_cases laws all past rest opening k qs e mid after s (λ e t. Walks all (past ++ moment k e ∷ []) t.core) (record {
  still = λ t still. walks_still all past k e t still h;
  begins = λ c now d seat s here small left. does_onward all past opening k qs c now d seat small s.kept here h;
  hears = λ n now bytes s w left.
      let r = got_step w.seat.client (Ok (told_message w.told)) now in
      let taken = session_taken (session_of k.sessions w.seat.session) in
      let t = acted k w.session.owner w.seat r.0 r.1 in
      acted_onward all past opening k qs (Hears n now bytes) w.session.owner w.seat (record w.seat { client = r.0; place = place_after w.seat.place r.1.ended }) r.0 r.1 taken t.core s.kept w.owner (append-nil (deeds_of past)) refl refl refl
      (λ j is. job_after r.0 w.seat.place r.1.ended j is)
      (λ j d o is deed at begun word on. heard_comes laws all past opening k qs n now bytes mid s.kept w order one s.noted.there (in_past all past rest k (Hears n now bytes) dated.0 s.split dated.1) h j d o is deed at begun on (λ f bad. fault_not (book_at opening t.core all) (op_after o r.0 taken (k.steps + 1) r.1) f (left.sound.rights j.place (op_after o r.0 taken (k.steps + 1) r.1)
      (ap (λ (l : Option ℕ). slice_get (ops_with k.ops l r.0 taken (k.steps + 1) r.1) j.place) (job_place w.seat.place w.seat.client.task j is) ∙ acted_at k.ops j.place o r.0 taken (k.steps + 1) r.1 at)) bad)) h;
  lost = λ c seat s here.
      let gone : client.State = record seat.client { linked = false; task = None; forgotten = [] } in
      let acts = ended_by seat.client.task (record { outcome = outcome.Lost; rests_on = 0 }) in
      acted_onward all past opening k qs (Cuts c) c seat (record seat { client = gone; place = place_after seat.place acts.ended }) gone acts (session_taken (session_of k.sessions seat.session)) (cuts_if k c seat true).core s.kept here (append-nil (deeds_of past)) refl refl refl
      (λ j is. nothing_there j (sym (no_job (place_after seat.place acts.ended)) ∙ is))
      (λ j d o is deed at begun word on. lost_comes all d o j k.steps gone (session_taken (session_of k.sessions seat.session)) on seat.client.task (job_task seat.place seat.client.task j is)) h;
})
  where
    no_job : (l : Option ℕ) → job_of l None ≡ None
    no_job None = refl
    no_job (Some l) = refl

abbrev pub WalksAt : (all past : List Moment) → List Opening → Core → List Queue → Type 0
WalksAt all past opening k qs = AreInOrder all → Dated all → AtOneSession all → Walks all past k

pub carried_walks : FitLaws → Carried WalksAt
carried_walks laws = record {
  first = λ all opening tree count kept. λ order dated one. record { count = refl; jobs = λ i seat j here is. (let of = (kept.seats i seat here).task j is in nothing_there of.op of.there); over = λ p d o at is. nothing_there o is; before = λ m there. (let lt = there.1 in absurd (omega (arith, lt))) };
  steps = λ all past rest opening k qs e mid after s h. λ order dated one. walks_event laws all past rest opening k qs e mid after s order dated one (h order dated one);
  adjusts = λ all past opening k qs index seats same h. λ order dated one. (let w = h order dated one in record { count = w.count; jobs = λ i seat j here is. (let z = same.was i seat here in w.jobs i z.0 j z.3 (ap job (sym z.4) ∙ is)); over = w.over; before = w.before });
}
