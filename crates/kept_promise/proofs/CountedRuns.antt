-- A run carries that each operation counts what its client sent and took for it.
use Rattle.std.proofs.Common.{inl, inr, ◌≡◌, ℕ, ◌+◌, List, [], ◌∷◌, ◌++◌, Option, Some, None, Ok, false, refl, sym, ap, ◌∙◌, subst, ◌⊎◌, ◌≤◌, arith}
use Rattle.std.proofs.lemmas.List.{flat_map_more}
use Rattle.client_state.specs.State as client
use Rattle.client_state.specs.declared.step.Outcome.TheVariants as outcome
use Rattle.trace_ends.specs.Session.{taken_of as session_taken}
use Rattle.trace_replay.specs.Trail.{taken_in, taken_of, given_by_message}
use Rattle.kept_promise.proofs.Common.{asked_in, slice_get, Command, Message, no_counts, command_step, got_step, ended_by, BadPeer, ClientStep, Ended, Outcome, Op, Opening, TakenCall, no_traffic, counted, op_after, ended_op, told_of, Core, session_of, ops_after, ops_with, happens, Moment, all_said, client_of, sent_in, sent_of, wanted_by, taken_by, Book, Queue, Traffic, both, told_message, acted, Counts, taken_traffic, Done, Deal, deals_with, deals_of, step_of}
use Rattle.kept_promise.proofs.Lists.{nothing_there, at_replaced, some_is}
use Rattle.kept_promise.proofs.Rights.{IsRight, Caused}
use Rattle.kept_promise.proofs.Facts.{IsKept}
use Rattle.kept_promise.proofs.RunsCarried.{book_at, moment, Carried}
use Rattle.kept_promise.proofs.Tallies.{sent_sum, taken_sum, Tallied, Tallies, tally_got}
use Rattle.kept_promise.proofs.StepCases.{IsFault, command_cases}
use Rattle.kept_promise.proofs.Counted.{SaidBy, said_later, said_now, said_append, traffic_is}
use Rattle.kept_promise.proofs.Actors.{acts_alone, Heard, job_place}
use Rattle.kept_promise.proofs.CommandOps.{made_silent}
use Rattle.kept_promise.proofs.PathNames.{IsSmall}
use Rattle.trace_ends.specs.Ops.{file_with}
use Rattle.path_calls.specs.declared.walk.Walk.{Walk}
use Rattle.path_calls.specs.Walk.{next_call, begun as walk_begun}
use Rattle.wire.specs.declared.message.Body.TheVariants as body
use Rattle.wire.specs.declared.message.Message.TheVariants as message
use Rattle.nfs3_calls.specs.declared.message.Nfs.TheVariants as nfs
use Rattle.kept_promise.proofs.WalkMessages.{call_counts}
use Rattle.kept_promise.proofs.Fits.{FitLaws}
use Rattle.kept_promise.proofs.LogSums.{log_traffic, log_join, log_sent, log_with, traffic_log}
use Rattle.kept_promise.proofs.Logs.{ArePast}
use Rattle.kept_promise.proofs.OpFacts.{Going, Ending, FactLaws, facts_event, past_event}
use Rattle.kept_promise.proofs.Messages.{Job, job}
use Rattle.trace_replay.specs.Traffic.{traffic_of}

-- ---- what a command sends counts nothing

abbrev pub IsSilent : client.State × ClientStep → Type 0
IsSilent r = (sent_sum r.1.send ≡ no_traffic) × (r.1.counts ≡ no_counts)

walk_silent : (x : ℕ) (w : Walk) → sent_sum (message.Call x (body.Nfs (next_call w)) ∷ []) ≡ no_traffic
walk_silent x w = ap (λ (t : Traffic). both t no_traffic) (call_counts x w)

pub silent_command : (s : client.State) (d : Command) (now : ℕ) → IsSmall d → IsSilent (command_step s d now)
silent_command s d now small = command_cases IsSilent s d now (record { busy = λ t is. (refl, refl); answers = λ free opened o plain. (refl, refl); fetches = λ file is free may. (refl, refl); asks = λ file c is free may at. (refl, refl); renews = λ file is free may. (refl, refl); opens_now = λ file c is free shut fresh. (refl, refl); empties_now = λ file c is free shut fresh. (refl, refl); closes = λ file l is free may at. (refl, refl); walks = λ c is free may. (walk_silent s.next_xid (walk_begun c), refl) })

-- ---- one more moment

pub sent_more : (past : List Moment) (m : Moment) → sent_of past ++ sent_in m ≡ sent_of (past ++ m ∷ [])
sent_more past m = flat_map_more sent_in [] past m

pub taken_more : (past : List Moment) (m : Moment) → taken_of past ++ taken_in m ≡ taken_of (past ++ m ∷ [])
taken_more past m = flat_map_more taken_in [] past m

-- ---- what was said is past

said_past : (n step c : ℕ) (ms : List Message) → (step ≤ n) ⊎ (ms ≡ []) → SaidBy n (all_said step c ms)
said_past n step c ms (inl le) = said_later step n (all_said step c ms) le (said_now step c ms)
said_past n step c ms (inr none) = subst (λ (l : List Message). SaidBy n (all_said step c l)) (sym none) tt

sent_past : (n : ℕ) (past : List Moment) → ArePast n past → SaidBy n (sent_of past)
sent_past n [] h = tt
sent_past n (m ∷ past) h = said_append n (sent_in m) (sent_of past) (said_past n (step_of m) (client_of m.before m.event) (asked_in m) (elim h.0 [ inl le ↦ inl le | inr s ↦ inr s.2 ])) (sent_past n past h.1)

taken_past : (n : ℕ) (past : List Moment) → ArePast n past → SaidBy n (taken_of past)
taken_past n [] h = tt
taken_past n (m ∷ past) h = said_append n (taken_in m) (taken_of past) (said_past n (step_of m) (client_of m.before m.event) (taken_by m.before (client_of m.before m.event) m.event) (elim h.0 [ inl le ↦ inl le | inr s ↦ inr s.0 ])) (taken_past n past h.1)

-- ---- what is carried

pub record CountedAt (past : List Moment) (k : Core) : Type 0 where
  pub by : ArePast k.steps past
  pub sent_by : SaidBy k.steps (sent_of past)
  pub taken_by : SaidBy k.steps (taken_of past)
  pub counts : (p : ℕ) (o : Op) → slice_get k.ops p ≡ Some o → o.traffic ≡ traffic_of o (sent_of past) (taken_of past)
  -- one that ended with its begin counts nothing
  pub silent : (p : ℕ) (o : Op) → slice_get k.ops p ≡ Some o → o.end ≡ Some o.begin → o.traffic ≡ no_traffic

abbrev Any : Going
Any past log p o st = Unit {0}

-- of an operation, by what was said for it
abbrev CountsLog : Ending
CountsLog past log p o = (o.traffic ≡ log_traffic log) × (o.end ≡ Some o.begin → o.traffic ≡ no_traffic)

-- ---- its own turn

-- the bytes of READs alone are counted of what is taken
taken_bare : (ts : List Message) → ((taken_sum ts).cond ≡ 0) × ((taken_sum ts).tmp ≡ 0) × ((taken_sum ts).read ≡ 0)
taken_bare [] = (refl, refl, refl)
taken_bare (m ∷ ts) = let l = taken_bare ts in let a = l.0 in let b = l.1 in let c = l.2 in let h = one m in let p = h.0 in let q = h.1 in let r = h.2 in (omega (arith, a, p), omega (arith, b, q), omega (arith, c, r))
  where
    one : (m : Message) → ((taken_traffic m).cond ≡ 0) × ((taken_traffic m).tmp ≡ 0) × ((taken_traffic m).read ≡ 0)
    one (message.Answer xid (body.Nfs (nfs.ReadAnswer (Done piece)))) = (refl, refl, refl)
    one m = (refl, refl, refl)

-- a step counts what it sends, and takes
counts_more : (t : Traffic) (log : List Deal) (ts : List Message) (fs : List (ℕ × ℕ)) (ms : List Message) (n : Counts) → t ≡ log_traffic log → Tallied n ms (taken_sum ts).«data» → counted t n ≡ log_traffic (log ++ deals_with ts fs ms)
counts_more t log ts fs ms n was h = ap (λ (x : Traffic). counted x n) was ∙ by (log_traffic log) (sent_sum ms) (taken_sum ts) h.cond h.tmp h.read h.data_is (taken_bare ts) ∙ sym (log_join log (deals_with ts fs ms) ∙ ap (both (log_traffic log)) (log_with ts fs ms))
  where
    by : (t a b : Traffic) → n.cond_writes ≡ a.cond → n.temp_writes ≡ a.tmp → n.reads ≡ a.read → n.bytes ≡ a.«data» + b.«data» → ((b.cond ≡ 0) × (b.tmp ≡ 0) × (b.read ≡ 0)) → counted t n ≡ both t (both b a)
    by t a b p q r s z = let u = z.0 in let v = z.1 in let w = z.2 in traffic_is (counted t n) (both t (both b a)) (omega (arith, p, u)) (omega (arith, q, v)) (omega (arith, r, w)) (omega (arith, s))

traffic_after : (o : Op) (c : client.State) (taken : List TakenCall) (step : ℕ) (acts : ClientStep) → (op_after o c taken step acts).traffic ≡ counted o.traffic acts.counts
traffic_after o c taken step acts = by acts.ended
  where
    by : (e : Option Ended) → (op_after o c taken step (record acts { ended = e })).traffic ≡ counted o.traffic acts.counts
    by None = refl
    by (Some e) = refl

-- one that ends in this step began before it
not_begun : {A : Type 0} (o : Op) (c : client.State) (taken : List TakenCall) (n : ℕ) (acts : ClientStep) → o.end ≡ None → o.begin ≤ n → (op_after o c taken (n + 1) acts).end ≡ Some (op_after o c taken (n + 1) acts).begin → A
not_begun {A = A} o c taken n acts none le is = by acts.ended is
  where
    by : (e : Option Ended) → (op_after o c taken (n + 1) (record acts { ended = e })).end ≡ Some (op_after o c taken (n + 1) (record acts { ended = e })).begin → A
    by None is = nothing_there o.begin (sym none ∙ is)
    by (Some e) is = let same = some_is (n + 1) o.begin is in absurd (omega (arith, le, same))

-- no peer's fault ends an operation
pub no_fault_after : (more : Book) (o : Op) (c : client.State) (taken : List TakenCall) (step : ℕ) (acts : ClientStep) → IsRight more (op_after o c taken step acts) → IsFault acts.ended → ⊥
no_fault_after more o c taken step acts right fault = by acts.ended right fault
  where
    told : (e : Ended) → (f : BadPeer) → e.outcome ≡ outcome.BadPeer f → Caused more (ended_op (record o { file = file_with o.file acts.found; traffic = counted o.traffic acts.counts }) c taken step e) (told_of e.outcome) → ⊥
    told e f q h = subst (λ (u : Outcome). Caused more (ended_op (record o { file = file_with o.file acts.found; traffic = counted o.traffic acts.counts }) c taken step e) (told_of u)) q h

    by : (e : Option Ended) → IsRight more (op_after o c taken step (record acts { ended = e })) → IsFault e → ⊥
    by None r f = f
    by (Some e) r f = told e f.0 f.1 r.cause

-- its client hears an answer
counts_hears : FitLaws → (book more : Book) (k : Core) (qs after : List Queue) (n now : ℕ) (bytes : List ℕ) (mid : List Queue) → IsKept book k qs → (h : Heard k qs n now bytes mid)
    → (let r = got_step h.seat.client (Ok (told_message h.told)) now in let t = acted k h.session.owner h.seat r.0 r.1 in IsKept more t.core after → (j : Job) (o : Op) → job h.seat ≡ Some j → slice_get k.ops j.place ≡ Some o → (log : List Deal) → o.traffic ≡ log_traffic log
    → (let new = op_after o r.0 (session_taken (session_of k.sessions h.seat.session)) (k.steps + 1) r.1 in (new.traffic ≡ log_traffic (log ++ deals_with (wanted_by h.seat.client (Ok (told_message h.told))) (given_by_message h.seat.client (Ok (told_message h.told))) r.1.send)) × (new.end ≡ Some new.begin → new.traffic ≡ no_traffic)))
counts_hears laws book more k qs after n now bytes mid kept h left j o is at log was =
    let actor = (acts_alone book k qs h.session.owner h.seat kept h.owner).own j.place o place at in (
      traffic_after o r.0 taken (k.steps + 1) r.1 ∙ counts_more o.traffic log (wanted_by h.seat.client (Ok (told_message h.told))) (given_by_message h.seat.client (Ok (told_message h.told))) r.1.send r.1.counts was (tallied (tally_got h.seat.client (Ok (told_message h.told)) now)),
      λ end. not_begun o r.0 taken k.steps r.1 actor.1 actor.2 end,
    )
  where
    r : client.State × ClientStep
    r = got_step h.seat.client (Ok (told_message h.told)) now

    taken : List TakenCall
    taken = session_taken (session_of k.sessions h.seat.session)

    place : h.seat.place ≡ Some j.place
    place = job_place h.seat.place h.seat.client.task j is

    tallied : Tallies (taken_sum (wanted_by h.seat.client (Ok (told_message h.told)))).«data» r → Tallied r.1.counts r.1.send (taken_sum (wanted_by h.seat.client (Ok (told_message h.told)))).«data»
    tallied (inl t) = t
    tallied (inr fault) =
        let there : slice_get (ops_with k.ops h.seat.place r.0 taken (k.steps + 1) r.1) j.place ≡ Some (op_after o r.0 taken (k.steps + 1) r.1) =
        ap (λ l. slice_get (ops_with k.ops l r.0 taken (k.steps + 1) r.1) j.place) place ∙ ap (λ q. slice_get (ops_after k.ops j.place q r.0 taken (k.steps + 1) r.1) j.place) at ∙ at_replaced k.ops j.place (op_after o r.0 taken (k.steps + 1) r.1) o at in
        absurd (no_fault_after more o r.0 taken (k.steps + 1) r.1 (left.sound.rights j.place (op_after o r.0 taken (k.steps + 1) r.1) (ap (λ (l : List Op). slice_get l j.place) left.ops ∙ there)) fault)

-- ---- any event

none_counted : (t : Traffic) → counted t no_counts ≡ t
none_counted t = traffic_is (counted t no_counts) t (omega arith) (omega arith) (omega arith) (omega arith)

count_laws : FitLaws → (all past rest : List Moment) (opening : List Opening) (k : Core) (qs mid after : List Queue) → IsKept (book_at opening k all) k qs → FactLaws Any CountsLog all past rest opening k qs mid after
count_laws fits all past rest opening k qs mid after kept = record {
  stays = λ e log p o st lt h. tt;
  ends_stay = λ e log p o lt h. h;
  changes = λ ops c log i seat j here is same h. tt;
  ends_change = λ ops c log h. h;
  begins = λ c now d seat here small free is u running task. tt;
  begun = λ c now d seat here small is right.
      (let r = command_step seat.client d now in
      let silent = silent_command seat.client d now small in
      let none = made_silent k c now d seat r.0 r.1 silent.1 r.1.ended in
      (none ∙ sym (log_sent r.1.send ∙ silent.0), λ end. none));
  hears = λ n now bytes w left j o is at was has. (let r = got_step w.seat.client (Ok (told_message w.told)) now in record { stage = λ u running task. tt; each = counts_hears fits book (book_at opening (acted k w.session.owner w.seat r.0 r.1).core all) k qs after n now bytes mid kept w left j o is at (deals_of o past) has.0 });
  lost = λ c seat here j o is at was has.
      (let gone : client.State = record seat.client { linked = false; task = None; forgotten = [] } in
      let taken = session_taken (session_of k.sessions seat.session) in
      let acts = ended_by (Some (record { file = j.file; stage = j.stage })) (record { outcome = outcome.Lost; rests_on = 0 }) in
      let actor = (acts_alone book k qs c seat kept here).own j.place o (job_place seat.place seat.client.task j is) at in
      (traffic_after o gone taken (k.steps + 1) acts ∙ none_counted o.traffic ∙ has.0, λ end. not_begun o gone taken k.steps acts actor.1 actor.2 end));
}
  where
    book : Book
    book = book_at opening k all

abbrev pub AllCounted : (all past : List Moment) → List Opening → Core → List Queue → Type 0
AllCounted all past opening k qs = CountedAt past k

pub carried_counts : FitLaws → Carried AllCounted
carried_counts fits = record {
  first = λ all opening tree count kept. record { by = tt; sent_by = tt; taken_by = tt; counts = λ p o at. nothing_there o at; silent = λ p o at. nothing_there o at };
  steps = λ all past rest opening k qs e mid after s h.
      let more : List Moment = past ++ moment k e ∷ [] in
      let by = past_event fits all past rest opening k qs e mid after s h.by in
      let f = facts_event fits Any CountsLog all past rest opening k qs e mid after s h.by (count_laws fits all past rest opening k qs mid after s.kept) (record { jobs = λ i seat j o here is at. tt; each = λ p o at. (h.counts p o at ∙ traffic_log o past, h.silent p o at) }) in
      record {
        by = by;
        sent_by = sent_past (happens k e).core.steps more by;
        taken_by = taken_past (happens k e).core.steps more by;
        counts = λ p o at. (f.each p o at).0 ∙ sym (traffic_log o more);
        silent = λ p o at. (f.each p o at).1;
      };
  adjusts = λ all past opening k qs index seats same h. record { by = h.by; sent_by = h.sent_by; taken_by = h.taken_by; counts = h.counts; silent = h.silent };
}
