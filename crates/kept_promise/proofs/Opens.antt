-- An open of a path was told that its file is open just where it was, when the open began.
use Rattle.std.proofs.Common.{inl, inr, ◌≡◌, ℕ, zero, suc, ◌<◌, List, [], ◌∷◌, ◌++◌, length, Option, Some, None, IsSome, Bool, true, false, refl, sym, ap, ◌∙◌, subst, arith, Result, take}
use Rattle.command_text.specs.declared.command.Command.TheVariants as command
use Rattle.command_text.specs.declared.path.PathCommand.{PathCommand}
use Rattle.command_text.specs.declared.path.PathCommand.TheVariants as path
use Rattle.path_calls.specs.declared.answers.Ended.TheVariants as walk_end
use Rattle.path_calls.specs.declared.answers.Ended.{Ended as WalkEnd}
use Rattle.path_calls.specs.declared.walk.Walk.{Walk}
use Rattle.path_calls.specs.Walk.{begun as walk_begun}
use Rattle.client_state.specs.Ending.{is_open, may_walk}
use Rattle.client_state.specs.State as client
use Rattle.client_state.specs.declared.step.Outcome.TheVariants as outcome
use Rattle.client_state.specs.declared.task.Stage.TheVariants as stage
use Rattle.open_close.specs.Walking.{outcome_of, walks, walks_if}
use Rattle.register_model.specs.declared.op.Outcome.{Outcome as Told}
use Rattle.register_model.specs.declared.op.Outcome.TheVariants as told
use Rattle.register_model.specs.declared.op.Word.{Word}
use Rattle.register_model.specs.declared.op.Word.TheVariants as words
use Rattle.trace_replay.specs.Faithful.{FindsOpen}
use Rattle.trace_ends.specs.Ops.{file_with}
use Rattle.kept_promise.proofs.Common.{word_of, slice_get, option_map, is_some, Body, Message, Pending, WireFault, Command, command_step, idle, took, got_step, ClientStep, Ended, Outcome, Local, Stage, Task, TakenCall, Op, Seat, numbered, with_numbered, place_with, place_after, op_after, op_ended, ops_with, counted, told_of, Deed, can_go, is_busy, after_one, local_from, local_before, own_answer}
use Rattle.kept_promise.proofs.Lists.{some_is, nothing_there, same_or_not, of_appended, within}
use Rattle.kept_promise.proofs.Messages.{Job, job, job_of}
use Rattle.kept_promise.proofs.Turns.{around_with}
use Rattle.kept_promise.proofs.JobFacts.{ops_shape}
use Rattle.kept_promise.proofs.Leaving.{EndsWith}
use Rattle.kept_promise.proofs.StepCases.{IsOfFile, Cases, took_cases, walk_cases, command_cases, got_cases}
use Rattle.wire.specs.declared.message.Message.TheVariants as message
use Rattle.wire.specs.declared.message.Body.TheVariants as body
use Rattle.hash_calls.specs.declared.message.Back.TheVariants as back
use Rattle.client_state.specs.Noting.{at as clocked}
use Rattle.client_state.specs.Counting.{sends_one}
use Rattle.open_close.specs.Step.{recalls}
use Rattle.kept_promise.proofs.Locally.{Idles, local_idle}
use Rattle.kept_promise.proofs.Deeds.{also_there, IsOnNames, Came, IsDeed, local_of, HasDeeds, Moved, AllMoved, local_before_same, before_more, busy_behind}
use Rattle.kept_promise.proofs.Ways.{job_parts, InDeeds}
use Rattle.kept_promise.proofs.WalkLeaves.{IsNeither}
use Rattle.trace_ends.specs.Commands.{path_word}
use Rattle.command_text.specs.declared.path.Spot.{Spot}

-- ---- what is said

-- what an outcome tells of the local content, of an operation with this word
abbrev pub FindsFor : Word → Told → Option (List ℕ) → Type 0
FindsFor w told.AlreadyOpen l = IsSome l
FindsFor w (told.Opened len digest) l = l ≡ None
FindsFor words.Rewrite told.Done l = l ≡ None
FindsFor w u l = Unit {0}

abbrev pub FindsBy : Command → Told → Option (List ℕ) → Type 0
FindsBy (command.Named k) u l = FindsFor (path_word k) u l
FindsBy d u l = Unit {0}

-- so it is in the promise
found_so : (s : Spot) (u : Told) (l : Option (List ℕ)) → FindsFor words.Open u l → FindsOpen (path.Find s) u l
found_so s told.AlreadyOpen l h = h
found_so s (told.Opened len digest) l h = h
found_so s u l h = tt

renewed_so : (s : Spot) (u : Told) (l : Option (List ℕ)) → FindsFor words.Rewrite u l → FindsOpen (path.Rewrite s) u l
renewed_so s told.AlreadyOpen l h = h
renewed_so s told.Done l h = h
renewed_so s u l h = tt

pub finds_so : (k : PathCommand) (u : Told) (l : Option (List ℕ)) → FindsFor (path_word k) u l → FindsOpen k u l
finds_so (path.Find s) u l h = found_so s u l h
finds_so (path.Rewrite s) u l h = renewed_so s u l h
finds_so k u l h = tt

abbrev pub HasOpens : List Deed → List Op → Type 0
HasOpens ds ops = (i : ℕ) (d : Deed) (o : Op) → slice_get ds i ≡ Some d → slice_get ops i ≡ Some o → FindsBy d.command o.outcome (local_before ds ops i d.client o.file)

-- a file that a path led to, and which is fetched, isn't open
abbrev pub HasShut : List Deed → List Seat → Type 0
HasShut ds seats = (c : ℕ) (seat : Seat) (j : Job) (d : Deed) → numbered seats c ≡ Some seat → job seat ≡ Some j → slice_get ds j.place ≡ Some d → IsOnNames d.command → IsOfFile j.stage → local_of seat.client j.file ≡ None

-- ---- by the outcome

finds_running : (d : Command) (l : Option (List ℕ)) → FindsBy d told.Running l
finds_running (command.Named k) l = tt
finds_running _ l = tt

finds_busy : (d : Command) (l : Option (List ℕ)) → FindsBy d told.Busy l
finds_busy (command.Named k) l = tt
finds_busy _ l = tt

-- only one on names says anything
pub finds_by : (d : Command) (u : Told) (l : Option (List ℕ)) → (IsOnNames d → FindsFor (word_of d) u l) → FindsBy d u l
finds_by (command.Named k) u l h = h tt
finds_by _ u l h = tt

-- the end of a fetch of a file that wasn't open
pub fetched_finds : (what w : Word) (u : Outcome) (opened after : List (ℕ × Local)) (file : ℕ) (l : Option (List ℕ)) → EndsWith what opened after file u → l ≡ None → FindsFor w (told_of u) l
fetched_finds what w (outcome.Opened g len digest) opened after file l h none = none
fetched_finds what w outcome.AlreadyOpen opened after file l h none = absurd h
fetched_finds what w outcome.Done opened after file l h none = by w
  where
    by : (w : Word) → FindsFor w told.Done l
    by words.Rewrite = none
    by w = tt
fetched_finds what w _ opened after file l h none = tt

-- the end of a walk
pub walked_finds : (w : Word) (u : Outcome) (l : Option (List ℕ)) → IsNeither w u → (u ≡ outcome.AlreadyOpen → IsSome l) → FindsFor w (told_of u) l
walked_finds w (outcome.Opened g len digest) l h some = absurd h
walked_finds w outcome.AlreadyOpen l h some = some refl
walked_finds w outcome.Done l h some = by w h
  where
    by : (w : Word) → (w ≡ words.Rewrite → ⊥) → FindsFor w told.Done l
    by words.Rewrite apart = absurd (apart refl)
    by w apart = tt
walked_finds w _ l h some = tt

-- ---- the local contents when an operation that goes on began

local_until : (c f : ℕ) (l : Option (List ℕ)) (ds : List Deed) (os : List Op) (p : ℕ) (d : Deed) (o : Op) → slice_get ds p ≡ Some d → slice_get os p ≡ Some o → Idles c f d o → ((i : ℕ) (e : Deed) (q : Op) → p < i → slice_get ds i ≡ Some e → slice_get os i ≡ Some q → Idles c f e q)
    → local_from c f l (take p ds) (take p os) ≡ local_from c f l ds os
local_until c f l [] os p d o at is idle later = nothing_there d at
local_until c f l (e ∷ ds) [] p d o at is idle later = nothing_there o is
local_until c f l (e ∷ ds) (q ∷ os) zero d o at is idle later = sym (local_idle c f l (e ∷ ds) (q ∷ os) all)
  where
    all : (i : ℕ) (x : Deed) (y : Op) → slice_get (e ∷ ds) i ≡ Some x → slice_get (q ∷ os) i ≡ Some y → Idles c f x y
    all zero x y a b = subst (λ (z : Deed). Idles c f z y) (sym (some_is e d at) ∙ some_is e x a) (subst (Idles c f d) (sym (some_is q o is) ∙ some_is q y b) idle)
    all (suc i) x y a b = later (suc i) x y (omega arith) a b
local_until c f l (e ∷ ds) (q ∷ os) (suc p) d o at is idle later = local_until c f (after_one c f e q l) ds os p d o at is idle (λ i z w lt a b. later (suc i) z w (omega (arith, lt)) a b)

-- ---- operations go on

-- what each is to show that may have ended
abbrev pub AreOpen : List Deed → List Op → List Op → Type 0
AreOpen ds ops rs = (i : ℕ) (d : Deed) (r : Op) → slice_get ds i ≡ Some d → slice_get rs i ≡ Some r → FindsBy d.command r.outcome (local_before ds ops i d.client r.file)

pub opens_moved : (step : ℕ) (ds : List Deed) (ops rs : List Op) (seats : List Seat) → HasDeeds ds ops seats → AllMoved step ops rs → AreOpen ds ops rs → HasOpens ds rs
opens_moved step ds ops rs seats h moved fresh i d r at is =
    let w = also_there rs ops i r (sym moved.count) is in
    by w.0 w.1 (moved.each i w.0 r w.1 is) (h.each i d w.0 at w.1) (is_busy ops w.0) refl (h.each i d w.0 at w.1).came
  where
    by : (o : Op) → slice_get ops i ≡ Some o → Moved step o r → IsDeed ds ops i d o → (b : Bool) → is_busy ops o ≡ b
        → Came d o (local_before ds ops i d.client (Rattle.trace_ends.specs.Commands.file_of d.command)) (own_answer (is_busy ops o) (can_go d) d.command (local_before ds ops i d.client (Rattle.trace_ends.specs.Commands.file_of d.command)))
        → FindsBy d.command r.outcome (local_before ds rs i d.client r.file)
    by o there m deed false e came = subst (λ (l : Option (List ℕ)). FindsBy d.command r.outcome l) (sym (local_before_same step ds ops rs i d o r.file h.rising h.each moved at there e)) (fresh i d r at is)
    by o there m deed true e came =
        let busy : Came d o (local_before ds ops i d.client (Rattle.trace_ends.specs.Commands.file_of d.command)) (Some told.Busy) = subst (λ (b : Bool). Came d o (local_before ds ops i d.client (Rattle.trace_ends.specs.Commands.file_of d.command)) (own_answer b (can_go d) d.command (local_before ds ops i d.client (Rattle.trace_ends.specs.Commands.file_of d.command)))) e came in
        let same : r.outcome ≡ told.Busy = (m.ended o.begin busy.1).1 ∙ busy.0 in
        subst (λ (u : Told). FindsBy d.command u (local_before ds rs i d.client r.file)) (sym same) (finds_busy d.command (local_before ds rs i d.client r.file))

pub opens_added : (ds : List Deed) (ops : List Op) (d : Deed) (new : Op) → length ops ≡ length ds → HasOpens ds ops → ((l : Option (List ℕ)) → FindsBy d.command new.outcome l) → HasOpens (ds ++ d ∷ []) (ops ++ new ∷ [])
opens_added ds ops d new count h fresh i e o at is = elim (of_appended ops new i o is) [
  | inl last ↦ elim (of_appended ds d i e at) [
    | inr old ↦ let x = within ds i e old in let y = last.0 in absurd (omega (arith, x, y, count))
    | inl both ↦ subst (λ (z : Op). FindsBy e.command z.outcome (local_before (ds ++ d ∷ []) (ops ++ new ∷ []) i e.client o.file)) (sym last.1) (subst (λ (z : Deed). FindsBy z.command new.outcome (local_before (ds ++ d ∷ []) (ops ++ new ∷ []) i e.client o.file)) (sym both.1) (fresh (local_before (ds ++ d ∷ []) (ops ++ new ∷ []) i e.client o.file)))
  ]
  | inr old ↦ elim (of_appended ds d i e at) [
    | inl last ↦ let x = within ops i o old in let y = last.0 in absurd (omega (arith, x, y, count))
    | inr there ↦ let lt = within ops i o old in subst (λ (l : Option (List ℕ)). FindsBy e.command o.outcome l) (sym (before_more ds ops d new i e.client o.file count (omega (arith, lt)))) (h i e o there old)
  ]
]

-- ---- a step of a client

-- the operation at a place, which goes on, ends so
pub record EndsOpen (ds : List Deed) (ops : List Op) (c p : ℕ) (s : client.State) (acts : ClientStep) : Type 0 where
  pub op : Op
  pub there : slice_get ops p ≡ Some op
  pub client : op.client ≡ c
  pub under : op.end ≡ None
  pub running : op.outcome ≡ told.Running
  pub finds : (d : Deed) (e : Ended) → slice_get ds p ≡ Some d → acts.ended ≡ Some e → IsOnNames d.command → FindsFor (word_of d.command) (told_of e.outcome) (local_of s (file_with op.file acts.found))

pub opens_acted : (ds : List Deed) (ops : List Op) (seats : List Seat) (place : Option ℕ) (c : ℕ) (seat : Seat) (t : client.State) (taken : List TakenCall) (step : ℕ) (acts : ClientStep) → HasDeeds ds ops seats → HasOpens ds ops → numbered seats c ≡ Some seat → AllMoved step ops (ops_with ops place t taken step acts)
    → ((p : ℕ) → place ≡ Some p → EndsOpen ds ops c p seat.client acts) → HasOpens ds (ops_with ops place t taken step acts)
opens_acted ds ops seats place c seat t taken step acts h opens here moved ends = opens_moved step ds ops (ops_with ops place t taken step acts) seats h moved fresh
  where
    fresh : AreOpen ds ops (ops_with ops place t taken step acts)
    fresh i d r at is = elim (ops_shape ops place t taken step acts i r is) [
      | inr old ↦ opens i d r at old.1
      | inl new ↦
          let w = ends i new.1 in
          let same : w.op ≡ new.0 = some_is w.op new.0 (sym w.there ∙ new.2) in
          subst (λ (z : Op). FindsBy d.command z.outcome (local_before ds ops i d.client z.file)) (sym (new.3 ∙ ap (λ (z : Op). op_after z t taken step acts) (sym same))) (by w acts.ended refl)
    ]
      where
        by : (w : EndsOpen ds ops c i seat.client acts) (o : Option Ended) → acts.ended ≡ o → FindsBy d.command (op_after w.op t taken step acts).outcome (local_before ds ops i d.client (op_after w.op t taken step acts).file)
        by w None none =
            let q : Op = record w.op { file = file_with w.op.file acts.found; traffic = counted w.op.traffic acts.counts } in
            subst (λ (z : Op). FindsBy d.command z.outcome (local_before ds ops i d.client z.file)) (sym (ap (λ (z : Option Ended). op_ended q t taken step z) none))
            (subst (λ (u : Told). FindsBy d.command u (local_before ds ops i d.client q.file)) (sym w.running) (finds_running d.command (local_before ds ops i d.client q.file)))
        by w (Some e) some =
            let q : Op = record w.op { file = file_with w.op.file acts.found; traffic = counted w.op.traffic acts.counts } in
            let deed = h.each i d w.op at w.there in
            let of : d.client ≡ c = sym deed.client ∙ w.client in
            let before : local_of seat.client q.file ≡ local_before ds ops i d.client q.file =
            h.locals c seat here q.file
            ∙ sym (local_until c q.file None ds ops i d w.op at w.there (Rattle.kept_promise.proofs.Locally.idles_by c q.file d w.op (λ l. Rattle.kept_promise.proofs.Locally.leaves_none d.command w.op.outcome w.op.value l (inl w.running))) (λ n e z lt a b. subst (λ (y : ℕ). Idles y q.file e z) w.client (busy_behind ds ops i w.op q.file h.rising h.each w.there w.under n e z lt a b)))
            ∙ ap (λ (y : ℕ). local_before ds ops i y q.file) (sym of) in
            subst (λ (z : Op). FindsBy d.command z.outcome (local_before ds ops i d.client z.file)) (sym (ap (λ (z : Option Ended). op_ended q t taken step z) some))
            (finds_by d.command (told_of e.outcome) (local_before ds ops i d.client q.file) (λ names. subst (FindsFor (word_of d.command) (told_of e.outcome)) before (w.finds d e at some names)))

-- ---- a walk leads to a file

pub open_bytes : (opened : List (ℕ × Local)) (f : ℕ) → is_open opened f ≡ true → IsSome (option_map (λ (l : Local). l.bytes) (client.local_at opened f))
open_bytes opened f = by (client.local_at opened f)
  where
    by : (o : Option Local) → is_some o ≡ true → IsSome (option_map (λ (l : Local). l.bytes) o)
    by (Some l) e = refl
    by None e = absurd cc

pub shut_bytes : (opened : List (ℕ × Local)) (f : ℕ) → is_open opened f ≡ false → option_map (λ (l : Local). l.bytes) (client.local_at opened f) ≡ None
shut_bytes opened f = by (client.local_at opened f)
  where
    by : (o : Option Local) → is_some o ≡ false → option_map (λ (l : Local). l.bytes) o ≡ None
    by None e = refl
    by (Some l) e = absurd cc

-- what a step of a walk shows
pub record Leads (s : client.State) (r : client.State × ClientStep) : Type 0 where
  pub shut : (u : Task) → r.0.task ≡ Some u → IsOfFile u.stage → is_open s.opened u.file ≡ false
  pub open_ : (e : Ended) → r.1.ended ≡ Some e → e.outcome ≡ outcome.AlreadyOpen → (id : ℕ) × (r.1.found ≡ Some id) × (is_open s.opened id ≡ true)

not_already : (e x : Ended) → ◌≡◌ {A = Option Ended} (Some x) (Some e) → (x.outcome ≡ outcome.AlreadyOpen → ⊥) → e.outcome ≡ outcome.AlreadyOpen → ⊥
not_already e x is apart at = apart (ap (λ (z : Ended). z.outcome) (some_is x e is) ∙ at)

-- it ended, and not so
over : (s : client.State) (r : client.State × ClientStep) (x : Ended) → r.0.task ≡ None → r.1.ended ≡ Some x → (x.outcome ≡ outcome.AlreadyOpen → ⊥) → Leads s r
over s r x none is apart = record { shut = λ u at known. nothing_there u (sym none ∙ at); open_ = λ e at already. absurd (not_already e x (sym is ∙ at) apart already) }

-- it walks on
on : (s : client.State) (r : client.State × ClientStep) (t : Task) (y : ℕ) (w : Walk) → r.0.task ≡ Some t → t.stage ≡ stage.Walking y w → r.1.ended ≡ None → Leads s r
on s r t y w at walks none = record {
  shut = λ u is known. absurd (subst IsOfFile walks (subst (λ (z : Task). IsOfFile z.stage) (sym (some_is t u (sym at ∙ is))) known));
  open_ = λ e ended already. nothing_there e (sym none ∙ ended);
}

-- or fetches
fetching : (s : client.State) (r : client.State × ClientStep) (t : Task) → r.0.task ≡ Some t → is_open s.opened t.file ≡ false → r.1.ended ≡ None → Leads s r
fetching s r t at shut none = record {
  shut = λ u is known. subst (λ (z : Task). is_open s.opened z.file ≡ false) (some_is t u (sym at ∙ is)) shut;
  open_ = λ e ended already. nothing_there e (sym none ∙ ended);
}

end_not : (e : WalkEnd) → outcome_of e ≡ outcome.AlreadyOpen → ⊥
end_not walk_end.Done e = absurd cc
end_not _ e = absurd cc

bad_not : (f : Rattle.client_state.specs.declared.step.BadPeer.BadPeer) → outcome.BadPeer f ≡ outcome.AlreadyOpen → ⊥
bad_not f e = absurd cc

opened_not : (file len : ℕ) (digest : List ℕ) → outcome.Opened file len digest ≡ outcome.AlreadyOpen → ⊥
opened_not file len digest e = absurd cc

done_not : outcome.Done ≡ outcome.AlreadyOpen → ⊥
done_not e = absurd cc

memory_not : outcome.PeerMemory ≡ outcome.AlreadyOpen → ⊥
memory_not e = absurd cc

took_leads : (s : client.State) (calls : List Pending) (file y : ℕ) (w : Walk) (xid : ℕ) (b : Body) → Leads s (took s calls file (stage.Walking y w) xid b)
took_leads s calls file y w xid b = walk_cases (Leads s) s calls file y w xid b (record {
  fault = λ f untold. over s _ _ refl refl (bad_not f);
  asks = λ v is. on s _ _ _ _ refl refl refl;
  open_already = λ id is o. record { shut = λ u at known. nothing_there u at; open_ = λ e at already. (id, refl, o) };
  fetches = λ id is shut e. fetching s _ _ refl shut refl;
  leases = λ id c is shut e. fetching s _ _ refl shut refl;
  opens_now = λ id c is shut e. over s _ _ refl refl (opened_not id (Rattle.std.proofs.Common.length c.bytes) _);
  empties_now = λ id c is shut e. over s _ _ refl refl done_not;
  renew_already = λ id is o. record { shut = λ u at known. nothing_there u at; open_ = λ e at already. (id, refl, o) };
  renews = λ id is shut. fetching s _ _ refl shut refl;
  ends = λ v e is same. over s _ _ refl refl (end_not e);
})

pub walk_leads : (s : client.State) (m : Result Message WireFault) (now : ℕ) (t : Task) (y : ℕ) (w : Walk) → s.task ≡ Some t → t.stage ≡ stage.Walking y w → Leads s (got_step s m now)
walk_leads s m now t y w at is = got_cases (Leads s) s m now (record {
  took = λ u same xid b.
      let h = took_leads (idle (clocked s now)) (client.calls_of s) t.file y w xid b in
      subst (λ (z : Task). Leads s (took (idle (clocked s now)) (client.calls_of s) z.file z.stage xid b)) (some_is t u (sym at ∙ same)) (subst (λ (st : Stage). Leads s (took (idle (clocked s now)) (client.calls_of s) t.file st xid b)) (sym is) (record { shut = h.shut; open_ = h.open_ }));
  memory = λ u same xid. over s _ _ refl refl memory_not;
  bad = λ u same f. over s _ _ refl refl (bad_not f);
  off = λ none. nothing_there t (sym none ∙ at);
  forgot = λ xid. on s _ t y w at is refl;
  recalled = λ xid o. back_by o xid;
  greeted = λ xid. on s _ t y w at is refl;
  unfit = λ xid r. on s _ t y w at is refl;
  call = on s _ t y w at is refl;
})
  where
    back_by : (o : Option ℕ) (xid : ℕ) → Leads s (recalls (clocked s now) o, sends_one (message.Answer xid (body.Back back.RecallAnswer)) 0)
    back_by None xid = on s _ t y w at is refl
    back_by (Some f) xid = on s _ t y w at is refl

-- ---- a fetch goes on as one of its file

abbrev KeepsFile : ℕ → client.State × ClientStep → Type 0
KeepsFile file r = (u : Task) → r.0.task ≡ Some u → u.file ≡ file

of_file : (file : ℕ) (t u : Task) → ◌≡◌ {A = Option Task} (Some t) (Some u) → t.file ≡ file → u.file ≡ file
of_file file t u e h = subst (λ (z : Task). z.file ≡ file) (some_is t u e) h

file_cases : (s : client.State) (calls : List Pending) (file : ℕ) (st : Stage) (x : ℕ) (b : Body) → Cases (λ found r. KeepsFile file r) s calls file st x b
file_cases s calls file st x b = record {
  ends = λ r e unchanged came. λ u at. nothing_there u (sym e.task ∙ at);
  uses = λ y l bytes at is kept. λ u e. nothing_there u e;
  fetches = λ y l at is. λ u e. of_file file _ u e refl;
  anew = λ f version bytes open_ gave few came. λ u e. of_file file _ u e refl;
  changed = λ r f version e open_ gave last is. λ u at. nothing_there u (sym e.task ∙ at);
  lists = λ f g is at same far. λ u e. of_file file _ u e refl;
  reads = λ f bytes now here. λ u e. of_file file _ u e refl;
  opens = λ f bytes now here. λ u e. nothing_there u e;
  names = λ w at known none e. λ u is. of_file file _ u is refl;
  commits = λ w at known none e. λ u is. of_file file _ u is refl;
  whole = λ old c k at unknown none found name chunk. λ u e. of_file file _ u e refl;
}

pub keeps_file : (s : client.State) (m : Result Message WireFault) (now : ℕ) (t : Task) → s.task ≡ Some t → IsOfFile t.stage → KeepsFile t.file (got_step s m now)
keeps_file s m now t at known = got_cases (KeepsFile t.file) s m now (record {
  took = λ u is xid b. subst (λ (z : Task). KeepsFile t.file (took (idle (clocked s now)) (client.calls_of s) z.file z.stage xid b)) (some_is t u (sym at ∙ is)) (took_cases (λ found r. KeepsFile t.file r) (idle (clocked s now)) (client.calls_of s) t.file t.stage xid b known (λ found r g until lease is h. h) (file_cases (idle (clocked s now)) (client.calls_of s) t.file t.stage xid b));
  memory = λ u is xid v e. nothing_there v e;
  bad = λ u is f v e. nothing_there v e;
  off = λ none. same;
  forgot = λ xid. same;
  recalled = λ xid o. back_by o;
  greeted = λ xid. same;
  unfit = λ xid r. same;
  call = same;
})
  where
    same : (u : Task) → s.task ≡ Some u → u.file ≡ t.file
    same u e = sym (ap (λ (z : Task). z.file) (some_is t u (sym at ∙ e)))

    back_by : (o : Option ℕ) (u : Task) → (recalls (clocked s now) o).task ≡ Some u → u.file ≡ t.file
    back_by None = same
    back_by (Some f) = same

-- ---- jobs

-- behind an answer
pub shut_acted : (ds : List Deed) (seats : List Seat) (c : ℕ) (seat : Seat) (s : client.State) (acts : ClientStep) → HasShut ds seats → numbered seats c ≡ Some seat
    → ((j : Job) (d : Deed) → (seat.place ≡ Some j.place) → acts.ended ≡ None → s.task ≡ Some (record { file = j.file; stage = j.stage }) → slice_get ds j.place ≡ Some d → IsOnNames d.command → IsOfFile j.stage → local_of s j.file ≡ None)
    → HasShut ds (with_numbered seats c (record seat { client = s; place = place_after seat.place acts.ended }))
shut_acted ds seats c seat s acts h here goes z x j e at is there names known = elim (same_or_not z c) [
  | inr apart ↦ h z x j e (sym (around.others z apart) ∙ at) is there names known
  | inl mine ↦
      let x_is : x ≡ then = some_is x then (sym at ∙ ap (numbered (with_numbered seats c then)) mine ∙ around.there) in
      ap (λ (y : Seat). local_of y.client j.file) x_is ∙ own acts.ended refl (ap job (sym x_is) ∙ is)
]
  where
    then : Seat
    then = record seat { client = s; place = place_after seat.place acts.ended }

    around : Rattle.kept_promise.proofs.Turns.Around seats (with_numbered seats c then) c then
    around = around_with seats c seat then here

    own : (o : Option Ended) → acts.ended ≡ o → job_of (place_after seat.place acts.ended) s.task ≡ Some j → local_of s j.file ≡ None
    own (Some q) ended is = let p = job_parts None s.task j (ap (λ (m : Option ℕ). job_of m s.task) (sym (ap (place_after seat.place) ended)) ∙ is) in nothing_there j.place p.0
    own None ended is = let p = job_parts seat.place s.task j (ap (λ (m : Option ℕ). job_of m s.task) (sym (ap (place_after seat.place) ended)) ∙ is) in goes j e p.0 ended p.1 there names known

-- what a command shows
pub record Begins (s : client.State) (d : Command) (r : client.State × ClientStep) : Type 0 where
  pub busy : (t : Task) → s.task ≡ Some t → (r.0.opened ≡ s.opened) × (r.0.task ≡ s.task)
  pub walks : (u : Task) → s.task ≡ None → r.0.task ≡ Some u → IsOnNames d → IsOfFile u.stage → ⊥

pub command_begins : (s : client.State) (d : Command) (now : ℕ) → Begins s d (command_step s d now)
command_begins s d now = command_cases (Begins s d) s d now (record {
  busy = λ t e. record { busy = λ x at. (refl, refl); walks = λ u free at names known. nothing_there t (sym free ∙ e) };
  answers = λ free opened o plain. record { busy = λ x at. nothing_there x (sym free ∙ at); walks = λ u none at names known. nothing_there u (sym free ∙ at) };
  fetches = λ file is free may. record { busy = λ x at. nothing_there x (sym free ∙ at); walks = λ u none at names known. absurd (subst IsOnNames is names) };
  asks = λ file c is free may has. record { busy = λ x at. nothing_there x (sym free ∙ at); walks = λ u none at names known. absurd (subst IsOnNames is names) };
  renews = λ file is free may. record { busy = λ x at. nothing_there x (sym free ∙ at); walks = λ u none at names known. absurd (subst IsOnNames is names) };
  opens_now = λ file c is free shut fresh. record { busy = λ x at. nothing_there x (sym free ∙ at); walks = λ u none at names known. absurd (subst IsOnNames is names) };
  empties_now = λ file c is free shut fresh. record { busy = λ x at. nothing_there x (sym free ∙ at); walks = λ u none at names known. absurd (subst IsOnNames is names) };
  walks = λ c is free may. record { busy = λ x at. nothing_there x (sym free ∙ at); walks = λ u none at names known. subst (λ (z : Task). IsOfFile z.stage → ⊥) (some_is _ u at) (λ h. h) known };
  closes = λ file l is free may has. record { busy = λ x at. nothing_there x (sym free ∙ at); walks = λ u none at names known. absurd (subst IsOnNames is names) };
})

old_shut : (ds : List Deed) (seats : List Seat) (d : Deed) → HasShut ds seats → InDeeds ds seats → (c : ℕ) (seat : Seat) (j : Job) (e : Deed) → numbered seats c ≡ Some seat → job seat ≡ Some j → slice_get (ds ++ d ∷ []) j.place ≡ Some e → IsOnNames e.command → IsOfFile j.stage → local_of seat.client j.file ≡ None
old_shut ds seats d h inside c seat j e at is there names known = elim (of_appended ds d j.place e there) [
  | inl last ↦ let lt = inside c seat j at is in let n = last.0 in absurd (omega (arith, lt, n))
  | inr old ↦ h c seat j e at is old names known
]

-- behind a command
pub shut_added : (ds : List Deed) (seats : List Seat) (c n : ℕ) (seat : Seat) (d : Deed) (r : client.State × ClientStep) → HasShut ds seats → InDeeds ds seats → numbered seats c ≡ Some seat → n ≡ length ds → ((p : ℕ) → seat.place ≡ Some p → (t : Task) × (seat.client.task ≡ Some t)) → (seat.place ≡ None → seat.client.task ≡ None) → Begins seat.client d.command r
    → HasShut (ds ++ d ∷ []) (with_numbered seats c (record seat { client = r.0; place = place_with seat.place n r.1.ended }))
shut_added ds seats c n seat d r h inside here count occupied free begins z x j e at is there names known = elim (same_or_not z c) [
  | inr apart ↦ old_shut ds seats d h inside z x j e (sym (around.others z apart) ∙ at) is there names known
  | inl mine ↦
      let x_is : x ≡ then = some_is x then (sym at ∙ ap (numbered (with_numbered seats c then)) mine ∙ around.there) in
      ap (λ (y : Seat). local_of y.client j.file) x_is ∙ own seat.place refl (ap job (sym x_is) ∙ is)
]
  where
    then : Seat
    then = record seat { client = r.0; place = place_with seat.place n r.1.ended }

    around : Rattle.kept_promise.proofs.Turns.Around seats (with_numbered seats c then) c then
    around = around_with seats c seat then here

    own : (l : Option ℕ) → seat.place ≡ l → job_of (place_with seat.place n r.1.ended) r.0.task ≡ Some j → local_of r.0 j.file ≡ None
    own (Some p) place is =
        let t = occupied p place in
        let same = begins.busy t.0 t.1 in
        ap (λ (o : List (ℕ × Local)). option_map (λ (l : Local). l.bytes) (client.local_at o j.file)) same.0
        ∙ old_shut ds seats d h inside c seat j e here (ap (λ (l : Option ℕ). job_of l seat.client.task) place ∙ ap (job_of (Some p)) (sym same.1) ∙ ap (λ (l : Option ℕ). job_of l r.0.task) (sym (ap (λ (m : Option ℕ). place_with m n r.1.ended) place)) ∙ is) there names known
    own None place is =
        let q = job_parts (place_with seat.place n r.1.ended) r.0.task j is in
        let at : j.place ≡ n = by r.1.ended (sym (ap (λ (m : Option ℕ). place_with m n r.1.ended) place) ∙ q.0) in
        elim (of_appended ds d j.place e there) [
          | inr old ↦ let lt = within ds j.place e old in absurd (omega (arith, lt, at, count))
          | inl last ↦ absurd (begins.walks (record { file = j.file; stage = j.stage }) (free place) q.1 (subst (λ (y : Deed). IsOnNames y.command) last.1 names) known)
        ]
      where
        by : (o : Option Ended) → place_with None n o ≡ Some j.place → j.place ≡ n
        by None e = sym (some_is n j.place e)
        by (Some x) e = nothing_there j.place e

-- ---- a new operation

named_ends : (s : client.State) (k : PathCommand) (now : ℕ) (e : Ended) (l : Option (List ℕ)) → (command_step s (command.Named k) now).1.ended ≡ Some e → FindsFor (path_word k) (told_of e.outcome) l
named_ends s k now e l is = by s.task (may_walk (clocked s now) (walk_begun k)) is
  where
    found : (x : Ended) → ◌≡◌ {A = Option Ended} (Some x) (Some e) → FindsFor (path_word k) (told_of x.outcome) l → FindsFor (path_word k) (told_of e.outcome) l
    found x at h = subst (λ (z : Ended). FindsFor (path_word k) (told_of z.outcome) l) (some_is x e at) h

    walked : (b : Bool) → (walks_if (clocked s now) (walk_begun k) b).1.ended ≡ Some e → FindsFor (path_word k) (told_of e.outcome) l
    walked true at = nothing_there e at
    walked false at = found _ at tt

    by : (t : Option Task) (b : Bool) → (walks (clocked s now) k t).1.ended ≡ Some e → FindsFor (path_word k) (told_of e.outcome) l
    by (Some t) b at = found _ at tt
    by None b at = walked (may_walk (clocked s now) (walk_begun k)) at

pub new_opens : (s : client.State) (d : Command) (now : ℕ) (o : Op) (taken : List TakenCall) (step : ℕ) → o.outcome ≡ told.Running → (t : client.State) → (l : Option (List ℕ)) → FindsBy d (op_after o t taken step (command_step s d now).1).outcome l
new_opens s d now o taken step running t l = finds_by d (op_after o t taken step (command_step s d now).1).outcome l (by d)
  where
    ended : (d : Command) (x : Option Ended) → (command_step s d now).1.ended ≡ x → ((e : Ended) → x ≡ Some e → FindsFor (word_of d) (told_of e.outcome) l) → FindsFor (word_of d) (op_after o t taken step (command_step s d now).1).outcome l
    ended d None is h = subst (λ (z : Told). FindsFor (word_of d) z l) (sym (ap (λ (y : Option Ended). (op_ended (record o { file = file_with o.file (command_step s d now).1.found; traffic = counted o.traffic (command_step s d now).1.counts }) t taken step y).outcome) is ∙ running)) tt
    ended d (Some e) is h = subst (λ (z : Told). FindsFor (word_of d) z l) (sym (ap (λ (y : Option Ended). (op_ended (record o { file = file_with o.file (command_step s d now).1.found; traffic = counted o.traffic (command_step s d now).1.counts }) t taken step y).outcome) is)) (h e refl)

    by : (d : Command) → IsOnNames d → FindsFor (word_of d) (op_after o t taken step (command_step s d now).1).outcome l
    by (command.Named k) names = ended (command.Named k) (command_step s (command.Named k) now).1.ended refl (λ e is. named_ends s k now e l is)
    by _ names = absurd names
