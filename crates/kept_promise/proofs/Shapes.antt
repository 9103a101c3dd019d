-- Whose version an attempt has, and an open that ended: what is true of the version and of the first call of an attempt stays so.
use Rattle.std.proofs.Common.{◌⊎◌, inl, inr, ◌≡◌, ℕ, ◌-◌, List, [], length, Option, Some, None, Bool, true, false, refl, sym, ◌∙◌, subst}
use Rattle.hash_calls.specs.declared.message.Lb.TheVariants as lb
use Rattle.nfs3_calls.specs.declared.message.Nfs.TheVariants as nfs
use Rattle.wire.specs.declared.message.Body.TheVariants as body
use Rattle.wire.specs.declared.message.Message.TheVariants as message
use Rattle.client_state.specs.Noting.{at as at_clock}
use Rattle.client_state.specs.declared.step.Outcome.TheVariants as outcome
use Rattle.client_state.specs.declared.task.Stage.TheVariants as stage
use Rattle.kept_promise.proofs.Common.{◌==◌, Chunk, Command, Done, Hashes, Body, Pending, reads_chunk, reads_from, State, pending, calls_of, has_call, command_step, idle, took, drops, took_if, got_message, Reads, ClientStep, Ended, Outcome, Fetch, Stage, Task}
use Rattle.kept_promise.proofs.Lists.{nothing_there}
use Rattle.path_calls.specs.declared.answers.Ended.{Ended as WalkEnd}
use Rattle.path_calls.specs.declared.answers.Ended.TheVariants as walk_end
use Rattle.open_close.specs.Walking.{outcome_of}
use Rattle.kept_promise.proofs.StepCases.{reads_keep, IsOpenedBy, JustEnds, FetchIn, FetchNow, FetchNow.all_told, FetchNow.one_came, reads_of, took_cases, IsPlain, command_cases, walk_cases}

-- ---- what is true of an attempt

abbrev pub StageGood : (ℕ → ℕ → Type 0) → (ℕ → Type 0) → Stage → Type 0
StageGood Q R (stage.Asking x) = R x
StageGood Q R (stage.Hashing tries x) = R x
StageGood Q R (stage.Listing x f) = Q f.version f.first
StageGood Q R (stage.Reading f) = Q f.version f.first
StageGood Q R st = Unit {0}

abbrev pub TaskGood : (ℕ → ℕ → Type 0) → (ℕ → Type 0) → Option Task → Type 0
TaskGood Q R None = Unit {0}
TaskGood Q R (Some t) = StageGood Q R t.stage

-- an open that ended got its content in an attempt of which it is true, or at once
abbrev pub OutcomeGood : (ℕ → ℕ → Type 0) → Outcome → (xid : ℕ) → Type 0
OutcomeGood Q (outcome.Opened file len digest) x = (x ≡ 0) ⊎ ((v : ℕ) × Q v x)
OutcomeGood Q o x = Unit {0}

abbrev pub EndGood : (ℕ → ℕ → Type 0) → Option Ended → Type 0
EndGood Q None = Unit {0}
EndGood Q (Some e) = OutcomeGood Q e.outcome e.rests_on

abbrev pub Good : (ℕ → ℕ → Type 0) → (ℕ → Type 0) → State × ClientStep → Type 0
Good Q R r = TaskGood Q R r.0.task × EndGood Q r.1.ended

-- ---- an answer

-- and of the one that an answer to a call of it begins, or goes on with
abbrev pub TookIn : (ℕ → ℕ → Type 0) → Stage → (xid : ℕ) → Body → Type 0
TookIn Q (stage.Asking y) x (body.Lb (lb.GetLeaseAnswer (Done l))) = Q l.version x
TookIn Q (stage.Hashing tries y) x (body.Lb (lb.GetHashAnswer (Done h))) = Q h.version x
TookIn Q (stage.Listing y f) x (body.Lb (lb.GetHashAnswer (Done h))) = (h.version == f.version) ≡ true → Q f.version f.first
TookIn Q (stage.Reading f) x (body.Nfs (nfs.ReadAnswer (Done p))) = Q f.version f.first
TookIn Q st x b = Unit {0}

abbrev pub TaskTook : (ℕ → ℕ → Type 0) → Option Task → (xid : ℕ) → Body → Type 0
TaskTook Q None x b = Unit {0}
TaskTook Q (Some t) x b = TookIn Q t.stage x b

pub took_in : (Q : ℕ → ℕ → Type 0) (st : Stage) (x : ℕ) (b : Body) (h : Hashes) (f : Fetch) → TookIn Q st x b → b ≡ body.Lb (lb.GetHashAnswer (Done h)) → FetchIn st x h f → (h.version == f.version) ≡ true → Q f.version f.first
took_in Q st x b h f q is (inl (tries, y, at, e)) same = subst (λ (z : Fetch). Q z.version z.first) (sym e) (subst (TookIn Q (stage.Hashing tries y) x) is (subst (λ z. TookIn Q z x b) at q))
took_in Q st x b h f q is (inr (y, at)) same = subst (TookIn Q (stage.Listing y f) x) is (subst (λ z. TookIn Q z x b) at q) same

pub took_now : (Q : ℕ → ℕ → Type 0) (st : Stage) (x : ℕ) (b : Body) (f : Fetch) (bytes : ℕ) → TookIn Q st x b → FetchNow st x b f bytes → Q f.version f.first
took_now Q st x b f bytes q (all_told g h is eof at same f_is none) = subst (λ (z : Fetch). Q z.version z.first) (sym f_is) (took_in Q st x b h g q is at same)
took_now Q st x b f bytes q (one_came g c k p is at found chunk fits f_is len) = subst (λ (z : Fetch). Q z.version z.first) (sym f_is) (subst (TookIn Q (stage.Reading g) x) is (subst (λ z. TookIn Q z x b) at q))

pub good_fetch : (Q : ℕ → ℕ → Type 0) (s : State) (file : ℕ) (f : Fetch) → Q f.version f.first → Q (reads_of s file f).fetch.version (reads_of s file f).fetch.first
good_fetch Q s file f h = reads_keep (λ r. Q r.fetch.version r.fetch.first) s.cache s.index file (λ r c o q at found. by r c q o) (length f.chunks - f.asked) (reads_from f s.next_xid) h
  where
    by : (r : Reads) (c : Chunk) → Q r.fetch.version r.fetch.first → (o : Option (List ℕ)) → Q (reads_chunk file r c o).fetch.version (reads_chunk file r c o).fetch.first
    by r c q None = q
    by r c q (Some bytes) = q

-- one that ends got no content
good_ends : (Q : ℕ → ℕ → Type 0) (R : ℕ → Type 0) (x : ℕ) (b : Body) (r : State × ClientStep) → JustEnds x b r → Good Q R r
good_ends Q R x b r e = (subst (TaskGood Q R) (sym e.task) tt, subst (EndGood Q) (sym e.ended_is) (by e.ended.outcome e.unopened))
  where
    by : (o : Outcome) → (IsOpenedBy o → ⊥) → OutcomeGood Q o e.ended.rests_on
    by (outcome.Opened file len digest) un = absurd (un tt)
    by o un = tt

good_took : (Q : ℕ → ℕ → Type 0) (R : ℕ → Type 0) (s : State) (fresh : R s.next_xid) (calls : List Pending) (file : ℕ) (st : Stage) (xid : ℕ) (b : Body) → TookIn Q st xid b → Good Q R (took s calls file st xid b)
good_took Q R s fresh calls file (stage.Walking y w) x b q = walk_cases (Good Q R) s calls file y w x b (record {
  fault = λ f bad. (tt, tt);
  asks = λ v k. (tt, tt);
  open_already = λ id k is. (tt, tt);
  fetches = λ id k shut none. (fresh, tt);
  leases = λ id c k shut some. (fresh, tt);
  opens_now = λ id c k shut now. (tt, inl refl);
  renew_already = λ id k is. (tt, tt);
  renews = λ id k shut. (tt, tt);
  empties_now = λ id c k shut now. (tt, tt);
  ends = λ w e k is. (tt, by e);
})
  where
    by : (e : WalkEnd) → OutcomeGood Q (outcome_of e) x
    by walk_end.Done = tt
    by _ = tt
good_took Q R s fresh calls file st x b q = took_cases (λ found r. Good Q R r) s calls file st x b tt (λ found r g until lease is h. h) (record {
  ends = λ r e unchanged came. good_ends Q R x b r e;
  changed = λ r f version e open_ gave last is. good_ends Q R x b r e;
  uses = λ y l bytes at is kept. (tt, inr (l.version, subst (TookIn Q (stage.Asking y) x) is (subst (λ z. TookIn Q z x b) at q)));
  fetches = λ y l at is. (fresh, tt);
  anew = λ f version bytes open_ gave few came. (fresh, tt);
  lists = λ f h is at same far. (took_in Q st x b h f q is at same, tt);
  reads = λ f bytes now here. (good_fetch Q s file f (took_now Q st x b f bytes q now), tt);
  opens = λ f bytes now here. (tt, inr ((reads_of s file f).fetch.version, good_fetch Q s file f (took_now Q st x b f bytes q now)));
  names = λ w at known none is. (tt, tt);
  commits = λ w at known none is. (tt, tt);
  whole = λ old c k at unknown none found name chunk. (tt, tt);
})

good_drops : (Q : ℕ → ℕ → Type 0) (R : ℕ → Type 0) (s : State) (task : Option Task) (xid : ℕ) (b : Bool) → TaskGood Q R s.task → Good Q R (drops s task xid b)
good_drops Q R s task xid true q = (q, tt)
good_drops Q R s (Some t) xid false q = (tt, tt)
good_drops Q R s None xid false q = (q, tt)

pub good_answer : (Q : ℕ → ℕ → Type 0) (R : ℕ → Type 0) (s : State) (fresh : R s.next_xid) (xid : ℕ) (b : Body) → (has_call (pending s.task) xid ≡ false → TaskGood Q R s.task) → (has_call (pending s.task) xid ≡ true → TaskTook Q s.task xid b) → Good Q R (got_message s s.task (message.Answer xid b))
good_answer Q R s fresh xid b dropped taken = by s.task refl (has_call (pending s.task) xid) refl
  where
    by : (task : Option Task) → s.task ≡ task → (own : Bool) → has_call (pending s.task) xid ≡ own → Good Q R (took_if s task xid b own)
    by (Some t) is true e = good_took Q R (idle s) fresh (calls_of s) t.file t.stage xid b (subst (λ (o : Option Task). TaskTook Q o xid b) is (taken e))
    by (Some t) is false e = good_drops Q R s (Some t) xid (has_call s.forgotten xid) (dropped e)
    by None is own e = good_drops Q R s None xid (has_call s.forgotten xid) (subst (TaskGood Q R) (sym is) tt)

-- ---- a command

pub good_command : (Q : ℕ → ℕ → Type 0) (R : ℕ → Type 0) (s : State) (fresh : R s.next_xid) (d : Command) (now : ℕ) → TaskGood Q R s.task → Good Q R (command_step s d now)
good_command Q R s fresh d now q = command_cases (Good Q R) s d now (record {
  busy = λ t is. (q, tt);
  answers = λ free opened o plain. (q, by o plain);
  fetches = λ file is free may. (fresh, tt);
  asks = λ file c is free may at. (fresh, tt);
  renews = λ file is free may. (tt, tt);
  opens_now = λ file c is free shut now. (q, inl refl);
  empties_now = λ file c is free shut now. (q, tt);
  walks = λ c is free may. (tt, tt);
  closes = λ file l is free may at. (tt, tt);
})
  where
    by : (o : Outcome) → IsPlain o → OutcomeGood Q o 0
    by (outcome.Opened file len digest) plain = absurd plain
    by o plain = tt

-- where one was, the client is busy
pub busy_command : (s : State) (d : Command) (now : ℕ) (t : Task) → s.task ≡ Some t → ((command_step s d now).1.send ≡ []) × ((command_step s d now).0 ≡ at_clock s now)
busy_command s d now t e = command_cases (λ r. (r.1.send ≡ []) × (r.0 ≡ at_clock s now)) s d now (record {
  busy = λ u is. (refl, refl);
  answers = λ free opened o plain. nothing_there t (sym free ∙ e);
  fetches = λ file is free may. nothing_there t (sym free ∙ e);
  renews = λ file is free may. nothing_there t (sym free ∙ e);
  asks = λ file c is free may at. nothing_there t (sym free ∙ e);
  opens_now = λ file c is free shut now. nothing_there t (sym free ∙ e);
  empties_now = λ file c is free shut now. nothing_there t (sym free ∙ e);
  walks = λ c is free may. nothing_there t (sym free ∙ e);
  closes = λ file l is free may at. nothing_there t (sym free ∙ e);
})

-- ---- one for which no file was found

-- an open that ended then got its content in an attempt of which it is true
abbrev pub OutcomeWell : (ℕ → ℕ → Type 0) → Outcome → (xid : ℕ) → Type 0
OutcomeWell Q (outcome.Opened file len digest) x = (v : ℕ) × Q v x
OutcomeWell Q o x = Unit {0}

abbrev pub EndWell : (ℕ → ℕ → Type 0) → Option Ended → Type 0
EndWell Q None = Unit {0}
EndWell Q (Some e) = OutcomeWell Q e.outcome e.rests_on

abbrev pub Well : (ℕ → ℕ → Type 0) → State × ClientStep → Type 0
Well Q r = r.1.found ≡ None → EndWell Q r.1.ended

well_ends : (Q : ℕ → ℕ → Type 0) (x : ℕ) (b : Body) (r : State × ClientStep) → JustEnds x b r → Well Q r
well_ends Q x b r e none = subst (EndWell Q) (sym e.ended_is) (by e.ended.outcome e.unopened)
  where
    by : (o : Outcome) → (IsOpenedBy o → ⊥) → OutcomeWell Q o e.ended.rests_on
    by (outcome.Opened file len digest) un = absurd (un tt)
    by o un = tt

well_took : (Q : ℕ → ℕ → Type 0) (s : State) (calls : List Pending) (file : ℕ) (st : Stage) (xid : ℕ) (b : Body) → TookIn Q st xid b → Well Q (took s calls file st xid b)
well_took Q s calls file (stage.Walking y w) x b q = walk_cases (Well Q) s calls file y w x b (record {
  fault = λ f bad none. tt;
  asks = λ v k none. tt;
  open_already = λ id k is none. tt;
  fetches = λ id k shut missing none. tt;
  leases = λ id c k shut some none. tt;
  opens_now = λ id c k shut now none. nothing_there id (sym none);
  renew_already = λ id k is none. tt;
  renews = λ id k shut none. tt;
  empties_now = λ id c k shut now none. tt;
  ends = λ w e k is none. by e;
})
  where
    by : (e : WalkEnd) → OutcomeWell Q (outcome_of e) x
    by walk_end.Done = tt
    by _ = tt
well_took Q s calls file st x b q = took_cases (λ found r. Well Q r) s calls file st x b tt (λ found r g until lease is h. h) (record {
  ends = λ r e unchanged came. well_ends Q x b r e;
  changed = λ r f version e open_ gave last is. well_ends Q x b r e;
  uses = λ y l bytes at is kept none. (l.version, subst (TookIn Q (stage.Asking y) x) is (subst (λ z. TookIn Q z x b) at q));
  fetches = λ y l at is none. tt;
  anew = λ f version bytes open_ gave few came none. tt;
  lists = λ f h is at same far none. tt;
  reads = λ f bytes now here none. tt;
  opens = λ f bytes now here none. ((reads_of s file f).fetch.version, good_fetch Q s file f (took_now Q st x b f bytes q now));
  names = λ w at known missing is none. tt;
  commits = λ w at known missing is none. tt;
  whole = λ old c k at unknown missing found name chunk none. tt;
})

well_drops : (Q : ℕ → ℕ → Type 0) (s : State) (task : Option Task) (xid : ℕ) (b : Bool) → Well Q (drops s task xid b)
well_drops Q s task xid true none = tt
well_drops Q s (Some t) xid false none = tt
well_drops Q s None xid false none = tt

pub well_answer : (Q : ℕ → ℕ → Type 0) (s : State) (xid : ℕ) (b : Body) → (has_call (pending s.task) xid ≡ true → TaskTook Q s.task xid b) → Well Q (got_message s s.task (message.Answer xid b))
well_answer Q s xid b taken = by s.task refl (has_call (pending s.task) xid) refl
  where
    by : (task : Option Task) → s.task ≡ task → (own : Bool) → has_call (pending s.task) xid ≡ own → Well Q (took_if s task xid b own)
    by (Some t) is true e = well_took Q (idle s) (calls_of s) t.file t.stage xid b (subst (λ (o : Option Task). TaskTook Q o xid b) is (taken e))
    by (Some t) is false e = well_drops Q s (Some t) xid (has_call s.forgotten xid)
    by None is own e = well_drops Q s None xid (has_call s.forgotten xid)
