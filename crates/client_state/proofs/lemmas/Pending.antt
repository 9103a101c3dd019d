-- The calls that wait: those of the operation under way, and behind them those that are forgotten.
use Rattle.std.proofs.Common.{◌≡◌, refl, sym, ap, subst, ◌∙◌, ℕ, ◌≤◌, ◌==◌, List, [], ◌∷◌, ◌++◌, length, take, drop, Bool, true, false, not, true≢false, is_some, arith}
use Rattle.std.specs.Prelude.{Option, Some, None, cond, ◌||◌}
use Rattle.std.proofs.Math.Seq.{drop-append_seam, take-append_seam}
use Rattle.std.proofs.lemmas.List.{length-append, length-drop}
use Rattle.std.proofs.lemmas.List.Elements.{filter-append}
use Rattle.wire.specs.declared.message.Pending.{Pending}
use Rattle.wire.specs.declared.message.Waiting.{Waiting}
use Rattle.client_state.specs.declared.state.ClientState.{ClientState}
use Rattle.client_state.specs.State.{State, pending, has_call, without_call}
use Rattle.std.specs.List.{All}
use Rattle.chunk_index.specs.Index.{Indexed}
use Rattle.client_cache.specs.Cache.{Entries}
use Rattle.client_state.specs.View.{whole_of, TaskIsThere, TaskIsWithin, TaskHasXids, IsKeptBounded, IsBase, IsHeld, IsSound}
use Rattle.client_state.specs.declared.task.Task.{Task}

pub drop_front : (xs ys : List Pending) (n : ℕ) → n ≡ length xs → drop n (xs ++ ys) ≡ ys
drop_front xs ys n e = ap (λ k. drop k (xs ++ ys)) e ∙ drop-append_seam xs ys

pub take_front : (xs ys : List Pending) (n : ℕ) → n ≡ length xs → take n (xs ++ ys) ≡ xs
take_front xs ys n e = ap (λ k. take k (xs ++ ys)) e ∙ take-append_seam xs ys

pub front_fits : (xs ys : List Pending) (n : ℕ) → n ≡ length xs → n ≤ length (xs ++ ys)
front_fits xs ys n e = let h = length-append xs ys in omega (arith, e, h)

-- the calls of the operation under way stand first
pub own_first : (s : ClientState) → IsSound s → take s.own s.waiting.calls ≡ pending s.task
own_first s h = ap (λ cs. take s.own cs) h.calls ∙ take_front (pending s.task) (drop s.own s.waiting.calls) s.own h.own

-- where none has the xid all stay
none_goes : (cs : List Pending) (xid : ℕ) → has_call cs xid ≡ false → without_call cs xid ≡ cs
none_goes [] xid e = refl
none_goes (c ∷ cs) xid e = by (c.xid == xid) e (none_goes cs xid)
  where
    by : (b : Bool) → (b || has_call cs xid) ≡ false → (has_call cs xid ≡ false → without_call cs xid ≡ cs) → cond (not b) (c ∷ without_call cs xid) (without_call cs xid) ≡ c ∷ cs
    by true e later = cc
    by false e later = ap (λ ds. c ∷ ds) (later e)

-- an answer to another call leaves those of the operation under way
pub others_stay : (own calls : List Pending) (n xid : ℕ) → n ≡ length own → calls ≡ own ++ drop n calls → has_call own xid ≡ false → without_call calls xid ≡ own ++ without_call (drop n calls) xid
others_stay own calls n xid e is other =
    ap (λ cs. without_call cs xid) is
    ∙ (filter-append (λ c. not (c.xid == xid)) own (drop n calls)
    ∙ ap (λ cs. cs ++ without_call (drop n calls) xid) (none_goes own xid other))

-- with no operation under way the state is held
pub held_of : (s : ClientState) → IsSound s → s.task ≡ None → IsHeld s
held_of s h e = record { base = h.base; task = e }

-- and it is sound again, where no call was sent or answered
pub sound_still : (s t : ClientState) → IsSound s → s.task ≡ None → IsHeld t → t.waiting.calls ≡ s.waiting.calls → drop t.own t.waiting.calls ≡ drop s.own s.waiting.calls → IsSound t
sound_still s t h idle k calls left =
    let all : s.waiting.calls ≡ drop s.own s.waiting.calls = h.calls ∙ ap (λ (o : Option Task). pending o ++ drop s.own s.waiting.calls) idle in
    let same : drop t.own t.waiting.calls ≡ t.waiting.calls = left ∙ (sym all ∙ sym calls) in
    let none : t.own ≡ 0 = (let n = length-drop t.own t.waiting.calls in let m : length (drop t.own t.waiting.calls) ≡ length t.waiting.calls = ap length same in let le = k.base.own in omega (arith, n, m, le)) in
    record {
      base = k.base;
      calls = sym same ∙ ap (λ (o : Option Task). pending o ++ drop t.own t.waiting.calls) (sym k.task);
      own = none ∙ ap (λ (o : Option Task). length (pending o)) (sym k.task);
      xids = subst (λ (o : Option Task). TaskHasXids t.next_xid o) (sym k.task) tt;
      within = subst TaskIsWithin (sym k.task) tt;
      there = subst (λ (o : Option Task). TaskIsThere t.cache o) (sym k.task) tt;
    }

-- so where the calls that wait stand as they stood,
pub sound_kept : (s t : ClientState) → IsSound s → s.task ≡ None → IsHeld t → t.waiting ≡ s.waiting → t.own ≡ s.own → IsSound t
sound_kept s t h idle k waiting own = sound_still s t h idle k (ap (λ (w : Waiting). w.calls) waiting) (ap (λ (w : Waiting). drop t.own w.calls) waiting ∙ ap (λ (n : ℕ). drop n s.waiting.calls) own)

pub sound_put : (s t : ClientState) → IsSound s → s.task ≡ None → IsBase t → t.task ≡ s.task → t.waiting ≡ s.waiting → t.own ≡ s.own → IsSound t
sound_put s t h idle b task waiting own = sound_kept s t h idle (record { base = b; task = task ∙ idle }) waiting own

-- and where nothing was changed
pub sound_again : (s t : ClientState) → IsSound s → s.task ≡ None → IsHeld t → whole_of t ≡ whole_of s → IsSound t
sound_again s t h idle k e = sound_still s t h idle k (ap (λ (w : State × List Pending). w.1) e) (ap (λ (w : State × List Pending). w.0.forgotten) e)

-- another index, or another cache, is held as well
pub held_index : (s : ClientState) (index : Indexed) → IsHeld s → IsHeld (record s { index = index })
held_index s index h = let b = h.base in record { base = record { side = b.side; own = b.own; next = b.next; temps = b.temps; ids = b.ids; locals = b.locals; kept = b.kept }; task = h.task }

pub held_cache : (s : ClientState) (cache : Entries) → IsHeld s → All IsKeptBounded cache → IsHeld (record s { cache = cache })
held_cache s cache h kept = let b = h.base in record { base = record { side = b.side; own = b.own; next = b.next; temps = b.temps; ids = b.ids; locals = b.locals; kept = kept }; task = h.task }

-- and so is another cache sound, where the file under way has its entry
pub sound_cache : (s : ClientState) (cache : Entries) → IsSound s → All IsKeptBounded cache → TaskIsThere cache s.task → IsSound (record s { cache = cache })
sound_cache s cache h kept there =
    let b = h.base in
    record { base = record { side = b.side; own = b.own; next = b.next; temps = b.temps; ids = b.ids; locals = b.locals; kept = kept }; calls = h.calls; own = h.own; xids = h.xids; within = h.within; there = there }

-- nor does another index matter
pub sound_index : (s : ClientState) (index : Indexed) → IsSound s → IsSound (record s { index = index })
sound_index s index h =
    let b = h.base in
    record { base = record { side = b.side; own = b.own; next = b.next; temps = b.temps; ids = b.ids; locals = b.locals; kept = b.kept }; calls = h.calls; own = h.own; xids = h.xids; within = h.within; there = h.there }

-- where none is under way
pub no_task : (o : Option Task) → is_some o ≡ false → o ≡ None
no_task None e = refl
no_task (Some t) e = absurd (true≢false e)

-- nor do another cache and another index, while nothing is under way
pub sound_hints : (s : ClientState) (cache : Entries) (index : Indexed) → IsSound s → All IsKeptBounded cache → is_some s.task ≡ false → IsSound (record s { cache = cache; index = index })
sound_hints s cache index h kept idle = sound_index (record s { cache = cache }) index (sound_cache s cache h kept (subst (λ o. TaskIsThere cache o) (sym (no_task s.task idle)) tt))

-- ---- an answer to a call that is forgotten is dropped

-- the calls of the operation under way, and those that are still forgotten
kept : (s : ClientState) (calls : List Pending) (xid : ℕ) → IsSound s → has_call (pending s.task) xid ≡ false → calls ≡ without_call s.waiting.calls xid → calls ≡ pending s.task ++ without_call (drop s.own s.waiting.calls) xid
kept s calls xid h other e = e ∙ others_stay (pending s.task) s.waiting.calls s.own xid h.own h.calls other

pub dropped_rest : (s : ClientState) (calls : List Pending) (xid : ℕ) → IsSound s → has_call (pending s.task) xid ≡ false → calls ≡ without_call s.waiting.calls xid → drop s.own calls ≡ without_call (drop s.own s.waiting.calls) xid
dropped_rest s calls xid h other e =
    ap (λ cs. drop s.own cs) (kept s calls xid h other e) ∙ drop_front (pending s.task) (without_call (drop s.own s.waiting.calls) xid) s.own h.own

pub dropped_sound : (s : ClientState) (calls : List Pending) (xid : ℕ) → IsSound s → has_call (pending s.task) xid ≡ false → calls ≡ without_call s.waiting.calls xid → IsSound (record s { waiting = record s.waiting { calls = calls } })
dropped_sound s calls xid h other e =
    let is = kept s calls xid h other e in
    let rest = dropped_rest s calls xid h other e in
    let n : length calls ≡ length (pending s.task ++ without_call (drop s.own s.waiting.calls) xid) = ap length is in
    let fits = front_fits (pending s.task) (without_call (drop s.own s.waiting.calls) xid) s.own h.own in
    record {
      base = record { side = h.base.side; own = (let le : s.own ≤ length calls = omega (arith, n, fits) in le); next = h.base.next; temps = h.base.temps; ids = h.base.ids; locals = h.base.locals; kept = h.base.kept };
      calls = is ∙ ap (λ cs. pending s.task ++ cs) (sym rest);
      own = h.own;
      xids = h.xids;
      within = h.within;
      there = h.there;
    }

-- what `set_waiting` goes by
pub ruleset by_set_waiting = (drop_front, front_fits)
