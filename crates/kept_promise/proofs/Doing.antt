-- A client is told to do something: one command more, and its operation.
use Rattle.std.proofs.Common.{◌⊎◌, inl, inr, ◌≡◌, ℕ, ◌+◌, ◌<◌, ◌≤◌, List, [], ◌∷◌, ◌++◌, Option, Some, None, Bool, true, false, refl, sym, ap, ◌∙◌, subst, arith}
use Rattle.command_text.specs.declared.command.Command.TheVariants as command
use Rattle.client_state.specs.State as client
use Rattle.register_model.specs.declared.op.Outcome.{Outcome as Told}
use Rattle.register_model.specs.declared.op.Outcome.TheVariants as told
use Rattle.register_model.specs.declared.op.Word.TheVariants as words
use Rattle.client_state.specs.declared.step.Outcome.{Outcome}
use Rattle.client_state.specs.declared.step.Outcome.TheVariants as outcome
use Rattle.kept_promise.proofs.Common.{can_go, nat_tests, slice_get, nat_le, not, is_some, Command, has_xids, may_ask, command_step, ClientStep, Ended, Local, Task, Op, Word, word_of, file_of, value_at_begin, Core, Seat, numbered, with_numbered, begun, counted, op_ended, op_after, has_point, point_if, value_of, Deed, Book, can_ask, leaves, lasts, is_busy, after_one, local_from, own_answer, is_running, Queue}
use Rattle.kept_promise.proofs.Lists.{some_is, nothing_there, same_or_not}
use Rattle.kept_promise.proofs.Messages.{Job, job, job_of}
use Rattle.kept_promise.proofs.Rights.{IsRight}
use Rattle.kept_promise.proofs.Turns.{around_with}
use Rattle.kept_promise.proofs.Facts.{IsMatched, IsKept}
use Rattle.kept_promise.proofs.Does.{own_ended}
use Rattle.kept_promise.proofs.Locally.{other_client, other_file, its_own, leaves_none, busy_by, free_by, keeps, keeps_is, keeps_if}
use Rattle.kept_promise.proofs.Deeds.{IsLate, Stores, by_server, Came, local_of, HasDeeds, deeds_added}
use Rattle.kept_promise.proofs.Answering.{may_go, AnswersBy, ValueIs, Stays, free_answers, busy_answers}
use Rattle.client_state.specs.Noting.{at as clocked}
use Rattle.kept_promise.proofs.StepCases.{IsPlain}
use Rattle.kept_promise.proofs.PathNames.{IsSmall}
use Rattle.kept_promise.proofs.Found.{op_found, command_finds}

-- ---- what runs

pub runs_still : (u : Told) → is_running u ≡ true → u ≡ told.Running
runs_still told.Running e = refl
runs_still _ e = absurd cc

-- an operation without an end goes on
pub without_end : (book : Book) (o : Op) → IsRight book o → o.end ≡ None → o.outcome ≡ told.Running
without_end book o h none = runs_still o.outcome (by (is_running o.outcome) (sym (ap is_some none) ∙ h.ends))
  where
    by : (b : Bool) → false ≡ not b → b ≡ true
    by true e = refl
    by false e = absurd cc

pub with_end : (book : Book) (o : Op) → IsRight book o → o.outcome ≡ told.Running → o.end ≡ None
with_end book o h runs = by o.end (h.ends ∙ ap (λ u. not (is_running u)) runs)
  where
    by : (e : Option ℕ) → is_some e ≡ false → e ≡ None
    by None e = refl
    by (Some n) e = absurd cc

-- ---- whether its client is busy

is_free : (book : Book) (k : Core) (qs : List Queue) (c : ℕ) (seat : Seat) (new : Op) → IsKept book k qs → book.ops ≡ k.ops → book.steps ≡ k.steps → numbered k.seats c ≡ Some seat → job seat ≡ None → new.client ≡ c → new.begin ≡ k.steps + 1 → is_busy k.ops new ≡ false
is_free book k qs c seat new kept ops steps here free mine begins = free_by k.ops new (λ i q at. by i q at (keeps new q) refl)
  where
    late : (i : ℕ) (q : Op) → slice_get k.ops i ≡ Some q → q.client ≡ c → (end : Option ℕ) → q.end ≡ end → lasts end (k.steps + 1) ≡ true → true ≡ false
    late i q at own None e lasting =
        let there = ap (λ (l : List Op). slice_get l i) ops ∙ at in
        let r = kept.running i q there (without_end book q (kept.sound.rights i q there) e) in
        nothing_there r.1 (sym free ∙ ap job (sym (some_is r.0 seat (sym r.2 ∙ ap (numbered k.seats) own ∙ here))) ∙ r.3)
    late i q at own (Some n) e lasting =
        let past = ((kept.sound.rights i q (ap (λ (l : List Op). slice_get l i) ops ∙ at)).past n e).1 in
        let lt : k.steps + 1 < n = grind (arith, nat_tests, lasting) in
        absurd (omega (arith, past, lt, steps))

    by : (i : ℕ) (q : Op) → slice_get k.ops i ≡ Some q → (b : Bool) → keeps new q ≡ b → b ≡ false
    by i q at false e = refl
    by i q at true e = let h = keeps_is new q e in late i q at (h.0 ∙ mine) q.end refl (ap (lasts q.end) (sym begins) ∙ h.2)

is_occupied : (book : Book) (k : Core) (qs : List Queue) (c : ℕ) (seat : Seat) (j : Job) (new : Op) → IsKept book k qs → book.ops ≡ k.ops → book.steps ≡ k.steps → numbered k.seats c ≡ Some seat → job seat ≡ Some j → new.client ≡ c → new.begin ≡ k.steps + 1 → is_busy k.ops new ≡ true
is_occupied book k qs c seat j new kept ops steps here is mine begins =
    let of = (kept.seats c seat here).task j is in
    let right = kept.sound.rights j.place of.op of.there in
    let past = right.begun in
    busy_by k.ops new j.place of.op (ap (λ (l : List Op). slice_get l j.place) (sym ops) ∙ of.there) (keeps_if new of.op (of.client ∙ sym mine) (omega (arith, past, begins, steps)) (ap (λ (e : Option ℕ). lasts e new.begin) (with_end book of.op right of.running)))

-- ---- whether it may ask

-- as the calls that it sent on its connection say
pub asks_by : (s : client.State) (joined : Bool) (calls : ℕ) → s.linked ≡ joined → s.next_xid ≡ calls + 1 → can_ask joined calls ≡ may_ask s
asks_by s joined calls link next = ap (λ b. can_ask b calls) (sym link) ∙ by s.linked
  where
    room : (a b : Bool) → nat_le (calls + 1000000) 4294967295 ≡ a → has_xids s.next_xid ≡ b → a ≡ b
    room true true p q = refl
    room false false p q = refl
    room true false p q = let le : calls + 1000000 ≤ 4294967295 = grind (arith, nat_tests, p) in let ge : 4293967297 ≤ s.next_xid = grind (arith, nat_tests, q) in absurd (omega (arith, le, ge, next))
    room false true p q = let gt : 4294967295 < calls + 1000000 = grind (arith, nat_tests, p) in let lt : s.next_xid < 4293967297 = grind (arith, nat_tests, q) in absurd (omega (arith, gt, lt, next))

    by : (b : Bool) → can_ask b calls ≡ elim b [ true ↦ has_xids s.next_xid | false ↦ false ]
    by true = room (nat_le (calls + 1000000) 4294967295) (has_xids s.next_xid) refl refl
    by false = refl

-- ---- the operation

abbrev pub new_op : (c : ℕ) → Word → (file : ℕ) → (value : List ℕ) → (step : ℕ) → client.State × ClientStep → Op
new_op c w file value step r = op_after (begun c w file value step) r.0 [] step r.1

new_ended : (c : ℕ) (w : Word) (file : ℕ) (value : List ℕ) (step : ℕ) (r : client.State × ClientStep) (e : Option Ended) → r.1.found ≡ None → r.1.ended ≡ e → new_op c w file value step r ≡ op_ended (record (begun c w file value step) { traffic = counted (begun c w file value step).traffic r.1.counts }) r.0 [] step e
new_ended c w file value step r e none is = op_found (begun c w file value step) r.0 [] step r.1 none ∙ ap (λ (z : Option Ended). op_ended (record (begun c w file value step) { traffic = counted (begun c w file value step).traffic r.1.counts }) r.0 [] step z) is

-- whatever it is
pub fixed : (c : ℕ) (w : Word) (file : ℕ) (value : List ℕ) (step : ℕ) (r : client.State × ClientStep) → r.1.found ≡ None → (let o = new_op c w file value step r in (o.client ≡ c) × (o.word ≡ w) × (o.file ≡ file) × (o.begin ≡ step))
fixed c w file value step r none = by r.1.ended refl
  where
    q : Op
    q = record (begun c w file value step) { traffic = counted (begun c w file value step).traffic r.1.counts }

    by : (e : Option Ended) → r.1.ended ≡ e → (let o = new_op c w file value step r in (o.client ≡ c) × (o.word ≡ w) × (o.file ≡ file) × (o.begin ≡ step))
    by None e = subst (λ (o : Op). (o.client ≡ c) × (o.word ≡ w) × (o.file ≡ file) × (o.begin ≡ step)) (sym (new_ended c w file value step r None none e)) (refl, refl, refl, refl)
    by (Some x) e = subst (λ (o : Op). (o.client ≡ c) × (o.word ≡ w) × (o.file ≡ file) × (o.begin ≡ step)) (sym (new_ended c w file value step r (Some x) none e)) (refl, refl, refl, refl)

no_point : (w : Word) (o : Outcome) (step : ℕ) → IsPlain o → point_if (has_point w o) [] 0 step None ≡ None
no_point words.Open (outcome.Opened file len digest) step plain = absurd plain
no_point words.Open (outcome.Refused s) step plain = absurd plain
no_point words.Open o step plain = refl
no_point w o step plain = refl

-- what became of it, and of the local contents
record IsOne (s : client.State) (d : Deed) (new : Op) (r : client.State × ClientStep) (x : Option Told) : Type 0 where
  pub came : Came d new (local_of s (file_of d.command)) x
  pub here : local_of r.0 (file_of d.command) ≡ leaves d.command new.outcome new.value (local_of s (file_of d.command))
  pub others : (f : ℕ) → (f ≡ file_of d.command → ⊥) → local_of r.0 f ≡ local_of s f

one_new : (c step : ℕ) (s : client.State) (d : Deed) (r : client.State × ClientStep) (x : Option Told) → IsSmall d.command → r.1.found ≡ None → AnswersBy s d.command r x → IsOne s d (new_op c (word_of d.command) (file_of d.command) (value_at_begin s (word_of d.command) (file_of d.command) r.1.ended) step r) r x
one_new c step s d r (Some own) small none h =
    let w = word_of d.command in
    let v = value_at_begin s (word_of d.command) (file_of d.command) r.1.ended in
    let q : Op = record (begun c w (file_of d.command) v step) { traffic = counted (begun c w (file_of d.command) v step).traffic r.1.counts } in
    subst (λ (o : Op). IsOne s d o r (Some own)) (sym (new_ended c w (file_of d.command) v step r (Some (own_ended h.outcome)) none h.ended)) (record {
      came = (h.told_is, refl, (λ z. no_point w h.outcome step h.plain), refl);
      here = h.here (value_of v r.0 h.outcome) ∙ ap (λ (u : Told). leaves d.command u (value_of v r.0 h.outcome) (local_of s (file_of d.command))) (sym h.told_is);
      others = h.others;
    })
one_new c step s d r None small none (inr h) =
    let w = word_of d.command in
    let v = value_at_begin s (word_of d.command) (file_of d.command) r.1.ended in
    subst (λ (o : Op). IsOne s d o r None) (sym (new_ended c w (file_of d.command) v step r (Some (own_ended h.outcome)) none h.ended)) (record {
      came = (h.stores _ (local_of s (file_of d.command)), h.from, h.late _);
      here = h.here v;
      others = h.others;
    })
one_new c step s d r None small none (inl h) =
    let w = word_of d.command in
    let v = value_at_begin s (word_of d.command) (file_of d.command) r.1.ended in
    let q : Op = record (begun c w (file_of d.command) v step) { traffic = counted (begun c w (file_of d.command) v step).traffic r.1.counts } in
    subst (λ (o : Op). IsOne s d o r None) (sym (new_ended c w (file_of d.command) v step r None none h.0)) (record {
      came = (subst (λ (e : Option Ended). Stores d.command (record (begun c w (file_of d.command) (value_at_begin s w (file_of d.command) e) step) { traffic = counted (begun c w (file_of d.command) (value_at_begin s w (file_of d.command) e) step).traffic r.1.counts }) (local_of s (file_of d.command))) (sym h.0) (stores d.command h.2), by_server d.command told.Running tt, never d.command);
      here = same (file_of d.command) ∙ sym (leaves_none d.command told.Running v (local_of s (file_of d.command)) (inl refl));
      others = λ f apart. same f;
    })
  where
    same : (f : ℕ) → local_of r.0 f ≡ local_of s f
    same f = ap (λ (l : List (ℕ × Local)). Rattle.std.specs.Prelude.option_map (λ (z : Local). z.bytes) (client.local_at l f)) h.1

    never : (k : Command) → IsLate k (record (begun c (word_of d.command) (file_of d.command) (value_at_begin s (word_of d.command) (file_of d.command) r.1.ended) step) { traffic = counted (begun c (word_of d.command) (file_of d.command) (value_at_begin s (word_of d.command) (file_of d.command) r.1.ended) step).traffic r.1.counts })
    never (command.Open f) = tt
    never (command.Rewrite f) = tt
    never _ = λ z. nothing_there _ z

    stores : (k : Command) → ValueIs s k → Stores k (record (begun c (word_of k) (file_of k) (value_at_begin s (word_of k) (file_of k) None) step) { traffic = counted (begun c (word_of k) (file_of k) (value_at_begin s (word_of k) (file_of k) None) step).traffic r.1.counts }) (local_of s (file_of k))
    stores (command.Close f) v = v
    stores _ v = tt

-- ---- the step

pub record IsDoneSo (ds : List Deed) (k : Core) (c : ℕ) (seat : Seat) (d : Deed) (r : client.State × ClientStep) (place : Option ℕ) : Type 0 where
  pub deeds : HasDeeds (ds ++ d ∷ []) (k.ops ++ new_op c (word_of d.command) (file_of d.command) (value_at_begin seat.client (word_of d.command) (file_of d.command) r.1.ended) (k.steps + 1) r ∷ []) (with_numbered k.seats c (record seat { client = r.0; place = place }))
  pub stays : Stays seat.client r.0

does_by : (ds : List Deed) (k : Core) (c : ℕ) (seat : Seat) (d : Deed) (r : client.State × ClientStep) (place : Option ℕ) (b asks : Bool) → IsSmall d.command → r.1.found ≡ None → HasDeeds ds k.ops k.seats → numbered k.seats c ≡ Some seat → ((i : ℕ) (o : Op) → slice_get k.ops i ≡ Some o → o.begin < k.steps + 1) → d.client ≡ c → d.begin ≡ k.steps + 1
    → can_go d ≡ asks → is_busy k.ops (new_op c (word_of d.command) (file_of d.command) (value_at_begin seat.client (word_of d.command) (file_of d.command) r.1.ended) (k.steps + 1) r) ≡ b
    → Stays seat.client r.0 × AnswersBy seat.client d.command r (own_answer b asks d.command (local_of seat.client (file_of d.command))) → IsDoneSo ds k c seat d r place
does_by ds k c seat d r place b asks small none h here begins mine starts may busy answers =
    let f = fixed c (word_of d.command) (file_of d.command) (value_at_begin seat.client (word_of d.command) (file_of d.command) r.1.ended) (k.steps + 1) r none in
    record {
      stays = answers.0;
      deeds = deeds_added ds k.ops k.seats (with_numbered k.seats c (record seat { client = r.0; place = place })) d new h (λ i o at. let lt = begins i o at in let n = f.3 in omega (arith, lt, n)) (record {
        small = small;
        client = f.0 ∙ sym mine;
        word = f.1;
        file = f.2;
        begin = f.3 ∙ sym starts;
        came = subst (λ (l : Option (List ℕ)). Came d new l (own_answer (is_busy k.ops new) (can_go d) d.command l)) (h.locals c seat here (file_of d.command) ∙ ap (λ (z : ℕ). local_from z (file_of d.command) None ds k.ops) (sym mine))
            (subst (λ (a : Bool). Came d new (local_of seat.client (file_of d.command)) (own_answer (is_busy k.ops new) a d.command (local_of seat.client (file_of d.command)))) (sym may)
            (subst (λ (z : Bool). Came d new (local_of seat.client (file_of d.command)) (own_answer z asks d.command (local_of seat.client (file_of d.command)))) (sym busy) one.came));
      }) (λ z e at g. elim (same_or_not z c) [
        | inr apart ↦ h.locals z e (sym (around.others z apart) ∙ at) g ∙ sym (other_client z g d new (λ same. apart (sym same ∙ mine)) (local_from z g None ds k.ops))
        | inl own ↦
            let is : e ≡ record seat { client = r.0; place = place } = some_is e (record seat { client = r.0; place = place }) (sym at ∙ ap (numbered (with_numbered k.seats c (record seat { client = r.0; place = place }))) own ∙ around.there) in
            ap (λ (x : Seat). local_of x.client g) is ∙ its g (same_or_not g (file_of d.command)) ∙ ap (λ (x : ℕ). after_one x g d new (local_from x g None ds k.ops)) (sym own)
      ]);
    }
  where
    new : Op
    new = new_op c (word_of d.command) (file_of d.command) (value_at_begin seat.client (word_of d.command) (file_of d.command) r.1.ended) (k.steps + 1) r

    one : IsOne seat.client d new r (own_answer b asks d.command (local_of seat.client (file_of d.command)))
    one = one_new c (k.steps + 1) seat.client d r (own_answer b asks d.command (local_of seat.client (file_of d.command))) small none answers.1

    file_is : new.file ≡ file_of d.command
    file_is = (fixed c (word_of d.command) (file_of d.command) (value_at_begin seat.client (word_of d.command) (file_of d.command) r.1.ended) (k.steps + 1) r none).2

    its : (g : ℕ) → ((g ≡ file_of d.command) ⊎ (g ≡ file_of d.command → ⊥)) → local_of r.0 g ≡ after_one c g d new (local_from c g None ds k.ops)
    its g (inl same) = ap (local_of r.0) same ∙ one.here ∙ ap (λ (x : ℕ). leaves d.command new.outcome new.value (local_of seat.client x)) (sym same) ∙ ap (leaves d.command new.outcome new.value) (h.locals c seat here g) ∙ sym (its_own c g d new (local_from c g None ds k.ops) mine (file_is ∙ sym same))
    its g (inr apart) = one.others g apart ∙ h.locals c seat here g ∙ sym (other_file c g d new (λ same. apart (sym same ∙ file_is)) (local_from c g None ds k.ops))

    around : Rattle.kept_promise.proofs.Turns.Around k.seats (with_numbered k.seats c (record seat { client = r.0; place = place })) c (record seat { client = r.0; place = place })
    around = around_with k.seats c seat (record seat { client = r.0; place = place }) here

pub does_follows : (book : Book) (ds : List Deed) (k : Core) (qs : List Queue) (c now : ℕ) (seat : Seat) (d : Deed) (place : Option ℕ) → IsSmall d.command → IsKept book k qs → book.ops ≡ k.ops → book.steps ≡ k.steps → HasDeeds ds k.ops k.seats → numbered k.seats c ≡ Some seat → ((i : ℕ) (o : Op) → slice_get k.ops i ≡ Some o → o.begin < k.steps + 1) → d.client ≡ c → d.begin ≡ k.steps + 1
    → can_go d ≡ may_go (clocked seat.client now) d.command → IsDoneSo ds k c seat d (command_step seat.client d.command now) place
does_follows book ds k qs c now seat d place small kept ops steps h here begins mine starts may = by seat.place seat.client.task refl refl (kept.seats c seat here).matched
  where
    r : client.State × ClientStep
    r = command_step seat.client d.command now

    new : Op
    new = new_op c (word_of d.command) (file_of d.command) (value_at_begin seat.client (word_of d.command) (file_of d.command) r.1.ended) (k.steps + 1) r

    none : (command_step seat.client d.command now).1.found ≡ None
    none = command_finds seat.client d.command now small

    f : (let o = new_op c (word_of d.command) (file_of d.command) (value_at_begin seat.client (word_of d.command) (file_of d.command) (command_step seat.client d.command now).1.ended) (k.steps + 1) (command_step seat.client d.command now) in (o.client ≡ c) × (o.word ≡ word_of d.command) × (o.file ≡ file_of d.command) × (o.begin ≡ k.steps + 1))
    f = fixed c (word_of d.command) (file_of d.command) (value_at_begin seat.client (word_of d.command) (file_of d.command) (command_step seat.client d.command now).1.ended) (k.steps + 1) (command_step seat.client d.command now) none

    by : (p : Option ℕ) (task : Option Task) → seat.place ≡ p → seat.client.task ≡ task → IsMatched seat → IsDoneSo ds k c seat d (command_step seat.client d.command now) place
    by None None e g m = does_by ds k c seat d r place false (may_go (clocked seat.client now) d.command) small none h here begins mine starts may (is_free book k qs c seat new kept ops steps here (ap (λ (z : Option ℕ). job_of z seat.client.task) e) f.0 f.3) (free_answers seat.client d.command now small g)
    by (Some p) (Some t) e g m =
        let j : Job = record { place = p; file = t.file; stage = t.stage } in
        does_by ds k c seat d r place true (may_go (clocked seat.client now) d.command) small none h here begins mine starts may (is_occupied book k qs c seat j new kept ops steps here (ap (λ (z : Option ℕ). job_of z seat.client.task) e ∙ ap (job_of (Some p)) g) f.0 f.3) (busy_answers seat.client d.command t now small g)
    by None (Some x) e g (inl m) = nothing_there x (sym m.1 ∙ g)
    by None (Some x) e g (inr m) = nothing_there m.0 (sym (ap (λ (p : Option ℕ). job_of p seat.client.task) e) ∙ m.1)
    by (Some p) None e g (inl m) = nothing_there p (sym m.0 ∙ e)
    by (Some p) None e g (inr m) = nothing_there m.0 (sym (ap (λ (z : Option ℕ). job_of z seat.client.task) e ∙ ap (job_of (Some p)) g) ∙ m.1)
