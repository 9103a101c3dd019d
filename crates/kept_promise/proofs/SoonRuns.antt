-- A run carries that what a success rests on was hashed by its operation's end: no list that is hashed later has a part in it.
use Rattle.std.proofs.Common.{◌⊎◌, inl, inr, ◌≡◌, ℕ, zero, suc, ◌+◌, ◌≤◌, ◌<◌, List, [], ◌∷◌, ◌++◌, Option, Some, None, Bool, true, false, append_assoc, refl, sym, ap, ◌∙◌, subst, arith, map}
use Rattle.client_state.specs.State as client
use Rattle.client_state.specs.declared.step.Ended.{Ended}
use Rattle.client_state.specs.declared.step.Outcome.{Outcome as ClientOutcome}
use Rattle.client_state.specs.declared.step.Outcome.TheVariants as outcome
use Rattle.register_model.specs.declared.op.Outcome.{Outcome}
use Rattle.register_model.specs.declared.op.Outcome.TheVariants as told
use Rattle.register_model.specs.declared.op.Word.TheVariants as words
use Rattle.trace_ends.specs.Ops.{op_ended, file_with}
use Rattle.trace_ends.specs.Session.{taken_of as session_taken}
use Rattle.trace_replay.specs.Causes.{OrBy}
use Rattle.kept_promise.proofs.Common.{nat_tests, nat_le, cond, filter, Contains, Contains-push_cases, slice_get, slice_set, changes, is_untold, ClientStep, Entry, TakenCall, Op, Word, Opening, Core, Event, session_of, ops_after, ops_with, op_after, counted, has_point, point_if, value_of, told_of, happens, Moment, step_of, hashed_of, until, Book, Or, Collides, value_at, Queue, history}
use Rattle.kept_promise.proofs.Lists.{some_is, nothing_there, same_or_not, of_appended, set_else, at_replaced, in_front, true_and_false, map_end}
use Rattle.kept_promise.proofs.Marks.{marks, unpointed, unchanging, marks_appended, marks_neither, marks_same, marks_before, marks_append, too_late}
use Rattle.kept_promise.proofs.Rights.{AreLeased, Caused, Soon, IsRight}
use Rattle.kept_promise.proofs.Facts.{IsKept}
use Rattle.kept_promise.proofs.Growth.{value_alike}
use Rattle.kept_promise.proofs.Wider.{Wider, hashed_wider, wider_more, wider_split}
use Rattle.kept_promise.proofs.RunsCarried.{book_at, moment, Carried, Step}
use Rattle.kept_promise.proofs.Actors.{acts_alone}
use Rattle.kept_promise.proofs.Counted.{first_or_rest, IsActor}
use Rattle.kept_promise.proofs.EntriesGrow.{event_grows}
use Rattle.kept_promise.proofs.OpsAfter.{begun_unchanging, IsActed, OpsAfter, ops_after_event}
use Rattle.kept_promise.proofs.Found.{Quietly}
use Rattle.kept_promise.proofs.Fits.{FitLaws}
use Rattle.kept_promise.proofs.Versions.{raws_more}
use Rattle.register_model.specs.Raw.{op_of}
use Rattle.register_model.specs.declared.raw.Raw.{Raw}

-- ---- those of a list that pass a test

first_is : {A : Type 0} (x : A) (xs : List A) → Contains (x ∷ xs) x
first_is x xs = (zero, omega arith, refl)

later_is : {A : Type 0} (y x : A) (xs : List A) → Contains xs x → Contains (y ∷ xs) x
later_is y x xs h = (suc h.0, (let lt = h.1 in omega (arith, lt)), h.2)

in_filter : {A : Type 0} (f : A → Bool) (xs : List A) (x : A) → f x ≡ true → Contains xs x → Contains (filter f xs) x
in_filter f [] x so h = let lt = h.1 in absurd (omega (arith, lt))
in_filter f (y ∷ xs) x so h = by (in_filter f xs x so) (f y) refl (first_or_rest y xs x h)
  where
    by : (Contains xs x → Contains (filter f xs) x) → (b : Bool) → f y ≡ b → (x ≡ y) ⊎ Contains xs x → Contains (cond b (y ∷ filter f xs) (filter f xs)) x
    by rest true is (inl e) = subst (Contains (y ∷ filter f xs)) (sym e) (first_is y (filter f xs))
    by rest true is (inr r) = later_is y x (filter f xs) (rest r)
    by rest false is (inl e) = absurd (true_and_false (f x) so (ap f e ∙ is))
    by rest false is (inr r) = rest r

of_filter : {A : Type 0} (f : A → Bool) (xs : List A) (x : A) → Contains (filter f xs) x → Contains xs x × (f x ≡ true)
of_filter f [] x h = let lt = h.1 in absurd (omega (arith, lt))
of_filter f (y ∷ xs) x h = by (of_filter f xs x) (f y) refl h
  where
    by : (Contains (filter f xs) x → Contains xs x × (f x ≡ true)) → (b : Bool) → f y ≡ b → Contains (cond b (y ∷ filter f xs) (filter f xs)) x → Contains (y ∷ xs) x × (f x ≡ true)
    by rest true is h = elim (first_or_rest y (filter f xs) x h) [
      | inl e ↦ (subst (Contains (y ∷ xs)) (sym e) (first_is y xs), ap f e ∙ is)
      | inr r ↦ (later_is y x xs (rest r).0, (rest r).1)
    ]
    by rest false is h = (later_is y x xs (rest h).0, (rest h).1)

-- ---- what rests on what was hashed by an operation's end

abbrev ends_by : Op → List Moment → List Moment
ends_by o ms = filter (λ m. until o.end (step_of m)) ms

collides_in : (few more : List Moment) → Wider few more → Collides (hashed_of few) → Collides (hashed_of more)
collides_in few more wider c = record { a = c.a; b = c.b; first = hashed_wider few more wider c.a c.first; second = hashed_wider few more wider c.b c.second; same = c.same; apart = c.apart }

by_wider : (o : Op) (few more : List Moment) → Wider few more → Wider (ends_by o few) (ends_by o more)
by_wider o few more wider m h = let w = of_filter (λ z. until o.end (step_of z)) few m h in in_filter (λ z. until o.end (step_of z)) more m w.1 (wider m w.0)

or_by_later : (book more : Book) (o : Op) (P Q : Type 0) → Wider book.moments more.moments → (P → Q) → OrBy book o P → OrBy more o Q
or_by_later book more o P Q wider f (inl p) = inl (f p)
or_by_later book more o P Q wider f (inr c) = inr (collides_in (ends_by o book.moments) (ends_by o more.moments) (by_wider o book.moments more.moments wider) c)

-- all these moments are by its end
abbrev AreBy : Op → List Moment → Type 0
AreBy o ms = (m : Moment) → Contains ms m → until o.end (step_of m) ≡ true

or_now : (book : Book) (o : Op) (P : Type 0) → AreBy o book.moments → Or book P → OrBy book o P
or_now book o P all_by (inl p) = inl p
or_now book o P all_by (inr c) = inr (collides_in book.moments (ends_by o book.moments) (λ m at. in_filter (λ z. until o.end (step_of z)) book.moments m (all_by m at) at) c)

soon_now : (book : Book) (o : Op) (u : Outcome) → AreBy o book.moments → AreLeased book.moments → Caused book o u → Soon book o u
soon_now book o (told.Opened len digest) all_by leased h = (h.1.point, h.1.within.0, or_now book o (value_at book o.file h.1.point ≡ Some o.value) all_by (h.1.value_is leased))
soon_now book o (told.Closed version len digest) all_by leased h =
    let e = h.1.entered in
    (h.1.point, h.1.within.0, record { place = e.place; entry = e.entry; step_is = e.step_is; entry_is = e.entry_is; file_is = e.file_is; version_is = e.version_is; len_is = e.len_is; digest_is = or_now book o (e.entry.sha1 ≡ digest) all_by e.digest_is })
soon_now book o _ all_by leased h = tt

-- one whose change may yet be made has no success of this kind
soon_untold : (book : Book) (o : Op) (u : Outcome) → is_untold u ≡ true → Soon book o u
soon_untold book o (told.Opened len digest) e = absurd cc
soon_untold book o (told.Closed version len digest) e = absurd cc
soon_untold book o _ e = tt

-- ---- what changes were made stays so

abbrev MarksStay : (steps : ℕ) → (ops after : List Op) → Type 0
MarksStay n ops after = (f p : ℕ) → p ≤ n + 1 → marks f p after ≡ marks f p ops

no_point : (w : Word) (u : ClientOutcome) → changes w ≡ true → has_point w u ≡ false
no_point words.Close u e = refl
no_point words.Make u e = refl
no_point words.Remove u e = refl
no_point words.Rename u e = refl
no_point _ u e = absurd cc

marks_replaced : (f p : ℕ) (ops : List Op) (j : ℕ) (o r : Op) → slice_get ops j ≡ Some o → r.word ≡ o.word → (changes o.word ≡ true → (r.file ≡ o.file) × (r.point ≡ o.point) × (r.value ≡ o.value)) → marks f p (slice_set ops j r) ≡ marks f p ops
marks_replaced f p ops j o r at word same = by (changes o.word) refl
  where
    by : (b : Bool) → changes o.word ≡ b → marks f p (slice_set ops j r) ≡ marks f p ops
    by true is = let s = same is in marks_same f p ops j o r at word s.0 s.1 s.2
    by false is = marks_neither f p ops j o r at (unchanging f p o is) (unchanging f p r (ap changes word ∙ is))

-- before its end is told
abbrev moved : Op → ClientStep → (found : Option ℕ) → Op
moved o acts found = record o { file = file_with o.file found; traffic = counted o.traffic acts.counts }

after_word : (o : Op) (c : client.State) (taken : List TakenCall) (n : ℕ) (acts : ClientStep) → (op_after o c taken n acts).word ≡ o.word
after_word o c taken n acts = by acts.ended
  where
    by : (e : Option Ended) → (op_ended (moved o acts acts.found) c taken n e).word ≡ o.word
    by None = refl
    by (Some e) = refl

-- a step of its client changes nothing of a change, where it doesn't open it, and finds it no file
after_same : (o : Op) (c : client.State) (taken : List TakenCall) (n : ℕ) (acts : ClientStep) → changes o.word ≡ true → Quietly acts o.word → ((len : ℕ) (digest : List ℕ) → (op_after o c taken n acts).outcome ≡ told.Opened len digest → ⊥)
    → ((op_after o c taken n acts).file ≡ o.file) × ((op_after o c taken n acts).point ≡ o.point) × ((op_after o c taken n acts).value ≡ o.value)
after_same o c taken n acts change (inr never) unopened = absurd (true_and_false (changes o.word) change never)
after_same o c taken n acts change (inl none) unopened = by acts.found none acts.ended unopened
  where
    value : (u : ClientOutcome) → ((len : ℕ) (digest : List ℕ) → told_of u ≡ told.Opened len digest → ⊥) → value_of o.value c u ≡ o.value
    value (outcome.Opened file len sha1) apart = absurd (apart len sha1 refl)
    value _ apart = refl

    by : (g : Option ℕ) → g ≡ None → (e : Option Ended) → ((len : ℕ) (digest : List ℕ) → (op_ended (moved o acts g) c taken n e).outcome ≡ told.Opened len digest → ⊥)
        → ((op_ended (moved o acts g) c taken n e).file ≡ o.file) × ((op_ended (moved o acts g) c taken n e).point ≡ o.point) × ((op_ended (moved o acts g) c taken n e).value ≡ o.value)
    by (Some i) is e apart = nothing_there i (sym is)
    by None is None apart = (refl, refl, refl)
    by None is (Some e) apart = (refl, ap (λ b. point_if b taken e.rests_on n o.point) (no_point o.word e.outcome change), value e.outcome apart)

-- an operation that is told to be open is an open
open_unchanging : (book : Book) (o : Op) (len : ℕ) (digest : List ℕ) → o.outcome ≡ told.Opened len digest → Caused book o o.outcome → changes o.word ≡ true → ⊥
open_unchanging book o len digest is h change = by (subst (Caused book o) is h).0
  where
    by : o.word ≡ words.Open → ⊥
    by open_ = true_and_false (changes o.word) change (ap changes open_)

-- ---- an event

ends_now : (o : Op) (c : client.State) (taken : List TakenCall) (n : ℕ) (acts : ClientStep) (step : ℕ) → o.end ≡ None → step ≤ n → until (op_after o c taken n acts).end step ≡ true
ends_now o c taken n acts step running le = by acts.ended
  where
    by : (e : Option Ended) → until (op_ended (moved o acts acts.found) c taken n e).end step ≡ true
    by None = ap (λ e. until e step) running
    by (Some e) = grind (arith, nat_tests, le)

marks_event : (book more : Book) (k : Core) (qs : List Queue) (e : Event) (after : List Op) → IsKept book k qs → more.ops ≡ after → ((p : ℕ) (o : Op) → slice_get after p ≡ Some o → IsRight more o) → OpsAfter e k after → MarksStay k.steps k.ops after
marks_event book more k qs e after kept ops rights (inl same) f p le = ap (marks f p) same
marks_event book more k qs e after kept ops rights (inr (inl n)) f p le = ap (marks f p) n.is ∙ marks_appended f p k.ops n.new (begun_unchanging n f p)
marks_event book more k qs e after kept ops rights (inr (inr (inr (inl same)))) f p le = ap (marks f p) same
marks_event book more k qs e after kept ops rights (inr (inr (inr (inr m)))) f p le = ap (marks f p) m.is ∙ marks_before f p (k.steps + 1) k.ops m.place m.op (record m.op { file = m.file; point = Some (k.steps + 1) }) m.there m.unmade.1 refl le
marks_event book more k qs e after kept ops rights (inr (inr (inl a))) f p le = ap (marks f p) a.is ∙ placed a.seat.place refl
  where
    taken : List TakenCall
    taken = session_taken (session_of k.sessions a.seat.session)

    placed : (place : Option ℕ) → a.seat.place ≡ place → marks f p (ops_with k.ops place a.after taken (k.steps + 1) a.acts) ≡ marks f p k.ops
    placed None is = refl
    placed (Some j) is = there (slice_get k.ops j) refl
      where
        there : (q : Option Op) → slice_get k.ops j ≡ q → marks f p (ops_after k.ops j q a.after taken (k.steps + 1) a.acts) ≡ marks f p k.ops
        there None at = refl
        there (Some o) at =
            let r = op_after o a.after taken (k.steps + 1) a.acts in
            let mine : slice_get after j ≡ Some r = ap (λ (l : List Op). slice_get l j) (a.is ∙ ap (λ z. ops_with k.ops z a.after taken (k.steps + 1) a.acts) is ∙ ap (λ z. ops_after k.ops j z a.after taken (k.steps + 1) a.acts) at) ∙ at_replaced k.ops j r o at in
            let word = after_word o a.after taken (k.steps + 1) a.acts in
            marks_replaced f p k.ops j o r at word (λ change. after_same o a.after taken (k.steps + 1) a.acts change (a.finds j o is at) (λ len digest opened. open_unchanging more r len digest opened (rights j r mine).cause (ap changes word ∙ change)))

-- an operation is there as it was, or what its success rests on was hashed by now
now_soon : (book more : Book) (k : Core) (qs : List Queue) (e : Event) (after : List Op) → IsKept book k qs → ((p : ℕ) (o : Op) → slice_get after p ≡ Some o → IsRight more o) → AreLeased more.moments → ((m : Moment) → Contains more.moments m → step_of m ≤ k.steps + 1) → OpsAfter e k after
    → (p : ℕ) (o : Op) → slice_get after p ≡ Some o → (slice_get k.ops p ≡ Some o) ⊎ Soon more o o.outcome
now_soon book more k qs e after kept rights leased steps (inl same) p o at = inl (ap (λ (l : List Op). slice_get l p) (sym same) ∙ at)
now_soon book more k qs e after kept rights leased steps (inr (inl n)) p o at = elim (of_appended k.ops n.new p o (ap (λ (l : List Op). slice_get l p) (sym n.is) ∙ at)) [
  | inl last ↦ inr (soon_now more o o.outcome (λ m there. ap (λ (z : Op). until z.end (step_of m)) last.1 ∙ n.by (step_of m) (steps m there)) leased (rights p o at).cause)
  | inr old ↦ inl old
]
now_soon book more k qs e after kept rights leased steps (inr (inr (inr (inl same)))) p o at = inl (ap (λ (l : List Op). slice_get l p) (sym same) ∙ at)
now_soon book more k qs e after kept rights leased steps (inr (inr (inr (inr m)))) p o at = elim (same_or_not p m.place) [
  | inr apart ↦ inl (sym (set_else k.ops m.place p (record m.op { file = m.file; point = Some (k.steps + 1) }) apart) ∙ ap (λ (l : List Op). slice_get l p) (sym m.is) ∙ at)
  | inl same ↦
      let is : record m.op { file = m.file; point = Some (k.steps + 1) } ≡ o = some_is _ o (sym (at_replaced k.ops m.place (record m.op { file = m.file; point = Some (k.steps + 1) }) m.op m.there) ∙ ap (λ i. slice_get (slice_set k.ops m.place (record m.op { file = m.file; point = Some (k.steps + 1) })) i) (sym same) ∙ ap (λ (l : List Op). slice_get l p) (sym m.is) ∙ at) in
      inr (soon_untold more o o.outcome (ap (λ (z : Op). is_untold z.outcome) (sym is) ∙ m.unmade.2))
]
now_soon book more k qs e after kept rights leased steps (inr (inr (inl a))) p o at = placed a.seat.place refl
  where
    taken : List TakenCall
    taken = session_taken (session_of k.sessions a.seat.session)

    placed : (place : Option ℕ) → a.seat.place ≡ place → (slice_get k.ops p ≡ Some o) ⊎ Soon more o o.outcome
    placed None is = inl (ap (λ (l : List Op). slice_get l p) (sym (a.is ∙ ap (λ z. ops_with k.ops z a.after taken (k.steps + 1) a.acts) is)) ∙ at)
    placed (Some j) is = there (slice_get k.ops j) refl
      where
        there : (q : Option Op) → slice_get k.ops j ≡ q → (slice_get k.ops p ≡ Some o) ⊎ Soon more o o.outcome
        there None found = inl (ap (λ (l : List Op). slice_get l p) (sym (a.is ∙ ap (λ z. ops_with k.ops z a.after taken (k.steps + 1) a.acts) is ∙ ap (λ z. ops_after k.ops j z a.after taken (k.steps + 1) a.acts) found)) ∙ at)
        there (Some q) found =
            let r = op_after q a.after taken (k.steps + 1) a.acts in
            let ops : after ≡ slice_set k.ops j r = a.is ∙ ap (λ z. ops_with k.ops z a.after taken (k.steps + 1) a.acts) is ∙ ap (λ z. ops_after k.ops j z a.after taken (k.steps + 1) a.acts) found in
            elim (same_or_not p j) [
              | inr apart ↦ inl (sym (set_else k.ops j p r apart) ∙ ap (λ (l : List Op). slice_get l p) (sym ops) ∙ at)
              | inl same ↦
                  let its : r ≡ o = some_is r o (sym (at_replaced k.ops j r q found) ∙ ap (slice_get (slice_set k.ops j r)) (sym same) ∙ ap (λ (l : List Op). slice_get l p) (sym ops) ∙ at) in
                  let own = (acts_alone book k qs a.index a.seat kept a.here).own j q is found in
                  inr (soon_now more o o.outcome (λ m there. ap (λ (z : Op). until z.end (step_of m)) (sym its) ∙ ends_now q a.after taken (k.steps + 1) a.acts (step_of m) own.1 (steps m there)) leased (rights p o at).cause)
            ]

-- so do those that others made
others_stay : (k : Core) (e : Event) (f p : ℕ) → p ≤ k.steps + 1 → marks f p (map op_of (happens k e).core.raws) ≡ marks f p (map op_of k.raws)
others_stay k e f p le = elim (raws_more k e) [
  | inl same ↦ ap (λ (l : List Raw). marks f p (map op_of l)) same
  | inr new ↦
      ap (λ (l : List Raw). marks f p (map op_of l)) new.1
      ∙ ap (marks f p) (map_end op_of k.raws new.0)
      ∙ marks_appended f p (map op_of k.raws) (op_of new.0) (too_late f p (k.steps + 1) (op_of new.0) (ap (λ (n : ℕ). Some n) new.2) le)
]

marks_all : (k : Core) (e : Event) (ops : List Op) (f p : ℕ) → p ≤ k.steps + 1 → marks f p ops ≡ marks f p k.ops → marks f p (ops ++ map op_of (happens k e).core.raws) ≡ marks f p (k.ops ++ map op_of k.raws)
marks_all k e ops f p le own =
    marks_append f p ops (map op_of (happens k e).core.raws)
    ∙ ap (λ l. l ++ marks f p (map op_of (happens k e).core.raws)) own
    ∙ ap (λ l. marks f p k.ops ++ l) (others_stay k e f p le)
    ∙ sym (marks_append f p k.ops (map op_of k.raws))

-- what was told so stays so
soon_later : (book more : Book) (o : Op) (u : Outcome) → more.opening ≡ book.opening → ((f p : ℕ) → p ≤ book.steps + 1 → marks f p (history more).ops ≡ marks f p (history book).ops) → ((p : ℕ) → o.point ≡ Some p → p ≤ book.steps)
    → ((j p : ℕ) → slice_get book.entries j ≡ Some p → slice_get more.entries j ≡ Some p) → ((j : ℕ) (e : Entry) → slice_get book.journal j ≡ Some e → slice_get more.journal j ≡ Some e) → Wider book.moments more.moments → Soon book o u → Soon more o u
soon_later book more o (told.Opened len digest) opening stay past entries journal wider h =
    let le = past h.0 h.1 in
    (h.0, h.1, or_by_later book more o _ _ wider (λ e. value_alike book more o.file h.0 h.0 opening (stay o.file h.0 (omega (arith, le))) ∙ e) h.2)
soon_later book more o (told.Closed version len digest) opening stay past entries journal wider h =
    let e = h.2 in
    (h.0, h.1, record { place = e.place; entry = e.entry; step_is = entries e.place h.0 e.step_is; entry_is = journal e.place e.entry e.entry_is; file_is = e.file_is; version_is = e.version_is; len_is = e.len_is; digest_is = or_by_later book more o _ _ wider (λ q. q) e.digest_is })
soon_later book more o _ opening stay past entries journal wider h = tt

leased_in : (few more : List Moment) → Wider few more → AreLeased more → AreLeased few
leased_in few more wider leased m c now f seat kept there = leased m c now f seat kept (wider m there)

-- ---- a run

pub record AllSoon (all past : List Moment) (opening : List Opening) (k : Core) (qs : List Queue) : Type 0 where
  pub steps : (m : Moment) → Contains past m → step_of m ≤ k.steps + 1
  pub each : AreLeased all → (p : ℕ) (o : Op) → slice_get k.ops p ≡ Some o → Soon (book_at opening k past) o o.outcome

pub carried_soon : FitLaws → Carried AllSoon
carried_soon fits = record {
  first = λ all opening tree count kept. record { steps = λ m there. (let lt = there.1 in absurd (omega (arith, lt))); each = λ leased p o at. nothing_there o at };
  steps = λ all past rest opening k qs e mid after s h. event fits all past rest opening k qs e mid after s h;
  adjusts = λ all past opening k qs index seats same h. record { steps = h.steps; each = h.each };
}
  where
    event : FitLaws → (all past rest : List Moment) (opening : List Opening) (k : Core) (qs : List Queue) (e : Event) (mid after : List Queue) → Step all past rest opening k qs e mid after → AllSoon all past opening k qs → AllSoon all (past ++ moment k e ∷ []) opening (happens k e).core after
    event fits all past rest opening k qs e mid after s h = record {
      steps = λ m there. (let le = bound m there in omega (arith, le, passes));
      each = λ leased p o at. elim (now_soon before later k qs e (happens k e).core.ops s.early rights (leased_in now all within leased) bound becomes p o at) [
        | inr new ↦ new
        | inl old ↦ soon_later before later o o.outcome refl (λ f q le. marks_all k e (happens k e).core.ops f q le (marks_event before later k qs e (happens k e).core.ops s.early refl rights becomes f q le)) (λ q is. ((s.early.sound.rights p o old).pointed q is).1) grown.0 grown.1 (wider_more past (moment k e ∷ [])) (h.each leased p o old)
      ];
    }
      where
        now : List Moment
        now = past ++ moment k e ∷ []

        before : Book
        before = book_at opening k past

        later : Book
        later = book_at opening (happens k e).core now

        becomes : OpsAfter e k (happens k e).core.ops
        becomes = (ops_after_event fits all past rest opening k qs e mid after s).0

        passes : k.steps ≤ (happens k e).core.steps
        passes = (ops_after_event fits all past rest opening k qs e mid after s).1

        rights : (p : ℕ) (o : Op) → slice_get (happens k e).core.ops p ≡ Some o → IsRight later o
        rights p o at = s.left_early.sound.rights p o at

        within : Wider now all
        within = wider_split all now rest (s.split ∙ sym (append_assoc past (moment k e ∷ []) rest))

        bound : (m : Moment) → Contains now m → step_of m ≤ k.steps + 1
        bound m there = elim (Contains-push_cases past (moment k e) m there) [
          | inl old ↦ h.steps m old
          | inr is ↦ (let same : step_of (moment k e) ≡ step_of m = ap step_of is in omega (arith, same))
        ]

        grown : ((j p : ℕ) → slice_get k.entries j ≡ Some p → slice_get (happens k e).core.entries j ≡ Some p) × ((j : ℕ) (d : Entry) → slice_get k.server.journal j ≡ Some d → slice_get (happens k e).core.server.journal j ≡ Some d)
        grown = elim (event_grows k e).journal [
          | inl same ↦ (λ j p at. ap (λ (l : List ℕ). slice_get l j) same.1 ∙ at, λ j d at. ap (λ (l : List Entry). slice_get l j) same.0 ∙ at)
          | inr g ↦ (λ j p at. ap (λ (l : List ℕ). slice_get l j) g.entries_is ∙ in_front k.entries _ j p at, λ j d at. ap (λ (l : List Entry). slice_get l j) g.journal_is ∙ in_front k.server.journal g.new j d at)
        ]
