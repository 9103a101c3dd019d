-- The commands of a run and their operations are carried through its events.
use Rattle.std.proofs.Common.{◌⊎◌, inl, inr, ◌≡◌, ℕ, zero, suc, ◌+◌, ◌*◌, ◌<◌, ◌≤◌, List, [], ◌∷◌, ◌++◌, length, Option, Some, None, Bool, true, false, refl, sym, ap, ◌∙◌, subst, arith, append-nil, eq-eqb, ne_eqb, replicate, Result, Ok}
use Rattle.command_text.specs.declared.command.Command.TheVariants as command
use Rattle.server_core.specs.State as server
use Rattle.client_state.specs.State as client
use Rattle.client_state.specs.declared.task.Stage.TheVariants as stage
use Rattle.path_calls.specs.declared.walk.Walk.{Walk}
use Rattle.client_state.specs.declared.step.Outcome.TheVariants as outcome
use Rattle.register_model.specs.declared.op.Word.TheVariants as words
use Rattle.transfer_rules.specs.Limits.{calls_most}
use Rattle.kept_promise.proofs.Common.{Indexed, slice_get, slice_set, ◌==◌, Command, Message, WireFault, command_step, got_step, joined, cut, ended_by, ClientStep, Ended, Task, Op, Opening, word_of, file_of, value_at_begin, Core, Seat, new_seat, Session, Event, Event.Joins, Event.Does, Event.Hears, Event.Cuts, CoreStep, numbered, with_numbered, acted, hears, does, joins, cuts_if, happens, place_with, Moment, Deed, deed_by, deeds_of, joined_by, joined_from, owner_in, calls_among, sent_if, calls_by, calls_from, Book, Queue, Tree, after_one, is_untold, told_message}
use Rattle.kept_promise.proofs.Lists.{some_is, nothing_there, same_or_not, of_appended, within, true_and_false}
use Rattle.kept_promise.proofs.Keys.{own}
use Rattle.kept_promise.proofs.Turns.{around_with, also_numbered, owned_uncut}
use Rattle.kept_promise.proofs.Facts.{IsMatched, IsKept, is_naming}
use Rattle.kept_promise.proofs.Adjusts.{SameSeats, adjusted_core}
use Rattle.kept_promise.proofs.RunsCarried.{Header, book_at, first_core, moment, Step, Carried}
use Rattle.kept_promise.proofs.Leaving.{Leaves, step_left, step_idle}
use Rattle.kept_promise.proofs.Numbering.{got_number, command_number, calls_more, no_calls, other_calls, own_calls}
use Rattle.kept_promise.proofs.Locally.{deeds_more, joined_more, idles_by, leaves_untold}
use Rattle.kept_promise.proofs.Deeds.{also_there, local_of, HasDeeds, Moved, AllMoved, all_same, stays_by, all_stay, deeds_moved, IsOnNames, stays_named, StaysBy, IsDeed}
use Rattle.kept_promise.proofs.Ways.{HasWays, InDeeds, stage_case, job_parts, command_goes, ways_added, ways_acted}
use Rattle.kept_promise.proofs.WalkLeaves.{OpensNow, EndsNeither, walk_left, got_file}
use Rattle.client_state.specs.Noting.{at as clocked}
use Rattle.client_state.specs.Ending.{may_ask}
use Rattle.trace_replay.specs.Trail.{is_fresh_for}
use Rattle.kept_promise.proofs.Answering.{fresh_by, may_go}
use Rattle.kept_promise.proofs.Common.{◌||◌, can_ask}
use Rattle.kept_promise.proofs.StepCases.{IsOfFile}
use Rattle.kept_promise.proofs.Messages.{job, job_of, stage_word}
use Rattle.kept_promise.proofs.Acting.{all_set, stay_set, HasWord, caused_word, locals_with, Acts, acted_follows, set_same}
use Rattle.kept_promise.proofs.Doing.{with_end, asks_by, new_op, fixed, does_follows}
use Rattle.kept_promise.proofs.Found.{got_finds, cut_finds, command_finds}
use Rattle.kept_promise.proofs.PathNames.{IsSmall}
use Rattle.kept_promise.proofs.Fits.{FitLaws}
use Rattle.kept_promise.proofs.MakingGoals.{file_unnamed}
use Rattle.kept_promise.proofs.Rights.{gets_file}
use Rattle.kept_promise.proofs.EventCases.{IsChange, Remembers, Settled, IsIdle, joins_now, event_turns, cuts_unsent}
use Rattle.kept_promise.proofs.Actors.{Heard, heard_acts}
use Rattle.register_model.specs.declared.op.Word.{Word}

-- ---- what is carried

pub record IsFollowed (past : List Moment) (k : Core) : Type 0 where
  pub deeds : HasDeeds (deeds_of past) k.ops k.seats
  pub joined : (c : ℕ) (seat : Seat) → numbered k.seats c ≡ Some seat → seat.client.linked ≡ joined_from c false past
  pub next : (c : ℕ) (seat : Seat) → numbered k.seats c ≡ Some seat → seat.client.next_xid ≤ calls_most * k.steps + 1
  pub calls : (c : ℕ) (seat : Seat) → numbered k.seats c ≡ Some seat → seat.client.next_xid ≡ calls_from c 0 past + 1
  pub few : (i : ℕ) (d : Deed) → slice_get (deeds_of past) i ≡ Some d → d.calls ≤ calls_most * d.begin
  pub ways : HasWays (deeds_of past) k.seats

-- what an event leaves of the operations: each goes on, or there is one more
abbrev pub OpsAfter : Core → List Op → Type 0
OpsAfter k rs = AllMoved (k.steps + 1) k.ops rs ⊎ ((new : Op) × (rs ≡ k.ops ++ new ∷ []) × (new.begin ≡ k.steps + 1))

pub record Goes (past : List Moment) (k : Core) (e : Event) (after : Core) : Type 0 where
  pub followed : IsFollowed (past ++ moment k e ∷ []) after
  pub ops : OpsAfter k after.ops
  -- but by a command there is none more
  pub moved : deed_by past k e ≡ [] → AllMoved (k.steps + 1) k.ops after.ops
  pub passes : k.steps ≤ after.steps

-- ---- before the first event

replicated : {A : Type 0} (n i : ℕ) (x y : A) → slice_get (replicate n x) i ≡ Some y → y ≡ x
replicated zero i x y e = nothing_there y e
replicated (suc n) zero x y e = sym (some_is x y e)
replicated (suc n) (suc i) x y e = replicated n i x y e

pub seat_first : (drift lbfs count c : ℕ) (seat : Seat) → numbered (replicate count (new_seat drift lbfs)) c ≡ Some seat → seat ≡ new_seat drift lbfs
seat_first drift lbfs count zero seat e = nothing_there seat e
seat_first drift lbfs count (suc c) seat e = replicated count c (new_seat drift lbfs) seat e

pub followed_first : (tree : Tree) (count : Header) → IsFollowed [] (first_core tree count)
unfolding calls_most
followed_first tree count = record {
  deeds = record {
    count = refl;
    rising = λ i j o q lt a b. nothing_there o a;
    each = λ i d o a b. nothing_there d a;
    locals = λ c seat at f. ap (λ (x : Seat). local_of x.client f) (seat_first count.drift count.lbfs count.count c seat at);
  };
  joined = λ c seat at. ap (λ (x : Seat). x.client.linked) (seat_first count.drift count.lbfs count.count c seat at);
  next = λ c seat at. let n = ap (λ (x : Seat). x.client.next_xid) (seat_first count.drift count.lbfs count.count c seat at) in omega (arith, n);
  calls = λ c seat at. ap (λ (x : Seat). x.client.next_xid) (seat_first count.drift count.lbfs count.count c seat at);
  few = λ i d at. nothing_there d at;
  ways = λ c seat j d at is there. nothing_there d there;
}

-- ---- an event that is no command

pub no_deed : (past : List Moment) (k : Core) (e : Event) → deed_by past k e ≡ [] → deeds_of (past ++ moment k e ∷ []) ≡ deeds_of past
no_deed past k e none = deeds_more past (moment k e) ∙ ap (λ l. deeds_of past ++ l) none ∙ append-nil (deeds_of past)

pub begins : (opening : List Opening) (k : Core) (all : List Moment) (qs : List Queue) → IsKept (book_at opening k all) k qs → (i : ℕ) (o : Op) → slice_get k.ops i ≡ Some o → o.begin < k.steps + 1
begins opening k all qs kept i o at = let le = (kept.sound.rights i o at).begun in omega (arith, le)

goes_by : (past : List Moment) (k : Core) (e : Event) (after : Core) → IsFollowed past k → deed_by past k e ≡ [] → AllMoved (k.steps + 1) k.ops after.ops → HasDeeds (deeds_of past) after.ops after.seats → HasWays (deeds_of past) after.seats → k.steps ≤ after.steps
    → ((c : ℕ) (seat : Seat) → numbered after.seats c ≡ Some seat → seat.client.linked ≡ joined_by c (joined_from c false past) e)
    → ((c : ℕ) (seat : Seat) → numbered after.seats c ≡ Some seat → seat.client.next_xid ≤ calls_most * after.steps + 1)
    → ((c : ℕ) (seat : Seat) → numbered after.seats c ≡ Some seat → seat.client.next_xid ≡ calls_by c (calls_from c 0 past) (moment k e) + 1)
    → Goes past k e after
goes_by past k e after h none moved deeds ways passes links nexts calls = record {
  followed = record {
    deeds = subst (λ (ds : List Deed). HasDeeds ds after.ops after.seats) (sym (no_deed past k e none)) deeds;
    joined = λ c seat at. links c seat at ∙ sym (joined_more c false past (moment k e));
    next = nexts;
    calls = λ c seat at. calls c seat at ∙ ap (λ n. n + 1) (sym (calls_more c 0 past (moment k e)));
    few = subst (λ (ds : List Deed). (i : ℕ) (d : Deed) → slice_get ds i ≡ Some d → d.calls ≤ calls_most * d.begin) (sym (no_deed past k e none)) h.few;
    ways = subst (λ (ds : List Deed). HasWays ds after.seats) (sym (no_deed past k e none)) ways;
  };
  ops = inl moved;
  moved = λ z. moved;
  passes = passes;
}

-- clients with other indexes, clocks, or contents that are kept
deeds_same : (ds : List Deed) (ops : List Op) (seats after : List Seat) → SameSeats seats after → HasDeeds ds ops seats → HasDeeds ds ops after
deeds_same ds ops seats after same h = record { count = h.count; rising = h.rising; each = h.each; locals = λ c e at f. let w = same.was c e at in ap (λ (z : Seat). local_of z.client f) w.4 ∙ h.locals c w.0 w.3 f }

ways_same : (ds : List Deed) (seats after : List Seat) → SameSeats seats after → HasWays ds seats → HasWays ds after
ways_same ds seats after same h = λ c e j d at is there. let w = same.was c e at in h c w.0 j d w.3 (ap job (sym w.4) ∙ is) there

idle_links : (past : List Moment) (k : Core) (e : Event) (t : CoreStep) → IsIdle k e t → IsFollowed past k → (c : ℕ) (seat : Seat) → numbered t.core.seats c ≡ Some seat → seat.client.linked ≡ joined_by c (joined_from c false past) e
idle_links past k e t i h c seat at = let w = i.seats.was c seat at in ap (λ (z : Seat). z.client.linked) w.4 ∙ i.links c w.0 w.3 ∙ ap (λ b. joined_by c b e) (h.joined c w.0 w.3)

idle_calls : (past : List Moment) (k : Core) (e : Event) (t : CoreStep) → IsIdle k e t → IsFollowed past k → (c : ℕ) (seat : Seat) → numbered t.core.seats c ≡ Some seat → seat.client.next_xid ≡ calls_by c (calls_from c 0 past) (moment k e) + 1
idle_calls past k e t i h c seat at = let w = i.seats.was c seat at in ap (λ (z : Seat). z.client.next_xid) w.4 ∙ h.calls c w.0 w.3 ∙ ap (λ n. n + 1) (sym (i.uncalled c (calls_from c 0 past)))

-- the operations and the clients are as they were
goes_same : (past : List Moment) (k : Core) (e : Event) (t : CoreStep) → IsIdle k e t → IsFollowed past k → t.core.ops ≡ k.ops → Goes past k e t.core
unfolding calls_most
goes_same past k e t i h ops =
    let passes = i.still.passes in
    goes_by past k e t.core h (i.still.deedless past) (subst (AllMoved (k.steps + 1) k.ops) (sym ops) (all_same (k.steps + 1) k.ops)) (subst (λ (l : List Op). HasDeeds (deeds_of past) l t.core.seats) (sym ops) (deeds_same (deeds_of past) k.ops k.seats t.core.seats i.seats h.deeds)) (ways_same (deeds_of past) k.seats t.core.seats i.seats h.ways) passes
    (λ c seat at. idle_links past k e t i h c seat at)
    (λ c seat at. let w = i.seats.was c seat at in let n = h.next c w.0 w.3 in let same = ap (λ (z : Seat). z.client.next_xid) w.4 in omega (arith, n, same, passes))
    (λ c seat at. idle_calls past k e t i h c seat at)

-- ---- a client joins

goes_joins : (past : List Moment) (opening : List Opening) (all : List Moment) (k : Core) (qs : List Queue) (c : ℕ) (seat : Seat) → IsKept (book_at opening k all) k qs → IsFollowed past k → numbered k.seats c ≡ Some seat → Goes past k (Joins c) (joins_now k c seat).core
unfolding calls_most
goes_joins past opening all k qs c seat kept h at =
    goes_by past k (Joins c) after h refl (all_same (k.steps + 1) k.ops)
    (deeds_moved (k.steps + 1) (deeds_of past) k.ops k.ops k.seats after.seats h.deeds (begins opening k all qs kept) (all_same (k.steps + 1) k.ops) (all_stay (deeds_of past) k.ops) (locals_with (deeds_of past) k.ops k.seats c seat now at (h.deeds.locals c seat at) (λ z e apart is. h.deeds.locals z e is)))
    (λ z e j d is has has_deed. elim (same_or_not z c) [
      | inl own ↦ h.ways c seat j d at (ap job (sym (there z e own is)) ∙ has) has_deed
      | inr apart ↦ h.ways z e j d (sym (around.others z apart) ∙ is) has has_deed
    ])
    (omega arith)
    (λ z e is. elim (same_or_not z c) [
      | inl own ↦ ap (λ (x : Seat). x.client.linked) (there z e own is) ∙ sym (ap (λ b. elim b as (λ (y : Bool). Bool) [ true ↦ true | false ↦ joined_from z false past ]) (eq-eqb c z (sym own)))
      | inr apart ↦ h.joined z e (sym (around.others z apart) ∙ is) ∙ sym (ap (λ b. elim b as (λ (y : Bool). Bool) [ true ↦ true | false ↦ joined_from z false past ]) (ne_eqb c z (λ q. apart (sym q))))
    ])
    (λ z e is. elim (same_or_not z c) [
      | inl own ↦ let n = ap (λ (x : Seat). x.client.next_xid) (there z e own is) in omega (arith, n)
      | inr apart ↦ let n = h.next z e (sym (around.others z apart) ∙ is) in omega (arith, n)
    ])
    (λ z e is. elim (same_or_not z c) [
      | inl own ↦ ap (λ (x : Seat). x.client.next_xid) (there z e own is) ∙ sym (ap (λ b. elim b as (λ (y : Bool). ℕ) [ true ↦ 0 | false ↦ calls_from z 0 past ] + 1) (eq-eqb c z (sym own)))
      | inr apart ↦ h.calls z e (sym (around.others z apart) ∙ is) ∙ sym (ap (λ b. elim b as (λ (y : Bool). ℕ) [ true ↦ 0 | false ↦ calls_from z 0 past ] + 1) (ne_eqb c z (λ q. apart (sym q))))
    ])
  where
    after : Core
    after = (joins_now k c seat).core

    now : Seat
    now = record seat { client = joined seat.client; session = Some (k.server.sessions_made + 1) }

    around : Rattle.kept_promise.proofs.Turns.Around k.seats (with_numbered k.seats c now) c now
    around = around_with k.seats c seat now at

    there : (z : ℕ) (e : Seat) → z ≡ c → numbered (with_numbered k.seats c now) z ≡ Some e → e ≡ now
    there z e own is = some_is e now (sym is ∙ ap (numbered (with_numbered k.seats c now)) own ∙ around.there)

-- ---- a change is made

-- one operation takes the place of another that leaves the same
goes_set : (past : List Moment) (opening : List Opening) (all : List Moment) (k : Core) (qs : List Queue) (e : Event) (t : CoreStep) (p : ℕ) (q r : Op) → IsKept (book_at opening k all) k qs → IsFollowed past k → IsIdle k e t → slice_get k.ops p ≡ Some q → Moved (k.steps + 1) q r
    → ((d : Deed) → IsDeed (deeds_of past) k.ops p d q → StaysBy d.command q r) → ((d : Deed) (c f : ℕ) (l : Option (List ℕ)) → after_one c f d r l ≡ after_one c f d q l)
    → t.core.ops ≡ slice_set k.ops p r → Goes past k e t.core
unfolding calls_most
goes_set past opening all k qs e t p q r kept h i at m stay same ops =
    let moved = all_set (k.steps + 1) k.ops p q r at m in
    let d = also_there k.ops (deeds_of past) p q (sym h.deeds.count) at in
    let passes = i.still.passes in
    let now = deeds_moved (k.steps + 1) (deeds_of past) k.ops (slice_set k.ops p r) k.seats k.seats h.deeds (begins opening k all qs kept) moved (stay_set (deeds_of past) k.ops p d.0 q r d.1 at (stay d.0 (h.deeds.each p d.0 q d.1 at))) (λ c seat is f. h.deeds.locals c seat is f ∙ sym (set_same c f None (deeds_of past) k.ops p d.0 q r d.1 at (same d.0 c f))) in
    goes_by past k e t.core h (i.still.deedless past) (subst (AllMoved (k.steps + 1) k.ops) (sym ops) moved) (subst (λ (l : List Op). HasDeeds (deeds_of past) l t.core.seats) (sym ops) (deeds_same (deeds_of past) (slice_set k.ops p r) k.seats t.core.seats i.seats now)) (ways_same (deeds_of past) k.seats t.core.seats i.seats h.ways) passes
    (λ c seat is. idle_links past k e t i h c seat is)
    (λ c seat is. let w = i.seats.was c seat is in let n = h.next c w.0 w.3 in let same_xid = ap (λ (z : Seat). z.client.next_xid) w.4 in omega (arith, n, same_xid, passes))
    (λ c seat is. idle_calls past k e t i h c seat is)

-- what gets its file from the server is on names
makes_named : (d : Command) → gets_file (word_of d) ≡ true → IsOnNames d
makes_named (command.Named k) e = tt
makes_named _ e = absurd cc

-- an operation's change was made, of which its client was told nothing yet
goes_change : (past : List Moment) (opening : List Opening) (all : List Moment) (k : Core) (qs : List Queue) (e : Event) (t : CoreStep) → IsKept (book_at opening k all) k qs → IsFollowed past k → IsIdle k e t → IsChange k t.core.ops → Goes past k e t.core
goes_change past opening all k qs e t kept h i c =
    let new : Op = record c.op { file = c.file; point = Some (k.steps + 1) } in
    goes_set past opening all k qs e t c.place c.op new kept h i c.there
    (record { client = refl; word = refl; begin = refl; value = λ w. refl; ended = λ n is. (is, refl, refl, λ known. absurd (true_and_false (is_untold c.op.outcome) c.unmade.2 known)); ends = λ n. inl n })
    (λ d deed. stays d deed c.kind)
    (λ d z f l. idles_by z f d new (λ x. leaves_untold d.command c.op.outcome c.op.value x c.unmade.2) l ∙ sym (idles_by z f d c.op (λ x. leaves_untold d.command c.op.outcome c.op.value x c.unmade.2) l))
    c.is
  where
    stays : (d : Deed) → IsDeed (deeds_of past) k.ops c.place d c.op → ((c.op.word ≡ words.Close) × (c.file ≡ c.op.file) × Remembers k c.place) ⊎ ((gets_file c.op.word ≡ true) × (c.op.file ≡ 0)) → StaysBy d.command c.op (record c.op { file = c.file; point = Some (k.steps + 1) })
    stays d deed (inl own) = stays_by d.command c.op (record c.op { file = c.file; point = Some (k.steps + 1) }) own.1 (λ x. x)
    stays d deed (inr make) = stays_named d.command c.op (record c.op { file = c.file; point = Some (k.steps + 1) }) (makes_named d.command (ap gets_file (sym deed.word) ∙ make.0))

goes_idle : (past : List Moment) (opening : List Opening) (all : List Moment) (k : Core) (qs : List Queue) (e : Event) (t : CoreStep) → IsKept (book_at opening k all) k qs → IsFollowed past k → IsIdle k e t → Goes past k e t.core
goes_idle past opening all k qs e t kept h i = by i.still.ops
  where
    by : Settled k t.core.ops → Goes past k e t.core
    by (inl same) = goes_same past k e t i h same
    by (inr c) = goes_change past opening all k qs e t kept h i c

-- ---- a step of a client

ops_words : (opening : List Opening) (after : Core) (all : List Moment) (qs : List Queue) → IsKept (book_at opening after all) after qs → (i : ℕ) (r : Op) → slice_get after.ops i ≡ Some r → HasWord r.word r.outcome
ops_words opening after all qs kept i r at = caused_word (book_at opening after all) r r.outcome (kept.sound.rights i r at).cause

acts_by : (opening : List Opening) (all : List Moment) (ds : List Deed) (k : Core) (qs : List Queue) (c : ℕ) (seat : Seat) (t : client.State) (acts : ClientStep) → IsKept (book_at opening k all) k qs → numbered k.seats c ≡ Some seat → (seat.client.task ≡ None → (t.opened ≡ seat.client.opened) × (acts.ended ≡ None))
    → ((x : Task) (p : ℕ) → seat.client.task ≡ Some x → seat.place ≡ Some p → ((acts.found ≡ None) × ((file : ℕ) → (is_naming x.stage ≡ false → file ≡ x.file) → Leaves (stage_word x.stage) seat.client.opened t.opened file acts.ended)) ⊎ (((d : Deed) → slice_get ds p ≡ Some d → IsOnNames d.command) × (((t.opened ≡ seat.client.opened) × EndsNeither (stage_word x.stage) acts.ended) ⊎ OpensNow (stage_word x.stage) seat.client (t, acts))))
    → ((i : ℕ) (r : Op) → slice_get (acted k c seat t acts).core.ops i ≡ Some r → HasWord r.word r.outcome) → Acts ds k c seat t acts
acts_by opening all ds k qs c seat t acts kept here idle busy word =
    let s = kept.seats c seat here in
    record {
      here = here;
      matched = s.matched;
      begins = begins opening k all qs kept;
      op = λ j e. let of = s.task j e in (of.op, of.there, of.client, of.file, of.running, with_end (book_at opening k all) of.op (kept.sound.rights j.place of.op of.there) of.running, of.word);
      idle = idle;
      busy = busy;
      words = word;
    }

-- at its place a client has an operation under way
pub occupied : (seat : Seat) → IsMatched seat → (p : ℕ) → seat.place ≡ Some p → (t : Task) × (seat.client.task ≡ Some t)
occupied seat (inl none) p e = nothing_there p (sym none.0 ∙ e)
occupied seat (inr m) p e = let j = job_parts seat.place seat.client.task m.0 m.1 in (record { file = m.0.file; stage = m.0.stage }, j.1)

-- and its command
pub jobs_inside : (book : Book) (ds : List Deed) (k : Core) (qs : List Queue) → IsKept book k qs → book.ops ≡ k.ops → length k.ops ≡ length ds → InDeeds ds k.seats
jobs_inside book ds k qs kept ops count c seat j at is =
    let of = (kept.seats c seat at).task j is in
    let lt = within k.ops j.place of.op (ap (λ (l : List Op). slice_get l j.place) (sym ops) ∙ of.there) in
    omega (arith, lt, count)

-- ---- a connection is lost

cuts_off : (past : List Moment) (c : ℕ) (seats : List Seat) (seat now : Seat) → ((z : ℕ) (e : Seat) → numbered seats z ≡ Some e → e.client.linked ≡ joined_from z false past) → numbered seats c ≡ Some seat → now.client.linked ≡ false → (z : ℕ) (e : Seat) → numbered (with_numbered seats c now) z ≡ Some e → e.client.linked ≡ joined_by z (joined_from z false past) (Cuts c)
cuts_off past c seats seat now links here off z e is = elim (same_or_not z c) [
  | inl own ↦ ap (λ (x : Seat). x.client.linked) (some_is e now (sym is ∙ ap (numbered (with_numbered seats c now)) own ∙ around.there)) ∙ off ∙ sym (ap (λ b. elim b as (λ (y : Bool). Bool) [ true ↦ false | false ↦ joined_from z false past ]) (eq-eqb c z (sym own)))
  | inr apart ↦ links z e (sym (around.others z apart) ∙ is) ∙ sym (ap (λ b. elim b as (λ (y : Bool). Bool) [ true ↦ false | false ↦ joined_from z false past ]) (ne_eqb c z (λ q. apart (sym q))))
]
  where
    around : Rattle.kept_promise.proofs.Turns.Around seats (with_numbered seats c now) c now
    around = around_with seats c seat now here

ended_idle : (task : Option Task) (e : Ended) → task ≡ None → (ended_by task e).ended ≡ None
ended_idle None e is = refl
ended_idle (Some t) e is = absurd cc

ended_busy : (what : Word) (opened : List (ℕ × Rattle.client_state.specs.declared.task.Local.Local)) (file : ℕ) (task : Option Task) (t : Task) → task ≡ Some t → Leaves what opened opened file (ended_by task (record { outcome = outcome.Lost; rests_on = 0 })).ended
ended_busy what opened file (Some x) t e = refl
ended_busy what opened file None t e = absurd cc

goes_cuts : (past : List Moment) (opening : List Opening) (all : List Moment) (k : Core) (qs after : List Queue) (c : ℕ) (seat : Seat) → IsKept (book_at opening k all) k qs → IsFollowed past k → numbered k.seats c ≡ Some seat → IsKept (book_at opening (cuts_if k c seat true).core all) (cuts_if k c seat true).core after → Goes past k (Cuts c) (cuts_if k c seat true).core
unfolding calls_most
goes_cuts past opening all k qs after c seat kept h here left =
    let r = cut seat.client in
    let a = acts_by opening all (deeds_of past) k qs c seat r.0 r.1 kept here (λ f. (refl, ended_idle seat.client.task _ f)) (λ x p f g. inl (cut_finds seat.client, λ file is. ended_busy (stage_word x.stage) seat.client.opened file seat.client.task x f)) (ops_words opening (cuts_if k c seat true).core all after left) in
    let f = acted_follows (deeds_of past) k c seat r.0 r.1 h.deeds a in
    let now : Seat = record seat { client = r.0; place = Rattle.trace_ends.specs.Ops.place_after seat.place r.1.ended } in
    goes_by past k (Cuts c) (cuts_if k c seat true).core h refl f.moved f.deeds (ways_acted (deeds_of past) k.seats c seat r.0 r.1 h.ways here (occupied seat (kept.seats c seat here).matched) (λ t u e known at. nothing_there u at)) (omega arith) (cuts_off past c k.seats seat now h.joined here refl)
    (λ z x is. elim (same_or_not z c) [
      | inl own ↦ let n = h.next c seat here in let m = ap (λ (y : Seat). y.client.next_xid) (some_is x now (sym is ∙ ap (numbered (with_numbered k.seats c now)) own ∙ (around_with k.seats c seat now here).there)) in omega (arith, n, m)
      | inr apart ↦ let n = h.next z x (sym ((around_with k.seats c seat now here).others z apart) ∙ is) in omega (arith, n)
    ])
    (λ z x is. elim (same_or_not z c) [
      | inl own ↦ ap (λ (y : Seat). y.client.next_xid) (some_is x now (sym is ∙ ap (numbered (with_numbered k.seats c now)) own ∙ (around_with k.seats c seat now here).there)) ∙ h.calls c seat here ∙ ap (λ y. calls_from y 0 past + 1) (sym own) ∙ silent z
      | inr apart ↦ h.calls z x (sym ((around_with k.seats c seat now here).others z apart) ∙ is) ∙ silent z
    ])
  where
    silent : (z : ℕ) → calls_from z 0 past + 1 ≡ calls_by z (calls_from z 0 past) (moment k (Cuts c)) + 1
    silent z = ap (λ n. n + 1) (sym (no_calls z 0 (calls_from z 0 past) (happens k (Cuts c)).up (cuts_unsent k c)))

-- ---- an answer comes

-- whatever a client hears, it is joined as it was: its session tells
still_joined : (book more : Book) (k after : Core) (qs ts : List Queue) (c : ℕ) (seat now : Seat) → IsKept book k qs → IsKept more after ts → numbered k.seats c ≡ Some seat → numbered after.seats c ≡ Some now → after.sessions ≡ k.sessions → now.client.linked ≡ seat.client.linked
still_joined book more k after qs ts c seat now kept left here there sessions = by now.client.linked seat.client.linked refl refl
  where
    -- a client whose session is not cut is joined
    uncut : (book : Book) (k : Core) (qs : List Queue) (seat : Seat) → IsKept book k qs → numbered k.seats c ≡ Some seat → (n : ℕ) (x : Session) → numbered k.sessions n ≡ Some x → x.cut ≡ false → x.owner ≡ c → seat.client.linked ≡ true
    uncut book k qs seat kept here n x at whole owner =
        let q = also_numbered k.sessions qs n x kept.made.1 at in
        let s = kept.sessions n x q.0 at q.1 (owned_uncut kept n x at whole) in
        ap (λ (z : Seat). z.client.linked) (some_is seat s.seat (sym here ∙ ap (numbered k.seats) (sym owner) ∙ s.owner)) ∙ (s.here whole).1

    -- and the other way round
    has_session : (book : Book) (k : Core) (qs : List Queue) (seat : Seat) → IsKept book k qs → numbered k.seats c ≡ Some seat → seat.client.linked ≡ true → (n : ℕ) × (x : Session) × (numbered k.sessions n ≡ Some x) × (x.cut ≡ false) × (x.owner ≡ c)
    has_session book k qs seat kept here is =
        let s = kept.seats c seat here in
        let l = s.linked is in
        let w = s.session l.0 l.2 in
        (l.0, l.1, l.3, l.4, ap (λ (z : Session). z.owner) (some_is l.1 w.0 (sym l.3 ∙ w.1)) ∙ w.2)

    by : (a b : Bool) → now.client.linked ≡ a → seat.client.linked ≡ b → a ≡ b
    by true true e f = refl
    by false false e f = refl
    by true false e f = let l = has_session more after ts now left there e in sym (uncut book k qs seat kept here l.0 l.1 (ap (λ (z : List Session). numbered z l.0) (sym sessions) ∙ l.2) l.3 l.4) ∙ f
    by false true e f = let l = has_session book k qs seat kept here f in sym e ∙ uncut more after ts now left there l.0 l.1 (ap (λ (z : List Session). numbered z l.0) sessions ∙ l.2) l.3 l.4

goes_hears : FitLaws → (past : List Moment) (opening : List Opening) (all : List Moment) (k : Core) (qs mid after : List Queue) (n now : ℕ) (bytes : List ℕ) → IsKept (book_at opening k all) k qs → IsFollowed past k → (w : Heard k qs n now bytes mid)
    → (let r = got_step w.seat.client (Ok (told_message w.told)) now in let t = acted k w.session.owner w.seat r.0 r.1 in IsKept (book_at opening t.core all) t.core after → Goes past k (Hears n now bytes) t.core)
goes_hears laws past opening all k qs mid after n now bytes kept h w left =
    let c : ℕ = w.session.owner in
    let seat : Seat = w.seat in
    let here = w.owner in
    let m : Result Message WireFault = Ok (told_message w.told) in
    let r = got_step w.seat.client (Ok (told_message w.told)) now in
    let a = acts_by opening all (deeds_of past) k qs c seat r.0 r.1 kept here (λ f. let i = step_idle seat.client m now f in (i.1, i.2)) (λ x p f g. busy m x p f g (stage_case x.stage)) (ops_words opening (acted k c seat r.0 r.1).core all after left) in
    let f = acted_follows (deeds_of past) k c seat r.0 r.1 h.deeds a in
    let then : Seat = record seat { client = r.0; place = Rattle.trace_ends.specs.Ops.place_after seat.place r.1.ended } in
    let around = around_with k.seats c seat then here in
    goes_by past k (Hears n now bytes) (acted k c seat r.0 r.1).core h refl f.moved f.deeds (ways_acted (deeds_of past) k.seats c seat r.0 r.1 h.ways here (occupied seat (kept.seats c seat here).matched) (λ t u e known at. got_file seat.client m now t e known u at)) (omega arith)
    (λ z x is. elim (same_or_not z c) [
      | inl mine ↦ ap (λ (y : Seat). y.client.linked) (some_is x then (sym is ∙ ap (numbered (with_numbered k.seats c then)) mine ∙ around.there)) ∙ still_joined (book_at opening k all) (book_at opening (acted k c seat r.0 r.1).core all) k (acted k c seat r.0 r.1).core qs after c seat then kept left here around.there refl ∙ h.joined c seat here ∙ ap (λ (y : ℕ). joined_from y false past) (sym mine)
      | inr apart ↦ h.joined z x (sym (around.others z apart) ∙ is)
    ])
    (λ z x is. elim (same_or_not z c) [
      | inl mine ↦ let n = h.next c seat here in let q = more m seat.client.task refl in let o = ap (λ (y : Seat). y.client.next_xid) (some_is x then (sym is ∙ ap (numbered (with_numbered k.seats c then)) mine ∙ around.there)) in omega (arith, n, q, o)
      | inr apart ↦ let n = h.next z x (sym (around.others z apart) ∙ is) in omega (arith, n)
    ])
    (λ z x is. elim (same_or_not z c) [
      | inl mine ↦
          let n = h.calls c seat here in
          let q = got_number seat.client m now in
          let o = ap (λ (y : Seat). y.client.next_xid) (some_is x then (sym is ∙ ap (numbered (with_numbered k.seats c then)) mine ∙ around.there)) in
          let p = own_calls z c (calls_from z 0 past) r.1.send mine ∙ ap (λ y. calls_from y 0 past + calls_among r.1.send) mine in
          let s = sent z in
          omega (arith, n, q, o, p, s)
      | inr apart ↦ let n = h.calls z x (sym (around.others z apart) ∙ is) in let p = other_calls z c (calls_from z 0 past) r.1.send apart in let s = sent z in omega (arith, n, p, s)
    ])
  where
    seat : Seat
    seat = w.seat

    here : numbered k.seats w.session.owner ≡ Some w.seat
    here = w.owner

    sent : (z : ℕ) → calls_by z (calls_from z 0 past) (moment k (Hears n now bytes)) ≡ calls_from z 0 past + sent_if (w.session.owner == z) (got_step w.seat.client (Ok (told_message w.told)) now).1.send
    sent z = ap (λ i. calls_from z 0 past + sent_if (i == z) (happens k (Hears n now bytes)).up) (ap owner_in w.at) ∙ ap (λ (t : CoreStep). calls_from z 0 past + sent_if (w.session.owner == z) t.up) (heard_acts laws (book_at opening k all) k qs n now bytes mid kept w)

    more : (m : Result Message WireFault) (task : Option Task) → seat.client.task ≡ task → (got_step seat.client m now).0.next_xid ≤ seat.client.next_xid + calls_most
    more m None e = let i = (step_idle seat.client m now e).0 in omega (arith, i)
    more m (Some t) e = by (stage_case t.stage)
      where
        by : IsOfFile t.stage ⊎ ((y : ℕ) × (w : Walk) × (t.stage ≡ stage.Walking y w)) → (got_step seat.client m now).0.next_xid ≤ seat.client.next_xid + calls_most
        by (inl known) = (step_left seat.client m now t e known).0
        by (inr walk) = (walk_left seat.client m now t walk.0 walk.1 e walk.2).0

    busy : (m : Result Message WireFault) (x : Task) (p : ℕ) → seat.client.task ≡ Some x → seat.place ≡ Some p → IsOfFile x.stage ⊎ ((y : ℕ) × (w : Walk) × (x.stage ≡ stage.Walking y w))
        → (let r = got_step seat.client m now in ((r.1.found ≡ None) × ((file : ℕ) → (is_naming x.stage ≡ false → file ≡ x.file) → Leaves (stage_word x.stage) seat.client.opened r.0.opened file r.1.ended)) ⊎ (((d : Deed) → slice_get (deeds_of past) p ≡ Some d → IsOnNames d.command) × (((r.0.opened ≡ seat.client.opened) × EndsNeither (stage_word x.stage) r.1.ended) ⊎ OpensNow (stage_word x.stage) seat.client r)))
    busy m x p f g (inl known) = inl (got_finds seat.client m now (λ u e. subst (λ (z : Task). IsOfFile z.stage) (some_is x u (sym f ∙ e)) known), λ file is. subst (λ (z : ℕ). Leaves (stage_word x.stage) seat.client.opened (got_step seat.client m now).0.opened z (got_step seat.client m now).1.ended) (sym (is (file_unnamed x.stage known))) (step_left seat.client m now x f known).1)
    busy m x p f g (inr walk) =
        let left = walk_left seat.client m now x walk.0 walk.1 f walk.2 in
        inr (
          (λ d at. elim (h.ways w.session.owner seat (record { place = p; file = x.file; stage = x.stage }) d here (ap (λ (l : Option ℕ). job_of l seat.client.task) g ∙ ap (job_of (Some p)) f) at) [
            | inl known ↦ absurd (subst IsOfFile walk.2 known)
            | inr names ↦ names
          ]),
          elim left.1 [
            | inl same ↦ inl (same.0, subst (λ (z : Word). EndsNeither z (got_step seat.client m now).1.ended) (sym (ap stage_word walk.2)) same.1)
            | inr opens ↦ inr (subst (λ (z : Word). OpensNow z seat.client (got_step seat.client m now)) (sym (ap stage_word walk.2)) opens)
          ],
        )

-- ---- a command

-- whether it may go on is what its client says
fresh_is : (seat : Seat) (now : ℕ) (d : Command) → is_fresh_for (Some seat) now d ≡ fresh_by (clocked seat.client now) d
fresh_is seat now (command.Open file) = refl
fresh_is seat now (command.Rewrite file) = refl
fresh_is seat now _ = refl

goes_by_reading : (seat : Seat) (now : ℕ) (joined : Bool) (calls : ℕ) (fresh : Bool) (d : Command) → can_ask joined calls ≡ may_ask seat.client → fresh ≡ fresh_by (clocked seat.client now) d → (can_ask joined calls || fresh) ≡ may_go (clocked seat.client now) d
goes_by_reading seat now joined calls fresh d asks is = ap (λ (b : Bool). b || fresh) asks ∙ ap (λ (b : Bool). may_ask seat.client || b) is

goes_does : (past : List Moment) (opening : List Opening) (all : List Moment) (k : Core) (qs : List Queue) (c now : ℕ) (d : Command) (seat : Seat) → IsSmall d → IsKept (book_at opening k all) k qs → IsFollowed past k → numbered k.seats c ≡ Some seat → Goes past k (Does c now d) (does k c now d (Some seat)).core
unfolding calls_most
goes_does past opening all k qs c now d seat small kept h here =
    let deed : Deed = record { client = c; command = d; begin = k.steps + 1; joined = joined_from c false past; calls = calls_from c 0 past; fresh = is_fresh_for (numbered k.seats c) now d } in
    let r = command_step seat.client d now in
    let place = place_with seat.place (length k.ops) r.1.ended in
    let after : Core = (does k c now d (Some seat)).core in
    let then : Seat = record seat { client = r.0; place = place } in
    let around = around_with k.seats c seat then here in
    let may = goes_by_reading seat now (joined_from c false past) (calls_from c 0 past) (is_fresh_for (numbered k.seats c) now d) d (asks_by seat.client (joined_from c false past) (calls_from c 0 past) (h.joined c seat here) (h.calls c seat here)) (ap (λ (o : Option Seat). is_fresh_for o now d) here ∙ fresh_is seat now d) in
    let f = does_follows (book_at opening k all) (deeds_of past) k qs c now seat deed place small kept refl refl h.deeds here (begins opening k all qs kept) refl refl may in
    let nexts = f.stays.0 in
    record {
      followed = record {
        deeds = subst (λ (ds : List Deed). HasDeeds ds after.ops after.seats) (sym (deeds_more past (moment k (Does c now d)))) f.deeds;
        joined = λ z x is. elim (same_or_not z c) [
          | inl mine ↦ ap (λ (y : Seat). y.client.linked) (some_is x then (sym is ∙ ap (numbered (with_numbered k.seats c then)) mine ∙ around.there)) ∙ f.stays.1 ∙ h.joined c seat here ∙ ap (λ (y : ℕ). joined_from y false past) (sym mine) ∙ sym (joined_more z false past (moment k (Does c now d)))
          | inr apart ↦ h.joined z x (sym (around.others z apart) ∙ is) ∙ sym (joined_more z false past (moment k (Does c now d)))
        ];
        next = λ z x is. elim (same_or_not z c) [
          | inl mine ↦ let n = h.next c seat here in let o = ap (λ (y : Seat). y.client.next_xid) (some_is x then (sym is ∙ ap (numbered (with_numbered k.seats c then)) mine ∙ around.there)) in omega (arith, n, nexts, o)
          | inr apart ↦ let n = h.next z x (sym (around.others z apart) ∙ is) in omega (arith, n)
        ];
        calls = λ z x is. (elim (same_or_not z c) [
          | inl mine ↦
              let n = h.calls c seat here in
              let q = command_number seat.client d now in
              let o = ap (λ (y : Seat). y.client.next_xid) (some_is x then (sym is ∙ ap (numbered (with_numbered k.seats c then)) mine ∙ around.there)) in
              let p = own_calls z c (calls_from z 0 past) r.1.send mine ∙ ap (λ y. calls_from y 0 past + calls_among r.1.send) mine in
              let s = sent z in
              let m : x.client.next_xid ≡ calls_by z (calls_from z 0 past) (moment k (Does c now d)) + 1 = omega (arith, n, q, o, p, s) in
              m
          | inr apart ↦
              let n = h.calls z x (sym (around.others z apart) ∙ is) in
              let p = other_calls z c (calls_from z 0 past) r.1.send apart in
              let s = sent z in
              let m : x.client.next_xid ≡ calls_by z (calls_from z 0 past) (moment k (Does c now d)) + 1 = omega (arith, n, p, s) in
              m
        ]) ∙ ap (λ n. n + 1) (sym (calls_more z 0 past (moment k (Does c now d))));
        few = subst (λ (ds : List Deed). (i : ℕ) (e : Deed) → slice_get ds i ≡ Some e → e.calls ≤ calls_most * e.begin) (sym (deeds_more past (moment k (Does c now d)))) (λ i e at. elim (of_appended (deeds_of past) deed i e at) [
          | inr old ↦ h.few i e old
          | inl last ↦ subst (λ (z : Deed). z.calls ≤ calls_most * z.begin) (sym last.1) (let n = h.next c seat here in let m = h.calls c seat here in omega (arith, n, m))
        ]);
        ways = subst (λ (ds : List Deed). HasWays ds after.seats) (sym (deeds_more past (moment k (Does c now d)))) (ways_added (deeds_of past) k.seats c (length k.ops) seat deed r h.ways (jobs_inside (book_at opening k all) (deeds_of past) k qs kept refl h.deeds.count) here h.deeds.count (occupied seat (kept.seats c seat here).matched) (command_goes seat.client d now));
      };
      ops = inr (new_op c (word_of d) (file_of d) (value_at_begin seat.client (word_of d) (file_of d) (command_step seat.client d now).1.ended) (k.steps + 1) r, refl, (fixed c (word_of d) (file_of d) (value_at_begin seat.client (word_of d) (file_of d) (command_step seat.client d now).1.ended) (k.steps + 1) r (command_finds seat.client d now small)).3);
      moved = λ z. absurd cc;
      passes = omega arith;
    }
  where
    sent : (z : ℕ) → calls_by z (calls_from z 0 past) (moment k (Does c now d)) ≡ calls_from z 0 past + sent_if (c == z) (command_step seat.client d now).1.send
    sent z = ap (λ (o : Option Seat). calls_from z 0 past + sent_if (c == z) (does k c now d o).up) here

-- ---- any event

pub goes : FitLaws → (all past rest : List Moment) (opening : List Opening) (k : Core) (qs : List Queue) (e : Event) (mid after : List Queue) → Step all past rest opening k qs e mid after → IsFollowed past k → Goes past k e (happens k e).core
goes laws all past rest opening k qs e mid after s h = event_turns laws all past rest opening k qs e mid after s (λ e t. Goes past k e t.core) (record {
  idle = λ t i. goes_idle past opening all k qs e t s.kept h i;
  joins = λ c seat is s here still. goes_joins past opening all k qs c seat s.kept h here;
  begins = λ c now d seat s here small left. goes_does past opening all k qs c now d seat small s.kept h here;
  hears = λ n now bytes s w left. goes_hears laws past opening all k qs mid after n now bytes s.kept h w left;
  lost = λ c seat s here left. goes_cuts past opening all k qs after c seat s.kept h here left;
})

-- it looks at no index, and at nothing that is kept
pub followed_adjusted : (past : List Moment) (k : Core) (index : Indexed) (seats : List Seat) → SameSeats k.seats seats → IsFollowed past k → IsFollowed past (adjusted_core k index seats)
followed_adjusted past k index seats same h = record {
  deeds = deeds_same (deeds_of past) k.ops k.seats seats same h.deeds;
  joined = λ c e at. let w = same.was c e at in ap (λ (z : Seat). z.client.linked) w.4 ∙ h.joined c w.0 w.3;
  next = λ c e at. let w = same.was c e at in subst (λ (z : Seat). z.client.next_xid ≤ calls_most * k.steps + 1) (sym w.4) (h.next c w.0 w.3);
  calls = λ c e at. let w = same.was c e at in ap (λ (z : Seat). z.client.next_xid) w.4 ∙ h.calls c w.0 w.3;
  few = h.few;
  ways = ways_same (deeds_of past) k.seats seats same h.ways;
}

pub carried_deeds : FitLaws → Carried (λ all past opening k qs. IsFollowed past k)
carried_deeds laws = record {
  first = λ all opening tree count kept. followed_first tree count;
  steps = λ all past rest opening k qs e mid after s h. (goes laws all past rest opening k qs e mid after s h).followed;
  adjusts = λ all past opening k qs index seats same h. followed_adjusted past k index seats same h;
}
