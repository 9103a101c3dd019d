-- The operation that a command makes, and what is known of it at once.
use Rattle.std.proofs.Common.{◌⊎◌, inl, inr, ◌≡◌, ℕ, ◌+◌, ◌<◌, ◌≤◌, List, [], ◌∷◌, ◌++◌, length, Option, Some, None, Bool, true, false, refl, sym, ap, ◌∙◌, arith}
use Rattle.client_state.specs.State as client
use Rattle.register_model.specs.declared.op.Word.TheVariants as words
use Rattle.kept_promise.proofs.Common.{changes, until, Outcome, Word, slice_get, Command, no_counts, command_step, ClientStep, Ended, Op, word_of, file_of, value_at_begin, no_traffic, counted, begun, has_point, point_if, op_after, place_with, Core, Seat, numbered, Book, Queue}
use Rattle.kept_promise.proofs.Lists.{some_is, nothing_there, at_end, within}
use Rattle.kept_promise.proofs.Rights.{IsRight, IsSound}
use Rattle.kept_promise.proofs.Messages.{Job, job, job_of}
use Rattle.kept_promise.proofs.Facts.{IsKept}
use Rattle.kept_promise.proofs.Counted.{traffic_is}
use Rattle.kept_promise.proofs.Actors.{job_place}

-- the operation, where its client goes on as said
abbrev pub made_by : Core → (c now : ℕ) → Command → Seat → client.State → ClientStep → Op
made_by k c now d seat s acts = op_after (begun c (word_of d) (file_of d) (value_at_begin seat.client (word_of d) (file_of d) (command_step seat.client d now).1.ended) (k.steps + 1)) s [] (k.steps + 1) acts

pub made_later : (k : Core) (c now : ℕ) (d : Command) (seat : Seat) (s : client.State) (acts : ClientStep) (e : Option Ended) → k.steps < (made_by k c now d seat s (record acts { ended = e })).begin
made_later k c now d seat s acts None = omega arith
made_later k c now d seat s acts (Some e) = omega arith

pub made_silent : (k : Core) (c now : ℕ) (d : Command) (seat : Seat) (s : client.State) (acts : ClientStep) → acts.counts ≡ no_counts → (e : Option Ended) → (made_by k c now d seat s (record acts { ended = e })).traffic ≡ no_traffic
made_silent k c now d seat s acts q e = by e
  where
    none : counted no_traffic no_counts ≡ no_traffic
    none = traffic_is (counted no_traffic no_counts) no_traffic (omega arith) (omega arith) (omega arith) (omega arith)

    by : (e : Option Ended) → (made_by k c now d seat s (record acts { ended = e })).traffic ≡ no_traffic
    by None = ap (counted no_traffic) q ∙ none
    by (Some e) = ap (counted no_traffic) q ∙ none

-- its point, if it has one yet, is its begin
pub made_point : (k : Core) (c now : ℕ) (d : Command) (seat : Seat) (s : client.State) (acts : ClientStep) (e : Option Ended) (p : ℕ) → (made_by k c now d seat s (record acts { ended = e })).point ≡ Some p → p ≡ k.steps + 1
made_point k c now d seat s acts None p is = nothing_there p is
made_point k c now d seat s acts (Some e) p is = by (has_point (word_of d) e.outcome) is
  where
    by : (b : Bool) → point_if b [] e.rests_on (k.steps + 1) None ≡ Some p → p ≡ k.steps + 1
    by true is = sym (some_is (k.steps + 1) p is)
    by false is = nothing_there p is

-- it has none yet, or changes nothing
pub made_quiet : (k : Core) (c now : ℕ) (d : Command) (seat : Seat) (s : client.State) (acts : ClientStep) (e : Option Ended) → ((made_by k c now d seat s (record acts { ended = e })).point ≡ None) ⊎ (changes (made_by k c now d seat s (record acts { ended = e })).word ≡ false)
made_quiet k c now d seat s acts None = inl refl
made_quiet k c now d seat s acts (Some e) = by (word_of d) e.outcome
  where
    by : (w : Word) (u : Outcome) → (point_if (has_point w u) [] e.rests_on (k.steps + 1) None ≡ None) ⊎ (changes w ≡ false)
    by words.Open u = inr refl
    by _ u = inl refl

-- if it has ended already, then now
pub made_by_now : (k : Core) (c now : ℕ) (d : Command) (seat : Seat) (s : client.State) (acts : ClientStep) (e : Option Ended) (step : ℕ) → step ≤ k.steps + 1 → until (made_by k c now d seat s (record acts { ended = e })).end step ≡ true
made_by_now k c now d seat s acts None step le = refl
made_by_now k c now d seat s acts (Some e) step le = grind (arith, Rattle.std.proofs.lemmas.Bool.Decides.nat_tests, le)

-- the last operation of a history is right where all are
pub last_right : (more : Book) (ops : List Op) (new : Op) → more.ops ≡ ops ++ new ∷ [] → IsSound more → IsRight more new
last_right more ops new are sound = sound.rights (length ops) new (ap (λ (l : List Op). slice_get l (length ops)) are ∙ at_end ops new)

-- the operations under way are among those that began
pub old_jobs : (book : Book) (k : Core) (qs : List Queue) → IsKept book k qs → (i : ℕ) (s : Seat) (j : Job) → numbered k.seats i ≡ Some s → job s ≡ Some j → j.place < length k.ops
old_jobs book k qs kept i s j at is = let of = (kept.seats i s at).task j is in within k.ops j.place of.op (ap (λ (l : List Op). slice_get l j.place) (sym kept.ops) ∙ of.there)

-- where one was under way its client has no other
pub job_stays : (seat : Seat) (i : Job) (place : ℕ) → job seat ≡ Some i → (j : Job) (e : Option Ended) → job_of (place_with seat.place place e) seat.client.task ≡ Some j → job seat ≡ Some j
job_stays seat i place is j e q = by seat.place (job_place seat.place seat.client.task i is) q
  where
    by : (l : Option ℕ) → l ≡ Some i.place → job_of (place_with l place e) seat.client.task ≡ Some j → job_of l seat.client.task ≡ Some j
    by None w q = nothing_there i.place w
    by (Some p) w q = q
