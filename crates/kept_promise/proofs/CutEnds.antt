-- Where a client saw its connection lost, each operation that it began before has ended.
use Rattle.std.proofs.Common.{◌⊎◌, inl, inr, ◌≡◌, ℕ, ◌+◌, ◌<◌, ◌≤◌, List, [], ◌∷◌, ◌++◌, Option, Some, None, Bool, true, false, refl, sym, ap, ◌∙◌, subst, arith}
use Rattle.client_state.specs.declared.step.Outcome.TheVariants as outcome
use Rattle.register_model.specs.declared.op.Outcome.TheVariants as told
use Rattle.trace_replay.specs.Faithful.{CutsEnd}
use Rattle.kept_promise.proofs.Common.{Contains-push_cases, slice_get, slice_set, Contains, cut, ended_by, Ended, Task, Op, Opening, TakenCall, Core, Seat, Event, Event.Cuts, numbered, taken_of, session_of, ops_after, ops_with, cuts_if, cuts, happens, op_ended, op_after, counted, Moment, step_of, World, book_of, Queue}
use Rattle.kept_promise.proofs.Lists.{some_is, nothing_there, of_appended, at_replaced}
use Rattle.kept_promise.proofs.Messages.{Job, job, job_of}
use Rattle.kept_promise.proofs.Facts.{IsKept}
use Rattle.kept_promise.proofs.RunsCarried.{book_at, moment, Step, Carried}
use Rattle.kept_promise.proofs.Deeds.{also_there, Moved, AllMoved}
use Rattle.kept_promise.proofs.Doing.{without_end}
use Rattle.kept_promise.proofs.Following.{IsFollowed, OpsAfter, goes, followed_first, followed_adjusted}
use Rattle.trace_ends.specs.Ops.{file_with}
use Rattle.kept_promise.proofs.Fits.{FitLaws}

-- ---- what is carried

-- it has ended by a moment: before, or by the loss then
abbrev pub HasEnded : Moment → Op → Type 0
HasEnded m o = (e : ℕ) × (o.end ≡ Some e) × ((e < step_of m) ⊎ ((e ≡ step_of m) × (o.outcome ≡ told.Lost)))

pub record HasCuts (past : List Moment) (k : Core) : Type 0 where
  -- no moment that is past is one to come
  pub late : (m : Moment) → Contains past m → m.before.steps ≤ k.steps
  pub cuts : (m : Moment) (c i : ℕ) (o : Op) → Contains past m → m.event ≡ Cuts c → slice_get k.ops i ≡ Some o → o.client ≡ c → o.begin < step_of m → HasEnded m o

-- ---- a loss

pub job_is : (place : Option ℕ) (task : Option Task) (j : Job) → job_of place task ≡ Some j → (place ≡ Some j.place) × ((t : Task) × (task ≡ Some t))
job_is (Some p) (Some t) j e = (ap (λ (z : Job). Some z.place) (some_is (record { place = p; file = t.file; stage = t.stage }) j e), (t, refl))
job_is _ _ j e = nothing_there j e

-- an operation that was under way ends by it, in its step
ends_by_cut : (opening : List Opening) (all : List Moment) (k : Core) (qs : List Queue) (c : ℕ) (seat : Seat) → IsKept (book_at opening k all) k qs → numbered k.seats c ≡ Some seat → (b : Bool) → seat.client.linked ≡ b → (i : ℕ) (o r : Op) → slice_get k.ops i ≡ Some o → o.client ≡ c → o.end ≡ None
    → slice_get (cuts_if k c seat b).core.ops i ≡ Some r → (r.end ≡ Some (k.steps + 1)) × (r.outcome ≡ told.Lost)
ends_by_cut opening all k qs c seat kept here b linked i o r at mine under is =
    let book = book_at opening k all in
    let run = kept.running i o at (without_end book o (kept.sound.rights i o at) under) in
    let same : run.0 ≡ seat = some_is run.0 seat (sym run.2 ∙ ap (numbered k.seats) mine ∙ here) in
    let j = job_is seat.place seat.client.task run.1 (ap job (sym same) ∙ run.3) in
    by b linked (j.0 ∙ ap (λ n. Some n) run.4) j.1.0 j.1.1 is
  where
    lost : Ended
    lost = record { outcome = outcome.Lost; rests_on = 0 }

    lost_so : (taken : List TakenCall) (e : Option Ended) → e ≡ Some lost → (let z = op_ended (record o { file = file_with o.file (cut seat.client).1.found; traffic = counted o.traffic (cut seat.client).1.counts }) (cut seat.client).0 taken (k.steps + 1) e in (z.end ≡ Some (k.steps + 1)) × (z.outcome ≡ told.Lost))
    lost_so taken (Some x) e = (refl, ap (λ (y : Ended). Rattle.trace_ends.specs.Ops.told_of y.outcome) (some_is x lost e))
    lost_so taken None e = nothing_there lost e

    by : (b : Bool) → seat.client.linked ≡ b → seat.place ≡ Some i → (t : Task) → seat.client.task ≡ Some t → slice_get (cuts_if k c seat b).core.ops i ≡ Some r → (r.end ≡ Some (k.steps + 1)) × (r.outcome ≡ told.Lost)
    by false e place t task is = nothing_there t (sym ((kept.seats c seat here).unlinked e).0 ∙ task)
    by true e place t task is =
        let taken = taken_of (session_of k.sessions seat.session) in
        let acts = (cut seat.client).1 in
        let new = op_after o (cut seat.client).0 taken (k.steps + 1) acts in
        let ops_is : ops_with k.ops seat.place (cut seat.client).0 taken (k.steps + 1) acts ≡ slice_set k.ops i new =
        ap (λ (z : Option ℕ). ops_with k.ops z (cut seat.client).0 taken (k.steps + 1) acts) place ∙ ap (λ (z : Option Op). ops_after k.ops i z (cut seat.client).0 taken (k.steps + 1) acts) at in
        let r_is : new ≡ r = some_is new r (sym (ap (λ (z : List Op). slice_get z i) ops_is ∙ at_replaced k.ops i new o at) ∙ is) in
        subst (λ (z : Op). (z.end ≡ Some (k.steps + 1)) × (z.outcome ≡ told.Lost)) r_is (lost_so taken acts.ended (ap (λ (z : Option Task). (ended_by z lost).ended) task))

-- ---- an event

-- what has ended stays so, and what begins later is not meant
old_moment : (past : List Moment) (k : Core) (rs : List Op) (m : Moment) (c i : ℕ) (r : Op) → HasCuts past k → OpsAfter k rs → Contains past m → m.event ≡ Cuts c → slice_get rs i ≡ Some r → r.client ≡ c → r.begin < step_of m → HasEnded m r
old_moment past k rs m c i r h (inl moved) there e at mine before =
    let o = also_there rs k.ops i r (sym moved.count) at in
    let s = moved.each i o.0 r o.1 at in
    let b = s.begin in
    let w = h.cuts m c i o.0 there e o.1 (sym s.client ∙ mine) (omega (arith, before, b)) in
    let z = s.ended w.0 w.1 in
    (w.0, z.0, elim w.2 [ inl lt ↦ inl lt | inr now ↦ inr (now.0, z.1 ∙ now.1) ])
old_moment past k rs m c i r h (inr new) there e at mine before = elim (of_appended k.ops new.0 i r (ap (λ (l : List Op). slice_get l i) (sym new.1) ∙ at)) [
  | inl last ↦ let n = new.2 in let b = ap (λ (z : Op). z.begin) last.1 in let le = h.late m there in absurd (omega (arith, n, b, le, before))
  | inr was ↦ h.cuts m c i r there e was mine before
]

cut_moment : (all past rest : List Moment) (opening : List Opening) (k : Core) (qs : List Queue) (c : ℕ) (mid after : List Queue) → Step all past rest opening k qs (Cuts c) mid after → AllMoved (k.steps + 1) k.ops (happens k (Cuts c)).core.ops → (i : ℕ) (r : Op) → slice_get (happens k (Cuts c)).core.ops i ≡ Some r → r.client ≡ c → HasEnded (moment k (Cuts c)) r
cut_moment all past rest opening k qs c mid after s moved i r at mine =
    let o = also_there (happens k (Cuts c)).core.ops k.ops i r (sym moved.count) at in
    ended o.0 o.1 (moved.each i o.0 r o.1 at) o.0.end refl
  where
    there : (o : Option Seat) → numbered k.seats c ≡ o → slice_get (cuts k c o).core.ops i ≡ Some r → (o : Op) → slice_get k.ops i ≡ Some o → o.client ≡ c → o.end ≡ None → (r.end ≡ Some (k.steps + 1)) × (r.outcome ≡ told.Lost)
    there None f is = nothing_there s.finds.0 (sym f ∙ s.finds.1)
    there (Some seat) f is = λ o was own z. ends_by_cut opening all k qs c seat s.kept f seat.client.linked refl i o r was own z is

    ended : (o : Op) → slice_get k.ops i ≡ Some o → Moved (k.steps + 1) o r → (end : Option ℕ) → o.end ≡ end → HasEnded (moment k (Cuts c)) r
    ended o was m (Some n) z = let le = ((s.kept.sound.rights i o was).past n z).1 in (n, (m.ended n z).0, inl (omega (arith, le)))
    ended o was m None z = let w = there (numbered k.seats c) refl at o was (sym m.client ∙ mine) z in (k.steps + 1, w.0, inr (refl, w.1))

new_moment : FitLaws → (all past rest : List Moment) (opening : List Opening) (k : Core) (qs : List Queue) (e : Event) (mid after : List Queue) → Step all past rest opening k qs e mid after → IsFollowed past k → (c i : ℕ) (r : Op) → e ≡ Cuts c → slice_get (happens k e).core.ops i ≡ Some r → r.client ≡ c → HasEnded (moment k e) r
new_moment laws all past rest opening k qs (Cuts d) mid after s h c i r e at mine = cut_moment all past rest opening k qs d mid after s ((goes laws all past rest opening k qs (Cuts d) mid after s h).moved refl) i r at (mine ∙ sym same)
  where
    number : Event → ℕ
    number (Cuts n) = n
    number x = 0

    same : d ≡ c
    same = ap number e
new_moment laws all past rest opening k qs _ mid after s h c i r e at mine = absurd cc

pub cuts_go : FitLaws → (all past rest : List Moment) (opening : List Opening) (k : Core) (qs : List Queue) (e : Event) (mid after : List Queue) → Step all past rest opening k qs e mid after → IsFollowed past k → HasCuts past k → HasCuts (past ++ moment k e ∷ []) (happens k e).core
cuts_go laws all past rest opening k qs e mid after s f h =
    let g = goes laws all past rest opening k qs e mid after s f in
    let passes = g.passes in
    record {
      late = λ m there. elim (Contains-push_cases past (moment k e) m there) [
        | inl old ↦ let le = h.late m old in omega (arith, le, passes)
        | inr new ↦ subst (λ (z : Moment). z.before.steps ≤ (happens k e).core.steps) new passes
      ];
      cuts = λ m c i r there is at mine before. elim (Contains-push_cases past (moment k e) m there) [
        | inl old ↦ old_moment past k (happens k e).core.ops m c i r h g.ops old is at mine before
        | inr new ↦ subst (λ (z : Moment). HasEnded z r) new (new_moment laws all past rest opening k qs e mid after s f c i r (ap (λ (z : Moment). z.event) new ∙ is) at mine)
      ];
    }

-- the commands with their operations, and what connections that are lost end
pub record AreFollowed (past : List Moment) (k : Core) : Type 0 where
  pub followed : IsFollowed past k
  pub cuts : HasCuts past k

pub carried_follow : FitLaws → Carried (λ all past opening k qs. AreFollowed past k)
carried_follow laws = record {
  first = λ all opening tree count kept. record {
    followed = followed_first tree count;
    cuts = record { late = λ m there. let lt = there.1 in absurd (omega (arith, lt)); cuts = λ m c i o there is at. nothing_there o at };
  };
  steps = λ all past rest opening k qs e mid after s h. record { followed = (goes laws all past rest opening k qs e mid after s h.followed).followed; cuts = cuts_go laws all past rest opening k qs e mid after s h.followed h.cuts };
  adjusts = λ all past opening k qs index seats same h. record { followed = followed_adjusted past k index seats same h.followed; cuts = record { late = h.cuts.late; cuts = h.cuts.cuts } };
}

-- of a whole run
pub cuts_end : (w : World) (all : List Moment) → HasCuts all w.core → CutsEnd (book_of w all)
cuts_end w all h m c k o there is at mine before = h.cuts m c k o there is at mine before
