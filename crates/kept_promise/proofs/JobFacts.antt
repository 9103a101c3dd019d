-- A fact of each operation, or of each that is under way: what is left of it where one gets another form, one begins, or a client goes on.
use Rattle.std.proofs.Common.{◌⊎◌, inl, inr, ◌≡◌, ℕ, List, Option, Some, None, refl, sym, ap, ◌∙◌}
use Rattle.client_state.specs.State as client
use Rattle.kept_promise.proofs.Common.{slice_get, ClientStep, Ended, Stage, Op, TakenCall, Seat, numbered, ops_after, ops_with, op_after, place_after}
use Rattle.kept_promise.proofs.Lists.{some_is, nothing_there, of_replaced}
use Rattle.kept_promise.proofs.Messages.{Job, job, job_of}
use Rattle.kept_promise.proofs.Adjusts.{SameSeats}
use Rattle.kept_promise.proofs.Actors.{job_place, job_task}

abbrev pub AllJobs : (P : Op → Stage → Type 0) → List Seat → List Op → Type 0
AllJobs P seats ops = (i : ℕ) (seat : Seat) (j : Job) (o : Op) → numbered seats i ≡ Some seat → job seat ≡ Some j → slice_get ops j.place ≡ Some o → P o j.stage

abbrev pub AllOps : (P : Op → Type 0) → List Op → Type 0
AllOps P ops = (p : ℕ) (o : Op) → slice_get ops p ≡ Some o → P o

-- other indexes, or other contents that are kept
pub jobs_kept : (P : Op → Stage → Type 0) (seats after : List Seat) (ops : List Op) → SameSeats seats after → AllJobs P seats ops → AllJobs P after ops
jobs_kept P seats after ops same h = λ i seat j o here is at. let w = same.was i seat here in h i w.0 j o w.3 (ap job (sym w.4) ∙ is) at

-- ---- a client goes on with its operation

pub ops_shape : (ops : List Op) (place : Option ℕ) (c : client.State) (taken : List TakenCall) (step : ℕ) (acts : ClientStep) (p : ℕ) (o : Op) → slice_get (ops_with ops place c taken step acts) p ≡ Some o
    → ((q : Op) × (place ≡ Some p) × (slice_get ops p ≡ Some q) × (o ≡ op_after q c taken step acts)) ⊎ ((place ≡ Some p → ⊥) × (slice_get ops p ≡ Some o))
ops_shape ops None c taken step acts p o at = inr ((λ e. nothing_there p e), at)
ops_shape ops (Some l) c taken step acts p o at = by (slice_get ops l) refl at
  where
    by : (q : Option Op) → slice_get ops l ≡ q → slice_get (ops_after ops l q c taken step acts) p ≡ Some o → ((r : Op) × (Some l ≡ Some p) × (slice_get ops p ≡ Some r) × (o ≡ op_after r c taken step acts)) ⊎ ((Some l ≡ Some p → ⊥) × (slice_get ops p ≡ Some o))
    by None none at = inr ((λ e. nothing_there o (sym none ∙ ap (slice_get ops) (some_is l p e) ∙ at)), at)
    by (Some q) was at = elim (of_replaced ops l (op_after q c taken step acts) p o at) [
      | inl new ↦ inl (q, ap (λ z. Some z) (sym new.0), ap (slice_get ops) new.0 ∙ was, new.1)
      | inr old ↦ inr ((λ e. old.0 (sym (some_is l p e))), old.1)
    ]

-- a job behind the step is of the operation at the client's place, which goes on
pub job_after : (c : client.State) (l : Option ℕ) (e : Option Ended) (j : Job) → job_of (place_after l e) c.task ≡ Some j → (l ≡ Some j.place) × (e ≡ None) × (c.task ≡ Some (record { file = j.file; stage = j.stage }))
job_after c l None j is = (job_place l c.task j is, refl, job_task l c.task j is)
job_after c l (Some e) j is = nothing_there j is
