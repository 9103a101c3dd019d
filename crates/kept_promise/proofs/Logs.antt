-- What was said for operations, in order, and what is true of an operation by that: as a run goes on it stays true of those that nothing is said for.
use Rattle.std.proofs.Common.{◌⊎◌, inl, inr, ◌≡◌, ℕ, ◌<◌, ◌≤◌, List, [], ◌∷◌, ◌++◌, Option, Some, Bool, true, false, refl, sym, ap, ◌∙◌, arith, append-nil}
use Rattle.register_model.specs.declared.op.Outcome.{Outcome}
use Rattle.trace_replay.specs.Traffic.{deals_if}
use Rattle.kept_promise.proofs.Common.{slice_get, Message, Stage, Op, Word, Seat, numbered, Moment, asked_in, step_of, client_of, taken_by, given_by, is_in, Deal, deals_with, deals_in, deals_of}
use Rattle.kept_promise.proofs.Messages.{Job, job}
use Rattle.kept_promise.proofs.Adjusts.{SameSeats}
use Rattle.kept_promise.proofs.Counted.{AlikeUpTo, early}
use Rattle.kept_promise.proofs.JobFacts.{jobs_kept}

-- ---- what is past

-- nothing is said at a moment
abbrev pub IsSilent : Moment → Type 0
IsSilent m = (taken_by m.before (client_of m.before m.event) m.event ≡ []) × (given_by m.before (client_of m.before m.event) m.event ≡ []) × (asked_in m ≡ [])

-- whatever was said was so by this step
abbrev pub ArePast : (step : ℕ) → List Moment → Type 0
ArePast n [] = Unit {0}
ArePast n (m ∷ ms) = ((step_of m ≤ n) ⊎ IsSilent m) × ArePast n ms

pub past_more : (n k : ℕ) (ms : List Moment) (m : Moment) → n ≤ k → (step_of m ≤ k) ⊎ IsSilent m → ArePast n ms → ArePast k (ms ++ m ∷ [])
past_more n k [] m le now h = (now, tt)
past_more n k (z ∷ ms) m le now h = (elim h.0 [ inl a ↦ inl (omega (arith, a, le)) | inr s ↦ inr s ], past_more n k ms m le now h.1)

-- ---- what was said for an operation

silent_if : (b : Bool) → deals_if b [] [] [] ≡ []
silent_if true = refl
silent_if false = refl

pub deals_silent : (o : Op) (m : Moment) → IsSilent m → deals_in o m ≡ []
deals_silent o m s =
    let c : ℕ = client_of m.before m.event in
    ap (λ (l : List Message). deals_if (is_in o (step_of m) c) l (given_by m.before c m.event) (asked_in m)) s.0
    ∙ ap (λ (l : List (ℕ × ℕ)). deals_if (is_in o (step_of m) c) [] l (asked_in m)) s.1
    ∙ ap (λ (l : List Message). deals_if (is_in o (step_of m) c) [] [] l) s.2
    ∙ silent_if (is_in o (step_of m) c)

pub deals_apart : (o : Op) (m : Moment) → is_in o (step_of m) (client_of m.before m.event) ≡ false → deals_in o m ≡ []
deals_apart o m e = ap (λ (b : Bool). deals_if b (taken_by m.before (client_of m.before m.event) m.event) (given_by m.before (client_of m.before m.event) m.event) (asked_in m)) e

pub deals_own : (o : Op) (m : Moment) → is_in o (step_of m) (client_of m.before m.event) ≡ true → deals_in o m ≡ deals_with (taken_by m.before (client_of m.before m.event) m.event) (given_by m.before (client_of m.before m.event) m.event) (asked_in m)
deals_own o m e = ap (λ (b : Bool). deals_if b (taken_by m.before (client_of m.before m.event) m.event) (given_by m.before (client_of m.before m.event) m.event) (asked_in m)) e

appended : {A : Type 0} (xs ys zs : List A) → (xs ++ ys) ++ zs ≡ xs ++ (ys ++ zs)
appended [] ys zs = refl
appended (x ∷ xs) ys zs = ap (λ l. x ∷ l) (appended xs ys zs)

pub deals_more : (o : Op) (past : List Moment) (m : Moment) → deals_of o (past ++ m ∷ []) ≡ deals_of o past ++ deals_in o m
deals_more o [] m = append-nil (deals_in o m)
deals_more o (z ∷ past) m = ap (λ l. deals_in o z ++ l) (deals_more o past m) ∙ sym (appended (deals_in o z) (deals_of o past) (deals_in o m))

-- nothing more
pub deals_same : (o : Op) (past : List Moment) (m : Moment) → deals_in o m ≡ [] → deals_of o (past ++ m ∷ []) ≡ deals_of o past
deals_same o past m none = deals_more o past m ∙ ap (λ l. deals_of o past ++ l) none ∙ append-nil (deals_of o past)

pub deals_pointed : (o : Op) (t : Option ℕ) (past : List Moment) → deals_of (record o { point = t }) past ≡ deals_of o past
deals_pointed o t [] = refl
deals_pointed o t (m ∷ past) = ap (λ l. deals_in o m ++ l) (deals_pointed o t past)

pub deals_filed : (o : Op) (f : ℕ) (t : Option ℕ) (past : List Moment) → deals_of (record o { file = f; point = t }) past ≡ deals_of o past
deals_filed o f t [] = refl
deals_filed o f t (m ∷ past) = ap (λ l. deals_in o m ++ l) (deals_filed o f t past)

pub deals_alike : (n : ℕ) (o r : Op) (past : List Moment) → AlikeUpTo n o r → ArePast n past → deals_of r past ≡ deals_of o past
deals_alike n o r [] same h = refl
deals_alike n o r (m ∷ past) same h = ap (λ l. l ++ deals_of r past) here ∙ ap (λ l. deals_in o m ++ l) (deals_alike n o r past same h.1)
  where
    here : deals_in r m ≡ deals_in o m
    here = elim h.0 [
      | inl le ↦ ap (λ (b : Bool). deals_if b (taken_by m.before (client_of m.before m.event) m.event) (given_by m.before (client_of m.before m.event) m.event) (asked_in m)) (same (step_of m) (client_of m.before m.event) le)
      | inr s ↦ deals_silent r m s ∙ sym (deals_silent o m s)
    ]

pub deals_early : (n : ℕ) (o : Op) (past : List Moment) → n < o.begin → ArePast n past → deals_of o past ≡ []
deals_early n o [] lt h = refl
deals_early n o (m ∷ past) lt h = ap (λ l. l ++ deals_of o past) here ∙ deals_early n o past lt h.1
  where
    here : deals_in o m ≡ []
    here = elim h.0 [ inl le ↦ deals_apart o m (early o (step_of m) (client_of m.before m.event) (omega (arith, le, lt))) | inr s ↦ deals_silent o m s ]

-- ---- what is true by it

-- of one under way at this stage, whose file and value these are, and of any
abbrev pub Going : Type 1
Going = List Deal → (file : ℕ) → (value : List ℕ) → Stage → Type 0

abbrev pub Ending : Type 1
Ending = List Deal → Word → (file : ℕ) → (value : List ℕ) → Outcome → Type 0

-- of an operation, by what was said for it
abbrev Goes : Going → List Moment → Op → Stage → Type 0
Goes P past o st = P (deals_of o past) o.file o.value st

abbrev Ends : Ending → List Moment → Op → Type 0
Ends E past o = E (deals_of o past) o.word o.file o.value o.outcome

pub record HaveLogs (P : Going) (E : Ending) (past : List Moment) (step : ℕ) (seats : List Seat) (ops : List Op) : Type 0 where
  pub by : ArePast step past
  pub jobs : (i : ℕ) (seat : Seat) (j : Job) (o : Op) → numbered seats i ≡ Some seat → job seat ≡ Some j → slice_get ops j.place ≡ Some o → P (deals_of o past) o.file o.value j.stage
  pub each : (p : ℕ) (o : Op) → slice_get ops p ≡ Some o → E (deals_of o past) o.word o.file o.value o.outcome

-- clients have other indexes, or other contents
pub logs_kept : (P : Going) (E : Ending) (past : List Moment) (step : ℕ) (seats after : List Seat) (ops : List Op) → SameSeats seats after → HaveLogs P E past step seats ops → HaveLogs P E past step after ops
logs_kept P E past step seats after ops same h = record { by = h.by; jobs = jobs_kept (Goes P past) seats after ops same h.jobs; each = h.each }
