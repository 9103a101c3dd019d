-- A turn behind a course is a course.
use Rattle.std.proofs.Common.{◌≡◌, ◌⊎◌, inl, inr, ℕ, List, Bool, true, false, not, ◌==◌, ◌&&◌, refl, sym, ◌∙◌, subst, eqb-true}
use Rattle.std.proofs.Math.Logic.{∥∥₁_map}
use Rattle.record_ends.specs.declared.end.End.{End}
use Rattle.lbfs_client.specs.Mounting.{Mount, Continues, joined_step}
use Rattle.lbfs_client.specs.declared.line.MountLine.{MountLine}
use Rattle.mount_desk.specs.Course.{Begun, Course}
use Rattle.mount_desk.specs.declared.desk.Desk.{Desk}
use Rattle.mount_desk.specs.Turns.{Hears, Loses, RunsHinted, Turns, counted}

-- what is known of a client, unless memory ran out
abbrev pub Known : (starved : Bool) → (drift most listed : ℕ) → Mount → Type 0
Known starved drift most listed m = starved ≡ false → Course drift most listed m

-- ---- the same, by other names

same_course : (drift most most' listed listed' : ℕ) (m m' : Mount) → most' ≡ most → listed' ≡ listed → m' ≡ m → Course drift most listed m → Course drift most' listed' m'
same_course drift most most' listed listed' m m' a b c h = subst (λ (k : ℕ). Course drift k listed' m') (sym a) (subst (λ (n : ℕ). Course drift most n m') (sym b) (subst (λ (x : Mount). Course drift most listed x) (sym c) h))

pub known_same : (starved starved' : Bool) (drift most most' listed listed' : ℕ) (m m' : Mount) → starved' ≡ starved → most' ≡ most → listed' ≡ listed → m' ≡ m → ∥ (starved ≡ false → Course drift most listed m) ∥₁ → ∥ (starved' ≡ false → Course drift most' listed' m') ∥₁
known_same starved starved' drift most most' listed listed' m m' s a b c h = ∥∥₁_map h (λ (k : Known starved drift most listed m) fed. same_course drift most most' listed listed' m m' a b c (k (sym s ∙ fed)))

module _ {F L : Type 0} where
  -- of a desk that stays
  pub known_still : (d e : Desk F L) (drift : ℕ) → e ≡ d → ∥ (d.starved ≡ false → Course drift d.most d.listed d.mounted) ∥₁ → ∥ (e.starved ≡ false → Course drift e.most e.listed e.mounted) ∥₁
  known_still d e drift same h = subst (λ (x : Desk F L). ∥ (x.starved ≡ false → Course drift x.most x.listed x.mounted) ∥₁) (sym same) h

-- ---- its beginning, and its turns

pub known_first : (starved : Bool) (drift most listed : ℕ) (m m' : Mount) → m' ≡ m → listed ≡ 0 → Begun drift m → ∥ (starved ≡ false → Course drift most listed m') ∥₁
known_first starved drift most listed m m' same zero begun = ∣ (λ fed. same_course drift most most 0 listed m m' refl zero same (Course.begins m begun)) ∣₁

pub known_runs : (starved starved' : Bool) (drift most most' listed listed' : ℕ) (m m' : Mount) (l : MountLine) (now : ℕ) → (starved' ≡ false → starved ≡ false) → most' ≡ most → listed' ≡ 0
    → (starved' ≡ false → Turns most (λ n said. RunsHinted m l now n said) now m') → ∥ (starved ≡ false → Course drift most listed m) ∥₁ → ∥ (starved' ≡ false → Course drift most' listed' m') ∥₁
known_runs starved starved' drift most most' listed listed' m m' l now was a b turn h = ∥∥₁_map h (λ (k : Known starved drift most listed m) fed. same_course drift most most' 0 listed' m' m' a b refl (Course.runs listed m l now m' (k (was fed)) (turn fed)))

pub known_goes_on : (starved starved' : Bool) (drift most most' listed listed' : ℕ) (m m' : Mount) (now : ℕ) → (starved' ≡ false → starved ≡ false) → most' ≡ most → listed' ≡ listed
    → (starved' ≡ false → Turns most (λ n said. Continues m now n said) now m') → ∥ (starved ≡ false → Course drift most listed m) ∥₁ → ∥ (starved' ≡ false → Course drift most' listed' m') ∥₁
known_goes_on starved starved' drift most most' listed listed' m m' now was a b turn h = ∥∥₁_map h (λ (k : Known starved drift most listed m) fed. same_course drift most most' listed listed' m' m' a b refl (Course.goes_on listed m now m' (k (was fed)) (turn fed)))

pub known_joins : (starved starved' : Bool) (drift most most' listed listed' : ℕ) (m m' : Mount) (now : ℕ) → (starved' ≡ false → starved ≡ false) → most' ≡ most → listed' ≡ listed
    → (starved' ≡ false → Turns most (λ n said. joined_step m ≡ (n, said)) now m') → ∥ (starved ≡ false → Course drift most listed m) ∥₁ → ∥ (starved' ≡ false → Course drift most' listed' m') ∥₁
known_joins starved starved' drift most most' listed listed' m m' now was a b turn h = ∥∥₁_map h (λ (k : Known starved drift most listed m) fed. same_course drift most most' listed listed' m' m' a b refl (Course.joins listed m now m' (k (was fed)) (turn fed)))

pub known_hears : (starved starved' : Bool) (drift most most' listed listed' : ℕ) (m m' : Mount) (bytes : List ℕ) (now : ℕ) → (starved' ≡ false → starved ≡ false) → most' ≡ most
    → ((m' ≡ m) × (starved' ≡ starved) × (listed' ≡ listed)) ⊎ ((listed' ≡ counted listed bytes) × (starved' ≡ false → Hears most listed m bytes now m')) → ∥ (starved ≡ false → Course drift most listed m) ∥₁ → ∥ (starved' ≡ false → Course drift most' listed' m') ∥₁
known_hears starved starved' drift most most' listed listed' m m' bytes now was a (inl (c, s, b)) h = known_same starved starved' drift most most' listed listed' m m' s a b c h
known_hears starved starved' drift most most' listed listed' m m' bytes now was a (inr (b, turn)) h = ∥∥₁_map h (λ (k : Known starved drift most listed m) fed. same_course drift most most' (counted listed bytes) listed' m' m' a b refl (Course.hears listed m bytes now m' (k (was fed)) (turn fed)))

pub known_stops : (starved starved' : Bool) (drift most most' listed listed' : ℕ) (m m' : Mount) (end : End) (now : ℕ) → (starved' ≡ false → starved ≡ false) → most' ≡ most
    → ((m' ≡ m) × (starved' ≡ starved) × (listed' ≡ listed)) ⊎ ((listed' ≡ listed) × (starved' ≡ false → Loses most m end now m')) → ∥ (starved ≡ false → Course drift most listed m) ∥₁ → ∥ (starved' ≡ false → Course drift most' listed' m') ∥₁
known_stops starved starved' drift most most' listed listed' m m' end now was a (inl (c, s, b)) h = known_same starved starved' drift most most' listed listed' m m' s a b c h
known_stops starved starved' drift most most' listed listed' m m' end now was a (inr (b, turn)) h = ∥∥₁_map h (λ (k : Known starved drift most listed m) fed. same_course drift most most' listed listed' m' m' a b refl (Course.stops listed m end now m' (k (was fed)) (turn fed)))

-- ---- behind the last turn

-- a client whose drift and bound are those that are asked for, and whose memory didn't run out
is_asked : (a b c d : ℕ) (starved : Bool) → (((a == b) && (c == d)) && not starved) ≡ true → (a ≡ b) × (c ≡ d) × (starved ≡ false)
is_asked a b c d starved = by (a == b) refl (c == d) refl starved
  where
    by : (p : Bool) → (a == b) ≡ p → (q : Bool) → (c == d) ≡ q → (s : Bool) → ((p && q) && not s) ≡ true → (a ≡ b) × (c ≡ d) × (s ≡ false)
    by true x true y false is = (eqb-true a b x, eqb-true c d y, refl)
    by true x true y true is = cc
    by true x false y s is = cc
    by false x q y s is = cc

-- what is known behind the last turn
pub known_last : (known starved : Bool) (has_drift drift has_most most listed : ℕ) (m : Mount) → known ≡ (((has_drift == drift) && (has_most == most)) && not starved) → ∥ (starved ≡ false → Course has_drift has_most listed m) ∥₁ → ∥ ((n : ℕ) × (known ≡ true → Course drift most n m)) ∥₁
known_last known starved has_drift drift has_most most listed m is h = ∥∥₁_map h (λ (k : Known starved has_drift has_most listed m). (
  listed,
  λ sure.
      let a = is_asked has_drift drift has_most most starved (sym is ∙ sure) in
      subst (λ (d : ℕ). Course d most listed m) a.0 (subst (λ (b : ℕ). Course has_drift b listed m) a.1 (k a.2)),
))
