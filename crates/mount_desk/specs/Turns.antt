-- What a turn of a mount makes of its client: a call of `Mounted`, and one that tells it the end of the link where what was said didn't go out.
use Rattle.std.specs.Prelude.{◌≡◌, ◌⊎◌, ◌+◌, ◌-◌, ◌^◌, ℕ, List, Option, Some, None, Result, Ok, Err, Bool, true, false, not, length, min, is_some}
use Rattle.record_ends.specs.declared.end.End.{End}
use Rattle.lbfs_client.specs.Answers.{answer_line}
use Rattle.lbfs_client.specs.Caching.{within}
use Rattle.lbfs_client.specs.Hinting.{LearnsIn, OffersIf}
use Rattle.lbfs_client.specs.Mounting.{Mount, Receives, Runs, Stops}
use Rattle.lbfs_client.specs.declared.answer.Answer.{Answer}
use Rattle.lbfs_client.specs.declared.line.MountLine.{MountLine}
use Rattle.lbfs_client.specs.declared.line.MountLine.TheVariants as line
use Rattle.lbfs_client.specs.declared.said.Said.{Said}

-- whether a connection is to be joined for a line
abbrev pub wants_link : MountLine → (linked : Bool) → Bool
wants_link line.Join linked = not linked
wants_link l linked = false

-- the line that tells how an operation ended
abbrev pub IsAnswer : List ℕ → Type 0
IsAnswer text = ∥ ((a : Answer) × (text ≡ answer_line a)) ∥₁

-- what is said of an operation that ended, if one did
abbrev pub IsTold : Option (List ℕ) → Type 0
IsTold None = Unit {0}
IsTold (Some text) = IsAnswer text

-- once a line has ended, what is kept is dropped beyond so many bytes; else all stays
abbrev pub bounded_if : (ended : Bool) → (most : ℕ) → Mount → Mount
bounded_if true most m = within most m
bounded_if false most m = m

abbrev pub bounded_by : Said → (most : ℕ) → Mount → Mount
bounded_by said most m = bounded_if (is_some said.line) most m

-- the link has ended so
pub record Loses (most : ℕ) (m : Mount) (end : End) (now : ℕ) (m' : Mount) : Type 0 where
  pub mid : Mount
  pub said : Said
  pub stops : Stops m end now mid said
  pub bounds : m' ≡ bounded_by said most mid

-- what was said went out, or waits for what is said next; or the link ended as it did
abbrev pub GoesOut : (most : ℕ) → Mount → (now : ℕ) → Mount → Type 0
GoesOut most m now m' = (m' ≡ m) ⊎ ((end : End) × Loses most m end now m')

-- what a call of the client said is sent, once what is kept is bounded
abbrev pub Sends : (most : ℕ) → Mount → Said → (now : ℕ) → Mount → Type 0
Sends most m said now m' = GoesOut most (bounded_by said most m) now m'

-- where memory ran out for the call nothing is
abbrev pub SendsOf : {E : Type 0} → (most : ℕ) → Mount → Result Said E → (now : ℕ) → Mount → Type 0
SendsOf most m (Ok said) now m' = Sends most m said now m'
SendsOf most m (Err e) now m' = ⊥

-- Before a line the client may get hints: of what was stored,
abbrev pub MayLearn : Mount → Mount → Type 0
MayLearn m m' = (m' ≡ m) ⊎ ((file : ℕ) × LearnsIn m file m')

-- and of a file of the host.
abbrev pub MayOffer : Mount → Mount → Type 0
MayOffer m m' = (m' ≡ m) ⊎ ((name : List ℕ) × (done : Bool) × OffersIf done m name m')

pub record Hints (m m' : Mount) : Type 0 where
  pub mid : Mount
  pub learned : MayLearn m mid
  pub offered : MayOffer mid m'

-- a line after these
abbrev pub RunsHinted : Mount → MountLine → (now : ℕ) → Mount → Said → Type 0
RunsHinted m l now m' said = (h : Mount) × Hints m h × Runs h l now m' said

-- a call of the client, and what it said is sent
abbrev pub Turns : (most : ℕ) → (Mount → Said → Type 0) → (now : ℕ) → Mount → Type 0
Turns most called now m' = (m : Mount) × (said : Said) × called m said × Sends most m said now m'

-- how many bytes have come since the line began, with these
abbrev pub counted : (listed : ℕ) → (bytes : List ℕ) → ℕ
counted listed bytes = min (listed + length bytes) (2 ^ 64 - 1)

-- a record came, with which so many bytes had come since the line began
abbrev pub Hears : (most listed : ℕ) → Mount → (bytes : List ℕ) → (now : ℕ) → Mount → Type 0
Hears most listed m bytes now m' = Turns most (λ n said. Receives m (counted listed bytes) bytes now n said) now m'
