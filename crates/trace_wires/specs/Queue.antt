-- What an end is given of the bytes that are on their way to it.
use Rattle.std.specs.Prelude.{◌≡◌, ℕ, ◌+◌, ◌<◌, ◌≤◌, List, [], ◌∷◌, Bool, true, false, Option, Some, None, length, take, drop}
use Rattle.rpc_record.specs.Records.{Unread, fed}
use Rattle.trace_text.specs.declared.line.Amount.{Amount}
use Rattle.trace_text.specs.declared.line.Amount.TheVariants as amount
use Rattle.trace_wires.specs.declared.queue.Given.{Given}

-- the first bytes, at least one and at most so many, and what the end made of them
pub record IsGiven (before after : List ℕ) (end then : Unread) (most : ℕ) (g : Given) : Type 0 where
  pub some : 0 < g.count
  pub few : g.count ≤ most
  pub within : g.count ≤ length before
  pub rest : after ≡ drop g.count before
  pub kept : then ≡ (fed end (take g.count before)).0
  pub records : g.records ≡ (fed end (take g.count before)).1.records

-- nothing, where nothing is on its way
abbrev pub IsNext : (before after : List ℕ) (end then : Unread) (most : ℕ) → Option Given → Type 0
IsNext before after end then most None = (before ≡ []) × (after ≡ []) × (then ≡ end)
IsNext before after end then most (Some g) = IsGiven before after end then most g

-- of a line's amount so many were given, and at most so many more are: of all as many as there are
abbrev pub CanGive : Amount → (given most : ℕ) → Type 0
CanGive amount.All given most = 0 < most
CanGive (amount.Bytes n) given most = given + most ≡ n

-- whether it has no byte
abbrev pub is_none : List ℕ → Bool
is_none [] = true
is_none (b ∷ bs) = false

-- all bytes of a queue, or so many
abbrev pub count_of : Amount → (queued : ℕ) → ℕ
count_of amount.All queued = queued
count_of (amount.Bytes n) queued = n
