-- A disk that does what is asked of its folder later, or never: of the operations on names since the last flush of the
-- folder any may be there and any not, and of the log any that was seen since its last flush. It meets the calls
-- (`proofs/Meets.antt`), so what is proved of a store holds over it.
use Rattle.std.specs.Prelude.{◌≡◌, ◌⊎◌, ℕ, suc, ◌≤◌, if◌then◌else◌, List, [], ◌∷◌, Option, Some, None}
use mathlib.Core.Logic.{inr}
use mathlib.Core.Path.{refl}
use Rattle.log_store.specs.Names.{same}
use Rattle.log_store.specs.Lines.{Log}
use Rattle.log_store.specs.Disk.{Files, File, Missing, Loose, Firm, Disk, Agrees}
use Rattle.log_store.specs.declared.which.Which.{Which}
use Rattle.log_store.specs.declared.which.FileName.{FileName}
use Rattle.log_store.specs.declared.which.FileName.TheVariants.{Record, New}

abbrev pub Names : Type 0
Names = FileName → File

pub data Operation : Type 0 where
  Link : FileName → File → Operation  -- a new file under a name
  Move : Which → File → Operation  -- a new file to its record's name
  Unlink : FileName → Operation

abbrev pub after : Operation → Names → Names
after (Link n file) names x = if same x n then file else names x
after (Move n file) names x = if same x (New n) then Missing else if same x (Record n) then file else names x
after (Unlink n) names x = if same x n then Missing else names x

-- of the operations, the last first, some are on the disk, in their order
abbrev pub Survives : Names → List Operation → Names → Type 0
Survives base [] names = (x : FileName) → names x ≡ base x
Survives base (o ∷ pending) names = Survives base pending names ⊎ ((d : Names) × Survives base pending d × ((x : FileName) → names x ≡ after o d x))

-- bytes that weren't flushed may be any, and so may whether they are there
abbrev pub Left : Names → List Operation → Files → Type 0
Left base pending c = (names : Names) × Survives base pending names × ((x : FileName) → Agrees (names x) (c x))

-- the log is one of these
abbrev pub IsOneOf : List Log → Log → Type 0
IsOneOf [] l = ⊥
IsOneOf (k ∷ ks) l = (l ≡ k) ⊎ IsOneOf ks l

-- what a file may be found as
abbrev pub found : File → Option (List ℕ)
found Missing = None
found (Loose b) = None
found (Firm b) = Some b

pub found_agrees : (f : File) → Agrees f (found f)
found_agrees Missing = refl
found_agrees (Loose b) = tt
found_agrees (Firm b) = refl

pub record Pending : Type 1 where
  pub here : Names
  pub base : Names
  pub pending : List Operation
  pub whole : Survives base pending here
  pub entries : Log
  pub logs : List Log  -- what else a cut may leave of it
  pub moment : ℕ
  pub since : ℕ → Files → Log → Type 0

abbrev pub disk : Pending → Disk
disk p = record { seen = p.here; entries = p.entries; may_leave = λ c l. Left p.base p.pending c × IsOneOf (p.entries ∷ p.logs) l; moment = p.moment; left_since = p.since }

-- a call ends, and leaves this
abbrev pub now : Pending → (here base : Names) → (pending : List Operation) → Survives base pending here → Log → List Log → Pending
now p here base pending whole entries logs = record {
  here = here;
  base = base;
  pending = pending;
  whole = whole;
  entries = entries;
  logs = logs;
  moment = suc p.moment;
  since = λ t c l. ((t ≤ p.moment) × p.since t c l) ⊎ (Left base pending c × IsOneOf (entries ∷ logs) l);
}

abbrev pub done : Pending → Operation → Pending
done p o = now p (after o p.here) p.base (o ∷ p.pending) (inr (p.here, p.whole, λ x. refl)) p.entries p.logs

-- the log was changed, or flushed
abbrev pub logged : Pending → Log → List Log → Pending
logged p entries logs = now p p.here p.base p.pending p.whole entries logs
