-- What the promise and its proof speak of when they speak of the past: the files at first, the operations, the journal, and the moments.
use Rattle.std.specs.Prelude.{◌≡◌, ℕ, ◌+◌, ◌≤◌, ◌<◌, List, ◌++◌, length, filter, map, ◌⊎◌, Some, None, Contains}
use Rattle.sha1.specs.Sha1.{sha1}
use Rattle.server_core.specs.declared.journal.Entry.{Entry}
use Rattle.register_model.specs.Register as register
use Rattle.register_model.specs.Register.{History, Value, changed_before}
use Rattle.register_model.specs.declared.op.Op.{Op}
use Rattle.register_model.specs.declared.raw.Raw.{Raw}
use Rattle.register_model.specs.Raw.{op_of}
use Rattle.register_model.specs.declared.op.Opening.{Opening}
use Rattle.trace_replay.specs.Trail.{Moment, hashed_of}
use Rattle.trace_replay.specs.World.{World}

pub record Book : Type 0 where
  -- the version of LBFS that the clients speak
  pub lbfs : ℕ
  pub opening : List Opening
  -- the operations of clients
  pub ops : List Op
  -- the changes by sessions that are no client's
  pub raws : List Raw
  -- how many steps there were
  pub steps : ℕ
  -- what the server's journal tells of the changes that were made, and the step of each
  pub journal : List Entry
  pub entries : List ℕ
  pub moments : List Moment

abbrev pub book_of : World → List Moment → Book
book_of w ms = record { lbfs = w.core.lbfs; opening = w.opening; ops = w.core.ops; raws = w.core.raws; steps = w.core.steps; journal = w.core.server.journal; entries = w.core.entries; moments = ms }

-- all of them, whether or not there was a session that is no client's
abbrev pub history : Book → History
history book = record { lbfs = book.lbfs; opening = book.opening; ops = book.ops ++ map op_of book.raws; raws = Some book.raws; steps = book.steps }

-- what a file is at a moment, before the step of this number
abbrev pub value_at : Book → (file moment : ℕ) → Value
value_at book file moment = register.value_at (history book) file moment

-- the version of a file that was there at first, and of one that wasn't
abbrev pub first_version : Value → ℕ
first_version None = 0
first_version (Some content) = 1

-- its version then: one more with each change, of which the first may have made it
abbrev pub version_at : Book → (file moment : ℕ) → ℕ
version_at book file moment = length (filter (changed_before file moment) (history book).ops) + first_version (register.value_at_first (history book) file)

-- ---- digests

-- no two different byte lists of these share a digest
abbrev pub AreApart : List (List ℕ) → Type 0
AreApart hashed = (a b : List ℕ) → Contains hashed a → Contains hashed b → sha1 a ≡ sha1 b → a ≡ b

-- two different ones do
pub record Collides (hashed : List (List ℕ)) : Type 0 where
  pub a : List ℕ
  pub b : List ℕ
  pub first : Contains hashed a
  pub second : Contains hashed b
  pub same : sha1 a ≡ sha1 b
  pub apart : a ≡ b → ⊥

-- what rests on digests
abbrev pub Or : Book → Type 0 → Type 0
Or book P = P ⊎ Collides (hashed_of book.moments)

-- ---- contents and versions

-- a file had this content in this version, at a moment that is past
pub record HadContent (book : Book) (file version : ℕ) (content : List ℕ) : Type 0 where
  pub moment : ℕ
  pub past : moment ≤ book.steps
  pub version_is : version_at book file moment ≡ version
  pub value_is : Or book (value_at book file moment ≡ Some content)
