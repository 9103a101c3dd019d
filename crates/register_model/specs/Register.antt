-- Files as registers of whole contents: what a history is, what a file holds at a moment, and when a
-- history is legal.
--
-- A file is a register: at each moment it holds one whole content, or it is absent. Steps are numbered
-- from 1, and a moment is the number of a step. An operation begins at a step and ends at that step or a
-- later one, or hasn't ended. It may have a point: the step at which it read its file or changed it.
use Rattle.std.specs.Prelude.{◌≡◌, ◌≢◌, ℕ, ◌-◌, ◌≤◌, List, [], ◌∷◌, length, take, Bool, true, false, ◌&&◌, ◌||◌, ◌==◌, nat_lt, if◌then◌else◌, Option, Some, None, unwrap_or, find, filter, All, AllPairs, IsTrue, IsSome}
use Rattle.std.specs.Option.{option_map, option_map_or}
use Rattle.register_model.specs.declared.op.Word.{Word}
use Rattle.register_model.specs.declared.op.Word.TheVariants.{Open, Close, Make, Remove, Rename}
use Rattle.register_model.specs.declared.op.Outcome.{Outcome}
use Rattle.register_model.specs.declared.op.Outcome.TheVariants as outcome
use Rattle.register_model.specs.declared.op.Op.{Op}
use Rattle.register_model.specs.declared.op.Opening.{Opening}
use Rattle.register_model.specs.declared.raw.Raw.{Raw}

-- The version of LBFS that the clients speak, the files that were there at first, the operations, and the number of steps. First come the operations of clients, in the
-- order of their begins, and then the changes that sessions made which are no client's, in the order in which they were made: none where the run has no such session.
pub record History : Type 0 where
  pub lbfs : ℕ
  pub opening : List Opening
  pub ops : List Op
  pub raws : Option (List Raw)
  pub steps : ℕ

-- how many changes of others there are
abbrev pub count_raws : Option (List Raw) → ℕ
count_raws None = 0
count_raws (Some rs) = length rs

-- the operations that clients were told to do
abbrev pub of_clients : History → List Op
of_clients h = take (length h.ops - count_raws h.raws) h.ops

-- what a file is at a moment: a whole content, or absent
abbrev pub Value : Type 0
Value = Option (List ℕ)

abbrev pub Absent : Value
Absent = None

-- ---- changes

-- whether the point of an operation with this word is a change of its file
abbrev pub changes : Word → Bool
changes Close = true
changes Make = true
changes Remove = true
changes Rename = true
changes _ = false

-- what a change leaves of its file: a close its value, a make the empty content, and a remove, or a rename
-- of another file to its name, nothing
abbrev pub value_from : Word → List ℕ → Value
value_from Close value = Some value
value_from Make value = Some []
value_from _ value = Absent

-- whether an operation is a change of the file, with its point before the moment
abbrev pub changed_before : ℕ → ℕ → Op → Bool
changed_before file moment o = changes o.word && (o.file == file) && option_map_or (λ p. nat_lt p moment) o.point false

-- of an operation and perhaps another the one with the greater point
abbrev pub later : Op → Option Op → Option Op
later o None = Some o
later o (Some q) = if nat_lt (unwrap_or o.point 0) (unwrap_or q.point 0) then Some q else Some o

-- the operation with the greatest point
abbrev pub latest : List Op → Option Op
latest [] = None
latest (o ∷ os) = later o (latest os)

-- ---- the value at a moment

-- the content of a file in a list of files, or absent where the list hasn't it
abbrev pub content_of : List Opening → ℕ → Value
content_of opening file = option_map (λ f. f.content) (find (λ f. f.file == file) opening)

-- what a file was before the first step
abbrev pub value_at_first : History → ℕ → Value
value_at_first h file = content_of h.opening file

-- what the last change left of a file, or what it was at first where there was no change
abbrev pub value_after : Value → Option Op → Value
value_after first None = first
value_after first (Some o) = value_from o.word o.value

-- What a file is at a moment: what was left of it by the change of it with the greatest point below the
-- moment. Where no change has a point below the moment, what it was at first.
abbrev pub value_at : History → ℕ → ℕ → Value
value_at h file moment = value_after (value_at_first h file) (latest (filter (changed_before file moment) h.ops))

-- ---- how operations end

-- an open got a content
abbrev pub is_opened : Outcome → Bool
is_opened (outcome.Opened len sha1) = true
is_opened _ = false

-- a close replaced its file
abbrev pub is_closed : Outcome → Bool
is_closed (outcome.Closed version len sha1) = true
is_closed _ = false

-- it was done, and has nothing to tell
abbrev pub is_done : Outcome → Bool
is_done outcome.Done = true
is_done _ = false

-- refused since the file is gone: NFS3ERR_STALE, 70 (RFC 1813, section 2.6)
abbrev pub is_stale : Outcome → Bool
is_stale (outcome.Refused status) = status == 70
is_stale _ = false

-- the link was lost before an answer came
abbrev pub is_lost : Outcome → Bool
is_lost outcome.Lost = true
is_lost _ = false

-- nobody was told yet whether it was done, so it may have been
abbrev pub is_untold : Outcome → Bool
is_untold outcome.Lost = true
is_untold outcome.Running = true
is_untold _ = false

-- Whether an operation with this word and this file's id ended as a change that was made. A rename has
-- the id of the file that it took away, and 0 where it took none away: then it changed no file.
abbrev pub success : Word → ℕ → Outcome → Bool
success Close file o = is_closed o
success Make file o = is_done o
success Remove file o = is_done o
success Rename file o = is_done o && nat_lt 0 file
success _ file o = false

-- the same of an operation
abbrev pub succeeded : Op → Bool
succeeded o = success o.word o.file o.outcome

-- ---- what makes a history legal

-- two operations have different points, if one of them is a change
abbrev pub IsApart : Op → Op → Type 0
IsApart a b = IsTrue (changes a.word || changes b.word) → (p : ℕ) → a.point ≡ Some p → b.point ≢ Some p

-- a point isn't before the begin; nor is it after the end, unless the operation was lost
abbrev pub IsWithin : Op → Type 0
IsWithin o = (p : ℕ) → o.point ≡ Some p → (o.begin ≤ p) × (is_lost o.outcome ≡ false → (e : ℕ) → o.end ≡ Some e → p ≤ e)

-- an open that got a content has a point, and its value is the whole content that the file had there
abbrev pub OpensWhole : History → Op → Type 0
OpensWhole h o = o.word ≡ Open → IsTrue (is_opened o.outcome) → (p : ℕ) × (o.point ≡ Some p) × (value_at h o.file p ≡ Some o.value)

-- an open that was told that the file is gone has a point, and the file was absent there
abbrev pub FindsGone : History → Op → Type 0
FindsGone h o = o.word ≡ Open → IsTrue (is_stale o.outcome) → (p : ℕ) × (o.point ≡ Some p) × (value_at h o.file p ≡ Absent)

-- what a file must be for a change of it: absent for a make, there for any other
abbrev pub IsFit : Word → Value → Type 0
IsFit Make before = before ≡ Absent
IsFit _ before = IsSome before

-- a change that succeeded has a point, and at the point of any change the file was what it must be
abbrev pub ChangesOnce : History → Op → Type 0
ChangesOnce h o = (IsTrue (succeeded o) → IsSome o.point) × (IsTrue (changes o.word) → (p : ℕ) → o.point ≡ Some p → IsFit o.word (value_at h o.file p))

-- a change that didn't succeed has no point, unless nobody was told
abbrev pub ChangesNothing : Op → Type 0
ChangesNothing o = IsTrue (changes o.word) → succeeded o ≡ false → is_untold o.outcome ≡ false → o.point ≡ None

-- Six facts make a history legal.
pub record IsLegal (h : History) : Type 0 where
  -- No other operation has the point of a change.
  pub apart : AllPairs IsApart h.ops
  -- Each point lies from the begin of its operation to its end; of a lost one it may lie after the end.
  pub within : All IsWithin h.ops
  -- Each open that got a content got the whole content that its file had at its point.
  pub opens : All (OpensWhole h) h.ops
  -- Each open that was told that its file is gone has a point at which the file was absent.
  pub absences : All (FindsGone h) h.ops
  -- Each change that succeeded has a point, and each change was made of a file that was absent for a make,
  -- and there for any other.
  pub successes : All (ChangesOnce h) h.ops
  -- Each change that failed has no point: it was never made.
  pub failures : All ChangesNothing h.ops
