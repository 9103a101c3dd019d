-- What the journal tells of files, and when the tree of a server holds what its journal says.
use Rattle.std.specs.Prelude.{◌≡◌, ℕ, ◌+◌, ◌<◌, List, [], ◌∷◌, length, Option, Some, None, ◌==◌, if◌then◌else◌}
use Rattle.std.specs.List.{AllByRecursion}
use Rattle.std.specs.Option.{option_map}
use Rattle.sha1.specs.Sha1.{sha1}
use Rattle.tree_nodes.specs.declared.node.Node.{Node}
use Rattle.tree_reading.specs.Tree.{Tree}
use Rattle.file_tree.specs.View.{AreIdsApart}
use Rattle.tree_reading.specs.declared.entry.EntryKind.{EntryKind}
use Rattle.tree_reading.specs.declared.entry.EntryKind.TheVariants as kind
use Rattle.server_core.specs.declared.journal.Entry.{Entry}
use Rattle.server_core.specs.State.{State}
use Rattle.chunk_calls.specs.Files.{File, file_at}

-- ---- what is told of a file

pub record Fact : Type 0 where
  pub version : ℕ
  pub len : ℕ
  pub sha1 : List ℕ

abbrev pub fact_of : File → Fact
fact_of f = record { version = f.version; len = length f.content; sha1 = sha1 f.content }

-- none where no file has the id
abbrev pub fact_at : Tree → ℕ → Option Fact
fact_at t id = option_map fact_of (file_at t id)

-- ---- by the entries of a journal, the oldest first

abbrev pub entry_fact : Entry → Fact
entry_fact e = record { version = e.version; len = e.len; sha1 = e.sha1 }

-- of a file that is made or gets a content all is told; one that is removed is there no more; a name tells nothing of files
abbrev pub fact_by : EntryKind → Entry → Option Fact → Option Fact
fact_by kind.Make e before = Some (entry_fact e)
fact_by kind.Commit e before = Some (entry_fact e)
fact_by kind.Remove e before = None
fact_by kind.Name e before = before

abbrev pub fact_after : ℕ → Option Fact → Entry → Option Fact
fact_after id before e = if e.file == id then fact_by e.kind e before else before

abbrev pub facts_after : ℕ → Option Fact → List Entry → Option Fact
facts_after id before [] = before
facts_after id before (e ∷ es) = facts_after id (fact_after id before e) es

-- ---- versions rise by one

-- the version that an entry tells is the next of its file, 1 of one that is made
abbrev pub IsNext : EntryKind → Entry → Option Fact → Type 0
IsNext kind.Make e before = (before ≡ None) × (e.version ≡ 1)
IsNext kind.Commit e before = (f : Fact) × (before ≡ Some f) × (e.version ≡ f.version + 1)
IsNext kind.Remove e before = (f : Fact) × (before ≡ Some f) × (e.version ≡ f.version + 1)
IsNext kind.Name e before = e.version ≡ 0

abbrev pub AreNext : (ℕ → Option Fact) → List Entry → Type 0
AreNext before [] = Unit {0}
AreNext before (e ∷ es) = IsNext e.kind e (before e.file) × AreNext (λ id. fact_after id (before id) e) es

-- ---- a server whose tree opened so

-- Of each id the tree holds what the journal says, or the opening tree where no entry does; along the journal each file's versions rise by one; and each entry
-- is one change of the tree.
pub record IsTold (opening : Tree) (s : State) : Type 0 where
  pub facts : (id : ℕ) → fact_at s.tree id ≡ facts_after id (fact_at opening id) s.journal
  pub versions : AreNext (fact_at opening) s.journal
  pub counted : s.tree.changes ≡ opening.changes + length s.journal

-- each id was given once, and is below the next
pub record IsGiven (t : Tree) : Type 0 where
  pub below : AllByRecursion (λ (n : Node). n.id < t.next) t.nodes
  pub apart : AreIdsApart t.nodes

-- what holds of such a server at each step
pub record Holds (opening : Tree) (s : State) : Type 0 where
  pub told : IsTold opening s
  pub given : IsGiven s.tree
