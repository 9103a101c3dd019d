-- What a server is.
use Rattle.std.specs.Prelude.{ℕ, ◌+◌, ◌==◌, List, [], ◌∷◌, length, Bool}
use Rattle.std.specs.List.{list_any}
use Rattle.tree_nodes.specs.declared.node.Body.TheVariants.{File as Content}
use Rattle.tree_reading.specs.Tree.{Tree, contents_size, empty as root_alone}
use Rattle.tree_reading.specs.declared.call.Reservation.{Reservation}
use Rattle.tree_calls.specs.Waiting.{entries_of}
use Rattle.tree_calls.specs.declared.asked.Asked.{Asked}
use Rattle.tree_calls.specs.declared.asked.Asked.TheVariants as asked
use Rattle.lease_rules.specs.declared.change.PendingChange.{PendingChange as Waiting}
use Rattle.lease_rules.specs.declared.change.Kind.{Kind}
use Rattle.lease_rules.specs.declared.change.Kind.TheVariants as kind
use Rattle.server_core.specs.declared.change.Wanted.{Wanted}
use Rattle.server_core.specs.declared.change.Wanted.TheVariants as wanted
use Rattle.server_core.specs.Leasing.{Leasing, unleased}
use Rattle.server_core.specs.declared.journal.Entry.{Entry}
use Rattle.chunk_index.specs.Index.{Indexed}
use Rattle.temp_files.specs.Temps.{Temps}
use Rattle.chunk_index.specs.Places.{no_index}

-- a pending change
abbrev pub FileChange : Type 0
FileChange = Waiting Wanted

pub record State : Type 0 where
  -- the files and directories, and how many changes were ever made, those that an opening tree tells of included
  pub tree : Tree
  -- the changes that were made since, the oldest first
  pub journal : List Entry
  -- the temporary files, each with its key, by rising key
  pub temps : Temps
  -- where the bytes of a digest may be found
  pub index : Indexed
  -- the pending changes, the one that came first before the others
  pub waiting : List FileChange
  -- the sessions that stand
  pub sessions : List ℕ
  -- how many sessions were ever made
  pub sessions_made : ℕ
  pub leasing : Leasing

-- a server with the root alone, and no session, which grants no lease
abbrev pub empty : State
empty = record { tree = root_alone; journal = []; temps = []; index = no_index; waiting = []; sessions = []; sessions_made = 0; leasing = unleased 0 }

-- one that grants leases for so long
abbrev pub with_term : State → (term : ℕ) → State
with_term s term = record s { leasing = record s.leasing { term = term } }

-- whether a session stands
abbrev pub stands : State → ℕ → Bool
stands s session = list_any (λ k. k == session) s.sessions

-- ---- what waits

-- how many entries a change that waits will make, at the most
abbrev pub entries_wanted : Wanted → ℕ
entries_wanted (wanted.Content content) = 1
entries_wanted (wanted.Asked a) = entries_of a

-- how many bytes it brings
abbrev pub size_wanted : Wanted → ℕ
size_wanted (wanted.Content content) = length content
size_wanted (wanted.Asked a) = 0

-- what it does to its file
abbrev pub asked_kind : Asked → Kind
asked_kind (asked.Remove r) = kind.Remove
asked_kind (asked.Rename r) = kind.Rename

abbrev pub kind_of : Wanted → Kind
kind_of (wanted.Content content) = kind.Commit
kind_of (wanted.Asked a) = asked_kind a

-- the change of a session's call: what it is by what it is to make
abbrev pub change_of : (session xid file : ℕ) → Wanted → FileChange
change_of session xid file what = record { session = session; xid = xid; file = file; kind = kind_of what; entries = entries_wanted what; bytes = size_wanted what; what = what }

abbrev pub entries_held : List FileChange → ℕ
entries_held [] = 0
entries_held (c ∷ cs) = entries_wanted c.what + entries_held cs

abbrev pub waiting_size : List FileChange → ℕ
waiting_size [] = 0
waiting_size (c ∷ cs) = size_wanted c.what + waiting_size cs

-- what they need, which the calls that come leave free
abbrev pub held : List FileChange → Reservation
held cs = record { entries = entries_held cs; bytes = waiting_size cs }

-- the bytes of the tree: its contents, and those of the pending changes
abbrev pub bytes_held : State → ℕ
bytes_held s = contents_size s.tree.nodes + waiting_size s.waiting
