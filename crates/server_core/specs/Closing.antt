-- What the server does for the calls of a close: MKTMPFILE, TMPWRITE, CONDWRITE and COMMITTMP, and how a change is made.
use Rattle.std.specs.Prelude.{ℕ, ◌+◌, List, [], ◌∷◌, ◌++◌, length, Option, Some, None, Result, Ok, Err, Bool, false, ◌||◌, ◌==◌, max, nat_lt, if◌then◌else◌}
use Rattle.limits.specs.declared.TheConstants.{TREE_MOST, CHANGES_MOST}
use Rattle.std.specs.List.{list_any}
use Rattle.callback_core.specs.Waits.{without}
use Rattle.chunk_cut.specs.Chunks.{chunks_of}
use Rattle.chunk_index.specs.Index.{Indexed, key_of, place_of, found}
use Rattle.xdr_codec.specs.declared.status.Status.{Status}
use Rattle.xdr_codec.specs.declared.status.Status.TheVariants as status
use Rattle.xdr_codec.specs.declared.answer.Answer.{Answer}
use Rattle.xdr_codec.specs.declared.answer.Answer.TheVariants.{Done, Failed}
use Rattle.hash_calls.specs.declared.call.TempPiece.{TempPiece}
use Rattle.hash_calls.specs.declared.call.CondPiece.{CondPiece}
use Rattle.hash_calls.specs.declared.call.Commit.{Commit}
use Rattle.hash_calls.specs.declared.call.Committed.{Committed}
use Rattle.hash_calls.specs.declared.message.Lb.{Lb}
use Rattle.hash_calls.specs.declared.message.Lb.TheVariants as lb
use Rattle.wire.specs.declared.message.Body.{Body}
use Rattle.wire.specs.declared.message.Body.TheVariants as body
use Rattle.wire.specs.declared.message.Message.TheVariants as message
use Rattle.temp_files.specs.Pieces.{size_most}
use Rattle.temp_files.specs.Temps.{Temp, with_temp, without_temp, empty_temp, room_fault, piece_fault, with_piece, assembled}
use Rattle.chunk_calls.specs.Writing.{done_unless, cond_fault, bytes_known}
use Rattle.server_core.specs.declared.event.ServerStep.{ServerStep}
use Rattle.server_rules.specs.declared.told.Told.TheVariants as told
use Rattle.server_core.specs.declared.change.Wanted.{Wanted}
use Rattle.server_core.specs.declared.change.Wanted.TheVariants as wanted
use Rattle.server_core.specs.declared.journal.Entry.{Entry}
use Rattle.chunk_calls.specs.Answers.{Node, directory, file, node_of}
use Rattle.chunk_index.specs.Places.{indexed}
use Rattle.lease_rules.specs.declared.lease.Lease.{Lease}
use Rattle.server_core.specs.Leasing.{later, with_granted, ready_at}
use Rattle.server_core.specs.Steps.{to}
use Rattle.server_core.specs.Recalling.{term_at, comes}
use Rattle.server_core.specs.State.{State, FileChange, change_of, held, entries_held, bytes_held}
use Rattle.tree_reading.specs.Tree.{Tree}
use Rattle.tree_reading.specs.declared.entry.Entry.{Entry as TreeEntry}
use Rattle.tree_calls.specs.Waiting.{gives_content_under, settles_under as tree_settles_under}
use Rattle.tree_calls.specs.declared.asked.Committing.{Committing}
use Rattle.tree_calls.specs.declared.asked.Done.{Done as Outcome}

-- ---- limits

-- the most bytes of the tree, with those of the pending changes
abbrev pub tree_most : ℕ
tree_most = TREE_MOST

-- the most changes that are ever made
abbrev pub changes_most : ℕ
changes_most = CHANGES_MOST

-- ---- what is said

abbrev pub answers : State → (session xid : ℕ) → Lb → State × ServerStep
answers s session xid b = (s, to session (message.Answer xid (body.Lb b)))

-- ---- MKTMPFILE

abbrev pub makes_unless : State → (session xid fd target : ℕ) → Option Status → State × ServerStep
makes_unless s session xid fd target (Some e) = answers s session xid (lb.MkTmpFileAnswer (Failed e tt))
makes_unless s session xid fd target None = answers (record s { temps = with_temp s.temps (empty_temp session fd target) }) session xid (lb.MkTmpFileAnswer (Done tt))

-- a temporary file with nothing in it, for a file that is there
abbrev pub makes : State → (session xid fd : ℕ) → Result Node Status → State × ServerStep
makes s session xid fd (Err e) = answers s session xid (lb.MkTmpFileAnswer (Failed e tt))
makes s session xid fd (Ok directory) = answers s session xid (lb.MkTmpFileAnswer (Failed status.IsDir tt))
makes s session xid fd (Ok (file f)) = makes_unless s session xid fd f.id (room_fault s.temps session fd)

-- ---- TMPWRITE

abbrev pub writes_unless : State → (session xid : ℕ) → TempPiece → Option Temp → Option Status → State × ServerStep
writes_unless s session xid a (Some t) None = answers (record s { temps = with_temp s.temps (with_piece t a.offset a.bytes) }) session xid (lb.TmpWriteAnswer (Done tt))
writes_unless s session xid a t fault = answers s session xid (lb.TmpWriteAnswer (done_unless fault))

-- a piece is put into a temporary file
abbrev pub writes : State → (session xid : ℕ) → TempPiece → Option Temp → State × ServerStep
writes s session xid a t = writes_unless s session xid a t (piece_fault t a.offset (length a.bytes))

-- ---- CONDWRITE

abbrev pub names_bytes : State → (session xid : ℕ) → CondPiece → Option Temp → Option (List ℕ) → State × ServerStep
names_bytes s session xid a (Some t) (Some bytes) = answers (record s { temps = with_temp s.temps (with_piece t a.offset bytes) }) session xid (lb.CondWriteAnswer (Done tt))
names_bytes s session xid a t bytes = answers s session xid (lb.CondWriteAnswer (Failed status.HashNotFound tt))

-- A look-up brings its pair to the front, also where nothing is known by the digest.
abbrev pub looked_up : State → CondPiece → State
looked_up s a = record s { index = found s.index (key_of a.digest) }

abbrev pub names_unless : State → (session xid : ℕ) → CondPiece → Option Temp → Option Status → State × ServerStep
names_unless s session xid a t (Some e) = answers s session xid (lb.CondWriteAnswer (Failed e tt))
names_unless s session xid a t None = names_bytes (looked_up s a) session xid a t (bytes_known s.tree a (place_of s.index.pairs (key_of a.digest)))

-- bytes that are known by their digest are put into a temporary file, as a piece
abbrev pub names : State → (session xid : ℕ) → CondPiece → Option Temp → State × ServerStep
names s session xid a t = names_unless s session xid a t (cond_fault a t)

-- ---- COMMITTMP

-- a session has at most one pending change
abbrev pub has_waiting : List FileChange → (session : ℕ) → Bool
has_waiting waiting session = list_any (λ c. c.session == session) waiting

-- whether a change with so many bytes has no place: by the changes ever made, or by the bytes of the tree
abbrev pub is_full : State → (size : ℕ) → Bool
is_full s size = nat_lt changes_most (s.tree.changes + entries_held s.waiting + 1) || nat_lt tree_most (bytes_held s + size)

abbrev pub commits_whole : State → (session xid id : ℕ) → Option (List ℕ) → State × ServerStep
commits_whole s session xid id None = answers s session xid (lb.CommitTmpAnswer (Failed status.Inval tt))
commits_whole s session xid id (Some content) =
    if has_waiting s.waiting session then answers s session xid (lb.CommitTmpAnswer (Failed status.Jukebox tt))
    else if is_full s (length content) then answers s session xid (lb.CommitTmpAnswer (Failed status.NoSpc tt))
    else comes s (change_of session xid id (wanted.Content content))

-- the file that the handle names is to get the content of a temporary file, which has ended
abbrev pub takes_commit_on : State → (session xid size : ℕ) → Temp → Result Node Status → State × ServerStep
takes_commit_on s session xid size t (Err e) = answers s session xid (lb.CommitTmpAnswer (Failed e tt))
takes_commit_on s session xid size t (Ok directory) = answers s session xid (lb.CommitTmpAnswer (Failed status.IsDir tt))
takes_commit_on s session xid size t (Ok (file f)) = if nat_lt size_most size then answers s session xid (lb.CommitTmpAnswer (Failed status.FBig tt)) else commits_whole s session xid f.id (assembled t size)

-- Whatever is answered, the temporary file ends, if there was one.
abbrev pub takes_commit : State → (session xid : ℕ) → Commit → Option Temp → State × ServerStep
takes_commit s session xid a None = answers s session xid (lb.CommitTmpAnswer (Failed status.BadFd tt))
takes_commit s session xid a (Some t) = takes_commit_on (record s { temps = without_temp s.temps session a.fd }) session xid a.size t (node_of s.tree a.handle)

-- ---- entries of the journal

-- what a session has changed
abbrev pub entry_by : (session : ℕ) → TreeEntry → Entry
entry_by session e = record { file = e.file; version = e.version; kind = e.kind; len = e.len; sha1 = e.sha1; session = session }

abbrev pub entered_by : (session : ℕ) → Option TreeEntry → List Entry
entered_by session None = []
entered_by session (Some e) = entry_by session e ∷ []

-- those of a change, in their order
abbrev pub entries_by : (session : ℕ) → (first second : Option TreeEntry) → List Entry
entries_by session first second = entered_by session first ++ entered_by session second

abbrev pub one_if : Option TreeEntry → ℕ
one_if None = 0
one_if (Some e) = 1

abbrev pub count_of : (first second : Option TreeEntry) → ℕ
count_of first second = one_if first + one_if second

-- ---- a change is made

-- the server's moment is the greater of the reading and the last moment used
abbrev pub at : State → ℕ → State
at s now = record s { leasing = later s.leasing now }

-- what is told of a change that has left the queue
abbrev pub told_change : FileChange → (entries : ℕ) → Body → ServerStep
told_change c entries b = record { send = record { session = c.session; message = message.Answer c.xid b } ∷ []; told = told.Settled c.session c.xid; entries = entries; missed = false }

-- the places of the chunks of a content enter the index where a file got it
abbrev pub index_with : Indexed → (id : ℕ) → List ℕ → Answer Committed Unit → Indexed
index_with index id content (Done a) = indexed index id (chunks_of content)
index_with index id content (Failed e u) = index

-- a COMMITTMP that was done is granted the lease whose term it is told
abbrev pub leases_done : List Lease → (moment session id : ℕ) → Answer Committed Unit → List Lease
leases_done leases moment session id (Done a) = with_granted leases moment session id a.term
leases_done leases moment session id (Failed e u) = leases

abbrev pub grants_done : State → FileChange → Answer Committed Unit → State
grants_done s c a = record s { leasing = record s.leasing { leases = leases_done s.leasing.leases s.leasing.moment c.session c.file a } }

-- a COMMITTMP, by what the tree makes of it
abbrev pub committed_by : State → FileChange → List ℕ → Tree × Committing → State × ServerStep
committed_by s c content p = (record (grants_done s c p.1.answer) { tree = p.0; journal = s.journal ++ entries_by c.session p.1.entry None; index = index_with s.index c.file content p.1.answer }, told_change c (count_of p.1.entry None) (body.Lb (lb.CommitTmpAnswer p.1.answer)))

-- a REMOVE or RENAME, by what the tree makes of it
abbrev pub settled_by : State → FileChange → Tree × Outcome → State × ServerStep
settled_by s c p = (record s { tree = p.0; journal = s.journal ++ entries_by c.session p.1.first p.1.second }, told_change c (count_of p.1.first p.1.second) (body.Nfs p.1.answer))

-- The change, which waits no longer, is made if all is as it was when it came (`specs/Waiting.antt` of `tree_calls`). What the others that wait need is left
-- free. fault: whether the store fails, if it is asked; the change is then answered IO, and has left the queue for good.
abbrev pub makes_change_under : State → (fault : Bool) → FileChange → Wanted → State × ServerStep
makes_change_under s fault c (wanted.Content content) = committed_by s c content (gives_content_under s.tree (held s.waiting) fault c.file content (term_at s c.file))
makes_change_under s fault c (wanted.Asked a) = settled_by s c (tree_settles_under s.tree (held s.waiting) fault a)

-- a change that no lease blocks is made; where there is none nothing changes, the moment neither
abbrev pub settles_by : State → (fault : Bool) → ℕ → Option FileChange → State × ServerStep
settles_by s fault now None = (s, record { send = []; told = told.NotReady; entries = 0; missed = false })
settles_by s fault now (Some c) = makes_change_under (at (record s { waiting = without s.waiting c.session }) now) fault c c.what

-- the change that is made at a reading, if one is
abbrev pub ready_by : State → ℕ → Option FileChange
ready_by s now = ready_at s.leasing (later s.leasing now).moment s.waiting

abbrev pub settles_under : State → (fault : Bool) → ℕ → State × ServerStep
settles_under s fault now = settles_by s fault now (ready_by s now)

-- where the store doesn't fail
abbrev pub makes_change : State → FileChange → Wanted → State × ServerStep
makes_change s c w = makes_change_under s false c w

abbrev pub settles : State → ℕ → State × ServerStep
settles s now = settles_under s false now
