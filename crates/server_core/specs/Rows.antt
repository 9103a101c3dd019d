-- Worked sessions.
use Rattle.std.specs.Prelude.{None, ◌≡◌, ℕ, List, [], ◌∷◌, ◌++◌, map, replicate, refl, codes, length, Bool, true, false, Some}
use Rattle.sha1.specs.Sha1.{sha1}
use Rattle.chunk_cut.specs.Search.{next_end, closed_ends}
use Rattle.rabin_window.specs.Fingerprint.{fp}
use Rattle.chunk_index.specs.Places.{no_index, with_chunk}
use Rattle.xdr_codec.specs.Handle.{handle_bytes}
use Rattle.xdr_codec.specs.declared.status.Status.TheVariants as status
use Rattle.xdr_codec.specs.declared.answer.Answer.TheVariants.{Done, Failed}
use Rattle.hash_calls.specs.declared.call.Hashes.{Hashes}
use Rattle.hash_calls.specs.declared.call.Pair.{Pair}
use Rattle.hash_calls.specs.declared.message.Lb.{Lb}
use Rattle.hash_calls.specs.declared.message.Lb.TheVariants as lb
use Rattle.nfs3_calls.specs.declared.message.Nfs.TheVariants as nfs
use Rattle.wire.specs.declared.message.Body.TheVariants as body
use Rattle.wire.specs.declared.message.Message.TheVariants as message
use Rattle.server_core.specs.declared.event.Event.{Event}
use Rattle.server_core.specs.declared.event.Event.TheVariants as event
use Rattle.server_core.specs.declared.event.ServerStep.{ServerStep}
use Rattle.server_rules.specs.declared.told.Told.TheVariants as told
use Rattle.tree_nodes.specs.declared.node.Body.TheVariants.{File as Content}
use Rattle.tree_reading.specs.declared.entry.EntryKind.TheVariants as entry
use Rattle.tree_reading.specs.Tree.{root}
use Rattle.chunk_calls.specs.Answers.{attr_of, hashes_of}
use Rattle.server_core.specs.Steps.{sends, to}
use Rattle.server_core.specs.Leasing.{unleased}
use Rattle.server_core.specs.State.{State, empty}
use Rattle.chunk_calls.specs.Files.{File}
use Rattle.server_core.specs.Step.{server_step, server_step_under, opens_with}

-- ---- a run

abbrev after : State → List Event → State
after s [] = s
after s (e ∷ es) = after (server_step s e).0 es

abbrev steps : State → List Event → List ServerStep
steps s [] = []
steps s (e ∷ es) = (server_step s e).1 ∷ steps (server_step s e).0 es

-- file 2 is "abc" in its first version, file 3 has nothing in it, and session 1 stands
abbrev tree : State
tree = (server_step (opens_with (opens_with empty 1 (codes "a") (Content (codes "abc"))) 1 (codes "b") (Content [])) event.Connect).0

-- session 1 calls at moment 0
abbrev calls : (xid : ℕ) → Lb → Event
calls xid b = event.Got 1 (message.Call xid (body.Lb b)) 0

abbrev answers : (xid : ℕ) → Lb → ServerStep
answers xid b = to 1 (message.Answer xid (body.Lb b))

-- ---- GETHASH and READ

abbrev hashes : (xid file offset count : ℕ) → Event
hashes xid file offset count = calls xid (lb.GetHash (record { lbfs = 1; handle = handle_bytes file; offset = offset; count = count }))

abbrev told_hashes : (xid size : ℕ) → List Pair → (eof : Bool) → ServerStep
told_hashes xid size pairs eof = answers xid (lb.GetHashAnswer (Done (record { version = 1; term = 0; size = size; pairs = pairs; eof = eof })))

abbrev abc : Pair
abc = record { digest = sha1 (codes "abc"); size = 3 }

-- one chunk, or none; the chunk is told where the range meets it, and eof where it is told or the range begins behind it
hashes_told : steps tree (hashes 1 2 0 4294967295 ∷ hashes 2 3 0 4294967295 ∷ hashes 3 2 2 1 ∷ hashes 4 2 3 1 ∷ hashes 5 2 0 0 ∷ hashes 6 4 0 1 ∷ hashes 7 1 0 1 ∷ []) ≡ (told_hashes 1 3 (abc ∷ []) true ∷ told_hashes 2 0 [] true ∷ told_hashes 3 3 (abc ∷ []) true ∷ told_hashes 4 3 [] true ∷ told_hashes 5 3 [] false ∷ answers 6 (lb.GetHashAnswer (Failed status.Stale tt)) ∷ answers 7 (lb.GetHashAnswer (Failed status.IsDir tt)) ∷ [])
unfolding closed_ends next_end fp
hashes_told = refl

-- two chunks: 2,047 zeros and 0x78, and ten zeros
abbrev marked : File
marked = record { id = 2; version = 1; content = replicate 2047 0 ++ 120 ∷ replicate 10 0 }

abbrev first : Pair
first = record { digest = sha1 (replicate 2047 0 ++ 120 ∷ []); size = 2048 }

abbrev second : Pair
second = record { digest = sha1 (replicate 10 0); size = 10 }

abbrev both_of : (offset count : ℕ) → Hashes
both_of offset count = hashes_of 0 marked (record { lbfs = 1; handle = []; offset = offset; count = count })

abbrev some_of : List Pair → Bool → Hashes
some_of pairs eof = record { version = 1; term = 0; size = 2058; pairs = pairs; eof = eof }

two_chunks : (both_of 0 4294967295 ∷ both_of 0 2048 ∷ both_of 2047 2 ∷ both_of 2048 1 ∷ both_of 2058 1 ∷ []) ≡ (some_of (first ∷ second ∷ []) true ∷ some_of (first ∷ []) false ∷ some_of (first ∷ second ∷ []) true ∷ some_of (second ∷ []) true ∷ some_of [] true ∷ [])
unfolding closed_ends next_end fp
two_chunks = refl

pieces_read : steps tree (event.Got 1 (message.Call 1 (body.Nfs (nfs.Read (record { handle = handle_bytes 2; offset = 1; count = 9 })))) 0 ∷ []) ≡ (to 1 (message.Answer 1 (body.Nfs (nfs.ReadAnswer (Done (record { attr = Some (attr_of (record { id = 2; version = 1; content = codes "abc" })); count = 2; eof = true; bytes = codes "bc" }))))) ∷ [])
pieces_read = refl

-- ---- temporary files

abbrev makes : (xid number : ℕ) → Event
makes xid number = calls xid (lb.MkTmpFile (record { lbfs = 1; fd = number; handle = handle_bytes 2 }))

abbrev made : (xid : ℕ) → ServerStep
made xid = answers xid (lb.MkTmpFileAnswer (Done tt))

abbrev writes : (xid offset : ℕ) → List ℕ → Event
writes xid offset bytes = calls xid (lb.TmpWrite (record { lbfs = 1; fd = 1; offset = offset; bytes = bytes }))

abbrev commits : (xid number size : ℕ) → Event
commits xid number size = calls xid (lb.CommitTmp (record { lbfs = 1; fd = number; handle = handle_bytes 2; size = size; base = None }))

temps : steps tree (makes 1 1 ∷ makes 2 1 ∷ writes 3 0 (codes "ab") ∷ writes 4 1 (codes "x") ∷ writes 5 3 (codes "d") ∷ commits 6 1 4 ∷ commits 7 1 4 ∷ commits 8 9 0 ∷ []) ≡ (made 1 ∷ answers 2 (lb.MkTmpFileAnswer (Failed status.FdInUse tt)) ∷ answers 3 (lb.TmpWriteAnswer (Done tt)) ∷ answers 4 (lb.TmpWriteAnswer (Failed status.Inval tt)) ∷ answers 5 (lb.TmpWriteAnswer (Done tt)) ∷ answers 6 (lb.CommitTmpAnswer (Failed status.Inval tt)) ∷ answers 7 (lb.CommitTmpAnswer (Failed status.BadFd tt)) ∷ answers 8 (lb.CommitTmpAnswer (Failed status.BadFd tt)) ∷ [])
temps = refl

temps_unchanged : (after tree (makes 1 1 ∷ makes 2 1 ∷ writes 3 0 (codes "ab") ∷ writes 4 1 (codes "x") ∷ writes 5 3 (codes "d") ∷ commits 6 1 4 ∷ commits 7 1 4 ∷ commits 8 9 0 ∷ [])) ≡ tree
temps_unchanged = refl

-- sixteen, and one more
abbrev sixteen : List ℕ
sixteen = 1 ∷ 2 ∷ 3 ∷ 4 ∷ 5 ∷ 6 ∷ 7 ∷ 8 ∷ 9 ∷ 10 ∷ 11 ∷ 12 ∷ 13 ∷ 14 ∷ 15 ∷ 16 ∷ []

too_many : steps tree (map (λ n. makes n n) sixteen ++ makes 17 17 ∷ []) ≡ (map made sixteen ++ answers 17 (lb.MkTmpFileAnswer (Failed status.TooManyTemps tt)) ∷ [])
too_many = refl

-- ---- a change is made

-- the content "x" in one piece, committed under xid 4, settled at moment 7; then nothing waits
changed : steps tree (makes 1 1 ∷ calls 2 (lb.CondWrite (record { lbfs = 1; fd = 1; offset = 0; count = 1; digest = sha1 (codes "x") })) ∷ writes 3 0 (codes "x") ∷ commits 4 1 1 ∷ event.Settle 7 ∷ event.Settle 8 ∷ []) ≡ (made 1 ∷ answers 2 (lb.CondWriteAnswer (Failed status.HashNotFound tt)) ∷ answers 3 (lb.TmpWriteAnswer (Done tt)) ∷ sends [] ∷ record (answers 4 (lb.CommitTmpAnswer (Done (record { version = 2; term = 0 })))) { told = told.Settled 1 4; entries = 1 } ∷ record (sends []) { told = told.NotReady } ∷ [])
changed = refl

changed_state : (after tree (makes 1 1 ∷ writes 3 0 (codes "x") ∷ commits 4 1 1 ∷ event.Settle 7 ∷ event.Settle 8 ∷ [])) ≡ record tree { tree = record { nodes = root 1 ∷ record { id = 2; parent = 1; name = codes "a"; version = 2; body = Content (codes "x") } ∷ record { id = 3; parent = 1; name = codes "b"; version = 1; body = Content [] } ∷ []; next = 4; changes = 2 }; journal = record { file = 2; version = 2; kind = entry.Commit; len = 1; sha1 = sha1 (codes "x"); session = 1 } ∷ []; index = with_chunk no_index 2 (record { start = 0; len = 1; digest = sha1 (codes "x") }); leasing = unleased 7 }
unfolding closed_ends next_end fp
changed_state = refl

-- a session that hangs takes its temporary files and its change with it, and another's stay
hung : (after tree (event.Connect ∷ makes 1 1 ∷ commits 2 1 0 ∷ makes 3 2 ∷ event.Hang 2 ∷ event.Hang 1 ∷ event.Hang 1 ∷ [])) ≡ record tree { sessions = []; sessions_made = 2 }
hung = refl

-- ---- a READ at any place

abbrev reads : (xid file offset count : ℕ) → Event
reads xid file offset count = event.Got 1 (message.Call xid (body.Nfs (nfs.Read (record { handle = handle_bytes file; offset = offset; count = count })))) 0

abbrev told_piece : (xid : ℕ) → List ℕ → (eof : Bool) → ServerStep
told_piece xid bytes eof = to 1 (message.Answer xid (body.Nfs (nfs.ReadAnswer (Done (record { attr = Some (attr_of (record { id = 2; version = 1; content = codes "abc" })); count = length bytes; eof = eof; bytes = bytes })))))

-- at the start, in the middle, at the end, and past it
places_read : steps tree (reads 1 2 0 2 ∷ reads 2 2 1 1 ∷ reads 3 2 0 3 ∷ reads 4 2 3 9 ∷ reads 5 2 4 9 ∷ reads 6 2 0 0 ∷ []) ≡ (told_piece 1 (codes "ab") false ∷ told_piece 2 (codes "b") false ∷ told_piece 3 (codes "abc") true ∷ told_piece 4 [] true ∷ told_piece 5 [] true ∷ told_piece 6 [] false ∷ [])
places_read = refl

-- ---- two sessions

abbrev calls_by : (session xid : ℕ) → Lb → Event
calls_by session xid b = event.Got session (message.Call xid (body.Lb b)) 0

-- a session gives file 2 this content, by its temporary file 1
abbrev gives : (session : ℕ) → List ℕ → List Event
gives session content = calls_by session 1 (lb.MkTmpFile (record { lbfs = 1; fd = 1; handle = handle_bytes 2 })) ∷ calls_by session 2 (lb.TmpWrite (record { lbfs = 1; fd = 1; offset = 0; bytes = content })) ∷ calls_by session 3 (lb.CommitTmp (record { lbfs = 1; fd = 1; handle = handle_bytes 2; size = length content; base = None })) ∷ []

-- first session 2, then session 1
abbrev both : State
both = after tree (event.Connect ∷ gives 2 (codes "x") ++ gives 1 (codes "yz"))

abbrev settled : (session version : ℕ) → ServerStep
settled session version = record (to session (message.Answer 3 (body.Lb (lb.CommitTmpAnswer (Done (record { version = version; term = 0 })))))) { told = told.Settled session 3; entries = 1 }

abbrev not_ready : ServerStep
not_ready = record (sends []) { told = told.NotReady }

-- the change that came first is made before the other, and each is told to the session that asked
in_turn : steps both (event.Settle 7 ∷ event.Settle 8 ∷ event.Settle 9 ∷ []) ≡ (settled 2 2 ∷ settled 1 3 ∷ not_ready ∷ [])
in_turn = refl

-- a session that hangs takes its own change along, and no other's
one_hangs : steps (after both (event.Hang 2 ∷ [])) (event.Settle 7 ∷ event.Settle 8 ∷ []) ≡ (settled 1 2 ∷ not_ready ∷ [])
one_hangs = refl

-- its number is not used again
next_number : steps both (event.Hang 2 ∷ event.Connect ∷ []) ≡ (sends [] ∷ record (sends []) { told = told.Session 3 } ∷ [])
next_number = refl

-- a session with a change that waits has no second, and its temporary file ends
second_change : steps both (calls_by 1 4 (lb.MkTmpFile (record { lbfs = 1; fd = 2; handle = handle_bytes 3 })) ∷ calls_by 1 5 (lb.CommitTmp (record { lbfs = 1; fd = 2; handle = handle_bytes 3; size = 0; base = None })) ∷ calls_by 1 6 (lb.CommitTmp (record { lbfs = 1; fd = 2; handle = handle_bytes 3; size = 0; base = None })) ∷ []) ≡ (to 1 (message.Answer 4 (body.Lb (lb.MkTmpFileAnswer (Done tt)))) ∷ to 1 (message.Answer 5 (body.Lb (lb.CommitTmpAnswer (Failed status.Jukebox tt)))) ∷ to 1 (message.Answer 6 (body.Lb (lb.CommitTmpAnswer (Failed status.BadFd tt)))) ∷ [])
second_change = refl

-- 64 sessions stand at once
sessions : steps (after empty (replicate 64 event.Connect)) (event.Connect ∷ event.Hang 5 ∷ event.Connect ∷ []) ≡ (record (sends []) { told = told.Full } ∷ sends [] ∷ record (sends []) { told = told.Session 65 } ∷ [])
sessions = refl

-- ---- a store that fails

-- the file keeps its content, the index gets no place and the journal no entry, and the change has left the queue
failed : (server_step_under (after tree (gives 1 (codes "x"))) true (event.Settle 7)) ≡ (record tree { leasing = unleased 7 }, record (to 1 (message.Answer 3 (body.Lb (lb.CommitTmpAnswer (Failed status.Io tt))))) { told = told.Settled 1 3 })
failed = refl
