-- Worked sessions.
use Rattle.std.specs.Prelude.{◌≡◌, ℕ, ◌+◌, List, [], ◌∷◌, refl, codes, Option, Some, None, Ok, Bool, true, false}
use Rattle.sha1.specs.Sha1.{sha1, digest_bytes, hash_after, compress, rounds, schedule, first_words}
use Rattle.chunk_cut.specs.Search.{next_end, closed_ends}
use Rattle.chunk_cut.specs.declared.chunk.Chunk.{Chunk}
use Rattle.command_text.specs.declared.command.Command.{Command}
use Rattle.command_text.specs.declared.command.Command.TheVariants as command
use Rattle.command_text.specs.declared.content.Part.TheVariants as part
use Rattle.xdr_codec.specs.declared.answer.Answer.TheVariants.{Done, Failed}
use Rattle.xdr_codec.specs.declared.attr.Attr.{Attr}
use Rattle.xdr_codec.specs.declared.attr.Kind.TheVariants as kind
use Rattle.xdr_codec.specs.declared.status.Status.{Status}
use Rattle.xdr_codec.specs.declared.status.Status.TheVariants as status
use Rattle.hash_calls.specs.declared.call.Pair.{Pair}
use Rattle.hash_calls.specs.declared.message.Lb.TheVariants as lb
use Rattle.nfs3_calls.specs.declared.message.Nfs.TheVariants as nfs
use Rattle.wire.specs.declared.message.Body.TheVariants as body
use Rattle.wire.specs.declared.message.Message.{Message}
use Rattle.wire.specs.declared.message.Message.TheVariants as message
use Rattle.wire.specs.declared.message.RpcRefusal.TheVariants as refusal
use Rattle.command_text.specs.declared.path.PathCommand.{PathCommand}
use Rattle.command_text.specs.declared.path.PathCommand.TheVariants as path
use Rattle.command_text.specs.declared.path.Spot.{Spot}
use Rattle.nfs3_calls.specs.declared.listing.Entry.{Entry}
use Rattle.nfs3_calls.specs.declared.message.Nfs.{Nfs}
use Rattle.path_calls.specs.Walk.{begun, no_pages, place, create_call, rename_call, page_call}
use Rattle.path_calls.specs.declared.walk.Walk.{Walk}
use Rattle.xdr_codec.specs.Handle.{handle_bytes}
use Rattle.client_state.specs.declared.step.BadPeer.TheVariants as bad
use Rattle.client_state.specs.declared.step.ClientStep.{ClientStep}
use Rattle.client_state.specs.declared.step.Outcome.TheVariants as outcome
use Rattle.client_state.specs.declared.task.Fetch.{Fetch}
use Rattle.client_state.specs.declared.task.Stage.TheVariants as stage
use Rattle.file_close.specs.Closing.{make_call, cond_call, temp_call, commit_call}
use Rattle.client_state.specs.Counting.{no_counts, sends, nothing_done, sends_one, sends_reads, ends}
use Rattle.chunk_index.specs.Index.{key_of}
use Rattle.chunk_index.specs.declared.place.Place.{Place}
use Rattle.client_cache.specs.Cache.{fronted, nothing}
use Rattle.chunk_index.specs.Places.{no_index}
use Rattle.file_open.specs.Looking.{Entering, entering}
use Rattle.transfer_rules.specs.Limits.{calls_most}
use Rattle.file_open.specs.Opening.{lease_call, hash_call, read_call}
use Rattle.file_open.specs.Shape.{with_pairs}
use Rattle.client_state.specs.State.{State, start_with, read_pending, evicted, forged, index_cleared}
use Rattle.open_close.specs.Step.{command_step, got_step}
use Rattle.client_state.specs.Ending.{joined, cut}

-- clocks may drift apart by 100 ms
abbrev start : State
start = start_with 100 1

-- ---- a run

data Event : Type 0 where
  Does : Command → Event
  Gets : Message → Event
  Cut : Event
  Evicts : (file : ℕ) → Event
  Forges : (key : ℕ) → Place → Event
  Clears : Event

abbrev step : State → Event → State × ClientStep
step s (Does c) = command_step s c 0
step s (Gets m) = got_step s (Ok m) 0
step s Cut = cut s
step s (Evicts file) = (evicted s file, nothing_done)
step s (Forges key place) = (forged s key place, nothing_done)
step s Clears = (index_cleared s, nothing_done)

abbrev after : State → List Event → State
after s [] = s
after s (e ∷ es) = after (step s e).0 es

abbrev steps : State → List Event → List ClientStep
steps s [] = []
steps s (e ∷ es) = (step s e).1 ∷ steps (step s e).0 es

-- ---- answers by hand

abbrev hashes_are : (xid version size : ℕ) → List Pair → (eof : Bool) → Event
hashes_are xid version size pairs eof = Gets (message.Answer xid (body.Lb (lb.GetHashAnswer (Done (record { version = version; term = 0; size = size; pairs = pairs; eof = eof })))))

-- what attributes of a file show of its version
abbrev attr_in : ℕ → Attr
attr_in version = record { kind = kind.File; mode = 420; nlink = 1; uid = 0; gid = 0; size = 0; used = 0; rdev_major = 0; rdev_minor = 0; fsid = 0; fileid = 2; atime = record { seconds = 0; nanoseconds = 0 }; mtime = record { seconds = 0; nanoseconds = version }; ctime = record { seconds = 0; nanoseconds = 0 } }

abbrev bytes_are : (xid version : ℕ) → List ℕ → Event
bytes_are xid version bytes = Gets (message.Answer xid (body.Nfs (nfs.ReadAnswer (Done (record { attr = Some (attr_in version); count = 0; eof = true; bytes = bytes })))))

abbrev pair_of : List ℕ → ℕ → Pair
pair_of bytes size = record { digest = sha1 bytes; size = size }

abbrev chunk_of : (start : ℕ) → List ℕ → ℕ → Chunk
chunk_of start bytes size = record { start = start; len = size; digest = sha1 bytes }

-- ---- opens

one_chunk : steps (joined start) (Does (command.Open 2) ∷ hashes_are 1 1 3 (pair_of (codes "abc") 3 ∷ []) true ∷ Does (command.Open 3) ∷ bytes_are 2 1 (codes "abc") ∷ Does (command.Open 2) ∷ Does (command.Read 2 1 9) ∷ []) ≡ (sends_one (hash_call 1 1 2 0) 0 ∷ sends_reads (read_call 2 2 (chunk_of 0 (codes "abc") 3) ∷ []) 0 ∷ ends outcome.Busy 0 0 ∷ ends (outcome.Opened 2 3 (sha1 (codes "abc"))) 1 3 ∷ ends outcome.AlreadyOpen 0 0 ∷ ends (outcome.Piece 2 (sha1 (codes "bc"))) 0 0 ∷ [])
unfolding calls_most sha1 digest_bytes hash_after compress rounds schedule first_words
one_chunk = refl

no_chunk : steps (joined start) (Does (command.Open 2) ∷ hashes_are 1 1 0 [] true ∷ []) ≡ (sends_one (hash_call 1 1 2 0) 0 ∷ ends (outcome.Opened 2 0 (sha1 [])) 1 0 ∷ [])
unfolding calls_most
no_chunk = refl

no_link : steps start (Does (command.Open 2) ∷ Does (command.Close 2) ∷ []) ≡ (ends outcome.NoLink 0 0 ∷ ends outcome.NotOpen 0 0 ∷ [])
no_link = refl

-- two pieces: the second is asked for from the end of the first one's chunks on, and the READs wait for it
two_pieces : steps (joined start) (Does (command.Open 2) ∷ hashes_are 1 5 2048 (pair_of (codes "a") 2048 ∷ []) false ∷ hashes_are 2 5 2048 [] true ∷ []) ≡ (sends_one (hash_call 1 1 2 0) 0 ∷ sends_one (hash_call 1 2 2 2048) 0 ∷ sends_reads (read_call 3 2 (chunk_of 0 (codes "a") 2048) ∷ []) 0 ∷ [])
unfolding calls_most
two_pieces = refl

-- the chunks of a piece stand behind those that were told
listed : with_pairs (chunk_of 0 (codes "a") 2048 ∷ chunk_of 2048 (codes "b") 3000 ∷ []) (pair_of (codes "c") 4000 ∷ pair_of (codes "d") 2 ∷ []) ≡ (chunk_of 0 (codes "a") 2048 ∷ chunk_of 2048 (codes "b") 3000 ∷ chunk_of 5048 (codes "c") 4000 ∷ chunk_of 9048 (codes "d") 2 ∷ [])
listed = refl

-- what a piece may not be
abbrev shape_of : (size : ℕ) → List Pair → (eof : Bool) → List ClientStep
shape_of size pairs eof = steps (joined start) (Does (command.Open 2) ∷ hashes_are 1 5 size pairs eof ∷ [])

abbrev broken : (got wanted : ℕ) → List ClientStep
broken got wanted = sends_one (hash_call 1 1 2 0) 0 ∷ ends (outcome.BadPeer (bad.Shape got wanted)) 0 0 ∷ []

shapes : (shape_of 67108865 [] true ∷ shape_of 3 (pair_of [] 0 ∷ []) true ∷ shape_of 65537 (pair_of [] 65537 ∷ []) true ∷ shape_of 2050 (pair_of [] 2047 ∷ pair_of [] 3 ∷ []) true ∷ shape_of 2050 (pair_of [] 2047 ∷ []) false ∷ shape_of 5 (pair_of [] 4 ∷ []) true ∷ shape_of 2048 (pair_of [] 2049 ∷ []) false ∷ shape_of 2048 [] false ∷ []) ≡ (broken 67108865 67108864 ∷ broken 0 1 ∷ broken 65537 65536 ∷ broken 2047 2048 ∷ broken 2047 2048 ∷ broken 4 5 ∷ broken 2049 2048 ∷ broken 0 1 ∷ [])
shapes = refl

other_size : steps (joined start) (Does (command.Open 2) ∷ hashes_are 1 5 2050 (pair_of (codes "a") 2048 ∷ []) false ∷ hashes_are 2 5 2051 (pair_of (codes "b") 3 ∷ []) true ∷ []) ≡ (sends_one (hash_call 1 1 2 0) 0 ∷ sends_one (hash_call 1 2 2 2048) 0 ∷ ends (outcome.BadPeer (bad.Shape 2051 2050)) 0 0 ∷ [])
other_size = refl

-- ---- an attempt with two READs under way, the third of four

abbrev chunks : List Chunk
chunks = chunk_of 0 (codes "ab") 2 ∷ chunk_of 2 (codes "c") 1 ∷ []

abbrev fetch_in : (tries : ℕ) → Fetch
fetch_in tries = record { tries = tries; first = 4; version = 5; size = 3; chunks = chunks; slots = None ∷ None ∷ []; asked = 2; under = record { xid = 5; index = 0 } ∷ record { xid = 6; index = 1 } ∷ [] }

abbrev fetching : (tries : ℕ) → State
fetching tries = record (joined start) { next_xid = 7; task = Some (record { file = 2; stage = stage.Reading (fetch_in tries) }) }

-- the answers come in any order, and bytes that fit are taken of any version
any_order : steps (fetching 3) (bytes_are 6 9 (codes "c") ∷ bytes_are 5 5 (codes "ab") ∷ []) ≡ (sends_reads [] 1 ∷ ends (outcome.Opened 2 3 (sha1 (codes "abc"))) 4 2 ∷ [])
unfolding calls_most sha1 digest_bytes hash_after compress rounds schedule first_words
any_order = refl

-- Bytes that don't fit end the attempt where another version shows. The next begins at once, and the answer to the other READ is dropped, once.
ended_attempt : steps (fetching 3) (bytes_are 5 9 (codes "x") ∷ bytes_are 6 5 (codes "c") ∷ bytes_are 6 5 (codes "c") ∷ []) ≡ (sends_one (hash_call 1 7 2 0) 1 ∷ nothing_done ∷ ends (outcome.BadPeer (bad.UnknownXid 6)) 0 0 ∷ [])
ended_attempt = refl

ended_state : after (fetching 3) (bytes_are 5 9 (codes "x") ∷ []) ≡ record (fetching 3) { next_xid = 8; task = Some (record { file = 2; stage = stage.Hashing 4 7 }); forgotten = read_pending (record { xid = 6; index = 1 }) ∷ [] }
ended_state = refl

-- the fourth attempt is the last
changed : steps (fetching 4) (bytes_are 5 9 (codes "x") ∷ bytes_are 6 5 (codes "c") ∷ Does (command.Open 2) ∷ []) ≡ (ends (outcome.Changed 5 9) 0 1 ∷ nothing_done ∷ sends_one (hash_call 1 7 2 0) 0 ∷ [])
changed = refl

-- where no other version shows they are the peer's fault
peers_fault : (steps (fetching 1) (bytes_are 5 5 (codes "x") ∷ []) ∷ steps (fetching 1) (bytes_are 6 5 (codes "x") ∷ []) ∷ []) ≡ ((ends (outcome.BadPeer (bad.Shape 1 2)) 0 1 ∷ []) ∷ (ends (outcome.BadPeer (bad.Digest (sha1 (codes "x")) (sha1 (codes "c")))) 0 1 ∷ []) ∷ [])
unfolding sha1 digest_bytes hash_after compress rounds schedule first_words
peers_fault = refl

-- pieces of two versions end an attempt too
two_versions : steps (joined start) (Does (command.Open 2) ∷ hashes_are 1 5 4096 (pair_of (codes "a") 2048 ∷ []) false ∷ hashes_are 2 6 1 (pair_of (codes "b") 1 ∷ []) true ∷ hashes_are 3 6 0 [] true ∷ []) ≡ (sends_one (hash_call 1 1 2 0) 0 ∷ sends_one (hash_call 1 2 2 2048) 0 ∷ sends_one (hash_call 1 3 2 0) 0 ∷ ends (outcome.Opened 2 0 (sha1 [])) 3 0 ∷ [])
unfolding calls_most
two_versions = refl

-- where the operation ends its other calls are forgotten, and a lost connection forgets all
refused_one : steps (fetching 1) (Gets (message.Answer 5 (body.Nfs (nfs.ReadAnswer (Failed status.Stale None)))) ∷ Gets (message.Refuse 6 refusal.SystemErr) ∷ []) ≡ (ends (outcome.Refused status.Stale) 5 0 ∷ nothing_done ∷ [])
refused_one = refl

cut_one : after (fetching 3) (bytes_are 5 9 (codes "x") ∷ Cut ∷ []) ≡ record start { next_xid = 8 }
cut_one = refl

-- ---- closes

-- file 2 is open, with "ab" in it
abbrev opened : State
opened = record (joined start) { opened = (2, record { version = 1; bytes = codes "ab" }) ∷ [] }

abbrev made : (xid : ℕ) → Event
made xid = Gets (message.Answer xid (body.Lb (lb.MkTmpFileAnswer (Done tt))))

abbrev committed : (xid version : ℕ) → Event
committed xid version = Gets (message.Answer xid (body.Lb (lb.CommitTmpAnswer (Done (record { version = version; term = 0 })))))

abbrev ab : Chunk
ab = chunk_of 0 (codes "ab") 2

-- the server doesn't know the chunk, so its bytes go out
stored : steps opened (Does (command.Close 2) ∷ made 1 ∷ Gets (message.Answer 2 (body.Lb (lb.CondWriteAnswer (Failed status.HashNotFound tt)))) ∷ Gets (message.Answer 3 (body.Lb (lb.TmpWriteAnswer (Done tt)))) ∷ committed 4 2 ∷ []) ≡ (sends_one (make_call 1 1 1 2) 0 ∷ sends (cond_call 1 2 1 ab ∷ []) (record no_counts { cond_writes = 1 }) ∷ sends (temp_call 1 3 1 (codes "ab") ab ∷ []) (record no_counts { temp_writes = 1; bytes = 2 }) ∷ sends (commit_call 1 4 1 2 2 ∷ []) no_counts ∷ ends (outcome.Closed 2 2 2 (sha1 (codes "ab"))) 4 0 ∷ [])
unfolding calls_most closed_ends next_end
stored = refl

-- the server knows it
known : steps opened (Does (command.Close 2) ∷ made 1 ∷ Gets (message.Answer 2 (body.Lb (lb.CondWriteAnswer (Done tt)))) ∷ Gets (message.Answer 3 (body.Lb (lb.CommitTmpAnswer (Failed status.Stale tt)))) ∷ Does (command.Read 2 0 9) ∷ []) ≡ (sends_one (make_call 1 1 1 2) 0 ∷ sends (cond_call 1 2 1 ab ∷ []) (record no_counts { cond_writes = 1 }) ∷ sends (commit_call 1 3 1 2 2 ∷ []) no_counts ∷ ends (outcome.Refused status.Stale) 3 0 ∷ ends (outcome.Piece 2 (sha1 (codes "ab"))) 0 0 ∷ [])
unfolding calls_most closed_ends next_end
known = refl

-- a content with nothing in it has no chunk
empty : steps opened (Does (command.Trunc 2 0) ∷ Does (command.Close 2) ∷ made 1 ∷ committed 2 2 ∷ Does (command.Close 2) ∷ []) ≡ (ends outcome.Done 0 0 ∷ sends_one (make_call 1 1 1 2) 0 ∷ sends (commit_call 1 2 1 2 0 ∷ []) no_counts ∷ ends (outcome.Closed 2 2 0 (sha1 [])) 2 0 ∷ ends outcome.NotOpen 0 0 ∷ [])
unfolding calls_most closed_ends next_end
empty = refl

-- a lost connection ends the close, and the file stays open; xids and numbers of temporary files begin anew
lost : steps opened (Does (command.Close 2) ∷ Cut ∷ Does (command.Close 2) ∷ Does (command.Abandon 2) ∷ []) ≡ (sends_one (make_call 1 1 1 2) 0 ∷ ends outcome.Lost 0 0 ∷ ends outcome.NoLink 0 0 ∷ ends outcome.Done 0 0 ∷ [])
lost = refl

-- ---- what is kept

-- the server tells that a file has this version
abbrev leased_are : (xid version : ℕ) → Event
leased_are xid version = Gets (message.Answer xid (body.Lb (lb.GetLeaseAnswer (Done (record { attr = attr_in version; version = version; term = 0 })))))

-- file 2 with "a" in it was opened and left again
abbrev fetched : List Event
fetched = Does (command.Open 2) ∷ hashes_are 1 1 1 (pair_of (codes "a") 1 ∷ []) true ∷ bytes_are 2 1 (codes "a") ∷ Does (command.Abandon 2) ∷ []

abbrev seen : State
seen = after (joined start) fetched

abbrev opens_as : (file xid : ℕ) → ClientStep
opens_as file xid = ends (outcome.Opened file 1 (sha1 (codes "a"))) xid 0

-- a content that is kept is opened again in its version; one of another version, or that was dropped meanwhile, is fetched
kept_again : steps seen (Does (command.Open 2) ∷ leased_are 3 1 ∷ []) ≡ (sends_one (lease_call 1 3 2) 0 ∷ opens_as 2 3 ∷ [])
unfolding calls_most fronted key_of sha1 digest_bytes hash_after compress rounds schedule first_words
kept_again = refl

other_version : steps seen (Does (command.Open 2) ∷ leased_are 3 2 ∷ []) ≡ (sends_one (lease_call 1 3 2) 0 ∷ sends_one (hash_call 1 4 2 0) 0 ∷ [])
unfolding calls_most fronted key_of sha1 digest_bytes hash_after compress rounds schedule first_words
other_version = refl

dropped_meanwhile : steps seen (Does (command.Open 2) ∷ Evicts 2 ∷ leased_are 3 1 ∷ []) ≡ (sends_one (lease_call 1 3 2) 0 ∷ nothing_done ∷ sends_one (hash_call 1 4 2 0) 0 ∷ [])
unfolding calls_most fronted key_of sha1 digest_bytes hash_after compress rounds schedule first_words
dropped_meanwhile = refl

not_kept : steps seen (Evicts 2 ∷ Does (command.Open 2) ∷ []) ≡ (nothing_done ∷ sends_one (hash_call 1 3 2 0) 0 ∷ [])
unfolding calls_most fronted key_of sha1 digest_bytes hash_after compress rounds schedule first_words
not_kept = refl

-- another file's chunk is taken from what is kept, and no READ goes out
abbrev opens_other : List Event
opens_other = Does (command.Open 3) ∷ hashes_are 3 1 1 (pair_of (codes "a") 1 ∷ []) true ∷ []

abbrev reads_it : List ClientStep
reads_it = sends_one (hash_call 1 3 3 0) 0 ∷ sends_reads (read_call 4 3 (chunk_of 0 (codes "a") 1) ∷ []) 0 ∷ []

from_kept : steps seen opens_other ≡ (sends_one (hash_call 1 3 3 0) 0 ∷ opens_as 3 3 ∷ [])
unfolding calls_most fronted key_of sha1 digest_bytes hash_after compress rounds schedule first_words
from_kept = refl

-- but not where its content isn't kept, nor where the index has no place or says another
from_none : (steps seen (Evicts 2 ∷ opens_other) ∷ steps seen (Clears ∷ opens_other) ∷ steps seen (Forges (key_of (sha1 (codes "a"))) (record { file = 2; offset = 5; count = 1 }) ∷ opens_other) ∷ []) ≡ ((nothing_done ∷ reads_it) ∷ (nothing_done ∷ reads_it) ∷ (nothing_done ∷ reads_it) ∷ [])
unfolding calls_most fronted key_of sha1 digest_bytes hash_after compress rounds schedule first_words
from_none = refl

-- equal chunks of one fetch are each read, since their places enter behind it
equal_chunks : steps (joined start) (Does (command.Open 2) ∷ hashes_are 1 1 4096 (pair_of (codes "a") 2048 ∷ pair_of (codes "a") 2048 ∷ []) true ∷ []) ≡ (sends_one (hash_call 1 1 2 0) 0 ∷ sends_reads (read_call 2 2 (chunk_of 0 (codes "a") 2048) ∷ read_call 3 2 (chunk_of 2048 (codes "a") 2048) ∷ []) 0 ∷ [])
unfolding calls_most fronted key_of sha1 digest_bytes hash_after compress rounds schedule first_words
equal_chunks = refl

-- a content that was stored is kept in the version that it got, and no places of it enter the index
abbrev storing : List Event
storing = Does (command.Close 2) ∷ made 1 ∷ Gets (message.Answer 2 (body.Lb (lb.CondWriteAnswer (Done tt)))) ∷ committed 3 2 ∷ []

stored_again : steps (after opened storing) (Does (command.Open 2) ∷ leased_are 4 2 ∷ []) ≡ (sends_one (lease_call 1 4 2) 0 ∷ ends (outcome.Opened 2 2 (sha1 (codes "ab"))) 4 0 ∷ [])
unfolding calls_most fronted closed_ends next_end
stored_again = refl

no_places : (after opened storing).index ≡ no_index
unfolding calls_most fronted closed_ends next_end
no_places = refl

-- a refused close leaves what was kept
refused_close : (after opened (Does (command.Close 2) ∷ made 1 ∷ Gets (message.Answer 2 (body.Lb (lb.CondWriteAnswer (Done tt)))) ∷ Gets (message.Answer 3 (body.Lb (lb.CommitTmpAnswer (Failed status.Stale tt)))) ∷ [])).cache ≡ (2, nothing) ∷ []
unfolding calls_most fronted closed_ends next_end
refused_close = refl

-- ---- a file that is written anew

-- its version is asked for and nothing else, and it is open with nothing in it; what is under way, and what is open, comes before
rewritten : steps (joined start) (Does (command.Rewrite 2) ∷ Does (command.Rewrite 3) ∷ leased_are 1 5 ∷ Does (command.Read 2 0 9) ∷ Does (command.Rewrite 2) ∷ Does (command.Open 2) ∷ []) ≡ (sends_one (lease_call 1 1 2) 0 ∷ ends outcome.Busy 0 0 ∷ ends outcome.Done 1 0 ∷ ends (outcome.Piece 0 (sha1 [])) 0 0 ∷ ends outcome.AlreadyOpen 0 0 ∷ ends outcome.AlreadyOpen 0 0 ∷ [])
rewritten = refl

-- it is open in the version that was told, and has an entry in the cache
rewritten_state : after (joined start) (Does (command.Rewrite 2) ∷ leased_are 1 5 ∷ []) ≡ record (joined start) { next_xid = 2; opened = (2, record { version = 5; bytes = [] }) ∷ []; cache = (2, nothing) ∷ [] }
unfolding fronted
rewritten_state = refl

-- a content that is kept of it stays kept, and isn't opened, whatever version is told
rewritten_kept : (after seen (Does (command.Rewrite 2) ∷ leased_are 3 1 ∷ []) ≡ record seen { next_xid = 4; opened = (2, record { version = 1; bytes = [] }) ∷ [] }) × (after seen (Does (command.Rewrite 2) ∷ leased_are 3 2 ∷ []) ≡ record seen { next_xid = 4; opened = (2, record { version = 2; bytes = [] }) ∷ [] })
unfolding calls_most fronted key_of sha1 digest_bytes hash_after compress rounds schedule first_words
rewritten_kept = (refl, refl)

-- what is written is stored, fewer bytes than the file had as well
rewritten_closed : steps opened (Does (command.Abandon 2) ∷ Does (command.Rewrite 2) ∷ leased_are 1 1 ∷ Does (command.Write 2 0 (part.Bytes (codes "b") ∷ [])) ∷ Does (command.Close 2) ∷ made 2 ∷ Gets (message.Answer 3 (body.Lb (lb.CondWriteAnswer (Done tt)))) ∷ committed 4 2 ∷ []) ≡ (ends outcome.Done 0 0 ∷ sends_one (lease_call 1 1 2) 0 ∷ ends outcome.Done 1 0 ∷ ends outcome.Done 0 0 ∷ sends_one (make_call 1 2 1 2) 0 ∷ sends (cond_call 1 3 1 (chunk_of 0 (codes "b") 1) ∷ []) (record no_counts { cond_writes = 1 }) ∷ sends (commit_call 1 4 1 2 1 ∷ []) no_counts ∷ ends (outcome.Closed 2 2 1 (sha1 (codes "b"))) 4 0 ∷ [])
unfolding calls_most closed_ends next_end
rewritten_closed = refl

-- the server refuses a directory, and a file that is gone; the connection isn't joined, or is lost meanwhile
abbrev rewrite_fails : Status → List ClientStep
rewrite_fails s = steps (joined start) (Does (command.Rewrite 2) ∷ Gets (message.Answer 1 (body.Lb (lb.GetLeaseAnswer (Failed s tt)))) ∷ Does (command.Read 2 0 9) ∷ [])

refused_rewrites : (rewrite_fails status.IsDir ∷ rewrite_fails status.Stale ∷ steps start (Does (command.Rewrite 2) ∷ []) ∷ steps (joined start) (Does (command.Rewrite 2) ∷ Cut ∷ Does (command.Read 2 0 9) ∷ []) ∷ []) ≡ ((sends_one (lease_call 1 1 2) 0 ∷ ends (outcome.Refused status.IsDir) 1 0 ∷ ends outcome.NotOpen 0 0 ∷ []) ∷ (sends_one (lease_call 1 1 2) 0 ∷ ends (outcome.Refused status.Stale) 1 0 ∷ ends outcome.NotOpen 0 0 ∷ []) ∷ (ends outcome.NoLink 0 0 ∷ []) ∷ (sends_one (lease_call 1 1 2) 0 ∷ ends outcome.Lost 0 0 ∷ ends outcome.NotOpen 0 0 ∷ []) ∷ [])
refused_rewrites = refl

-- ---- which places enter the index

abbrev enters_at : State → Event → Option Entering
enters_at s (Gets m) = entering s (Ok m)
enters_at s e = None

-- those of all chunks once the last has come, and none at another answer or at a call: so a step can't say there that places are wanting
at_the_end : (enters_at (fetching 3) (bytes_are 6 9 (codes "c")) ∷ enters_at (after (fetching 3) (bytes_are 6 9 (codes "c") ∷ [])) (bytes_are 5 5 (codes "ab")) ∷ enters_at (fetching 3) (bytes_are 5 9 (codes "x")) ∷ enters_at (fetching 3) (Gets (hash_call 1 1 2 0)) ∷ []) ≡ (None ∷ Some (record { looked = []; file = 2; chunks = chunks }) ∷ None ∷ None ∷ [])
unfolding calls_most sha1 digest_bytes hash_after compress rounds schedule first_words
at_the_end = refl

-- where all chunks are found they are looked up before
looked_up_before : enters_at (after seen (Does (command.Open 3) ∷ [])) (hashes_are 3 1 1 (pair_of (codes "a") 1 ∷ []) true) ≡ Some (record { looked = chunk_of 0 (codes "a") 1 ∷ []; file = 3; chunks = chunk_of 0 (codes "a") 1 ∷ [] })
unfolding calls_most fronted key_of sha1 digest_bytes hash_after compress rounds schedule first_words
looked_up_before = refl

-- ---- commands on names

abbrev at_root : List ℕ → Spot
at_root name = record { dirs = []; name = name }

-- in the directory "d" of the root
abbrev below : List ℕ → Spot
below name = record { dirs = codes "d" ∷ []; name = name }

abbrev named : PathCommand → Event
named c = Does (command.Named c)

abbrev calls : (xid : ℕ) → Nfs → ClientStep
calls xid call = sends_one (message.Call xid (body.Nfs call)) 0

abbrev answers : (xid : ℕ) → Nfs → Event
answers xid a = Gets (message.Answer xid (body.Nfs a))

-- a name stands for this id
abbrev found_is : (xid id : ℕ) → Event
found_is xid id = answers xid (nfs.LookupAnswer (Done (record { handle = handle_bytes id; attr = Some (attr_in 7); dir = None })))

-- a step in which a path was found to stand for this id
abbrev finds : (id : ℕ) → ClientStep → ClientStep
finds id a = record a { found = Some id }

abbrev walking : (xid : ℕ) → Walk → State
walking xid w = record (joined start) { next_xid = xid + 1; task = Some (record { file = 0; stage = stage.Walking xid w }) }

-- each name is looked up in the one before it, and the file of the last is fetched as one of its id
opens_path : steps (joined start) (named (path.Find (below (codes "f"))) ∷ found_is 1 2 ∷ found_is 2 5 ∷ hashes_are 3 1 0 [] true ∷ []) ≡ (calls 1 (nfs.Lookup (place 1 (codes "d"))) ∷ calls 2 (nfs.Lookup (place 2 (codes "f"))) ∷ finds 5 (sends_one (hash_call 1 3 5 0) 0) ∷ ends (outcome.Opened 5 0 (sha1 [])) 3 0 ∷ [])
unfolding calls_most
opens_path = refl

-- while names are looked up no file is known, and another command finds an operation under way
looks_up : (after (joined start) (named (path.Find (below (codes "f"))) ∷ []) ≡ walking 1 (begun (path.Find (below (codes "f"))))) × (steps (joined start) (named (path.Find (below (codes "f"))) ∷ named (path.List []) ∷ []) ≡ (calls 1 (nfs.Lookup (place 1 (codes "d"))) ∷ ends outcome.Busy 0 0 ∷ []))
looks_up = (refl, refl)

-- so does a rewrite, which then asks for the version of the file that was found
rewrites_path : steps (joined start) (named (path.Rewrite (below (codes "f"))) ∷ found_is 1 2 ∷ found_is 2 5 ∷ leased_are 3 1 ∷ Does (command.Read 5 0 9) ∷ []) ≡ (calls 1 (nfs.Lookup (place 1 (codes "d"))) ∷ calls 2 (nfs.Lookup (place 2 (codes "f"))) ∷ finds 5 (sends_one (lease_call 1 3 5) 0) ∷ ends outcome.Done 3 0 ∷ ends (outcome.Piece 0 (sha1 [])) 0 0 ∷ [])
rewrites_path = refl

rewrites_open_path : steps opened (named (path.Rewrite (at_root (codes "f"))) ∷ found_is 1 2 ∷ []) ≡ (calls 1 (nfs.Lookup (place 1 (codes "f"))) ∷ finds 2 (ends outcome.AlreadyOpen 0 0) ∷ [])
rewrites_open_path = refl

-- that a file is open already is told behind the look-ups
already_open : steps opened (named (path.Find (at_root (codes "f"))) ∷ found_is 1 2 ∷ []) ≡ (calls 1 (nfs.Lookup (place 1 (codes "f"))) ∷ finds 2 (ends outcome.AlreadyOpen 0 0) ∷ [])
already_open = refl

-- a content that is kept is asked for by its version
opens_kept : steps seen (named (path.Find (at_root (codes "f"))) ∷ found_is 3 2 ∷ leased_are 4 1 ∷ []) ≡ (calls 3 (nfs.Lookup (place 1 (codes "f"))) ∷ finds 2 (sends_one (lease_call 1 4 2) 0) ∷ opens_as 2 4 ∷ [])
unfolding calls_most fronted key_of sha1 digest_bytes hash_after compress rounds schedule first_words
opens_kept = refl

-- in the root no name is looked up before
makes_at_once : steps (joined start) (named (path.Make (at_root (codes "f"))) ∷ answers 1 (nfs.CreateAnswer (Failed status.Exist (record { before = None; after = None }))) ∷ []) ≡ (calls 1 (create_call 1 (codes "f")) ∷ ends (outcome.Refused status.Exist) 1 0 ∷ [])
makes_at_once = refl

renames_at_once : steps (joined start) (named (path.Rename (at_root (codes "a")) (at_root (codes "b"))) ∷ []) ≡ (calls 1 (rename_call 1 (codes "a") 1 (codes "b")) ∷ [])
renames_at_once = refl

looks_at_root : steps (joined start) (named path.LookRoot ∷ answers 1 (nfs.GetAttrAnswer (Done (attr_in 7))) ∷ []) ≡ (calls 1 (nfs.GetAttr (handle_bytes 1)) ∷ ends (outcome.Seen 1 kind.File 7 0) 1 0 ∷ [])
looks_at_root = refl

-- what a name stands for, and the root has none
looks_at_name : steps (joined start) (named (path.Look (at_root (codes "f"))) ∷ found_is 1 5 ∷ []) ≡ (calls 1 (nfs.Lookup (place 1 (codes "f"))) ∷ finds 5 (ends (outcome.Seen 5 kind.File 7 0) 1 0) ∷ [])
looks_at_name = refl

abbrev page_is : (xid : ℕ) → List Entry → (eof : Bool) → Event
page_is xid entries eof = answers xid (nfs.ReadDirAnswer (Done (record { attr = None; verifier = 7; entries = entries; eof = eof })))

-- a listing goes on where its last page ended
lists : steps (joined start) (named (path.List []) ∷ page_is 1 (record { fileid = 2; name = codes "a"; cookie = 9 } ∷ []) false ∷ page_is 2 (record { fileid = 3; name = codes "b"; cookie = 10 } ∷ []) true ∷ []) ≡ (calls 1 (page_call 1 no_pages) ∷ calls 2 (page_call 1 (record { names = codes "a" ∷ []; count = 1; cookie = 9; verifier = 7 })) ∷ ends (outcome.Names (codes "a" ∷ codes "b" ∷ [])) 2 0 ∷ [])
lists = refl

-- a page without an entry that isn't the last is the peer's fault, and so is an answer to another call of names
page_of_nothing : steps (joined start) (named (path.List []) ∷ page_is 1 [] false ∷ []) ≡ (calls 1 (page_call 1 no_pages) ∷ ends (outcome.BadPeer (bad.Shape 0 1)) 0 0 ∷ [])
page_of_nothing = refl

other_answer : steps (joined start) (named (path.Make (at_root (codes "f"))) ∷ answers 1 (nfs.MkDirAnswer (Failed status.Exist (record { before = None; after = None }))) ∷ []) ≡ (calls 1 (create_call 1 (codes "f")) ∷ ends (outcome.BadPeer (bad.UnknownXid 1)) 0 0 ∷ [])
other_answer = refl

-- a lost connection ends it, and what is answered late is answered to nobody
lost_names : steps (joined start) (named (path.List (codes "d" ∷ [])) ∷ Cut ∷ named (path.List []) ∷ []) ≡ (calls 1 (nfs.Lookup (place 1 (codes "d"))) ∷ ends outcome.Lost 0 0 ∷ ends outcome.NoLink 0 0 ∷ [])
lost_names = refl

-- it begins only where 1,000,000 xids are left, and as many as it may need
few_xids : steps (record (joined start) { next_xid = 4293967297 }) (named path.LookRoot ∷ []) ≡ (ends outcome.NoLink 0 0 ∷ [])
few_xids = refl
