-- Statements that parts of the law show of chunk lists, of what fits a record, of deliveries, of streams and of the clocks, as types.
use Rattle.std.proofs.Common.{◌≡◌, ℕ, suc, ◌+◌, ◌^◌, ◌<◌, ◌≤◌, List, [], ◌∷◌, ◌++◌, length, map, take, drop, Option, Some, None, Ok, Bool, true, false}
use Rattle.temp_files.specs.Pieces as piece_rules
use Rattle.tree_calls.specs.Telling.{told as told_by}
use Rattle.path_calls.specs.Walk.{next_call}
use Rattle.path_calls.specs.declared.walk.Walk.{Walk}
use Rattle.server_law.proofs.lemmas.Trees.{IsBounded}
use Rattle.wire.specs.declared.message.Body.TheVariants as body
use Rattle.wire.specs.declared.message.Message.TheVariants as message
use Rattle.wire.specs.declared.message.Pending.{Pending}
use Rattle.wire.specs.declared.message.Side.TheVariants as side
use Rattle.tree_reading.specs.declared.call.Reservation.{Reservation}
use Rattle.kept_promise.proofs.PathNames.{IsWalkSmall, is_building, is_going}
use Rattle.tree_calls.specs.Waiting.{settles}
use Rattle.tree_calls.specs.declared.asked.Asked.{Asked}
use Rattle.tree_calls.specs.declared.asked.Done.{Done as Finished}
use Rattle.tree_calls.specs.declared.asked.Outcome.TheVariants.{Answered}
use Rattle.kept_promise.proofs.Departures.{comes_by}
use Rattle.kept_promise.proofs.Makings.{made_by}
use Rattle.kept_promise.proofs.Common.{nat_le, All, slice_get, insert_entry, nat_cmp, sha1, Unread, fed, stream, chunks_of, chunk_bytes, end_of, Chunk, Done, Failed, MessageFits, IsExpected, told_chunks, pair_of, is_end, hashes_of, leased_of, piece_of, piece_bytes, File, with_pairs, broken_of, slots_bytes, Fetch, World, server_waiting, up_some, down_some, KeepsClocks, run, accepted, Call, Call.Lease, Call.Hash, Call.Read, Call.Make, Call.Name, Call.Send, Call.Commit, Reply, Reply.Versioned, Reply.Hashed, Reply.Bytes, Reply.Made, Reply.Named, Reply.Stored, Reply.Changed, call_message, told_message, Call.Walks, Reply.Walked, NameReply, name_answer, Tree}
use Rattle.wire.specs.declared.message.TheConstants.{LBFS_LEAST, LBFS_SERVED}
use Rattle.wire.specs.Message.{FitsIn}
use Rattle.kept_promise.specs.Talk.{Told, reply_body}

-- ---- chunk lists

-- chunks that stand one behind the other from a place to another, each of some bytes, 65,536 at most
abbrev pub AreInRow : (from : ℕ) → List Chunk → (to : ℕ) → Type 0
AreInRow from [] to = from ≡ to
AreInRow from (c ∷ cs) to = (c.start ≡ from) × (0 < c.len) × (c.len ≤ 65536) × AreInRow (c.start + c.len) cs to

abbrev pub ChunksInRow : Type 0
ChunksInRow = (x : List ℕ) → AreInRow 0 (chunks_of x) (length x)

-- none but the last is short
abbrev pub ChunksAreLong : Type 0
ChunksAreLong = (x : List ℕ) (j : ℕ) (c : Chunk) → slice_get (chunks_of x) j ≡ Some c → suc j < length (chunks_of x) → 2048 ≤ c.len

abbrev pub ChunksAreNamed : Type 0
ChunksAreNamed = (x : List ℕ) (j : ℕ) (c : Chunk) → slice_get (chunks_of x) j ≡ Some c → (c.digest ≡ sha1 (chunk_bytes x c)) × (length (chunk_bytes x c) ≡ c.len) × (c.start + c.len ≤ length x)

-- the range from the end of the first chunks on
abbrev pub TellsNext : Type 0
TellsNext = (lbfs : ℕ) (x : List ℕ) (i : ℕ) (handle : List ℕ) → i ≤ length (chunks_of x) → length x ≤ 67108864
    → told_chunks x (record { lbfs = lbfs; handle = handle; offset = end_of (take i (chunks_of x)); count = 4294967295 }) ≡ take 1024 (drop i (chunks_of x))

abbrev pub TellsEnd : Type 0
TellsEnd = (x : List ℕ) (i : ℕ) → i ≤ length (chunks_of x) → is_end (length x) (end_of (take i (chunks_of x))) (take 1024 (drop i (chunks_of x))) ≡ nat_le (length (chunks_of x)) (i + 1024)

-- what the pairs tell are the chunks again
abbrev pub PairsTell : Type 0
PairsTell = (x : List ℕ) (i : ℕ) → i ≤ length (chunks_of x) → with_pairs (take i (chunks_of x)) (map pair_of (take 1024 (drop i (chunks_of x)))) ≡ take (i + 1024) (chunks_of x)

-- and nothing is broken in them
abbrev pub NothingBroken : Type 0
NothingBroken = (lbfs term : ℕ) (g : File) (f : Fetch) (x : List ℕ) (i : ℕ) (handle : List ℕ) → g.content ≡ x → length x ≤ 67108864 → f.size ≡ length x → f.chunks ≡ take i (chunks_of x) → i ≤ length (chunks_of x)
    → broken_of f (hashes_of term g (record { lbfs = lbfs; handle = handle; offset = end_of (take i (chunks_of x)); count = 4294967295 })) ≡ None

-- a READ of a chunk gives its bytes
abbrev pub ReadGives : Type 0
ReadGives = (x : List ℕ) (c : Chunk) (handle : List ℕ) → c.len ≤ 65536 → piece_bytes x (record { handle = handle; offset = c.start; count = c.len }) ≡ chunk_bytes x c

-- the bytes of all chunks are the content
abbrev pub SlotsAreWhole : Type 0
SlotsAreWhole = (x : List ℕ) (slots : List (Option (List ℕ))) → length slots ≡ length (chunks_of x)
    → ((j : ℕ) (c : Chunk) → slice_get (chunks_of x) j ≡ Some c → slice_get slots j ≡ Some (Some (chunk_bytes x c))) → slots_bytes slots ≡ x

-- pieces by rising places that are chunks' bytes, and all of them, are joined to the content (they were put in one by one, in any order)
abbrev pub PiecesOf : List ℕ → (Chunk → Bool) → List Chunk → List (ℕ × List ℕ)
PiecesOf x has [] = []
PiecesOf x has (c ∷ cs) = elim (has c) [ true ↦ (c.start, chunk_bytes x c) ∷ PiecesOf x has cs | false ↦ PiecesOf x has cs ]

-- pieces at the same places, of the same lengths
abbrev pub SameShape : List (ℕ × List ℕ) → List (ℕ × List ℕ) → Type 0
SameShape [] [] = Unit {0}
SameShape (p ∷ ps) (q ∷ qs) = (p.0 ≡ q.0) × (length p.1 ≡ length q.1) × SameShape ps qs
SameShape ps qs = ⊥

abbrev pub PiecesAreWhole : Type 0
PiecesAreWhole = (x : List ℕ) → piece_rules.joined 0 (length x) (PiecesOf x (λ c. true) (chunks_of x)) ≡ Some x

-- a chunk that isn't there yet can be put in, and then is there; has j tells which are
abbrev pub PieceGoesIn : Type 0
PieceGoesIn = (x : List ℕ) (has more : Chunk → Bool) (j : ℕ) (c : Chunk) → length x ≤ 67108864 → slice_get (chunks_of x) j ≡ Some c → has c ≡ false → more c ≡ true → ((k : ℕ) (d : Chunk) → slice_get (chunks_of x) k ≡ Some d → (k ≡ j → ⊥) → more d ≡ has d)
    → (piece_rules.range_fault (PiecesOf x has (chunks_of x)) c.start c.len ≡ None) × (insert_entry nat_cmp (PiecesOf x has (chunks_of x)) c.start (chunk_bytes x c) ≡ PiecesOf x more (chunks_of x))

-- ---- what fits a record

-- a version of LBFS that is served
pub record IsSpoken (lbfs : ℕ) : Type 0 where
  pub least : LBFS_LEAST ≤ lbfs
  pub most : lbfs ≤ LBFS_SERVED

-- what a call's numbers need to have a record: the version is that of a call of LBFS
abbrev pub CallFits : (lbfs xid : ℕ) → Call → Type 0
CallFits lbfs xid (Lease file) = (xid < 2 ^ 32) × (file < 2 ^ 64) × IsSpoken lbfs
CallFits lbfs xid (Hash file offset) = (xid < 2 ^ 32) × (file < 2 ^ 64) × (offset ≤ 67108864) × IsSpoken lbfs
CallFits lbfs xid (Read file c) = (xid < 2 ^ 32) × (file < 2 ^ 64) × (c.start ≤ 67108864) × (c.len ≤ 65536)
CallFits lbfs xid (Make temp file) = (xid < 2 ^ 32) × (temp < 2 ^ 32) × (file < 2 ^ 64) × IsSpoken lbfs
CallFits lbfs xid (Name temp c) = (xid < 2 ^ 32) × (temp < 2 ^ 32) × (c.start ≤ 67108864) × (c.len ≤ 65536) × (length c.digest ≡ 20) × IsSpoken lbfs
CallFits lbfs xid (Send temp start bytes) = (xid < 2 ^ 32) × (temp < 2 ^ 32) × (start ≤ 67108864) × (length bytes ≤ 65536) × IsSpoken lbfs
CallFits lbfs xid (Commit temp file size) = (xid < 2 ^ 32) × (temp < 2 ^ 32) × (file < 2 ^ 64) × (size ≤ 67108864) × IsSpoken lbfs
CallFits lbfs xid (Walks w) = (xid < 2 ^ 32) × IsWalkSmall w

abbrev pub CallsFit : Type 0
CallsFit = (lbfs xid : ℕ) (c : Call) → CallFits lbfs xid c → MessageFits (call_message lbfs xid c) × IsExpected server_waiting (call_message lbfs xid c)

-- it is one that the server does, whatever it waits for
abbrev pub CallsExpected : Type 0
CallsExpected = (calls : List Pending) (lbfs xid : ℕ) (c : Call) → CallFits lbfs xid c → IsExpected (record { side = side.Server; lbfs = LBFS_SERVED; calls = calls }) (call_message lbfs xid c)

-- an answer fits its record, and its layout is that of a version of LBFS
abbrev pub ToldFits : (lbfs : ℕ) → Told → Type 0
ToldFits lbfs t = MessageFits (told_message t) × FitsIn lbfs (reply_body t.reply)

-- an answer is of a file within its bounds
abbrev pub FileFits : File → Type 0
FileFits g = (g.id < 2 ^ 64) × (g.version < 2 ^ 32) × (length g.content ≤ 67108864)

abbrev pub HashAnswersFit : Type 0
HashAnswersFit = (lbfs asked xid term : ℕ) (g : File) (handle : List ℕ) (offset : ℕ) → IsSpoken lbfs → xid < 2 ^ 32 → term < 2 ^ 32 → FileFits g → ToldFits lbfs (record { xid = xid; reply = Hashed (Done (hashes_of term g (record { lbfs = asked; handle = handle; offset = offset; count = 4294967295 }))) })

abbrev pub LeaseAnswersFit : Type 0
LeaseAnswersFit = (lbfs xid term : ℕ) (g : File) → xid < 2 ^ 32 → term < 2 ^ 32 → FileFits g → ToldFits lbfs (record { xid = xid; reply = Versioned (Done (leased_of term g)) })

abbrev pub ReadAnswersFit : Type 0
ReadAnswersFit = (lbfs xid : ℕ) (g : File) (handle : List ℕ) (offset count : ℕ) → xid < 2 ^ 32 → FileFits g → ToldFits lbfs (record { xid = xid; reply = Bytes (Done (piece_of g (record { handle = handle; offset = offset; count = count }))) })

-- all other answers: refusals, and those that have nothing to tell but a version and a term
abbrev pub IsPlain : Reply → Type 0
IsPlain (Versioned (Failed s u)) = Unit {0}
IsPlain (Hashed (Failed s u)) = Unit {0}
IsPlain (Bytes (Failed s None)) = Unit {0}
IsPlain (Made a) = Unit {0}
IsPlain (Named a) = Unit {0}
IsPlain (Stored a) = Unit {0}
IsPlain (Changed (Failed s u)) = Unit {0}
IsPlain (Changed (Done c)) = (c.version < 2 ^ 32) × (c.term < 2 ^ 32)
IsPlain r = ⊥

-- what a tree within the limits tells a walk
abbrev pub NameAnswersFit : Type 0
NameAnswersFit = (lbfs xid : ℕ) (t : Tree) (w : Walk) (r : NameReply) → xid < 2 ^ 32 → IsBounded t → IsWalkSmall w → told_by t.nodes (next_call w) ≡ Some (name_answer r) → ToldFits lbfs (record { xid = xid; reply = Walked r })

-- and what it answers to a call that makes or removes something
abbrev pub MakingAnswersFit : Type 0
MakingAnswersFit = (xid : ℕ) (t : Tree) (held : Reservation) (w : Walk) → xid < 2 ^ 32 → IsBounded t → IsBounded (made_by t held w.dir w.goal).0 → is_building w ≡ true → MessageFits (message.Answer xid (body.Nfs (made_by t held w.dir w.goal).1.answer))

-- and to one that removes or renames, on arrival and once it has waited
abbrev pub GoingAnswersFit : Type 0
GoingAnswersFit = (xid : ℕ) (t : Tree) (held : Reservation) (busy : Bool) (w : Walk) (after : Tree) (d : Finished) → xid < 2 ^ 32 → IsBounded t → IsBounded after → comes_by t held busy w.dir w.goal ≡ (after, Answered d) → is_going w ≡ true → MessageFits (message.Answer xid (body.Nfs d.answer))

abbrev pub SettledAnswersFit : Type 0
SettledAnswersFit = (xid : ℕ) (t : Tree) (held : Reservation) (a : Asked) → xid < 2 ^ 32 → IsBounded t → IsBounded (settles t held a).0 → MessageFits (message.Answer xid (body.Nfs (settles t held a).1.answer))

abbrev pub PlainAnswersFit : Type 0
PlainAnswersFit = (lbfs xid : ℕ) (r : Reply) → xid < 2 ^ 32 → IsPlain r → ToldFits lbfs (record { xid = xid; reply = r })

-- ---- deliveries

abbrev pub UpsAddUp : Type 0
UpsAddUp = (w : World) (number m n now : ℕ) → up_some (up_some w number m now) number n now ≡ up_some w number (m + n) now

abbrev pub DownsAddUp : Type 0
DownsAddUp = (w : World) (number m n now : ℕ) → down_some (down_some w number m now) number n now ≡ down_some w number (m + n) now

-- ---- bytes

-- a part of a stream of records is split as they are: some of them, and what is left begins the others
pub record Comes (rest piece behind : List ℕ) (records : List (List ℕ)) (ends : Unread) (came : List (List ℕ)) : Type 0 where
  pub left : List (List ℕ)
  pub all : records ≡ came ++ left
  pub sound : ends.spoilt ≡ None
  pub queued : ends.rest ++ behind ≡ stream left

abbrev pub StreamsCome : Type 0
StreamsCome = (end : Unread) (piece behind : List ℕ) (records : List (List ℕ)) → All (λ r. length r ≤ 131072) records → end.spoilt ≡ None → end.rest ++ (piece ++ behind) ≡ stream records
    → Comes end.rest piece behind records (fed end piece).0 (fed end piece).1.records

-- ---- clocks

abbrev pub ClocksKeepTheRule : Type 0
ClocksKeepTheRule = (input : List ℕ) (w : World) → (accepted input ≡ Ok w → (run input ≡ Ok w) × KeepsClocks input) × ((run input ≡ Ok w) × KeepsClocks input → accepted input ≡ Ok w)
