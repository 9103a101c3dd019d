-- Worked moments: what the server knows of a chunk by its index, what an open asks first, and that nobody hashes what comes where its client has left.
use Rattle.std.specs.Prelude.{◌≡◌, ℕ, List, [], ◌∷◌, Some, None, map, length, codes, refl}
use Rattle.sha1.specs.Sha1.{sha1, digest_bytes, hash_after, compress, rounds, schedule, first_words}
use Rattle.chunk_index.specs.Index.{Pairs, key_of}
use Rattle.xdr_codec.specs.declared.answer.Answer.TheVariants.{Done, Failed}
use Rattle.xdr_codec.specs.declared.status.Status.TheVariants as status
use Rattle.hash_calls.specs.declared.call.CondPiece.{CondPiece}
use Rattle.file_open.specs.Opening.{lease_call, hash_call}
use Rattle.server_core.specs.State as server
use Rattle.server_core.specs.Step.{opens_with}
use Rattle.tree_nodes.specs.declared.node.Body.TheVariants.{File}
use Rattle.xdr_codec.specs.declared.handle.TheConstants.{ROOT}
use Rattle.trace_ends.specs.Session.{new_seat}
use Rattle.trace_replay.specs.Trail.{Moment, heard_hashed}
use Rattle.trace_replay.specs.Saving.{known_at, name_answer, first_call}
use Rattle.trace_ends.specs.Core.{Event.Settles}

-- file 2 is "abc", and the index has these pairs
abbrev holds : Pairs → Moment
holds pairs = record {
  before = record {
    server = record (opens_with server.empty ROOT (codes "a") (File (codes "abc"))) { index = record server.empty.index { pairs = pairs } };
    seats = [];
    sessions = [];
    steps = 0;
    drift = 0;
    lbfs = 1;
    ops = [];
    entries = [];
    came = [];
    raws = [];
  };
  event = Settles 0;
}

abbrev names : List ℕ → CondPiece
names bytes = record { lbfs = 1; fd = 1; offset = 0; count = length bytes; digest = sha1 bytes }

-- the key of a chunk "abc", and places that lie in file 2 and past its end
abbrev pairs_of : (file offset count : ℕ) → Pairs
pairs_of file offset count = (key_of (sha1 (codes "abc")), record { file = file; offset = offset; count = count }) ∷ []

-- the chunk is known where its place has these bytes: not without a place, nor by one past the file's end, of a file that isn't there, or with other bytes
pub known_by : map (λ (pairs : Pairs). name_answer (known_at (holds pairs) (names (codes "abc")))) (pairs_of 2 0 3 ∷ [] ∷ pairs_of 2 1 3 ∷ pairs_of 3 0 3 ∷ pairs_of 2 0 2 ∷ [])
    ≡ Done tt ∷ Failed status.HashNotFound tt ∷ Failed status.HashNotFound tt ∷ Failed status.HashNotFound tt ∷ Failed status.HashNotFound tt ∷ []
unfolding key_of sha1 digest_bytes hash_after compress rounds schedule first_words
known_by = refl

-- a file of which a content is kept is asked for by its version
pub first_calls : first_call 1 7 2 None ∷ first_call 1 7 2 (Some (record { version = 1; bytes = codes "abc" })) ∷ [] ≡ hash_call 1 7 2 0 ∷ lease_call 1 7 2 ∷ []
first_calls = refl

-- what comes down session 1 is dropped by a client that has session 2
pub left_alone : (bytes : List ℕ) → heard_hashed 1 0 bytes (Some (record (new_seat 0 1) { session = Some 2 })) ≡ []
left_alone bytes = refl
