-- What the server answers to a record of a session that is no client's (RFC 5531, section 9): worked records, each with the record that it says.
use Rattle.std.specs.Prelude.{◌≡◌, ℕ, List, [], ◌∷◌, ◌++◌, map, replicate, Bool, true, false, codes, refl}
use Rattle.std.specs.Int.{w32, to_be_bytes}
use Rattle.std.specs.List.{flat_map}
use Rattle.xdr_codec.specs.Answers.{outcome_form}
use Rattle.xdr_codec.specs.Xdr.{u32_form, u64_form, bytes_form, fixed_form, count_form, opaque_spell, opaque_read}
use Rattle.hash_calls.specs.Calls.{new_temp_form, commit_form, committed_form}
use Rattle.rpc_record.specs.Header.{direction_form, front_form, auth_form, call_form, versions_form, accept_form, denial_form, reply_form}
use Rattle.rpc_record.specs.Records.{record_of}
use Rattle.wire.specs.Message.{message_spell}
use Rattle.tree_nodes.specs.declared.node.Body.TheVariants.{File}
use Rattle.server_core.specs.Step.{opens_with}
use Rattle.server_core.specs.declared.event.Sent.{Sent}
use Rattle.trace_ends.specs.Core.{Core, CoreStep, Event.Serves, Event.RawJoins, happens}
use Rattle.trace_ends.specs.Session.{Session}
use Rattle.trace_replay.specs.Chained.{Up, records_in}
use Rattle.trace_replay.specs.World.{start}

abbrev words : List ℕ → List ℕ
words ws = flat_map (to_be_bytes w32) ws

-- the file 2, "a", and a session that is no client's
abbrev stranger : Core
stranger = (happens (record start.core { server = opens_with start.core.server 1 (codes "a") (File (codes "a")) }) RawJoins).core

-- what is answered to records, one after the other
abbrev said : Core → List (List ℕ) → List (List (List ℕ))
said k [] = []
said k (r ∷ rs) =
    let t : CoreStep = happens k (Serves 1 0 r) in
    map (λ (s : Sent). message_spell s.message) t.down ∷ said t.core rs

-- whether its session was closed by then
abbrev lost : Core → List (List ℕ) → List Bool
lost k [] = map (λ (x : Session). x.hung) k.sessions
lost k (r ∷ rs) = lost (happens k (Serves 1 0 r)).core rs

-- a call without an authentication: of this version of RPC, of a program in a version, of a procedure
abbrev calls : (xid rpc program version procedure : ℕ) → List ℕ → List ℕ
calls xid rpc program version procedure arguments = words (xid ∷ 0 ∷ rpc ∷ program ∷ version ∷ procedure ∷ 0 ∷ 0 ∷ 0 ∷ 0 ∷ arguments)

-- ---- refused, and the session goes on

-- RPC of version 3: RPC_MISMATCH 2 2
pub another_rpc : said stranger (calls 5 3 100003 3 0 [] ∷ []) ≡ (words (5 ∷ 1 ∷ 1 ∷ 0 ∷ 2 ∷ 2 ∷ []) ∷ []) ∷ []
unfolding direction_form front_form auth_form call_form versions_form accept_form denial_form reply_form u32_form bytes_form count_form opaque_spell opaque_read
another_rpc = refl

-- NFS of version 2, and LBFS of version 9: PROG_MISMATCH 3 3, and 1 1
pub another_version : said stranger (calls 5 2 100003 2 0 [] ∷ calls 6 2 536890434 9 0 [] ∷ [])
    ≡ (words (5 ∷ 1 ∷ 0 ∷ 0 ∷ 0 ∷ 2 ∷ 3 ∷ 3 ∷ []) ∷ []) ∷ (words (6 ∷ 1 ∷ 0 ∷ 0 ∷ 0 ∷ 2 ∷ 1 ∷ 1 ∷ []) ∷ []) ∷ []
unfolding direction_form front_form auth_form call_form versions_form accept_form denial_form reply_form u32_form bytes_form count_form opaque_spell opaque_read
another_version = refl

-- the callback program: PROG_UNAVAIL
pub called_back : said stranger (calls 5 2 536890435 1 0 [] ∷ []) ≡ (words (5 ∷ 1 ∷ 0 ∷ 0 ∷ 0 ∷ 1 ∷ []) ∷ []) ∷ []
unfolding direction_form front_form auth_form call_form versions_form accept_form denial_form reply_form u32_form bytes_form count_form opaque_spell opaque_read
called_back = refl

-- procedure 2 of NFS, and 7 of LBFS: PROC_UNAVAIL
pub no_procedure : said stranger (calls 5 2 100003 3 2 [] ∷ calls 6 2 536890434 1 7 [] ∷ [])
    ≡ (words (5 ∷ 1 ∷ 0 ∷ 0 ∷ 0 ∷ 3 ∷ []) ∷ []) ∷ (words (6 ∷ 1 ∷ 0 ∷ 0 ∷ 0 ∷ 3 ∷ []) ∷ []) ∷ []
unfolding direction_form front_form auth_form call_form versions_form accept_form denial_form reply_form u32_form bytes_form count_form opaque_spell opaque_read
no_procedure = refl

-- MKTMPFILE without its arguments: GARBAGE_ARGS; and an answer that nothing asked for: none. The session stands behind all of these.
abbrev odd : List (List ℕ)
odd = calls 5 2 536890434 1 3 [] ∷ words (5 ∷ 1 ∷ 0 ∷ 0 ∷ 0 ∷ 0 ∷ []) ∷ []

pub no_arguments : said stranger odd ≡ (words (5 ∷ 1 ∷ 0 ∷ 0 ∷ 0 ∷ 4 ∷ []) ∷ []) ∷ [] ∷ []
unfolding direction_form front_form auth_form call_form versions_form accept_form denial_form reply_form u32_form bytes_form count_form opaque_spell opaque_read new_temp_form
no_arguments = refl

pub goes_on : lost stranger (calls 5 3 100003 3 0 [] ∷ calls 5 2 536890435 1 0 [] ∷ odd) ≡ false ∷ []
unfolding direction_form front_form auth_form call_form versions_form accept_form denial_form reply_form u32_form bytes_form count_form opaque_spell opaque_read new_temp_form
goes_on = refl

-- ---- closed, and nothing is said

-- credentials of 401 bytes
abbrev long_auth : List ℕ
long_auth = words (5 ∷ 0 ∷ 2 ∷ 536890434 ∷ 1 ∷ 0 ∷ 0 ∷ 401 ∷ []) ++ replicate 412 0

pub closed_by_auth : said stranger (long_auth ∷ calls 6 2 536890434 1 0 [] ∷ []) ≡ [] ∷ [] ∷ []
unfolding direction_form front_form auth_form call_form u32_form bytes_form count_form opaque_read
closed_by_auth = refl

pub is_closed : lost stranger (long_auth ∷ []) ≡ true ∷ []
unfolding direction_form front_form auth_form call_form u32_form bytes_form count_form opaque_read
is_closed = refl

-- 1,025 headers of length 0, and one that promises a byte too many: what the server takes of them is a record of no bytes, and that closes the session
pub spoilt_streams : records_in Up (replicate 4100 0) ∷ records_in Up (128 ∷ 2 ∷ 0 ∷ 1 ∷ []) ∷ [] ≡ ([] ∷ []) ∷ ([] ∷ []) ∷ []
unfolding record_of
spoilt_streams = refl

pub closed_by_none : lost stranger ([] ∷ []) ≡ true ∷ []
unfolding front_form direction_form u32_form
closed_by_none = refl

-- ---- a second COMMITTMP

abbrev makes : (xid fd : ℕ) → List ℕ
makes xid fd = calls xid 2 536890434 1 3 (fd ∷ 16 ∷ 1279406129 ∷ 0 ∷ 0 ∷ 2 ∷ [])

abbrev commits : (xid fd : ℕ) → List ℕ
commits xid fd = calls xid 2 536890434 1 6 (fd ∷ 16 ∷ 1279406129 ∷ 0 ∷ 0 ∷ 2 ∷ 0 ∷ 0 ∷ [])

-- while one waits, and its temporary file is whole: JUKEBOX, 10008; and that file has ended: BADFD, 20003
pub second_commit : said stranger (makes 1 1 ∷ makes 2 2 ∷ commits 3 1 ∷ commits 4 2 ∷ commits 5 2 ∷ [])
    ≡ (words (1 ∷ 1 ∷ 0 ∷ 0 ∷ 0 ∷ 0 ∷ 0 ∷ []) ∷ []) ∷ (words (2 ∷ 1 ∷ 0 ∷ 0 ∷ 0 ∷ 0 ∷ 0 ∷ []) ∷ []) ∷ [] ∷ (words (4 ∷ 1 ∷ 0 ∷ 0 ∷ 0 ∷ 0 ∷ 10008 ∷ []) ∷ []) ∷ (words (5 ∷ 1 ∷ 0 ∷ 0 ∷ 0 ∷ 0 ∷ 20003 ∷ []) ∷ []) ∷ []
unfolding direction_form front_form auth_form call_form versions_form accept_form denial_form reply_form u32_form u64_form bytes_form fixed_form count_form opaque_spell opaque_read outcome_form new_temp_form commit_form committed_form
second_commit = refl
