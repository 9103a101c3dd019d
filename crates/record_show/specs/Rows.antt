-- Worked examples. Streams are written in words of four bytes.
use Rattle.std.specs.Prelude.{◌≡◌, ℕ, ◌+◌, List, [], ◌∷◌, ◌++◌, codes, refl, replicate}
use Rattle.std.specs.Int.{w32, to_be_bytes}
use Rattle.std.specs.Fmt.{digits}
use Rattle.std.specs.List.{flat_map}
use Rattle.xdr_codec.specs.Xdr.{u32_form, u64_form, count_form, opaque_spell, opaque_read, bytes_form}
use Rattle.rpc_record.specs.Records.{record_of}
use Rattle.rpc_record.specs.Header.{direction_form, front_form, auth_form, call_form}
use Rattle.hash_calls.specs.Calls.{range_form}
use Rattle.nfs3_calls.specs.Calls.{place_form}
use Rattle.record_show.specs.Stat.{accept_stat_form, reject_stat_form, stat_form}
use Rattle.record_show.specs.Show.{record_text, shown}

abbrev words : List ℕ → List ℕ
words ws = flat_map (to_be_bytes w32) ws

-- 2 ^ 31, the mark of a record's last fragment, and so many bytes
abbrev last : ℕ → ℕ
last bytes = 2147483648 + bytes

-- ---- streams

empty_row : shown [] ≡ []
empty_row = refl

-- NULL of LBFS and its answer, a LOOKUP whose name has fill that is not zero and its refusal, and the beginning of a record
abbrev null_call : List ℕ
null_call = words (last 40 ∷ 7 ∷ 0 ∷ 2 ∷ 536890434 ∷ 1 ∷ 0 ∷ 0 ∷ 0 ∷ 0 ∷ 0 ∷ [])

abbrev null_answer : List ℕ
null_answer = words (last 24 ∷ 7 ∷ 1 ∷ 0 ∷ 0 ∷ 0 ∷ 0 ∷ [])

abbrev bad_fill : List ℕ
bad_fill = words (last 68 ∷ 9 ∷ 0 ∷ 2 ∷ 100003 ∷ 3 ∷ 3 ∷ 0 ∷ 0 ∷ 0 ∷ 0 ∷ 16 ∷ 1279406129 ∷ 0 ∷ 0 ∷ 1 ∷ 1 ∷ 1627389953 ∷ [])

stream_row : shown (null_call ++ null_answer ++ bad_fill ++ words (last 24 ∷ 9 ∷ 1 ∷ 0 ∷ 0 ∷ 0 ∷ 4 ∷ []) ++ 128 ∷ 0 ∷ 0 ∷ 4 ∷ 0 ∷ [])
    ≡ codes "call 7 lbfs NULL 0\nanswer 7 SUCCESS 0\nunfit 9 GARBAGE_ARGS\nanswer 9 GARBAGE_ARGS 0\nrest 5\n"
unfolding record_of digits front_form direction_form call_form auth_form u32_form opaque_read count_form bytes_form stat_form accept_stat_form place_form
stream_row = refl

-- RECALL of file 2, and an answer to a GETHASH
recall_row : shown (words (last 60 ∷ 1 ∷ 0 ∷ 2 ∷ 536890435 ∷ 1 ∷ 1 ∷ 0 ∷ 0 ∷ 0 ∷ 0 ∷ 16 ∷ 1279406129 ∷ 0 ∷ 0 ∷ 2 ∷ []) ++ words (last 56 ∷ 1 ∷ 1 ∷ 0 ∷ 0 ∷ 0 ∷ 0 ∷ 0 ∷ 0 ∷ 1 ∷ 60000 ∷ 0 ∷ 0 ∷ 0 ∷ 1 ∷ []))
    ≡ codes "call 1 back RECALL 20\nanswer 1 SUCCESS 32\n"
unfolding record_of digits front_form direction_form call_form auth_form u32_form opaque_read opaque_spell count_form bytes_form stat_form accept_stat_form
recall_row = refl

-- a record in three fragments is one; behind it a header that promises 131,073 bytes
limit_row : shown (words (4 ∷ 7 ∷ 4 ∷ 0 ∷ last 32 ∷ 2 ∷ 536890434 ∷ 1 ∷ 0 ∷ 0 ∷ 0 ∷ 0 ∷ 0 ∷ last 131073 ∷ 0 ∷ [])) ≡ codes "call 7 lbfs NULL 0\nlimit\n"
unfolding record_of digits front_form direction_form call_form auth_form u32_form opaque_read count_form bytes_form
limit_row = refl

-- ---- calls

-- GETHASH of a handle of four bytes: with its length, and 12 behind it
gethash_row : record_text (words (8 ∷ 0 ∷ 2 ∷ 536890434 ∷ 1 ∷ 2 ∷ 0 ∷ 0 ∷ 0 ∷ 0 ∷ 4 ∷ 1279406129 ∷ 0 ∷ 5 ∷ 100 ∷ [])) ≡ codes "call 8 lbfs GETHASH 20\n"
unfolding digits front_form direction_form call_form auth_form u32_form u64_form opaque_read opaque_spell count_form bytes_form range_form
gethash_row = refl

-- another version of RPC
rpc_row : record_text (words (7 ∷ 0 ∷ 3 ∷ [])) ≡ codes "unfit 7 RPC_MISMATCH\n"
unfolding digits front_form direction_form u32_form
rpc_row = refl

program_row : record_text (words (7 ∷ 0 ∷ 2 ∷ 5 ∷ 9 ∷ 99 ∷ 0 ∷ 0 ∷ 0 ∷ 0 ∷ [])) ≡ codes "unfit 7 PROG_UNAVAIL\n"
unfolding digits front_form direction_form call_form auth_form u32_form opaque_read count_form bytes_form
program_row = refl

version_row : record_text (words (7 ∷ 0 ∷ 2 ∷ 100003 ∷ 2 ∷ 99 ∷ 0 ∷ 0 ∷ 0 ∷ 0 ∷ [])) ≡ codes "unfit 7 PROG_MISMATCH\n"
unfolding digits front_form direction_form call_form auth_form u32_form opaque_read count_form bytes_form
version_row = refl

procedure_row : record_text (words (7 ∷ 0 ∷ 2 ∷ 100003 ∷ 3 ∷ 99 ∷ 0 ∷ 0 ∷ 0 ∷ 0 ∷ [])) ≡ codes "unfit 7 PROC_UNAVAIL\n"
unfolding digits front_form direction_form call_form auth_form u32_form opaque_read count_form bytes_form
procedure_row = refl

-- a word behind the arguments
garbage_row : record_text (words (7 ∷ 0 ∷ 2 ∷ 100003 ∷ 3 ∷ 0 ∷ 0 ∷ 0 ∷ 0 ∷ 0 ∷ 1 ∷ [])) ≡ codes "unfit 7 GARBAGE_ARGS\n"
unfolding digits front_form direction_form call_form auth_form u32_form opaque_read count_form bytes_form
garbage_row = refl

-- ---- no messages

direction_row : record_text (words (7 ∷ 2 ∷ [])) ≡ codes "bad 4\n"
unfolding digits front_form direction_form u32_form
direction_row = refl

-- an authentication item of 401 bytes
auth_row : record_text (words (7 ∷ 0 ∷ 2 ∷ 100003 ∷ 3 ∷ 0 ∷ 0 ∷ 401 ∷ []) ++ replicate 412 0) ≡ codes "bad 28\n"
unfolding digits front_form direction_form call_form auth_form u32_form opaque_read count_form bytes_form
auth_row = refl

-- ---- answers

-- a verifier of four bytes, and a result of three words
answer_row : record_text (words (9 ∷ 1 ∷ 0 ∷ 1 ∷ 4 ∷ 5 ∷ 0 ∷ 6 ∷ 7 ∷ 8 ∷ [])) ≡ codes "answer 9 SUCCESS 12\n"
unfolding digits front_form direction_form auth_form u32_form opaque_read count_form bytes_form stat_form accept_stat_form
answer_row = refl

-- the versions that are served are not looked at
mismatch_row : record_text (words (9 ∷ 1 ∷ 0 ∷ 0 ∷ 0 ∷ 2 ∷ 3 ∷ 3 ∷ [])) ≡ codes "answer 9 PROG_MISMATCH 8\n"
unfolding digits front_form direction_form auth_form u32_form opaque_read count_form bytes_form stat_form accept_stat_form
mismatch_row = refl

no_versions_row : record_text (words (9 ∷ 1 ∷ 0 ∷ 0 ∷ 0 ∷ 2 ∷ [])) ≡ codes "answer 9 PROG_MISMATCH 0\n"
unfolding digits front_form direction_form auth_form u32_form opaque_read count_form bytes_form stat_form accept_stat_form
no_versions_row = refl

denied_row : record_text (words (9 ∷ 1 ∷ 1 ∷ 1 ∷ 5 ∷ [])) ≡ codes "answer 9 AUTH_ERROR 4\n"
unfolding digits front_form direction_form u32_form stat_form reject_stat_form
denied_row = refl

-- an unknown reply_stat, accept_stat and reject_stat
reply_stat_row : record_text (words (9 ∷ 1 ∷ 2 ∷ [])) ≡ codes "bad 8\n"
unfolding digits front_form direction_form u32_form stat_form
reply_stat_row = refl

accept_stat_row : record_text (words (9 ∷ 1 ∷ 0 ∷ 0 ∷ 0 ∷ 6 ∷ [])) ≡ codes "bad 20\n"
unfolding digits front_form direction_form auth_form u32_form opaque_read count_form bytes_form stat_form accept_stat_form
accept_stat_row = refl

reject_stat_row : record_text (words (9 ∷ 1 ∷ 1 ∷ 2 ∷ [])) ≡ codes "bad 12\n"
unfolding digits front_form direction_form u32_form stat_form reject_stat_form
reject_stat_row = refl
