-- Worked examples, in words of four bytes.
use Rattle.std.specs.Prelude.{◌≡◌, ℕ, List, [], ◌∷◌, ◌++◌, true, false, Some, None, Ok, Err, replicate, refl}
use Rattle.std.specs.Int.{w32, to_be_bytes}
use Rattle.std.specs.List.{flat_map}
use Rattle.xdr_codec.specs.declared.fault.Fault.TheVariants.{Short, TooLong, Trailing, BadValue}
use Rattle.xdr_codec.specs.declared.status.Status.TheVariants.{Stale, HashNotFound, Conflict}
use Rattle.xdr_codec.specs.declared.answer.Answer.TheVariants.{Done, Failed}
use Rattle.xdr_codec.specs.declared.attr.Kind.TheVariants.{File, Directory}
use Rattle.xdr_codec.specs.declared.attr.Attr.{Attr}
use Rattle.xdr_codec.specs.Format.{whole}
use Rattle.xdr_codec.specs.Xdr.{u32_form, u64_form, bool_form, count_form, opaque_spell, opaque_read, bytes_form, fixed_form}
use Rattle.xdr_codec.specs.Attr.{attr_form, kind_form, time_form}
use Rattle.xdr_codec.specs.Handle.{handle_bytes}
use Rattle.xdr_codec.specs.Answers.{outcome_form}
use Rattle.hash_calls.specs.Calls.{lease_on_form, leased_form, range_form, pair_form, hashes_form, new_temp_form, temp_piece_form, cond_piece_form, commit_form, committed_form, look_on_form, entry_form, looked_form}
use Rattle.hash_calls.specs.Lb.{args_form, answer_of, proc_in, lb_spell}
use Rattle.hash_calls.specs.Back as back
use Rattle.hash_calls.specs.declared.message.LbProc.{LbProc}
use Rattle.hash_calls.specs.declared.message.LbProc.TheVariants as proc
use Rattle.hash_calls.specs.declared.message.LbIn.{LbIn}
use Rattle.hash_calls.specs.declared.message.Lb.TheVariants.{GetLease, GetLeaseAnswer, GetHash, GetHashAnswer, MkTmpFile, MkTmpFileAnswer, TmpWrite, CondWrite, CondWriteAnswer, CommitTmp, CommitTmpAnswer, LookLease, LookLeaseAnswer}
use Rattle.hash_calls.specs.declared.message.BackProc.TheVariants as back_proc
use Rattle.hash_calls.specs.declared.message.Back.TheVariants.{Recall, RecallAnswer}

abbrev words : List ℕ → List ℕ
words ws = flat_map (to_be_bytes w32) ws

-- in the first version of LBFS, and in a later one
abbrev one : LbProc → LbIn
one p = record { lbfs = 1; procedure = p }

abbrev later : (lbfs : ℕ) → LbProc → LbIn
later v p = record { lbfs = v; procedure = p }

-- ---- GETLEASE

lease_row : whole (args_form (one proc.GetLease)) (words (16 ∷ 1279406129 ∷ 0 ∷ 0 ∷ 2 ∷ [])) ≡ Ok (GetLease (record { lbfs = 1; handle = handle_bytes 2 }))
unfolding lease_on_form opaque_read count_form bytes_form u32_form
lease_row = refl

-- a file of 5 bytes, its numbers all different where they can be
abbrev attr : Attr
attr = record { kind = File; mode = 420; nlink = 1; uid = 1001; gid = 1002; size = 5; used = 6; rdev_major = 3; rdev_minor = 4; fsid = 1279411795; fileid = 2; atime = record { seconds = 7; nanoseconds = 8 }; mtime = record { seconds = 9; nanoseconds = 10 }; ctime = record { seconds = 11; nanoseconds = 12 } }

-- version 7, and a lease of a minute
leased_row : lb_spell (GetLeaseAnswer (Done (record { attr = attr; version = 7; term = 60000 }))) ≡ words (0 ∷ 1 ∷ 420 ∷ 1 ∷ 1001 ∷ 1002 ∷ 0 ∷ 5 ∷ 0 ∷ 6 ∷ 3 ∷ 4 ∷ 0 ∷ 1279411795 ∷ 0 ∷ 2 ∷ 7 ∷ 8 ∷ 9 ∷ 10 ∷ 11 ∷ 12 ∷ 0 ∷ 7 ∷ 60000 ∷ [])
unfolding outcome_form leased_form attr_form kind_form time_form u32_form u64_form
leased_row = refl

-- ---- GETHASH

-- the chunks that meet 100 bytes from 5 on, of the file "LB01"
range_row : lb_spell (GetHash (record { lbfs = 1; handle = 76 ∷ 66 ∷ 48 ∷ 49 ∷ []; offset = 5; count = 100 })) ≡ words (4 ∷ 1279406129 ∷ 0 ∷ 5 ∷ 100 ∷ [])
unfolding range_form opaque_spell u32_form u64_form
range_row = refl

-- an empty file of version 1, and a lease of a minute
empty_row : whole (answer_of (one proc.GetHash)) (words (0 ∷ 0 ∷ 1 ∷ 60000 ∷ 0 ∷ 0 ∷ 0 ∷ 1 ∷ [])) ≡ Ok (GetHashAnswer (Done (record { version = 1; term = 60000; size = 0; pairs = []; eof = true })))
unfolding outcome_form hashes_form bool_form count_form u32_form u64_form
empty_row = refl

-- one chunk of 2,048 bytes, and more behind it
chunk_row : whole (answer_of (one proc.GetHash)) (words (0 ∷ 0 ∷ 1 ∷ 0 ∷ 0 ∷ 9000 ∷ 1 ∷ []) ++ replicate 20 171 ++ words (2048 ∷ 0 ∷ [])) ≡ Ok (GetHashAnswer (Done (record { version = 1; term = 0; size = 9000; pairs = record { digest = replicate 20 171; size = 2048 } ∷ []; eof = false })))
unfolding outcome_form hashes_form pair_form fixed_form bytes_form bool_form count_form u32_form u64_form
chunk_row = refl

-- the same chunk from version 3 on: its digest is SHA-256's
long_chunk_row : whole (answer_of (later 3 proc.GetHash)) (words (0 ∷ 0 ∷ 1 ∷ 0 ∷ 0 ∷ 9000 ∷ 1 ∷ []) ++ replicate 32 171 ++ words (2048 ∷ 0 ∷ [])) ≡ Ok (GetHashAnswer (Done (record { version = 1; term = 0; size = 9000; pairs = record { digest = replicate 32 171; size = 2048 } ∷ []; eof = false })))
unfolding outcome_form hashes_form pair_form fixed_form bytes_form bool_form count_form u32_form u64_form
long_chunk_row = refl

-- a version doesn't take a digest of the other's length: what stands behind twelve bytes too many is no truth value, and twelve too few are wanting
long_digest_row : whole (answer_of (later 2 proc.GetHash)) (words (0 ∷ 0 ∷ 1 ∷ 0 ∷ 0 ∷ 9000 ∷ 1 ∷ []) ++ replicate 32 0 ++ words (2048 ∷ 0 ∷ [])) ≡ Err (Trailing 56)
unfolding outcome_form hashes_form pair_form fixed_form bytes_form bool_form count_form u32_form u64_form
long_digest_row = refl

short_digest_row : whole (answer_of (later 3 proc.GetHash)) (words (0 ∷ 0 ∷ 1 ∷ 0 ∷ 0 ∷ 9000 ∷ 1 ∷ []) ++ replicate 20 171 ++ words (2048 ∷ 0 ∷ [])) ≡ Err (Short 28)
unfolding outcome_form hashes_form pair_form fixed_form bytes_form bool_form count_form u32_form u64_form
short_digest_row = refl

-- 1,025 chunks are one too many
chunks_row : whole (answer_of (one proc.GetHash)) (words (0 ∷ 0 ∷ 1 ∷ 0 ∷ 0 ∷ 0 ∷ 1025 ∷ [])) ≡ Err (TooLong 24 1025 1024)
unfolding outcome_form hashes_form bool_form count_form u32_form u64_form
chunks_row = refl

-- a failure answer is the status alone
stale_row : whole (answer_of (one proc.GetHash)) (words (70 ∷ [])) ≡ Ok (GetHashAnswer (Failed Stale tt))
unfolding outcome_form u32_form
stale_row = refl

-- ---- MKTMPFILE

new_temp_row : whole (args_form (one proc.MkTmpFile)) (words (3 ∷ 16 ∷ 1279406129 ∷ 0 ∷ 0 ∷ 2 ∷ [])) ≡ Ok (MkTmpFile (record { lbfs = 1; fd = 3; handle = handle_bytes 2 }))
unfolding new_temp_form opaque_read count_form bytes_form u32_form
new_temp_row = refl

done_row : whole (answer_of (one proc.MkTmpFile)) (words (0 ∷ [])) ≡ Ok (MkTmpFileAnswer (Done tt))
unfolding outcome_form u32_form
done_row = refl

-- nothing stands behind the status of a failure
behind_row : whole (answer_of (one proc.MkTmpFile)) (words (20002 ∷ 0 ∷ [])) ≡ Err (Trailing 4)
unfolding outcome_form u32_form
behind_row = refl

-- ---- TMPWRITE

-- "hello", from 2 ^ 32 + 5 on
temp_piece_row : lb_spell (TmpWrite (record { lbfs = 1; fd = 3; offset = 4294967301; bytes = 104 ∷ 101 ∷ 108 ∷ 108 ∷ 111 ∷ [] })) ≡ words (3 ∷ 1 ∷ 5 ∷ 5 ∷ 1751477356 ∷ 1862270976 ∷ [])
unfolding temp_piece_form opaque_spell u32_form u64_form
temp_piece_row = refl

-- 65,537 bytes are one too many
bytes_row : whole (args_form (one proc.TmpWrite)) (words (3 ∷ 0 ∷ 0 ∷ 65537 ∷ [])) ≡ Err (TooLong 12 65537 65536)
unfolding temp_piece_form opaque_read count_form bytes_form u32_form u64_form
bytes_row = refl

-- ---- CONDWRITE

-- 2,050 bytes from 2,048 on
cond_piece_row : whole (args_form (one proc.CondWrite)) (words (3 ∷ 0 ∷ 2048 ∷ 2050 ∷ []) ++ replicate 20 171) ≡ Ok (CondWrite (record { lbfs = 1; fd = 3; offset = 2048; count = 2050; digest = replicate 20 171 }))
unfolding cond_piece_form fixed_form bytes_form u32_form u64_form
cond_piece_row = refl

-- the same from version 3 on
long_piece_row : whole (args_form (later 3 proc.CondWrite)) (words (3 ∷ 0 ∷ 2048 ∷ 2050 ∷ []) ++ replicate 32 171) ≡ Ok (CondWrite (record { lbfs = 3; fd = 3; offset = 2048; count = 2050; digest = replicate 32 171 }))
unfolding cond_piece_form fixed_form bytes_form u32_form u64_form
long_piece_row = refl

-- before it there are twelve bytes too many, and from then on twenty are too few
long_name_row : whole (args_form (later 2 proc.CondWrite)) (words (3 ∷ 0 ∷ 2048 ∷ 2050 ∷ []) ++ replicate 32 171) ≡ Err (Trailing 36)
unfolding cond_piece_form fixed_form bytes_form u32_form u64_form
long_name_row = refl

short_name_row : whole (args_form (later 3 proc.CondWrite)) (words (3 ∷ 0 ∷ 2048 ∷ 2050 ∷ []) ++ replicate 20 171) ≡ Err (Short 16)
unfolding cond_piece_form fixed_form bytes_form u32_form u64_form
short_name_row = refl

not_found_row : whole (answer_of (one proc.CondWrite)) (words (20001 ∷ [])) ≡ Ok (CondWriteAnswer (Failed HashNotFound tt))
unfolding outcome_form u32_form
not_found_row = refl

-- 71 is no status
status_row : whole (answer_of (one proc.CondWrite)) (words (71 ∷ [])) ≡ Err (BadValue 0 71)
unfolding outcome_form u32_form
status_row = refl

-- ---- COMMITTMP

commit_row : whole (args_form (one proc.CommitTmp)) (words (3 ∷ 16 ∷ 1279406129 ∷ 0 ∷ 0 ∷ 2 ∷ 0 ∷ 4098 ∷ [])) ≡ Ok (CommitTmp (record { lbfs = 1; fd = 3; handle = handle_bytes 2; size = 4098; base = None }))
unfolding commit_form opaque_read count_form bytes_form u32_form u64_form
commit_row = refl

-- from version 2 on it names the version that is to be replaced, here 7; in version 1 that is too much, and in version 2 it is wanted
based_row : whole (args_form (later 2 proc.CommitTmp)) (words (3 ∷ 16 ∷ 1279406129 ∷ 0 ∷ 0 ∷ 2 ∷ 0 ∷ 4098 ∷ 0 ∷ 7 ∷ [])) ≡ Ok (CommitTmp (record { lbfs = 2; fd = 3; handle = handle_bytes 2; size = 4098; base = Some 7 }))
unfolding commit_form opaque_read count_form bytes_form u32_form u64_form
based_row = refl

based_spelled_row : lb_spell (CommitTmp (record { lbfs = 2; fd = 3; handle = handle_bytes 2; size = 4098; base = Some 7 })) ≡ words (3 ∷ 16 ∷ 1279406129 ∷ 0 ∷ 0 ∷ 2 ∷ 0 ∷ 4098 ∷ 0 ∷ 7 ∷ [])
unfolding commit_form opaque_spell u32_form u64_form
based_spelled_row = refl

base_too_much_row : whole (args_form (one proc.CommitTmp)) (words (3 ∷ 16 ∷ 1279406129 ∷ 0 ∷ 0 ∷ 2 ∷ 0 ∷ 4098 ∷ 0 ∷ 7 ∷ [])) ≡ Err (Trailing 32)
unfolding commit_form opaque_read count_form bytes_form u32_form u64_form
base_too_much_row = refl

base_wanted_row : whole (args_form (later 2 proc.CommitTmp)) (words (3 ∷ 16 ∷ 1279406129 ∷ 0 ∷ 0 ∷ 2 ∷ 0 ∷ 4098 ∷ [])) ≡ Err (Short 32)
unfolding commit_form opaque_read count_form bytes_form u32_form u64_form
base_wanted_row = refl

-- the file isn't in that version
conflict_row : whole (answer_of (later 2 proc.CommitTmp)) (words (20005 ∷ [])) ≡ Ok (CommitTmpAnswer (Failed Conflict tt))
unfolding outcome_form u32_form
conflict_row = refl

committed_row : lb_spell (CommitTmpAnswer (Done (record { version = 8; term = 59900 }))) ≡ words (0 ∷ 0 ∷ 8 ∷ 59900 ∷ [])
unfolding outcome_form committed_form u32_form u64_form
committed_row = refl

-- ---- LOOKLEASE

-- the first three versions have six procedures beside NULL, and the fourth a seventh
before_row : proc_in 3 7 ≡ None
before_row = refl

since_row : proc_in 4 7 ≡ Some proc.LookLease
since_row = refl

beyond_row : proc_in 4 8 ≡ None
beyond_row = refl

-- "ab" in the root
look_row : whole (args_form (later 4 proc.LookLease)) (words (16 ∷ 1279406129 ∷ 0 ∷ 0 ∷ 1 ∷ 2 ∷ 1633812480 ∷ [])) ≡ Ok (LookLease (record { lbfs = 4; dir = handle_bytes 1; name = 97 ∷ 98 ∷ [] }))
unfolding look_on_form opaque_read count_form bytes_form u32_form
look_row = refl

-- a directory of version 9 has it: it is the directory 3; the lease is of a minute
looked_row : lb_spell (LookLeaseAnswer (Done (record { version = 9; term = 60000; entry = Some (record { handle = handle_bytes 3; kind = Directory }) }))) ≡ words (0 ∷ 0 ∷ 9 ∷ 60000 ∷ 1 ∷ 16 ∷ 1279406129 ∷ 0 ∷ 0 ∷ 3 ∷ 2 ∷ [])
unfolding outcome_form looked_form entry_form kind_form bool_form opaque_spell u32_form u64_form
looked_row = refl

-- it hasn't
absent_row : whole (answer_of (later 4 proc.LookLease)) (words (0 ∷ 0 ∷ 9 ∷ 0 ∷ 0 ∷ [])) ≡ Ok (LookLeaseAnswer (Done (record { version = 9; term = 0; entry = None })))
unfolding outcome_form looked_form bool_form u32_form u64_form
absent_row = refl

-- ---- the callback program

recall_row : whole (back.args_form back_proc.Recall) (words (16 ∷ 1279406129 ∷ 0 ∷ 0 ∷ 2 ∷ [])) ≡ Ok (Recall (handle_bytes 2))
unfolding opaque_read count_form bytes_form u32_form
recall_row = refl

recalled_row : whole (back.answer_of back_proc.Recall) [] ≡ Ok RecallAnswer
recalled_row = refl

-- it has no status
no_status_row : whole (back.answer_of back_proc.Recall) (words (0 ∷ [])) ≡ Err (Trailing 0)
no_status_row = refl
