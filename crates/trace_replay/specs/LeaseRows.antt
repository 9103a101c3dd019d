-- Worked traces with leases, whole: opens that ask nobody, RECALLs, and changes that wait for them.
use Rattle.std.specs.Prelude.{◌≡◌, ℕ, zero, suc, List, [], ◌∷◌, ◌++◌, Result, Ok, Err, codes, map, refl}
use Rattle.std.specs.Fmt.{digits}
use Rattle.hex.specs.Hex.{encode_with, decode_pairs}
use Rattle.sha1.specs.Sha1.{sha1, digest_bytes, hash_after, compress, rounds, schedule, first_words}
use Rattle.chunk_cut.specs.Search.{closed_ends, next_end}
use Rattle.chunk_index.specs.Index.{key_of}
use Rattle.client_cache.specs.Cache.{fronted}
use Rattle.transfer_rules.specs.Limits.{calls_most}
use Rattle.xdr_codec.specs.Answers.{outcome_form}
use Rattle.xdr_codec.specs.Attr.{time_form, kind_form, attr_form}
use Rattle.xdr_codec.specs.Xdr.{u32_form, u64_form, bool_form, bytes_form, fixed_form, count_form, opaque_spell, opaque_read}
use Rattle.hash_calls.specs.Calls.{lease_on_form, leased_form, hashes_form, pair_form, new_temp_form, temp_piece_form, cond_piece_form, commit_form, committed_form}
use Rattle.hash_calls.specs.Calls.{range_form as hash_range_form}
use Rattle.nfs3_calls.specs.Calls.{piece_form, place_form, wcc_form, before_form}
use Rattle.nfs3_calls.specs.Calls.{range_form}
use Rattle.rpc_record.specs.Records.{record_of}
use Rattle.rpc_record.specs.Header.{direction_form, front_form, auth_form, call_form, versions_form, accept_form, denial_form, reply_form}
use Rattle.register_model.specs.Text.{history_text}
use Rattle.trace_replay.specs.Timed.{accepted}
use Rattle.trace_replay.specs.Rows.{text_of, header_of}

-- a RECALL between a fetch's GETHASH and its READ: the open succeeds, and the next one asks again
pub recalled_in_a_fetch : text_of (accepted (codes "lbfs-trace 1\nterm 60000\ndrift 100\nclients 2\nfile a t:a\njoin 1 0 0\njoin 2 0 0\ndo 2 0 open #2\npass 2 3 0 0\ndo 2 0 write #2 0 t:b\ndo 1 0 open #2\nup 1 all 0\ndo 2 0 close #2\npass 2 9 0 0\ndown 1 all 0\nup 1 all 0\ndown 1 all 0\nsettle 0\npass 2 1 0 0\ndo 1 0 abandon #2\ndo 1 0 open #2\npass 1 5 0 0\n"))
    ≡ codes "lbfs-history 1\nop 1 client 2 open file 2 begin 5 end 9 point 6 Opened 1 86f7e437faa5a7fce15d1ddcb9eaeaea377667b8 cond 0 tmp 0 read 1 data 1\nop 2 client 2 write file 2 begin 10 end 10 point - Done cond 0 tmp 0 read 0 data 0\nop 3 client 1 open file 2 begin 11 end 25 point 12 Opened 1 86f7e437faa5a7fce15d1ddcb9eaeaea377667b8 cond 0 tmp 0 read 1 data 1\nop 4 client 2 close file 2 begin 13 end 27 point 26 Closed 2 1 e9d71f5ee7c92d6dc9e92ffdad17b8bd49418f98 cond 1 tmp 1 read 0 data 1\nop 5 client 1 abandon file 2 begin 28 end 28 point - Done cond 0 tmp 0 read 0 data 0\nop 6 client 1 open file 2 begin 29 end 35 point 32 Opened 1 e9d71f5ee7c92d6dc9e92ffdad17b8bd49418f98 cond 0 tmp 0 read 1 data 1\nend ops 6 steps 35\n"
unfolding calls_most fronted key_of lease_on_form leased_form record_of digits encode_with decode_pairs sha1 digest_bytes hash_after compress rounds schedule first_words closed_ends next_end outcome_form time_form kind_form attr_form u32_form u64_form bool_form bytes_form fixed_form count_form opaque_spell opaque_read hashes_form pair_form hash_range_form piece_form range_form new_temp_form temp_piece_form cond_piece_form commit_form committed_form direction_form front_form auth_form call_form versions_form accept_form denial_form reply_form
recalled_in_a_fetch = refl

-- an open under a lease asks nobody, until the drift before the lease's end
pub opened_at_once : text_of (accepted (codes "lbfs-trace 1\nterm 1000\ndrift 100\nclients 1\nfile a t:a\njoin 1 0 0\ndo 1 0 open #2\npass 1 3 0 0\ndo 1 0 abandon #2\nup 1 all 899\ndo 1 899 open #2\ndo 1 899 abandon #2\ndo 1 900 open #2\npass 1 2 900 900\n"))
    ≡ codes "lbfs-history 1\nop 1 client 1 open file 2 begin 3 end 7 point 4 Opened 1 86f7e437faa5a7fce15d1ddcb9eaeaea377667b8 cond 0 tmp 0 read 1 data 1\nop 2 client 1 abandon file 2 begin 8 end 8 point - Done cond 0 tmp 0 read 0 data 0\nop 3 client 1 open file 2 begin 9 end 9 point 9 Opened 1 86f7e437faa5a7fce15d1ddcb9eaeaea377667b8 cond 0 tmp 0 read 0 data 0\nop 4 client 1 abandon file 2 begin 10 end 10 point - Done cond 0 tmp 0 read 0 data 0\nop 5 client 1 open file 2 begin 11 end 13 point 12 Opened 1 86f7e437faa5a7fce15d1ddcb9eaeaea377667b8 cond 0 tmp 0 read 0 data 0\nend ops 5 steps 13\n"
unfolding calls_most fronted key_of lease_on_form leased_form record_of digits encode_with decode_pairs sha1 digest_bytes hash_after compress rounds schedule first_words closed_ends next_end outcome_form time_form kind_form attr_form u32_form u64_form bool_form bytes_form fixed_form count_form opaque_spell opaque_read hashes_form pair_form hash_range_form piece_form range_form new_temp_form temp_piece_form cond_piece_form commit_form committed_form direction_form front_form auth_form call_form versions_form accept_form denial_form reply_form
opened_at_once = refl

-- a remove recalls two leases, and waits for the end of the one that isn't given up
pub removed_by_then : text_of (accepted (codes "lbfs-trace 1\nterm 1000\ndrift 100\nclients 3\nfile a t:a\njoin 1 0 0\njoin 2 0 0\njoin 3 0 0\ndo 1 0 open #2\npass 1 3 0 0\ndo 1 0 abandon #2\ndo 2 0 open #2\npass 2 3 0 0\ndo 2 0 abandon #2\ndo 3 0 remove a\npass 3 1 0 0\npass 1 2 0 0\ncut 2 0\ndo 2 899 open #2\ndo 2 899 abandon #2\nsettle 999\nsettle 1000\npass 3 1 1000 1000\ndo 1 1000 open #2\npass 1 2 1000 1000\n"))
    ≡ codes "lbfs-history 1\nop 1 client 1 open file 2 begin 7 end 11 point 8 Opened 1 86f7e437faa5a7fce15d1ddcb9eaeaea377667b8 cond 0 tmp 0 read 1 data 1\nop 2 client 1 abandon file 2 begin 12 end 12 point - Done cond 0 tmp 0 read 0 data 0\nop 3 client 2 open file 2 begin 13 end 17 point 14 Opened 1 86f7e437faa5a7fce15d1ddcb9eaeaea377667b8 cond 0 tmp 0 read 1 data 1\nop 4 client 2 abandon file 2 begin 18 end 18 point - Done cond 0 tmp 0 read 0 data 0\nop 5 client 3 remove file 2 begin 19 end 28 point 27 Done cond 0 tmp 0 read 0 data 0\nop 6 client 2 open file 2 begin 24 end 24 point 24 Opened 1 86f7e437faa5a7fce15d1ddcb9eaeaea377667b8 cond 0 tmp 0 read 0 data 0\nop 7 client 2 abandon file 2 begin 25 end 25 point - Done cond 0 tmp 0 read 0 data 0\nop 8 client 1 open file 2 begin 29 end 31 point 30 Refused 70 cond 0 tmp 0 read 0 data 0\nend ops 8 steps 31\n"
unfolding calls_most fronted key_of lease_on_form leased_form record_of digits encode_with decode_pairs sha1 digest_bytes hash_after compress rounds schedule first_words closed_ends next_end outcome_form time_form kind_form attr_form u32_form u64_form bool_form bytes_form fixed_form count_form opaque_spell opaque_read hashes_form pair_form hash_range_form piece_form range_form new_temp_form temp_piece_form cond_piece_form commit_form committed_form direction_form front_form auth_form call_form versions_form accept_form denial_form reply_form place_form wcc_form before_form
removed_by_then = refl
