-- Worked traces whose client begins with the items of a cache file.
use Rattle.std.specs.Prelude.{◌≡◌, List, ℕ, [], ◌∷◌, ◌++◌, codes, map, refl}
use Rattle.std.specs.Fmt.{digits}
use Rattle.hex.specs.Hex.{encode_with, decode_pairs}
use Rattle.sha1.specs.Sha1.{sha1, digest_bytes, hash_after, compress, rounds, schedule, first_words}
use Rattle.chunk_cut.specs.Search.{closed_ends, next_end}
use Rattle.chunk_index.specs.Index.{key_of}
use Rattle.client_cache.specs.Cache.{fronted}
use Rattle.transfer_rules.specs.Limits.{calls_most}
use Rattle.xdr_codec.specs.Answers.{outcome_form}
use Rattle.xdr_codec.specs.Attr.{time_form, kind_form, attr_form}
use Rattle.xdr_codec.specs.Xdr.{u32_form, u64_form, bool_form, bytes_form, fixed_form, count_form, opaque_spell, opaque_read}
use Rattle.hash_calls.specs.Calls.{lease_on_form, leased_form, hashes_form, pair_form, new_temp_form, temp_piece_form, cond_piece_form, commit_form, committed_form}
use Rattle.hash_calls.specs.Calls.{range_form as hash_range_form}
use Rattle.nfs3_calls.specs.Calls.{piece_form}
use Rattle.nfs3_calls.specs.Calls.{range_form}
use Rattle.rpc_record.specs.Records.{record_of}
use Rattle.rpc_record.specs.Header.{direction_form, front_form, auth_form, call_form, versions_form, accept_form, denial_form, reply_form}
use Rattle.trace_replay.specs.declared.stage.Stage.TheVariants as stage
use Rattle.trace_replay.specs.Timed.{accepted}
use Rattle.trace_replay.specs.Rows.{header, text_of}

-- the chunk of the file is an item, so it doesn't travel
pub in_the_cache_file : text_of (accepted (header ++ codes "file a t:abc\nwarm 1 x:0000000361626300\njoin 1 0 0\ndo 1 0 open #2\npass 1 4 0 0\n"))
    ≡ (codes "lbfs-history 1\nop 1 client 1 open file 2 begin 3 end 5 point 4 Opened 3 a9993e364706816aba3e25717850c26c9cd0d89d cond 0 tmp 0 read 0 data 0\nend ops 1 steps 5\n")
unfolding calls_most fronted key_of lease_on_form leased_form record_of digits encode_with decode_pairs sha1 digest_bytes hash_after compress rounds schedule first_words closed_ends next_end outcome_form time_form kind_form attr_form u32_form u64_form bool_form bytes_form fixed_form count_form opaque_spell opaque_read hashes_form pair_form hash_range_form piece_form range_form new_temp_form temp_piece_form cond_piece_form commit_form committed_form direction_form front_form auth_form call_form versions_form accept_form denial_form reply_form
in_the_cache_file = refl

-- an item of other bytes is of no use
pub other_bytes : text_of (accepted (header ++ codes "file a t:abc\nwarm 1 x:0000000361626400\njoin 1 0 0\ndo 1 0 open #2\npass 1 4 0 0\n"))
    ≡ (codes "lbfs-history 1\nop 1 client 1 open file 2 begin 3 end 7 point 4 Opened 3 a9993e364706816aba3e25717850c26c9cd0d89d cond 0 tmp 0 read 1 data 3\nend ops 1 steps 7\n")
unfolding calls_most fronted key_of lease_on_form leased_form record_of digits encode_with decode_pairs sha1 digest_bytes hash_after compress rounds schedule first_words closed_ends next_end outcome_form time_form kind_form attr_form u32_form u64_form bool_form bytes_form fixed_form count_form opaque_spell opaque_read hashes_form pair_form hash_range_form piece_form range_form new_temp_form temp_piece_form cond_piece_form commit_form committed_form direction_form front_form auth_form call_form versions_form accept_form denial_form reply_form
other_bytes = refl

-- fill that isn't zero ends the items
pub bad_fill : text_of (accepted (header ++ codes "file a t:abc\nwarm 1 x:0000000361626301\njoin 1 0 0\ndo 1 0 open #2\npass 1 4 0 0\n"))
    ≡ (codes "lbfs-history 1\nop 1 client 1 open file 2 begin 3 end 7 point 4 Opened 3 a9993e364706816aba3e25717850c26c9cd0d89d cond 0 tmp 0 read 1 data 3\nend ops 1 steps 7\n")
unfolding calls_most fronted key_of lease_on_form leased_form record_of digits encode_with decode_pairs sha1 digest_bytes hash_after compress rounds schedule first_words closed_ends next_end outcome_form time_form kind_form attr_form u32_form u64_form bool_form bytes_form fixed_form count_form opaque_spell opaque_read hashes_form pair_form hash_range_form piece_form range_form new_temp_form temp_piece_form cond_piece_form commit_form committed_form direction_form front_form auth_form call_form versions_form accept_form denial_form reply_form
bad_fill = refl

-- what is kept so is no file's: an open of its id asks the server, which has none
pub not_opened : text_of (accepted (header ++ codes "file a t:abc\nwarm 1 x:0000000361626300\njoin 1 0 0\ndo 1 0 open #0\npass 1 4 0 0\n"))
    ≡ (codes "lbfs-history 1\nop 1 client 1 open file 0 begin 3 end 5 point 4 Refused 70 cond 0 tmp 0 read 0 data 0\nend ops 1 steps 5\n")
unfolding calls_most fronted key_of lease_on_form leased_form record_of digits encode_with decode_pairs sha1 digest_bytes hash_after compress rounds schedule first_words closed_ends next_end outcome_form time_form kind_form attr_form u32_form u64_form bool_form bytes_form fixed_form count_form opaque_spell opaque_read hashes_form pair_form hash_range_form piece_form range_form new_temp_form temp_piece_form cond_piece_form commit_form committed_form direction_form front_form auth_form call_form versions_form accept_form denial_form reply_form
not_opened = refl

-- once for a client, before it joins for the first time, of a client that is there, and within the limit of a file
abbrev refusals : List (List ℕ)
refusals = map (λ lines. text_of (accepted (header ++ lines))) (codes "warm 1 -\nwarm 1 -\n" ∷ codes "join 1 0 0\nwarm 1 -\n" ∷ codes "warm 2 -\n" ∷ codes "warm 1 z:67108865\n" ∷ codes "warm 1 -\nfile a -\n" ∷ [])

pub refused_warm : refusals ≡ (codes "refused line 6 grammar\n" ∷ codes "refused line 6 grammar\n" ∷ codes "refused line 5 grammar\n" ∷ codes "refused line 5 limit file\n" ∷ codes "refused line 6 grammar\n" ∷ [])
unfolding calls_most fronted key_of lease_on_form leased_form record_of digits encode_with decode_pairs sha1 digest_bytes hash_after compress rounds schedule first_words closed_ends next_end outcome_form time_form kind_form attr_form u32_form u64_form bool_form bytes_form fixed_form count_form opaque_spell opaque_read hashes_form pair_form hash_range_form piece_form range_form new_temp_form temp_piece_form cond_piece_form commit_form committed_form direction_form front_form auth_form call_form versions_form accept_form denial_form reply_form
refused_warm = refl
