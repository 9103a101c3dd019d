-- Worked traces on names, whole.
use Rattle.std.specs.Prelude.{◌≡◌, [], ◌∷◌, ◌++◌, codes, map, refl}
use Rattle.std.specs.Fmt.{digits}
use Rattle.hex.specs.Hex.{encode_with, decode_pairs}
use Rattle.sha1.specs.Sha1.{sha1, digest_bytes, hash_after, compress, rounds, schedule, first_words}
use Rattle.chunk_cut.specs.Search.{closed_ends, next_end}
use Rattle.chunk_index.specs.Index.{key_of}
use Rattle.client_cache.specs.Cache.{fronted}
use Rattle.transfer_rules.specs.Limits.{calls_most}
use Rattle.xdr_codec.specs.Answers.{outcome_form}
use Rattle.xdr_codec.specs.Attr.{time_form, kind_form, attr_form}
use Rattle.xdr_codec.specs.Xdr.{u32_form, u64_form, bool_form, bytes_form, fixed_form, count_form, opaque_spell, opaque_read}
use Rattle.hash_calls.specs.Calls.{lease_on_form, leased_form, hashes_form, pair_form, new_temp_form, temp_piece_form, cond_piece_form, commit_form, committed_form}
use Rattle.hash_calls.specs.Calls.{range_form as hash_range_form}
use Rattle.nfs3_calls.specs.Calls.{piece_form, place_form, found_form, list_range_form, listing_form, entry_form, new_file_form, made_form, wcc_form, before_form, rename_form, moved_form}
use Rattle.nfs3_calls.specs.Choices.{how_made_form, set_attr_form, set_time_form}
use Rattle.nfs3_calls.specs.Calls.{range_form}
use Rattle.rpc_record.specs.Records.{record_of}
use Rattle.rpc_record.specs.Header.{direction_form, front_form, auth_form, call_form, versions_form, accept_form, denial_form, reply_form}
use Rattle.trace_replay.specs.Timed.{accepted}
use Rattle.trace_replay.specs.Rows.{text_of, header}

-- what a client answers by itself; a listing of the root; a file that is looked at; a name that nothing has
pub looks : text_of (accepted (header ++ codes "file a t:a\ndo 1 0 open #2\ndo 1 0 close #2\njoin 1 0 0\ndo 1 0 open #2\ndo 1 0 open #2\npass 1 3 0 0\ndo 1 0 open #2\ndo 1 0 trunc #2 67108865\ndo 1 0 write #2 0 t:b\ndo 1 0 read #2 0 9\ndo 1 0 list /\npass 1 3 0 0\ndo 1 0 look a\npass 1 3 0 0\ndo 1 0 open zz\npass 1 3 0 0\n"))
    ≡ codes "lbfs-history 1\nop 1 client 1 open file 2 begin 1 end 1 point - NoLink cond 0 tmp 0 read 0 data 0\nop 2 client 1 close file 2 begin 2 end 2 point - NotOpen cond 0 tmp 0 read 0 data 0\nop 3 client 1 open file 2 begin 5 end 10 point 7 Opened 1 86f7e437faa5a7fce15d1ddcb9eaeaea377667b8 cond 0 tmp 0 read 1 data 1\nop 4 client 1 open file 2 begin 6 end 6 point - Busy cond 0 tmp 0 read 0 data 0\nop 5 client 1 open file 2 begin 11 end 11 point - AlreadyOpen cond 0 tmp 0 read 0 data 0\nop 6 client 1 trunc file 2 begin 12 end 12 point - TooBig 67108865 cond 0 tmp 0 read 0 data 0\nop 7 client 1 write file 2 begin 13 end 13 point - Done cond 0 tmp 0 read 0 data 0\nop 8 client 1 read file 2 begin 14 end 14 point - Piece 1 e9d71f5ee7c92d6dc9e92ffdad17b8bd49418f98 cond 0 tmp 0 read 0 data 0\nop 9 client 1 list file 0 begin 15 end 17 point - Names 1 61 cond 0 tmp 0 read 0 data 0\nop 10 client 1 look file 2 begin 18 end 20 point - Seen 2 1 1 1 cond 0 tmp 0 read 0 data 0\nop 11 client 1 open file 0 begin 21 end 23 point - Refused 2 cond 0 tmp 0 read 0 data 0\nend ops 11 steps 23\n"
unfolding calls_most fronted key_of lease_on_form leased_form record_of digits encode_with decode_pairs sha1 digest_bytes hash_after compress rounds schedule first_words closed_ends next_end outcome_form time_form kind_form attr_form u32_form u64_form bool_form bytes_form fixed_form count_form opaque_spell opaque_read hash_range_form hashes_form pair_form new_temp_form temp_piece_form cond_piece_form commit_form committed_form piece_form range_form direction_form front_form auth_form call_form versions_form accept_form denial_form reply_form place_form found_form list_range_form listing_form entry_form
looks = refl

-- a file is made, and its name is taken then; a directory with entries stays; a rename takes a file away, which is gone
pub makes : text_of (accepted (header ++ codes "dir d\nfile d/a t:a\njoin 1 0 0\ndo 1 0 make d/b\npass 1 9 0 0\ndo 1 0 make d/b\npass 1 9 0 0\ndo 1 0 rmdir d\npass 1 9 0 0\ndo 1 0 rename d/a d/b\npass 1 9 0 0\nsettle 0\npass 1 1 0 0\ndo 1 0 list d\npass 1 9 0 0\ndo 1 0 open #4\npass 1 9 0 0\n"))
    ≡ codes "lbfs-history 1\nop 1 client 1 make file 4 begin 3 end 7 point 6 Done cond 0 tmp 0 read 0 data 0\nop 2 client 1 make file 0 begin 8 end 12 point - Refused 17 cond 0 tmp 0 read 0 data 0\nop 3 client 1 rmdir file 0 begin 13 end 15 point - Refused 66 cond 0 tmp 0 read 0 data 0\nop 4 client 1 rename file 4 begin 16 end 23 point 22 Done cond 0 tmp 0 read 0 data 0\nop 5 client 1 list file 0 begin 24 end 28 point - Names 1 62 cond 0 tmp 0 read 0 data 0\nop 6 client 1 open file 4 begin 29 end 31 point 30 Refused 70 cond 0 tmp 0 read 0 data 0\nend ops 6 steps 31\n"
unfolding calls_most fronted key_of lease_on_form leased_form record_of digits encode_with decode_pairs sha1 digest_bytes hash_after compress rounds schedule first_words closed_ends next_end outcome_form time_form kind_form attr_form u32_form u64_form bool_form bytes_form fixed_form count_form opaque_spell opaque_read hash_range_form hashes_form pair_form new_temp_form temp_piece_form cond_piece_form commit_form committed_form piece_form range_form direction_form front_form auth_form call_form versions_form accept_form denial_form reply_form place_form found_form list_range_form listing_form entry_form new_file_form how_made_form set_attr_form set_time_form made_form wcc_form before_form rename_form moved_form
makes = refl

-- where files and directories may stand: the directory is there, and the name is free in it; ids go by all of them
pub opening_paths : map (λ lines. text_of (accepted (header ++ lines))) (codes "dir d\ndir d/e\nfile d/e/a -\nfile a -\ndir b\nfile d/a -\n" ∷ codes "file a -\nfile a -\n" ∷ codes "dir a\nfile a -\n" ∷ codes "dir a\ndir a\n" ∷ codes "file d/a -\n" ∷ codes "file f -\nfile f/a -\n" ∷ codes "dir d/e\n" ∷ codes "join 1 0 0\ndir d\n" ∷ [])
    ≡ codes "lbfs-history 1\nend ops 0 steps 0\n" ∷ codes "refused line 6 grammar\n" ∷ codes "refused line 6 grammar\n" ∷ codes "refused line 6 grammar\n" ∷ codes "refused line 5 grammar\n" ∷ codes "refused line 6 grammar\n" ∷ codes "refused line 5 grammar\n" ∷ codes "refused line 6 grammar\n" ∷ []
unfolding digits
opening_paths = refl
