-- Worked traces, whole: what each run ends in, computed from the definitions.
use Rattle.std.specs.Prelude.{◌≡◌, ℕ, zero, suc, List, [], ◌∷◌, ◌++◌, Result, Ok, Err, codes, map, refl}
use Rattle.std.specs.Fmt.{digits}
use Rattle.hex.specs.Hex.{encode_with, decode_pairs}
use Rattle.sha1.specs.Sha1.{sha1, digest_bytes, hash_after, compress, rounds, schedule, first_words}
use Rattle.chunk_cut.specs.Search.{closed_ends, next_end}
use Rattle.chunk_index.specs.Index.{key_of}
use Rattle.client_cache.specs.Cache.{fronted}
use Rattle.transfer_rules.specs.Limits.{calls_most}
use Rattle.xdr_codec.specs.Answers.{outcome_form}
use Rattle.xdr_codec.specs.Attr.{time_form, kind_form, attr_form}
use Rattle.xdr_codec.specs.Xdr.{u32_form, u64_form, bool_form, bytes_form, fixed_form, count_form, opaque_spell, opaque_read}
use Rattle.hash_calls.specs.Calls.{lease_on_form, leased_form, hashes_form, pair_form, new_temp_form, temp_piece_form, cond_piece_form, commit_form, committed_form}
use Rattle.hash_calls.specs.Calls.{range_form as hash_range_form}
use Rattle.nfs3_calls.specs.Calls.{piece_form}
use Rattle.nfs3_calls.specs.Calls.{range_form}
use Rattle.rpc_record.specs.Records.{record_of}
use Rattle.rpc_record.specs.Header.{direction_form, front_form, auth_form, call_form, versions_form, accept_form, denial_form, reply_form}
use Rattle.register_model.specs.Text.{history_text}
use Rattle.trace_text.specs.Refusals.{refusal_of}
use Rattle.trace_text.specs.declared.refusal.Refusal.TheVariants as refusal
use Rattle.trace_replay.specs.declared.fault.Refused.{Refused}
use Rattle.trace_replay.specs.World.{World, start, history_of}
use Rattle.trace_replay.specs.declared.stage.Stage.TheVariants as stage
use Rattle.trace_replay.specs.declared.turn.Turn.TheVariants as turn
use Rattle.command_text.specs.declared.content.Part.TheVariants.{Zeros}
use Rattle.command_text.specs.declared.path.Spot.{Spot}
use Rattle.trace_text.specs.declared.line.Line.TheVariants as line
use Rattle.trace_text.specs.declared.refusal.Limit.TheVariants as limit
use Rattle.trace_text.specs.declared.refusal.LineFault.TheVariants.{Limit}
use Rattle.trace_replay.specs.Run.{asked}
use Rattle.trace_replay.specs.Timed.{accepted}

-- what is written for a run
abbrev pub text_of : Result World Refused → List ℕ
text_of (Ok w) = history_text (history_of w)
text_of (Err r) = refusal_of (refusal.Line r.line r.fault)

abbrev pub header : List ℕ
header = codes "lbfs-trace 1\nterm 60000\ndrift 100\nclients 1\n"

-- the same where a lease lasts for a millisecond alone: none stands any more once the server's reading has risen
abbrev brief : List ℕ
brief = codes "lbfs-trace 1\nterm 1\ndrift 60000\nclients 1\n"

pub empty_trace : text_of (accepted []) ≡ codes "refused line 1 grammar\n"
unfolding digits
empty_trace = refl

pub header_alone : text_of (accepted header) ≡ (codes "lbfs-history 1\nend ops 0 steps 0\n")
unfolding record_of digits
header_alone = refl

-- one file, one open, all passed
pub one_open : text_of (accepted (header ++ codes "file a t:abc\njoin 1 0 0\ndo 1 0 open #2\npass 1 4 0 0\n"))
    ≡ (codes "lbfs-history 1\nop 1 client 1 open file 2 begin 3 end 7 point 4 Opened 3 a9993e364706816aba3e25717850c26c9cd0d89d cond 0 tmp 0 read 1 data 3\nend ops 1 steps 7\n")
unfolding calls_most fronted key_of lease_on_form leased_form record_of digits encode_with decode_pairs sha1 digest_bytes hash_after compress rounds schedule first_words closed_ends next_end outcome_form time_form kind_form attr_form u32_form u64_form bool_form bytes_form fixed_form count_form opaque_spell opaque_read hashes_form pair_form hash_range_form piece_form range_form new_temp_form temp_piece_form cond_piece_form commit_form committed_form direction_form front_form auth_form call_form versions_form accept_form denial_form reply_form
one_open = refl

-- an open of a file that is not there
pub no_file : text_of (accepted (header ++ codes "file a t:abc\njoin 1 0 0\ndo 1 0 open #9\npass 1 2 0 0\n"))
    ≡ (codes "lbfs-history 1\nop 1 client 1 open file 9 begin 3 end 5 point 4 Refused 70 cond 0 tmp 0 read 0 data 0\nend ops 1 steps 5\n")
unfolding calls_most fronted key_of lease_on_form leased_form record_of digits encode_with decode_pairs sha1 digest_bytes hash_after compress rounds schedule first_words closed_ends next_end outcome_form time_form kind_form attr_form u32_form u64_form bool_form bytes_form fixed_form count_form opaque_spell opaque_read hashes_form pair_form hash_range_form piece_form range_form new_temp_form temp_piece_form cond_piece_form commit_form committed_form direction_form front_form auth_form call_form versions_form accept_form denial_form reply_form
no_file = refl

-- nothing was passed
pub not_passed : text_of (accepted (header ++ codes "file a t:abc\njoin 1 0 0\ndo 1 0 open #9\n"))
    ≡ (codes "lbfs-history 1\nop 1 client 1 open file 9 begin 3 end - point - Running cond 0 tmp 0 read 0 data 0\nend ops 1 steps 3\n")
unfolding record_of digits opaque_spell opaque_read u32_form u64_form count_form bytes_form hash_range_form front_form direction_form auth_form call_form
not_passed = refl

-- the root is a directory
pub root : text_of (accepted (header ++ codes "join 1 0 0\ndo 1 0 open #1\npass 1 2 0 0"))
    ≡ (codes "lbfs-history 1\nop 1 client 1 open file 1 begin 3 end 5 point - Refused 21 cond 0 tmp 0 read 0 data 0\nend ops 1 steps 5\n")
unfolding calls_most fronted key_of lease_on_form leased_form record_of digits encode_with decode_pairs sha1 digest_bytes hash_after compress rounds schedule first_words closed_ends next_end outcome_form time_form kind_form attr_form u32_form u64_form bool_form bytes_form fixed_form count_form opaque_spell opaque_read hashes_form pair_form hash_range_form piece_form range_form new_temp_form temp_piece_form cond_piece_form commit_form committed_form direction_form front_form auth_form call_form versions_form accept_form denial_form reply_form
root = refl

-- each ending of an open that its own client tells, and one that goes on
pub own_endings : text_of (accepted (header ++ codes "file a t:abc\ndo 1 0 open #2\njoin 1 0 0\ndo 1 0 open #9\npass 1 2 0 0\ndo 1 0 open #2\ndo 1 0 open #2\n"))
    ≡ codes "lbfs-history 1\nop 1 client 1 open file 2 begin 1 end 1 point - NoLink cond 0 tmp 0 read 0 data 0\nop 2 client 1 open file 9 begin 4 end 6 point 5 Refused 70 cond 0 tmp 0 read 0 data 0\nop 3 client 1 open file 2 begin 7 end - point - Running cond 0 tmp 0 read 0 data 0\nop 4 client 1 open file 2 begin 8 end 8 point - Busy cond 0 tmp 0 read 0 data 0\nend ops 4 steps 8\n"
unfolding calls_most fronted key_of lease_on_form leased_form record_of digits encode_with decode_pairs sha1 digest_bytes hash_after compress rounds schedule first_words closed_ends next_end outcome_form time_form kind_form attr_form u32_form u64_form bool_form bytes_form fixed_form count_form opaque_spell opaque_read hashes_form pair_form hash_range_form piece_form range_form new_temp_form temp_piece_form cond_piece_form commit_form committed_form direction_form front_form auth_form call_form versions_form accept_form denial_form reply_form
own_endings = refl

-- two files of which one is empty, skipped lines, and an open of a file that is open
pub two_files : text_of (accepted (codes "\n# a trace\n" ++ header ++ codes "file a -\n\nfile b x:6162+z:1\njoin 1 0 0\ndo 1 0 open #3\npass 1 3 0 0\ndo 1 0 open #3\n#\ndo 1 0 open #2\npass 1 9 0 0\npass 1 9 0 0"))
    ≡ codes "lbfs-history 1\nop 1 client 1 open file 3 begin 3 end 7 point 4 Opened 3 97d6f5d51e5815cdf64cc9935b8d73c50bd906a2 cond 0 tmp 0 read 1 data 3\nop 2 client 1 open file 3 begin 8 end 8 point - AlreadyOpen cond 0 tmp 0 read 0 data 0\nop 3 client 1 open file 2 begin 9 end 11 point 10 Opened 0 da39a3ee5e6b4b0d3255bfef95601890afd80709 cond 0 tmp 0 read 0 data 0\nend ops 3 steps 11\n"
unfolding calls_most fronted key_of lease_on_form leased_form record_of digits encode_with decode_pairs sha1 digest_bytes hash_after compress rounds schedule first_words closed_ends next_end outcome_form time_form kind_form attr_form u32_form u64_form bool_form bytes_form fixed_form count_form opaque_spell opaque_read hashes_form pair_form hash_range_form piece_form range_form new_temp_form temp_piece_form cond_piece_form commit_form committed_form direction_form front_form auth_form call_form versions_form accept_form denial_form reply_form
two_files = refl

-- an empty file, opened and closed: its new content is empty too, and has a version of its own
pub empty_closed : text_of (accepted (header ++ codes "file e -\njoin 1 0 0\ndo 1 0 open #2\npass 1 2 0 0\ndo 1 0 close #2\npass 1 3 0 0\nsettle 0\npass 1 1 0 0\n"))
    ≡ codes "lbfs-history 1\nop 1 client 1 open file 2 begin 3 end 5 point 4 Opened 0 da39a3ee5e6b4b0d3255bfef95601890afd80709 cond 0 tmp 0 read 0 data 0\nop 2 client 1 close file 2 begin 6 end 11 point 10 Closed 2 0 da39a3ee5e6b4b0d3255bfef95601890afd80709 cond 0 tmp 0 read 0 data 0\nend ops 2 steps 11\n"
unfolding calls_most fronted key_of lease_on_form leased_form record_of digits encode_with decode_pairs sha1 digest_bytes hash_after compress rounds schedule first_words closed_ends next_end outcome_form time_form kind_form attr_form u32_form u64_form bool_form bytes_form fixed_form count_form opaque_spell opaque_read hashes_form pair_form hash_range_form piece_form range_form new_temp_form temp_piece_form cond_piece_form commit_form committed_form direction_form front_form auth_form call_form versions_form accept_form denial_form reply_form
empty_closed = refl

-- a local content is written past its end, cut, filled, and read past its end
pub local_changes : text_of (accepted (header ++ codes "file a t:abc\njoin 1 0 0\ndo 1 0 open #2\npass 1 4 0 0\ndo 1 0 write #2 5 t:xy\ndo 1 0 read #2 0 9\ndo 1 0 trunc #2 4\ndo 1 0 trunc #2 6\ndo 1 0 read #2 2 100\n"))
    ≡ codes "lbfs-history 1\nop 1 client 1 open file 2 begin 3 end 7 point 4 Opened 3 a9993e364706816aba3e25717850c26c9cd0d89d cond 0 tmp 0 read 1 data 3\nop 2 client 1 write file 2 begin 8 end 8 point - Done cond 0 tmp 0 read 0 data 0\nop 3 client 1 read file 2 begin 9 end 9 point - Piece 7 7b66c0a0c321b03c3e4f79dd040a70c67f37f431 cond 0 tmp 0 read 0 data 0\nop 4 client 1 trunc file 2 begin 10 end 10 point - Done cond 0 tmp 0 read 0 data 0\nop 5 client 1 trunc file 2 begin 11 end 11 point - Done cond 0 tmp 0 read 0 data 0\nop 6 client 1 read file 2 begin 12 end 12 point - Piece 4 3aa850148c2ee2335f0993b5d13a6686b0128496 cond 0 tmp 0 read 0 data 0\nend ops 6 steps 12\n"
unfolding calls_most fronted key_of lease_on_form leased_form record_of digits encode_with decode_pairs sha1 digest_bytes hash_after compress rounds schedule first_words closed_ends next_end outcome_form time_form kind_form attr_form u32_form u64_form bool_form bytes_form fixed_form count_form opaque_spell opaque_read hashes_form pair_form hash_range_form piece_form range_form new_temp_form temp_piece_form cond_piece_form commit_form committed_form direction_form front_form auth_form call_form versions_form accept_form denial_form reply_form
local_changes = refl

-- a file that was changed is closed, and opened again with its new content
pub closed_and_reopened : text_of (accepted (brief ++ codes "file a t:abc\njoin 1 0 1\ndo 1 0 open #2\npass 1 4 2 0\ndo 1 0 write #2 5 t:xy\ndo 1 0 close #2\npass 1 9 3 0\nsettle 4\npass 1 1 5 0\ndo 1 0 open #2\npass 1 9 6 0\n"))
    ≡ codes "lbfs-history 1\nop 1 client 1 open file 2 begin 3 end 7 point 4 Opened 3 a9993e364706816aba3e25717850c26c9cd0d89d cond 0 tmp 0 read 1 data 3\nop 2 client 1 write file 2 begin 8 end 8 point - Done cond 0 tmp 0 read 0 data 0\nop 3 client 1 close file 2 begin 9 end 18 point 17 Closed 2 7 7b66c0a0c321b03c3e4f79dd040a70c67f37f431 cond 1 tmp 1 read 0 data 7\nop 4 client 1 open file 2 begin 19 end 21 point 20 Opened 7 7b66c0a0c321b03c3e4f79dd040a70c67f37f431 cond 0 tmp 0 read 0 data 0\nend ops 4 steps 21\n"
unfolding calls_most fronted key_of lease_on_form leased_form record_of digits encode_with decode_pairs sha1 digest_bytes hash_after compress rounds schedule first_words closed_ends next_end outcome_form time_form kind_form attr_form u32_form u64_form bool_form bytes_form fixed_form count_form opaque_spell opaque_read hashes_form pair_form hash_range_form piece_form range_form new_temp_form temp_piece_form cond_piece_form commit_form committed_form direction_form front_form auth_form call_form versions_form accept_form denial_form reply_form
closed_and_reopened = refl

-- a write of no bytes is done at any place, and changes nothing
pub nothing_written : text_of (accepted (header ++ codes "file a t:abc\njoin 1 0 0\ndo 1 0 open #2\npass 1 4 0 0\ndo 1 0 write #2 18446744073709551615 -\ndo 1 0 read #2 0 18446744073709551615\ndo 1 0 read #2 3 1\n"))
    ≡ codes "lbfs-history 1\nop 1 client 1 open file 2 begin 3 end 7 point 4 Opened 3 a9993e364706816aba3e25717850c26c9cd0d89d cond 0 tmp 0 read 1 data 3\nop 2 client 1 write file 2 begin 8 end 8 point - Done cond 0 tmp 0 read 0 data 0\nop 3 client 1 read file 2 begin 9 end 9 point - Piece 3 a9993e364706816aba3e25717850c26c9cd0d89d cond 0 tmp 0 read 0 data 0\nop 4 client 1 read file 2 begin 10 end 10 point - Piece 0 da39a3ee5e6b4b0d3255bfef95601890afd80709 cond 0 tmp 0 read 0 data 0\nend ops 4 steps 10\n"
unfolding calls_most fronted key_of lease_on_form leased_form record_of digits encode_with decode_pairs sha1 digest_bytes hash_after compress rounds schedule first_words closed_ends next_end outcome_form time_form kind_form attr_form u32_form u64_form bool_form bytes_form fixed_form count_form opaque_spell opaque_read hashes_form pair_form hash_range_form piece_form range_form new_temp_form temp_piece_form cond_piece_form commit_form committed_form direction_form front_form auth_form call_form versions_form accept_form denial_form reply_form
nothing_written = refl

-- a local content stays within 67,108,864 bytes
pub too_big : text_of (accepted (header ++ codes "file e -\njoin 1 0 0\ndo 1 0 open #2\npass 1 2 0 0\ndo 1 0 trunc #2 67108865\ndo 1 0 write #2 67108864 t:a\ndo 1 0 write #2 18446744073709551615 t:a\ndo 1 0 trunc #2 18446744073709551615\ndo 1 0 read #2 0 1\n"))
    ≡ codes "lbfs-history 1\nop 1 client 1 open file 2 begin 3 end 5 point 4 Opened 0 da39a3ee5e6b4b0d3255bfef95601890afd80709 cond 0 tmp 0 read 0 data 0\nop 2 client 1 trunc file 2 begin 6 end 6 point - TooBig 67108865 cond 0 tmp 0 read 0 data 0\nop 3 client 1 write file 2 begin 7 end 7 point - TooBig 67108865 cond 0 tmp 0 read 0 data 0\nop 4 client 1 write file 2 begin 8 end 8 point - TooBig 18446744073709551616 cond 0 tmp 0 read 0 data 0\nop 5 client 1 trunc file 2 begin 9 end 9 point - TooBig 18446744073709551615 cond 0 tmp 0 read 0 data 0\nop 6 client 1 read file 2 begin 10 end 10 point - Piece 0 da39a3ee5e6b4b0d3255bfef95601890afd80709 cond 0 tmp 0 read 0 data 0\nend ops 6 steps 10\n"
unfolding calls_most fronted key_of lease_on_form leased_form record_of digits encode_with decode_pairs sha1 digest_bytes hash_after compress rounds schedule first_words closed_ends next_end outcome_form time_form kind_form attr_form u32_form u64_form bool_form bytes_form fixed_form count_form opaque_spell opaque_read hashes_form pair_form hash_range_form piece_form range_form new_temp_form temp_piece_form cond_piece_form commit_form committed_form direction_form front_form auth_form call_form versions_form accept_form denial_form reply_form
too_big = refl

-- a write behind the end fills the gap
pub far_behind : text_of (accepted (header ++ codes "file e -\njoin 1 0 0\ndo 1 0 open #2\npass 1 2 0 0\ndo 1 0 write #2 2047 t:a\ndo 1 0 read #2 2046 9\n"))
    ≡ codes "lbfs-history 1\nop 1 client 1 open file 2 begin 3 end 5 point 4 Opened 0 da39a3ee5e6b4b0d3255bfef95601890afd80709 cond 0 tmp 0 read 0 data 0\nop 2 client 1 write file 2 begin 6 end 6 point - Done cond 0 tmp 0 read 0 data 0\nop 3 client 1 read file 2 begin 7 end 7 point - Piece 2 3106600e0327ca77371f2526df794ed84322585c cond 0 tmp 0 read 0 data 0\nend ops 3 steps 7\n"
unfolding calls_most fronted key_of lease_on_form leased_form record_of digits encode_with decode_pairs sha1 digest_bytes hash_after compress rounds schedule first_words closed_ends next_end outcome_form time_form kind_form attr_form u32_form u64_form bool_form bytes_form fixed_form count_form opaque_spell opaque_read hashes_form pair_form hash_range_form piece_form range_form new_temp_form temp_piece_form cond_piece_form commit_form committed_form direction_form front_form auth_form call_form versions_form accept_form denial_form reply_form
far_behind = refl

-- a command on a file that is not open, which is found out before a session is missed
pub not_open : text_of (accepted (header ++ codes "file a t:abc\ndo 1 0 write #2 0 t:a\ndo 1 0 trunc #2 0\ndo 1 0 read #2 0 1\ndo 1 0 close #2\ndo 1 0 abandon #2\n"))
    ≡ codes "lbfs-history 1\nop 1 client 1 write file 2 begin 1 end 1 point - NotOpen cond 0 tmp 0 read 0 data 0\nop 2 client 1 trunc file 2 begin 2 end 2 point - NotOpen cond 0 tmp 0 read 0 data 0\nop 3 client 1 read file 2 begin 3 end 3 point - NotOpen cond 0 tmp 0 read 0 data 0\nop 4 client 1 close file 2 begin 4 end 4 point - NotOpen cond 0 tmp 0 read 0 data 0\nop 5 client 1 abandon file 2 begin 5 end 5 point - NotOpen cond 0 tmp 0 read 0 data 0\nend ops 5 steps 5\n"
unfolding digits
not_open = refl

-- a file that is abandoned is as it was, and can be opened again
pub abandoned : text_of (accepted (brief ++ codes "file e -\njoin 1 0 1\ndo 1 0 open #2\npass 1 2 2 0\ndo 1 0 write #2 0 t:xy\ndo 1 0 abandon #2\ndo 1 0 abandon #2\ndo 1 0 open #2\npass 1 2 3 0\n"))
    ≡ codes "lbfs-history 1\nop 1 client 1 open file 2 begin 3 end 5 point 4 Opened 0 da39a3ee5e6b4b0d3255bfef95601890afd80709 cond 0 tmp 0 read 0 data 0\nop 2 client 1 write file 2 begin 6 end 6 point - Done cond 0 tmp 0 read 0 data 0\nop 3 client 1 abandon file 2 begin 7 end 7 point - Done cond 0 tmp 0 read 0 data 0\nop 4 client 1 abandon file 2 begin 8 end 8 point - NotOpen cond 0 tmp 0 read 0 data 0\nop 5 client 1 open file 2 begin 9 end 11 point 10 Opened 0 da39a3ee5e6b4b0d3255bfef95601890afd80709 cond 0 tmp 0 read 0 data 0\nend ops 5 steps 11\n"
unfolding calls_most fronted key_of lease_on_form leased_form record_of digits encode_with decode_pairs sha1 digest_bytes hash_after compress rounds schedule first_words closed_ends next_end outcome_form time_form kind_form attr_form u32_form u64_form bool_form bytes_form fixed_form count_form opaque_spell opaque_read hashes_form pair_form hash_range_form piece_form range_form new_temp_form temp_piece_form cond_piece_form commit_form committed_form direction_form front_form auth_form call_form versions_form accept_form denial_form reply_form
abandoned = refl

-- a close whose change is never made, and a command meanwhile
pub change_waits : text_of (accepted (header ++ codes "file e -\njoin 1 0 0\ndo 1 0 open #2\npass 1 2 0 0\ndo 1 0 close #2\npass 1 9 0 0\ndo 1 0 read #2 0 1\n"))
    ≡ codes "lbfs-history 1\nop 1 client 1 open file 2 begin 3 end 5 point 4 Opened 0 da39a3ee5e6b4b0d3255bfef95601890afd80709 cond 0 tmp 0 read 0 data 0\nop 2 client 1 close file 2 begin 6 end - point - Running cond 0 tmp 0 read 0 data 0\nop 3 client 1 read file 2 begin 10 end 10 point - Busy cond 0 tmp 0 read 0 data 0\nend ops 3 steps 10\n"
unfolding calls_most fronted key_of lease_on_form leased_form record_of digits encode_with decode_pairs sha1 digest_bytes hash_after compress rounds schedule first_words closed_ends next_end outcome_form time_form kind_form attr_form u32_form u64_form bool_form bytes_form fixed_form count_form opaque_spell opaque_read hashes_form pair_form hash_range_form piece_form range_form new_temp_form temp_piece_form cond_piece_form commit_form committed_form direction_form front_form auth_form call_form versions_form accept_form denial_form reply_form
change_waits = refl

-- a close whose change was made, and whose answer is not delivered
pub untold_change : text_of (accepted (header ++ codes "file e -\njoin 1 0 0\ndo 1 0 open #2\npass 1 2 0 0\ndo 1 0 close #2\npass 1 9 0 0\nsettle 0\n"))
    ≡ codes "lbfs-history 1\nop 1 client 1 open file 2 begin 3 end 5 point 4 Opened 0 da39a3ee5e6b4b0d3255bfef95601890afd80709 cond 0 tmp 0 read 0 data 0\nop 2 client 1 close file 2 begin 6 end - point 10 Running cond 0 tmp 0 read 0 data 0\nend ops 2 steps 10\n"
unfolding calls_most fronted key_of lease_on_form leased_form record_of digits encode_with decode_pairs sha1 digest_bytes hash_after compress rounds schedule first_words closed_ends next_end outcome_form time_form kind_form attr_form u32_form u64_form bool_form bytes_form fixed_form count_form opaque_spell opaque_read hashes_form pair_form hash_range_form piece_form range_form new_temp_form temp_piece_form cond_piece_form commit_form committed_form direction_form front_form auth_form call_form versions_form accept_form denial_form reply_form
untold_change = refl

-- where no change waits, a settle is a step and no more
pub nothing_settles : text_of (accepted (header ++ codes "file e -\nsettle 0\njoin 1 0 0\nsettle 0\ndo 1 0 open #2\npass 1 2 0 0\nsettle 0\n"))
    ≡ codes "lbfs-history 1\nop 1 client 1 open file 2 begin 5 end 7 point 6 Opened 0 da39a3ee5e6b4b0d3255bfef95601890afd80709 cond 0 tmp 0 read 0 data 0\nend ops 1 steps 8\n"
unfolding calls_most fronted key_of lease_on_form leased_form record_of digits encode_with decode_pairs sha1 digest_bytes hash_after compress rounds schedule first_words closed_ends next_end outcome_form time_form kind_form attr_form u32_form u64_form bool_form bytes_form fixed_form count_form opaque_spell opaque_read hashes_form pair_form hash_range_form piece_form range_form new_temp_form temp_piece_form cond_piece_form commit_form committed_form direction_form front_form auth_form call_form versions_form accept_form denial_form reply_form
nothing_settles = refl

-- a close whose client's connection is lost while its change waits, which is made later
pub lost_close : text_of (accepted (header ++ codes "file a t:a\njoin 1 0 0\ndo 1 0 open #2\npass 1 3 0 0\ndo 1 0 write #2 0 t:b\ndo 1 0 close #2\npass 1 9 0 0\ncut 1 0\nsettle 0\n"))
    ≡ codes "lbfs-history 1\nop 1 client 1 open file 2 begin 3 end 7 point 4 Opened 1 86f7e437faa5a7fce15d1ddcb9eaeaea377667b8 cond 0 tmp 0 read 1 data 1\nop 2 client 1 write file 2 begin 8 end 8 point - Done cond 0 tmp 0 read 0 data 0\nop 3 client 1 close file 2 begin 9 end 17 point 18 Lost cond 1 tmp 1 read 0 data 1\nend ops 3 steps 18\n"
unfolding calls_most fronted key_of lease_on_form leased_form record_of digits encode_with decode_pairs sha1 digest_bytes hash_after compress rounds schedule first_words closed_ends next_end outcome_form time_form kind_form attr_form u32_form u64_form bool_form bytes_form fixed_form count_form opaque_spell opaque_read hashes_form pair_form hash_range_form piece_form range_form new_temp_form temp_piece_form cond_piece_form commit_form committed_form direction_form front_form auth_form call_form versions_form accept_form denial_form reply_form
lost_close = refl

-- a close that is lost with its COMMITTMP on its way, which comes later
pub lost_on_its_way : text_of (accepted (header ++ codes "file a t:a\njoin 1 0 0\ndo 1 0 open #2\npass 1 3 0 0\ndo 1 0 write #2 0 t:b\ndo 1 0 close #2\npass 1 3 0 0\nup 1 5 0\ncut 1 0\nup 1 all 0\nsettle 0\n"))
    ≡ codes "lbfs-history 1\nop 1 client 1 open file 2 begin 3 end 7 point 4 Opened 1 86f7e437faa5a7fce15d1ddcb9eaeaea377667b8 cond 0 tmp 0 read 1 data 1\nop 2 client 1 write file 2 begin 8 end 8 point - Done cond 0 tmp 0 read 0 data 0\nop 3 client 1 close file 2 begin 9 end 16 point 18 Lost cond 1 tmp 1 read 0 data 1\nend ops 3 steps 18\n"
unfolding calls_most fronted key_of lease_on_form leased_form record_of digits encode_with decode_pairs sha1 digest_bytes hash_after compress rounds schedule first_words closed_ends next_end outcome_form time_form kind_form attr_form u32_form u64_form bool_form bytes_form fixed_form count_form opaque_spell opaque_read hashes_form pair_form hash_range_form piece_form range_form new_temp_form temp_piece_form cond_piece_form commit_form committed_form direction_form front_form auth_form call_form versions_form accept_form denial_form reply_form
lost_on_its_way = refl

-- a close whose change was made, and whose answer is dropped with the connection
pub lost_answer : text_of (accepted (header ++ codes "file a t:a\njoin 1 0 0\ndo 1 0 open #2\npass 1 3 0 0\ndo 1 0 write #2 0 t:b\ndo 1 0 close #2\npass 1 9 0 0\nsettle 0\ncut 1 0\ndown 1 all 0\n"))
    ≡ codes "lbfs-history 1\nop 1 client 1 open file 2 begin 3 end 7 point 4 Opened 1 86f7e437faa5a7fce15d1ddcb9eaeaea377667b8 cond 0 tmp 0 read 1 data 1\nop 2 client 1 write file 2 begin 8 end 8 point - Done cond 0 tmp 0 read 0 data 0\nop 3 client 1 close file 2 begin 9 end 18 point 17 Lost cond 1 tmp 1 read 0 data 1\nend ops 3 steps 18\n"
unfolding calls_most fronted key_of lease_on_form leased_form record_of digits encode_with decode_pairs sha1 digest_bytes hash_after compress rounds schedule first_words closed_ends next_end outcome_form time_form kind_form attr_form u32_form u64_form bool_form bytes_form fixed_form count_form opaque_spell opaque_read hashes_form pair_form hash_range_form piece_form range_form new_temp_form temp_piece_form cond_piece_form commit_form committed_form direction_form front_form auth_form call_form versions_form accept_form denial_form reply_form
lost_answer = refl

-- the server sees the connection lost, and the pending change is gone
pub hung_close : text_of (accepted (header ++ codes "file a t:a\njoin 1 0 0\ndo 1 0 open #2\npass 1 3 0 0\ndo 1 0 write #2 0 t:b\ndo 1 0 close #2\npass 1 9 0 0\nhang 1 0\nhang 1 0\nsettle 0\n"))
    ≡ codes "lbfs-history 1\nop 1 client 1 open file 2 begin 3 end 7 point 4 Opened 1 86f7e437faa5a7fce15d1ddcb9eaeaea377667b8 cond 0 tmp 0 read 1 data 1\nop 2 client 1 write file 2 begin 8 end 8 point - Done cond 0 tmp 0 read 0 data 0\nop 3 client 1 close file 2 begin 9 end - point - Running cond 1 tmp 1 read 0 data 1\nend ops 3 steps 18\n"
unfolding calls_most fronted key_of lease_on_form leased_form record_of digits encode_with decode_pairs sha1 digest_bytes hash_after compress rounds schedule first_words closed_ends next_end outcome_form time_form kind_form attr_form u32_form u64_form bool_form bytes_form fixed_form count_form opaque_spell opaque_read hashes_form pair_form hash_range_form piece_form range_form new_temp_form temp_piece_form cond_piece_form commit_form committed_form direction_form front_form auth_form call_form versions_form accept_form denial_form reply_form
hung_close = refl

-- what is on its way down when the server sees the connection lost still comes
pub hung_answer : text_of (accepted (header ++ codes "file a t:a\njoin 1 0 0\ndo 1 0 open #2\npass 1 3 0 0\ndo 1 0 write #2 0 t:b\ndo 1 0 close #2\npass 1 9 0 0\nsettle 0\nhang 1 0\ndown 1 all 0\n"))
    ≡ codes "lbfs-history 1\nop 1 client 1 open file 2 begin 3 end 7 point 4 Opened 1 86f7e437faa5a7fce15d1ddcb9eaeaea377667b8 cond 0 tmp 0 read 1 data 1\nop 2 client 1 write file 2 begin 8 end 8 point - Done cond 0 tmp 0 read 0 data 0\nop 3 client 1 close file 2 begin 9 end 19 point 17 Closed 2 1 e9d71f5ee7c92d6dc9e92ffdad17b8bd49418f98 cond 1 tmp 1 read 0 data 1\nend ops 3 steps 19\n"
unfolding calls_most fronted key_of lease_on_form leased_form record_of digits encode_with decode_pairs sha1 digest_bytes hash_after compress rounds schedule first_words closed_ends next_end outcome_form time_form kind_form attr_form u32_form u64_form bool_form bytes_form fixed_form count_form opaque_spell opaque_read hashes_form pair_form hash_range_form piece_form range_form new_temp_form temp_piece_form cond_piece_form commit_form committed_form direction_form front_form auth_form call_form versions_form accept_form denial_form reply_form
hung_answer = refl

-- an open whose messages come in pieces
pub pieces : text_of (accepted (header ++ codes "file a t:a\njoin 1 0 0\ndo 1 0 open #2\nup 1 1 0\nup 1 3 0\nup 1 0 0\nup 1 all 0\ndown 1 30 0\ndown 1 30 0\ndown 1 300 0\nup 1 75 0\nup 1 1 0\ndown 1 2 0\ndown 1 all 0\n"))
    ≡ codes "lbfs-history 1\nop 1 client 1 open file 2 begin 3 end 7 point 4 Opened 1 86f7e437faa5a7fce15d1ddcb9eaeaea377667b8 cond 0 tmp 0 read 1 data 1\nend ops 1 steps 7\n"
unfolding calls_most fronted key_of lease_on_form leased_form record_of digits encode_with decode_pairs sha1 digest_bytes hash_after compress rounds schedule first_words closed_ends next_end outcome_form time_form kind_form attr_form u32_form u64_form bool_form bytes_form fixed_form count_form opaque_spell opaque_read hashes_form pair_form hash_range_form piece_form range_form new_temp_form temp_piece_form cond_piece_form commit_form committed_form direction_form front_form auth_form call_form versions_form accept_form denial_form reply_form
pieces = refl

-- a client that is not joined sees no connection lost, in a step
pub cut_before : text_of (accepted (header ++ codes "file a t:a\ncut 1 0\njoin 1 0 0\ndo 1 0 open #2\npass 1 3 0 0\ncut 1 0\ndo 1 0 close #2\n"))
    ≡ codes "lbfs-history 1\nop 1 client 1 open file 2 begin 4 end 8 point 5 Opened 1 86f7e437faa5a7fce15d1ddcb9eaeaea377667b8 cond 0 tmp 0 read 1 data 1\nop 2 client 1 close file 2 begin 10 end 10 point - NoLink cond 0 tmp 0 read 0 data 0\nend ops 2 steps 10\n"
unfolding calls_most fronted key_of lease_on_form leased_form record_of digits encode_with decode_pairs sha1 digest_bytes hash_after compress rounds schedule first_words closed_ends next_end outcome_form time_form kind_form attr_form u32_form u64_form bool_form bytes_form fixed_form count_form opaque_spell opaque_read hashes_form pair_form hash_range_form piece_form range_form new_temp_form temp_piece_form cond_piece_form commit_form committed_form direction_form front_form auth_form call_form versions_form accept_form denial_form reply_form
cut_before = refl

-- the first line that is refused: lines that are skipped count
abbrev refused_by : List ℕ → List ℕ
refused_by lines = text_of (accepted (header ++ lines))

pub refusals : map refused_by (codes "\n#\nfile a -\nfile a -\n" ∷ codes "file a z:67108865\n" ∷ codes "file a z:2048\nfile a z:67108865" ∷ codes "file a z:18446744073709551615+z:18446744073709551615\n" ∷ codes "join 1 0 0\njoin 1 0 0\n" ∷ codes "do 1 0 open #1\nfile a -\n" ∷ codes "pass 1 1 0 0\n" ∷ codes "join 1 0 0\npass 2 1 0 0\n" ∷ codes "do 2 0 open #1\n" ∷ codes "settle 0\nfile a -\n" ∷ codes "up 1 all 0\n" ∷ codes "down 1 all 0\n" ∷ codes "cut 2 0\n" ∷ codes "hang 1 0\n" ∷ [])
    ≡ (codes "refused line 8 grammar\n" ∷ codes "refused line 5 limit file\n" ∷ codes "refused line 6 grammar\n" ∷ codes "refused line 5 limit file\n" ∷ codes "refused line 6 grammar\n" ∷ codes "refused line 6 grammar\n" ∷ codes "refused line 5 grammar\n" ∷ codes "refused line 6 grammar\n" ∷ codes "refused line 5 grammar\n" ∷ codes "refused line 6 grammar\n" ∷ codes "refused line 5 grammar\n" ∷ codes "refused line 5 grammar\n" ∷ codes "refused line 5 grammar\n" ∷ codes "refused line 5 grammar\n" ∷ [])
unfolding record_of digits
refusals = refl

-- the first rule of clocks that is broken, where the term is 1000 and the drift 100
abbrev clocked : List ℕ → List ℕ
clocked lines = text_of (accepted (codes "lbfs-trace 1\nterm 1000\ndrift 100\nclients 1\n" ++ lines))

pub clocks : map clocked (codes "file a t:a\njoin 1 0 0\nsettle 500\ndo 1 300 open #2" ∷ codes "settle 5\nsettle 4\n" ∷ codes "cut 1 7\ndo 1 6 open #2\n" ∷ codes "join 1 0 0\npass 1 0 401 300\n" ∷ codes "join 1 7 5\npass 1 1 4 6\n" ∷ codes "join 1 0 0\ncut 1 0\ndown 1 all 9\ndo 1 8 open #2\n" ∷ codes "join 1 7 5\ncut 1 7\njoin 1 6 4\n" ∷ [])
    ≡ (codes "refused line 8 clock client 1 from 0 0 to 300 500\n" ∷ codes "refused line 6 clock server from 5 to 4\n" ∷ codes "refused line 6 clock client 1 from 7 to 6\n" ∷ codes "refused line 6 clock client 1 from 0 0 to 300 401\n" ∷ codes "refused line 6 clock server from 5 to 4\n" ∷ codes "refused line 8 clock client 1 from 9 to 8\n" ∷ codes "refused line 7 clock server from 5 to 4\n" ∷ [])
unfolding record_of digits
clocks = refl

pub clocks_at_their_edge : map clocked (codes "join 1 0 0\npass 1 1 400 300\n" ∷ codes "join 1 0 0\npass 1 1 1100 1000\n" ∷ codes "join 1 0 0\npass 1 1 9999 1001\n" ∷ codes "settle 9999\ncut 1 5\n" ∷ [])
    ≡ (codes "lbfs-history 1\nend ops 0 steps 2\n" ∷ codes "lbfs-history 1\nend ops 0 steps 2\n" ∷ codes "lbfs-history 1\nend ops 0 steps 2\n" ∷ codes "lbfs-history 1\nend ops 0 steps 2\n" ∷ [])
unfolding record_of digits
clocks_at_their_edge = refl

-- ---- several clients

abbrev pub header_of : List ℕ → List ℕ
header_of clients = codes "lbfs-trace 1\nterm 60000\ndrift 100\nclients " ++ clients ++ codes "\n"

abbrev brief_of : List ℕ → List ℕ
brief_of clients = codes "lbfs-trace 1\nterm 1\ndrift 60000\nclients " ++ clients ++ codes "\n"

-- one client's file is closed by another while the first still reads it
pub two_closes : text_of (accepted (brief_of (codes "2") ++ codes "file a t:a\njoin 1 0 1\njoin 2 0 2\ndo 1 0 open #2\nup 1 all 3\ndo 2 0 open #2\npass 2 3 4 0\ndo 2 0 write #2 0 t:b\ndo 2 0 close #2\npass 2 9 5 0\nsettle 6\npass 2 1 7 0\npass 1 9 8 0\n"))
    ≡ codes "lbfs-history 1\nop 1 client 1 open file 2 begin 5 end 29 point 26 Opened 1 e9d71f5ee7c92d6dc9e92ffdad17b8bd49418f98 cond 0 tmp 0 read 2 data 2\nop 2 client 2 open file 2 begin 7 end 11 point 8 Opened 1 86f7e437faa5a7fce15d1ddcb9eaeaea377667b8 cond 0 tmp 0 read 1 data 1\nop 3 client 2 write file 2 begin 12 end 12 point - Done cond 0 tmp 0 read 0 data 0\nop 4 client 2 close file 2 begin 13 end 22 point 21 Closed 2 1 e9d71f5ee7c92d6dc9e92ffdad17b8bd49418f98 cond 1 tmp 1 read 0 data 1\nend ops 4 steps 29\n"
unfolding calls_most fronted key_of lease_on_form leased_form record_of digits encode_with decode_pairs sha1 digest_bytes hash_after compress rounds schedule first_words closed_ends next_end outcome_form time_form kind_form attr_form u32_form u64_form bool_form bytes_form fixed_form count_form opaque_spell opaque_read hashes_form pair_form hash_range_form piece_form range_form new_temp_form temp_piece_form cond_piece_form commit_form committed_form direction_form front_form auth_form call_form versions_form accept_form denial_form reply_form
two_closes = refl

-- a lost close whose change is made after that of the next session's close
pub late_change : text_of (accepted (brief_of (codes "2") ++ codes "file a t:a\njoin 1 0 1\njoin 2 0 2\ndo 1 0 open #2\npass 1 3 3 0\ndo 1 0 write #2 0 t:b\ndo 1 0 close #2\npass 1 9 4 0\ncut 1 0\njoin 1 0 5\ndo 1 0 write #2 1 t:c\ndo 1 0 close #2\npass 3 9 6 0\ndo 2 0 open #2\npass 2 3 7 0\nsettle 8\nsettle 9\npass 3 1 10 0\ndo 2 0 abandon #2\ndo 2 0 open #2\npass 2 3 11 0\n"))
    ≡ codes "lbfs-history 1\nop 1 client 1 open file 2 begin 5 end 9 point 6 Opened 1 86f7e437faa5a7fce15d1ddcb9eaeaea377667b8 cond 0 tmp 0 read 1 data 1\nop 2 client 1 write file 2 begin 10 end 10 point - Done cond 0 tmp 0 read 0 data 0\nop 3 client 1 close file 2 begin 11 end 19 point 36 Lost cond 1 tmp 1 read 0 data 1\nop 4 client 1 write file 2 begin 22 end 22 point - Done cond 0 tmp 0 read 0 data 0\nop 5 client 1 close file 2 begin 23 end 38 point 37 Closed 3 2 5b2505039ac5af9e197f5dad04113906a9cf9a2a cond 1 tmp 1 read 0 data 2\nop 6 client 2 open file 2 begin 31 end 35 point 32 Opened 1 86f7e437faa5a7fce15d1ddcb9eaeaea377667b8 cond 0 tmp 0 read 1 data 1\nop 7 client 2 abandon file 2 begin 39 end 39 point - Done cond 0 tmp 0 read 0 data 0\nop 8 client 2 open file 2 begin 40 end 46 point 43 Opened 2 5b2505039ac5af9e197f5dad04113906a9cf9a2a cond 0 tmp 0 read 1 data 2\nend ops 8 steps 46\n"
unfolding calls_most fronted key_of lease_on_form leased_form record_of digits encode_with decode_pairs sha1 digest_bytes hash_after compress rounds schedule first_words closed_ends next_end outcome_form time_form kind_form attr_form u32_form u64_form bool_form bytes_form fixed_form count_form opaque_spell opaque_read hashes_form pair_form hash_range_form piece_form range_form new_temp_form temp_piece_form cond_piece_form commit_form committed_form direction_form front_form auth_form call_form versions_form accept_form denial_form reply_form
late_change = refl

-- an old session hangs late, and drops its own change alone
pub late_hang : text_of (accepted (brief_of (codes "2") ++ codes "file a t:a\nfile b -\njoin 1 0 1\njoin 2 0 2\ndo 1 0 open #2\npass 1 3 3 0\ndo 1 0 write #2 0 t:b\ndo 1 0 close #2\npass 1 9 4 0\ncut 1 0\njoin 1 0 5\ndo 2 0 open #3\npass 2 3 6 0\ndo 2 0 write #3 0 t:c\ndo 2 0 close #3\npass 2 9 7 0\nhang 1 8\nsettle 9\nsettle 10\npass 2 1 11 0\ndo 1 0 close #2\npass 3 9 12 0\nsettle 13\npass 3 1 14 0\nhang 1 15\nup 1 all 16\ndown 1 all 0\n"))
    ≡ codes "lbfs-history 1\nop 1 client 1 open file 2 begin 5 end 9 point 6 Opened 1 86f7e437faa5a7fce15d1ddcb9eaeaea377667b8 cond 0 tmp 0 read 1 data 1\nop 2 client 1 write file 2 begin 10 end 10 point - Done cond 0 tmp 0 read 0 data 0\nop 3 client 1 close file 2 begin 11 end 19 point - Lost cond 1 tmp 1 read 0 data 1\nop 4 client 2 open file 3 begin 22 end 24 point 23 Opened 0 da39a3ee5e6b4b0d3255bfef95601890afd80709 cond 0 tmp 0 read 0 data 0\nop 5 client 2 write file 3 begin 25 end 25 point - Done cond 0 tmp 0 read 0 data 0\nop 6 client 2 close file 3 begin 26 end 37 point 35 Closed 2 1 84a516841ba77a5b4648de2cd0dfcb30ea46dbb4 cond 1 tmp 1 read 0 data 1\nop 7 client 1 close file 2 begin 38 end 47 point 46 Closed 2 1 e9d71f5ee7c92d6dc9e92ffdad17b8bd49418f98 cond 1 tmp 1 read 0 data 1\nend ops 7 steps 47\n"
unfolding calls_most fronted key_of lease_on_form leased_form record_of digits encode_with decode_pairs sha1 digest_bytes hash_after compress rounds schedule first_words closed_ends next_end outcome_form time_form kind_form attr_form u32_form u64_form bool_form bytes_form fixed_form count_form opaque_spell opaque_read hashes_form pair_form hash_range_form piece_form range_form new_temp_form temp_piece_form cond_piece_form commit_form committed_form direction_form front_form auth_form call_form versions_form accept_form denial_form reply_form
late_hang = refl

-- a close is lost while its change waits, which another client then sees
pub lost_then_seen : text_of (accepted (header_of (codes "2") ++ codes "file a t:a\njoin 1 0 0\njoin 2 0 0\ndo 1 0 open #2\npass 1 3 0 0\ndo 1 0 write #2 0 t:b\ndo 1 0 close #2\npass 1 9 0 0\ncut 1 0\nsettle 0\ndo 2 0 open #2\npass 2 3 0 0\n"))
    ≡ codes "lbfs-history 1\nop 1 client 1 open file 2 begin 5 end 9 point 6 Opened 1 86f7e437faa5a7fce15d1ddcb9eaeaea377667b8 cond 0 tmp 0 read 1 data 1\nop 2 client 1 write file 2 begin 10 end 10 point - Done cond 0 tmp 0 read 0 data 0\nop 3 client 1 close file 2 begin 11 end 19 point 20 Lost cond 1 tmp 1 read 0 data 1\nop 4 client 2 open file 2 begin 21 end 25 point 22 Opened 1 e9d71f5ee7c92d6dc9e92ffdad17b8bd49418f98 cond 0 tmp 0 read 1 data 1\nend ops 4 steps 25\n"
unfolding calls_most fronted key_of lease_on_form leased_form record_of digits encode_with decode_pairs sha1 digest_bytes hash_after compress rounds schedule first_words closed_ends next_end outcome_form time_form kind_form attr_form u32_form u64_form bool_form bytes_form fixed_form count_form opaque_spell opaque_read hashes_form pair_form hash_range_form piece_form range_form new_temp_form temp_piece_form cond_piece_form commit_form committed_form direction_form front_form auth_form call_form versions_form accept_form denial_form reply_form
lost_then_seen = refl

-- each of four attempts meets another version
pub changed_four_times : text_of (accepted (brief_of (codes "2") ++ codes "file a t:a\njoin 1 0 1\njoin 2 0 2\ndo 2 0 open #2\npass 2 3 3 0\ndo 2 0 write #2 0 t:b\ndo 2 0 close #2\npass 2 9 4 0\ndo 1 0 open #2\nup 1 all 5\nsettle 6\ndown 1 all 0\nup 1 all 7\ndown 1 all 0\npass 2 1 8 0\ndo 2 0 open #2\npass 2 3 9 0\ndo 2 0 write #2 0 t:c\ndo 2 0 close #2\npass 2 9 10 0\nup 1 all 11\nsettle 12\ndown 1 all 0\nup 1 all 13\ndown 1 all 0\npass 2 1 14 0\ndo 2 0 open #2\npass 2 3 15 0\ndo 2 0 write #2 0 t:d\ndo 2 0 close #2\npass 2 9 16 0\nup 1 all 17\nsettle 18\ndown 1 all 0\nup 1 all 19\ndown 1 all 0\npass 2 1 20 0\ndo 2 0 open #2\npass 2 3 21 0\ndo 2 0 write #2 0 t:e\ndo 2 0 close #2\npass 2 9 22 0\nup 1 all 23\nsettle 24\ndown 1 all 0\nup 1 all 25\ndown 1 all 0\npass 2 1 26 0\n"))
    ≡ codes "lbfs-history 1\nop 1 client 2 open file 2 begin 5 end 9 point 6 Opened 1 86f7e437faa5a7fce15d1ddcb9eaeaea377667b8 cond 0 tmp 0 read 1 data 1\nop 2 client 2 write file 2 begin 10 end 10 point - Done cond 0 tmp 0 read 0 data 0\nop 3 client 2 close file 2 begin 11 end 25 point 21 Closed 2 1 e9d71f5ee7c92d6dc9e92ffdad17b8bd49418f98 cond 1 tmp 1 read 0 data 1\nop 4 client 1 open file 2 begin 19 end 78 point - Changed 4 5 cond 0 tmp 0 read 4 data 4\nop 5 client 2 open file 2 begin 26 end 28 point 27 Opened 1 e9d71f5ee7c92d6dc9e92ffdad17b8bd49418f98 cond 0 tmp 0 read 0 data 0\nop 6 client 2 write file 2 begin 29 end 29 point - Done cond 0 tmp 0 read 0 data 0\nop 7 client 2 close file 2 begin 30 end 43 point 39 Closed 3 1 84a516841ba77a5b4648de2cd0dfcb30ea46dbb4 cond 1 tmp 1 read 0 data 1\nop 8 client 2 open file 2 begin 44 end 46 point 45 Opened 1 84a516841ba77a5b4648de2cd0dfcb30ea46dbb4 cond 0 tmp 0 read 0 data 0\nop 9 client 2 write file 2 begin 47 end 47 point - Done cond 0 tmp 0 read 0 data 0\nop 10 client 2 close file 2 begin 48 end 61 point 57 Closed 4 1 3c363836cf4e16666669a25da280a1865c2d2874 cond 1 tmp 1 read 0 data 1\nop 11 client 2 open file 2 begin 62 end 64 point 63 Opened 1 3c363836cf4e16666669a25da280a1865c2d2874 cond 0 tmp 0 read 0 data 0\nop 12 client 2 write file 2 begin 65 end 65 point - Done cond 0 tmp 0 read 0 data 0\nop 13 client 2 close file 2 begin 66 end 79 point 75 Closed 5 1 58e6b3a414a1e090dfc6029add0f3555ccba127f cond 1 tmp 1 read 0 data 1\nend ops 13 steps 79\n"
unfolding calls_most fronted key_of lease_on_form leased_form record_of digits encode_with decode_pairs sha1 digest_bytes hash_after compress rounds schedule first_words closed_ends next_end outcome_form time_form kind_form attr_form u32_form u64_form bool_form bytes_form fixed_form count_form opaque_spell opaque_read hashes_form pair_form hash_range_form piece_form range_form new_temp_form temp_piece_form cond_piece_form commit_form committed_form direction_form front_form auth_form call_form versions_form accept_form denial_form reply_form
changed_four_times = refl

-- the first line that is refused, of so many clients
abbrev refused_of : List ℕ → List ℕ → List ℕ
refused_of clients lines = text_of (accepted (header_of clients ++ lines))

abbrev cut_and_joined : ℕ → List ℕ
cut_and_joined zero = []
cut_and_joined (suc k) = codes "join 1 0 0\ncut 1 0\n" ++ cut_and_joined k

pub too_many_sessions : refused_of (codes "1") (cut_and_joined 65) ≡ codes "refused line 133 limit sessions\n"
unfolding record_of digits
too_many_sessions = refl

pub who_is_there : map (λ lines. refused_of (codes "2") lines) (codes "join 3 0 0\n" ∷ codes "join 1 0 0\njoin 1 0 0\n" ∷ codes "join 0 0 0\n" ∷ codes "join 2 0 0\npass 2 1 0 0\n" ∷ codes "do 3 0 open #2\n" ∷ codes "cut 0 0\n" ∷ codes "hang 0 0\n" ∷ [])
    ≡ (codes "refused line 5 grammar\n" ∷ codes "refused line 6 grammar\n" ∷ codes "refused line 5 grammar\n" ∷ codes "refused line 6 grammar\n" ∷ codes "refused line 5 grammar\n" ∷ codes "refused line 5 grammar\n" ∷ codes "refused line 5 grammar\n" ∷ [])
unfolding record_of digits
who_is_there = refl

pub too_many_clients : map (λ clients. refused_of clients []) (codes "16" ∷ codes "17" ∷ codes "0" ∷ []) ≡ (codes "lbfs-history 1\nend ops 0 steps 0\n" ∷ codes "refused line 4 grammar\n" ∷ codes "refused line 4 grammar\n" ∷ [])
unfolding record_of digits
too_many_clients = refl

-- each client's clock is its own, and a session's deliveries are events of its owner's
pub own_clocks : map (λ lines. refused_of (codes "16") lines) (codes "join 16 0 0\ncut 16 5\njoin 16 4 0\n" ∷ codes "join 16 5 0\njoin 1 0 0\ndo 1 4 open #2\ndown 1 all 4\n" ∷ codes "join 16 5 0\ncut 16 6\njoin 16 7 0\npass 1 1 0 6\n" ∷ codes "join 16 5 0\ncut 16 6\njoin 16 7 0\npass 1 1 0 7\n" ∷ [])
    ≡ (codes "refused line 7 clock client 16 from 5 to 4\n" ∷ codes "refused line 8 clock client 16 from 5 to 4\n" ∷ codes "refused line 8 clock client 16 from 7 to 6\n" ∷ codes "lbfs-history 1\nend ops 0 steps 5\n" ∷ [])
unfolding record_of digits
own_clocks = refl

-- ---- indexes and the client's cache

abbrev kept_twice : List ℕ
kept_twice = codes "lbfs-trace 1\nterm 100\ndrift 100\nclients 1\nfile a t:a\nfile b t:a\njoin 1 0 0\ndo 1 0 open #2\npass 1 3 0 0\ndo 1 0 abandon #2\ndo 1 0 open #2\npass 1 1 0 0\ndo 1 0 abandon #2\nevict 1 2\ndo 1 0 open #2\npass 1 3 0 0\n"

-- a content that is kept is used again; one that was dropped is read; and a chunk of another file's content is taken from it
pub kept : text_of (accepted (kept_twice ++ codes "do 1 0 open #3\npass 1 3 0 0\n"))
    ≡ codes "lbfs-history 1\nop 1 client 1 open file 2 begin 3 end 7 point 4 Opened 1 86f7e437faa5a7fce15d1ddcb9eaeaea377667b8 cond 0 tmp 0 read 1 data 1\nop 2 client 1 abandon file 2 begin 8 end 8 point - Done cond 0 tmp 0 read 0 data 0\nop 3 client 1 open file 2 begin 9 end 11 point 10 Opened 1 86f7e437faa5a7fce15d1ddcb9eaeaea377667b8 cond 0 tmp 0 read 0 data 0\nop 4 client 1 abandon file 2 begin 12 end 12 point - Done cond 0 tmp 0 read 0 data 0\nop 5 client 1 open file 2 begin 13 end 17 point 14 Opened 1 86f7e437faa5a7fce15d1ddcb9eaeaea377667b8 cond 0 tmp 0 read 1 data 1\nop 6 client 1 open file 3 begin 18 end 20 point 19 Opened 1 86f7e437faa5a7fce15d1ddcb9eaeaea377667b8 cond 0 tmp 0 read 0 data 0\nend ops 6 steps 20\n"
unfolding calls_most fronted key_of lease_on_form leased_form record_of digits encode_with decode_pairs sha1 digest_bytes hash_after compress rounds schedule first_words closed_ends next_end outcome_form time_form kind_form attr_form u32_form u64_form bool_form bytes_form fixed_form count_form opaque_spell opaque_read hashes_form pair_form hash_range_form piece_form range_form new_temp_form temp_piece_form cond_piece_form commit_form committed_form direction_form front_form auth_form call_form versions_form accept_form denial_form reply_form
kept = refl

-- a place of the client's index past the end of its file gives no bytes
pub kept_past_the_end : text_of (accepted (kept_twice ++ codes "forge 1 86f7e437faa5a7fc 2 5 1\ndo 1 0 open #3\npass 1 3 0 0\n"))
    ≡ codes "lbfs-history 1\nop 1 client 1 open file 2 begin 3 end 7 point 4 Opened 1 86f7e437faa5a7fce15d1ddcb9eaeaea377667b8 cond 0 tmp 0 read 1 data 1\nop 2 client 1 abandon file 2 begin 8 end 8 point - Done cond 0 tmp 0 read 0 data 0\nop 3 client 1 open file 2 begin 9 end 11 point 10 Opened 1 86f7e437faa5a7fce15d1ddcb9eaeaea377667b8 cond 0 tmp 0 read 0 data 0\nop 4 client 1 abandon file 2 begin 12 end 12 point - Done cond 0 tmp 0 read 0 data 0\nop 5 client 1 open file 2 begin 13 end 17 point 14 Opened 1 86f7e437faa5a7fce15d1ddcb9eaeaea377667b8 cond 0 tmp 0 read 1 data 1\nop 6 client 1 open file 3 begin 18 end 22 point 19 Opened 1 86f7e437faa5a7fce15d1ddcb9eaeaea377667b8 cond 0 tmp 0 read 1 data 1\nend ops 6 steps 22\n"
unfolding calls_most fronted key_of lease_on_form leased_form record_of digits encode_with decode_pairs sha1 digest_bytes hash_after compress rounds schedule first_words closed_ends next_end outcome_form time_form kind_form attr_form u32_form u64_form bool_form bytes_form fixed_form count_form opaque_spell opaque_read hashes_form pair_form hash_range_form piece_form range_form new_temp_form temp_piece_form cond_piece_form commit_form committed_form direction_form front_form auth_form call_form versions_form accept_form denial_form reply_form
kept_past_the_end = refl

-- an index that was cleared gives none either
pub kept_cleared : text_of (accepted (kept_twice ++ codes "clear 1\ndo 1 0 open #3\npass 1 3 0 0\n"))
    ≡ codes "lbfs-history 1\nop 1 client 1 open file 2 begin 3 end 7 point 4 Opened 1 86f7e437faa5a7fce15d1ddcb9eaeaea377667b8 cond 0 tmp 0 read 1 data 1\nop 2 client 1 abandon file 2 begin 8 end 8 point - Done cond 0 tmp 0 read 0 data 0\nop 3 client 1 open file 2 begin 9 end 11 point 10 Opened 1 86f7e437faa5a7fce15d1ddcb9eaeaea377667b8 cond 0 tmp 0 read 0 data 0\nop 4 client 1 abandon file 2 begin 12 end 12 point - Done cond 0 tmp 0 read 0 data 0\nop 5 client 1 open file 2 begin 13 end 17 point 14 Opened 1 86f7e437faa5a7fce15d1ddcb9eaeaea377667b8 cond 0 tmp 0 read 1 data 1\nop 6 client 1 open file 3 begin 18 end 22 point 19 Opened 1 86f7e437faa5a7fce15d1ddcb9eaeaea377667b8 cond 0 tmp 0 read 1 data 1\nend ops 6 steps 22\n"
unfolding calls_most fronted key_of lease_on_form leased_form record_of digits encode_with decode_pairs sha1 digest_bytes hash_after compress rounds schedule first_words closed_ends next_end outcome_form time_form kind_form attr_form u32_form u64_form bool_form bytes_form fixed_form count_form opaque_spell opaque_read hashes_form pair_form hash_range_form piece_form range_form new_temp_form temp_piece_form cond_piece_form commit_form committed_form direction_form front_form auth_form call_form versions_form accept_form denial_form reply_form
kept_cleared = refl

-- places of the server's index of another length, past the end of their file, and of other bytes
pub forged_places : text_of (accepted (header ++ codes "file w t:xyz\nfile p -\nfile q -\nfile s -\njoin 1 0 0\nforge server 86f7e437faa5a7fc 2 0 3\nforge server e9d71f5ee7c92d6d 2 5 1\nforge server 84a516841ba77a5b 2 0 1\ndo 1 0 open #3\npass 1 9 0 0\ndo 1 0 write #3 0 t:a\ndo 1 0 close #3\npass 1 9 0 0\nsettle 0\npass 1 1 0 0\ndo 1 0 open #4\npass 1 9 0 0\ndo 1 0 write #4 0 t:b\ndo 1 0 close #4\npass 1 9 0 0\nsettle 0\npass 1 1 0 0\ndo 1 0 open #5\npass 1 9 0 0\ndo 1 0 write #5 0 t:c\ndo 1 0 close #5\npass 1 9 0 0\nsettle 0\npass 1 1 0 0\n"))
    ≡ codes "lbfs-history 1\nop 1 client 1 open file 3 begin 3 end 5 point 4 Opened 0 da39a3ee5e6b4b0d3255bfef95601890afd80709 cond 0 tmp 0 read 0 data 0\nop 2 client 1 write file 3 begin 6 end 6 point - Done cond 0 tmp 0 read 0 data 0\nop 3 client 1 close file 3 begin 7 end 16 point 15 Closed 2 1 86f7e437faa5a7fce15d1ddcb9eaeaea377667b8 cond 1 tmp 1 read 0 data 1\nop 4 client 1 open file 4 begin 17 end 19 point 18 Opened 0 da39a3ee5e6b4b0d3255bfef95601890afd80709 cond 0 tmp 0 read 0 data 0\nop 5 client 1 write file 4 begin 20 end 20 point - Done cond 0 tmp 0 read 0 data 0\nop 6 client 1 close file 4 begin 21 end 30 point 29 Closed 2 1 e9d71f5ee7c92d6dc9e92ffdad17b8bd49418f98 cond 1 tmp 1 read 0 data 1\nop 7 client 1 open file 5 begin 31 end 33 point 32 Opened 0 da39a3ee5e6b4b0d3255bfef95601890afd80709 cond 0 tmp 0 read 0 data 0\nop 8 client 1 write file 5 begin 34 end 34 point - Done cond 0 tmp 0 read 0 data 0\nop 9 client 1 close file 5 begin 35 end 44 point 43 Closed 2 1 84a516841ba77a5b4648de2cd0dfcb30ea46dbb4 cond 1 tmp 1 read 0 data 1\nend ops 9 steps 44\n"
unfolding calls_most fronted key_of lease_on_form leased_form record_of digits encode_with decode_pairs sha1 digest_bytes hash_after compress rounds schedule first_words closed_ends next_end outcome_form time_form kind_form attr_form u32_form u64_form bool_form bytes_form fixed_form count_form opaque_spell opaque_read hashes_form pair_form hash_range_form piece_form range_form new_temp_form temp_piece_form cond_piece_form commit_form committed_form direction_form front_form auth_form call_form versions_form accept_form denial_form reply_form
forged_places = refl

-- who has an index or a cache, and where such lines stand: they are events, and count as lines
pub whose_index : map (λ lines. refused_of (codes "2") lines) (codes "forge 3 86f7e437faa5a7fc 2 0 1\n" ∷ codes "forge 0 86f7e437faa5a7fc 2 0 1\n" ∷ codes "clear 3\n" ∷ codes "evict 3 2\n" ∷ codes "evict 0 2\n" ∷ codes "clear server\nfile a -\n" ∷ codes "forge 2 86f7e437faa5a7fc 18446744073709551615 18446744073709551615 18446744073709551615\nclear server\nclear 1\nevict 2 18446744073709551615\nforge server 0000000000000000 0 0 0\n" ∷ [])
    ≡ (codes "refused line 5 grammar\n" ∷ codes "refused line 5 grammar\n" ∷ codes "refused line 5 grammar\n" ∷ codes "refused line 5 grammar\n" ∷ codes "refused line 5 grammar\n" ∷ codes "refused line 6 grammar\n" ∷ codes "lbfs-history 1\nend ops 0 steps 0\n" ∷ [])
unfolding record_of digits
whose_index = refl

-- a limit that no trace of a file of examples comes to: the bytes of all files together, at their edge and past it
abbrev full : World
full = record start { stage = stage.Files; size = 1073741823 }

abbrev at_root : Spot
at_root = record { dirs = []; name = codes "a" }

pub tree_edge : asked full 9 (line.File at_root (Zeros 1 ∷ [])) ≡ Ok (turn.File 1 (codes "a") (Zeros 1 ∷ []))
tree_edge = refl

pub tree_limit : asked full 9 (line.File at_root (Zeros 2 ∷ [])) ≡ Err (Limit limit.Tree)
tree_limit = refl
