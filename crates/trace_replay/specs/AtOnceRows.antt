-- Worked traces with leases: to whom a file is fresh when it is told to open it, who may go on, and who acts at an event, by which reading.
use Rattle.std.specs.Prelude.{◌≡◌, ℕ, List, [], ◌∷◌, Some, None, Bool, true, false, codes, map, refl}
use Rattle.std.specs.Fmt.{digits}
use Rattle.hex.specs.Hex.{encode_with, decode_pairs}
use Rattle.sha1.specs.Sha1.{sha1, digest_bytes, hash_after, compress, rounds, schedule, first_words}
use Rattle.chunk_cut.specs.Search.{closed_ends, next_end}
use Rattle.chunk_index.specs.Index.{key_of}
use Rattle.client_cache.specs.Cache.{fronted}
use Rattle.transfer_rules.specs.Limits.{calls_most}
use Rattle.xdr_codec.specs.Answers.{outcome_form}
use Rattle.xdr_codec.specs.Attr.{time_form, kind_form, attr_form}
use Rattle.xdr_codec.specs.Xdr.{u32_form, u64_form, bool_form, bytes_form, fixed_form, count_form, opaque_spell, opaque_read}
use Rattle.hash_calls.specs.Calls.{lease_on_form, leased_form, hashes_form, pair_form, new_temp_form, temp_piece_form, cond_piece_form, commit_form, committed_form}
use Rattle.hash_calls.specs.Calls.{range_form as hash_range_form}
use Rattle.nfs3_calls.specs.Calls.{piece_form}
use Rattle.nfs3_calls.specs.Calls.{range_form}
use Rattle.rpc_record.specs.Records.{record_of}
use Rattle.rpc_record.specs.Header.{direction_form, front_form, auth_form, call_form, versions_form, accept_form, denial_form, reply_form}
use Rattle.command_text.specs.declared.command.Command.TheVariants as command
use Rattle.trace_replay.specs.Causes.{can_go}
use Rattle.trace_replay.specs.AtOnce.{acts_at}
use Rattle.trace_ends.specs.Core.{Core, Event.Does, Event.Cuts}
use Rattle.trace_replay.specs.Trail.{Deed, moments, deeds_of}

-- a file whose open rests on a lease is fresh to its client until the drift before the lease's end
abbrev opened_thrice : List ℕ
opened_thrice = codes "lbfs-trace 1\nterm 1000\ndrift 100\nclients 1\nfile a t:a\njoin 1 0 0\ndo 1 0 open #2\npass 1 3 0 0\ndo 1 0 abandon #2\ndo 1 899 open #2\ndo 1 899 abandon #2\ndo 1 900 rewrite #2\n"

pub fresh_till : map (λ (d : Deed). d.fresh) (deeds_of (moments opened_thrice)) ≡ false ∷ false ∷ true ∷ false ∷ false ∷ []
unfolding calls_most fronted key_of lease_on_form leased_form record_of digits encode_with decode_pairs sha1 digest_bytes hash_after compress rounds schedule first_words closed_ends next_end outcome_form time_form kind_form attr_form u32_form u64_form bool_form bytes_form fixed_form count_form opaque_spell opaque_read hashes_form pair_form hash_range_form piece_form range_form new_temp_form temp_piece_form cond_piece_form commit_form committed_form direction_form front_form auth_form call_form versions_form accept_form denial_form reply_form
fresh_till = refl

-- what is fresh is open without a link
pub goes_fresh : map (λ (b : Bool). can_go (record { client = 1; command = command.Open 2; begin = 1; joined = false; calls = 0; fresh = b })) (true ∷ false ∷ []) ≡ true ∷ false ∷ []
goes_fresh = refl

pub acts_told : (k : Core) → acts_at k (Does 3 7 (command.Open 2)) ∷ acts_at k (Cuts 3) ∷ [] ≡ Some (3, 7) ∷ None ∷ []
acts_told k = refl
