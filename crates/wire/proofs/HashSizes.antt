-- How long the arguments and answers of LBFS and of the callback program are at most.
use Rattle.std.proofs.Common.{◌≡◌, ℕ, ◌+◌, ◌≤◌, Bool, true, false, cond, Option, Some, None, length, refl, ap, arith, length-append}
use Rattle.std.specs.Prelude.{nat_lt}
use Rattle.std.specs.List.{flat_map}
use Rattle.std.specs.Int.{w32, to_be_bytes}
use Rattle.limits.specs.declared.TheConstants.{PAIRS_MOST, PIECE_MOST}
use Rattle.xdr_codec.specs.Format.{Format}
use Rattle.xdr_codec.specs.Compose.{◌⋆◌, nothing}
use Rattle.xdr_codec.specs.Xdr.{u32_form, u64_form, bool_form, count_form, opaque_form, fixed_form, wide32}
use Rattle.xdr_codec.specs.Repeat.{counted}
use Rattle.xdr_codec.specs.Handle.{handle_form}
use Rattle.xdr_codec.specs.declared.reader.TheConstants.{NO_MAXIMUM}
use Rattle.xdr_codec.specs.Attr.{attr_form, kind_form}
use Rattle.xdr_codec.specs.Choice.{optional}
use Rattle.xdr_codec.specs.Answers.{answer_form}
use Rattle.hash_calls.specs.Version.{digest_length, has_base, base_form, BaseFits}
use Rattle.hash_calls.specs.Calls.{lease_on_form, leased_form, range_form, pair_form, hashes_form, new_temp_form, temp_piece_form, cond_piece_form, commit_form, committed_form, look_on_form, entry_form, looked_form}
use Rattle.hash_calls.specs.Lb.{lb_spell, LbFits, hashed_same}
use Rattle.hash_calls.specs.Back.{back_spell, BackFits}
use Rattle.hash_calls.specs.declared.call.LookOn.{LookOn}
use Rattle.hash_calls.specs.declared.message.Lb.{Lb}
use Rattle.hash_calls.specs.declared.message.Lb.TheVariants as lb
use Rattle.hash_calls.specs.declared.message.Back.{Back}
use Rattle.hash_calls.specs.declared.message.Back.TheVariants as back
use Rattle.wire.specs.Size.{small_names, IsSmallLb}
use Rattle.wire.proofs.lemmas.Bounds.{AtMost, most_within, most_nothing, most_u32, most_u64, most_bool, most_then, most_fixed, most_opaque, most_handle, most_attr, flat_most, most_optional, most_answer}

-- an offset or a size, and another number
wide_most : AtMost (u64_form ⋆ u32_form) 12
wide_most = most_then u64_form u32_form 8 4 most_u64 most_u32

leased_most : AtMost leased_form 96
unfolding leased_form
leased_most l fits = most_then attr_form (u64_form ⋆ u32_form) 84 12 most_attr wide_most (l.attr, (l.version, l.term)) fits

lease_on_most : (v : ℕ) → AtMost (lease_on_form v) 71
unfolding lease_on_form
lease_on_most v l fits = most_handle l.handle fits.1

range_most : (v : ℕ) → AtMost (range_form v) 83
unfolding range_form
range_most v r fits = most_then handle_form (u64_form ⋆ u32_form) 71 12 most_handle wide_most (r.handle, (r.offset, r.count)) fits.1

-- the longer kind of digest
digest_most : (v : ℕ) → AtMost (fixed_form (digest_length v)) 35
digest_most v d fits = by (nat_lt v 3) fits
  where
    by : (t : Bool) → (fixed_form (cond t 20 32)).Fits d → length ((fixed_form (cond t 20 32)).spell d) ≤ 35
    by true fits = most_within (fixed_form 20) 23 35 (most_fixed 20) (omega arith) d fits
    by false fits = most_fixed 32 d fits

pair_most : (v : ℕ) → AtMost (pair_form v) 39
unfolding pair_form
pair_most v p fits = most_then (fixed_form (digest_length v)) u32_form 35 4 (digest_most v) most_u32 (p.digest, p.size) fits

pairs_most : (v : ℕ) → AtMost (counted PAIRS_MOST (pair_form v)) 39940
unfolding count_form
pairs_most v ps fits =
    omega (arith, fits.0.1, flat_most (pair_form v) 39 (pair_most v) ps fits.1.1, wide32.len (length ps), length-append (to_be_bytes w32 (length ps)) (flat_map (pair_form v).spell ps))

hashes_most : (v : ℕ) → AtMost (hashes_form v) 39964
unfolding hashes_form
hashes_most v h fits =
    let pairs = most_then (counted PAIRS_MOST (pair_form v)) bool_form 39940 4 (pairs_most v) most_bool in
    let size = most_then u64_form (counted PAIRS_MOST (pair_form v) ⋆ bool_form) 8 39944 most_u64 pairs in
    let term = most_then u32_form (u64_form ⋆ counted PAIRS_MOST (pair_form v) ⋆ bool_form) 4 39952 most_u32 size in
    most_then u64_form (u32_form ⋆ u64_form ⋆ counted PAIRS_MOST (pair_form v) ⋆ bool_form) 8 39956 most_u64 term (h.version, (h.term, (h.size, (h.pairs, h.eof)))) fits

new_temp_most : (v : ℕ) → AtMost (new_temp_form v) 75
unfolding new_temp_form
new_temp_most v n fits = most_then u32_form handle_form 4 71 most_u32 most_handle (n.fd, n.handle) fits.1

temp_piece_most : (v : ℕ) → AtMost (temp_piece_form v) 65555
unfolding temp_piece_form
temp_piece_most v p fits =
    let bytes : AtMost (opaque_form PIECE_MOST) 65543 = λ b fits. most_opaque PIECE_MOST b fits.1 in
    most_then u32_form (u64_form ⋆ opaque_form PIECE_MOST) 4 65551 most_u32 (most_then u64_form (opaque_form PIECE_MOST) 8 65543 most_u64 bytes) (p.fd, (p.offset, p.bytes)) fits.1

cond_piece_most : (v : ℕ) → AtMost (cond_piece_form v) 51
unfolding cond_piece_form
cond_piece_most v p fits =
    let digest = most_then u32_form (fixed_form (digest_length v)) 4 35 most_u32 (digest_most v) in
    most_then u32_form (u64_form ⋆ u32_form ⋆ fixed_form (digest_length v)) 4 47 most_u32 (most_then u64_form (u32_form ⋆ fixed_form (digest_length v)) 8 39 most_u64 digest) (p.fd, (p.offset, (p.count, p.digest))) fits.1

base_most : (b : Bool) → AtMost (base_form b) 8
base_most true None fits = absurd fits
base_most true (Some n) fits = most_u64 n fits
base_most false None fits = omega arith
base_most false (Some n) fits = absurd fits

commit_most : (v : ℕ) → AtMost (commit_form v) 91
unfolding commit_form
commit_most v c fits =
    let size = most_then u64_form (base_form (has_base v)) 8 8 most_u64 (base_most (has_base v)) in
    most_then u32_form (handle_form ⋆ u64_form ⋆ base_form (has_base v)) 4 87 most_u32 (most_then handle_form (u64_form ⋆ base_form (has_base v)) 71 16 most_handle size) (c.fd, (c.handle, (c.size, c.base))) fits.1

committed_most : AtMost committed_form 12
unfolding committed_form
committed_most c fits = wide_most (c.version, c.term) fits

look_on_most : (v : ℕ) (l : LookOn) → (look_on_form v).Fits l → length l.name ≤ small_names → length ((look_on_form v).spell l) ≤ 65614
unfolding look_on_form
look_on_most v l fits small = omega (arith, most_handle l.dir fits.1.0, most_opaque small_names l.name small, length-append (handle_form.spell l.dir) ((opaque_form NO_MAXIMUM).spell l.name))

kind_most : AtMost kind_form 4
unfolding kind_form
kind_most k fits = most_u32 _ fits

entry_most : AtMost entry_form 75
unfolding entry_form
entry_most e fits = most_then handle_form kind_form 71 4 most_handle kind_most (e.handle, e.kind) fits

looked_most : AtMost looked_form 91
unfolding looked_form
looked_most l fits = most_then u64_form (u32_form ⋆ optional entry_form) 8 83 most_u64 (most_then u32_form (optional entry_form) 4 79 most_u32 (most_optional entry_form 75 entry_most)) (l.version, (l.term, l.entry)) fits

-- a failure answer is the status alone
gave_most : {A : Type 0} (f : Format A) (n : ℕ) → AtMost f n → AtMost (answer_form f (nothing (tt {0}))) (4 + n)
gave_most f n p = most_answer f (nothing (tt {0})) n p (most_within (nothing (tt {0})) 0 n (most_nothing (tt {0})) (omega arith))

status_most : AtMost (answer_form (nothing (tt {0})) (nothing (tt {0}))) 4
status_most = gave_most (nothing (tt {0})) 0 (most_nothing (tt {0}))

pub lb_most : (l : Lb) → LbFits l → IsSmallLb l → length (lb_spell l) ≤ 65614
lb_most (lb.Null v) fits small = omega arith
lb_most lb.NullAnswer fits small = omega arith
lb_most (lb.GetLease x) fits small = omega (arith, lease_on_most x.lbfs x fits)
lb_most (lb.GetLeaseAnswer a) fits small = omega (arith, gave_most leased_form 96 leased_most a fits)
lb_most (lb.GetHash x) fits small = omega (arith, range_most x.lbfs x fits)
lb_most (lb.GetHashAnswer a) fits small = omega (arith, gave_most (hashes_form fits.0) 39964 (hashes_most fits.0) a fits.1, ap length (hashed_same 1 fits.0 a))
lb_most (lb.MkTmpFile x) fits small = omega (arith, new_temp_most x.lbfs x fits)
lb_most (lb.MkTmpFileAnswer a) fits small = omega (arith, status_most a fits)
lb_most (lb.TmpWrite x) fits small = omega (arith, temp_piece_most x.lbfs x fits)
lb_most (lb.TmpWriteAnswer a) fits small = omega (arith, status_most a fits)
lb_most (lb.CondWrite x) fits small = omega (arith, cond_piece_most x.lbfs x fits)
lb_most (lb.CondWriteAnswer a) fits small = omega (arith, status_most a fits)
lb_most (lb.CommitTmp x) fits small = omega (arith, commit_most x.lbfs x fits)
lb_most (lb.CommitTmpAnswer a) fits small = omega (arith, gave_most committed_form 12 committed_most a fits)
lb_most (lb.LookLease x) fits small = look_on_most x.lbfs x fits small
lb_most (lb.LookLeaseAnswer a) fits small = omega (arith, gave_most looked_form 91 looked_most a fits)

pub back_most : (b : Back) → BackFits b → length (back_spell b) ≤ 71
back_most back.Null fits = omega arith
back_most back.NullAnswer fits = omega arith
back_most (back.Recall h) fits = most_handle h fits
back_most back.RecallAnswer fits = omega arith
