-- How long the arguments and answers of NFS are at most.
use Rattle.std.proofs.Common.{ℕ, zero, suc, ◌+◌, ◌≤◌, List, ◌++◌, length, refl, arith, length-append}
use Rattle.limits.specs.declared.TheConstants.{PIECE_MOST, LISTING_MOST}
use Rattle.xdr_codec.specs.Compose.{◌⋆◌, nothing}
use Rattle.xdr_codec.specs.Xdr.{u32_form, u64_form, bool_form, opaque_spell}
use Rattle.xdr_codec.specs.Choice.{optional, known_form}
use Rattle.xdr_codec.specs.Handle.{handle_form}
use Rattle.xdr_codec.specs.Attr.{attr_form, time_form}
use Rattle.xdr_codec.specs.declared.answer.Answer.TheVariants.{Done, Failed}
use Rattle.nfs3_calls.specs.Choices.{is_below_three, time_how, set_time_spell, set_time_forms, set_time_one, set_time_form, set_attr_form, create_mode, how_made_spell, how_made_forms, how_made_one, how_made_form}
use Rattle.nfs3_calls.specs.Calls.{place_form, before_form, wcc_form, found_form, access_form, granted_form, range_form, piece_form, new_file_form, new_dir_form, made_form, rename_form, moved_form, list_range_form, listing_form, sizes_form, fs_info_form}
use Rattle.nfs3_calls.specs.Nfs.{nfs_spell, NfsFits}
use Rattle.nfs3_calls.specs.declared.call.Piece.{Piece}
use Rattle.nfs3_calls.specs.declared.place.Place.{Place}
use Rattle.nfs3_calls.specs.declared.place.Rename.{Rename}
use Rattle.nfs3_calls.specs.declared.making.SetTime.TheVariants.{Keep, Server, Client}
use Rattle.nfs3_calls.specs.declared.making.HowMade.TheVariants.{Unchecked, Guarded, Exclusive}
use Rattle.nfs3_calls.specs.declared.making.NewFile.{NewFile}
use Rattle.nfs3_calls.specs.declared.making.NewDir.{NewDir}
use Rattle.nfs3_calls.specs.declared.message.Nfs.{Nfs}
use Rattle.nfs3_calls.specs.declared.message.Nfs.TheVariants as nfs
use Rattle.wire.specs.Size.{IsSmallNfs, small_names}
use Rattle.wire.proofs.lemmas.Bounds.{AtMost, most_within, most_nothing, most_u32, most_u64, most_bool, most_then, most_opaque, most_handle, most_time, most_attr, most_tagged, most_embedded, most_optional, most_done, most_failed, most_answer}

-- ---- parts

post_op_most : AtMost (optional attr_form) 88
post_op_most = most_optional attr_form 84 most_attr

before_most : AtMost before_form 24
unfolding before_form
before_most b fits = most_then u64_form (time_form ⋆ time_form) 8 16 most_u64 (most_then time_form time_form 8 8 most_time most_time) (b.size, (b.mtime, b.ctime)) fits

wcc_most : AtMost wcc_form 116
unfolding wcc_form
wcc_most w fits = most_then (optional before_form) (optional attr_form) 28 88 (most_optional before_form 24 before_most) post_op_most (w.before, w.after) fits

-- a handle, and a name
place_most : (p : Place) → place_form.Fits p → length (place_form.spell p) ≤ 78 + length p.name
unfolding place_form
place_most p fits =
    omega (arith, most_handle p.dir fits.0, most_opaque (length p.name) p.name (omega arith), length-append (opaque_spell p.dir) (opaque_spell p.name))

known_most : AtMost (known_form is_below_three) 4
known_most n fits = most_u32 n fits.0

set_time_forms_most : (n : ℕ) → AtMost (set_time_forms n) 8
set_time_forms_most zero = most_within (nothing Keep) 0 8 (most_nothing Keep) (omega arith)
set_time_forms_most (suc zero) = most_within (nothing Server) 0 8 (most_nothing Server) (omega arith)
set_time_forms_most (suc (suc n)) = most_embedded Client set_time_spell time_form (λ _. refl) 8 most_time

set_time_most : AtMost set_time_form 12
unfolding set_time_form
set_time_most t fits = most_tagged time_how (known_form is_below_three) set_time_forms set_time_one 4 8 known_most set_time_forms_most t fits

set_attr_most : AtMost set_attr_form 60
unfolding set_attr_form
set_attr_most a fits =
    let number = most_optional u32_form 4 most_u32 in
    let times = most_then set_time_form set_time_form 12 12 set_time_most set_time_most in
    let size = most_then (optional u64_form) (set_time_form ⋆ set_time_form) 12 24 (most_optional u64_form 8 most_u64) times in
    let gid = most_then (optional u32_form) (optional u64_form ⋆ set_time_form ⋆ set_time_form) 8 36 number size in
    let uid = most_then (optional u32_form) (optional u32_form ⋆ optional u64_form ⋆ set_time_form ⋆ set_time_form) 8 44 number gid in
    most_then (optional u32_form) (optional u32_form ⋆ optional u32_form ⋆ optional u64_form ⋆ set_time_form ⋆ set_time_form) 8 52 number uid (a.mode, (a.uid, (a.gid, (a.size, (a.atime, a.mtime))))) fits

how_made_forms_most : (n : ℕ) → AtMost (how_made_forms n) 60
how_made_forms_most zero = most_embedded Unchecked how_made_spell set_attr_form (λ _. refl) 60 set_attr_most
how_made_forms_most (suc zero) = most_embedded Guarded how_made_spell set_attr_form (λ _. refl) 60 set_attr_most
how_made_forms_most (suc (suc n)) = most_embedded Exclusive how_made_spell u64_form (λ _. refl) 60 (most_within u64_form 8 60 most_u64 (omega arith))

how_made_most : AtMost how_made_form 64
unfolding how_made_form
how_made_most h fits = most_tagged create_mode (known_form is_below_three) how_made_forms how_made_one 4 60 known_most how_made_forms_most h fits

-- ---- arguments

access_most : AtMost access_form 75
unfolding access_form
access_most a fits = most_then handle_form u32_form 71 4 most_handle most_u32 (a.handle, a.bits) fits

range_most : AtMost range_form 83
unfolding range_form
range_most r fits = most_then handle_form (u64_form ⋆ u32_form) 71 12 most_handle (most_then u64_form u32_form 8 4 most_u64 most_u32) (r.handle, (r.offset, r.count)) fits

new_file_most : (f : NewFile) → new_file_form.Fits f → length f.place.name ≤ small_names → length (new_file_form.spell f) ≤ 65678
unfolding new_file_form
new_file_most f fits small = omega (arith, place_most f.place fits.0, how_made_most f.how fits.1, length-append (place_form.spell f.place) (how_made_form.spell f.how))

new_dir_most : (d : NewDir) → new_dir_form.Fits d → length d.place.name ≤ small_names → length (new_dir_form.spell d) ≤ 65674
unfolding new_dir_form
new_dir_most d fits small = omega (arith, place_most d.place fits.0, set_attr_most d.attr fits.1, length-append (place_form.spell d.place) (set_attr_form.spell d.attr))

rename_most : (r : Rename) → rename_form.Fits r → length r.from.name + length r.to.name ≤ small_names → length (rename_form.spell r) ≤ 65692
unfolding rename_form
rename_most r fits small = omega (arith, place_most r.from fits.0, place_most r.to fits.1, length-append (place_form.spell r.from) (place_form.spell r.to))

list_range_most : AtMost list_range_form 91
unfolding list_range_form
list_range_most r fits =
    most_then handle_form (u64_form ⋆ u64_form ⋆ u32_form) 71 20 most_handle (most_then u64_form (u64_form ⋆ u32_form) 8 12 most_u64 (most_then u64_form u32_form 8 4 most_u64 most_u32)) (r.dir, (r.cookie, (r.verifier, r.count))) fits

-- ---- answers

found_most : AtMost found_form 247
unfolding found_form
found_most f fits =
    most_then handle_form (optional attr_form ⋆ optional attr_form) 71 176 most_handle (most_then (optional attr_form) (optional attr_form) 88 88 post_op_most post_op_most) (f.handle, (f.attr, f.dir)) fits

granted_most : AtMost granted_form 92
unfolding granted_form
granted_most g fits = most_then (optional attr_form) u32_form 88 4 post_op_most most_u32 (g.attr, g.bits) fits

piece_most : (p : Piece) → piece_form.Fits p → length p.bytes ≤ PIECE_MOST → length (piece_form.spell p) ≤ 65639
unfolding piece_form
piece_most p fits small =
    let tail : List ℕ = opaque_spell p.bytes in
    let eof : List ℕ = bool_form.spell p.eof ++ tail in
    let count : List ℕ = u32_form.spell p.count ++ eof in
    omega (arith, most_opaque PIECE_MOST p.bytes small, post_op_most p.attr fits.0, most_u32 p.count fits.1.0, most_bool p.eof fits.1.1.0, length-append (bool_form.spell p.eof) tail, length-append (u32_form.spell p.count) eof, length-append ((optional attr_form).spell p.attr) count)

made_most : AtMost made_form 279
unfolding made_form
made_most m fits =
    most_then (optional handle_form) (optional attr_form ⋆ wcc_form) 75 204 (most_optional handle_form 71 most_handle) (most_then (optional attr_form) wcc_form 88 116 post_op_most wcc_most) (m.handle, (m.attr, m.dir)) fits

moved_most : AtMost moved_form 232
unfolding moved_form
moved_most m fits = most_then wcc_form wcc_form 116 116 wcc_most wcc_most (m.from, m.to) fits

sizes_most : AtMost sizes_form 12
unfolding sizes_form
sizes_most s fits = most_then u32_form (u32_form ⋆ u32_form) 4 8 most_u32 (most_then u32_form u32_form 4 4 most_u32 most_u32) (s.most, (s.best, s.multiple)) fits

fs_info_most : AtMost fs_info_form 136
unfolding fs_info_form
fs_info_most f fits =
    let delta = most_then time_form u32_form 8 4 most_time most_u32 in
    let size = most_then u64_form (time_form ⋆ u32_form) 8 12 most_u64 delta in
    let pref = most_then u32_form (u64_form ⋆ time_form ⋆ u32_form) 4 20 most_u32 size in
    let writing = most_then sizes_form (u32_form ⋆ u64_form ⋆ time_form ⋆ u32_form) 12 24 sizes_most pref in
    let reading = most_then sizes_form (sizes_form ⋆ u32_form ⋆ u64_form ⋆ time_form ⋆ u32_form) 12 36 sizes_most writing in
    most_then (optional attr_form) (sizes_form ⋆ sizes_form ⋆ u32_form ⋆ u64_form ⋆ time_form ⋆ u32_form) 88 48 post_op_most reading (f.attr, (f.reading, (f.writing, (f.dtpref, (f.maxfilesize, (f.time_delta, f.properties)))))) fits

-- ---- messages

pub nfs_most : (n : Nfs) → NfsFits n → IsSmallNfs n → length (nfs_spell n) ≤ 66000
nfs_most nfs.Null fits small = omega arith
nfs_most nfs.NullAnswer fits small = omega arith
nfs_most (nfs.GetAttr h) fits small = omega (arith, most_handle h fits)
nfs_most (nfs.GetAttrAnswer a) fits small = omega (arith, most_answer attr_form (nothing tt) 84 most_attr (most_within (nothing tt) 0 84 (most_nothing tt) (omega arith)) a fits)
nfs_most (nfs.Lookup p) fits small = omega (arith, place_most p fits, small)
nfs_most (nfs.LookupAnswer a) fits small = omega (arith, most_answer found_form (optional attr_form) 247 found_most (most_within (optional attr_form) 88 247 post_op_most (omega arith)) a fits)
nfs_most (nfs.Access a) fits small = omega (arith, access_most a fits)
nfs_most (nfs.AccessAnswer a) fits small = omega (arith, most_answer granted_form (optional attr_form) 92 granted_most (most_within (optional attr_form) 88 92 post_op_most (omega arith)) a fits)
nfs_most (nfs.Read r) fits small = omega (arith, range_most r fits)
nfs_most (nfs.ReadAnswer (Done p)) fits small = omega (arith, most_done piece_form (optional attr_form) 65639 p (piece_most p fits small))
nfs_most (nfs.ReadAnswer (Failed s a)) fits small = omega (arith, most_failed piece_form (optional attr_form) 88 s a (post_op_most a fits))
nfs_most (nfs.Create f) fits small = omega (arith, new_file_most f fits small)
nfs_most (nfs.CreateAnswer a) fits small = omega (arith, most_answer made_form wcc_form 279 made_most (most_within wcc_form 116 279 wcc_most (omega arith)) a fits)
nfs_most (nfs.MkDir d) fits small = omega (arith, new_dir_most d fits small)
nfs_most (nfs.MkDirAnswer a) fits small = omega (arith, most_answer made_form wcc_form 279 made_most (most_within wcc_form 116 279 wcc_most (omega arith)) a fits)
nfs_most (nfs.Remove p) fits small = omega (arith, place_most p fits, small)
nfs_most (nfs.RemoveAnswer a) fits small = omega (arith, most_answer wcc_form wcc_form 116 wcc_most wcc_most a fits)
nfs_most (nfs.RmDir p) fits small = omega (arith, place_most p fits, small)
nfs_most (nfs.RmDirAnswer a) fits small = omega (arith, most_answer wcc_form wcc_form 116 wcc_most wcc_most a fits)
nfs_most (nfs.Rename r) fits small = omega (arith, rename_most r fits small)
nfs_most (nfs.RenameAnswer a) fits small = omega (arith, most_answer moved_form moved_form 232 moved_most moved_most a fits)
nfs_most (nfs.ReadDir r) fits small = omega (arith, list_range_most r fits)
nfs_most (nfs.ReadDirAnswer (Done l)) fits small = omega (arith, most_done listing_form (optional attr_form) LISTING_MOST l small)
nfs_most (nfs.ReadDirAnswer (Failed s a)) fits small = omega (arith, most_failed listing_form (optional attr_form) 88 s a (post_op_most a fits))
nfs_most (nfs.FsInfo h) fits small = omega (arith, most_handle h fits)
nfs_most (nfs.FsInfoAnswer a) fits small = omega (arith, most_answer fs_info_form (optional attr_form) 136 fs_info_most (most_within (optional attr_form) 88 136 post_op_most (omega arith)) a fits)
