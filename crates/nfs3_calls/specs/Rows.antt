-- Worked examples, in words of four bytes.
use Rattle.std.specs.Prelude.{◌≡◌, ℕ, List, [], ◌∷◌, ◌++◌, true, Some, None, Ok, Err, refl}
use Rattle.std.specs.Int.{w32, to_be_bytes}
use Rattle.std.specs.List.{flat_map}
use Rattle.xdr_codec.specs.declared.fault.Fault.TheVariants.{Short, BadBool, BadFill, BadValue, Trailing, TooLong}
use Rattle.xdr_codec.specs.declared.status.Status.TheVariants.{Stale, Exist}
use Rattle.xdr_codec.specs.declared.answer.Answer.TheVariants.{Done, Failed}
use Rattle.xdr_codec.specs.declared.attr.Attr.{Attr}
use Rattle.xdr_codec.specs.declared.attr.Kind.TheVariants.{Directory}
use Rattle.xdr_codec.specs.Format.{whole, whole_at}
use Rattle.xdr_codec.specs.Xdr.{u32_form, u64_form, bool_form, count_form, opaque_read, opaque_spell, bytes_form}
use Rattle.xdr_codec.specs.Attr.{attr_form, kind_form, time_form}
use Rattle.xdr_codec.specs.Answers.{outcome_form}
use Rattle.nfs3_calls.specs.Choices.{set_time_form, set_attr_form, how_made_form}
use Rattle.nfs3_calls.specs.Calls.{place_form, before_form, wcc_form, found_form, granted_form, range_form, piece_form, new_file_form, new_dir_form, made_form, rename_form, moved_form, list_range_form, entry_form, listing_form, sizes_form, fs_info_form}
use Rattle.nfs3_calls.specs.Nfs.{args_form, answer_of, nfs_spell, proc_of}
use Rattle.nfs3_calls.specs.declared.change.Wcc.{Wcc}
use Rattle.nfs3_calls.specs.declared.place.Place.{Place}
use Rattle.nfs3_calls.specs.declared.making.SetAttr.{SetAttr}
use Rattle.nfs3_calls.specs.declared.making.SetTime.TheVariants.{Keep, Server, Client}
use Rattle.nfs3_calls.specs.declared.making.HowMade.TheVariants.{Unchecked, Guarded, Exclusive}
use Rattle.nfs3_calls.specs.declared.message.NfsProc.TheVariants as proc
use Rattle.nfs3_calls.specs.declared.message.Nfs.TheVariants.{GetAttrAnswer, AccessAnswer, Read, ReadAnswer, Create, CreateAnswer, RemoveAnswer, RmDir, Rename, RenameAnswer, ReadDir, ReadDirAnswer, FsInfoAnswer}

abbrev words : List ℕ → List ℕ
words ws = flat_map (to_be_bytes w32) ws

-- SETATTR, number 2, isn't served
not_served_row : proc_of 2 ≡ None
not_served_row = refl

-- 100 bytes from 5 on, of the file "LB01"
range_row : whole (args_form proc.Read) (words (4 ∷ 1279406129 ∷ 0 ∷ 5 ∷ 100 ∷ [])) ≡ Ok (Read (record { handle = 76 ∷ 66 ∷ 48 ∷ 49 ∷ []; offset = 5; count = 100 }))
unfolding range_form opaque_read count_form bytes_form u32_form u64_form
range_row = refl

-- a handle of 65 bytes, behind a header of 40
long_handle_row : whole_at 40 (args_form proc.Read) (words (65 ∷ [])) ≡ Err (TooLong 40 65 64)
unfolding range_form opaque_read count_form bytes_form u32_form u64_form
long_handle_row = refl

null_row : whole_at 40 (args_form proc.Null) (0 ∷ []) ≡ Err (Trailing 40)
null_row = refl

-- "ab", which ends the file; no attributes
piece_row : nfs_spell (ReadAnswer (Done (record { attr = None; count = 2; eof = true; bytes = 97 ∷ 98 ∷ [] }))) ≡ words (0 ∷ 0 ∷ 2 ∷ 1 ∷ 2 ∷ []) ++ 97 ∷ 98 ∷ 0 ∷ 0 ∷ []
unfolding piece_form outcome_form opaque_spell bool_form u32_form
piece_row = refl

stale_row : whole (answer_of proc.Read) (words (70 ∷ 0 ∷ [])) ≡ Ok (ReadAnswer (Failed Stale None))
unfolding outcome_form bool_form u32_form
stale_row = refl

status_row : whole (answer_of proc.Read) (words (71 ∷ 0 ∷ [])) ≡ Err (BadValue 0 71)
unfolding outcome_form bool_form u32_form
status_row = refl

-- ---- handles and names

-- an empty handle, and a word behind it
trailing_row : whole_at 40 (args_form proc.GetAttr) (words (0 ∷ 7 ∷ [])) ≡ Err (Trailing 44)
unfolding opaque_read count_form bytes_form u32_form
trailing_row = refl

-- "a" in the root, with fill that isn't zero
bad_fill_row : whole_at 40 (args_form proc.Lookup) (words (16 ∷ 1279406129 ∷ 0 ∷ 0 ∷ 1 ∷ 1 ∷ 1627389953 ∷ [])) ≡ Err (BadFill 60)
unfolding place_form opaque_read count_form bytes_form u32_form
bad_fill_row = refl

empty_name_row : whole (args_form proc.RmDir) (words (4 ∷ 1279406129 ∷ 0 ∷ [])) ≡ Ok (RmDir (record { dir = 76 ∷ 66 ∷ 48 ∷ 49 ∷ []; name = [] }))
unfolding place_form opaque_read count_form bytes_form u32_form
empty_name_row = refl

-- a failed GETATTR is its status alone
failed_row : whole (answer_of proc.GetAttr) (words (70 ∷ [])) ≡ Ok (GetAttrAnswer (Failed Stale tt))
unfolding outcome_form u32_form
failed_row = refl

-- the form of a LOOKUP that was done, behind a status that says otherwise
other_form_row : whole (answer_of proc.Lookup) (words (2 ∷ 0 ∷ 0 ∷ 0 ∷ [])) ≡ Err (Trailing 8)
unfolding outcome_form found_form bool_form u32_form
other_form_row = refl

-- from "a" in the directory "LB01" to "b" in "LB02"
rename_row : whole (args_form proc.Rename) (words (4 ∷ 1279406129 ∷ 1 ∷ 1627389952 ∷ 4 ∷ 1279406130 ∷ 1 ∷ 1644167168 ∷ [])) ≡ Ok (Rename (record { from = record { dir = 76 ∷ 66 ∷ 48 ∷ 49 ∷ []; name = 97 ∷ [] }; to = record { dir = 76 ∷ 66 ∷ 48 ∷ 50 ∷ []; name = 98 ∷ [] } }))
unfolding rename_form place_form opaque_read count_form bytes_form u32_form
rename_row = refl

access_row : nfs_spell (AccessAnswer (Done (record { attr = None; bits = 21 }))) ≡ words (0 ∷ 0 ∷ 21 ∷ [])
unfolding granted_form outcome_form bool_form u32_form
access_row = refl

-- ---- what is made

abbrev nothing_set : SetAttr
nothing_set = record { mode = None; uid = None; gid = None; size = None; atime = Keep; mtime = Keep }

abbrev here : Place
here = record { dir = []; name = [] }

unchecked_row : whole (args_form proc.Create) (words (0 ∷ 0 ∷ 0 ∷ 1 ∷ 384 ∷ 0 ∷ 1 ∷ 44 ∷ 1 ∷ 1 ∷ 3 ∷ 2 ∷ 42 ∷ 43 ∷ 1 ∷ [])) ≡ Ok (Create (record { place = here; how = Unchecked (record { mode = Some 384; uid = None; gid = Some 44; size = Some 4294967299; atime = Client (record { seconds = 42; nanoseconds = 43 }); mtime = Server }) }))
unfolding new_file_form how_made_form set_attr_form set_time_form time_form place_form opaque_read count_form bytes_form bool_form u32_form u64_form
unchecked_row = refl

guarded_row : whole (args_form proc.Create) (words (0 ∷ 0 ∷ 1 ∷ 0 ∷ 0 ∷ 0 ∷ 0 ∷ 0 ∷ 0 ∷ [])) ≡ Ok (Create (record { place = here; how = Guarded nothing_set }))
unfolding new_file_form how_made_form set_attr_form set_time_form place_form opaque_read count_form bytes_form bool_form u32_form
guarded_row = refl

exclusive_row : nfs_spell (Create (record { place = here; how = Exclusive 4294967298 })) ≡ words (0 ∷ 0 ∷ 2 ∷ 1 ∷ 2 ∷ [])
unfolding new_file_form how_made_form place_form opaque_spell u32_form u64_form
exclusive_row = refl

mode_row : whole_at 40 (args_form proc.Create) (words (0 ∷ 0 ∷ 3 ∷ [])) ≡ Err (BadValue 48 3)
unfolding new_file_form how_made_form place_form opaque_read count_form bytes_form u32_form
mode_row = refl

set_flag_row : whole_at 40 (args_form proc.Create) (words (0 ∷ 0 ∷ 0 ∷ 0 ∷ 2 ∷ [])) ≡ Err (BadBool 56 2)
unfolding new_file_form how_made_form set_attr_form place_form opaque_read count_form bytes_form bool_form u32_form
set_flag_row = refl

set_time_row : whole (args_form proc.MkDir) (words (0 ∷ 0 ∷ 0 ∷ 0 ∷ 0 ∷ 0 ∷ 1 ∷ 3 ∷ [])) ≡ Err (BadValue 28 3)
unfolding new_dir_form set_attr_form set_time_form place_form opaque_read count_form bytes_form bool_form u32_form
set_time_row = refl

-- nothing is told of what was made, but the size and times of its directory before
made_row : nfs_spell (CreateAnswer (Done (record { handle = None; attr = None; dir = record { before = Some (record { size = 31; mtime = record { seconds = 32; nanoseconds = 33 }; ctime = record { seconds = 34; nanoseconds = 35 } }); after = None } }))) ≡ words (0 ∷ 0 ∷ 0 ∷ 1 ∷ 0 ∷ 31 ∷ 32 ∷ 33 ∷ 34 ∷ 35 ∷ 0 ∷ [])
unfolding made_form wcc_form before_form time_form outcome_form bool_form u32_form u64_form
made_row = refl

-- ---- what changed

abbrev dir_attr : Attr
dir_attr = record { kind = Directory; mode = 493; nlink = 2; uid = 11; gid = 12; size = 13; used = 14; rdev_major = 15; rdev_minor = 16; fsid = 17; fileid = 18; atime = record { seconds = 19; nanoseconds = 20 }; mtime = record { seconds = 21; nanoseconds = 22 }; ctime = record { seconds = 23; nanoseconds = 24 } }

abbrev untold : Wcc
untold = record { before = None; after = None }

removed_row : whole (answer_of proc.Remove) (words (0 ∷ 0 ∷ 1 ∷ 2 ∷ 493 ∷ 2 ∷ 11 ∷ 12 ∷ 0 ∷ 13 ∷ 0 ∷ 14 ∷ 15 ∷ 16 ∷ 0 ∷ 17 ∷ 0 ∷ 18 ∷ 19 ∷ 20 ∷ 21 ∷ 22 ∷ 23 ∷ 24 ∷ [])) ≡ Ok (RemoveAnswer (Done (record { before = None; after = Some dir_attr })))
unfolding wcc_form attr_form kind_form time_form outcome_form bool_form u32_form u64_form
removed_row = refl

-- a RENAME that failed still tells of both directories
moved_row : nfs_spell (RenameAnswer (Failed Exist (record { from = untold; to = record { before = None; after = Some dir_attr } }))) ≡ words (17 ∷ 0 ∷ 0 ∷ 0 ∷ 1 ∷ 2 ∷ 493 ∷ 2 ∷ 11 ∷ 12 ∷ 0 ∷ 13 ∷ 0 ∷ 14 ∷ 15 ∷ 16 ∷ 0 ∷ 17 ∷ 0 ∷ 18 ∷ 19 ∷ 20 ∷ 21 ∷ 22 ∷ 23 ∷ 24 ∷ [])
unfolding moved_form wcc_form attr_form kind_form time_form outcome_form bool_form u32_form u64_form
moved_row = refl

-- ---- lists

list_range_row : whole (args_form proc.ReadDir) (words (0 ∷ 0 ∷ 3 ∷ 1 ∷ 2 ∷ 65536 ∷ [])) ≡ Ok (ReadDir (record { dir = []; cookie = 3; verifier = 4294967298; count = 65536 }))
unfolding list_range_form opaque_read count_form bytes_form u32_form u64_form
list_range_row = refl

-- file 77 is "a", whose cookie is 4, and the directory ends
listing_row : whole (answer_of proc.ReadDir) (words (0 ∷ 0 ∷ 0 ∷ 9 ∷ 1 ∷ 0 ∷ 77 ∷ 1 ∷ 1627389952 ∷ 0 ∷ 4 ∷ 0 ∷ 1 ∷ [])) ≡ Ok (ReadDirAnswer (Done (record { attr = None; verifier = 9; entries = record { fileid = 77; name = 97 ∷ []; cookie = 4 } ∷ []; eof = true })))
unfolding listing_form entry_form opaque_read count_form bytes_form outcome_form bool_form u32_form u64_form
listing_row = refl

-- a list without its end
endless_row : whole (answer_of proc.ReadDir) (words (0 ∷ 0 ∷ 0 ∷ 9 ∷ 1 ∷ 0 ∷ 77 ∷ 1 ∷ 1627389952 ∷ 0 ∷ 4 ∷ [])) ≡ Err (Short 44)
unfolding listing_form entry_form opaque_read count_form bytes_form outcome_form bool_form u32_form u64_form
endless_row = refl

-- ---- what the file system can do

fs_info_row : nfs_spell (FsInfoAnswer (Done (record { attr = None; reading = record { most = 65536; best = 65536; multiple = 1 }; writing = record { most = 0; best = 0; multiple = 0 }; dtpref = 65536; maxfilesize = 67108864; time_delta = record { seconds = 0; nanoseconds = 1 }; properties = 8 }))) ≡ words (0 ∷ 0 ∷ 65536 ∷ 65536 ∷ 1 ∷ 0 ∷ 0 ∷ 0 ∷ 65536 ∷ 0 ∷ 67108864 ∷ 0 ∷ 1 ∷ 8 ∷ [])
unfolding fs_info_form sizes_form time_form outcome_form bool_form u32_form u64_form
fs_info_row = refl
