-- The arguments and the answer of each call.
use Rattle.std.specs.Prelude.{ℕ, List, refl}
use Rattle.xdr_codec.specs.declared.reader.TheConstants.{NO_MAXIMUM}
use Rattle.xdr_codec.specs.Format.{Format}
use Rattle.xdr_codec.specs.Compose.{◌⋆◌, mapped}
use Rattle.xdr_codec.specs.Xdr.{u32_form, u64_form, bool_form, opaque_form}
use Rattle.xdr_codec.specs.Choice.{optional}
use Rattle.xdr_codec.specs.Chain.{chained}
use Rattle.xdr_codec.specs.Handle.{handle_form}
use Rattle.xdr_codec.specs.Attr.{attr_form, time_form}
use Rattle.nfs3_calls.specs.declared.call.Access.{Access}
use Rattle.nfs3_calls.specs.declared.call.Granted.{Granted}
use Rattle.nfs3_calls.specs.declared.call.Range.{Range}
use Rattle.nfs3_calls.specs.declared.call.Piece.{Piece}
use Rattle.nfs3_calls.specs.declared.place.Place.{Place}
use Rattle.nfs3_calls.specs.declared.place.Found.{Found}
use Rattle.nfs3_calls.specs.declared.place.Rename.{Rename}
use Rattle.nfs3_calls.specs.declared.change.Before.{Before}
use Rattle.nfs3_calls.specs.declared.change.Wcc.{Wcc}
use Rattle.nfs3_calls.specs.declared.change.Moved.{Moved}
use Rattle.nfs3_calls.specs.declared.making.NewFile.{NewFile}
use Rattle.nfs3_calls.specs.declared.making.NewDir.{NewDir}
use Rattle.nfs3_calls.specs.declared.making.Made.{Made}
use Rattle.nfs3_calls.specs.declared.listing.ListRange.{ListRange}
use Rattle.nfs3_calls.specs.declared.listing.Entry.{Entry}
use Rattle.nfs3_calls.specs.declared.listing.Listing.{Listing}
use Rattle.nfs3_calls.specs.declared.fs_info.Sizes.{Sizes}
use Rattle.nfs3_calls.specs.declared.fs_info.FsInfo.{FsInfo}
use Rattle.nfs3_calls.specs.Choices.{set_attr_form, how_made_form}

-- filename3 (RFC 1813, section 2.5): a record's length alone bounds it
abbrev pub name_form : Format (List ℕ)
name_form = opaque_form NO_MAXIMUM

-- diropargs3 (RFC 1813, section 2.6)
unfoldable pub place_form : Format Place
place_form = mapped (λ (d, n). record { dir = d; name = n }) (λ p. (p.dir, p.name)) (λ _. refl) (λ _. refl)
    (handle_form ⋆ name_form)

-- wcc_attr (RFC 1813, section 2.6)
unfoldable pub before_form : Format Before
before_form = mapped (λ (s, (m, c)). record { size = s; mtime = m; ctime = c }) (λ b. (b.size, (b.mtime, b.ctime))) (λ _. refl) (λ _. refl)
    (u64_form ⋆ time_form ⋆ time_form)

-- wcc_data (RFC 1813, section 2.6)
unfoldable pub wcc_form : Format Wcc
wcc_form = mapped (λ (b, a). record { before = b; after = a }) (λ w. (w.before, w.after)) (λ _. refl) (λ _. refl)
    (optional before_form ⋆ optional attr_form)

-- LOOKUP3resok (RFC 1813, section 3.3.3)
unfoldable pub found_form : Format Found
found_form = mapped (λ (h, (a, d)). record { handle = h; attr = a; dir = d }) (λ f. (f.handle, (f.attr, f.dir))) (λ _. refl) (λ _. refl)
    (handle_form ⋆ optional attr_form ⋆ optional attr_form)

-- ACCESS3args (RFC 1813, section 3.3.4)
unfoldable pub access_form : Format Access
access_form = mapped (λ (h, b). record { handle = h; bits = b }) (λ a. (a.handle, a.bits)) (λ _. refl) (λ _. refl)
    (handle_form ⋆ u32_form)

-- ACCESS3resok (RFC 1813, section 3.3.4)
unfoldable pub granted_form : Format Granted
granted_form = mapped (λ (a, b). record { attr = a; bits = b }) (λ g. (g.attr, g.bits)) (λ _. refl) (λ _. refl)
    (optional attr_form ⋆ u32_form)

-- READ3args (RFC 1813, section 3.3.6)
unfoldable pub range_form : Format Range
range_form = mapped (λ (h, (o, c)). record { handle = h; offset = o; count = c }) (λ r. (r.handle, (r.offset, r.count))) (λ _. refl) (λ _. refl)
    (handle_form ⋆ u64_form ⋆ u32_form)

-- READ3resok (RFC 1813, section 3.3.6)
unfoldable pub piece_form : Format Piece
piece_form = mapped (λ (a, (c, (e, b))). record { attr = a; count = c; eof = e; bytes = b }) (λ p. (p.attr, (p.count, (p.eof, p.bytes)))) (λ _. refl) (λ _. refl)
    (optional attr_form ⋆ u32_form ⋆ bool_form ⋆ opaque_form NO_MAXIMUM)

-- CREATE3args (RFC 1813, section 3.3.8)
unfoldable pub new_file_form : Format NewFile
new_file_form = mapped (λ (p, h). record { place = p; how = h }) (λ f. (f.place, f.how)) (λ _. refl) (λ _. refl)
    (place_form ⋆ how_made_form)

-- MKDIR3args (RFC 1813, section 3.3.9)
unfoldable pub new_dir_form : Format NewDir
new_dir_form = mapped (λ (p, a). record { place = p; attr = a }) (λ d. (d.place, d.attr)) (λ _. refl) (λ _. refl)
    (place_form ⋆ set_attr_form)

-- CREATE3resok and MKDIR3resok (RFC 1813, sections 3.3.8 and 3.3.9)
unfoldable pub made_form : Format Made
made_form = mapped (λ (h, (a, d)). record { handle = h; attr = a; dir = d }) (λ m. (m.handle, (m.attr, m.dir))) (λ _. refl) (λ _. refl)
    (optional handle_form ⋆ optional attr_form ⋆ wcc_form)

-- RENAME3args (RFC 1813, section 3.3.14)
unfoldable pub rename_form : Format Rename
rename_form = mapped (λ (f, t). record { from = f; to = t }) (λ r. (r.from, r.to)) (λ _. refl) (λ _. refl)
    (place_form ⋆ place_form)

-- RENAME3resok and RENAME3resfail (RFC 1813, section 3.3.14)
unfoldable pub moved_form : Format Moved
moved_form = mapped (λ (f, t). record { from = f; to = t }) (λ m. (m.from, m.to)) (λ _. refl) (λ _. refl)
    (wcc_form ⋆ wcc_form)

-- READDIR3args (RFC 1813, section 3.3.16); the verifier's eight bytes are a number's
unfoldable pub list_range_form : Format ListRange
list_range_form = mapped (λ (d, (c, (v, n))). record { dir = d; cookie = c; verifier = v; count = n }) (λ r. (r.dir, (r.cookie, (r.verifier, r.count)))) (λ _. refl) (λ _. refl)
    (handle_form ⋆ u64_form ⋆ u64_form ⋆ u32_form)

-- entry3 without the flag before it (RFC 1813, section 3.3.16)
unfoldable pub entry_form : Format Entry
entry_form = mapped (λ (i, (n, c)). record { fileid = i; name = n; cookie = c }) (λ e. (e.fileid, (e.name, e.cookie))) (λ _. refl) (λ _. refl)
    (u64_form ⋆ name_form ⋆ u64_form)

-- READDIR3resok (RFC 1813, section 3.3.16)
unfoldable pub listing_form : Format Listing
listing_form = mapped (λ (a, (v, (es, e))). record { attr = a; verifier = v; entries = es; eof = e }) (λ l. (l.attr, (l.verifier, (l.entries, l.eof)))) (λ _. refl) (λ _. refl)
    (optional attr_form ⋆ u64_form ⋆ chained entry_form ⋆ bool_form)

-- the sizes of READ, and of WRITE, in FSINFO3resok (RFC 1813, section 3.3.19)
unfoldable pub sizes_form : Format Sizes
sizes_form = mapped (λ (m, (b, n)). record { most = m; best = b; multiple = n }) (λ s. (s.most, (s.best, s.multiple))) (λ _. refl) (λ _. refl)
    (u32_form ⋆ u32_form ⋆ u32_form)

-- FSINFO3resok (RFC 1813, section 3.3.19)
unfoldable pub fs_info_form : Format FsInfo
fs_info_form = mapped (λ (a, (r, (w, (d, (m, (t, p)))))). record { attr = a; reading = r; writing = w; dtpref = d; maxfilesize = m; time_delta = t; properties = p }) (λ f. (f.attr, (f.reading, (f.writing, (f.dtpref, (f.maxfilesize, (f.time_delta, f.properties))))))) (λ _. refl) (λ _. refl)
    (optional attr_form ⋆ sizes_form ⋆ sizes_form ⋆ u32_form ⋆ u64_form ⋆ time_form ⋆ u32_form)
