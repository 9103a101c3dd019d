-- What the calls are told that change nothing (RFC 1813, sections 3.3.0, 1, 3, 4, 6, 16 and 19).
use Rattle.std.specs.Prelude.{ℕ, List, Option, Some, None, Result, Ok, Err, IsOk, bit_and}
use Rattle.limits.specs.declared.TheConstants.{FILE_MOST, LISTING_MOST, PIECE_MOST}
use Rattle.xdr_codec.specs.Handle.{file_of, handle_bytes}
use Rattle.xdr_codec.specs.declared.answer.Answer.{Answer}
use Rattle.xdr_codec.specs.declared.answer.Answer.TheVariants.{Done, Failed}
use Rattle.xdr_codec.specs.declared.attr.Attr.{Attr}
use Rattle.xdr_codec.specs.declared.status.Status.{Status}
use Rattle.xdr_codec.specs.declared.status.Status.TheVariants as status
use Rattle.nfs3_calls.specs.declared.call.Access.{Access}
use Rattle.nfs3_calls.specs.declared.call.Granted.{Granted}
use Rattle.nfs3_calls.specs.declared.call.Piece.{Piece}
use Rattle.nfs3_calls.specs.declared.call.Range.{Range}
use Rattle.nfs3_calls.specs.declared.fs_info.FsInfo.{FsInfo}
use Rattle.nfs3_calls.specs.declared.listing.Listing.{Listing}
use Rattle.nfs3_calls.specs.declared.listing.ListRange.{ListRange}
use Rattle.nfs3_calls.specs.declared.message.Nfs.{Nfs}
use Rattle.nfs3_calls.specs.declared.message.Nfs.TheVariants as nfs
use Rattle.nfs3_calls.specs.declared.place.Found.{Found}
use Rattle.nfs3_calls.specs.declared.place.Place.{Place}
use Rattle.tree_nodes.specs.declared.node.Node.{Node}
use Rattle.tree_reading.specs.Chain.{◌>>=◌}
use Rattle.tree_reading.specs.Reading.{attr, lookup, read, list}
use Rattle.tree_reading.specs.declared.reading.Looked.{Looked}

-- ---- handles

-- a handle of another form is BADHANDLE, before all else
abbrev pub or_bad_handle : Option ℕ → Result ℕ Status
or_bad_handle None = Err status.BadHandle
or_bad_handle (Some id) = Ok id

abbrev pub id_of : List ℕ → Result ℕ Status
id_of handle = or_bad_handle (file_of handle)

-- ---- what is found

abbrev pub getattr : List Node → List ℕ → Result Attr Status
getattr nodes handle = id_of handle >>= λ id. attr nodes id

abbrev pub found_of : Looked → Found
found_of l = record { handle = handle_bytes l.id; attr = Some l.attr; dir = Some l.dir }

abbrev pub found : List Node → Place → Result Found Status
found nodes p = id_of p.dir >>= λ dir. lookup nodes dir p.name >>= λ l. Ok (found_of l)

-- there are six rights, and all are granted that are asked for
abbrev pub granted : List Node → Access → Result Granted Status
granted nodes a = getattr nodes a.handle >>= λ x. Ok (record { attr = Some x; bits = bit_and a.bits 63 })

abbrev pub piece : List Node → Range → Result Piece Status
piece nodes r = id_of r.handle >>= λ id. read nodes id r.offset r.count

abbrev pub listing : List Node → ListRange → Result Listing Status
listing nodes l = id_of l.dir >>= λ dir. list nodes dir l.cookie l.verifier l.count

-- READ and READDIR of their limits, no WRITE, files of theirs, times of a nanosecond, and the same answers whatever the file (FSF3_HOMOGENEOUS)
abbrev pub info_of : Attr → FsInfo
info_of a = record {
  attr = Some a;
  reading = record { most = PIECE_MOST; best = PIECE_MOST; multiple = 1 };
  writing = record { most = 0; best = 0; multiple = 0 };
  dtpref = LISTING_MOST;
  maxfilesize = FILE_MOST;
  time_delta = record { seconds = 0; nanoseconds = 1 };
  properties = 8;
}

abbrev pub info : List Node → List ℕ → Result FsInfo Status
info nodes handle = getattr nodes handle >>= λ a. Ok (info_of a)

-- ---- what is answered: in a failure no attributes

abbrev pub answer_of : {A F : Type 0} → F → Result A Status → Answer A F
answer_of f (Ok x) = Done x
answer_of f (Err s) = Failed s f

-- of a message that is none of these calls nothing
abbrev pub told : List Node → Nfs → Option Nfs
told nodes nfs.Null = Some nfs.NullAnswer
told nodes (nfs.GetAttr handle) = Some (nfs.GetAttrAnswer (answer_of tt (getattr nodes handle)))
told nodes (nfs.Lookup p) = Some (nfs.LookupAnswer (answer_of None (found nodes p)))
told nodes (nfs.Access a) = Some (nfs.AccessAnswer (answer_of None (granted nodes a)))
told nodes (nfs.Read r) = Some (nfs.ReadAnswer (answer_of None (piece nodes r)))
told nodes (nfs.ReadDir l) = Some (nfs.ReadDirAnswer (answer_of None (listing nodes l)))
told nodes (nfs.FsInfo handle) = Some (nfs.FsInfoAnswer (answer_of None (info nodes handle)))
told nodes m = None

-- memory is taken for a handle, bytes or entries that are given, and for nothing else
abbrev pub TakesTold : List Node → Nfs → Type 0
TakesTold nodes (nfs.Lookup p) = IsOk (found nodes p)
TakesTold nodes (nfs.Read r) = IsOk (piece nodes r)
TakesTold nodes (nfs.ReadDir l) = IsOk (listing nodes l)
TakesTold nodes m = ⊥
