-- Which messages are short enough for a record.
use Rattle.std.specs.Prelude.{ℕ, ◌+◌, ◌≤◌, length}
use Rattle.limits.specs.declared.TheConstants.{PIECE_MOST, LISTING_MOST}
use Rattle.xdr_codec.specs.declared.answer.Answer.TheVariants.{Done}
use Rattle.nfs3_calls.specs.Calls.{listing_form}
use Rattle.nfs3_calls.specs.declared.message.Nfs.{Nfs}
use Rattle.nfs3_calls.specs.declared.message.Nfs.TheVariants as nfs
use Rattle.hash_calls.specs.declared.message.Lb.{Lb}
use Rattle.hash_calls.specs.declared.message.Lb.TheVariants as lb
use Rattle.wire.specs.declared.message.Body.{Body}
use Rattle.wire.specs.declared.message.Body.TheVariants as body
use Rattle.wire.specs.declared.message.Message.{Message}
use Rattle.wire.specs.declared.message.Message.TheVariants.{Call, Answer, Refuse, Unfit}

-- The most bytes of the names in a small call. It is no limit of the protocol, which takes a name as long as its record: a longer one is the server's to refuse.
abbrev pub small_names : ℕ
small_names = 65536

-- the names of a call, the bytes of a READ, and the whole result of a READDIR
abbrev pub IsSmallNfs : Nfs → Type 0
IsSmallNfs (nfs.Lookup p) = length p.name ≤ small_names
IsSmallNfs (nfs.ReadAnswer (Done p)) = length p.bytes ≤ PIECE_MOST
IsSmallNfs (nfs.Create f) = length f.place.name ≤ small_names
IsSmallNfs (nfs.MkDir d) = length d.place.name ≤ small_names
IsSmallNfs (nfs.Remove p) = length p.name ≤ small_names
IsSmallNfs (nfs.RmDir p) = length p.name ≤ small_names
IsSmallNfs (nfs.Rename r) = length r.from.name + length r.to.name ≤ small_names
IsSmallNfs (nfs.ReadDirAnswer (Done l)) = length (listing_form.spell l) ≤ LISTING_MOST
IsSmallNfs n = Unit {0}

-- the name of a LOOKLEASE; all else that a message of LBFS holds has a maximum
abbrev pub IsSmallLb : Lb → Type 0
IsSmallLb (lb.LookLease l) = length l.name ≤ small_names
IsSmallLb l = Unit {0}

-- all that a message of the callback program holds has a maximum
abbrev pub IsSmallBody : Body → Type 0
IsSmallBody (body.Nfs n) = IsSmallNfs n
IsSmallBody (body.Lb l) = IsSmallLb l
IsSmallBody (body.Back b) = Unit {0}

abbrev pub IsSmall : Message → Type 0
IsSmall (Call xid b) = IsSmallBody b
IsSmall (Answer xid b) = IsSmallBody b
IsSmall (Refuse xid why) = Unit {0}
IsSmall (Unfit xid why) = Unit {0}
