-- A page of a directory past what a listing may have at a mount.
use Rattle.std.specs.Prelude.{ℕ, ◌*◌, ◌^◌, Bool, true, false, [], Result, Ok, Err, nat_lt}
use Rattle.xdr_codec.specs.declared.answer.Answer.TheVariants.{Done}
use Rattle.nfs3_calls.specs.declared.listing.Listing.{Listing}
use Rattle.nfs3_calls.specs.declared.message.Nfs.{Nfs}
use Rattle.nfs3_calls.specs.declared.message.Nfs.TheVariants as nfs
use Rattle.wire.specs.declared.fault.WireFault.{WireFault}
use Rattle.wire.specs.declared.message.Body.{Body}
use Rattle.wire.specs.declared.message.Body.TheVariants as body
use Rattle.wire.specs.declared.message.Message.{Message}
use Rattle.wire.specs.declared.message.Message.TheVariants as message

-- how many bytes the answers to a line may have together
abbrev pub listed_most : ℕ
listed_most = 64 * 2 ^ 20

-- no entry, and not the last page: such a page ends a listing by BadPeer, with the fault of a shape
abbrev pub emptied_page : Listing → Listing
emptied_page l = record { attr = l.attr; verifier = l.verifier; entries = []; eof = false }

abbrev pub emptied_answer : Nfs → Nfs
emptied_answer (nfs.ReadDirAnswer (Done l)) = nfs.ReadDirAnswer (Done (emptied_page l))
emptied_answer a = a

abbrev pub emptied_body : Body → Body
emptied_body (body.Nfs a) = body.Nfs (emptied_answer a)
emptied_body b = b

abbrev pub emptied : Message → Message
emptied (message.Answer xid b) = message.Answer xid (emptied_body b)
emptied m = m

abbrev pub emptied_if : (past : Bool) → Result Message WireFault → Result Message WireFault
emptied_if true (Ok m) = Ok (emptied m)
emptied_if past m = m

-- what came, once the answers to the line have so many bytes
abbrev pub bounded : (listed : ℕ) → Result Message WireFault → Result Message WireFault
bounded listed m = emptied_if (nat_lt listed_most listed) m
