-- Worked rows of a listing's bound.
use Rattle.std.proofs.Common.{◌≡◌, ℕ, ◌+◌, [], ◌∷◌, refl}
use Rattle.std.specs.Prelude.{None, Result, Ok, true, false}
use Rattle.xdr_codec.specs.declared.answer.Answer.TheVariants.{Done}
use Rattle.nfs3_calls.specs.declared.listing.Listing.{Listing}
use Rattle.nfs3_calls.specs.declared.message.Nfs.TheVariants as nfs
use Rattle.wire.specs.declared.fault.WireFault.{WireFault}
use Rattle.wire.specs.declared.message.Body.TheVariants as body
use Rattle.wire.specs.declared.message.Message.{Message}
use Rattle.wire.specs.declared.message.Message.TheVariants as message
use Rattle.lbfs_client.specs.Paging.{listed_most, bounded}

-- a page with the name 'a', and one without an entry
abbrev page : Result Message WireFault
page = Ok (message.Answer 7 (body.Nfs (nfs.ReadDirAnswer (Done (record { attr = None; verifier = 1; entries = record { fileid = 2; name = 97 ∷ []; cookie = 3 } ∷ []; eof = true })))))

abbrev none : Result Message WireFault
none = Ok (message.Answer 7 (body.Nfs (nfs.ReadDirAnswer (Done (record { attr = None; verifier = 1; entries = []; eof = false })))))

within : bounded listed_most page ≡ page
within = refl

past : bounded (listed_most + 1) page ≡ none
past = refl
