-- What a shell hears in answers beside what its client tells of them.
use Rattle.std.specs.Prelude.{◌≡◌, ◌⊎◌, ℕ, ◌==◌, List, [], ◌++◌, length, map, Option, Some, None, Result, Ok, Bool, true, false}
use Rattle.xdr_codec.specs.Handle.{file_of}
use Rattle.xdr_codec.specs.declared.answer.Answer.TheVariants.{Done}
use Rattle.nfs3_calls.specs.declared.listing.Entry.{Entry}
use Rattle.nfs3_calls.specs.declared.message.Nfs.{Nfs}
use Rattle.nfs3_calls.specs.declared.message.Nfs.TheVariants as nfs
use Rattle.wire.specs.declared.fault.WireFault.{WireFault}
use Rattle.wire.specs.declared.message.Body.TheVariants as body
use Rattle.wire.specs.declared.message.Message.{Message}
use Rattle.wire.specs.declared.message.Message.TheVariants as message
use Rattle.shell_link.specs.declared.hearing.Heard.{Heard}
use Rattle.shell_walks.specs.declared.remote.Listed.{Listed}

abbrev pub nothing_heard : Heard
nothing_heard = record { ids = Some []; made = None; came = false }

-- the ids of a page (RFC 1813, section 3.3.16: fileid) go behind those that there are; there are none any more where memory runs out
abbrev pub HeedsPage : Option (List ℕ) → List Entry → Option (List ℕ) → Type 0
HeedsPage None es new = new ≡ None
HeedsPage (Some ids) es new = (new ≡ None) ⊎ (new ≡ Some (ids ++ map (λ e. e.fileid) es))

-- the handle of what was made may be absent (RFC 1813, section 3.3.8: obj)
abbrev pub made_id : Option (List ℕ) → Option ℕ
made_id None = None
made_id (Some handle) = file_of handle

abbrev pub HeedsNfs : Heard → Nfs → Heard → Type 0
HeedsNfs h (nfs.ReadDirAnswer (Done l)) new = (new.made ≡ h.made) × (new.came ≡ h.came) × HeedsPage h.ids l.entries new.ids
HeedsNfs h (nfs.CreateAnswer (Done m)) new = new ≡ record h { made = made_id m.handle }
HeedsNfs h a new = new ≡ h

abbrev pub HeedsMessage : Heard → Result Message WireFault → Heard → Type 0
HeedsMessage h (Ok (message.Answer xid (body.Nfs a))) new = HeedsNfs h a new
HeedsMessage h m new = new ≡ h

-- whatever comes tells that somebody is there
abbrev pub Heeds : Heard → Result Message WireFault → Heard → Type 0
Heeds h m new = HeedsMessage (record h { came = true }) m new

-- ---- what it comes to

-- One for each name: all pages of a listing are heard, so where there are as many they are those of the names.
abbrev pub ids_if : (ids : List ℕ) → (as_many : Bool) → List ℕ
ids_if ids true = ids
ids_if ids false = []

abbrev pub ids_for : (count : ℕ) → Option (List ℕ) → List ℕ
ids_for count None = []
ids_for count (Some ids) = ids_if ids (length ids == count)

abbrev pub listed_as : List (List ℕ) → Option (List ℕ) → Listed
listed_as names ids = record { names = names; ids = ids_for (length names) ids }
