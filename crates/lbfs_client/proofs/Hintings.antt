-- What comes of a file of the host that is offered.
use Rattle.std.proofs.Common.{◌≡◌, refl, ℕ, List, Bool, true, false, Result, Ok, Err}
use Rattle.links.specs.declared.files.FilesError.{FilesError}
use Rattle.client_state.specs.State.{State}
use Rattle.lbfs_client.specs.Host.{Host, HasRead}
use Rattle.lbfs_client.specs.Hinting.{OffersRead, OffersIf}
use Rattle.lbfs_client.specs.declared.walk.Walk.{Walk}
use Rattle.std.specs.Prelude.{Option}

pub offered_if : (done : Bool) (host host' : Host) (client client' : State) (walk : Option Walk) (name : List ℕ) (read : Result (List ℕ) FilesError) → HasRead host name read host' → OffersRead client read done client' → OffersIf done (record { host = host; client = client; walk = walk }) name (record { host = host'; client = client'; walk = walk })
offered_if true host host' client client' walk name read h o = record { read = read; reads = h; walk_is = refl; offers = o }
offered_if false host host' client client' walk name (Ok bytes) h o = record { files = h.kept; later = h.later; client = o; walk_is = refl }
offered_if false host host' client client' walk name (Err e) h o = record { files = h.kept; later = h.later; client = o; walk_is = refl }
