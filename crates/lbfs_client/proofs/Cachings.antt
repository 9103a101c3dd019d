-- What comes of a cache file that is read, or written.
use Rattle.std.proofs.Common.{◌≡◌, refl, ℕ, List, Result}
use Rattle.std.specs.Prelude.{Option, Bool}
use Rattle.links.specs.declared.files.FilesError.{FilesError}
use Rattle.client_state.specs.State.{State}
use Rattle.lbfs_client.specs.Caching.{LoadsRead, Loads, Looks, SavesTo, Saves}
use Rattle.lbfs_client.specs.Host.{Host}
use Rattle.lbfs_client.specs.declared.answer.Answer.{Answer}
use Rattle.lbfs_client.specs.declared.walk.Walk.{Walk}

pub loaded : (host host' : Host) (client client' : State) (walk : Option Walk) (name : List ℕ) (read : Result (List ℕ) FilesError) (told : Option Answer) (replaces : Bool) → Looks host name read replaces host' → LoadsRead client read told client'
    → Loads (record { host = host; client = client; walk = walk }) name told replaces (record { host = host'; client = client'; walk = walk })
loaded host host' client client' walk name read told replaces h l = record { read = read; looks = h; walk_is = refl; loads = l }

pub saved : (host host' : Host) (client : State) (walk : Option Walk) (name : List ℕ) (told : Option Answer) → SavesTo host client name told host'
    → Saves (record { host = host; client = client; walk = walk }) name told (record { host = host'; client = client; walk = walk })
saved host host' client walk name told h = record { host = h; client = refl; walk_is = refl }
