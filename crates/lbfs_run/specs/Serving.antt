-- How serving a store's tree ends, and what is written then.
use Rattle.std.specs.Prelude.{◌≡◌, ℕ, List, [], ◌++◌, Option, Some, Result, Ok, Err, codes, decimal}
use Rattle.lb_base.specs.Causes.{Rose}
use Rattle.store.specs.declared.record.Kept.{Kept}
use Rattle.lbfs_server.specs.Ends.{CountsMore}
use Rattle.lbfs_server.specs.Serve.{IsBad}
use Rattle.lbfs_server.specs.declared.serve.Served.{Served}
use Rattle.lbfs_server.specs.declared.serve.ServeError.{ServeError}
use Rattle.lbfs_server.specs.declared.serve.ServeError.TheVariants as errors
use Rattle.program_words.specs.declared.asked.ServeOptions.{ServeOptions}
use Rattle.exit_status.specs.declared.status.Status.{Status}
use Rattle.exit_status.specs.declared.status.Status.TheVariants as status
use Rattle.lbfs_run.specs.Telling.{Tells}

-- how many sessions were served, and how long the journal of the changes was in the end
abbrev pub served_text : (sessions front : ℕ) → List ℕ
served_text sessions front = codes "sessions " ++ decimal sessions ++ codes " journal " ++ decimal front ++ codes "\n"

abbrev pub record_text : (which : ℕ) → List ℕ
record_text which = codes "store record " ++ decimal which ++ codes "\n"

abbrev pub fault_text : List ℕ
fault_text = codes "store fault\n"

-- the status, and what is written
abbrev pub serve_output : Result Served ServeError → Status × List ℕ
serve_output (Ok s) = (status.Done, served_text s.sessions s.front)
serve_output (Err errors.Network) = (status.Network, [])
serve_output (Err errors.Store) = (status.Store, fault_text)
serve_output (Err (errors.BadRecord which)) = (status.Store, record_text which)
serve_output (Err errors.Memory) = (status.Memory, [])
serve_output (Err errors.NoThread) = (status.NoThread, [])

-- why serving ended so: at least as many links were accepted as sessions were asked for, the network listens at the port that was asked
-- for, and the store's records are those at the place; the network's count of faults rose; the store's did; this record is the first
-- that breaks a rule; nobody listened
abbrev pub ServeCause : ServeOptions → (accepted accepted' net net' store store' : ℕ) → (port : Option ℕ) → (records : Option (List Kept)) → (there : List ℕ → Option (List Kept)) → Result Served ServeError → Type 0
ServeCause o accepted accepted' net net' store store' port records there (Ok s) = (s.sessions ≡ o.sessions) × CountsMore accepted o.sessions accepted' × (port ≡ Some o.port) × (records ≡ there o.store)
ServeCause o accepted accepted' net net' store store' port records there (Err errors.Network) = Rose net net'
ServeCause o accepted accepted' net net' store store' port records there (Err errors.Store) = Rose store store'
ServeCause o accepted accepted' net net' store store' port records there (Err (errors.BadRecord which)) = IsBad records which
ServeCause o accepted accepted' net net' store store' port records there (Err errors.Memory) = Unit {0}
ServeCause o accepted accepted' net net' store store' port records there (Err errors.NoThread) = (accepted' ≡ accepted) × (net' ≡ net)

-- serving ended in one of these ways, with its cause, and that was written with its status
abbrev pub ServeEnds : ServeOptions → (accepted accepted' net net' store store' : ℕ) → (port : Option ℕ) → (records : Option (List Kept)) → (there : List ℕ → Option (List Kept)) → (held held' : Option (List ℕ)) → Status → Type 0
ServeEnds o accepted accepted' net net' store store' port records there held held' s =
    (ended : Result Served ServeError) × ServeCause o accepted accepted' net net' store store' port records there ended × Tells s held held' (serve_output ended)
