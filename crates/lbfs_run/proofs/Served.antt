-- How serving ended, from what was answered.
use Rattle.std.proofs.Common.{◌≡◌, ◌⊎◌, ℕ, List, Option, Some, Result, Ok, Err, refl, ap, ◌∙◌, inl, inr, arith}
use Rattle.std.specs.Prelude.{IfOk, OnOk, IsErrOf}
use Rattle.lb_base.specs.Causes.{Rose}
use Rattle.exit_status.specs.declared.status.Status.{Status}
use Rattle.exit_status.specs.declared.status.Status.TheVariants as status
use Rattle.store.specs.declared.record.Kept.{Kept}
use Rattle.lbfs_server.specs.Ends.{CountsMore}
use Rattle.lbfs_server.specs.Serve.{IsBad}
use Rattle.lbfs_server.specs.declared.serve.Served.{Served}
use Rattle.lbfs_server.specs.declared.serve.ServeError.{ServeError}
use Rattle.lbfs_server.specs.declared.serve.ServeError.TheVariants as errors
use Rattle.program_words.specs.declared.asked.ServeOptions.{ServeOptions}
use Rattle.lbfs_run.specs.Ends.{StoreFails}
use Rattle.lbfs_run.specs.Serving.{ServeCause, serve_output}
use Rattle.lbfs_run.specs.Telling.{Tells}

pub cause : (o : ServeOptions) (accepted accepted' net net' store store' : ℕ) (port : Option ℕ) (records : Option (List Kept)) (there : List ℕ → Option (List Kept)) (place : List ℕ) (ended : Result Served ServeError)
    → IfOk ended (λ s. (s.sessions ≡ o.sessions) × CountsMore accepted o.sessions accepted')
    → OnOk ended (port ≡ Some o.port) → OnOk ended (records ≡ there place) → place ≡ o.store
    → (IsErrOf ended errors.Network → Rose net net') → (IsErrOf ended errors.Store → Rose store store')
    → ((which : ℕ) → IsErrOf ended (errors.BadRecord which) → IsBad records which)
    → (IsErrOf ended errors.NoThread → (accepted' ≡ accepted) × (net' ≡ net))
    → ServeCause o accepted accepted' net net' store store' port records there ended
cause o accepted accepted' net net' store store' port records there place (Ok s) ok listens stands is network stored bad alone = (ok.0, ok.1, listens, stands ∙ ap there is)
cause o accepted accepted' net net' store store' port records there place (Err errors.Network) ok listens stands is network stored bad alone = network refl
cause o accepted accepted' net net' store store' port records there place (Err errors.Store) ok listens stands is network stored bad alone = stored refl
cause o accepted accepted' net net' store store' port records there place (Err (errors.BadRecord which)) ok listens stands is network stored bad alone = bad which refl
cause o accepted accepted' net net' store store' port records there place (Err errors.Memory) ok listens stands is network stored bad alone = tt
cause o accepted accepted' net net' store store' port records there place (Err errors.NoThread) ok listens stands is network stored bad alone = alone refl

pub network_rose : (o : ServeOptions) (accepted accepted' net net' store store' : ℕ) (port : Option ℕ) (records : Option (List Kept)) (there : List ℕ → Option (List Kept)) (held held' : Option (List ℕ)) (s : Status) (ended : Result Served ServeError)
    → ServeCause o accepted accepted' net net' store store' port records there ended → Tells s held held' (serve_output ended) → s ≡ status.Network → Rose net net'
network_rose o accepted accepted' net net' store store' port records there held held' s (Err errors.Network) h told e = h
network_rose o accepted accepted' net net' store store' port records there held held' s ended h told e = grind (arith, told, e)

pub store_failed : (o : ServeOptions) (accepted accepted' net net' store store' : ℕ) (port : Option ℕ) (records : Option (List Kept)) (there : List ℕ → Option (List Kept)) (held held' : Option (List ℕ)) (s : Status) (ended : Result Served ServeError)
    → ServeCause o accepted accepted' net net' store store' port records there ended → Tells s held held' (serve_output ended) → s ≡ status.Store → StoreFails store store' records held held'
store_failed o accepted accepted' net net' store store' port records there held held' s (Err errors.Store) h (inl told) e = inl (h, told.1)
store_failed o accepted accepted' net net' store store' port records there held held' s (Err (errors.BadRecord which)) h (inl told) e = inr (which, h, told.1)
store_failed o accepted accepted' net net' store store' port records there held held' s ended h (inl told) e = grind (arith, told, e)
store_failed o accepted accepted' net net' store store' port records there held held' s ended h (inr told) e = grind (arith, told, e)

pub known : (held held' : Option (List ℕ)) (s : Status) (ended : Result Served ServeError) → Tells s held held' (serve_output ended)
    → (s ≡ status.Done) ⊎ (s ≡ status.WriteFault) ⊎ (s ≡ status.Memory) ⊎ (s ≡ status.Network) ⊎ (s ≡ status.Store) ⊎ (s ≡ status.NoThread)
known held held' s (Err errors.Store) told = grind (arith, told)
known held held' s ended told = grind (arith, told)
