-- No event changes which version of LBFS the clients speak.
use Rattle.std.proofs.Common.{◌≡◌, refl}
use Rattle.trace_ends.specs.Core.{Core, Event, happens}
use Rattle.kept_promise.proofs.Happens.{what_happens}

pub same_version : (k : Core) (e : Event) → (happens k e).core.lbfs ≡ k.lbfs
same_version k e = what_happens k e (λ t. t.core.lbfs ≡ k.lbfs) (record {
  nothing = refl;
  idle = refl;
  joins = λ c seat is. refl;
  refuses = λ c seat is. refl;
  does = λ c now d seat is. refl;
  takes = λ n now bytes x m is at unhung read. refl;
  closes = λ n now bytes x is at unhung. refl;
  hears = λ n now bytes owner seat is. refl;
  settles = λ now is. refl;
  cuts = λ c seat is. refl;
  hangs = λ n x is at unhung. refl;
  raw_joins = λ is. refl;
  raw_refuses = λ is. refl;
})
