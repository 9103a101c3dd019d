-- Hints that the client gets: what is known where one was taken, and where none was.
use Rattle.std.proofs.Common.{◌≡◌, subst, ℕ, List, Bool, Result, Ok, Err, IfOk, OnErr}
use Rattle.client_state.specs.Hints.{Learns, Offers}
use Rattle.client_state.specs.State.{State}
use Rattle.shell_link.specs.Asking.{MayLearn, MayLearn.nothing_learned, MayLearn.learned, MayOffer, MayOffer.nothing_offered, MayOffer.offered}

pub may_learn : {E : Type 0} (s t : State) (file : ℕ) (r : Result Bool E) → IfOk r (λ l. Learns s file l t) → OnErr r (t ≡ s) → MayLearn s t
may_learn s t file (Ok l) ok same = learned file l t ok
may_learn s t file (Err e) ok same = nothing_learned t same

pub may_offer : {E : Type 0} (s t : State) (content bytes : List ℕ) (r : Result Bool E) → content ≡ bytes → IfOk r (λ l. Offers s content l t) → OnErr r (t ≡ s) → MayOffer s bytes t
may_offer s t content bytes (Ok l) is ok same = offered l t (subst (λ (b : List ℕ). Offers s b l t) is ok)
may_offer s t content bytes (Err e) is ok same = nothing_offered t same
