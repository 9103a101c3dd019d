use Rattle.std.proofs.Common.{◌≡◌}
use Rattle.client_state.specs.Bounding.{evicted_oldest, kept_within}
use Rattle.client_state.specs.View.{state_of, IsSound}
use Rattle.client_state.proofs.state.ClientState.keep_within.Given as goal

abbrev pub invariant-contents : goal.invariant-contents
invariant-contents l = record {
  leads : evicted_oldest l.most l.left (state_of l.self) ≡ kept_within l.most (state_of l.initial.self);
  sound : IsSound l.self;
}

abbrev pub decreases-contents : goal.decreases-contents
decreases-contents l = l.left
