-- A run carries that no tree of it had a node of the id 0.
use Rattle.std.proofs.Common.{◌≡◌, None, inl, inr, subst, arith}
use Rattle.tree_nodes.specs.Nodes.{with_id}
use Rattle.trace_replay.specs.Naming.{tree_at}
use Rattle.kept_promise.proofs.Common.{Contains-push_cases, Moment}
use Rattle.kept_promise.proofs.RunsCarried.{moment, Carried}
use Rattle.kept_promise.proofs.NoZero.{HaveNoZero}

pub carried_no_zero : Carried (λ all past opening k qs. HaveNoZero past)
carried_no_zero = record {
  first = λ all opening tree count kept. λ m there. (let lt = there.1 in absurd (omega (arith, lt)));
  steps = λ all past rest opening k qs e mid after s h. λ m there. elim (Contains-push_cases past (moment k e) m there) [
    | inl old ↦ h m old
    | inr new ↦ subst (λ (z : Moment). with_id (tree_at z).nodes 0 ≡ None) new s.kept.server.zero
  ];
  adjusts = λ all past opening k qs index seats same h. h;
}
