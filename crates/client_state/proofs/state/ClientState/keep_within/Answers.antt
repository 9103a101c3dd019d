use Rattle.std.proofs.Common.{arith}
use Rattle.client_state.specs.Bounding.{kept_within}
use Rattle.client_state.specs.View.{state_of}
use Rattle.client_state.proofs.OldestFirst.{goes_down, all_seen}
use Rattle.client_state.proofs.state.ClientState.keep_within.Goals as goal

pub contents-preserved : goal.contents-preserved
contents-preserved c = record {
  leads = goes_down c.args.most c.contents.left (state_of c.contents.self) (state_of c.evict_if_over.new.self) (kept_within c.args.most (state_of c.args.self.now)) c.contents-test.true c.evict_if_over.ensures.rest c.contents.invariant.leads;
  sound = c.evict_if_over.ensures.sound;
}

pub returns-clause-rest : goal.returns-clause-rest
returns-clause-rest c = all_seen c.args.most c.contents.left (state_of c.contents.self) (kept_within c.args.most (state_of c.args.self.now)) (omega (arith, c.contents-test.false)) c.contents.invariant.leads
