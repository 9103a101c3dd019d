use Rattle.client_state.proofs.lemmas.Pending.{sound_index}
use Rattle.client_state.proofs.state.ClientState.clear_index.Goals as goal

pub returns-clause-sound : goal.returns-clause-sound
returns-clause-sound c = sound_index c.args.self.now c.clear.new.self c.requires
