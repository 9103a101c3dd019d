use Rattle.client_state.proofs.lemmas.Pending.{sound_index}
use Rattle.client_state.proofs.state.ClientState.forge.Goals as goal

pub returns-in-Ok-clause-sound : goal.returns-in-Ok-clause-sound
returns-in-Ok-clause-sound c = sound_index c.args.self.now c.forge.new.self c.requires

pub returns-in-Err-clause-sound : goal.returns-in-Err-clause-sound
returns-in-Err-clause-sound c = sound_index c.args.self.now c.forge.new.self c.requires
