use Rattle.std.proofs.Common.{sym, subst}
use Rattle.std.specs.List.{All}
use Rattle.client_cache.specs.Cache.{Entries}
use Rattle.client_state.specs.View.{IsKeptBounded, TaskIsThere}
use Rattle.client_state.proofs.lemmas.Keeping.{bounded_evicted, task_there}
use Rattle.client_state.proofs.lemmas.Pending.{sound_cache}
use Rattle.client_state.proofs.state.ClientState.evict.Goals as goal

pub returns-clause-sound : goal.returns-clause-sound
returns-clause-sound c =
    let s = c.args.self.now in
    sound_cache s c.evict.new.self c.requires (subst (λ (es : Entries). All IsKeptBounded es) (sym c.evict.ensures) (bounded_evicted s.cache c.args.file c.requires.base.kept)) (subst (λ (es : Entries). TaskIsThere es s.task) (sym c.evict.ensures) (task_there s.cache c.args.file s.task c.requires.there))
