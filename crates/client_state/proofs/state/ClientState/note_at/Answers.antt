use Rattle.std.proofs.Common.{sym, subst}
use Rattle.std.specs.List.{All}
use Rattle.client_cache.specs.Cache.{Entries}
use Rattle.client_state.specs.View.{IsKeptBounded, TaskIsThere}
use Rattle.client_state.proofs.lemmas.Keeping.{bounded_noted, task_noted}
use Rattle.client_state.proofs.lemmas.Pending.{sound_cache}
use Rattle.client_state.proofs.state.ClientState.note_at.Goals as goal

pub returns-in-Some-clause-sound : goal.returns-in-Some-clause-sound
returns-in-Some-clause-sound c =
    let s = c.args.self.now in
    let file = c.args.file in
    let until = c.in-Some.until in
    sound_cache s c.note_lease.new.self c.requires (subst (λ (es : Entries). All IsKeptBounded es) (sym c.note_lease.ensures) (bounded_noted s.cache file c.args.version until c.requires.base.kept)) (subst (λ (es : Entries). TaskIsThere es s.task) (sym c.note_lease.ensures) (task_noted s.cache file c.args.version until s.task c.requires.there))
