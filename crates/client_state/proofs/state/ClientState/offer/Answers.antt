use Rattle.std.proofs.Common.{sym, subst, ◌∙◌}
use Rattle.std.specs.List.{All}
use Rattle.client_cache.specs.Cache.{Entries}
use Rattle.client_state.specs.Hints.{offered_file}
use Rattle.client_state.specs.View.{IsKeptBounded}
use Rattle.client_state.proofs.lemmas.Keeping.{bounded_reserved, bounded_kept}
use Rattle.client_state.proofs.lemmas.Pending.{sound_hints}
use Rattle.client_state.proofs.state.ClientState.offer.Goals as goal

pub returns-clause-sound : goal.returns-clause-sound
returns-clause-sound c =
    let s = c.args.self.now in
    sound_hints s c.keep.new.cache c.enter.new.index c.requires.sound (subst (λ (es : Entries). All IsKeptBounded es) (sym c.in_ok-keep.ensures.ok) (bounded_kept _ offered_file 0 _ (bounded_reserved s.cache offered_file c.requires.sound.base.kept) c.requires.small)) (sym c.is_some.ensures ∙ c.if-is_some.false)
