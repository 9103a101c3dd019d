use Rattle.std.proofs.Common.{◌≡◌, ◌≤◌, ◌∙◌, ℕ, List, length, sym, subst, arith}
use Rattle.std.specs.List.{All}
use Rattle.limits.specs.declared.TheConstants.{FILE_MOST}
use Rattle.client_cache.specs.Cache.{Entries}
use Rattle.client_state.specs.Hints.{cached_file}
use Rattle.client_state.specs.View.{IsKeptBounded}
use Rattle.client_state.proofs.lemmas.Keeping.{bounded_reserved, bounded_kept}
use Rattle.client_state.proofs.lemmas.Pending.{sound_hints}
use Rattle.client_state.proofs.state.ClientState.warm.Goals as goal

pub returns-clause-sound : goal.returns-clause-sound
returns-clause-sound c =
    let s = c.args.self.now in
    let fits : length c.in_ok-bytes.bytes ≤ FILE_MOST = omega (arith, c.if-len-gt-FILE_MOST.false, c.len.ensures) in
    let small : length c.in_ok-content.content ≤ FILE_MOST = subst (λ (bytes : List ℕ). length bytes ≤ FILE_MOST) (sym c.in_ok-content.ensures.ok) fits in
    sound_hints s c.keep.new.cache c.enter.new.index c.requires (subst (λ (es : Entries). All IsKeptBounded es) (sym c.in_ok-keep.ensures.ok) (bounded_kept _ cached_file 0 _ (bounded_reserved s.cache cached_file c.requires.base.kept) small)) (sym c.is_some.ensures ∙ c.if-is_some.false)
