use Rattle.std.proofs.Common.{sym, ap, subst}
use Rattle.std.specs.List.{All}
use Rattle.client_cache.specs.Cache.{Entries}
use Rattle.client_state.specs.View.{IsKeptBounded}
use Rattle.client_state.specs.declared.state.ClientState.{ClientState}
use Rattle.client_state.proofs.lemmas.Keeping.{bounded_kept}
use Rattle.client_state.proofs.lemmas.Pending.{held_cache}
use Rattle.client_state.proofs.state.ClientState.keep.Goals as goal

pub returns-clause-kept : goal.returns-clause-kept
returns-clause-kept c =
    let with : Entries → ClientState = λ es. record c.args.self.now { cache = es } in
    ap with c.keep_cut.ensures.kept

pub returns-clause-held : goal.returns-clause-held
returns-clause-held c =
    let s = c.args.self.now in
    held_cache s c.keep_cut.new.self c.requires.held (subst (λ (es : Entries). All IsKeptBounded es) (sym c.keep_cut.ensures.kept) (bounded_kept s.cache c.args.file c.args.version c.args.content c.requires.held.base.kept c.requires.small))
