use Rattle.std.proofs.Common.{subst, sym}
use mathlib.Core.List.{IsPrefix}
use Rattle.turn_post.proofs.lemmas.Fronts.{prefix_self, prefix_trans}
use Rattle.turn_post.specs.Passes.{seen}
use Rattle.lbfs_server.proofs.serve.serve_post.Goals as goal

pub returns-in-Err-clause-seen : goal.returns-in-Err-clause-seen
returns-in-Err-clause-seen g c = subst (λ held. IsPrefix (g.H.Journaled.journal c.args.held) (g.H.Journaled.journal held)) (sym c.in-Err.ensures.err) (prefix_self (g.H.Journaled.journal c.args.held))

pub returns-clause-seen : goal.returns-clause-seen
returns-clause-seen g c = subst (λ entries. IsPrefix entries (g.H.Journaled.journal c.finish-long.result.1)) c.in-Ok.ensures.ok.1
    (prefix_trans _ (seen c.serve_links-ended.result.2) (g.H.Journaled.journal c.finish-long.result.1) c.serve_links-ended.ensures.pass.1 c.finish-long.ensures.seen)
