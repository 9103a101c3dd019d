use Rattle.std.proofs.Common.{◌∷◌, [], ◌++◌, rules, ap, ◌∙◌}
use Rattle.std.specs.Prelude.{slice_set}
use Rattle.trace_ends.specs.Session.{Session}
use Rattle.trace_ends.specs.View.{core_of}
use Rattle.trace_ends.proofs.Joined.{joins_is}
use Rattle.trace_ends.proofs.world_core.Core.joins.Goals as goal

pub returns-in_ok-push-in-Session-2 : goal.returns-in_ok-push-in-Session-2
returns-in_ok-push-in-Session-2 c =
    let k = core_of c.args.self.now in
    joins_is k c.in-Some.place c.args.client c.index_mut.result.now c.connect.new.server c.in-Session.made _ _ _ _ _
    c.in-Some.ensures.0 (search rules) c.index_mut.ensures.value c.in_ok-made.ensures.server (search rules) c.in_ok-self.ensures
    (ap (slice_set k.seats c.in-Some.place) c.joins.ensures)
    (c.in_ok-push-in-Session.ensures.items ∙ ap (λ (x : Session). k.sessions ++ x ∷ []) c.new-session.ensures)
    c.in_ok-push-in-Session-2.ensures.items c.losing.ensures
