use Rattle.std.proofs.Common.{[], ◌∷◌, ◌++◌, sym, ap, ◌∙◌, append_assoc}
use Rattle.lease_table.proofs.part.held.Goals as goal

pub loop-key-preserved : goal.loop-key-preserved
loop-key-preserved g c =
    ap (λ l. l ++ c.next.new.self) c.in_ok-push.ensures.items
    ∙ append_assoc c.loop-key.entries.items _ c.next.new.self
    ∙ ap (λ l. c.loop-key.entries.items ++ l) (sym c.in-Some.ensures.steps)
    ∙ c.loop-key.invariant
