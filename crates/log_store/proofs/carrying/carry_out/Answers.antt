use Rattle.std.proofs.Common.{◌∙◌}
use Rattle.log_store.proofs.Redo.{says_all, carried_looked, not_read, stayed_sound}
use Rattle.log_store.proofs.carrying.carry_out.Goals as goal

pub returns-in-Ok-clause-does : goal.returns-in-Ok-clause-does
returns-in-Ok-clause-does g c = λ told records past pending s.
    let looked = c.in-Ok.ensures.does told in
    carried_looked records past pending _ _ _ _ s looked
    (c.finish_and_empty.ensures.does told records past pending (stayed_sound records past pending _ _ s looked)
    (c.deref.ensures.value ∙ says_all c.in-Ok.lines.items _ _ looked (c.in-Ok.ensures.tells told)))
