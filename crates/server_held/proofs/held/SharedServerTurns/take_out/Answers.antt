use Rattle.std.proofs.Common.{refl, ◌∙◌}
use Rattle.server_held.proofs.held.SharedServerTurns.take_out.Goals as goal

pub returns-clause-gave : goal.returns-clause-gave
returns-clause-gave g c = record {
  taken = λ held holds. let taken = c.take.ensures.taken held holds in (c.into_vec.ensures ∙ taken.0, taken.1);
  none = λ lacks. let none = c.take.ensures.none lacks in (c.into_vec.ensures ∙ none.0, none.1);
  others = c.take.ensures.others;
  kept = refl;
}
