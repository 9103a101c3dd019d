use Rattle.std.proofs.Common.{◌∙◌}
use Rattle.log_store.proofs.Hold.{held_looked, looked_first, stayed_last}
use Rattle.log_store.proofs.records.LogStore.save_room.Goals as goal

pub returns-in_err-carry_out-clause-does : goal.returns-in_err-carry_out-clause-does
returns-in_err-carry_out-clause-does g c = λ told records past sure held.
    let looked = c.is_frugal.ensures.does told in
    looked_first records past _ _ _ _ _ _ (held sure) looked
    (c.carry_out.ensures.does told records past (c.is_frugal.ensures.doubt ∙ sure) (held_looked records past _ _ _ _ _ (held sure) looked c.is_frugal.ensures.pending))

pub returns-in-Ok-clause-does : goal.returns-in-Ok-clause-does
returns-in-Ok-clause-does g c = λ told records past sure held.
    let looked = c.is_frugal.ensures.does told in
    stayed_last records past _ _ _ _ _ (looked_first records past _ _ _ _ _ _ (held sure) looked
    (c.carry_out.ensures.does told records past (c.is_frugal.ensures.doubt ∙ sure) (held_looked records past _ _ _ _ _ (held sure) looked c.is_frugal.ensures.pending)))
    c.in_ok-carry_out.ensures.empty.1 (c.take_reserve.ensures.does told)

pub returns-in-Err-clause-does : goal.returns-in-Err-clause-does
returns-in-Err-clause-does g c = λ told records past sure held.
    let looked = c.is_frugal.ensures.does told in
    stayed_last records past _ _ _ _ _ (looked_first records past _ _ _ _ _ _ (held sure) looked
    (c.carry_out.ensures.does told records past (c.is_frugal.ensures.doubt ∙ sure) (held_looked records past _ _ _ _ _ (held sure) looked c.is_frugal.ensures.pending)))
    c.in_ok-carry_out.ensures.empty.1 (c.take_reserve.ensures.does told)
