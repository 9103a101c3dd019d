use Rattle.std.proofs.Common.{◌∙◌, sym, ap}
use Rattle.log_store.specs.Lines.{is_clear}
use Rattle.log_store.proofs.Steps.{on_ok, always}
use Rattle.log_store.proofs.Hold.{clear_empty, clear_either}
use Rattle.log_store.proofs.records.LogStore.make_way.Goals as goal

pub returns-then-not-is_clear-clause-clear : goal.returns-then-not-is_clear-clause-clear
returns-then-not-is_clear-clause-clear g c = on_ok c.carry_out.result (λ e. clear_empty c.args.edits.now _ e.0) c.carry_out.ensures.empty

pub returns-then-not-has_large-clause-clear : goal.returns-then-not-has_large-clause-clear
returns-then-not-has_large-clause-clear g c =
    on_ok c.relieve.result (λ u. clear_either c.args.edits.now _ _ (ap (is_clear c.args.edits.now) (sym c.deref.ensures.value) ∙ sym c.if-not-is_clear.ensures) c.relieve.ensures.pending) (always c.relieve.result)

pub returns-clause-clear : goal.returns-clause-clear
returns-clause-clear g c =
    on_ok c.save_room.result (λ u. clear_either c.args.edits.now _ _ (ap (is_clear c.args.edits.now) (sym c.deref.ensures.value) ∙ sym c.if-not-is_clear.ensures) c.save_room.ensures.pending) (always c.save_room.result)

pub returns-then-not-is_clear-clause-does : goal.returns-then-not-is_clear-clause-does
returns-then-not-is_clear-clause-does g c = c.carry_out.ensures.does

pub returns-then-not-is_clear-clause-known : goal.returns-then-not-is_clear-clause-known
returns-then-not-is_clear-clause-known g c = c.carry_out.ensures.known

pub returns-then-not-is_clear-clause-failed : goal.returns-then-not-is_clear-clause-failed
returns-then-not-is_clear-clause-failed g c = c.carry_out.ensures.failed

pub returns-then-not-is_clear-clause-in_doubt : goal.returns-then-not-is_clear-clause-in_doubt
returns-then-not-is_clear-clause-in_doubt g c = c.carry_out.ensures.in_doubt

pub returns-then-not-is_clear-clause-sure : goal.returns-then-not-is_clear-clause-sure
returns-then-not-is_clear-clause-sure g c = λ sure. on_ok c.carry_out.result (λ e. e.1) c.carry_out.ensures.empty

pub returns-then-not-has_large-clause-does : goal.returns-then-not-has_large-clause-does
returns-then-not-has_large-clause-does g c = c.relieve.ensures.does

pub returns-then-not-has_large-clause-known : goal.returns-then-not-has_large-clause-known
returns-then-not-has_large-clause-known g c = c.relieve.ensures.known

pub returns-then-not-has_large-clause-failed : goal.returns-then-not-has_large-clause-failed
returns-then-not-has_large-clause-failed g c = c.relieve.ensures.failed

pub returns-then-not-has_large-clause-in_doubt : goal.returns-then-not-has_large-clause-in_doubt
returns-then-not-has_large-clause-in_doubt g c = c.relieve.ensures.in_doubt

pub returns-then-not-has_large-clause-sure : goal.returns-then-not-has_large-clause-sure
returns-then-not-has_large-clause-sure g c = λ sure. c.relieve.ensures.sure

pub returns-clause-does : goal.returns-clause-does
returns-clause-does g c = c.save_room.ensures.does

pub returns-clause-known : goal.returns-clause-known
returns-clause-known g c = c.save_room.ensures.known

pub returns-clause-failed : goal.returns-clause-failed
returns-clause-failed g c = c.save_room.ensures.failed

pub returns-clause-in_doubt : goal.returns-clause-in_doubt
returns-clause-in_doubt g c = c.save_room.ensures.in_doubt

pub returns-clause-sure : goal.returns-clause-sure
returns-clause-sure g c = c.save_room.ensures.sure
