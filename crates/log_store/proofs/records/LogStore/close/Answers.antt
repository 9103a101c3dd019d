use Rattle.std.proofs.Common.{rules}
use Rattle.log_store.proofs.Steps.{on_ok, always}
use Rattle.log_store.proofs.records.LogStore.close.Goals as goal

pub returns-clause-made : goal.returns-clause-made
returns-clause-made g c = on_ok c.close.result (λ u. search rules) (always c.close.result)
