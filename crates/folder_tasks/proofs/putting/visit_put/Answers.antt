use Rattle.std.proofs.lemmas.Result.{IfOk-weaker}
use Rattle.folder_tasks.proofs.Stored.{kind_comes, kind_counts, kind_spares}
use Rattle.folder_tasks.proofs.Touching.{first_found}
use Rattle.folder_tasks.proofs.putting.visit_put.Goals as goal

pub returns-clause-touches : goal.returns-clause-touches
returns-clause-touches g c = first_found _ _ _ _ _ _ c.kind-kind.ensures c.put_kind.ensures.touches

pub returns-clause-exact : goal.returns-clause-exact
returns-clause-exact g c = IfOk-weaker c.put_kind.result _ _ (λ v k. record { kind = c.kind-kind.result; between = c.kind-kind.new.self; found = c.kind-kind.ensures; goes_on = k }) c.put_kind.ensures.exact

pub returns-clause-come : goal.returns-clause-come
returns-clause-come g c = IfOk-weaker c.put_kind.result _ _ (λ v k. kind_comes _ _ _ _ _ _ _ _ _ _ _ _ v c.kind-kind.result k) c.put_kind.ensures.exact

pub returns-clause-counts : goal.returns-clause-counts
returns-clause-counts g c = IfOk-weaker c.put_kind.result _ _ (λ v k. kind_counts _ _ _ _ _ _ _ _ _ _ _ _ v c.kind-kind.result k) c.put_kind.ensures.exact

pub returns-clause-spares : goal.returns-clause-spares
returns-clause-spares g c = IfOk-weaker c.put_kind.result _ _ (λ v k. kind_spares _ _ _ _ _ _ _ _ _ _ _ _ v c.kind-kind.result k) c.put_kind.ensures.exact
