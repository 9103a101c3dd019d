use Rattle.std.proofs.lemmas.Result.{IfOk-weaker}
use Rattle.folder_tasks.specs.Getting.{is_root}
use Rattle.folder_tasks.proofs.Fetched.{at_comes, at_touches}
use Rattle.folder_tasks.proofs.getting.visit_get.Goals as goal

pub returns-clause-come : goal.returns-clause-come
returns-clause-come g c = IfOk-weaker c.get_at.result _ _ (λ v k. (at_comes _ _ _ _ _ _ _ _ _ _ _ _ _ _ _ _ _ v (is_root c.args.deep c.args.path.now) k).0) c.get_at.ensures

pub returns-clause-counts : goal.returns-clause-counts
returns-clause-counts g c = IfOk-weaker c.get_at.result _ _ (λ v k. (at_comes _ _ _ _ _ _ _ _ _ _ _ _ _ _ _ _ _ v (is_root c.args.deep c.args.path.now) k).1) c.get_at.ensures

pub returns-clause-touches : goal.returns-clause-touches
returns-clause-touches g c = IfOk-weaker c.get_at.result _ _ (λ v k. at_touches _ _ _ _ _ _ _ _ _ _ _ _ _ _ _ _ _ _ v (is_root c.args.deep c.args.path.now) k) c.get_at.ensures
