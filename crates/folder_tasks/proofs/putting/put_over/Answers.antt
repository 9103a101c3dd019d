use Rattle.std.proofs.Common.{ap, ◌∙◌, Bool, List}
use Rattle.shell_walks.specs.declared.tasks.Task.{Task}
use Rattle.folder_tasks.specs.Putting.{again_if}
use Rattle.folder_tasks.specs.Visiting.{removed_as}
use Rattle.folder_tasks.proofs.putting.put_over.Goals as goal

pub returns : goal.returns
returns g c = record {
  gone = c.in_ok-gone.gone;
  goes = c.in_ok-gone.ensures;
  is_told = c.removed.ensures ∙ ap (λ (ts : List Task). removed_as ts c.in_ok-gone.gone) (c.in_ok-more.ensures ∙ ap (λ (b : Bool). again_if b c.args.local.now c.args.path.now c.args.storing) c.is_all_gone.ensures);
}
