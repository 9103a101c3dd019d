-- What came of a removal is told as it is.
use Rattle.std.proofs.Common.{◌≡◌, sym, ap, ◌∙◌, ℕ, List}
use Rattle.command_text.specs.declared.command.Command.{Command}
use Rattle.shell_walks.specs.Removing.{RemovesAll}
use Rattle.shell_walks.specs.declared.remote.Answer.{Answer}
use Rattle.shell_walks.specs.declared.removing.Gone.{Gone}
use Rattle.shell_walks.specs.declared.tasks.Task.{Task}
use Rattle.folder_tasks.specs.Visiting.{Removed, removed_as}
use Rattle.folder_tasks.specs.declared.visiting.Visited.{Visited}

pub told_so : {R : Type 0} (asks : R → Command → Answer → R → Type 0) (old new : R) (path : List (List ℕ)) (v : Visited) (more : List Task) (g : Gone) → RemovesAll asks old path new g → v ≡ removed_as more g → Removed asks old path v new
told_so asks old new path v more g h is = record {
  gone = g;
  goes = h;
  is_told = is ∙ ap (λ (ts : List Task). removed_as ts g) (sym (ap (λ (w : Visited). w.more) is));
}
