-- What a task comes to.
use Rattle.std.specs.Prelude.{ℕ, List, Bool, Result}
use Rattle.command_text.specs.declared.command.Command.{Command}
use Rattle.shell_walks.specs.Fetched.{Fetched}
use Rattle.shell_walks.specs.declared.folder.Kind.{Kind}
use Rattle.shell_walks.specs.declared.folder.LocalFault.{LocalFault}
use Rattle.shell_walks.specs.declared.remote.Answer.{Answer}
use Rattle.shell_walks.specs.declared.tasks.Task.{Task}
use Rattle.shell_walks.specs.declared.tasks.Task.TheVariants as task
use Rattle.folder_tasks.specs.Getting.{GetsAt}
use Rattle.folder_tasks.specs.Putting.{Puts}
use Rattle.folder_tasks.specs.Visiting.{Removed}
use Rattle.folder_tasks.specs.declared.visiting.Visited.{Visited}

abbrev pub ComesTo : {R F : Type 0} → (asks : R → Command → Answer → R → Type 0) → (content : R → ℕ → Fetched) → (offers : R → List ℕ → R → Type 0) → (finds : F → Bool → List ℕ → Kind → F → Type 0) → (reads : F → List ℕ → Result (List ℕ) LocalFault → F → Type 0) → (writes : F → List ℕ → List ℕ → Result Unit LocalFault → F → Type 0) → (lists : F → List ℕ → Result (List (List ℕ)) LocalFault → F → Type 0) → (makes tries : F → List ℕ → Result Unit LocalFault → F → Type 0) → (clears : F → List ℕ → F → Type 0) → R → F → Task → Visited → R → F → Type 0
ComesTo asks content offers finds reads writes lists makes tries clears old host (task.Put local path s) v new host' = Puts asks content offers finds reads lists old host local path s v new host'
ComesTo asks content offers finds reads writes lists makes tries clears old host (task.Get path local deep id) v new host' = GetsAt asks content offers finds reads writes makes tries clears old host path local deep id v new host'
ComesTo asks content offers finds reads writes lists makes tries clears old host (task.Remove path) v new host' = Removed asks old path v new
