-- Which tasks of a command come first, and which behind all others.
use Rattle.std.specs.Prelude.{ℕ, ◌==◌, ◌&&◌, List, [], Bool, true, false, not, length, if◌then◌else◌}
use Rattle.std.specs.List.{filter}
use Rattle.shell_walks.specs.declared.tasks.Task.{Task}
use Rattle.shell_walks.specs.declared.tasks.Task.TheVariants as task

-- what is stored in the place of something else is no removal
abbrev pub removes : Task → Bool
removes (task.Put local path s) = false
removes (task.Get path local deep id) = false
removes (task.Remove path) = true

abbrev pub removals : List Task → List Task
removals tasks = filter removes tasks

abbrev pub others : List Task → List Task
others tasks = filter (λ t. not (removes t)) tasks

-- nothing is to do, nor being done
abbrev pub is_idle : (busy : ℕ) → (tasks : List Task) → Bool
is_idle busy tasks = (busy == 0) && (length tasks == 0)

-- removals wait until then
abbrev pub to_do : (busy : ℕ) → (tasks later : List Task) → List Task
to_do busy tasks later = if is_idle busy tasks then later else tasks

abbrev pub still_later : (busy : ℕ) → (tasks later : List Task) → List Task
still_later busy tasks later = if is_idle busy tasks then [] else later
