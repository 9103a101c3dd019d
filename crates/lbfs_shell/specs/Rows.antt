-- Worked rows: what is to do next of a sync that stores and removes.
use Rattle.std.specs.Prelude.{◌≡◌, ℕ, List, [], ◌∷◌, ◌++◌, None, true, false, codes, refl, reverse}
use Rattle.shell_walks.specs.declared.tasks.Task.{Task}
use Rattle.shell_walks.specs.declared.tasks.Task.TheVariants as task
use Rattle.lbfs_shell.specs.Jobs.{others, removals, still_later, to_do}

abbrev put_of : (name : List ℕ) → Task
put_of name = task.Put name (name ∷ []) (record { deep = true; changed_only = true; deletes = true; fresh = false; inner = true; id = None })

abbrev get_of : (name : List ℕ) → Task
get_of name = task.Get (name ∷ []) name true None

abbrev remove_of : (name : List ℕ) → Task
remove_of name = task.Remove (name ∷ [])

-- a directory has a and b, a folder b and c
abbrev came : List Task
came = put_of (codes "b") ∷ remove_of (codes "a") ∷ put_of (codes "c") ∷ get_of (codes "d") ∷ []

pub what_comes_first : others came ≡ put_of (codes "b") ∷ put_of (codes "c") ∷ get_of (codes "d") ∷ []
what_comes_first = refl

pub what_comes_last : removals came ≡ remove_of (codes "a") ∷ []
what_comes_last = refl

-- the last is the next one
pub next_of_all : to_do 0 (put_of (codes "e") ∷ [] ++ reverse (others came)) (reverse (removals came)) ≡ put_of (codes "e") ∷ get_of (codes "d") ∷ put_of (codes "c") ∷ put_of (codes "b") ∷ []
next_of_all = refl

pub waits_behind_all : still_later 0 (put_of (codes "e") ∷ []) (remove_of (codes "a") ∷ []) ≡ remove_of (codes "a") ∷ []
waits_behind_all = refl

-- nothing is to do, but something is being done
pub nothing_yet : to_do 1 [] (remove_of (codes "a") ∷ []) ≡ []
nothing_yet = refl

pub waits_for_who_is_busy : still_later 1 [] (remove_of (codes "a") ∷ []) ≡ remove_of (codes "a") ∷ []
waits_for_who_is_busy = refl

-- and then all that waited
pub now_it_goes : to_do 0 [] (remove_of (codes "b") ∷ remove_of (codes "a") ∷ []) ≡ remove_of (codes "b") ∷ remove_of (codes "a") ∷ []
now_it_goes = refl

pub nothing_waits : still_later 0 [] (remove_of (codes "b") ∷ remove_of (codes "a") ∷ []) ≡ []
nothing_waits = refl

pub nothing_is_left : to_do 0 [] [] ≡ []
nothing_is_left = refl
