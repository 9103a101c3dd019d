-- What stands where a shell is to keep its cache file, and what comes of it.
use Rattle.std.specs.Prelude.{◌≡◌, ℕ, List, Option, Some, None, Bool, true, false, Result, Ok, Err, codes, if◌then◌else◌}
use Rattle.cache_file.specs.Items.{is_cache}
use Rattle.exit_status.specs.declared.shell_end.ShellEnd.{ShellEnd}
use Rattle.exit_status.specs.declared.shell_end.ShellEnd.TheVariants as end
use Rattle.shell_walks.specs.declared.folder.LocalFault.{LocalFault}
use Rattle.shell_walks.specs.declared.folder.LocalFault.TheVariants as fault
use Rattle.shell_walks.specs.Telling.{fault_text}
use Rattle.lbfs_shell.specs.declared.caching.Found.{Found}
use Rattle.lbfs_shell.specs.declared.caching.Found.TheVariants as found

-- one that is larger than any file may be is no cache file
abbrev pub found_of : Result (List ℕ) LocalFault → Found
found_of (Ok bytes) = if is_cache bytes then found.Ours else found.Other
found_of (Err fault.Missing) = found.Ours
found_of (Err fault.TooBig) = found.Other
found_of (Err f) = found.Hidden f

pub record Looks {F : Type 0} (reads : F → List ℕ → Result (List ℕ) LocalFault → F → Type 0) (host : F) (name : List ℕ) (is : Found) (host' : F) : Type 0 where
  pub read : Result (List ℕ) LocalFault
  pub reading : reads host name read host'
  pub found : is ≡ found_of read

-- whether it is read, and replaced behind the last line; what is no cache file ends the shell
abbrev pub used_of : Found → Result Bool ShellEnd
used_of found.Ours = Ok true
used_of found.Other = Err end.Undone
used_of (found.Hidden f) = Ok false

-- so it goes where one was named, and else none is looked at
abbrev pub Chooses : {F : Type 0} → (reads : F → List ℕ → Result (List ℕ) LocalFault → F → Type 0) → F → Option (List ℕ) → Result Bool ShellEnd → F → Type 0
Chooses reads host None used host' = (used ≡ Ok false) × (host' ≡ host)
Chooses reads host (Some name) used host' = (is : Found) × Looks reads host name is host' × (used ≡ used_of is)

-- what is said where it wasn't written: what is no cache file by then is told as at the start
abbrev pub unsaved_text : LocalFault → List ℕ
unsaved_text fault.Exists = codes "it is no cache file, and stays as it is; the cache wasn't written"
unsaved_text fault.TooBig = codes "it is no cache file, and stays as it is; the cache wasn't written"
unsaved_text f = fault_text f
