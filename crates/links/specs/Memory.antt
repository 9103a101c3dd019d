-- Files in memory, as contracts see them.
use Rattle.std.specs.Prelude.{ℕ, List}
use Rattle.links.specs.declared.files.HostFile.{HostFile}

-- the calls of an object so far, and those that are to fail (the first is 0)
pub record CallState : Type 0 where
  pub made : ℕ
  pub failing : List ℕ

-- files: those that there are, all calls so far, and the faults so far
pub record FilesState : Type 0 where
  pub files : List HostFile
  pub calls : CallState
  pub faults : ℕ
