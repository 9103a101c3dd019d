-- What a mount asks of the files of the host.
use Rattle.std.specs.Prelude.{◌≡◌, ℕ, ◌≤◌, ◌<◌, List, length, Option, Some, Result, Err, IfOk, OnOk, OnErr, IsErrOf}
use Rattle.std.specs.Option.{option_map}
use Rattle.lb_base.specs.Causes.{Rose}
use Rattle.lb_base.specs.declared.sink.GiveError.{GiveError}
use Rattle.lb_base.specs.declared.sink.GiveError.TheVariants as give
use Rattle.limits.specs.declared.TheConstants.{FILE_MOST}
use Rattle.links.specs.Files.{bytes_of, with_file}
use Rattle.links.specs.declared.files.HostFile.{HostFile}
use Rattle.links.specs.declared.files.FilesError.{FilesError}
use Rattle.links.specs.declared.files.FilesError.TheVariants as errors

-- the files, where they tell, and the faults so far
pub record Host : Type 0 where
  pub files : Option (List HostFile)
  pub faults : ℕ

-- a file was asked for: its bytes, or why they weren't given
pub record HasRead (old : Host) (name : List ℕ) (read : Result (List ℕ) FilesError) (new : Host) : Type 0 where
  pub told : IfOk read (λ bytes. (held : List HostFile) → old.files ≡ Some held → bytes ≡ bytes_of name held)
  pub within : IfOk read (λ bytes. length bytes ≤ FILE_MOST)
  pub big : (len : ℕ) → read ≡ Err (errors.TooBig len) → FILE_MOST < len
  pub told_big : (len : ℕ) → read ≡ Err (errors.TooBig len) → (held : List HostFile) → old.files ≡ Some held → length (bytes_of name held) ≡ len
  pub kept : new.files ≡ old.files
  pub later : old.faults ≤ new.faults
  pub cause : IsErrOf read errors.Failed → Rose old.faults new.faults

-- bytes were put into a file
pub record HasWritten (old : Host) (name bytes : List ℕ) (wrote : Result Unit GiveError) (new : Host) : Type 0 where
  pub ok : OnOk wrote (new.files ≡ option_map (with_file name bytes) old.files)
  pub err : OnErr wrote (new.files ≡ old.files)
  pub later : old.faults ≤ new.faults
  pub cause : IsErrOf wrote give.Failed → Rose old.faults new.faults
