-- A shell's cache file, over what its client makes of one (`warms`), what it has for one (`saves`), and the calls of the host's files.
use Rattle.std.specs.Prelude.{◌≡◌, ℕ, List, [], Option, Some, None, Bool, true, false, Result, Ok, Err}
use Rattle.cache_file.specs.Items.{is_cache}
use Rattle.shell_walks.specs.declared.folder.LocalFault.{LocalFault}
use Rattle.shell_walks.specs.declared.folder.LocalFault.TheVariants as fault

-- ---- it is read

-- what is wrong where the client had no memory for it
abbrev pub warmed : (done : Bool) → Option LocalFault
warmed true = None
warmed false = Some fault.Memory

abbrev pub LoadsRead : {R : Type 0} → (warms : R → List ℕ → Bool → R → Type 0) → R → Result (List ℕ) LocalFault → Option LocalFault → R → Type 0
LoadsRead warms old (Ok bytes) wrong new = (done : Bool) × warms old bytes done new × (wrong ≡ warmed done)
LoadsRead warms old (Err f) wrong new = (new ≡ old) × (wrong ≡ Some f)

pub record Loads {R F : Type 0} (warms : R → List ℕ → Bool → R → Type 0) (reads : F → List ℕ → Result (List ℕ) LocalFault → F → Type 0) (old : R) (host : F) (name : List ℕ) (wrong : Option LocalFault) (new : R) (host' : F) : Type 0 where
  pub read : Result (List ℕ) LocalFault
  pub reading : reads host name read host'
  pub loads : LoadsRead warms old read wrong new

-- ---- it is written

abbrev pub unwritten : Result Unit LocalFault → Option LocalFault
unwritten (Ok u) = None
unwritten (Err f) = Some f

pub record Writes {F : Type 0} (writes : F → List ℕ → List ℕ → Result Unit LocalFault → F → Type 0) (host : F) (name bytes : List ℕ) (wrong : Option LocalFault) (host' : F) : Type 0 where
  pub wrote : Result Unit LocalFault
  pub written : writes host name bytes wrote host'
  pub is_told : wrong ≡ unwritten wrote

-- with what the client has for one that has these bytes; or memory runs out, and nothing is written
pub data SavesOver {R F : Type 0} (saves : R → (old bytes : List ℕ) → Type 0) (writes : F → List ℕ → List ℕ → Result Unit LocalFault → F → Type 0) (r : R) (host : F) (name old : List ℕ) (wrong : Option LocalFault) (host' : F) : Type 0 where
  saved : (bytes : List ℕ) → saves r old bytes → Writes writes host name bytes wrong host' → SavesOver saves writes r host name old wrong host'
  not_saved : wrong ≡ Some fault.Memory → host' ≡ host → SavesOver saves writes r host name old wrong host'

-- where that is a cache file's, or no bytes; else it stays
abbrev pub SavesWhere : {R F : Type 0} → (saves : R → (old bytes : List ℕ) → Type 0) → (writes : F → List ℕ → List ℕ → Result Unit LocalFault → F → Type 0) → (replaces : Bool) → R → F → (name old : List ℕ) → Option LocalFault → F → Type 0
SavesWhere saves writes true r host name old wrong host' = SavesOver saves writes r host name old wrong host'
SavesWhere saves writes false r host name old wrong host' = (wrong ≡ Some fault.Exists) × (host' ≡ host)

-- where it can't be read it stays, but where none is there
abbrev pub SavesUnread : {R F : Type 0} → (saves : R → (old bytes : List ℕ) → Type 0) → (writes : F → List ℕ → List ℕ → Result Unit LocalFault → F → Type 0) → R → F → (name : List ℕ) → LocalFault → Option LocalFault → F → Type 0
SavesUnread saves writes r host name fault.Missing wrong host' = SavesOver saves writes r host name [] wrong host'
SavesUnread saves writes r host name f wrong host' = (wrong ≡ Some f) × (host' ≡ host)

abbrev pub SavesRead : {R F : Type 0} → (saves : R → (old bytes : List ℕ) → Type 0) → (writes : F → List ℕ → List ℕ → Result Unit LocalFault → F → Type 0) → R → F → (name : List ℕ) → Result (List ℕ) LocalFault → Option LocalFault → F → Type 0
SavesRead saves writes r host name (Ok bytes) wrong host' = SavesWhere saves writes (is_cache bytes) r host name bytes wrong host'
SavesRead saves writes r host name (Err f) wrong host' = SavesUnread saves writes r host name f wrong host'

-- what stands there by then is read once more first
pub record Saves {R F : Type 0} (saves : R → (old bytes : List ℕ) → Type 0) (reads : F → List ℕ → Result (List ℕ) LocalFault → F → Type 0) (writes : F → List ℕ → List ℕ → Result Unit LocalFault → F → Type 0) (r : R) (host : F) (name : List ℕ) (wrong : Option LocalFault) (host' : F) : Type 0 where
  pub read : Result (List ℕ) LocalFault
  pub between : F
  pub reading : reads host name read between
  pub over : SavesRead saves writes r between name read wrong host'
