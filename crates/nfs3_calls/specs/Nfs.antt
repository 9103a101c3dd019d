-- Any call and any answer (RFC 1813, section 3.3).
use Rattle.std.specs.Prelude.{◌≡◌, Bool, true, false, ℕ, ◌<◌, ◌^◌, List, [], ◌∷◌, length, All, Option, refl}
use Rattle.std.proofs.Common.{subst}
use Rattle.xdr_codec.specs.Format.{Format}
use Rattle.xdr_codec.specs.Compose.{embedded, nothing}
use Rattle.xdr_codec.specs.Choice.{optional}
use Rattle.xdr_codec.specs.Handle.{handle_form}
use Rattle.xdr_codec.specs.Attr.{attr_form}
use Rattle.xdr_codec.specs.Answers.{answer_form}
use Rattle.xdr_codec.specs.Tables.{named}
use Rattle.xdr_codec.specs.declared.answer.Answer.TheVariants.{Done, Failed}
use Rattle.nfs3_calls.specs.Calls.{place_form, wcc_form, found_form, access_form, granted_form, range_form, piece_form, new_file_form, new_dir_form, made_form, rename_form, moved_form, list_range_form, listing_form, fs_info_form}
use Rattle.nfs3_calls.specs.declared.message.NfsProc.{NfsProc}
use Rattle.nfs3_calls.specs.declared.message.NfsProc.TheVariants as proc
use Rattle.nfs3_calls.specs.declared.message.Nfs.{Nfs}
use Rattle.nfs3_calls.specs.declared.message.Nfs.TheVariants.{Null, NullAnswer, GetAttr, GetAttrAnswer, Lookup, LookupAnswer, Access, AccessAnswer, Read, ReadAnswer, Create, CreateAnswer, MkDir, MkDirAnswer, Remove, RemoveAnswer, RmDir, RmDirAnswer, Rename, RenameAnswer, ReadDir, ReadDirAnswer, FsInfo, FsInfoAnswer}

-- the number of a procedure, and the procedure that has it
abbrev pub proc_number : NfsProc → ℕ
proc_number proc.Null = 0
proc_number proc.GetAttr = 1
proc_number proc.Lookup = 3
proc_number proc.Access = 4
proc_number proc.Read = 6
proc_number proc.Create = 8
proc_number proc.MkDir = 9
proc_number proc.Remove = 12
proc_number proc.RmDir = 13
proc_number proc.Rename = 14
proc_number proc.ReadDir = 16
proc_number proc.FsInfo = 19

abbrev pub procs : List NfsProc
procs = proc.Null ∷ proc.GetAttr ∷ proc.Lookup ∷ proc.Access ∷ proc.Read ∷ proc.Create ∷ proc.MkDir ∷ proc.Remove ∷ proc.RmDir ∷ proc.Rename ∷ proc.ReadDir ∷ proc.FsInfo ∷ []

abbrev pub proc_of : ℕ → Option NfsProc
proc_of n = named proc_number n procs

-- the procedure that a message calls or answers
abbrev pub nfs_proc : Nfs → NfsProc
nfs_proc Null = proc.Null
nfs_proc NullAnswer = proc.Null
nfs_proc (GetAttr x) = proc.GetAttr
nfs_proc (GetAttrAnswer x) = proc.GetAttr
nfs_proc (Lookup x) = proc.Lookup
nfs_proc (LookupAnswer x) = proc.Lookup
nfs_proc (Access x) = proc.Access
nfs_proc (AccessAnswer x) = proc.Access
nfs_proc (Read x) = proc.Read
nfs_proc (ReadAnswer x) = proc.Read
nfs_proc (Create x) = proc.Create
nfs_proc (CreateAnswer x) = proc.Create
nfs_proc (MkDir x) = proc.MkDir
nfs_proc (MkDirAnswer x) = proc.MkDir
nfs_proc (Remove x) = proc.Remove
nfs_proc (RemoveAnswer x) = proc.Remove
nfs_proc (RmDir x) = proc.RmDir
nfs_proc (RmDirAnswer x) = proc.RmDir
nfs_proc (Rename x) = proc.Rename
nfs_proc (RenameAnswer x) = proc.Rename
nfs_proc (ReadDir x) = proc.ReadDir
nfs_proc (ReadDirAnswer x) = proc.ReadDir
nfs_proc (FsInfo x) = proc.FsInfo
nfs_proc (FsInfoAnswer x) = proc.FsInfo

-- the bytes of a message: of each procedure its arguments, and its answer in both its forms
abbrev pub nfs_spell : Nfs → List ℕ
nfs_spell Null = []
nfs_spell NullAnswer = []
nfs_spell (GetAttr x) = handle_form.spell x
nfs_spell (GetAttrAnswer x) = (answer_form attr_form (nothing tt)).spell x
nfs_spell (Lookup x) = place_form.spell x
nfs_spell (LookupAnswer x) = (answer_form found_form (optional attr_form)).spell x
nfs_spell (Access x) = access_form.spell x
nfs_spell (AccessAnswer x) = (answer_form granted_form (optional attr_form)).spell x
nfs_spell (Read x) = range_form.spell x
nfs_spell (ReadAnswer x) = (answer_form piece_form (optional attr_form)).spell x
nfs_spell (Create x) = new_file_form.spell x
nfs_spell (CreateAnswer x) = (answer_form made_form wcc_form).spell x
nfs_spell (MkDir x) = new_dir_form.spell x
nfs_spell (MkDirAnswer x) = (answer_form made_form wcc_form).spell x
nfs_spell (Remove x) = place_form.spell x
nfs_spell (RemoveAnswer x) = (answer_form wcc_form wcc_form).spell x
nfs_spell (RmDir x) = place_form.spell x
nfs_spell (RmDirAnswer x) = (answer_form wcc_form wcc_form).spell x
nfs_spell (Rename x) = rename_form.spell x
nfs_spell (RenameAnswer x) = (answer_form moved_form moved_form).spell x
nfs_spell (ReadDir x) = list_range_form.spell x
nfs_spell (ReadDirAnswer x) = (answer_form listing_form (optional attr_form)).spell x
nfs_spell (FsInfo x) = handle_form.spell x
nfs_spell (FsInfoAnswer x) = (answer_form fs_info_form (optional attr_form)).spell x

abbrev pub args_form : NfsProc → Format Nfs
args_form proc.Null = embedded (λ u. Null) nfs_spell (nothing (tt {0})) (λ _. refl)
args_form proc.GetAttr = embedded GetAttr nfs_spell handle_form (λ _. refl)
args_form proc.Lookup = embedded Lookup nfs_spell place_form (λ _. refl)
args_form proc.Access = embedded Access nfs_spell access_form (λ _. refl)
args_form proc.Read = embedded Read nfs_spell range_form (λ _. refl)
args_form proc.Create = embedded Create nfs_spell new_file_form (λ _. refl)
args_form proc.MkDir = embedded MkDir nfs_spell new_dir_form (λ _. refl)
args_form proc.Remove = embedded Remove nfs_spell place_form (λ _. refl)
args_form proc.RmDir = embedded RmDir nfs_spell place_form (λ _. refl)
args_form proc.Rename = embedded Rename nfs_spell rename_form (λ _. refl)
args_form proc.ReadDir = embedded ReadDir nfs_spell list_range_form (λ _. refl)
args_form proc.FsInfo = embedded FsInfo nfs_spell handle_form (λ _. refl)

abbrev pub answer_of : NfsProc → Format Nfs
answer_of proc.Null = embedded (λ u. NullAnswer) nfs_spell (nothing (tt {0})) (λ _. refl)
answer_of proc.GetAttr = embedded GetAttrAnswer nfs_spell (answer_form attr_form (nothing tt)) (λ _. refl)
answer_of proc.Lookup = embedded LookupAnswer nfs_spell (answer_form found_form (optional attr_form)) (λ _. refl)
answer_of proc.Access = embedded AccessAnswer nfs_spell (answer_form granted_form (optional attr_form)) (λ _. refl)
answer_of proc.Read = embedded ReadAnswer nfs_spell (answer_form piece_form (optional attr_form)) (λ _. refl)
answer_of proc.Create = embedded CreateAnswer nfs_spell (answer_form made_form wcc_form) (λ _. refl)
answer_of proc.MkDir = embedded MkDirAnswer nfs_spell (answer_form made_form wcc_form) (λ _. refl)
answer_of proc.Remove = embedded RemoveAnswer nfs_spell (answer_form wcc_form wcc_form) (λ _. refl)
answer_of proc.RmDir = embedded RmDirAnswer nfs_spell (answer_form wcc_form wcc_form) (λ _. refl)
answer_of proc.Rename = embedded RenameAnswer nfs_spell (answer_form moved_form moved_form) (λ _. refl)
answer_of proc.ReadDir = embedded ReadDirAnswer nfs_spell (answer_form listing_form (optional attr_form)) (λ _. refl)
answer_of proc.FsInfo = embedded FsInfoAnswer nfs_spell (answer_form fs_info_form (optional attr_form)) (λ _. refl)

pub args_same : (p : NfsProc) (m : Nfs) → nfs_spell m ≡ (args_form p).spell m
args_same proc.Null m = refl
args_same proc.GetAttr m = refl
args_same proc.Lookup m = refl
args_same proc.Access m = refl
args_same proc.Read m = refl
args_same proc.Create m = refl
args_same proc.MkDir m = refl
args_same proc.Remove m = refl
args_same proc.RmDir m = refl
args_same proc.Rename m = refl
args_same proc.ReadDir m = refl
args_same proc.FsInfo m = refl

pub answer_same : (p : NfsProc) (m : Nfs) → nfs_spell m ≡ (answer_of p).spell m
answer_same proc.Null m = refl
answer_same proc.GetAttr m = refl
answer_same proc.Lookup m = refl
answer_same proc.Access m = refl
answer_same proc.Read m = refl
answer_same proc.Create m = refl
answer_same proc.MkDir m = refl
answer_same proc.Remove m = refl
answer_same proc.RmDir m = refl
answer_same proc.Rename m = refl
answer_same proc.ReadDir m = refl
answer_same proc.FsInfo m = refl

-- ---- what has a spelling

abbrev pub is_call : Nfs → Bool
is_call Null = true
is_call NullAnswer = false
is_call (GetAttr x) = true
is_call (GetAttrAnswer x) = false
is_call (Lookup x) = true
is_call (LookupAnswer x) = false
is_call (Access x) = true
is_call (AccessAnswer x) = false
is_call (Read x) = true
is_call (ReadAnswer x) = false
is_call (Create x) = true
is_call (CreateAnswer x) = false
is_call (MkDir x) = true
is_call (MkDirAnswer x) = false
is_call (Remove x) = true
is_call (RemoveAnswer x) = false
is_call (RmDir x) = true
is_call (RmDirAnswer x) = false
is_call (Rename x) = true
is_call (RenameAnswer x) = false
is_call (ReadDir x) = true
is_call (ReadDirAnswer x) = false
is_call (FsInfo x) = true
is_call (FsInfoAnswer x) = false

-- its byte strings, lists and numbers are within their maxima
abbrev pub NfsFits : Nfs → Type 0
NfsFits Null = Unit {0}
NfsFits NullAnswer = Unit {0}
NfsFits (GetAttr x) = handle_form.Fits x
NfsFits (GetAttrAnswer x) = (answer_form attr_form (nothing tt)).Fits x
NfsFits (Lookup x) = place_form.Fits x
NfsFits (LookupAnswer x) = (answer_form found_form (optional attr_form)).Fits x
NfsFits (Access x) = access_form.Fits x
NfsFits (AccessAnswer x) = (answer_form granted_form (optional attr_form)).Fits x
NfsFits (Read x) = range_form.Fits x
NfsFits (ReadAnswer x) = (answer_form piece_form (optional attr_form)).Fits x
NfsFits (Create x) = new_file_form.Fits x
NfsFits (CreateAnswer x) = (answer_form made_form wcc_form).Fits x
NfsFits (MkDir x) = new_dir_form.Fits x
NfsFits (MkDirAnswer x) = (answer_form made_form wcc_form).Fits x
NfsFits (Remove x) = place_form.Fits x
NfsFits (RemoveAnswer x) = (answer_form wcc_form wcc_form).Fits x
NfsFits (RmDir x) = place_form.Fits x
NfsFits (RmDirAnswer x) = (answer_form wcc_form wcc_form).Fits x
NfsFits (Rename x) = rename_form.Fits x
NfsFits (RenameAnswer x) = (answer_form moved_form moved_form).Fits x
NfsFits (ReadDir x) = list_range_form.Fits x
NfsFits (ReadDirAnswer x) = (answer_form listing_form (optional attr_form)).Fits x
NfsFits (FsInfo x) = handle_form.Fits x
NfsFits (FsInfoAnswer x) = (answer_form fs_info_form (optional attr_form)).Fits x

-- its byte strings and lists are within their maxima, which its types do not say
abbrev pub IsShort : Nfs → Type 0
IsShort Null = Unit {0}
IsShort NullAnswer = Unit {0}
IsShort (GetAttr x) = Unit {0}
IsShort (GetAttrAnswer x) = Unit {0}
IsShort (Lookup x) = length x.name < 2 ^ 32
IsShort (LookupAnswer x) = Unit {0}
IsShort (Access x) = Unit {0}
IsShort (AccessAnswer x) = Unit {0}
IsShort (Read x) = Unit {0}
IsShort (ReadAnswer (Done x)) = length x.bytes < 2 ^ 32
IsShort (ReadAnswer (Failed s x)) = Unit {0}
IsShort (Create x) = length x.place.name < 2 ^ 32
IsShort (CreateAnswer x) = Unit {0}
IsShort (MkDir x) = length x.place.name < 2 ^ 32
IsShort (MkDirAnswer x) = Unit {0}
IsShort (Remove x) = length x.name < 2 ^ 32
IsShort (RemoveAnswer x) = Unit {0}
IsShort (RmDir x) = length x.name < 2 ^ 32
IsShort (RmDirAnswer x) = Unit {0}
IsShort (Rename x) = (length x.from.name < 2 ^ 32) × (length x.to.name < 2 ^ 32)
IsShort (RenameAnswer x) = Unit {0}
IsShort (ReadDir x) = Unit {0}
IsShort (ReadDirAnswer (Done x)) = All (λ e. length e.name < 2 ^ 32) x.entries
IsShort (ReadDirAnswer (Failed s x)) = Unit {0}
IsShort (FsInfo x) = Unit {0}
IsShort (FsInfoAnswer x) = Unit {0}

-- the arguments of a procedure, and its answer
abbrev pub IsArgs : NfsProc → Nfs → Type 0
IsArgs p m = (is_call m ≡ true) × ((nfs_proc m ≡ p) × NfsFits m)

abbrev pub IsAnswer : NfsProc → Nfs → Type 0
IsAnswer p m = (is_call m ≡ false) × ((nfs_proc m ≡ p) × NfsFits m)

pub args_fit : (p : NfsProc) (m : Nfs) → (args_form p).Fits m → IsArgs p m
args_fit proc.Null m h = subst (IsArgs proc.Null) h.1 (refl, (refl, tt))
args_fit proc.GetAttr m h = subst (IsArgs proc.GetAttr) h.1 (refl, (refl, h.2))
args_fit proc.Lookup m h = subst (IsArgs proc.Lookup) h.1 (refl, (refl, h.2))
args_fit proc.Access m h = subst (IsArgs proc.Access) h.1 (refl, (refl, h.2))
args_fit proc.Read m h = subst (IsArgs proc.Read) h.1 (refl, (refl, h.2))
args_fit proc.Create m h = subst (IsArgs proc.Create) h.1 (refl, (refl, h.2))
args_fit proc.MkDir m h = subst (IsArgs proc.MkDir) h.1 (refl, (refl, h.2))
args_fit proc.Remove m h = subst (IsArgs proc.Remove) h.1 (refl, (refl, h.2))
args_fit proc.RmDir m h = subst (IsArgs proc.RmDir) h.1 (refl, (refl, h.2))
args_fit proc.Rename m h = subst (IsArgs proc.Rename) h.1 (refl, (refl, h.2))
args_fit proc.ReadDir m h = subst (IsArgs proc.ReadDir) h.1 (refl, (refl, h.2))
args_fit proc.FsInfo m h = subst (IsArgs proc.FsInfo) h.1 (refl, (refl, h.2))

pub answer_fits : (p : NfsProc) (m : Nfs) → (answer_of p).Fits m → IsAnswer p m
answer_fits proc.Null m h = subst (IsAnswer proc.Null) h.1 (refl, (refl, tt))
answer_fits proc.GetAttr m h = subst (IsAnswer proc.GetAttr) h.1 (refl, (refl, h.2))
answer_fits proc.Lookup m h = subst (IsAnswer proc.Lookup) h.1 (refl, (refl, h.2))
answer_fits proc.Access m h = subst (IsAnswer proc.Access) h.1 (refl, (refl, h.2))
answer_fits proc.Read m h = subst (IsAnswer proc.Read) h.1 (refl, (refl, h.2))
answer_fits proc.Create m h = subst (IsAnswer proc.Create) h.1 (refl, (refl, h.2))
answer_fits proc.MkDir m h = subst (IsAnswer proc.MkDir) h.1 (refl, (refl, h.2))
answer_fits proc.Remove m h = subst (IsAnswer proc.Remove) h.1 (refl, (refl, h.2))
answer_fits proc.RmDir m h = subst (IsAnswer proc.RmDir) h.1 (refl, (refl, h.2))
answer_fits proc.Rename m h = subst (IsAnswer proc.Rename) h.1 (refl, (refl, h.2))
answer_fits proc.ReadDir m h = subst (IsAnswer proc.ReadDir) h.1 (refl, (refl, h.2))
answer_fits proc.FsInfo m h = subst (IsAnswer proc.FsInfo) h.1 (refl, (refl, h.2))

own_args : (m : Nfs) → is_call m ≡ true → NfsFits m → (args_form (nfs_proc m)).Fits m
own_args Null e h = (tt, refl, refl)
own_args NullAnswer e h = absurd cc
own_args (GetAttr x) e h = (x, refl, h)
own_args (GetAttrAnswer x) e h = absurd cc
own_args (Lookup x) e h = (x, refl, h)
own_args (LookupAnswer x) e h = absurd cc
own_args (Access x) e h = (x, refl, h)
own_args (AccessAnswer x) e h = absurd cc
own_args (Read x) e h = (x, refl, h)
own_args (ReadAnswer x) e h = absurd cc
own_args (Create x) e h = (x, refl, h)
own_args (CreateAnswer x) e h = absurd cc
own_args (MkDir x) e h = (x, refl, h)
own_args (MkDirAnswer x) e h = absurd cc
own_args (Remove x) e h = (x, refl, h)
own_args (RemoveAnswer x) e h = absurd cc
own_args (RmDir x) e h = (x, refl, h)
own_args (RmDirAnswer x) e h = absurd cc
own_args (Rename x) e h = (x, refl, h)
own_args (RenameAnswer x) e h = absurd cc
own_args (ReadDir x) e h = (x, refl, h)
own_args (ReadDirAnswer x) e h = absurd cc
own_args (FsInfo x) e h = (x, refl, h)
own_args (FsInfoAnswer x) e h = absurd cc

own_answer : (m : Nfs) → is_call m ≡ false → NfsFits m → (answer_of (nfs_proc m)).Fits m
own_answer Null e h = absurd cc
own_answer NullAnswer e h = (tt, refl, refl)
own_answer (GetAttr x) e h = absurd cc
own_answer (GetAttrAnswer x) e h = (x, refl, h)
own_answer (Lookup x) e h = absurd cc
own_answer (LookupAnswer x) e h = (x, refl, h)
own_answer (Access x) e h = absurd cc
own_answer (AccessAnswer x) e h = (x, refl, h)
own_answer (Read x) e h = absurd cc
own_answer (ReadAnswer x) e h = (x, refl, h)
own_answer (Create x) e h = absurd cc
own_answer (CreateAnswer x) e h = (x, refl, h)
own_answer (MkDir x) e h = absurd cc
own_answer (MkDirAnswer x) e h = (x, refl, h)
own_answer (Remove x) e h = absurd cc
own_answer (RemoveAnswer x) e h = (x, refl, h)
own_answer (RmDir x) e h = absurd cc
own_answer (RmDirAnswer x) e h = (x, refl, h)
own_answer (Rename x) e h = absurd cc
own_answer (RenameAnswer x) e h = (x, refl, h)
own_answer (ReadDir x) e h = absurd cc
own_answer (ReadDirAnswer x) e h = (x, refl, h)
own_answer (FsInfo x) e h = absurd cc
own_answer (FsInfoAnswer x) e h = (x, refl, h)

pub fits_args : (p : NfsProc) (m : Nfs) → IsArgs p m → (args_form p).Fits m
fits_args p m h = subst (λ p. (args_form p).Fits m) h.1.0 (own_args m h.0 h.1.1)

pub fits_answer : (p : NfsProc) (m : Nfs) → IsAnswer p m → (answer_of p).Fits m
fits_answer p m h = subst (λ p. (answer_of p).Fits m) h.1.0 (own_answer m h.0 h.1.1)
