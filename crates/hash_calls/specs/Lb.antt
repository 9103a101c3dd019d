-- Any call of LBFS and any answer.
use Rattle.std.specs.Prelude.{◌≡◌, Bool, true, false, ℕ, ◌≤◌, ◌<◌, ◌^◌, List, [], ◌∷◌, length, All, Option, Some, None, nat_le, if◌then◌else◌, refl}
use Rattle.std.proofs.Common.{subst, sym}
use Rattle.limits.specs.declared.TheConstants.{PAIRS_MOST, PIECE_MOST}
use Rattle.xdr_codec.specs.Format.{Format}
use Rattle.xdr_codec.specs.Compose.{embedded, nothing}
use Rattle.xdr_codec.specs.Xdr.{fixed_form}
use Rattle.xdr_codec.specs.Answers.{answer_form, short_answer}
use Rattle.xdr_codec.specs.Tables.{named}
use Rattle.xdr_codec.specs.declared.answer.Answer.{Answer}
use Rattle.xdr_codec.specs.declared.answer.Answer.TheVariants.{Done, Failed}
use Rattle.hash_calls.specs.Version.{digest_length, has_base, IsBased}
use Rattle.hash_calls.specs.Calls.{lease_on_form, leased_form, range_form, pair_form, hashes_form, IsNamedIn, new_temp_form, temp_piece_form, cond_piece_form, commit_form, committed_form, look_on_form, looked_form}
use Rattle.hash_calls.specs.declared.call.LeaseOn.{LeaseOn}
use Rattle.hash_calls.specs.declared.call.HashRange.{HashRange}
use Rattle.hash_calls.specs.declared.call.Hashes.{Hashes}
use Rattle.hash_calls.specs.declared.call.NewTemp.{NewTemp}
use Rattle.hash_calls.specs.declared.call.TempPiece.{TempPiece}
use Rattle.hash_calls.specs.declared.call.CondPiece.{CondPiece}
use Rattle.hash_calls.specs.declared.call.Commit.{Commit}
use Rattle.hash_calls.specs.declared.call.LookOn.{LookOn}
use Rattle.hash_calls.specs.declared.message.LbProc.{LbProc}
use Rattle.hash_calls.specs.declared.message.LbProc.TheVariants as proc
use Rattle.hash_calls.specs.declared.message.LbIn.{LbIn}
use Rattle.hash_calls.specs.declared.message.Lb.{Lb}
use Rattle.hash_calls.specs.declared.message.Lb.TheVariants.{Null, NullAnswer, GetLease, GetLeaseAnswer, GetHash, GetHashAnswer, MkTmpFile, MkTmpFileAnswer, TmpWrite, TmpWriteAnswer, CondWrite, CondWriteAnswer, CommitTmp, CommitTmpAnswer, LookLease, LookLeaseAnswer}

-- the number of a procedure, and the procedure that has it
abbrev pub proc_number : LbProc → ℕ
proc_number proc.Null = 0
proc_number proc.GetLease = 1
proc_number proc.GetHash = 2
proc_number proc.MkTmpFile = 3
proc_number proc.TmpWrite = 4
proc_number proc.CondWrite = 5
proc_number proc.CommitTmp = 6
proc_number proc.LookLease = 7

abbrev pub procs : List LbProc
procs = proc.Null ∷ proc.GetLease ∷ proc.GetHash ∷ proc.MkTmpFile ∷ proc.TmpWrite ∷ proc.CondWrite ∷ proc.CommitTmp ∷ proc.LookLease ∷ []

abbrev pub proc_of : ℕ → Option LbProc
proc_of n = named proc_number n procs

-- the first version that has a procedure
abbrev pub since : LbProc → ℕ
since proc.LookLease = 4
since p = 1

abbrev pub had : (lbfs : ℕ) → Option LbProc → Option LbProc
had lbfs None = None
had lbfs (Some p) = if nat_le (since p) lbfs then Some p else None

-- the procedure that has the number in a version
abbrev pub proc_in : (lbfs number : ℕ) → Option LbProc
proc_in lbfs number = had lbfs (proc_of number)

-- the procedure that a message calls or answers
abbrev pub lb_proc : Lb → LbProc
lb_proc (Null v) = proc.Null
lb_proc NullAnswer = proc.Null
lb_proc (GetLease x) = proc.GetLease
lb_proc (GetLeaseAnswer a) = proc.GetLease
lb_proc (GetHash x) = proc.GetHash
lb_proc (GetHashAnswer a) = proc.GetHash
lb_proc (MkTmpFile x) = proc.MkTmpFile
lb_proc (MkTmpFileAnswer a) = proc.MkTmpFile
lb_proc (TmpWrite x) = proc.TmpWrite
lb_proc (TmpWriteAnswer a) = proc.TmpWrite
lb_proc (CondWrite x) = proc.CondWrite
lb_proc (CondWriteAnswer a) = proc.CondWrite
lb_proc (CommitTmp x) = proc.CommitTmp
lb_proc (CommitTmpAnswer a) = proc.CommitTmp
lb_proc (LookLease x) = proc.LookLease
lb_proc (LookLeaseAnswer a) = proc.LookLease

-- the version that a call is of; an answer doesn't say it
abbrev pub lbfs_of : Lb → ℕ
lbfs_of (Null v) = v
lbfs_of (GetLease x) = x.lbfs
lbfs_of (GetHash x) = x.lbfs
lbfs_of (MkTmpFile x) = x.lbfs
lbfs_of (TmpWrite x) = x.lbfs
lbfs_of (CondWrite x) = x.lbfs
lbfs_of (CommitTmp x) = x.lbfs
lbfs_of (LookLease x) = x.lbfs
lbfs_of m = 0

-- an answer is spelled alike in each version: a digest says itself how long it is
abbrev pub lb_spell : Lb → List ℕ
lb_spell (Null v) = []
lb_spell NullAnswer = []
lb_spell (GetLease x) = (lease_on_form x.lbfs).spell x
lb_spell (GetLeaseAnswer a) = (answer_form leased_form (nothing tt)).spell a
lb_spell (GetHash x) = (range_form x.lbfs).spell x
lb_spell (GetHashAnswer a) = (answer_form (hashes_form 1) (nothing tt)).spell a
lb_spell (MkTmpFile x) = (new_temp_form x.lbfs).spell x
lb_spell (MkTmpFileAnswer a) = (answer_form (nothing tt) (nothing tt)).spell a
lb_spell (TmpWrite x) = (temp_piece_form x.lbfs).spell x
lb_spell (TmpWriteAnswer a) = (answer_form (nothing tt) (nothing tt)).spell a
lb_spell (CondWrite x) = (cond_piece_form x.lbfs).spell x
lb_spell (CondWriteAnswer a) = (answer_form (nothing tt) (nothing tt)).spell a
lb_spell (CommitTmp x) = (commit_form x.lbfs).spell x
lb_spell (CommitTmpAnswer a) = (answer_form committed_form (nothing tt)).spell a
lb_spell (LookLease x) = (look_on_form x.lbfs).spell x
lb_spell (LookLeaseAnswer a) = (answer_form looked_form (nothing tt)).spell a

pub lease_on_same : (v : ℕ) (x : LeaseOn) → (lease_on_form x.lbfs).spell x ≡ (lease_on_form v).spell x
unfolding lease_on_form
lease_on_same v x = refl

pub range_same : (v : ℕ) (x : HashRange) → (range_form x.lbfs).spell x ≡ (range_form v).spell x
unfolding range_form
range_same v x = refl

pub new_temp_same : (v : ℕ) (x : NewTemp) → (new_temp_form x.lbfs).spell x ≡ (new_temp_form v).spell x
unfolding new_temp_form
new_temp_same v x = refl

pub temp_piece_same : (v : ℕ) (x : TempPiece) → (temp_piece_form x.lbfs).spell x ≡ (temp_piece_form v).spell x
unfolding temp_piece_form
temp_piece_same v x = refl

pub cond_piece_same : (v : ℕ) (x : CondPiece) → (cond_piece_form x.lbfs).spell x ≡ (cond_piece_form v).spell x
unfolding cond_piece_form fixed_form
cond_piece_same v x = refl

pub commit_same : (v : ℕ) (x : Commit) → (commit_form x.lbfs).spell x ≡ (commit_form v).spell x
unfolding commit_form
commit_same v x = refl

pub look_on_same : (v : ℕ) (x : LookOn) → (look_on_form x.lbfs).spell x ≡ (look_on_form v).spell x
unfolding look_on_form
look_on_same v x = refl

pub hashed_same : (v w : ℕ) (a : Answer Hashes (Unit {0})) → (answer_form (hashes_form v) (nothing (tt {0}))).spell a ≡ (answer_form (hashes_form w) (nothing (tt {0}))).spell a
unfolding hashes_form pair_form fixed_form
hashed_same v w (Done h) = refl
hashed_same v w (Failed s u) = refl

-- the arguments of a procedure in a version, and its answer
abbrev pub args_in : (lbfs : ℕ) → LbProc → Format Lb
args_in v proc.Null = embedded (λ u. Null v) lb_spell (nothing (tt {0})) (λ _. refl)
args_in v proc.GetLease = embedded GetLease lb_spell (lease_on_form v) (lease_on_same v)
args_in v proc.GetHash = embedded GetHash lb_spell (range_form v) (range_same v)
args_in v proc.MkTmpFile = embedded MkTmpFile lb_spell (new_temp_form v) (new_temp_same v)
args_in v proc.TmpWrite = embedded TmpWrite lb_spell (temp_piece_form v) (temp_piece_same v)
args_in v proc.CondWrite = embedded CondWrite lb_spell (cond_piece_form v) (cond_piece_same v)
args_in v proc.CommitTmp = embedded CommitTmp lb_spell (commit_form v) (commit_same v)
args_in v proc.LookLease = embedded LookLease lb_spell (look_on_form v) (look_on_same v)

abbrev pub answer_in : (lbfs : ℕ) → LbProc → Format Lb
answer_in v proc.Null = embedded (λ u. NullAnswer) lb_spell (nothing (tt {0})) (λ _. refl)
answer_in v proc.GetLease = embedded GetLeaseAnswer lb_spell (answer_form leased_form (nothing tt)) (λ _. refl)
answer_in v proc.GetHash = embedded GetHashAnswer lb_spell (answer_form (hashes_form v) (nothing tt)) (hashed_same 1 v)
answer_in v proc.MkTmpFile = embedded MkTmpFileAnswer lb_spell (answer_form (nothing tt) (nothing tt)) (λ _. refl)
answer_in v proc.TmpWrite = embedded TmpWriteAnswer lb_spell (answer_form (nothing tt) (nothing tt)) (λ _. refl)
answer_in v proc.CondWrite = embedded CondWriteAnswer lb_spell (answer_form (nothing tt) (nothing tt)) (λ _. refl)
answer_in v proc.CommitTmp = embedded CommitTmpAnswer lb_spell (answer_form committed_form (nothing tt)) (λ _. refl)
answer_in v proc.LookLease = embedded LookLeaseAnswer lb_spell (answer_form looked_form (nothing tt)) (λ _. refl)

abbrev pub args_form : LbIn → Format Lb
args_form q = args_in q.lbfs q.procedure

abbrev pub answer_of : LbIn → Format Lb
answer_of q = answer_in q.lbfs q.procedure

args_same_in : (v : ℕ) (p : LbProc) (m : Lb) → lb_spell m ≡ (args_in v p).spell m
args_same_in v proc.Null m = refl
args_same_in v proc.GetLease m = refl
args_same_in v proc.GetHash m = refl
args_same_in v proc.MkTmpFile m = refl
args_same_in v proc.TmpWrite m = refl
args_same_in v proc.CondWrite m = refl
args_same_in v proc.CommitTmp m = refl
args_same_in v proc.LookLease m = refl

answer_same_in : (v : ℕ) (p : LbProc) (m : Lb) → lb_spell m ≡ (answer_in v p).spell m
answer_same_in v proc.Null m = refl
answer_same_in v proc.GetLease m = refl
answer_same_in v proc.GetHash m = refl
answer_same_in v proc.MkTmpFile m = refl
answer_same_in v proc.TmpWrite m = refl
answer_same_in v proc.CondWrite m = refl
answer_same_in v proc.CommitTmp m = refl
answer_same_in v proc.LookLease m = refl

pub args_same : (q : LbIn) (m : Lb) → lb_spell m ≡ (args_form q).spell m
args_same q m = args_same_in q.lbfs q.procedure m

pub answer_same : (q : LbIn) (m : Lb) → lb_spell m ≡ (answer_of q).spell m
answer_same q m = answer_same_in q.lbfs q.procedure m

-- ---- what has a spelling

abbrev pub is_call : Lb → Bool
is_call (Null v) = true
is_call NullAnswer = false
is_call (GetLease x) = true
is_call (GetLeaseAnswer a) = false
is_call (GetHash x) = true
is_call (GetHashAnswer a) = false
is_call (MkTmpFile x) = true
is_call (MkTmpFileAnswer a) = false
is_call (TmpWrite x) = true
is_call (TmpWriteAnswer a) = false
is_call (CondWrite x) = true
is_call (CondWriteAnswer a) = false
is_call (CommitTmp x) = true
is_call (CommitTmpAnswer a) = false
is_call (LookLease x) = true
is_call (LookLeaseAnswer a) = false

-- Its byte strings, lists and numbers are within their maxima, and its layout is that of its version. Of an answer's version only digests say something:
-- they are all of one.
abbrev pub LbFits : Lb → Type 0
LbFits (Null v) = Unit {0}
LbFits NullAnswer = Unit {0}
LbFits (GetLease x) = (lease_on_form x.lbfs).Fits x
LbFits (GetLeaseAnswer a) = (answer_form leased_form (nothing tt)).Fits a
LbFits (GetHash x) = (range_form x.lbfs).Fits x
LbFits (GetHashAnswer a) = (v : ℕ) × (answer_form (hashes_form v) (nothing tt)).Fits a
LbFits (MkTmpFile x) = (new_temp_form x.lbfs).Fits x
LbFits (MkTmpFileAnswer a) = (answer_form (nothing tt) (nothing tt)).Fits a
LbFits (TmpWrite x) = (temp_piece_form x.lbfs).Fits x
LbFits (TmpWriteAnswer a) = (answer_form (nothing tt) (nothing tt)).Fits a
LbFits (CondWrite x) = (cond_piece_form x.lbfs).Fits x
LbFits (CondWriteAnswer a) = (answer_form (nothing tt) (nothing tt)).Fits a
LbFits (CommitTmp x) = (commit_form x.lbfs).Fits x
LbFits (CommitTmpAnswer a) = (answer_form committed_form (nothing tt)).Fits a
LbFits (LookLease x) = (look_on_form x.lbfs).Fits x
LbFits (LookLeaseAnswer a) = (answer_form looked_form (nothing tt)).Fits a

-- as an answer to a call of that version
abbrev pub FitsIn : (lbfs : ℕ) → Lb → Type 0
FitsIn v (GetHashAnswer a) = (answer_form (hashes_form v) (nothing tt)).Fits a
FitsIn v m = LbFits m

pub fits_in : (v : ℕ) (m : Lb) → FitsIn v m → LbFits m
fits_in v (GetHashAnswer a) h = (v, h)
fits_in v m h = h

-- an answer that has no byte string and no list
abbrev AnswerHasNone : {A : Type 0} → Answer A (Unit {0}) → Type 0
AnswerHasNone a = short_answer (λ _. Unit {0}) (λ _. Unit {0}) a

-- its byte strings and lists are within their maxima, and its layout is that of its version, which its types do not say
abbrev pub IsShort : Lb → Type 0
IsShort (Null v) = Unit {0}
IsShort NullAnswer = Unit {0}
IsShort (GetLease x) = Unit {0}
IsShort (GetLeaseAnswer a) = AnswerHasNone a
IsShort (GetHash x) = Unit {0}
IsShort (GetHashAnswer a) = (v : ℕ) × short_answer (λ h. (length h.pairs ≤ PAIRS_MOST) × All (IsNamedIn v) h.pairs) (λ _. Unit {0}) a
IsShort (MkTmpFile x) = Unit {0}
IsShort (MkTmpFileAnswer a) = AnswerHasNone a
IsShort (TmpWrite x) = length x.bytes ≤ PIECE_MOST
IsShort (TmpWriteAnswer a) = AnswerHasNone a
IsShort (CondWrite x) = length x.digest ≡ digest_length x.lbfs
IsShort (CondWriteAnswer a) = AnswerHasNone a
IsShort (CommitTmp x) = IsBased (has_base x.lbfs) x.base
IsShort (CommitTmpAnswer a) = AnswerHasNone a
IsShort (LookLease x) = length x.name < 2 ^ 32
IsShort (LookLeaseAnswer a) = AnswerHasNone a

-- the arguments of a procedure in a version, and its answer
abbrev pub IsArgs : LbIn → Lb → Type 0
IsArgs q m = (is_call m ≡ true) × ((lb_proc m ≡ q.procedure) × ((lbfs_of m ≡ q.lbfs) × LbFits m))

abbrev pub IsAnswer : LbIn → Lb → Type 0
IsAnswer q m = (is_call m ≡ false) × ((lb_proc m ≡ q.procedure) × FitsIn q.lbfs m)

abbrev IsCallIn : (lbfs : ℕ) → LbProc → Lb → Type 0
IsCallIn v p m = (is_call m ≡ true) × ((lb_proc m ≡ p) × ((lbfs_of m ≡ v) × LbFits m))

abbrev IsAnswerIn : (lbfs : ℕ) → LbProc → Lb → Type 0
IsAnswerIn v p m = (is_call m ≡ false) × ((lb_proc m ≡ p) × FitsIn v m)

lease_on_is : (v : ℕ) (x : LeaseOn) → (lease_on_form v).Fits x → (x.lbfs ≡ v) × (lease_on_form x.lbfs).Fits x
unfolding lease_on_form
lease_on_is v x h = (h.0, subst (λ n. (lease_on_form n).Fits x) (sym h.0) h)

range_is : (v : ℕ) (x : HashRange) → (range_form v).Fits x → (x.lbfs ≡ v) × (range_form x.lbfs).Fits x
unfolding range_form
range_is v x h = (h.0, subst (λ n. (range_form n).Fits x) (sym h.0) h)

new_temp_is : (v : ℕ) (x : NewTemp) → (new_temp_form v).Fits x → (x.lbfs ≡ v) × (new_temp_form x.lbfs).Fits x
unfolding new_temp_form
new_temp_is v x h = (h.0, subst (λ n. (new_temp_form n).Fits x) (sym h.0) h)

temp_piece_is : (v : ℕ) (x : TempPiece) → (temp_piece_form v).Fits x → (x.lbfs ≡ v) × (temp_piece_form x.lbfs).Fits x
unfolding temp_piece_form
temp_piece_is v x h = (h.0, subst (λ n. (temp_piece_form n).Fits x) (sym h.0) h)

cond_piece_is : (v : ℕ) (x : CondPiece) → (cond_piece_form v).Fits x → (x.lbfs ≡ v) × (cond_piece_form x.lbfs).Fits x
unfolding cond_piece_form
cond_piece_is v x h = (h.0, subst (λ n. (cond_piece_form n).Fits x) (sym h.0) h)

commit_is : (v : ℕ) (x : Commit) → (commit_form v).Fits x → (x.lbfs ≡ v) × (commit_form x.lbfs).Fits x
unfolding commit_form
commit_is v x h = (h.0, subst (λ n. (commit_form n).Fits x) (sym h.0) h)

look_on_is : (v : ℕ) (x : LookOn) → (look_on_form v).Fits x → (x.lbfs ≡ v) × (look_on_form x.lbfs).Fits x
unfolding look_on_form
look_on_is v x h = (h.0, subst (λ n. (look_on_form n).Fits x) (sym h.0) h)

args_fit_in : (v : ℕ) (p : LbProc) (m : Lb) → (args_in v p).Fits m → IsCallIn v p m
args_fit_in v proc.Null m h = subst (IsCallIn v proc.Null) h.1 (refl, (refl, (refl, tt)))
args_fit_in v proc.GetLease m h = subst (IsCallIn v proc.GetLease) h.1 (refl, (refl, lease_on_is v h.0 h.2))
args_fit_in v proc.GetHash m h = subst (IsCallIn v proc.GetHash) h.1 (refl, (refl, range_is v h.0 h.2))
args_fit_in v proc.MkTmpFile m h = subst (IsCallIn v proc.MkTmpFile) h.1 (refl, (refl, new_temp_is v h.0 h.2))
args_fit_in v proc.TmpWrite m h = subst (IsCallIn v proc.TmpWrite) h.1 (refl, (refl, temp_piece_is v h.0 h.2))
args_fit_in v proc.CondWrite m h = subst (IsCallIn v proc.CondWrite) h.1 (refl, (refl, cond_piece_is v h.0 h.2))
args_fit_in v proc.CommitTmp m h = subst (IsCallIn v proc.CommitTmp) h.1 (refl, (refl, commit_is v h.0 h.2))
args_fit_in v proc.LookLease m h = subst (IsCallIn v proc.LookLease) h.1 (refl, (refl, look_on_is v h.0 h.2))

answer_fits_in : (v : ℕ) (p : LbProc) (m : Lb) → (answer_in v p).Fits m → IsAnswerIn v p m
answer_fits_in v proc.Null m h = subst (IsAnswerIn v proc.Null) h.1 (refl, (refl, tt))
answer_fits_in v proc.GetLease m h = subst (IsAnswerIn v proc.GetLease) h.1 (refl, (refl, h.2))
answer_fits_in v proc.GetHash m h = subst (IsAnswerIn v proc.GetHash) h.1 (refl, (refl, h.2))
answer_fits_in v proc.MkTmpFile m h = subst (IsAnswerIn v proc.MkTmpFile) h.1 (refl, (refl, h.2))
answer_fits_in v proc.TmpWrite m h = subst (IsAnswerIn v proc.TmpWrite) h.1 (refl, (refl, h.2))
answer_fits_in v proc.CondWrite m h = subst (IsAnswerIn v proc.CondWrite) h.1 (refl, (refl, h.2))
answer_fits_in v proc.CommitTmp m h = subst (IsAnswerIn v proc.CommitTmp) h.1 (refl, (refl, h.2))
answer_fits_in v proc.LookLease m h = subst (IsAnswerIn v proc.LookLease) h.1 (refl, (refl, h.2))

own_args : (m : Lb) → is_call m ≡ true → LbFits m → (args_in (lbfs_of m) (lb_proc m)).Fits m
own_args (Null v) e h = (tt, refl, refl)
own_args (GetLease x) e h = (x, refl, h)
own_args (GetHash x) e h = (x, refl, h)
own_args (MkTmpFile x) e h = (x, refl, h)
own_args (TmpWrite x) e h = (x, refl, h)
own_args (CondWrite x) e h = (x, refl, h)
own_args (CommitTmp x) e h = (x, refl, h)
own_args (LookLease x) e h = (x, refl, h)
own_args m e h = absurd cc

own_answer : (v : ℕ) (m : Lb) → is_call m ≡ false → FitsIn v m → (answer_in v (lb_proc m)).Fits m
own_answer v NullAnswer e h = (tt, refl, refl)
own_answer v (GetLeaseAnswer a) e h = (a, refl, h)
own_answer v (GetHashAnswer a) e h = (a, refl, h)
own_answer v (MkTmpFileAnswer a) e h = (a, refl, h)
own_answer v (TmpWriteAnswer a) e h = (a, refl, h)
own_answer v (CondWriteAnswer a) e h = (a, refl, h)
own_answer v (CommitTmpAnswer a) e h = (a, refl, h)
own_answer v (LookLeaseAnswer a) e h = (a, refl, h)
own_answer v m e h = absurd cc

pub args_fit : (q : LbIn) (m : Lb) → (args_form q).Fits m → IsArgs q m
args_fit q m h = args_fit_in q.lbfs q.procedure m h

pub answer_fits : (q : LbIn) (m : Lb) → (answer_of q).Fits m → IsAnswer q m
answer_fits q m h = answer_fits_in q.lbfs q.procedure m h

pub fits_args : (q : LbIn) (m : Lb) → IsArgs q m → (args_form q).Fits m
fits_args q m h = subst (λ v. (args_in v q.procedure).Fits m) h.1.1.0 (subst (λ p. (args_in (lbfs_of m) p).Fits m) h.1.0 (own_args m h.0 h.1.1.1))

pub fits_answer : (q : LbIn) (m : Lb) → IsAnswer q m → (answer_of q).Fits m
fits_answer q m h = subst (λ p. (answer_in q.lbfs p).Fits m) h.1.0 (own_answer q.lbfs m h.0 h.1.1)
