-- Any call of the callback program and any answer.
use Rattle.std.specs.Prelude.{◌≡◌, Bool, true, false, ℕ, List, [], ◌∷◌, Option, refl}
use Rattle.std.proofs.Common.{subst}
use Rattle.xdr_codec.specs.Format.{Format}
use Rattle.xdr_codec.specs.Compose.{embedded, nothing}
use Rattle.xdr_codec.specs.Tables.{named}
use Rattle.xdr_codec.specs.Handle.{handle_form}
use Rattle.hash_calls.specs.declared.message.BackProc.{BackProc}
use Rattle.hash_calls.specs.declared.message.BackProc.TheVariants as proc
use Rattle.hash_calls.specs.declared.message.Back.{Back}
use Rattle.hash_calls.specs.declared.message.Back.TheVariants.{Null, NullAnswer, Recall, RecallAnswer}

-- the number of a procedure, and the procedure that has it
abbrev pub proc_number : BackProc → ℕ
proc_number proc.Null = 0
proc_number proc.Recall = 1

abbrev pub procs : List BackProc
procs = proc.Null ∷ proc.Recall ∷ []

abbrev pub proc_of : ℕ → Option BackProc
proc_of n = named proc_number n procs

-- the procedure that a message calls or answers
abbrev pub back_proc : Back → BackProc
back_proc Null = proc.Null
back_proc NullAnswer = proc.Null
back_proc (Recall h) = proc.Recall
back_proc RecallAnswer = proc.Recall

-- no answer has a status
abbrev pub back_spell : Back → List ℕ
back_spell Null = []
back_spell NullAnswer = []
back_spell (Recall h) = handle_form.spell h
back_spell RecallAnswer = []

abbrev pub args_form : BackProc → Format Back
args_form proc.Null = embedded (λ u. Null) back_spell (nothing (tt {0})) (λ _. refl)
args_form proc.Recall = embedded Recall back_spell handle_form (λ _. refl)

abbrev pub answer_of : BackProc → Format Back
answer_of proc.Null = embedded (λ u. NullAnswer) back_spell (nothing (tt {0})) (λ _. refl)
answer_of proc.Recall = embedded (λ u. RecallAnswer) back_spell (nothing (tt {0})) (λ _. refl)

pub args_same : (p : BackProc) (m : Back) → back_spell m ≡ (args_form p).spell m
args_same proc.Null m = refl
args_same proc.Recall m = refl

pub answer_same : (p : BackProc) (m : Back) → back_spell m ≡ (answer_of p).spell m
answer_same proc.Null m = refl
answer_same proc.Recall m = refl

-- ---- what has a spelling

abbrev pub is_call : Back → Bool
is_call Null = true
is_call NullAnswer = false
is_call (Recall h) = true
is_call RecallAnswer = false

-- its handle is within its maximum
abbrev pub BackFits : Back → Type 0
BackFits Null = Unit {0}
BackFits NullAnswer = Unit {0}
BackFits (Recall h) = handle_form.Fits h
BackFits RecallAnswer = Unit {0}

-- the arguments of a procedure, and its answer
abbrev pub IsArgs : BackProc → Back → Type 0
IsArgs p m = (is_call m ≡ true) × ((back_proc m ≡ p) × BackFits m)

abbrev pub IsAnswer : BackProc → Back → Type 0
IsAnswer p m = (is_call m ≡ false) × ((back_proc m ≡ p) × BackFits m)

pub args_fit : (p : BackProc) (m : Back) → (args_form p).Fits m → IsArgs p m
args_fit proc.Null m h = subst (IsArgs proc.Null) h.1 (refl, (refl, tt))
args_fit proc.Recall m h = subst (IsArgs proc.Recall) h.1 (refl, (refl, h.2))

pub answer_fits : (p : BackProc) (m : Back) → (answer_of p).Fits m → IsAnswer p m
answer_fits proc.Null m h = subst (IsAnswer proc.Null) h.1 (refl, (refl, tt))
answer_fits proc.Recall m h = subst (IsAnswer proc.Recall) h.1 (refl, (refl, tt))

own_args : (m : Back) → is_call m ≡ true → BackFits m → (args_form (back_proc m)).Fits m
own_args Null e h = (tt, refl, refl)
own_args (Recall x) e h = (x, refl, h)
own_args m e h = absurd cc

own_answer : (m : Back) → is_call m ≡ false → BackFits m → (answer_of (back_proc m)).Fits m
own_answer NullAnswer e h = (tt, refl, refl)
own_answer RecallAnswer e h = (tt, refl, refl)
own_answer m e h = absurd cc

pub fits_args : (p : BackProc) (m : Back) → IsArgs p m → (args_form p).Fits m
fits_args p m h = subst (λ p. (args_form p).Fits m) h.1.0 (own_args m h.0 h.1.1)

pub fits_answer : (p : BackProc) (m : Back) → IsAnswer p m → (answer_of p).Fits m
fits_answer p m h = subst (λ p. (answer_of p).Fits m) h.1.0 (own_answer m h.0 h.1.1)
