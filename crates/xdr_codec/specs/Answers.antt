-- An answer: its status, 0 where the call was done, and what goes with it (RFC 1813, section 2.6: nfsstat3, and section 3: a
-- union on it; RFC 4506, section 4.15).
use Rattle.std.specs.Prelude.{◌≡◌, ◌↔◌, ℕ, List, ◌∷◌, ◌++◌, map, Option, Some, None, ◌^◌, ◌<◌, refl}
use Rattle.std.proofs.Common.{lit<, ap, sym, subst}
use Rattle.xdr_codec.specs.declared.fault.Fault.TheVariants.{BadValue}
use Rattle.xdr_codec.specs.Format.{Format}
use Rattle.xdr_codec.specs.Compose.{refined, tagged, embedded, in_words}
use Rattle.xdr_codec.specs.Xdr.{u32_form}
use Rattle.xdr_codec.specs.Tables.{named, named_there}
use Rattle.xdr_codec.specs.declared.status.Status.{Status}
use Rattle.xdr_codec.specs.declared.status.Status.TheVariants.{Perm, NoEnt, Io, Acces, Exist, NotDir, IsDir, Inval, FBig, NoSpc, NameTooLong, NotEmpty, Stale, BadHandle, BadCookie, NotSupp, TooSmall, ServerFault, Jukebox, HashNotFound, FdInUse, BadFd, TooManyTemps, Conflict}
use Rattle.xdr_codec.specs.declared.answer.Answer.{Answer}
use Rattle.xdr_codec.specs.declared.answer.Answer.TheVariants.{Done, Failed}
use Rattle.xdr_codec.specs.Status.{status_number, statuses}

-- the number of a status, or 0
abbrev pub outcome_number : Option Status → ℕ
outcome_number None = 0
outcome_number (Some s) = status_number s

abbrev pub outcomes : List (Option Status)
outcomes = None ∷ map Some statuses

-- whether the call was done, or why not
abbrev pub outcome_of : ℕ → Option (Option Status)
outcome_of n = named outcome_number n outcomes

pub outcome_home : (o : Option Status) → outcome_of (outcome_number o) ≡ Some o
outcome_home None = refl
outcome_home (Some s) = elim s as (λ s. outcome_of (status_number s) ≡ Some (Some s)) [ Perm ↦ refl | NoEnt ↦ refl | Io ↦ refl | Acces ↦ refl | Exist ↦ refl | NotDir ↦ refl | IsDir ↦ refl | Inval ↦ refl | FBig ↦ refl | NoSpc ↦ refl | NameTooLong ↦ refl | NotEmpty ↦ refl | Stale ↦ refl | BadHandle ↦ refl | BadCookie ↦ refl | NotSupp ↦ refl | TooSmall ↦ refl | ServerFault ↦ refl | Jukebox ↦ refl | HashNotFound ↦ refl | FdInUse ↦ refl | BadFd ↦ refl | TooManyTemps ↦ refl | Conflict ↦ refl ]

pub outcome_there : (n : ℕ) (o : Option Status) → outcome_of n ≡ Some o → outcome_number o ≡ n
outcome_there n o e = named_there outcome_number n outcomes o e

unfoldable pub outcome_form : Format (Option Status)
outcome_form = refined outcome_of outcome_number BadValue outcome_home outcome_there u32_form

abbrev pub outcome : {T F : Type 0} → Answer T F → Option Status
outcome (Done x) = None
outcome (Failed s x) = Some s

abbrev pub body_spell : {T F : Type 0} → Format T → Format F → Answer T F → List ℕ
body_spell f g (Done x) = f.spell x
body_spell f g (Failed s x) = g.spell x

abbrev pub body_form : {T F : Type 0} → Format T → Format F → Option Status → Format (Answer T F)
body_form f g None = embedded Done (body_spell f g) f (λ _. refl)
body_form f g (Some s) = embedded (Failed s) (body_spell f g) g (λ _. refl)

pub body_one : {T F : Type 0} (f : Format T) (g : Format F) (o : Option Status) (a : Answer T F) → outcome_form.Fits o → (body_form f g o).Fits a → outcome a ≡ o
body_one f g None a small fits = ap outcome (sym fits.1)
body_one f g (Some s) a small fits = ap outcome (sym fits.1)

abbrev pub answer_spell : {T F : Type 0} → Format T → Format F → Answer T F → List ℕ
answer_spell f g a = outcome_form.spell (outcome a) ++ body_spell f g a

abbrev pub AnswerFits : {T F : Type 0} → Format T → Format F → Answer T F → Type 0
AnswerFits f g (Done x) = f.Fits x
AnswerFits f g (Failed s x) = g.Fits x

abbrev pub answer_parts : {T F : Type 0} → Format T → Format F → Format (Answer T F)
answer_parts f g = tagged outcome outcome_form (body_form f g) (body_one f g)

pub outcome_fits : (o : Option Status) → outcome_form.Fits o
unfolding outcome_form u32_form
outcome_fits None = lit< tt
outcome_fits (Some s) = elim s as (λ s. status_number s < 2 ^ 32) [ Perm ↦ lit< tt | NoEnt ↦ lit< tt | Io ↦ lit< tt | Acces ↦ lit< tt | Exist ↦ lit< tt | NotDir ↦ lit< tt | IsDir ↦ lit< tt | Inval ↦ lit< tt | FBig ↦ lit< tt | NoSpc ↦ lit< tt | NameTooLong ↦ lit< tt | NotEmpty ↦ lit< tt | Stale ↦ lit< tt | BadHandle ↦ lit< tt | BadCookie ↦ lit< tt | NotSupp ↦ lit< tt | TooSmall ↦ lit< tt | ServerFault ↦ lit< tt | Jukebox ↦ lit< tt | HashNotFound ↦ lit< tt | FdInUse ↦ lit< tt | BadFd ↦ lit< tt | TooManyTemps ↦ lit< tt | Conflict ↦ lit< tt ]

pub answer_same : {T F : Type 0} (f : Format T) (g : Format F) (a : Answer T F) → (answer_parts f g).spell a ≡ answer_spell f g a
answer_same f g (Done x) = refl
answer_same f g (Failed s x) = refl

pub answer_iff : {T F : Type 0} (f : Format T) (g : Format F) (a : Answer T F) → (answer_parts f g).Fits a ↔ AnswerFits f g a
answer_iff {T} {F} f g (Done x) = (λ h. subst (λ a. AnswerFits f g a) h.1.1 h.1.2, λ h. (outcome_fits None, (x, refl, h)))
answer_iff {T} {F} f g (Failed s x) = (λ h. subst (λ a. AnswerFits f g a) h.1.1 h.1.2, λ h. (outcome_fits (Some s), (x, refl, h)))

abbrev pub answer_form : {T F : Type 0} → Format T → Format F → Format (Answer T F)
answer_form f g = in_words (answer_spell f g) (AnswerFits f g) (answer_parts f g) (answer_same f g) (answer_iff f g)

abbrev pub short_answer : {T F : Type 0} → (T → Type 0) → (F → Type 0) → Answer T F → Type 0
short_answer p q (Done x) = p x
short_answer p q (Failed s x) = q x
