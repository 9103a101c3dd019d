-- An answer as far as it says what became of its call (RFC 5531, section 9: rpc_msg, reply_body).
use Rattle.std.specs.Prelude.{◌≡◌, ℕ, zero, suc, List, [], ◌∷◌, ◌++◌, Option, Some, refl}
use Rattle.std.proofs.Common.{ap, sym}
use Rattle.xdr_codec.specs.declared.fault.Fault.TheVariants.{BadValue}
use Rattle.xdr_codec.specs.Format.{Format}
use Rattle.xdr_codec.specs.Compose.{◌⋆◌, refined, tagged, embedded}
use Rattle.xdr_codec.specs.Xdr.{u32_form}
use Rattle.xdr_codec.specs.Choice.{known_form}
use Rattle.xdr_codec.specs.Tables.{named, named_there}
use Rattle.rpc_record.specs.Header.{is_choice, front_form, auth_form}
use Rattle.rpc_record.specs.declared.header.Auth.{Auth}
use Rattle.rpc_record.specs.declared.header.Front.{Front}
use Rattle.record_show.specs.declared.stat.AcceptStat.{AcceptStat}
use Rattle.record_show.specs.declared.stat.AcceptStat.TheVariants.{Success, ProgUnavail, ProgMismatch, ProcUnavail, GarbageArgs, SystemErr}
use Rattle.record_show.specs.declared.stat.RejectStat.{RejectStat}
use Rattle.record_show.specs.declared.stat.RejectStat.TheVariants.{RpcMismatch, AuthError}
use Rattle.record_show.specs.declared.stat.Stat.{Stat}
use Rattle.record_show.specs.declared.stat.Stat.TheVariants.{Accepted, Denied}

-- ---- accept_stat

abbrev pub accept_number : AcceptStat → ℕ
accept_number Success = 0
accept_number ProgUnavail = 1
accept_number ProgMismatch = 2
accept_number ProcUnavail = 3
accept_number GarbageArgs = 4
accept_number SystemErr = 5

abbrev pub accepts : List AcceptStat
accepts = Success ∷ ProgUnavail ∷ ProgMismatch ∷ ProcUnavail ∷ GarbageArgs ∷ SystemErr ∷ []

abbrev pub accept_of : ℕ → Option AcceptStat
accept_of n = named accept_number n accepts

pub accept_home : (s : AcceptStat) → accept_of (accept_number s) ≡ Some s
accept_home Success = refl
accept_home ProgUnavail = refl
accept_home ProgMismatch = refl
accept_home ProcUnavail = refl
accept_home GarbageArgs = refl
accept_home SystemErr = refl

unfoldable pub accept_stat_form : Format AcceptStat
accept_stat_form = refined accept_of accept_number BadValue accept_home (λ n s e. named_there accept_number n accepts s e) u32_form

-- ---- reject_stat

abbrev pub reject_number : RejectStat → ℕ
reject_number RpcMismatch = 0
reject_number AuthError = 1

abbrev pub rejects : List RejectStat
rejects = RpcMismatch ∷ AuthError ∷ []

abbrev pub reject_of : ℕ → Option RejectStat
reject_of n = named reject_number n rejects

pub reject_home : (s : RejectStat) → reject_of (reject_number s) ≡ Some s
reject_home RpcMismatch = refl
reject_home AuthError = refl

unfoldable pub reject_stat_form : Format RejectStat
reject_stat_form = refined reject_of reject_number BadValue reject_home (λ n s e. named_there reject_number n rejects s e) u32_form

-- ---- reply_stat, and the verifier and accept_stat, or reject_stat; not what follows them

abbrev pub stat_number : Stat → ℕ
stat_number (Accepted verf s) = 0
stat_number (Denied s) = 1

abbrev pub stat_spell : Stat → List ℕ
stat_spell (Accepted verf s) = auth_form.spell verf ++ accept_stat_form.spell s
stat_spell (Denied s) = reject_stat_form.spell s

abbrev pub stat_forms : ℕ → Format Stat
stat_forms zero = embedded (λ (p : Auth × AcceptStat). Accepted p.0 p.1) stat_spell (auth_form ⋆ accept_stat_form) (λ _. refl)
stat_forms (suc n) = embedded Denied stat_spell reject_stat_form (λ _. refl)

pub stat_one : (n : ℕ) (s : Stat) → (known_form is_choice).Fits n → (stat_forms n).Fits s → stat_number s ≡ n
stat_one zero s known fits = ap stat_number (sym fits.1)
stat_one (suc zero) s known fits = ap stat_number (sym fits.1)
stat_one (suc (suc n)) s known fits = let no = known.1 in absurd cc

unfoldable pub stat_form : Format Stat
stat_form = tagged stat_number (known_form is_choice) stat_forms stat_one

-- behind the xid and the type
abbrev pub answer_form : Format (Front × Stat)
answer_form = front_form ⋆ stat_form
