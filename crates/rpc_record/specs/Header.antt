-- The headers of RPC messages (RFC 5531, sections 8 and 9).
use Rattle.std.specs.Prelude.{◌≡◌, ℕ, zero, suc, List, [], ◌++◌, Option, Some, None, Bool, true, false, refl, length, ◌≤◌}
use Rattle.std.proofs.Common.{ap, sym}
use Rattle.limits.specs.declared.TheConstants.{AUTH_MOST}
use Rattle.xdr_codec.specs.declared.fault.Fault.TheVariants.{BadValue}
use Rattle.xdr_codec.specs.Format.{Format}
use Rattle.xdr_codec.specs.Compose.{◌⋆◌, mapped, refined, tagged, embedded, nothing}
use Rattle.xdr_codec.specs.Xdr.{u32_form, opaque_form}
use Rattle.xdr_codec.specs.Choice.{known_form}
use Rattle.rpc_record.specs.declared.header.Direction.{Direction}
use Rattle.rpc_record.specs.declared.header.Direction.TheVariants as direction
use Rattle.rpc_record.specs.declared.header.Front.{Front}
use Rattle.rpc_record.specs.declared.header.Auth.{Auth}
use Rattle.rpc_record.specs.declared.header.CallHead.{CallHead}
use Rattle.rpc_record.specs.declared.header.Versions.{Versions}
use Rattle.rpc_record.specs.declared.header.Accept.{Accept}
use Rattle.rpc_record.specs.declared.header.Accept.TheVariants.{Success, ProgUnavail, ProgMismatch, ProcUnavail, GarbageArgs, SystemErr}
use Rattle.rpc_record.specs.declared.header.Denial.{Denial}
use Rattle.rpc_record.specs.declared.header.Denial.TheVariants.{RpcMismatch, AuthError}
use Rattle.rpc_record.specs.declared.header.ReplyHead.{ReplyHead}
use Rattle.rpc_record.specs.declared.header.ReplyHead.TheVariants.{Accepted, Denied}

-- ---- the front of every message (rpc_msg, msg_type)

abbrev pub direction_of : ℕ → Option Direction
direction_of zero = Some direction.Call
direction_of (suc zero) = Some direction.Reply
direction_of (suc (suc n)) = None

abbrev pub direction_number : Direction → ℕ
direction_number direction.Call = 0
direction_number direction.Reply = 1

pub direction_home : (d : Direction) → direction_of (direction_number d) ≡ Some d
direction_home direction.Call = refl
direction_home direction.Reply = refl

pub direction_there : (n : ℕ) (d : Direction) → direction_of n ≡ Some d → direction_number d ≡ n
direction_there zero direction.Call e = refl
direction_there zero direction.Reply e = absurd cc
direction_there (suc zero) direction.Reply e = refl
direction_there (suc zero) direction.Call e = absurd cc
direction_there (suc (suc n)) d e = absurd cc

unfoldable pub direction_form : Format Direction
direction_form = refined direction_of direction_number BadValue direction_home direction_there u32_form

unfoldable pub front_form : Format Front
front_form = mapped (λ (x, d). record { xid = x; direction = d }) (λ f. (f.xid, f.direction)) (λ _. refl) (λ _. refl) (u32_form ⋆ direction_form)

-- ---- a call (opaque_auth, call_body behind rpcvers)

unfoldable pub auth_form : Format Auth
auth_form = mapped (λ (f, b). record { flavor = f; body = b }) (λ a. (a.flavor, a.body)) (λ _. refl) (λ _. refl) (u32_form ⋆ opaque_form AUTH_MOST)

unfoldable pub call_form : Format CallHead
call_form = mapped (λ (g, (v, (p, (c, f)))). record { program = g; version = v; procedure = p; cred = c; verf = f }) (λ h. (h.program, (h.version, (h.procedure, (h.cred, h.verf))))) (λ _. refl) (λ _. refl)
    (u32_form ⋆ u32_form ⋆ u32_form ⋆ auth_form ⋆ auth_form)

-- ---- a reply (mismatch_info, accepted_reply, rejected_reply, reply_body)

unfoldable pub versions_form : Format Versions
versions_form = mapped (λ (l, h). record { low = l; high = h }) (λ v. (v.low, v.high)) (λ _. refl) (λ _. refl) (u32_form ⋆ u32_form)

abbrev pub accept_number : Accept → ℕ
accept_number Success = 0
accept_number ProgUnavail = 1
accept_number (ProgMismatch v) = 2
accept_number ProcUnavail = 3
accept_number GarbageArgs = 4
accept_number SystemErr = 5

abbrev pub is_accept : ℕ → Bool
is_accept zero = true
is_accept (suc zero) = true
is_accept (suc (suc zero)) = true
is_accept (suc (suc (suc zero))) = true
is_accept (suc (suc (suc (suc zero)))) = true
is_accept (suc (suc (suc (suc (suc zero))))) = true
is_accept (suc (suc (suc (suc (suc (suc n)))))) = false

abbrev pub accept_spell : Accept → List ℕ
accept_spell Success = []
accept_spell ProgUnavail = []
accept_spell (ProgMismatch v) = versions_form.spell v
accept_spell ProcUnavail = []
accept_spell GarbageArgs = []
accept_spell SystemErr = []

abbrev pub accept_forms : ℕ → Format Accept
accept_forms zero = nothing Success
accept_forms (suc zero) = nothing ProgUnavail
accept_forms (suc (suc zero)) = embedded ProgMismatch accept_spell versions_form (λ _. refl)
accept_forms (suc (suc (suc zero))) = nothing ProcUnavail
accept_forms (suc (suc (suc (suc zero)))) = nothing GarbageArgs
accept_forms (suc (suc (suc (suc (suc n))))) = nothing SystemErr

pub accept_one : (n : ℕ) (a : Accept) → (known_form is_accept).Fits n → (accept_forms n).Fits a → accept_number a ≡ n
accept_one zero a known fits = ap accept_number fits
accept_one (suc zero) a known fits = ap accept_number fits
accept_one (suc (suc zero)) a known fits = ap accept_number (sym fits.1)
accept_one (suc (suc (suc zero))) a known fits = ap accept_number fits
accept_one (suc (suc (suc (suc zero)))) a known fits = ap accept_number fits
accept_one (suc (suc (suc (suc (suc zero))))) a known fits = ap accept_number fits
accept_one (suc (suc (suc (suc (suc (suc n)))))) a known fits = let no = known.1 in absurd cc

unfoldable pub accept_form : Format Accept
accept_form = tagged accept_number (known_form is_accept) accept_forms accept_one

abbrev pub denial_number : Denial → ℕ
denial_number (RpcMismatch v) = 0
denial_number (AuthError n) = 1

abbrev pub is_choice : ℕ → Bool
is_choice zero = true
is_choice (suc zero) = true
is_choice (suc (suc n)) = false

abbrev pub denial_spell : Denial → List ℕ
denial_spell (RpcMismatch v) = versions_form.spell v
denial_spell (AuthError n) = u32_form.spell n

abbrev pub denial_forms : ℕ → Format Denial
denial_forms zero = embedded RpcMismatch denial_spell versions_form (λ _. refl)
denial_forms (suc n) = embedded AuthError denial_spell u32_form (λ _. refl)

pub denial_one : (n : ℕ) (d : Denial) → (known_form is_choice).Fits n → (denial_forms n).Fits d → denial_number d ≡ n
denial_one zero d known fits = ap denial_number (sym fits.1)
denial_one (suc zero) d known fits = ap denial_number (sym fits.1)
denial_one (suc (suc n)) d known fits = let no = known.1 in absurd cc

unfoldable pub denial_form : Format Denial
denial_form = tagged denial_number (known_form is_choice) denial_forms denial_one

abbrev pub reply_number : ReplyHead → ℕ
reply_number (Accepted v a) = 0
reply_number (Denied d) = 1

abbrev pub reply_spell : ReplyHead → List ℕ
reply_spell (Accepted v a) = auth_form.spell v ++ accept_form.spell a
reply_spell (Denied d) = denial_form.spell d

abbrev pub reply_forms : ℕ → Format ReplyHead
reply_forms zero = embedded (λ (p : Auth × Accept). Accepted p.0 p.1) reply_spell (auth_form ⋆ accept_form) (λ _. refl)
reply_forms (suc n) = embedded Denied reply_spell denial_form (λ _. refl)

pub reply_one : (n : ℕ) (r : ReplyHead) → (known_form is_choice).Fits n → (reply_forms n).Fits r → reply_number r ≡ n
reply_one zero r known fits = ap reply_number (sym fits.1)
reply_one (suc zero) r known fits = ap reply_number (sym fits.1)
reply_one (suc (suc n)) r known fits = let no = known.1 in absurd cc

unfoldable pub reply_form : Format ReplyHead
reply_form = tagged reply_number (known_form is_choice) reply_forms reply_one

-- the verifier is no longer than its maximum
abbrev pub short_reply : ReplyHead → Type 0
short_reply (Accepted v a) = length v.body ≤ AUTH_MOST
short_reply (Denied d) = Unit {0}
