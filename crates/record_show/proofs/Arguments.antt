-- What follows the header of a call is the spelling of its arguments.
use Rattle.std.proofs.Common.{◌≡◌, ℕ, ◌<◌, ◌^◌, List, ◌++◌, length, Ok, refl, sym, ap, ◌∙◌, append_assoc, lit<}
use Rattle.xdr_codec.specs.Format.{Input, IsBytes, behind}
use Rattle.xdr_codec.specs.Xdr.{u32_form}
use Rattle.rpc_record.specs.Header.{direction_form, front_form, auth_form, call_form}
use Rattle.rpc_record.specs.Messages.{call_spell, call_read, CallFits}
use Rattle.rpc_record.specs.declared.header.Auth.{Auth}
use Rattle.rpc_record.specs.declared.messages.Call.{Call}
use Rattle.rpc_record.proofs.lemmas.Exact.{call_exact, found_is}
use Rattle.wire.specs.Message.{program_of, body_version, body_spell, call_head, Says}
use Rattle.wire.specs.Message.{call_spell as whole_spell}
use Rattle.wire.specs.Parse.{parse_of}
use Rattle.wire.specs.declared.message.Body.{Body}
use Rattle.wire.specs.declared.message.Message.TheVariants as message
use Rattle.wire.proofs.lemmas.Again.{call_fits}
use Rattle.wire.proofs.lemmas.Said.{read_is_said}
use Rattle.record_show.specs.Line.{any_call}

abbrev header : ℕ → Auth → Auth → Body → Call
header xid cred verf b = record { xid = xid; rpcvers = 2; head = call_head cred verf (body_version b) (program_of b) }

regrouped : (x t v h b : List ℕ) → (x ++ t) ++ (v ++ (h ++ b)) ≡ (x ++ (t ++ (v ++ h))) ++ b
regrouped x t v h b = append_assoc x t (v ++ (h ++ b)) ∙ ap (λ (r : List ℕ). x ++ (t ++ r)) (sym (append_assoc v h b)) ∙ sym (append_assoc x (t ++ (v ++ h)) b ∙ ap (λ (r : List ℕ). x ++ r) (append_assoc t (v ++ h) b))

spelled : (xid : ℕ) (cred verf : Auth) (b : Body) → whole_spell xid cred verf b ≡ call_spell (header xid cred verf b) ++ body_spell b
unfolding front_form direction_form
spelled xid cred verf b = regrouped (u32_form.spell xid) (u32_form.spell 0) (u32_form.spell 2) (call_form.spell (call_head cred verf (body_version b) (program_of b))) (body_spell b)

header_fits : (xid : ℕ) (cred verf : Auth) (b : Body) → xid < 2 ^ 32 → body_version b < 2 ^ 32 → auth_form.Fits cred → auth_form.Fits verf → CallFits (header xid cred verf b)
unfolding u32_form
header_fits xid cred verf b lt small c v = (lt, (lit< tt, call_fits cred verf (body_version b) (program_of b) c v small))

left_of_said : (bytes : List ℕ) (xid : ℕ) (b : Body) (c : Call) (j : Input) → Says (message.Call xid b) bytes → call_read (record { at = 0; rest = bytes }) ≡ Ok (c, j) → length j.rest ≡ length (body_spell b)
left_of_said bytes xid b c j (says, (cred, verf, (cred_fits, verf_fits, is))) read =
    let h = header xid cred verf b in
    let again = call_exact.again h 0 (body_spell b) (header_fits xid cred verf b says.0 says.1.1.0 cred_fits verf_fits) in
    let same = found_is {A = Call × Input} (c, j) (h, behind 0 (call_spell h) (body_spell b)) (sym read ∙ ap (λ (r : List ℕ). call_read (record { at = 0; rest = r })) (is ∙ spelled xid cred verf b) ∙ again) in
    ap (λ (p : Call × Input). length p.1.rest) same

pub arguments_left : (bytes : List ℕ) (xid : ℕ) (b : Body) (c : Call) (j : Input) → IsBytes bytes → parse_of any_call bytes ≡ Ok (message.Call xid b) → call_read (record { at = 0; rest = bytes }) ≡ Ok (c, j) → length j.rest ≡ length (body_spell b)
arguments_left bytes xid b c j fits parsed read = left_of_said bytes xid b c j (read_is_said any_call (message.Call xid b) bytes fits refl parsed).0 read
