-- Messages are short enough for a record.
use Rattle.std.proofs.Common.{◌≡◌, ℕ, ◌≤◌, List, ◌++◌, length, refl, arith, length-append}
use Rattle.limits.specs.declared.TheConstants.{RECORD_MOST}
use Rattle.xdr_codec.specs.Xdr.{u32_form, opaque_spell}
use Rattle.rpc_record.specs.Header.{direction_form, front_form, auth_form, call_form, versions_form, accept_form, denial_form, reply_form}
use Rattle.wire.specs.Message.{program_of, body_version, body_spell, BodyFits, IsSpelled, MessageFits, call_head, refusal_head, message_spell, no_auth}
use Rattle.wire.specs.Size.{IsSmallBody, IsSmall}
use Rattle.rpc_record.specs.declared.header.Direction.{Direction}
use Rattle.rpc_record.specs.declared.header.Direction.TheVariants as direction
use Rattle.rpc_record.specs.declared.header.Accept.TheVariants as accept
use Rattle.rpc_record.specs.declared.header.ReplyHead.TheVariants.{Accepted}
use Rattle.wire.specs.declared.message.Body.{Body}
use Rattle.wire.specs.declared.message.Body.TheVariants as body
use Rattle.wire.specs.declared.message.Program.{Program}
use Rattle.wire.specs.declared.message.RpcRefusal.{RpcRefusal}
use Rattle.wire.specs.declared.message.RpcRefusal.TheVariants as refusal
use Rattle.wire.specs.declared.message.Message.{Message}
use Rattle.wire.specs.declared.message.Message.TheVariants.{Call, Answer, Refuse, Unfit}
use Rattle.wire.proofs.NfsSizes.{nfs_most}
use Rattle.wire.proofs.HashSizes.{lb_most, back_most}

body_most : (b : Body) → BodyFits b → IsSmallBody b → length (body_spell b) ≤ 66000
body_most (body.Nfs n) fits small = nfs_most n fits small
body_most (body.Lb l) fits small = omega (arith, lb_most l fits small)
body_most (body.Back b) fits small = omega (arith, back_most b fits)

front_len : (xid : ℕ) (d : Direction) → length (front_form.spell (record { xid = xid; direction = d })) ≡ 8
unfolding front_form direction_form u32_form
front_len xid d = refl

version_len : length (u32_form.spell 2) ≡ 4
unfolding u32_form
version_len = refl

call_len : (v : ℕ) (p : Program) → length (call_form.spell (call_head no_auth no_auth v p)) ≡ 28
unfolding call_form auth_form opaque_spell u32_form
call_len v p = refl

success_len : length (reply_form.spell (Accepted no_auth accept.Success)) ≡ 16
unfolding reply_form accept_form auth_form opaque_spell u32_form
success_len = refl

refusal_most : (why : RpcRefusal) → length (reply_form.spell (refusal_head no_auth why)) ≤ 24
unfolding reply_form accept_form denial_form versions_form auth_form opaque_spell u32_form
refusal_most refusal.ProgUnavail = omega arith
refusal_most (refusal.ProgMismatch low high) = omega arith
refusal_most refusal.ProcUnavail = omega arith
refusal_most refusal.GarbageArgs = omega arith
refusal_most refusal.SystemErr = omega arith
refusal_most (refusal.RpcMismatch low high) = omega arith
refusal_most (refusal.AuthError why) = omega arith

small_most : (m : Message) → IsSpelled m → IsSmall m → length (message_spell m) ≤ RECORD_MOST
small_most (Call xid b) spelled small =
    let front : List ℕ = front_form.spell (record { xid = xid; direction = direction.Call }) in
    let head : List ℕ = call_form.spell (call_head no_auth no_auth (body_version b) (program_of b)) in
    omega (arith, body_most b spelled.1.1.1 small, front_len xid direction.Call, version_len, call_len (body_version b) (program_of b), length-append head (body_spell b), length-append (u32_form.spell 2) (head ++ body_spell b), length-append front (u32_form.spell 2 ++ (head ++ body_spell b)))
small_most (Answer xid b) spelled small =
    let front : List ℕ = front_form.spell (record { xid = xid; direction = direction.Reply }) in
    let head : List ℕ = reply_form.spell (Accepted no_auth accept.Success) in
    omega (arith, body_most b spelled.1.1 small, front_len xid direction.Reply, success_len, length-append head (body_spell b), length-append front (head ++ body_spell b))
small_most (Refuse xid why) spelled small =
    let front : List ℕ = front_form.spell (record { xid = xid; direction = direction.Reply }) in
    omega (arith, front_len xid direction.Reply, refusal_most why, length-append front (reply_form.spell (refusal_head no_auth why)))
small_most (Unfit xid why) spelled small = absurd spelled

pub small_fits : (m : Message) → IsSpelled m → IsSmall m → MessageFits m
small_fits m spelled small = (spelled, small_most m spelled small)
