-- What is sent back for a call that can't be taken, and that it alone has no bytes.
use Rattle.std.proofs.Common.{◌≡◌, ℕ, ◌+◌, ◌<◌, ◌≤◌, ◌^◌, true, List, [], ◌++◌, length, Ok, Err, refl, ap, ◌∙◌, arith, lit<, length-append}
use Rattle.std.specs.Prelude.{◌↔◌}
use Rattle.xdr_codec.specs.Format.{IsBytes}
use Rattle.xdr_codec.specs.Xdr.{u32_form, wide32}
use Rattle.rpc_record.specs.Header.{direction_form, front_form, call_form, reply_form}
use Rattle.rpc_record.specs.declared.header.Direction.{Direction}
use Rattle.rpc_record.specs.declared.header.Direction.TheVariants as direction
use Rattle.rpc_record.specs.declared.header.Accept.TheVariants as accept
use Rattle.rpc_record.specs.declared.header.ReplyHead.TheVariants.{Accepted}
use Rattle.wire.specs.Message.{program_of, least_version, most_version, body_version, body_spell, is_unfit, RefusalFits, call_head, refusal_head, no_auth, message_spell}
use Rattle.wire.specs.Parse.{parse_of}
use Rattle.wire.specs.Refused.{IsUnfit, IsRefused, HasNoBytes}
use Rattle.wire.specs.declared.fault.WireFault.TheVariants.{NotRpc}
use Rattle.wire.specs.declared.message.Program.{Program}
use Rattle.wire.specs.declared.message.Program.TheVariants as program
use Rattle.wire.specs.declared.message.RpcRefusal.{RpcRefusal}
use Rattle.wire.specs.declared.message.RpcRefusal.TheVariants as refusal
use Rattle.wire.specs.declared.message.Side.{Side}
use Rattle.wire.specs.declared.message.Waiting.{Waiting}
use Rattle.wire.specs.declared.message.Message.{Message}
use Rattle.wire.specs.declared.message.Message.TheVariants.{Call, Answer, Refuse, Unfit}
use Rattle.wire.proofs.lemmas.Again.{spell_again}
use Rattle.wire.proofs.Refusals.{have_causes}
use Rattle.wire.proofs.lemmas.Sizes.{small_fits}

least_fits : (p : Program) → least_version p < 2 ^ 32
least_fits (program.Nfs x) = lit< tt
least_fits (program.Lb x) = lit< tt
least_fits (program.Back x) = lit< tt

most_fits : (n : ℕ) (p : Program) → n < 2 ^ 32 → most_version n p < 2 ^ 32
most_fits n (program.Nfs x) lt = lit< tt
most_fits n (program.Lb x) lt = lt
most_fits n (program.Back x) lt = lit< tt

unfit_fits : (side : Side) (n xid : ℕ) (why : RpcRefusal) (bytes : List ℕ) → n < 2 ^ 32 → IsUnfit side n xid why bytes → (xid < 2 ^ 32) × RefusalFits why
unfit_fits side n xid refusal.ProgUnavail bytes lt (h, rest, stands, y) = (stands.1.1.0, tt)
unfit_fits side n xid (refusal.ProgMismatch low high) bytes lt (h, rest, stands, (p, of, other, l, u)) =
    (stands.1.1.0, (omega (arith, l, least_fits p), omega (arith, u, most_fits n p lt)))
unfit_fits side n xid refusal.ProcUnavail bytes lt (h, rest, stands, y) = (stands.1.1.0, tt)
unfit_fits side n xid refusal.GarbageArgs bytes lt (h, rest, stands, y) = (stands.1.1.0, tt)
unfit_fits side n xid refusal.SystemErr bytes lt (h, rest, stands, y) = absurd y
unfit_fits side n xid (refusal.RpcMismatch low high) bytes lt (version, rest, stands, other, l, u) = (stands.1.0, (omega (arith, l), omega (arith, u)))
unfit_fits side n xid (refusal.AuthError k) bytes lt (h, rest, stands, y) = absurd y

pub refused : (w : Waiting) (xid : ℕ) (why : RpcRefusal) (bytes : List ℕ) → w.lbfs < 2 ^ 32 → IsBytes bytes → parse_of w bytes ≡ Ok (Unfit xid why) → IsRefused xid why
refused w xid why bytes lt fits e =
    let unfit : IsUnfit w.side w.lbfs xid why bytes = ((have_causes w).unfit xid why bytes fits).0 e in
    let spelled = unfit_fits w.side w.lbfs xid why bytes lt unfit in
    (small_fits (Refuse xid why) spelled tt, λ asker waits. spell_again asker (Refuse xid why) spelled waits)

front_there : (xid : ℕ) (d : Direction) (rest : List ℕ) → front_form.spell (record { xid = xid; direction = d }) ++ rest ≡ [] → ⊥
unfolding front_form direction_form u32_form
front_there xid d rest e = absurd (omega (arith, ap length e, length-append (front_form.spell (record { xid = xid; direction = d })) rest, length-append (u32_form.spell xid) (direction_form.spell d), wide32.len xid))

no_bytes : (m : Message) → message_spell m ≡ [] → is_unfit m ≡ true
no_bytes (Call xid b) e = absurd (front_there xid direction.Call (u32_form.spell 2 ++ (call_form.spell (call_head no_auth no_auth (body_version b) (program_of b)) ++ body_spell b)) e)
no_bytes (Answer xid b) e = absurd (front_there xid direction.Reply (reply_form.spell (Accepted no_auth accept.Success) ++ body_spell b) e)
no_bytes (Refuse xid why) e = absurd (front_there xid direction.Reply (reply_form.spell (refusal_head no_auth why)) e)
no_bytes (Unfit xid why) e = refl

unfit_none : (m : Message) → is_unfit m ≡ true → message_spell m ≡ []
unfit_none (Call xid b) e = absurd cc
unfit_none (Answer xid b) e = absurd cc
unfit_none (Refuse xid why) e = absurd cc
unfit_none (Unfit xid why) e = refl

unread : (w : Waiting) → parse_of w [] ≡ Err (NotRpc 0)
unfolding front_form u32_form
unread w = refl

pub has_no_bytes : HasNoBytes
has_no_bytes = record { none = λ m. (no_bytes m, unfit_none m); unread = unread }
