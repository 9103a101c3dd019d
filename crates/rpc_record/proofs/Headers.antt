-- The header of a reply.
use Rattle.std.proofs.Common.{◌≡◌, ◌≤◌, length, Result, Ok, Err, refl, sym, subst, lit<}
use Rattle.std.specs.Prelude.{OnOk}
use Rattle.limits.specs.declared.TheConstants.{AUTH_MOST}
use Rattle.xdr_codec.specs.Xdr.{u32_form}
use Rattle.rpc_record.specs.declared.header.Auth.{Auth}
use Rattle.rpc_record.specs.declared.header.Accept.{Accept}
use Rattle.rpc_record.specs.declared.header.ReplyHead.{ReplyHead}
use Rattle.rpc_record.specs.declared.header.ReplyHead.TheVariants.{Accepted}
use Rattle.rpc_record.specs.Header.{auth_form, accept_form, reply_form, short_reply}

pub accepted_fits : (r : ReplyHead) (v : Auth) (a : Accept) → r ≡ Accepted v a → (length v.body ≤ AUTH_MOST → auth_form.Fits v × accept_form.Fits a) → short_reply r → reply_form.Fits r
unfolding reply_form u32_form
accepted_fits r v a e fits short = subst (λ (x : ReplyHead). reply_form.Fits x) (sym e) ((lit< tt, refl), ((v, a), refl, fits (subst short_reply e short)))

pub on_ok_then : {T E : Type 0} (result : Result T E) (P Q : Type 0) → (P → Q) → OnOk result P → OnOk result Q
on_ok_then (Ok x) P Q f p = f p
on_ok_then (Err e) P Q f p = tt
