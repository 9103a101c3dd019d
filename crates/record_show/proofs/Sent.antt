-- Records are shown one by one, and what is sent is shown.
use Rattle.std.proofs.Common.{◌≡◌, ℕ, ◌<◌, ◌^◌, true, List, [], ◌++◌, length, Result, Ok, Err, refl, sym, ap, ◌∙◌, append_assoc, lit<}
use Rattle.std.specs.List.{flat_map}
use Rattle.std.proofs.lemmas.List.{append-nil}
use Rattle.std.proofs.lemmas.Grind.{flat_map-append}
use Rattle.xdr_codec.specs.Format.{Input, behind}
use Rattle.xdr_codec.specs.Xdr.{u32_form}
use Rattle.rpc_record.specs.Records.{Parts, split}
use Rattle.rpc_record.specs.Framed.{Framed}
use Rattle.rpc_record.proofs.lemmas.Framing.{framed_is_split}
use Rattle.rpc_record.specs.Header.{front_form, auth_form, versions_form, accept_form, denial_form, reply_form}
use Rattle.rpc_record.specs.declared.header.Auth.{Auth}
use Rattle.rpc_record.specs.declared.header.Direction.TheVariants as direction
use Rattle.rpc_record.specs.declared.header.Front.{Front}
use Rattle.rpc_record.specs.declared.header.Accept.TheVariants as own
use Rattle.rpc_record.specs.declared.header.ReplyHead.TheVariants as reply
use Rattle.wire.specs.Message.{program_of, body_spell, IsSpelled, message_spell, no_auth, refusal_head}
use Rattle.wire.specs.Parse.{serves, read_or, parse_by, parse_of}
use Rattle.wire.specs.declared.message.Message.{Message}
use Rattle.wire.specs.declared.message.Message.TheVariants as message
use Rattle.wire.specs.declared.message.Program.{Program}
use Rattle.wire.specs.declared.message.Program.TheVariants as program
use Rattle.wire.specs.declared.message.RpcRefusal.{RpcRefusal}
use Rattle.wire.specs.declared.message.RpcRefusal.TheVariants as refusal
use Rattle.wire.specs.declared.message.Side.TheVariants.{Either}
use Rattle.wire.specs.declared.fault.WireFault.{WireFault}
use Rattle.wire.specs.declared.fault.WireFault.TheVariants.{NotRpc, UnknownXid}
use Rattle.wire.proofs.lemmas.Again.{front_fits, no_auth_fits, spell_again}
use Rattle.record_show.specs.Line.{any_call, answer_line, read_line, line_of}
use Rattle.record_show.specs.Show.{record_text, end_text, parts_text, shown}
use Rattle.record_show.specs.Sent.{sent_stat, sent_numbers, sent_line, is_known}
use Rattle.record_show.specs.Stat.{accept_number, accept_stat_form, reject_number, reject_stat_form, stat_form, answer_form}
use Rattle.record_show.specs.declared.line.Line.TheVariants.{Answer}
use Rattle.record_show.specs.declared.stat.AcceptStat.{AcceptStat}
use Rattle.record_show.specs.declared.stat.AcceptStat.TheVariants as accept
use Rattle.record_show.specs.declared.stat.RejectStat.{RejectStat}
use Rattle.record_show.specs.declared.stat.RejectStat.TheVariants as reject
use Rattle.record_show.specs.declared.stat.Stat.{Stat}
use Rattle.record_show.specs.declared.stat.Stat.TheVariants.{Accepted, Denied}

-- ---- records

pub framed_shown : (records : List (List ℕ)) (bytes rest : List ℕ) → Framed records bytes rest → shown bytes ≡ flat_map record_text records ++ shown rest
framed_shown records bytes rest framed =
    let later : Parts = split rest in
    ap parts_text (framed_is_split records bytes rest framed)
    ∙ ap (λ (t : List ℕ). t ++ end_text later.spoilt (length later.rest)) (flat_map-append record_text records later.records)
    ∙ append_assoc (flat_map record_text records) (flat_map record_text later.records) (end_text later.spoilt (length later.rest))

-- ---- calls

any_served : (p : Program) → serves Either p ≡ true
any_served (program.Nfs p) = refl
any_served (program.Lb p) = refl
any_served (program.Back p) = refl

-- ---- answers

accept_fits : (s : AcceptStat) → accept_stat_form.Fits s
unfolding accept_stat_form u32_form
accept_fits accept.Success = lit< tt
accept_fits accept.ProgUnavail = lit< tt
accept_fits accept.ProgMismatch = lit< tt
accept_fits accept.ProcUnavail = lit< tt
accept_fits accept.GarbageArgs = lit< tt
accept_fits accept.SystemErr = lit< tt

reject_fits : (s : RejectStat) → reject_stat_form.Fits s
unfolding reject_stat_form u32_form
reject_fits reject.RpcMismatch = lit< tt
reject_fits reject.AuthError = lit< tt

accepted_fits : (verf : Auth) (s : AcceptStat) → auth_form.Fits verf → stat_form.Fits (Accepted verf s)
unfolding stat_form u32_form
accepted_fits verf s fits = ((lit< tt, refl), ((verf, s), refl, (fits, accept_fits s)))

denied_fits : (s : RejectStat) → stat_form.Fits (Denied s)
unfolding stat_form u32_form
denied_fits s = ((lit< tt, refl), (s, refl, reject_fits s))

abbrev answers : ℕ → Front
answers xid = record { xid = xid; direction = direction.Reply }

unknown : (xid : ℕ) (rest : List ℕ) → xid < 2 ^ 32 → parse_of any_call (front_form.spell (answers xid) ++ rest) ≡ Err (UnknownXid xid)
unknown xid rest lt = ap (λ r. read_or NotRpc r (λ f. parse_by any_call f.0.xid f.0.direction f.1)) (front_form.again (answers xid) 0 rest (front_fits xid direction.Reply lt))

abbrev start : List ℕ → Input
start bytes = record { at = 0; rest = bytes }

-- the line of an answer that says so of its call, with these bytes behind it
answered : (xid : ℕ) (s : Stat) (tail : List ℕ) → xid < 2 ^ 32 → stat_form.Fits s → line_of (front_form.spell (answers xid) ++ (stat_form.spell s ++ tail)) ≡ Answer xid s (length tail)
answered xid s tail lt fits =
    let front = front_form.spell (answers xid) in
    let own = stat_form.spell s in
    let read : answer_form.read (start (front ++ (own ++ tail))) ≡ Ok ((answers xid, s), behind 0 (front ++ own) tail) =
    ap (λ (bytes : List ℕ). answer_form.read (start bytes)) (sym (append_assoc front own tail)) ∙ answer_form.again (answers xid, s) 0 tail (front_fits xid direction.Reply lt, fits) in
    ap (λ (r : Result Message WireFault). read_line r (answer_line (answer_form.read (start (front ++ (own ++ tail)))))) (unknown xid (own ++ tail) lt) ∙ ap answer_line read

-- what follows what a refusal says of its call
abbrev numbers_spell : RpcRefusal → List ℕ
numbers_spell refusal.ProgUnavail = []
numbers_spell (refusal.ProgMismatch low high) = versions_form.spell (record { low = low; high = high })
numbers_spell refusal.ProcUnavail = []
numbers_spell refusal.GarbageArgs = []
numbers_spell refusal.SystemErr = []
numbers_spell (refusal.RpcMismatch low high) = versions_form.spell (record { low = low; high = high })
numbers_spell (refusal.AuthError why) = u32_form.spell why

numbers_long : (why : RpcRefusal) → length (numbers_spell why) ≡ sent_numbers why
unfolding versions_form u32_form
numbers_long refusal.ProgUnavail = refl
numbers_long (refusal.ProgMismatch low high) = refl
numbers_long refusal.ProcUnavail = refl
numbers_long refusal.GarbageArgs = refl
numbers_long refusal.SystemErr = refl
numbers_long (refusal.RpcMismatch low high) = refl
numbers_long (refusal.AuthError why) = refl

accepted_then : (verf : Auth) (s : AcceptStat) (tail : List ℕ) → u32_form.spell 0 ++ (auth_form.spell verf ++ (u32_form.spell (accept_number s) ++ tail)) ≡ stat_form.spell (Accepted verf s) ++ tail
unfolding stat_form accept_stat_form
accepted_then verf s tail =
    let zero_word = u32_form.spell 0 in
    let auth = auth_form.spell verf in
    let stat = u32_form.spell (accept_number s) in
    sym (append_assoc zero_word (auth ++ stat) tail ∙ ap (λ (r : List ℕ). zero_word ++ r) (append_assoc auth stat tail))

denied_then : (s : RejectStat) (tail : List ℕ) → u32_form.spell 1 ++ (u32_form.spell (reject_number s) ++ tail) ≡ stat_form.spell (Denied s) ++ tail
unfolding stat_form reject_stat_form
denied_then s tail = sym (append_assoc (u32_form.spell 1) (u32_form.spell (reject_number s)) tail)

success_then : (verf : Auth) → reply_form.spell (reply.Accepted verf own.Success) ≡ stat_form.spell (Accepted verf accept.Success)
unfolding reply_form accept_form
success_then verf = accepted_then verf accept.Success [] ∙ append-nil (stat_form.spell (Accepted verf accept.Success))

refusal_then : (why : RpcRefusal) → reply_form.spell (refusal_head no_auth why) ≡ stat_form.spell (sent_stat why) ++ numbers_spell why
unfolding reply_form accept_form denial_form
refusal_then refusal.ProgUnavail = accepted_then no_auth accept.ProgUnavail []
refusal_then (refusal.ProgMismatch low high) = accepted_then no_auth accept.ProgMismatch (versions_form.spell (record { low = low; high = high }))
refusal_then refusal.ProcUnavail = accepted_then no_auth accept.ProcUnavail []
refusal_then refusal.GarbageArgs = accepted_then no_auth accept.GarbageArgs []
refusal_then refusal.SystemErr = accepted_then no_auth accept.SystemErr []
refusal_then (refusal.RpcMismatch low high) = denied_then reject.RpcMismatch (versions_form.spell (record { low = low; high = high }))
refusal_then (refusal.AuthError why) = denied_then reject.AuthError (u32_form.spell why)

refusal_fits : (why : RpcRefusal) → stat_form.Fits (sent_stat why)
refusal_fits refusal.ProgUnavail = accepted_fits no_auth accept.ProgUnavail no_auth_fits
refusal_fits (refusal.ProgMismatch low high) = accepted_fits no_auth accept.ProgMismatch no_auth_fits
refusal_fits refusal.ProcUnavail = accepted_fits no_auth accept.ProcUnavail no_auth_fits
refusal_fits refusal.GarbageArgs = accepted_fits no_auth accept.GarbageArgs no_auth_fits
refusal_fits refusal.SystemErr = accepted_fits no_auth accept.SystemErr no_auth_fits
refusal_fits (refusal.RpcMismatch low high) = denied_fits reject.RpcMismatch
refusal_fits (refusal.AuthError why) = denied_fits reject.AuthError

pub sent_shown : (m : Message) → IsSpelled m → is_known m ≡ true → line_of (message_spell m) ≡ sent_line m
sent_shown (message.Call xid b) spelled known =
    ap (λ (r : Result Message WireFault). read_line r (answer_line (answer_form.read (start (message_spell (message.Call xid b)))))) (spell_again any_call (message.Call xid b) spelled (any_served (program_of b), known))
sent_shown (message.Answer xid b) spelled known =
    ap (λ (head : List ℕ). line_of (front_form.spell (answers xid) ++ (head ++ body_spell b))) (success_then no_auth)
    ∙ answered xid (Accepted no_auth accept.Success) (body_spell b) spelled.0 (accepted_fits no_auth accept.Success no_auth_fits)
sent_shown (message.Refuse xid why) spelled known =
    ap (λ (head : List ℕ). line_of (front_form.spell (answers xid) ++ head)) (refusal_then why)
    ∙ answered xid (sent_stat why) (numbers_spell why) spelled.0 (refusal_fits why)
    ∙ ap (λ (n : ℕ). Answer xid (sent_stat why) n) (numbers_long why)
sent_shown (message.Unfit xid why) spelled known = absurd spelled
