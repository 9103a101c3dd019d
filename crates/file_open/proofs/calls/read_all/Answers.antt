use Rattle.std.proofs.Common.{◌≡◌, ℕ, ◌+◌, ◌-◌, List, [], length, true, false, ap, sym, subst, ◌∙◌, arith}
use Rattle.std.specs.Prelude.{slice_get, nat_lt}
use Rattle.wire.specs.declared.message.Message.{Message}
use Rattle.transfer_rules.specs.Limits.{calls_most}
use Rattle.file_open.specs.Opening.{Reads, reads_next, reads_more}
use Rattle.file_open.specs.Sending.{IsSendingReads}
use Rattle.file_open.proofs.Sending.{sending_first, reads_kept, reads_step, reads_full}
use Rattle.file_open.proofs.calls.read_all.Goals as goal

pub loop-i-init : goal.loop-i-init
loop-i-init c =
    let f = c.args.fetch in
    let s = c.args.state.now in
    let x = c.next_xid.result in
    let reads : ℕ → List Message → Reads = λ n send. record { fetch = f; next_xid = n; send = send } in
    let left : (c.len.result - f.asked) - 0 ≡ length f.chunks - f.asked = omega (arith, c.len.ensures) in
    record {
      same =
          ap (λ (ms : List Message). reads_more ((c.len.result - f.asked) - 0) s.cache s.index c.args.file (reads x ms)) c.none.ensures
          ∙ (ap (λ (n : ℕ). reads_more n s.cache s.index c.args.file (reads x [])) left
          ∙ ap (λ (n : ℕ). reads_more (length f.chunks - f.asked) s.cache s.index c.args.file (reads n [])) c.next_xid.ensures);
      sending =
          subst (λ (ms : List Message). IsSendingReads f s.next_xid (reads x ms)) (sym c.none.ensures)
          (subst (λ (n : ℕ). IsSendingReads f s.next_xid (reads n [])) (sym c.next_xid.ensures) (sending_first f s.next_xid c.requires.within c.requires.xids));
    }

pub loop-i-preserved : goal.loop-i-preserved
loop-i-preserved c =
    let r : Reads = c.loop-i.reads in
    let cache = c.args.state.now.cache in
    let index = c.args.state.now.index in
    let left = c.len.result - c.args.fetch.asked in
    let i = c.loop-i._i in
    let room : nat_lt (length r.fetch.under) calls_most ≡ true = ap (λ n. nat_lt n calls_most) (sym c.len-under.ensures) ∙ (sym c.has_room.ensures ∙ c.if-not-has_room.false) in
    let e : c.read_next.new.reads ≡ reads_next cache index c.args.file r (slice_get r.fetch.chunks r.fetch.asked) = c.in-Ok.ensures in
    record {
      same = ap (λ (x : Reads). reads_more (left - (i + 1)) cache index c.args.file x) e ∙ (reads_step cache index c.args.file r left i c.loop-i-test.true room ∙ c.loop-i.invariant.same);
      sending = subst (λ (x : Reads). IsSendingReads c.args.fetch c.args.state.now.next_xid x) (sym e) (reads_kept cache index c.args.file c.args.fetch c.args.state.now.next_xid r c.loop-i.invariant.sending);
    }

pub returns-then-not-has_room-clause-all : goal.returns-then-not-has_room-clause-all
returns-then-not-has_room-clause-all c =
    let r : Reads = c.loop-i.reads in
    let full : nat_lt (length r.fetch.under) calls_most ≡ false = ap (λ n. nat_lt n calls_most) (sym c.len-under.ensures) ∙ (sym c.has_room.ensures ∙ c.if-not-has_room.true) in
    reads_full c.args.state.now.cache c.args.state.now.index c.args.file r (c.len.result - c.args.fetch.asked) c.loop-i._i c.loop-i-test.true full ∙ c.loop-i.invariant.same

pub returns-clause-all : goal.returns-clause-all
returns-clause-all c =
    let e : (c.len.result - c.args.fetch.asked) - c.loop-i._i ≡ 0 = omega arith in
    ap (λ n. reads_more n c.args.state.now.cache c.args.state.now.index c.args.file c.loop-i.reads) (sym e) ∙ c.loop-i.invariant.same
