-- By what a run carries of leases RECALLs, and answers to them, have numbers of their own on each session, and each such answer is waited for.
use Rattle.std.proofs.Common.{◌≡◌, ℕ, List, [], ◌∷◌, Option, Some, refl, sym, ap, map}
use Rattle.std.specs.List.{AllByRecursion}
use Rattle.clock_rule.specs.declared.rule.Note.{Note as Noted}
use Rattle.wire.specs.declared.message.Pending.{Pending}
use Rattle.lease_law.specs.Claims.{answered_by, recall_message}
use Rattle.lease_law.specs.Orderly.{AreApart, AllApart}
use Rattle.kept_promise.proofs.Common.{Core, numbered, Mix, Up, Up.Asks, Up.Replies, Down, Down.Tells, Down.Recalls, up_message, down_message, reply_message}
use Rattle.kept_promise.proofs.RecallsKept.{IsWaited, AreTwo, AllOnce}
use Rattle.kept_promise.proofs.Claimed.{Claimed}
use Rattle.kept_promise.proofs.RunsMessages.{UpWaits, IsOtherUp, IsOtherDown, RepliesApart, RecallsApart, HaveNumbers}

all_waited : (waits : List Pending) (us : List Up) → AllByRecursion (λ m. IsWaited waits (answered_by m)) (map up_message us) → AllByRecursion (UpWaits waits) us
all_waited waits [] h = tt
all_waited waits (Asks a ∷ us) h = (tt, all_waited waits us h.1)
all_waited waits (Replies xid ∷ us) h = (h.0, all_waited waits us h.1)

others_up : (xid : ℕ) (us : List Up) → AllByRecursion (AreTwo (reply_message xid)) (map up_message us) → AllByRecursion (IsOtherUp xid) us
others_up xid [] h = tt
others_up xid (Asks a ∷ us) h = (tt, others_up xid us h.1)
others_up xid (Replies other ∷ us) h = ((λ same. h.0 xid refl (ap (λ (n : ℕ). Some n) (sym same))), others_up xid us h.1)

replies : (us : List Up) → AllOnce (map up_message us) → RepliesApart us
replies [] h = tt
replies (Asks a ∷ us) h = replies us h.1
replies (Replies xid ∷ us) h = (others_up xid us h.0, replies us h.1)

others_down : (xid file : ℕ) (ds : List Down) → AllByRecursion (AreApart (recall_message xid file)) (map down_message ds) → AllByRecursion (IsOtherDown xid) ds
others_down xid file [] h = tt
others_down xid file (Tells t ∷ ds) h = (tt, others_down xid file ds h.1)
others_down xid file (Recalls other f ∷ ds) h = ((λ same. h.0 xid refl (ap (λ (n : ℕ). Some n) (sym same))), others_down xid file ds h.1)

recalls : (ds : List Down) → AllApart (map down_message ds) → RecallsApart ds
recalls [] h = tt
recalls (Tells t ∷ ds) h = recalls ds h.1
recalls (Recalls xid file ∷ ds) h = (others_down xid file ds h.0, recalls ds h.1)

pub claimed_numbers : (noted : List Noted) (clock : ℕ) (k : Core) (ms : List Mix) → Claimed noted clock k ms → HaveNumbers k ms
claimed_numbers noted clock k ms h n m at =
    let t = h.talks n m at in
    record {
      waited = λ stand. all_waited _ m.ups (t.awaited.waited stand).answers;
      replies = replies m.ups t.awaited.once;
      recalls = recalls m.downs t.numbers.apart;
    }
