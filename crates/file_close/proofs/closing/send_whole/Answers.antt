use Rattle.std.proofs.Common.{ℕ, ◌+◌, ◌<◌, sym, subst}
use Rattle.client_state.specs.View.{store_left}
use Rattle.client_state.specs.declared.task.Upload.{Upload}
use Rattle.file_close.proofs.lemmas.Sending.{whole_xids}
use Rattle.file_close.proofs.closing.send_whole.Goals as goal

pub wait-requires-clause-xids : goal.wait-requires-clause-xids
wait-requires-clause-xids c =
    let next = c.args.state.now.next_xid in
    let xid = c.next_xid-xid.result in
    subst (λ (n : ℕ). n + 1 + store_left c.in_ok-store.store < 4294967296) (sym c.next_xid-xid.ensures)
    (subst (λ (st : Upload). next + 1 + store_left st < 4294967296) (sym c.in_ok-store.ensures) (whole_xids c.args.store c.args.call next xid c.requires.xids))
