use Rattle.std.proofs.Common.{◌≡◌, ◌-◌}
use Rattle.file_close.specs.Closing.{names_more, names_all}
use Rattle.file_close.specs.Sending.{IsSendingNames}
use Rattle.file_close.proofs.calls.name_all.Given as goal

-- the CONDWRITEs that are left lead to the same end
abbrev pub invariant-loop-i : goal.invariant-loop-i
invariant-loop-i l = record {
  same : names_more l.state.waiting.lbfs (l.room - l._i) l.names ≡ names_all l.state.waiting.lbfs l.fn.store l.state.next_xid;
  kept : IsSendingNames l.fn.store.named l.state.next_xid l.names;
}
