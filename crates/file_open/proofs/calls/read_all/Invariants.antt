use Rattle.std.proofs.Common.{◌≡◌, ◌-◌}
use Rattle.file_open.specs.Opening.{reads_more, reads_all}
use Rattle.file_open.specs.Sending.{IsSendingReads}
use Rattle.file_open.proofs.calls.read_all.Given as goal

-- the chunks that are left lead to the same end
abbrev pub invariant-loop-i : goal.invariant-loop-i
invariant-loop-i l = record {
  same : reads_more (l.left - l._i) l.state.cache l.state.index l.file l.reads ≡ reads_all l.state.cache l.state.index l.file l.fn.fetch l.state.next_xid;
  sending : IsSendingReads l.fn.fetch l.state.next_xid l.reads;
}
