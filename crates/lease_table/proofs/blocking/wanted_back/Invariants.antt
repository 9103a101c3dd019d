use Rattle.std.proofs.Common.{◌≡◌, ◌++◌, drop}
use Rattle.lease_table.specs.Leases.{others}
use Rattle.lease_table.specs.Kept.{leases_of}
use Rattle.lease_table.proofs.blocking.wanted_back.Given as goal

abbrev pub invariant-loop-key : goal.invariant-loop-key
invariant-loop-key l = l.sessions.items ++ others (leases_of (drop l.key-index l.leases)) l.session l.file l.now ≡ others (leases_of l.fn.leases) l.fn.session l.fn.file l.fn.now
