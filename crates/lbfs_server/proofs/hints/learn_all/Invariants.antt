use Rattle.std.proofs.Common.{◌≡◌}
use Rattle.lbfs_server.proofs.hints.learn_all.Given as goal

-- all but the index of chunks stays
abbrev pub invariant-loop-file : goal.invariant-loop-file
invariant-loop-file l = l.server ≡ record l.fn.server { index = l.server.index }
