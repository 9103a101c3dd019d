use Rattle.std.proofs.Common.{◌≡◌, ◌++◌, replicate}
use Rattle.trace_ends.specs.Session.{new_seat}
use Rattle.trace_ends.proofs.world_core.seat_more.Given as goal

abbrev pub invariant-loop-i : goal.invariant-loop-i
invariant-loop-i l = l.seats.items ≡ l.fn.seats.items ++ replicate l._i (new_seat l.fn.drift l.fn.lbfs)
