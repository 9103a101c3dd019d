-- The counts of a history: how many operations ended in each way, and what all of them sent and received.
use Rattle.std.specs.Prelude.{ℕ, List, Bool, true, false, ◌||◌, not, length, count_by, sum_by}
use Rattle.register_model.specs.declared.op.Outcome.{Outcome}
use Rattle.register_model.specs.declared.op.Outcome.TheVariants as outcome
use Rattle.register_model.specs.declared.op.Op.{Op}
use Rattle.register_model.specs.declared.op.Traffic.{Traffic}
use Rattle.register_model.specs.declared.summary.Way.{Way}
use Rattle.register_model.specs.declared.summary.Way.TheVariants as way
use Rattle.register_model.specs.declared.summary.Share.{Share}
use Rattle.register_model.specs.declared.summary.Share.TheVariants as share
use Rattle.register_model.specs.declared.summary.Endings.{Endings}
use Rattle.register_model.specs.declared.summary.Totals.{Totals}
use Rattle.register_model.specs.declared.summary.Counts.{Counts}
use Rattle.register_model.specs.Register.{History, of_clients, is_opened, is_closed}

abbrev pub is_running : Outcome → Bool
is_running outcome.Running = true
is_running _ = false

-- done, and neither an open nor a close of a file
abbrev pub is_other : Outcome → Bool
is_other outcome.Done = true
is_other (outcome.Piece len sha1) = true
is_other (outcome.Names names) = true
is_other (outcome.Seen file kind version len) = true
is_other _ = false

-- ended, and not done
abbrev pub is_refused : Outcome → Bool
is_refused o = not (is_opened o || is_closed o || is_other o || is_running o)

-- whether one ended in this way
abbrev pub ended_so : Way → Outcome → Bool
ended_so way.Opened o = is_opened o
ended_so way.Closed o = is_closed o
ended_so way.Other o = is_other o
ended_so way.Refused o = is_refused o
ended_so way.Running o = is_running o

-- how many operations ended so
abbrev pub ended : (Outcome → Bool) → List Op → ℕ
ended way ops = count_by (λ o. way o.outcome) ops

abbrev pub endings_of : List Op → Endings
endings_of ops = record { opened = ended is_opened ops; closed = ended is_closed ops; other = ended is_other ops; refused = ended is_refused ops; running = ended is_running ops }

-- one number of what an operation sent and received, and of all operations together
abbrev pub number_of : Share → Traffic → ℕ
number_of share.Cond t = t.cond
number_of share.Tmp t = t.tmp
number_of share.Read t = t.read
number_of share.Data t = t.«data»

abbrev pub total : (Traffic → ℕ) → List Op → ℕ
total of ops = sum_by (λ o. of o.traffic) ops

-- how much all operations sent or received
abbrev pub totals_of : List Op → Totals
totals_of ops = record { cond = sum_by (λ o. o.traffic.cond) ops; tmp = sum_by (λ o. o.traffic.tmp) ops; read = sum_by (λ o. o.traffic.read) ops; «data» = sum_by (λ o. o.traffic.data) ops }

-- others' changes aren't counted
abbrev pub counts_of : History → Counts
counts_of h = let ops = of_clients h in record { ops = length ops; endings = endings_of ops; totals = totals_of ops }
