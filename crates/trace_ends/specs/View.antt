-- The fields of the two ends as a core, and what an event leaves as what the core is turned into.
use Rattle.trace_ends.specs.declared.world_core.Core.{Core as Fields}
use Rattle.trace_ends.specs.declared.core_step.Loss.{Loss as Lost}
use Rattle.trace_ends.specs.declared.core_step.Loss.TheVariants as lost
use Rattle.trace_ends.specs.declared.core_step.CoreStep.{CoreStep as Left}
use Rattle.trace_ends.specs.Core.{Core, Loss, Loss.Nothing, Loss.Made, Loss.Down_of, Loss.Up_of, CoreStep}

abbrev pub core_of : Fields → Core
core_of k = record { server = k.server; drift = k.drift; lbfs = k.lbfs; seats = k.seats.items; sessions = k.sessions.items; steps = k.steps; ops = k.ops.items; entries = k.entries.items; came = k.came.items; raws = k.raws.items }

abbrev pub loss_of : Lost → Loss
loss_of lost.Nothing = Nothing
loss_of lost.Made = Made
loss_of (lost.DownOf session) = Down_of session
loss_of (lost.UpOf session) = Up_of session

-- what the fields come to, with what is left to be done
abbrev pub core_step_of : Fields → Left → CoreStep
core_step_of k t = record { core = core_of k; loss = loss_of t.loss; session = t.session; up = t.up; down = t.down }
