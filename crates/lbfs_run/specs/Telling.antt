-- What is written as a server or a mount ends, and the status then.
use Rattle.std.specs.Prelude.{◌≡◌, ◌⊎◌, ℕ, List, Option}
use Rattle.std.specs.Io.KnownBytes.{Appends}
use Rattle.lb_base.specs.Known.{AppendsPart, AppendsPrefix}
use Rattle.exit_status.specs.declared.status.Status.{Status}
use Rattle.exit_status.specs.declared.status.Status.TheVariants as status

-- the text was written and the status is this one; or writing failed, and a front of it was written, and not all; or
-- memory ran out, and a front was written, or nothing
abbrev pub Tells : Status → (held held' : Option (List ℕ)) → Status × List ℕ → Type 0
Tells s held held' out =
    ((s ≡ out.0) × Appends held held' out.1) ⊎ ((s ≡ status.WriteFault) × AppendsPart held held' out.1) ⊎ ((s ≡ status.Memory) × AppendsPrefix held held' out.1)
