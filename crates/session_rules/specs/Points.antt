-- Which operation has its point where a change is made.
use Rattle.std.specs.Prelude.{ℕ, List, Option, Some, None, slice_get, slice_set}
use Rattle.register_model.specs.declared.op.Op.{Op}
use Rattle.session_rules.specs.Session.{Session}

-- the operation at a place changed this file in this step, which is its point
abbrev pub pointed : List Op → (place file step : ℕ) → Option Op → List Op
pointed ops place file step None = ops
pointed ops place file step (Some o) = slice_set ops place (record o { file = file; point = Some step })

-- the same of the operation at a place, if there is one, where a file was changed
abbrev pub pointed_at : List Op → Option ℕ → (step : ℕ) → (changed : Option ℕ) → List Op
pointed_at ops (Some place) step (Some file) = pointed ops place file step (slice_get ops place)
pointed_at ops place step changed = ops

-- the operation whose change was made has its point there: the last that sent calls on the change's session and may change a file
abbrev pub settled_ops : List Op → (step : ℕ) → (changed : Option ℕ) → Option Session → List Op
settled_ops ops step changed (Some x) = pointed_at ops x.closing step changed
settled_ops ops step changed None = ops
