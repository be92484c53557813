-- What a tick does outside the run.
use Rattle.std.specs.Prelude.{false, Some, None, Option}
use Rattle.faults.specs.declared.Fault.{Fault}
use Rattle.steps.specs.declared.direction.Direction.{Direction}
use Rattle.engine.specs.declared.effects.Effects.{Effects}

-- a step is made, or none, and nothing else is done
abbrev pub step_only : Option Direction → Effects
step_only s = record { step = s; power = None; zero_counter = false; outputs = None; fault = None }

abbrev pub nothing : Effects
nothing = step_only None

abbrev pub with_fault : Effects → Fault → Effects
with_fault e fault = record e { fault = Some fault }
