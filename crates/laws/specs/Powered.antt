-- Power is on while a movement goes on, so no step is refused.
use Rattle.std.specs.Prelude.{◌≡◌, ℕ, Bool, true, List}
use Rattle.engine.specs.Laws.{StatePowered}
use Rattle.control.specs.States.{Activity, resting, moving, running}
use Rattle.law.specs.Events.{Event}
use Rattle.law.specs.History.{State, after}
use Rattle.module.specs.States.{ModuleState, effects_of, step_of, step_due}
use Rattle.module.specs.Machine.{module_device}

abbrev pub ActivityPowered : Bool → Activity → Type 0
ActivityPowered on resting = Unit {0}
ActivityPowered on (moving m) = on ≡ true
ActivityPowered on (running c) = StatePowered on c.state

-- a direct movement, or that of a phase, goes on only with power on
abbrev pub HasPower : ModuleState → Type 0
HasPower r = ActivityPowered r.axis.power r.control.activity

-- so it is at the end of every history that begins so, as with a new module, which is at rest
abbrev pub PowerWhileMoving : Type 0
PowerWhileMoving = (cycle : ℕ) (s : State (module_device cycle)) (h : List Event) → HasPower s.core.rest → HasPower (after (module_device cycle) s h).core.rest

-- the step that is due in a tick is made: the output does not refuse it
abbrev pub NoStepRefused : Type 0
NoStepRefused = (r : ModuleState) → HasPower r → step_of (effects_of r) r.axis ≡ step_due (effects_of r).step
