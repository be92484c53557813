-- One tick of what goes on.
use Rattle.std.specs.Prelude.{List, ℤ}
use Rattle.std.specs.Option.{unwrap_or}
use Rattle.phases.specs.declared.phase.Phase.{Phase}
use Rattle.motion.specs.Motions.{tick_step, tick_rest}
use Rattle.engine.specs.declared.effects.Effects.{Effects}
use Rattle.engine.specs.Effects.{step_only, nothing}
use Rattle.engine.specs.Progress.{Progress, Outcome}
use Rattle.engine.specs.Ticks.{tick}
use Rattle.control.specs.States.{State, Activity, resting, moving, running, moves_on, runs_on}

-- a run reads the phases, the counter and the levels
unfoldable pub run_outcome : State → List Phase → ℤ → Progress → Outcome
run_outcome s m counter r =
    tick (record { blocks = s.blocks; records = m; values = s.settings.values }) (record { counter = counter; levels = s.levels }) r

-- the outputs that the tick of a run sets, and the run that is left
abbrev pub run_ticked : State → Outcome → State
run_ticked s o = runs_on (record s { outputs = unwrap_or o.effects.outputs s.outputs }) o.rest

-- what the tick does to the axis, and the fault that ends a run
abbrev pub tick_effects : State → List Phase → ℤ → Activity → Effects
tick_effects s m counter resting = nothing
tick_effects s m counter (moving mo) = step_only (tick_step mo)
tick_effects s m counter (running r) = (run_outcome s m counter r).effects

abbrev pub ticked : State → List Phase → ℤ → Activity → State
ticked s m counter resting = s
ticked s m counter (moving mo) = moves_on s (tick_rest mo)
ticked s m counter (running r) = run_ticked s (run_outcome s m counter r)
