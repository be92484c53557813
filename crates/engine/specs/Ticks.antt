-- A run from tick to tick.
use Rattle.std.specs.Prelude.{ℕ, ◌-◌, cond, [], Some, None, Option, nat_le}
use Rattle.phases.specs.declared.phase.Phase.{Phase}
use Rattle.motion.specs.Motions.{Motion, tick_step, tick_rest, stopped}
use Rattle.engine.specs.Surroundings.{Program, Moment}
use Rattle.engine.specs.Positions.{first_of}
use Rattle.engine.specs.Effects.{step_only, nothing}
use Rattle.engine.specs.Progress.{Progress, Outcome, PhaseState, entering, moving, waiting, with_state}
use Rattle.engine.specs.Leaving.{leaves, phase_ended}
use Rattle.engine.specs.Entering.{phase_at, enters}

-- starting a sequence: phase 1 is entered in the next tick
abbrev pub started : ℕ → Progress
started n = record { at = first_of n; state = entering; plateau = None; returns = [] }

-- the movement goes on, or it has ended: after GE the run ends as well, else the phase
abbrev pub moved : Program → Moment → Progress → Phase → Motion → Option Motion → Outcome
moved g t c p m (Some rest) = record { effects = step_only (tick_step m); rest = Some (with_state c (moving p rest)) }
moved g t c p m None =
    cond m.stopping
    (record { effects = step_only (tick_step m); rest = None })
    (phase_ended (step_only (tick_step m)) (leaves g t c p))

-- the wait has n ticks left
abbrev pub waited : Program → Moment → Progress → Phase → ℕ → Outcome
waited g t c p n =
    cond (nat_le n 1)
    (phase_ended nothing (leaves g t c p))
    (record { effects = nothing; rest = Some (with_state c (waiting p (n - 1))) })

abbrev pub state_tick : Program → Moment → Progress → PhaseState → Outcome
state_tick g t c entering = enters g t c (phase_at g c.at)
state_tick g t c (moving p m) = moved g t c p m (tick_rest m)
state_tick g t c (waiting p n) = waited g t c p n

abbrev pub tick : Program → Moment → Progress → Outcome
tick g t c = state_tick g t c c.state

-- GE: the run goes on until its movement has ended
abbrev pub with_movement : Progress → Phase → Option Motion → Option Progress
with_movement c p None = None
with_movement c p (Some m) = Some (with_state c (moving p m))

-- a run without a movement ends at once
abbrev pub stopped_run : Progress → PhaseState → Option Progress
stopped_run c (moving p m) = with_movement c p (stopped m)
stopped_run c _ = None

abbrev pub slow_stop : Progress → Option Progress
slow_stop c = stopped_run c c.state
