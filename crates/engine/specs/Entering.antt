-- The tick that enters a phase.
use Rattle.std.specs.Prelude.{◌*◌, Bool, true, false, pos, Some, None, Option, unsigned_abs}
use Rattle.phases.specs.declared.phase.Phase.{Phase}
use Rattle.phases.specs.declared.phase.Nature.{Nature}
use Rattle.phases.specs.declared.phase.Nature.TheVariants.{Relative, Origin, Absolute, ConstantSpeed, Wait, ZeroCounter, PlateauSpeed, PowerOff}
use Rattle.store.specs.Records.{phase_at as stored_at}
use Rattle.motion.specs.Motions.{Motion, begun}
use Rattle.motion.specs.Limits.{speed_within}
use Rattle.engine.specs.declared.effects.Effects.{Effects}
use Rattle.steps.specs.declared.power.Power.{Power}
use Rattle.steps.specs.declared.power.Power.TheVariants.{On, Off}
use Rattle.phases.specs.declared.phase.Position.{Position}
use Rattle.motion.specs.declared.distance.Distance.{Distance}
use Rattle.motion.specs.Distances.{distance_to}
use Rattle.engine.specs.Surroundings.{Program, Moment}
use Rattle.engine.specs.Distances.{distance_of}
use Rattle.engine.specs.Effects.{nothing}
use Rattle.engine.specs.Progress.{Progress, Outcome, moving, waiting, with_state, with_plateau}
use Rattle.engine.specs.Leaving.{leaves, phase_ended, returns_from}

-- a movement phase and NT switch power on, NU switches it off
abbrev pub power_of : Nature → Option Power
power_of Wait = None
power_of ZeroCounter = None
power_of PlateauSpeed = None
power_of PowerOff = Some Off
power_of _ = Some On

-- NZ sets the counter to zero
abbrev pub zeroes : Nature → Bool
zeroes ZeroCounter = true
zeroes _ = false

-- entering makes no step; it sets NO
abbrev pub entered : Phase → Effects
entered p = record {
  step = None;
  power = power_of p.nature;
  zero_counter = zeroes p.nature;
  outputs = p.outputs;
  fault = None;
}

-- a movement is only set here, and begins with the tick after this one; where there is no way to go, the phase is over
abbrev pub sets_movement : Program → Moment → Progress → Phase → Option Motion → Outcome
sets_movement g t c p None = phase_ended (entered p) (leaves g t c p)
sets_movement g t c p (Some m) = record { effects = entered p; rest = Some (with_state c (moving p m)) }

abbrev pub moves_by : Program → Moment → Progress → Phase → Distance → Bool → Outcome
moves_by g t c p d constant = sets_movement g t c p (begun g.values c.plateau d.direction d.steps constant)

-- what each nature begins: NV a movement that stays at the start speed, NW a wait of 40 ticks for each ms; NZ, NC, NT and NU are over with this tick
abbrev pub starts : Program → Moment → Progress → Phase → Nature → Outcome
starts g t c p Relative = moves_by g t c p (distance_of p) false
starts g t c p ConstantSpeed = moves_by g t c p (distance_of p) true
starts g t c p Absolute = moves_by g t c p (distance_to p.set_point t.counter) false
starts g t c p Origin = moves_by g t c p (distance_to (pos 0) t.counter) false
starts g t c p Wait =
    record { effects = entered p; rest = Some (with_state c (waiting p (40 * unsigned_abs p.set_point))) }
starts g t c p PlateauSpeed =
    phase_ended (entered p) (leaves g t (with_plateau c (speed_within p.set_point)) p)
starts g t c p _ = phase_ended (entered p) (leaves g t c p)

-- the written phase at a position, if there is one
abbrev pub phase_at : Program → Position → Option Phase
phase_at g q = stored_at g.blocks g.records q

-- where no written phase stands, the tick is spent on that: the latest open sub-sequence returns, and without one the run is over
abbrev pub enters : Program → Moment → Progress → Option Phase → Outcome
enters g t c None = record { effects = nothing; rest = returns_from c c.returns }
enters g t c (Some p) = starts g t c p p.nature
