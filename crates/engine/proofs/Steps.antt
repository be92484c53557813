-- A tick tells the step of its movement.
use Rattle.std.proofs.Common.{◌≡◌, Bool, true, false, leb, pos, Some, None, Ok, Err, Option, Result, refl}
use Rattle.std.proofs.lemmas.Bool.{cond_both}
use Rattle.faults.specs.declared.Fault.{Fault}
use Rattle.steps.specs.declared.direction.Direction.{Direction}
use Rattle.phases.specs.declared.phase.Phase.{Phase}
use Rattle.phases.specs.declared.phase.Nature.{Nature}
use Rattle.phases.specs.declared.phase.Nature.TheVariants.{Relative, Origin, Absolute, ConstantSpeed, Wait, PlateauSpeed}
use Rattle.motion.specs.Motions.{Motion, begun, tick_rest, tick_step}
use Rattle.motion.specs.Limits.{speed_within}
use Rattle.engine.specs.declared.effects.Effects.{Effects}
use Rattle.motion.specs.declared.distance.Distance.{Distance}
use Rattle.motion.specs.Distances.{distance_to}
use Rattle.engine.specs.Distances.{distance_of}
use Rattle.engine.specs.Effects.{step_only, nothing}
use Rattle.engine.specs.Progress.{Progress, PhaseState, entering, moving, waiting, Outcome, with_plateau}
use Rattle.engine.specs.Leaving.{leaves, phase_ended}
use Rattle.engine.specs.Entering.{entered, sets_movement, moves_by, starts, enters, phase_at}
use Rattle.engine.specs.Ticks.{moved, state_tick, tick}
use Rattle.engine.specs.Rules.{step_of}
use Rattle.engine.specs.Surroundings.{Moment, Program}

abbrev Tells : Option Direction → Outcome → Type 0
Tells s o = o.effects.step ≡ s

tells_ended : (e : Effects) (r : Result (Option Progress) Fault) → Tells e.step (phase_ended e r)
tells_ended e (Ok r) = refl
tells_ended e (Err x) = refl

module _ (g : Program) (t : Moment) where
  tells_sets : (c : Progress) (p : Phase) (m : Option Motion) → Tells None (sets_movement g t c p m)
  tells_sets c p None = tells_ended (entered p) (leaves g t c p)
  tells_sets c p (Some m) = refl

  tells_moves : (c : Progress) (p : Phase) (d : Distance) (constant : Bool) → Tells None (moves_by g t c p d constant)
  tells_moves c p d constant = tells_sets c p (begun g.values c.plateau d.direction d.steps constant)

  tells_starts : (c : Progress) (p : Phase) (n : Nature) → Tells None (starts g t c p n)
  tells_starts c p Relative = tells_moves c p (distance_of p) false
  tells_starts c p ConstantSpeed = tells_moves c p (distance_of p) true
  tells_starts c p Absolute = tells_moves c p (distance_to p.set_point t.counter) false
  tells_starts c p Origin = tells_moves c p (distance_to (pos 0) t.counter) false
  tells_starts c p Wait = refl
  tells_starts c p PlateauSpeed = tells_ended (entered p) (leaves g t (with_plateau c (speed_within p.set_point)) p)
  tells_starts c p _ = tells_ended (entered p) (leaves g t c p)

  tells_enters : (c : Progress) (o : Option Phase) → Tells None (enters g t c o)
  tells_enters c None = refl
  tells_enters c (Some p) = tells_starts c p p.nature

  tells_moved : (c : Progress) (p : Phase) (m : Motion) (r : Option Motion) → Tells (tick_step m) (moved g t c p m r)
  tells_moved c p m (Some r) = refl
  tells_moved c p m None =
      cond_both m.stopping _ _ (Tells (tick_step m)) (λ _. refl)
      (λ _. tells_ended (step_only (tick_step m)) (leaves g t c p))

  tells_tick : (c : Progress) (a : PhaseState) → Tells (step_of a) (state_tick g t c a)
  tells_tick c entering = tells_enters c (phase_at g c.at)
  tells_tick c (moving p m) = tells_moved c p m (tick_rest m)
  tells_tick c (waiting p n) =
      cond_both (leb n 1) _ _ (Tells None) (λ _. tells_ended nothing (leaves g t c p)) (λ _. refl)

pub tick_step_told : (g : Program) (t : Moment) (c : Progress) → (tick g t c).effects.step ≡ step_of c.state
tick_step_told g t c = tells_tick g t c c.state
