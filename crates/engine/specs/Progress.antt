-- How far a run has got: the phase it is at, what goes on there, the plateau set by NC, and where its open sub-sequences return to.
use Rattle.std.specs.Prelude.{ℕ, List, Some, None, Ok, Err, Option, Result}
use Rattle.faults.specs.declared.Fault.{Fault}
use Rattle.phases.specs.declared.phase.Phase.{Phase}
use Rattle.motion.specs.Motions.{Motion, motion}
use Rattle.phases.specs.declared.phase.Position.{Position}
use Rattle.engine.specs.declared.run.PhaseState.{PhaseState as Declared}
use Rattle.engine.specs.declared.run.PhaseState.TheVariants.{Entering, Moving, Waiting}
use Rattle.engine.specs.declared.run.Run.{Run}
use Rattle.engine.specs.declared.effects.Effects.{Effects}
use Rattle.engine.specs.declared.outcome.Outcome.{Outcome as Answer}
use Rattle.engine.specs.Stacks.{opened}

-- the phase is to be entered; or its movement, or its wait of that many ticks, goes on
pub data PhaseState : Type 0 where
  entering : PhaseState
  moving : Phase → Motion → PhaseState
  waiting : Phase → ℕ → PhaseState

pub record Progress : Type 0 where
  pub at : Position
  pub state : PhaseState
  pub plateau : Option ℕ
  pub returns : List (Option Position)

abbrev pub state_of : Declared → PhaseState
state_of Entering = entering
state_of (Moving p m) = moving p (motion m)
state_of (Waiting p n) = waiting p n

abbrev pub progress : Run → Progress
progress r = record { at = r.at; state = state_of r.state; plateau = r.plateau; returns = opened r.returns }

-- the phase that the next tick enters, if it enters one
abbrev pub to_enter : PhaseState → Position → Option Position
to_enter entering at = Some at
to_enter _ at = None

abbrev pub upcoming : Progress → Option Position
upcoming c = to_enter c.state c.at

abbrev pub progress_left : Option Run → Option Progress
progress_left None = None
progress_left (Some r) = Some (progress r)

abbrev pub progress_result : Result (Option Run) Fault → Result (Option Progress) Fault
progress_result (Ok r) = Ok (progress_left r)
progress_result (Err fault) = Err fault

abbrev pub with_state : Progress → PhaseState → Progress
with_state c s = record c { state = s }

abbrev pub with_plateau : Progress → Option ℕ → Progress
with_plateau c v = record c { plateau = v }

abbrev pub with_returns : Progress → List (Option Position) → Progress
with_returns c qs = record c { returns = qs }

-- what a tick comes to: what is to be done outside, and the run if it goes on
pub record Outcome : Type 0 where
  pub effects : Effects
  pub rest : Option Progress

-- the run stays at its phase
abbrev pub stays : Progress → Effects → PhaseState → Outcome
stays c e s = record { effects = e; rest = Some (with_state c s) }

abbrev pub outcome : Answer → Outcome
outcome o = record { effects = o.effects; rest = progress_left o.rest }
