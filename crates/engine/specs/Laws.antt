-- What holds of every run.
use Rattle.std.specs.Prelude.{◌≡◌, ℕ, ◌+◌, ◌*◌, ◌<◌, ◌≤◌, Bool, true, false, cond, List, [], ◌∷◌, length, is_some, Some, None, Option, ◌==◌, unsigned_abs}
use Rattle.std.specs.List.{AllByRecursion}
use Rattle.phases.specs.declared.phase.Phase.{Phase}
use Rattle.phases.specs.declared.phase.Nature.TheVariants.{Wait}
use Rattle.phases.specs.Phases.{Written}
use Rattle.motion.specs.Motions.{Motion}
use Rattle.motion.specs.Laws.{Valid}
use Rattle.engine.specs.declared.effects.Effects.{Effects}
use Rattle.steps.specs.declared.power.Power.{Power}
use Rattle.steps.specs.declared.power.Power.TheVariants.{On, Off}
use Rattle.phases.specs.declared.phase.Position.{Position}
use Rattle.engine.specs.Surroundings.{Program, Moment}
use Rattle.engine.specs.Progress.{Progress, PhaseState, entering, moving}
use Rattle.engine.specs.Leaving.{exists}
use Rattle.engine.specs.Entering.{phase_at}
use Rattle.engine.specs.Ticks.{started, tick, stopped_run}
use Rattle.engine.specs.Rules.{continues, over, event}

-- what is left of a run after some ticks
abbrev pub after : Program → List Moment → Option Progress → Option Progress
after g ts None = None
after g [] (Some c) = Some c
after g (t ∷ ts) (Some c) = after g ts (tick g t c).rest

-- ---- a run is always in a sequence that exists, and at most four sub-sequences are open

abbrev pub InSequence : Program → Position → Type 0
InSequence g q = exists g.blocks q.sequence ≡ true

abbrev pub NextInSequence : Program → Option Position → Type 0
NextInSequence g None = Unit {0}
NextInSequence g (Some q) = InSequence g q

abbrev pub InSequences : Program → Option Progress → Type 0
InSequences g None = Unit {0}
InSequences g (Some c) = InSequence g c.at × AllByRecursion (NextInSequence g) c.returns × (length c.returns ≤ 4)

-- so is every run that begins in a sequence that exists
abbrev pub RunsInSequences : ℕ → Progress → Type 0
RunsInSequences n c = (g : Program) (ts : List Moment) → exists g.blocks n ≡ true → InSequences g (after g ts (Some c))

abbrev pub StaysInSequences : Type 0
StaysInSequences = (n : ℕ) → RunsInSequences n (started n)

-- ---- what counts as unwritten is never run

abbrev pub RunsOnlyWritten : Type 0
RunsOnlyWritten = (g : Program) (q : Position) (p : Phase) → phase_at g q ≡ Some p → Written p ≡ true

-- ---- a movement goes on only with power on

abbrev pub switched : Bool → Option Power → Bool
switched on None = on
switched on (Some On) = true
switched on (Some Off) = false

abbrev pub StatePowered : Bool → PhaseState → Type 0
StatePowered on (moving p m) = on ≡ true
StatePowered on _ = Unit {0}

abbrev pub Powered : Bool → Option Progress → Type 0
Powered on None = Unit {0}
Powered on (Some c) = StatePowered on c.state

-- where power is on for a movement, it is after the tick as well; a tick that steps neither switches power nor zeroes the counter
abbrev pub PowerKept : Progress → Effects → Option Progress → Type 0
PowerKept c e rest =
    (on : Bool) → StatePowered on c.state →
    Powered (switched on e.power) rest
    × (is_some e.step ≡ true → (on ≡ true) × (e.power ≡ None) × (e.zero_counter ≡ false))

abbrev pub StepsWithPower : Type 0
StepsWithPower = (g : Program) (t : Moment) (c : Progress) → PowerKept c (tick g t c).effects (tick g t c).rest

-- ---- after GE the run ends with its movement, at the latest after as many ticks as that is up the slope

abbrev pub StopsAfterGe : Type 0
StopsAfterGe =
    (g : Program) (ts : List Moment) (c : Progress) (p : Phase) (m : Motion) → Valid m → length ts ≡ m.ramp →
    after g ts (stopped_run c (moving p m)) ≡ None

abbrev pub ticks_to_stop : PhaseState → ℕ
ticks_to_stop (moving p m) = m.ramp
ticks_to_stop _ = 0

abbrev pub StopsInTime : PhaseState → Option Progress → Type 0
StopsInTime a rest = (g : Program) (ts : List Moment) → length ts ≡ ticks_to_stop a → after g ts rest ≡ None

-- ---- after GE it enters no other phase: until it ends, its movement slows down

abbrev pub Slowing : PhaseState → Type 0
Slowing (moving p m) = m.stopping ≡ true
Slowing _ = ⊥

abbrev pub SlowingAt : Position → Option Progress → Type 0
SlowingAt q None = Unit {0}
SlowingAt q (Some r) = (r.at ≡ q) × Slowing r.state

abbrev pub EntersNoMore : Position → Option Progress → Type 0
EntersNoMore q rest = (g : Program) (ts : List Moment) → SlowingAt q (after g ts rest)

-- ---- a wait that tick t enters ends in the tick that comes 40 × its set point ticks later, and in none before

abbrev pub WaitsItsTime : Type 0
WaitsItsTime =
    (g : Program) (t : Moment) (ts : List Moment) (c : Progress) (p : Phase) →
    c.state ≡ entering → phase_at g c.at ≡ Some p → p.nature ≡ Wait →
    length ts < 40 * unsigned_abs p.set_point →
    (r : Progress)
    × (after g (t ∷ ts) (Some c) ≡ Some r)
    × (r.at ≡ c.at)
    × ((u : Moment) → event g u r ≡ cond (length ts + 1 == 40 * unsigned_abs p.set_point) (over p) continues)
