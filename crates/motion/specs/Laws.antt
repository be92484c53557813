-- What holds of every movement.
use Rattle.std.specs.Prelude.{◌≡◌, ℕ, ◌+◌, ◌*◌, ◌<◌, ◌≤◌, true, false, [], ◌∷◌, length, replicate, Some, None}
use Rattle.steps.specs.declared.direction.Direction.{Direction}
use Rattle.motion.specs.Values.{Values, initial_values}
use Rattle.motion.specs.declared.movement.Movement.{Movement}
use Rattle.motion.specs.Motions.{Motion, motion, begun, stopped}
use Rattle.motion.specs.Ticks.{after, made, StepsAtMost}

-- the limits of VN, P and K, which a movement keeps throughout
pub record WithinLimits (start plateau top : ℕ) : Type 0 where
  pub least : 20 ≤ start
  pub order : start ≤ plateau
  pub most : plateau ≤ 20000
  pub shortest : 1 ≤ top

-- the limits of a movement's numbers
pub record Valid (m : Motion) : Type 0 where
  pub goes : 1 ≤ m.left
  pub below : m.accumulated < 40000
  pub ramps : m.ramp ≤ m.top
  pub limits : WithinLimits m.start m.plateau m.top

-- every movement of the code keeps them
abbrev pub EveryMovementValid : Type 0
EveryMovementValid = (m : Movement) → Valid (motion m)

-- in n ticks it makes all its steps, in its direction, and ends
abbrev pub DoneIn : ℕ → Motion → Type 0
DoneIn n m = (made n (Some m) ≡ replicate m.left m.direction) × (after n (Some m) ≡ None)

-- a movement that is not stopped makes exactly its steps and ends, within 2,000 ticks for each
abbrev pub MakesItsSteps : Type 0
MakesItsSteps = (m : Motion) → Valid m → m.stopping ≡ false → DoneIn (2000 * m.left) m

-- it is never slower than VN: in n ticks it makes the steps that n ticks at VN would, up to those left
abbrev pub AtLeastStartSpeed : Type 0
AtLeastStartSpeed =
    (m : Motion) → Valid m → m.stopping ≡ false → (n s : ℕ) →
    s ≤ m.left → 40000 * s ≤ m.accumulated + n * m.start → s ≤ length (made n (Some m))

-- stopped or not, it makes no more steps than are left, and all in its direction
abbrev pub MakesNoMore : Type 0
MakesNoMore = (m : Motion) → Valid m → StepsAtMost m.left m.direction (Some m)

-- it is never faster than its plateau: in n ticks it makes no more steps than n ticks at P would
abbrev pub AtMostPlateau : Type 0
AtMostPlateau =
    (m : Motion) → Valid m → (n : ℕ) → 40000 * length (made n (Some m)) ≤ m.accumulated + n * m.plateau

-- under NV it is never faster than VN
abbrev pub ConstantAtMostStart : Type 0
ConstantAtMostStart =
    (m : Motion) → Valid m → m.constant ≡ true → (n : ℕ) → 40000 * length (made n (Some m)) ≤ m.accumulated + n * m.start

-- two ticks in a row never make two steps
abbrev pub BetweenSteps : Type 0
BetweenSteps = (m : Motion) → Valid m → length (made 2 (Some m)) ≤ 1

-- after GE it ends within k ticks, so within K, and makes no more steps than were left
abbrev pub SlowStopEnds : Type 0
SlowStopEnds =
    (m : Motion) → Valid m →
    (after m.ramp (stopped m) ≡ None)
    × (after m.top (stopped m) ≡ None)
    × StepsAtMost m.left m.direction (stopped m)

-- VN and VX 20,000, TR 1,000
abbrev pub highest_speeds : Values
highest_speeds = record { start_speed = 20000; plateau_speed = 20000; slope_time = 1000 }

-- one step of a new module is made at tick 80; two steps at 20,000 steps per second are made at ticks 2 and 4
abbrev pub Examples : Type 0
Examples =
    (x : Direction) →
    (made 79 (begun initial_values None x 1 false) ≡ [])
    × (made 80 (begun initial_values None x 1 false) ≡ x ∷ [])
    × (after 80 (begun initial_values None x 1 false) ≡ None)
    × (made 1 (begun highest_speeds None x 2 false) ≡ [])
    × (made 2 (begun highest_speeds None x 2 false) ≡ x ∷ [])
    × (made 3 (begun highest_speeds None x 2 false) ≡ x ∷ [])
    × (made 4 (begun highest_speeds None x 2 false) ≡ x ∷ x ∷ [])
    × (after 4 (begun highest_speeds None x 2 false) ≡ None)
