-- A movement over many ticks.
use Rattle.std.specs.Prelude.{◌≡◌, ℕ, zero, suc, ◌+◌, ◌*◌, ◌≤◌, List, [], ◌∷◌, length, replicate, Some, None, Option}
use Rattle.steps.specs.declared.direction.Direction.{Direction}
use Rattle.motion.specs.Motions.{Motion, tick_step, tick_rest}

-- what is left of a movement after n ticks
abbrev pub after : ℕ → Option Motion → Option Motion
after n None = None
after zero (Some m) = Some m
after (suc n) (Some m) = after n (tick_rest m)

-- a tick's step, if it made one, and then the steps l
abbrev pub with_step : Option Direction → List Direction → List Direction
with_step None l = l
with_step (Some x) l = x ∷ l

-- the steps that a movement makes in n ticks
abbrev pub made : ℕ → Option Motion → List Direction
made n None = []
made zero (Some m) = []
made (suc n) (Some m) = with_step (tick_step m) (made n (tick_rest m))

-- the steps l are at most that many, all in the direction x
abbrev pub UpTo : ℕ → Direction → List Direction → Type 0
UpTo most x l = (j : ℕ) × (j ≤ most) × (l ≡ replicate j x)

-- in any number of ticks it makes at most that many steps, all in the direction x
abbrev pub StepsAtMost : ℕ → Direction → Option Motion → Type 0
StepsAtMost most x m = (n : ℕ) → UpTo most x (made n m)

-- it makes at most v steps a second: in any n ticks, from any tick t on, 40,000 times its steps are at most 39,999 + n × v
abbrev pub SpeedAtMost : ℕ → Option Motion → Type 0
SpeedAtMost v m = (t n : ℕ) → 40000 * length (made n (after t m)) ≤ 39999 + n * v

-- what bounds the step of a tick of m together with those of the ticks that follow
pub record TickBounds (m : Motion) (step : Option Direction) (rest : Option Motion) : Type 0 where
  -- no more steps than were left, all in its direction
  pub steps : (n : ℕ) → UpTo m.left m.direction (with_step step (made n rest))
  -- no faster than its plateau
  pub plateau : (n : ℕ) → 40000 * length (with_step step (made n rest)) ≤ m.accumulated + suc n * m.plateau
  -- no step in this tick and in the next
  pub between : length (with_step step (made 1 rest)) ≤ 1
