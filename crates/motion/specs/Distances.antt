-- How far a movement goes.
use Rattle.std.specs.Prelude.{cond, ℤ, ◌-ℤ◌, int_lt, unsigned_abs}
use Rattle.steps.specs.declared.direction.Direction.TheVariants.{Forward, Back}
use Rattle.motion.specs.declared.distance.Distance.{Distance}

-- the plain difference from the counter to the goal, its sign being the direction
abbrev pub distance_to : ℤ → ℤ → Distance
distance_to goal counter = record { direction = cond (int_lt goal counter) Back Forward; steps = unsigned_abs (goal -ℤ counter) }
