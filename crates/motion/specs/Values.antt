-- The values of parameters.
use Rattle.std.specs.Prelude.{ℕ}
use Rattle.motion.specs.declared.parameters.Parameters.{Parameters}

-- VN and VX in steps per second, TR in milliseconds
pub record Values : Type 0 where
  pub start_speed : ℕ
  pub plateau_speed : ℕ
  pub slope_time : ℕ

abbrev pub values : Parameters → Values
values p = record { start_speed = p.start; plateau_speed = p.plateau; slope_time = p.slope }

-- the values of a new module
abbrev pub initial_values : Values
initial_values = record { start_speed = 500; plateau_speed = 2000; slope_time = 1000 }
