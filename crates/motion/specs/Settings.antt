-- What a direct movement goes by.
use Rattle.std.specs.Prelude.{ℕ}
use Rattle.steps.specs.declared.direction.Direction.{Direction}
use Rattle.steps.specs.declared.direction.Direction.TheVariants.{Forward}
use Rattle.motion.specs.declared.settings.Settings.{Settings as Declared}
use Rattle.motion.specs.Values.{Values, values, initial_values}

-- VN, VX and TR; DR; D+ or D-
pub record Settings : Type 0 where
  pub values : Values
  pub distance : ℕ
  pub direction : Direction

abbrev pub settings : Declared → Settings
settings s = record { values = values s.parameters; distance = s.distance; direction = s.direction }

abbrev pub initial_settings : Settings
initial_settings = record { values = initial_values; distance = 0; direction = Forward }
