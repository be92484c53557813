-- A direction as a number and as a text writes it.
use Rattle.std.specs.Prelude.{ℕ, ℤ, pos, negsuc}
use Rattle.steps.specs.declared.direction.Direction.{Direction}
use Rattle.steps.specs.declared.direction.Direction.TheVariants.{Forward, Back}

-- 1 forward, -1 back
abbrev pub one_step : Direction → ℤ
one_step Forward = pos 1
one_step Back = negsuc 0

-- + forward, - back
abbrev pub direction_sign : Direction → ℕ
direction_sign Forward = 43
direction_sign Back = 45
