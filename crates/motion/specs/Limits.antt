-- The limits of a speed and of a slope.
use Rattle.std.specs.Prelude.{ℕ, cond, ◌&&◌, ℤ, pos, Some, None, Option, nat_le, unsigned_abs}
use Rattle.steps.specs.Limits.{between}

-- a speed is 20 to 20,000 steps per second
abbrev pub speed_of : ℕ → Option ℕ
speed_of n = cond (nat_le 20 n && nat_le n 20000) (Some n) None

-- also as a set point says it
abbrev pub speed_within : ℤ → Option ℕ
speed_within z = cond (between (pos 20) (pos 20000) z) (Some (unsigned_abs z)) None

-- a slope is 1 to 65,000 ms
abbrev pub slope_of : ℕ → Option ℕ
slope_of n = cond (nat_le 1 n && nat_le n 65000) (Some n) None
