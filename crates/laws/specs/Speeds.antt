-- The speed of a movement from tick to tick.
use Rattle.std.specs.Prelude.{◌≡◌, ℕ, ◌+◌, ◌-◌, ◌*◌, ◌/◌, ◌<◌, ◌≤◌, max, true, false, Some, None, Option}
use Rattle.std.specs.Option.{unwrap_or}
use Rattle.steps.specs.declared.direction.Direction.{Direction}
use Rattle.motion.specs.Values.{Values}
use Rattle.motion.specs.Motions.{Motion, begun, speed_at, next_ramp, tick_step, tick_rest}
use Rattle.motion.specs.Ticks.{after}

-- the speed in steps per second that a movement has in its next tick
abbrev pub next_speed : Motion → ℕ
next_speed m = speed_at m (next_ramp m)

abbrev pub steps_in : Option Direction → ℕ
steps_in None = 0
steps_in (Some x) = 1

-- a tick adds this speed to what has added up, and a step takes 40,000 from it
abbrev pub AddsItsSpeed : Type 0
AddsItsSpeed = (m k : Motion) → tick_rest m ≡ Some k → k.accumulated + 40000 * steps_in (tick_step m) ≡ m.accumulated + next_speed m

-- the plateau speed P: VX, or the speed that is asked for, but at least VN
abbrev pub plateau_of : Values → Option ℕ → ℕ
plateau_of v asked = max (unwrap_or asked v.plateau_speed) v.start_speed

-- the slope from VN to P takes K = 40 × TR ticks; in its tick k the speed is VN + ((P - VN) × k) div K
abbrev pub slope_speed : Values → Option ℕ → ℕ → ℕ
slope_speed v asked k = v.start_speed + ((plateau_of v asked - v.start_speed) * k) / (40 * v.slope_time)

-- until a movement slows down, which it does once no more steps are left than were made on the way up, it goes up its slope and then has P
abbrev pub GoesUpItsSlope : Type 0
GoesUpItsSlope =
    (v : Values) (asked : Option ℕ) (x : Direction) (steps j : ℕ) (m : Motion) → 1 ≤ v.slope_time →
    after j (begun v asked x steps false) ≡ Some m → m.up < m.left →
    (j < 40 * v.slope_time → next_speed m ≡ slope_speed v asked (j + 1))
    × (40 * v.slope_time ≤ j + 1 → next_speed m ≡ plateau_of v asked)

-- a movement at constant speed has VN in every tick
abbrev pub StaysAtStartSpeed : Type 0
StaysAtStartSpeed =
    (v : Values) (asked : Option ℕ) (x : Direction) (steps j : ℕ) (m : Motion) →
    after j (begun v asked x steps true) ≡ Some m → next_speed m ≡ v.start_speed
