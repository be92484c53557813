-- A movement by its rules: its start, one tick, and the slow stop.
use Rattle.std.specs.Prelude.{ℕ, ◌+◌, ◌-◌, ◌*◌, ◌/◌, max, Bool, true, false, cond, not, ◌&&◌, ◌||◌, Some, None, Option, ◌==◌, nat_le, nat_lt}
use Rattle.steps.specs.declared.direction.Direction.{Direction}
use Rattle.motion.specs.declared.movement.Movement.{Movement}
use Rattle.motion.specs.Values.{Values}

-- r, k, u and a of the rules are left, ramp, up and accumulated; VN, P and K are start, plateau and top
pub record Motion : Type 0 where
  pub direction : Direction
  pub left : ℕ
  pub ramp : ℕ
  pub up : ℕ
  pub accumulated : ℕ
  pub start : ℕ
  pub plateau : ℕ
  pub top : ℕ
  pub constant : Bool
  pub stopping : Bool

abbrev pub motion : Movement → Motion
motion m = record {
  direction = m.direction;
  left = m.left;
  ramp = m.ramp;
  up = m.up;
  accumulated = m.accumulated;
  start = m.start;
  plateau = m.plateau;
  top = m.top;
  constant = m.constant;
  stopping = m.stopping;
}

abbrev pub motion_left : Option Movement → Option Motion
motion_left None = None
motion_left (Some m) = Some (motion m)

-- P is VX, or the speed asked for if there is one, but at least VN
abbrev pub plateau_of : Values → Option ℕ → ℕ
plateau_of p None = max p.plateau_speed p.start_speed
plateau_of p (Some v) = max v p.start_speed

-- k, u and a start at 0, and K = 40 × TR
abbrev pub at_start : Values → Option ℕ → Direction → ℕ → Bool → Motion
at_start p asked direction steps constant = record {
  direction = direction;
  left = steps;
  ramp = 0;
  up = 0;
  accumulated = 0;
  start = p.start_speed;
  plateau = plateau_of p asked;
  top = 40 * p.slope_time;
  constant = constant;
  stopping = false;
}

-- a movement over no step has ended before it begins
abbrev pub begun : Values → Option ℕ → Direction → ℕ → Bool → Option Motion
begun p asked direction steps constant = cond (steps == 0) None (Some (at_start p asked direction steps constant))

-- 1. it slows down once no more steps are left than were made on the way up, and after GE
abbrev pub falling : Motion → Bool
falling m = nat_le m.left m.up || m.stopping

-- slowing down is one tick down the slope, as far as its foot; else one tick up, as far as its top; NV stays at the foot
abbrev pub next_ramp : Motion → ℕ
next_ramp m =
    cond m.constant 0
    (cond (falling m) (m.ramp - 1) (cond (nat_lt m.ramp m.top) (m.ramp + 1) m.ramp))

-- 2. a stopped movement that has come to the foot of the slope is over, and makes no step
abbrev pub ends_stopped : Motion → Bool
ends_stopped m = m.stopping && next_ramp m == 0

-- 3. the speed of this tick: VN, and of the rise from VN to P the part k of K, rounded down
abbrev pub speed_at : Motion → ℕ → ℕ
speed_at m k = m.start + ((m.plateau - m.start) * k) / m.top

-- it is added to a
abbrev pub next_sum : Motion → ℕ
next_sum m = m.accumulated + speed_at m (next_ramp m)

-- 4. a step is due once the speeds added up have come to 40,000
abbrev pub makes_step : Motion → Bool
makes_step m = not (ends_stopped m) && nat_le 40000 (next_sum m)

-- a step uses up 40,000 and one of the steps left; it counts as made on the way up where the movement neither slows down nor is at the top of its slope
abbrev pub after_step : Motion → Motion
after_step m = record m {
  left = m.left - 1;
  ramp = next_ramp m;
  up = cond (not (falling m) && nat_lt (next_ramp m) m.top) (m.up + 1) m.up;
  accumulated = next_sum m - 40000;
}

abbrev pub without_step : Motion → Motion
without_step m = record m { ramp = next_ramp m; accumulated = next_sum m }

-- the step that a tick makes
abbrev pub tick_step : Motion → Option Direction
tick_step m = cond (makes_step m) (Some m.direction) None

-- what a tick leaves; after the last step there is nothing
abbrev pub tick_rest : Motion → Option Motion
tick_rest m =
    cond (ends_stopped m) None
    (cond (makes_step m) (cond (m.left == 1) None (Some (after_step m))) (Some (without_step m)))

abbrev pub slowing : Motion → Motion
slowing m = record m { stopping = true }

-- GE: at the foot of the slope the movement is over at once
abbrev pub stopped : Motion → Option Motion
stopped m = cond (m.ramp == 0) None (Some (slowing m))
