-- The counter, the place and the power of an axis, and what each call does to them.
use Rattle.std.specs.Prelude.{ℕ, Bool, false, cond, ℤ, pos, ◌+ℤ◌, ◌-ℤ◌}
use Rattle.steps.specs.declared.direction.Direction.{Direction}
use Rattle.steps.specs.Directions.{one_step}
use Rattle.outputs.specs.Meaning.{Meaning, moved}
use Rattle.steps.specs.Wrap.{wrapped24}

pub record AxisState : Type 0 where
  pub counter : ℤ
  pub place : ℕ
  pub power : Bool

-- An axis as clauses see it: its state, and the output that it steps.
pub record AxisView (O : Type 0) : Type 0 where
  pub state : AxisState
  pub output : O

-- The place and the power are the output's.
abbrev pub axis_view : {O : Type 0} → Meaning → ℤ → O → AxisView O
axis_view m counter output = record { state = record { counter = counter; place = m.place; power = m.power }; output = output }

-- A new axis over an output: counter 0, the output's place, power off.
abbrev pub new_axis : Meaning → AxisState
new_axis m = record { counter = pos 0; place = m.place; power = false }

-- With power on a step moves the counter, wrapped to 24 bits, and the place; with power off nothing changes.
abbrev pub axis_stepped : Direction → AxisState → AxisState
axis_stepped s a = record a {
  counter = cond a.power (wrapped24 (a.counter +ℤ one_step s)) a.counter;
  place = cond a.power (moved s a.place) a.place;
}

-- The counter is set; place and power stay.
abbrev pub with_counter : ℤ → AxisState → AxisState
with_counter n a = record a { counter = n }

-- Power is switched on or off; counter and place stay.
abbrev pub with_power : Bool → AxisState → AxisState
with_power on a = record a { power = on }

-- The counter less the place, wrapped to 24 bits: what no step changes, since both move alike.
abbrev pub offset : AxisState → ℤ
offset a = wrapped24 (a.counter -ℤ pos a.place)
