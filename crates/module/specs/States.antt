-- All of a module but its line and its fault record, with the lent records: what orders and ticks do to it.
use Rattle.std.specs.Prelude.{ℕ, Bool, true, false, cond, List, ℤ, pos, Some, None, Option}
use Rattle.steps.specs.declared.direction.Direction.{Direction}
use Rattle.steps.specs.declared.power.Power.{Power}
use Rattle.steps.specs.declared.power.Power.TheVariants.{On, Off}
use Rattle.steps.specs.Directions.{one_step}
use Rattle.phases.specs.declared.phase.Phase.{Phase}
use Rattle.axis.specs.Axes.{AxisState, axis_stepped, with_counter, with_power}
use Rattle.engine.specs.declared.effects.Effects.{Effects}
use Rattle.orders.specs.declared.order.Order.{Order}
use Rattle.control.specs.declared.change.Change.{Change}
use Rattle.control.specs.States.{State}
use Rattle.control.specs.Ticks.{tick_effects, ticked}
use Rattle.control.specs.Obeyed.{Done, obeyed, restart_change, restarted}

pub record ModuleState : Type 0 where
  pub control : State
  pub axis : AxisState
  pub records : List Phase

-- power switched, if it is
abbrev pub powered : Option Power → AxisState → AxisState
powered None a = a
powered (Some On) a = with_power true a
powered (Some Off) a = with_power false a

-- the counter set, if it is
abbrev pub counted : Option ℤ → AxisState → AxisState
counted None a = a
counted (Some z) a = with_counter z a

abbrev pub changed : Change → AxisState → AxisState
changed c a = powered c.power (counted c.counter a)

-- a step asked of the axis, if one is due, and what it comes to
abbrev pub stepped : Option Direction → AxisState → AxisState
stepped None a = a
stepped (Some s) a = axis_stepped s a

abbrev pub step_made : Option Direction → AxisState → ℤ
step_made None a = pos 0
step_made (Some s) a = cond a.power (one_step s) (pos 0)

-- a step that is made moves a place by so much, and none by 0
abbrev pub step_due : Option Direction → ℤ
step_due None = pos 0
step_due (Some s) = one_step s

abbrev pub zeroed : Bool → AxisState → AxisState
zeroed zero a = cond zero (with_counter (pos 0) a) a

-- the effects of a tick on the axis: power is switched, a step is made, the counter is set to zero
abbrev pub affected : Effects → AxisState → AxisState
affected e a = zeroed e.zero_counter (stepped e.step (powered e.power a))

abbrev pub step_of : Effects → AxisState → ℤ
step_of e a = step_made e.step (powered e.power a)

-- an accepted order
abbrev pub order_done : ModuleState → Order → Done
order_done r o = obeyed r.control r.records r.axis.counter o

unfoldable pub obeyed_state : ModuleState → Order → ModuleState
obeyed_state r o = record { control = (order_done r o).state; axis = changed (order_done r o).change r.axis; records = (order_done r o).records }

-- a tick
abbrev pub effects_of : ModuleState → Effects
effects_of r = tick_effects r.control r.records r.axis.counter r.control.activity

unfoldable pub ticked_state : ModuleState → ModuleState
ticked_state r = record r { control = ticked r.control r.records r.axis.counter r.control.activity; axis = affected (effects_of r) r.axis }

-- new levels, and power-up
abbrev pub levelled_state : ModuleState → ℕ → ModuleState
levelled_state r n = record r { control = record r.control { levels = n } }

abbrev pub restarted_state : ModuleState → ModuleState
restarted_state r = record r { control = restarted r.control r.control.chosen; axis = changed (restart_change r.control.chosen) r.axis }
