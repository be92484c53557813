-- What a busy module takes.
use Rattle.std.specs.Prelude.{◌≡◌, ℕ, Bool, true, false, Some}
use Rattle.orders.specs.declared.order.Order.{Order}
use Rattle.orders.specs.declared.order.Order.TheVariants.{SlowStop, PowerOn, PowerOff, SetOutputs, Restart, ReadParameters, ReadPosition, ReadVersion, ReadFault}
use Rattle.control.specs.States.{is_busy}
use Rattle.law.specs.History.{State}
use Rattle.module.specs.Machine.{module_device}
use Rattle.laws.specs.Called.{accepted_order}

-- GE, GM, GR, GL, MR, RL, RP, RV and RX: none of them names a sequence
abbrev pub taken_when_busy : Order → Bool
taken_when_busy SlowStop = true
taken_when_busy PowerOn = true
taken_when_busy PowerOff = true
taken_when_busy (SetOutputs n) = true
taken_when_busy Restart = true
taken_when_busy ReadParameters = true
taken_when_busy ReadPosition = true
taken_when_busy ReadVersion = true
taken_when_busy ReadFault = true
taken_when_busy _ = false

-- a line that is accepted while a movement or a sequence goes on gives one of these orders
abbrev pub BusyTakes : Type 0
BusyTakes =
    (cycle : ℕ) (s : State (module_device cycle)) (o : Order) → is_busy s.core.rest.control.activity ≡ true →
    accepted_order cycle s ≡ Some o → taken_when_busy o ≡ true
