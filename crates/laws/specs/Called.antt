-- When a sequence runs, which one it is, and what moves its run.
use Rattle.std.specs.Prelude.{◌≡◌, ℕ, Bool, true, false, [], is_some, Some, None, Ok, Option}
use Rattle.engine.specs.Progress.{Progress, entering}
use Rattle.orders.specs.declared.order.Order.{Order}
use Rattle.orders.specs.declared.order.Order.TheVariants.{SlowStop, PowerOff, Start, Restart}
use Rattle.orders.specs.declared.order.Judgement.{Judgement}
use Rattle.orders.specs.declared.order.Judgement.TheVariants.{Own, Broadcast}
use Rattle.control.specs.States.{Activity, running}
use Rattle.law.specs.Events.{Event}
use Rattle.law.specs.Events.Event.{ending, tick, power_up}
use Rattle.law.specs.History.{State, next}
use Rattle.module.specs.States.{ModuleState}
use Rattle.module.specs.Lines.{judged_line}
use Rattle.module.specs.Machine.{module_device}

-- whether a sequence runs
abbrev pub runs : Activity → Bool
runs (running r) = true
runs _ = false

-- the order of a line that is accepted
abbrev pub accepted_in : Judgement → Option Order
accepted_in (Own (Ok o)) = Some o
accepted_in (Broadcast (Ok o)) = Some o
accepted_in _ = None

abbrev pub accepted_order : (cycle : ℕ) → State (module_device cycle) → Option Order
accepted_order cycle s = accepted_in (judged_line s.core.rest s.line)

-- the sequence that an order calls: SS that of its number, MR the chosen one
abbrev pub called_by : Option ℕ → Option Order → Option ℕ
called_by chosen (Some (Start n)) = Some n
called_by chosen (Some Restart) = chosen
called_by chosen _ = None

-- the sequence that a call calls: the end of such a line, and a power-up, which calls the chosen one
abbrev pub called : (cycle : ℕ) → State (module_device cycle) → Event → Option ℕ
called cycle s ending = called_by s.core.rest.control.chosen (accepted_order cycle s)
called cycle s power_up = s.core.rest.control.chosen
called cycle s _ = None

-- where no sequence runs before a call and one does after it, the call has called one
abbrev pub RunsOnlyWhenCalled : Type 0
RunsOnlyWhenCalled =
    (cycle : ℕ) (s : State (module_device cycle)) (e : Event) → runs s.core.rest.control.activity ≡ false →
    runs (next (module_device cycle) s e).core.rest.control.activity ≡ true → is_some (called cycle s e) ≡ true

-- the run of a sequence from its phase 1 on, with power on
pub record Begins (n : ℕ) (r : ModuleState) : Type 0 where
  pub run : r.control.activity ≡ running (record { at = record { sequence = n; phase = 1 }; state = entering; plateau = None; returns = [] })
  pub power : r.axis.power ≡ true

-- the run that begins is that of the very sequence that was called
abbrev pub RunsTheCalled : Type 0
RunsTheCalled =
    (cycle : ℕ) (s : State (module_device cycle)) (e : Event) (n : ℕ) → called cycle s e ≡ Some n →
    Begins n (next (module_device cycle) s e).core.rest

-- GE, GR and MR move a run; no other order does
abbrev pub moved_by : Option Order → Bool
moved_by (Some SlowStop) = true
moved_by (Some PowerOff) = true
moved_by (Some Restart) = true
moved_by _ = false

-- the calls that move a run: ticks, power-up, and the end of such a line
abbrev pub moves : (cycle : ℕ) → State (module_device cycle) → Event → Bool
moves cycle s tick = true
moves cycle s power_up = true
moves cycle s ending = moved_by (accepted_order cycle s)
moves cycle s _ = false

-- every other call leaves a run where it is: strangers' lines, refused ones, questions, GL, GM, levels
abbrev pub RunStays : Type 0
RunStays =
    (cycle : ℕ) (s : State (module_device cycle)) (e : Event) (r : Progress) → s.core.rest.control.activity ≡ running r →
    moves cycle s e ≡ false → (next (module_device cycle) s e).core.rest.control.activity ≡ running r
