-- Accepted means done: what an accepted line leaves of the settings, of the phase memory, of the choice, of power and of the outputs.
use Rattle.std.specs.Prelude.{◌≡◌, ◌⊎◌, ℕ, Bool, true, false, is_some, Some, None, Ok, Option, ◌≢◌}
use Rattle.steps.specs.declared.direction.Direction.TheVariants as direction
use Rattle.phases.specs.declared.phase.Position.{Position}
use Rattle.store.specs.Keeps.{step}
use Rattle.store.specs.Keeps.Command.{SN, SE, SP}
use Rattle.store.specs.Records.{located}
use Rattle.motion.specs.Settings.{Settings}
use Rattle.orders.specs.declared.order.Order.{Order}
use Rattle.orders.specs.declared.order.Order.TheVariants.{StartSpeed, PlateauSpeed, Slope, Distance, Forward, Back, Move, MoveToOrigin, MoveTo, SlowStop, PowerOn, PowerOff, SetOutputs, Create, Erase, Choose, Start, Write, Restart}
use Rattle.orders.specs.declared.order.Judgement.TheVariants.{Own, Broadcast}
use Rattle.store.specs.Stores.{Store}
use Rattle.control.specs.States.{store_of, is_busy}
use Rattle.law.specs.Events.{Event}
use Rattle.law.specs.Events.Event.{ending}
use Rattle.law.specs.History.{State, next}
use Rattle.module.specs.States.{ModuleState}
use Rattle.module.specs.Lines.{judged_line}
use Rattle.module.specs.Machine.{module_device}
use Rattle.laws.specs.Called.{accepted_order}

-- VN, VX and TR set one number, DR, D+ and D- one setting, and every other order leaves the settings
abbrev pub settings_after : Settings → Order → Settings
settings_after s (StartSpeed v) = record s { values = record s.values { start_speed = v } }
settings_after s (PlateauSpeed v) = record s { values = record s.values { plateau_speed = v } }
settings_after s (Slope t) = record s { values = record s.values { slope_time = t } }
settings_after s (Distance n) = record s { distance = n }
settings_after s Forward = record s { direction = direction.Forward }
settings_after s Back = record s { direction = direction.Back }
settings_after s _ = s

-- SN, SE and SP do what the store's commands of that name do, SP at the place that was looked up; every other order leaves the phase memory
abbrev pub StoreAfter : Store → Order → Store → Type 0
StoreAfter s (Create b) t = t ≡ step (SN b.number b.reserve) s
StoreAfter s (Erase n) t = t ≡ step (SE n) s
StoreAfter s (Write index p) t = (at : Position) × (located s.blocks at.sequence at.phase ≡ Ok index) × (t ≡ step (SP at.sequence at.phase p) s)
StoreAfter s _ t = t ≡ s

-- SD chooses a sequence; SE takes back the choice of the one that it erases, and every choice where it erases all
abbrev pub ChoiceAfter : Option ℕ → Order → Option ℕ → Type 0
ChoiceAfter before (Choose n) after = after ≡ Some n
ChoiceAfter before (Erase None) after = after ≡ None
ChoiceAfter before (Erase (Some n)) after = (before ≡ Some n → after ≡ None) × ((before ≢ Some n) → after ≡ before)
ChoiceAfter before _ after = after ≡ before

-- GO, GH, GA, GM and SS switch power on, GR off; MR off, or on where it starts the chosen sequence
abbrev pub power_by_order : Option ℕ → Bool → Order → Bool
power_by_order chosen on Move = true
power_by_order chosen on MoveToOrigin = true
power_by_order chosen on (MoveTo z) = true
power_by_order chosen on PowerOn = true
power_by_order chosen on (Start n) = true
power_by_order chosen on PowerOff = false
power_by_order chosen on Restart = is_some chosen
power_by_order chosen on _ = on

-- GL sets the outputs, MR sets them to FFh; those that begin, slow down or end a movement or a run leave them where something goes on then; the
-- others leave them
abbrev pub OutputsAfter : ℕ → Bool → Order → ℕ → Type 0
OutputsAfter before busy (SetOutputs n) after = after ≡ n
OutputsAfter before busy Restart after = after ≡ 255
OutputsAfter before busy Move after = busy ≡ true → after ≡ before
OutputsAfter before busy MoveToOrigin after = busy ≡ true → after ≡ before
OutputsAfter before busy (MoveTo z) after = busy ≡ true → after ≡ before
OutputsAfter before busy SlowStop after = busy ≡ true → after ≡ before
OutputsAfter before busy PowerOff after = busy ≡ true → after ≡ before
OutputsAfter before busy _ after = after ≡ before

pub record Does (r t : ModuleState) (o : Order) : Type 0 where
  pub settings : t.control.settings ≡ settings_after r.control.settings o
  pub store : StoreAfter (store_of r.control r.records) o (store_of t.control t.records)
  pub choice : ChoiceAfter r.control.chosen o t.control.chosen
  pub power : t.axis.power ≡ power_by_order r.control.chosen r.axis.power o
  pub outputs : OutputsAfter r.control.outputs (is_busy t.control.activity) o t.control.outputs

-- the end of a line that is accepted does what its order says
abbrev pub AcceptedIsDone : Type 0
AcceptedIsDone =
    (cycle : ℕ) (s : State (module_device cycle)) (o : Order) →
    (judged_line s.core.rest s.line ≡ Own (Ok o)) ⊎ (judged_line s.core.rest s.line ≡ Broadcast (Ok o)) →
    Does s.core.rest (next (module_device cycle) s ending).core.rest o

-- the order of a call: that of an accepted line at its end
abbrev pub order_at : (cycle : ℕ) → State (module_device cycle) → Event → Option Order
order_at cycle s ending = accepted_order cycle s
order_at cycle s _ = None

pub record Same (r t : ModuleState) : Type 0 where
  pub settings : t.control.settings ≡ r.control.settings
  pub choice : t.control.chosen ≡ r.control.chosen

-- every call without an order leaves the settings and the choice: ticks, levels, power-up, characters, the lines that are not accepted
abbrev pub OnlyOrdersSet : Type 0
OnlyOrdersSet =
    (cycle : ℕ) (s : State (module_device cycle)) (e : Event) → order_at cycle s e ≡ None →
    Same s.core.rest (next (module_device cycle) s e).core.rest
