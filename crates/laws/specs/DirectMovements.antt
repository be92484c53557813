-- The movements that GO, GH and GA begin.
use Rattle.std.specs.Prelude.{◌≡◌, ℕ, false, ℤ, pos, ◌-ℤ◌, true, Some, None, Option}
use Rattle.steps.specs.declared.direction.Direction.{Direction}
use Rattle.motion.specs.Settings.{Settings}
use Rattle.motion.specs.Motions.{Motion, begun}
use Rattle.orders.specs.declared.order.Order.{Order}
use Rattle.orders.specs.declared.order.Order.TheVariants.{Move, MoveToOrigin, MoveTo}
use Rattle.control.specs.States.{resting, moving}
use Rattle.law.specs.Events.Event.{ending}
use Rattle.law.specs.History.{State, next}
use Rattle.module.specs.States.{ModuleState}
use Rattle.module.specs.Machine.{module_device}
use Rattle.laws.specs.Called.{accepted_order}
use Rattle.laws.specs.Entering.{way}

-- GO by DR in the direction of D+ or D-, GH to 0 and GA to its number, from the counter on
abbrev pub leads_directly : Order → Settings → ℤ → Option ℤ
leads_directly Move s counter = Some (way s.direction s.distance)
leads_directly MoveToOrigin s counter = Some (pos 0 -ℤ counter)
leads_directly (MoveTo z) s counter = Some (z -ℤ counter)
leads_directly _ s counter = None

-- a movement that has steps to make goes on; one of none has ended at once, with the outputs at FFh
abbrev pub GoesOn : Option Motion → ModuleState → Type 0
GoesOn (Some m) t = t.control.activity ≡ moving m
GoesOn None t = (t.control.activity ≡ resting) × (t.control.outputs ≡ 255)

-- with power on, it goes by VN, VX and TR
pub record MovesDirectly (z : ℤ) (r t : ModuleState) : Type 0 where
  pub direction : Direction
  pub steps : ℕ
  pub leads : way direction steps ≡ z
  pub power : t.axis.power ≡ true
  pub movement : GoesOn (begun r.control.settings.values None direction steps false) t

-- an accepted GO, GH or GA does this
abbrev pub LeadsDirectly : Type 0
LeadsDirectly =
    (cycle : ℕ) (s : State (module_device cycle)) (o : Order) (z : ℤ) → accepted_order cycle s ≡ Some o →
    leads_directly o s.core.rest.control.settings s.core.rest.axis.counter ≡ Some z →
    MovesDirectly z s.core.rest (next (module_device cycle) s ending).core.rest
