-- What the tick does that enters a phase, and where its movement leads.
use Rattle.std.specs.Prelude.{◌≡◌, ◌↔◌, ℕ, Bool, true, false, ℤ, pos, neg_ℤ, ◌-ℤ◌, Some, unsigned_abs}
use Rattle.std.specs.Int.{bit_at}
use Rattle.std.specs.Option.{unwrap_or}
use Rattle.steps.specs.declared.direction.Direction.{Direction}
use Rattle.steps.specs.declared.direction.Direction.TheVariants.{Forward, Back}
use Rattle.phases.specs.declared.phase.Phase.{Phase}
use Rattle.phases.specs.declared.phase.Nature.{Nature}
use Rattle.phases.specs.declared.phase.Nature.TheVariants.{Relative, Origin, Absolute, ConstantSpeed, Wait, ZeroCounter, PlateauSpeed, PowerOn, PowerOff}
use Rattle.motion.specs.Motions.{Motion, begun}
use Rattle.engine.specs.Leaving.{agrees}
use Rattle.engine.specs.Progress.{Progress, moving as in_movement}
use Rattle.control.specs.States.{running, is_busy}
use Rattle.law.specs.Events.Event.{tick}
use Rattle.law.specs.History.{State, next}
use Rattle.module.specs.States.{ModuleState}
use Rattle.module.specs.Counter.{entered_next}
use Rattle.module.specs.Machine.{module_device}

-- power: the movements and NT switch it on, NU switches it off, NW, NZ and NC leave it
abbrev pub power_entering : Nature → Bool → Bool
power_entering Relative on = true
power_entering Origin on = true
power_entering Absolute on = true
power_entering ConstantSpeed on = true
power_entering Wait on = on
power_entering ZeroCounter on = on
power_entering PlateauSpeed on = on
power_entering PowerOn on = true
power_entering PowerOff on = false

-- the counter: NZ sets it to 0, the others leave it
abbrev pub counter_after : Nature → ℤ → ℤ
counter_after ZeroCounter z = pos 0
counter_after _ z = z

-- no step is made; NO sets the outputs, unless the run ends in this tick
pub record Enters (p : Phase) (r t : ModuleState) : Type 0 where
  pub power : t.axis.power ≡ power_entering p.nature r.axis.power
  pub counter : t.axis.counter ≡ counter_after p.nature r.axis.counter
  pub place : t.axis.place ≡ r.axis.place
  pub outputs : is_busy t.control.activity ≡ true → t.control.outputs ≡ unwrap_or p.outputs r.control.outputs

abbrev pub EntersByNature : Type 0
EntersByNature =
    (cycle : ℕ) (s : State (module_device cycle)) (p : Phase) → entered_next s.core.rest ≡ Some p →
    Enters p s.core.rest (next (module_device cycle) s tick).core.rest

-- NE agrees exactly where the level of each input that has a mark is the mark's, bit by bit
abbrev pub AgreesBitByBit : Type 0
AgreesBitByBit =
    (p : Phase) (levels : ℕ) → (agrees p levels ≡ true) ↔ ((i : ℕ) → bit_at p.inputs.named i ≡ 1 → bit_at levels i ≡ bit_at p.inputs.levels i)

-- so many steps in a direction, as a difference of positions
abbrev pub way : Direction → ℕ → ℤ
way Forward n = pos n
way Back n = neg_ℤ (pos n)

-- where a phase leads to: NP and NV by the set point, forward for S+ and back for S-; NX to the set point and NH to 0, from the counter on
abbrev pub leads : Nature → Phase → ℤ → ℤ
leads Relative p counter = way p.direction (unsigned_abs p.set_point)
leads ConstantSpeed p counter = way p.direction (unsigned_abs p.set_point)
leads Absolute p counter = p.set_point -ℤ counter
leads Origin p counter = pos 0 -ℤ counter
leads _ p counter = pos 0

abbrev pub is_movement : Nature → Bool
is_movement Relative = true
is_movement ConstantSpeed = true
is_movement Absolute = true
is_movement Origin = true
is_movement _ = false

abbrev pub is_constant : Nature → Bool
is_constant ConstantSpeed = true
is_constant _ = false

-- such a phase begins a movement over that distance, with the plateau that NC set; NV at constant speed
abbrev pub MovesByNature : Type 0
MovesByNature =
    (cycle : ℕ) (s : State (module_device cycle)) (c : Progress) (p : Phase) → s.core.rest.control.activity ≡ running c →
    entered_next s.core.rest ≡ Some p → is_movement p.nature ≡ true →
    (x : Direction) × (n : ℕ)
    × (way x n ≡ leads p.nature p s.core.rest.axis.counter)
    × ((m : Motion) → begun s.core.rest.control.settings.values c.plateau x n (is_constant p.nature) ≡ Some m →
    (next (module_device cycle) s tick).core.rest.control.activity ≡ running (record c { state = in_movement p m }))
