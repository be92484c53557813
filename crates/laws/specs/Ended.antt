-- The outputs where what went on has ended.
use Rattle.std.specs.Prelude.{◌≡◌, ℕ, true, false}
use Rattle.control.specs.States.{is_busy}
use Rattle.law.specs.Events.{Event}
use Rattle.law.specs.History.{State, next}
use Rattle.module.specs.Machine.{module_device}

-- a call that finds the module busy and leaves it at rest leaves the outputs at FFh: so end a direct movement and a run, by whatever cause
abbrev pub OutputsAtTheEnd : Type 0
OutputsAtTheEnd =
    (cycle : ℕ) (s : State (module_device cycle)) (e : Event) → is_busy s.core.rest.control.activity ≡ true →
    is_busy (next (module_device cycle) s e).core.rest.control.activity ≡ false → (next (module_device cycle) s e).core.rest.control.outputs ≡ 255
