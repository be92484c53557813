-- Ticks of a module.
use Rattle.std.specs.Prelude.{ℕ, zero, suc}
use Rattle.law.specs.Events.Event.{tick}
use Rattle.law.specs.History.{State, next}
use Rattle.module.specs.Machine.{module_device}

-- after so many ticks more
abbrev pub run_for : (cycle : ℕ) → ℕ → State (module_device cycle) → State (module_device cycle)
run_for cycle zero s = s
run_for cycle (suc ticks) s = next (module_device cycle) (run_for cycle ticks s) tick
