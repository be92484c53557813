-- The law of histories, from a module made new.
use Rattle.std.proofs.Common.{ℕ, ◌<◌, List, refl}
use Rattle.phases.specs.declared.phase.Phase.{Phase}
use Rattle.outputs.specs.Meaning.{Meaning}
use Rattle.law.specs.Events.{Event}
use Rattle.law.specs.Law.{Law}
use Rattle.law.proofs.Histories.{histories_lawful}
use Rattle.law.proofs.Machines.{lawful as device-lawful}
use Rattle.module.specs.Machine.{machine, module_device}
use Rattle.history.specs.Histories.{begun}
use Rattle.module.proofs.Device.{Sound, lawful, zero_fits}

pub module_law : (cycle address : ℕ) (m : Meaning) (records : List Phase) (h : List Event) → m.place < 16777216 → Law (module_device cycle) (begun cycle address m records) h
module_law cycle address m records h small =
    histories_lawful (module_device cycle) (λ c. Sound c.rest) (device-lawful (machine cycle) (lawful cycle)) (begun cycle address m records) (record { counter_fits = zero_fits; place_small = small }) refl h
