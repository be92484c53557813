-- What is told of a module at one time.
use Rattle.std.specs.Prelude.{◌≡◌, ℕ}
use Rattle.control.specs.States.{state}
use Rattle.law.specs.History.{State}
use Rattle.module.specs.Machine.{module_device}
use Rattle.scripts.specs.declared.snapshot.Snapshot.{Snapshot}

-- a snapshot of a module in this state; what the output shows besides its place and its power stands open
pub record IsSnapshot (cycle : ℕ) (s : State (module_device cycle)) (shot : Snapshot) : Type 0 where
  pub control : state shot.control ≡ s.core.rest.control
  pub fault : shot.fault ≡ s.core.fault
  pub counter : shot.counter ≡ s.core.rest.axis.counter
  pub place : shot.place ≡ s.core.rest.axis.place
  pub power : shot.power ≡ s.core.rest.axis.power
