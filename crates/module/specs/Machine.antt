-- The module as a machine of the law of histories.
use Rattle.std.specs.Prelude.{ℕ, [], Some, None, Option}
use Rattle.faults.specs.declared.Fault.{Fault}
use Rattle.lines.specs.Lines.{Kept, kept_of, taken}
use Rattle.questions.specs.Questions.{fault_text}
use Rattle.control.specs.States.{is_busy}
use Rattle.law.specs.Device.{Device}
use Rattle.law.specs.Machine.{Machine, device}
use Rattle.module.specs.States.{ModuleState, effects_of, step_of, ticked_state, levelled_state, restarted_state}
use Rattle.module.specs.Lines.{judged_line, line_outcome}
use Rattle.module.specs.Counter.{counter_set, entered_next, zeroing}

-- the fault that ends a run is kept
abbrev pub fault_kept : Option Fault → Option (Option Fault)
fault_kept None = None
fault_kept (Some f) = Some (Some f)

abbrev pub machine : ℕ → Machine
machine cycle = record {
  Rest = ModuleState;
  Fault = Option Fault;
  no_fault = None;
  Line = Kept;
  empty = kept_of [];
  push = taken;
  address = λ r. r.control.address;
  outcome = line_outcome cycle;
  fault_text = λ r f. fault_text r.control.address f;
  tick = λ r. (ticked_state r, step_of (effects_of r) r.axis, is_busy (ticked_state r).control.activity, fault_kept (effects_of r).fault);
  set_levels = levelled_state;
  restart = restarted_state;
  counter = λ r. r.axis.counter;
  place = λ r. r.axis.place;
  sets = λ r k. counter_set (judged_line r k);
  zeroes = λ r. zeroing (entered_next r);
}

-- the device of an output with this cycle
abbrev pub module_device : ℕ → Device
module_device cycle = device (machine cycle)
