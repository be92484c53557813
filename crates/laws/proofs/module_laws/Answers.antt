use Rattle.laws.proofs.Answered.{answers_by_address, keeps_faults}
use Rattle.laws.proofs.WhileBusy.{busy_takes}
use Rattle.laws.proofs.Called.{runs_only_when_called, runs_the_called, run_stays}
use Rattle.laws.proofs.Ended.{outputs_at_the_end}
use Rattle.laws.proofs.Powered.{power_while_moving, no_step_refused}
use Rattle.laws.proofs.Done.{accepted_is_done, only_orders_set}
use Rattle.laws.proofs.Stored.{tells_what_was_stored}
use Rattle.laws.proofs.module_laws.Goals as goal

pub returns : goal.returns
returns c = record {
  called = runs_only_when_called;
  begins = runs_the_called;
  stays = run_stays;
  busy = busy_takes;
  answers = answers_by_address;
  faults = keeps_faults;
  stored = tells_what_was_stored;
  done = accepted_is_done;
  only = only_orders_set;
  outputs = outputs_at_the_end;
  power = power_while_moving c.run_laws.ensures.power;
  steps = no_step_refused c.run_laws.ensures.power;
}
