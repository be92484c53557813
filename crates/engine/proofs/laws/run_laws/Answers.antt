use Rattle.engine.proofs.Sequences.{stays_in_sequences}
use Rattle.engine.proofs.Readings.{runs_only_written}
use Rattle.engine.proofs.Powers.{steps_with_power}
use Rattle.engine.proofs.Stops.{stops_after_ge}
use Rattle.engine.proofs.Waits.{waits_its_time}
use Rattle.engine.proofs.laws.run_laws.Goals as goal

pub returns : goal.returns
returns c = record {
  within = stays_in_sequences;
  written = runs_only_written;
  power = steps_with_power;
  stops = stops_after_ge;
  waits = waits_its_time;
}
