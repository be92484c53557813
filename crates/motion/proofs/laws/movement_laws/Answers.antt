use Rattle.std.proofs.Common.{refl}
use Rattle.motion.proofs.Steps.{valid, makes_its_steps, at_least_start_speed}
use Rattle.motion.proofs.Bounds.{makes_no_more, at_most_plateau, constant_at_most_start, between_steps}
use Rattle.motion.proofs.Stops.{slow_stop_ends}
use Rattle.motion.proofs.laws.movement_laws.Goals as goal

pub returns : goal.returns
returns c = record {
  valid = valid;
  makes = makes_its_steps;
  least = at_least_start_speed;
  more = makes_no_more;
  plateau = at_most_plateau;
  constant = constant_at_most_start;
  between = between_steps;
  stops = slow_stop_ends;
  examples = λ x. (refl, refl, refl, refl, refl, refl, refl, refl);
}
