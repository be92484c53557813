use Rattle.std.proofs.Common.{◌*◌, None, refl, arith, rules}
use Rattle.motion.specs.Motions.{Motion, at_start, plateau_of}
use Rattle.motion.specs.Values.{values}
use Rattle.motion.specs.Laws.{Valid}
use Rattle.motion.proofs.Steps.{makes_its_steps}
use Rattle.motion.proofs.Bounds.{speed_at_most_of}
use Rattle.motion.proofs.movement.Movement.new.Goals as goal

pub returns : goal.returns
returns c =
    let begins : Motion = at_start (values c.args.parameters) None c.args.distance.direction c.args.distance.steps c.args.constant in
    let m : Motion = record begins { start = c.start_speed-start.result; plateau = c.max.result; top = 40 * c.from.result } in
    let f : Valid m = record {
      goes = omega arith;
      below = omega arith;
      ramps = omega arith;
      limits = record { least = omega arith; order = omega arith; most = omega arith; shortest = omega arith };
    } in
    let w = makes_its_steps m f refl in
    record {
      begun = search rules;
      makes = w.0;
      ends = w.1;
      plateau = speed_at_most_of m f (plateau_of (values c.args.parameters) c.args.speed) (search rules);
    }
