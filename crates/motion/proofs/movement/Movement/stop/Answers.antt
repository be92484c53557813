use Rattle.std.proofs.Common.{arith}
use Rattle.motion.specs.Motions.{motion}
use Rattle.motion.proofs.Steps.{valid}
use Rattle.motion.proofs.Stops.{slowing_ends, slowing_steps}
use Rattle.motion.proofs.movement.Movement.stop.Goals as goal

pub returns-clause-ends : goal.returns-clause-ends
returns-clause-ends c = slowing_ends (motion c.args.self) (valid c.args.self) c.args.self.top (omega arith) (omega arith)

pub returns-clause-steps : goal.returns-clause-steps
returns-clause-steps c = slowing_steps (motion c.args.self) (valid c.args.self)
