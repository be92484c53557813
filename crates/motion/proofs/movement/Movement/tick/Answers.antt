use Rattle.std.proofs.Common.{rules}
use Rattle.motion.specs.Motions.{motion}
use Rattle.motion.proofs.Steps.{valid}
use Rattle.motion.proofs.Bounds.{tick_bounds}
use Rattle.motion.proofs.movement.Movement.tick.Goals as goal

pub returns-then-self-lt-TICKS_PER_SECOND-clause-bounds : goal.returns-then-self-lt-TICKS_PER_SECOND-clause-bounds
returns-then-self-lt-TICKS_PER_SECOND-clause-bounds c = tick_bounds (motion c.args.self) (valid c.args.self) _ _ (search rules) (search rules)

pub returns-then-self-eq1-clause-bounds : goal.returns-then-self-eq1-clause-bounds
returns-then-self-eq1-clause-bounds c = tick_bounds (motion c.args.self) (valid c.args.self) _ _ (search rules) (search rules)

pub returns-clause-bounds : goal.returns-clause-bounds
returns-clause-bounds c = tick_bounds (motion c.args.self) (valid c.args.self) _ _ (search rules) (search rules)
