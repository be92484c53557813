use Rattle.std.proofs.Common.{rules}
use Rattle.control.specs.Obeyed.{moves_to}
use Rattle.control.proofs.control.Control.start_movement.Goals as goal

pub returns : goal.returns
unfolding moves_to
returns c = search rules
