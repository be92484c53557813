use Rattle.laws.proofs.DirectMovements.{leads_as_ordered}
use Rattle.laws.proofs.Entering.{enters_by_nature, moves_by_nature, agrees_bit_by_bit}
use Rattle.laws.proofs.entering_laws.Goals as goal

pub returns : goal.returns
returns c = record { enters = enters_by_nature; moves = moves_by_nature; directly = leads_as_ordered; inputs = agrees_bit_by_bit }
