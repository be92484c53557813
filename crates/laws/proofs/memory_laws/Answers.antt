use Rattle.laws.proofs.Again.{stores_it_again}
use Rattle.laws.proofs.Memory.{stores_accepted_lines}
use Rattle.laws.proofs.Tells.{stays_fit, tells_stored_phase}
use Rattle.laws.proofs.memory_laws.Goals as goal

pub returns : goal.returns
returns c = record { stores = stores_accepted_lines; fits = stays_fit; tells = tells_stored_phase; again = stores_it_again }
