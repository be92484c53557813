use Rattle.store.proofs.Kept.{keeps, tells, changes, reads_written, examples}
use Rattle.store.proofs.laws.store_laws.Goals as goal

pub returns : goal.returns
returns c = record { keeps = keeps; tells = tells; changes = changes; written = reads_written; examples = examples }
