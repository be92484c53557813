-- What a run reads.
use Rattle.std.specs.Prelude.{ℕ, List, ℤ}
use Rattle.phases.specs.declared.phase.Phase.{Phase}
use Rattle.store.specs.declared.directory.Block.{Block}
use Rattle.store.specs.Directories.{sequences}
use Rattle.motion.specs.Values.{Values, values}
use Rattle.engine.specs.declared.surroundings.Surroundings.{Surroundings}

-- the sequences, the phases and the parameters do not change while the module is busy
pub record Program : Type 0 where
  pub blocks : List Block
  pub records : List Phase
  pub values : Values

-- the counter and the levels of a tick
pub record Moment : Type 0 where
  pub counter : ℤ
  pub levels : ℕ

abbrev pub program : Surroundings → Program
program s = record { blocks = sequences s.directory.now; records = s.records.now; values = values s.parameters }

abbrev pub moment : Surroundings → Moment
moment s = record { counter = s.counter; levels = s.levels }
