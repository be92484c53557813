-- The phase memory: the sequences in order of creation, and the records.
use Rattle.std.specs.Prelude.{List}
use Rattle.phases.specs.declared.phase.Phase.{Phase}
use Rattle.store.specs.declared.directory.Block.{Block}
use Rattle.store.specs.declared.store.Store.{Store as Lent}
use Rattle.store.specs.Directories.{sequences}

pub record Store : Type 0 where
  pub blocks : List Block
  pub records : List Phase

-- what is lent of it
abbrev pub store : Lent → Store
store s = record { blocks = sequences s.directory.now; records = s.records.now }
