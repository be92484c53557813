-- What a sheet tells of a file that was sent.
use Rattle.std.specs.Prelude.{◌≡◌, ℕ, List, map, replicate, vec_items}
use Rattle.lines.specs.Lines.{kept}
use Rattle.phases.specs.Phases.{blank}
use Rattle.store.specs.declared.directory.Block.{Block}
use Rattle.outputs.specs.Meaning.{Meaning}
use Rattle.history.specs.Histories.{started}
use Rattle.runs.specs.Runs.{busy_in, RunInTurn}
use Rattle.sheet.specs.declared.sheet.Sheet.{Sheet}
use Rattle.sheet.specs.Exchanges.{Sent, fresh, bytes_sent, exchanges_of}
use Rattle.sheet.specs.ReadBack.{Compared, after_shelf, settled}
use Rattle.sheet.specs.Steps.{whole_shelf}

abbrev pub numbers_in : List Block → List ℕ
numbers_in bs = map (λ b. b.number) bs

-- Each line became what the module made of it, with its reply; the unfinished line is the module's; the module is told as busy where it
-- is; the phases that the lines mean are held against what the module reads back; then each of its sequences is run once.
pub record Tells (cycle : ℕ) (a : ℕ) (t : Sent cycle) (s : Sheet) : Type 0 where
  pub exchanges : exchanges_of (vec_items s.entries) ≡ t.exchanges
  pub held : kept s.held ≡ t.state.line
  pub busy : s.busy ≡ busy_in cycle t.state
  pub shelf : Compared cycle (settled cycle a t.state) (whole_shelf a s) (vec_items s.shelf)
  pub runs : RunInTurn cycle (after_shelf cycle (settled cycle a t.state) (whole_shelf a s)) (numbers_in t.state.core.rest.control.blocks) (vec_items s.runs)

-- a file sent to a new module of the address, over an output of this meaning
abbrev pub file_sent : (cycle : ℕ) → ℕ → Meaning → List ℕ → Sent cycle
file_sent cycle a m bytes = bytes_sent cycle (fresh cycle (started cycle a m (replicate 414 blank))) bytes
