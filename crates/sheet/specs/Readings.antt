-- What has been gathered of a file that is read, and what a sheet tells of it.
use Rattle.std.specs.Prelude.{◌≡◌, ℕ, vec_items}
use Rattle.lines.specs.Lines.{kept}
use Rattle.history.specs.Hosts.{state_of}
use Rattle.sheet.specs.declared.reading.Reading.{Reading}
use Rattle.sheet.specs.declared.reading.Notes.{Notes}
use Rattle.sheet.specs.declared.sheet.Sheet.{Sheet}
use Rattle.sheet.specs.Steps.{shelf_of}
use Rattle.sheet.specs.Files.{Gathered, lines_of}
use Rattle.sheet.specs.Exchanges.{Sent, exchanges_of}

module _ {O : Type 0} where
  abbrev pub progress : (cycle : ℕ) → Reading O → Sent cycle
  progress cycle d = record { exchanges = exchanges_of (vec_items d.notes.entries); state = state_of cycle d.host }

abbrev pub told : Sheet → Gathered
told s = record { lines = lines_of (vec_items s.entries); held = kept s.held }

-- the shelf is that of the lines so far
abbrev pub UpToDate : Notes → Type 0
UpToDate n = vec_items n.shelf ≡ shelf_of n.address (vec_items n.entries)
