-- The lines of a file.
use Rattle.std.specs.Prelude.{ℕ, Bool, false, ◌&&◌, List, [], ◌∷◌, ◌++◌, length, map, ◌==◌}
use Rattle.std.specs.Option.{option_to_list}
use Rattle.lines.specs.Lines.{Kept, kept, kept_of, ended, going}
use Rattle.sheet.specs.declared.entry.Entry.{Entry}

-- the lines that have ended, and the unfinished one
pub record Gathered : Type 0 where
  pub lines : List Kept
  pub held : Kept

abbrev pub nothing : Gathered
nothing = record { lines = []; held = kept_of [] }

-- after one byte more, undamaged
abbrev pub onward : Gathered → ℕ → Gathered
onward g b = record { lines = g.lines ++ option_to_list (ended g.held (b, false)); held = going g.held (b, false) }

abbrev pub gathered : Gathered → List ℕ → Gathered
gathered g [] = g
gathered g (b ∷ bs) = gathered (onward g b) bs

-- no line of the file has ended, and no character is held
abbrev pub is_empty : List ℕ → Bool
is_empty bs = length (gathered nothing bs).lines == 0 && length (gathered nothing bs).held.characters == 0

-- the lines of the entries
abbrev pub lines_of : List Entry → List Kept
lines_of es = map (λ e. kept e.line) es
