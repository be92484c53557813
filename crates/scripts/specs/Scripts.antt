-- A script that is being played: the module that is gathered, if one is.
use Rattle.std.specs.Prelude.{◌≡◌, ℕ, true, List, [], ◌∷◌, ◌++◌, length, Some, None, Ok, Err, Option, Result}
use Rattle.programs.specs.declared.output.Output.{Output}
use Rattle.scripts.specs.declared.line_error.LineError.{LineError}
use Rattle.scripts.specs.declared.line_error.LineError.TheVariants.{Expected, NoMemory}
use Rattle.scripts.specs.declared.section.Section.{Section}
use Rattle.scripts.specs.Asked.{Asked}
use Rattle.scripts.specs.Asked.Asked.{begins}
use Rattle.scripts.specs.Playbacks.{end_told}
use Rattle.scripts.specs.Playing.{Going, begun, line_done, goes_on}
use Rattle.scripts.specs.Playing.Going.{nothing, going}
use Rattle.scripts.specs.Sections.{IsWhole, after_all, section_told}
use Rattle.scripts.specs.Told.{Told, Adds}
use Rattle.scripts.specs.Told.Told.{line as told_line}

abbrev pub going_of : Option Section → Going
going_of None = nothing
going_of (Some s) = going s.output (length s.calls.items) (after_all s)

-- what is gathered and not yet told
abbrev pub pending : Option Section → List Told
pending None = []
pending (Some s) = section_told s

abbrev pub IsSound : Option Section → Type 0
IsSound None = Unit {0}
IsSound (Some s) = IsWhole s

-- what is told of a module that is gathered, with its end block if the script ends it
abbrev pub all_told : Option Section → List Told
all_told None = []
all_told (Some s) = section_told s ++ end_told true s

-- a `module` line
pub record Begins (line : List ℕ) (output : Output) (address : ℕ) (old new : Option Section) (before after : List ℕ) : Type 0 where
  pub going : going_of new ≡ (begun output address).0
  pub told : pending new ≡ []
  pub sound : IsSound new
  pub transcript : Adds (all_told old ++ told_line line ∷ (begun output address).1) before after

-- a line that the module goes on with, if there is one: what is told with it is still to be told
abbrev pub GoesOn : List ℕ → Asked → Option Section → Option Section → Result (Unit {0}) LineError → Type 0
GoesOn l a old new (Ok u) = (told : List Told) × (goes_on l a (going_of old) ≡ Ok (going_of new, told)) × (pending new ≡ pending old ++ told) × IsSound new
GoesOn l a old new (Err (Expected e)) = (goes_on l a (going_of old) ≡ Err e) × (new ≡ old)
GoesOn l a old new (Err NoMemory) = Unit {0}

-- a line: what is told up to it is what is told now and what is still to be told
abbrev pub LineTaken : List ℕ → Option Section → Option Section → List ℕ → List ℕ → Result (Unit {0}) LineError → Type 0
LineTaken l old new before after (Ok u) = (told : List Told) × (now : List Told) × (line_done l (going_of old) ≡ Ok (going_of new, told)) × (pending old ++ told ≡ now ++ pending new) × Adds now before after × IsSound new
LineTaken l old new before after (Err (Expected e)) = (line_done l (going_of old) ≡ Err e) × (new ≡ old) × (after ≡ before)
LineTaken l old new before after (Err NoMemory) = Unit {0}

-- a line that begins no module
abbrev pub GoesOnly : Asked → Type 0
GoesOnly (begins output address) = ⊥
GoesOnly a = Unit {0}
