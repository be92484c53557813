-- What a line of the file does to the shelf.
use Rattle.std.specs.Prelude.{ℕ, List, [], cond, drop, codes, Some, None, Ok, Err, Option, Result, fold, vec_items}
use Rattle.std.specs.Option.{option_and_then, option_map}
use Rattle.faults.specs.declared.Fault.{Fault}
use Rattle.lines.specs.declared.line.Line.{Line}
use Rattle.lines.specs.declared.line.Addressee.{Addressee}
use Rattle.lines.specs.declared.line.Addressee.TheVariants.{Own, Broadcast, Stranger}
use Rattle.lines.specs.Lines.{Kept, kept, addressee_in}
use Rattle.words.specs.Words.{Ahead, words, upcoming, past}
use Rattle.words.specs.Tags.{is_tag}
use Rattle.words.specs.Readings.{unsigned}
use Rattle.orders.specs.declared.intention.Intention.{Intention}
use Rattle.orders.specs.declared.intention.Intention.TheVariants.{Erase, Write}
use Rattle.orders.specs.Intentions.{intended}
use Rattle.sheet.specs.declared.entry.Entry.{Entry}
use Rattle.sheet.specs.declared.sheet.Sheet.{Sheet}
use Rattle.sheet.specs.declared.shelf.IntendedPhase.{IntendedPhase}
use Rattle.sheet.specs.declared.shelf.Step.{Step}
use Rattle.sheet.specs.declared.shelf.Step.TheVariants.{Put, TakeOff}
use Rattle.sheet.specs.Shelves.{number_to, stepped}

-- what a line says after its address; a stranger's says nothing
abbrev pub text_to : Addressee → Kept → Option (List ℕ)
text_to Own k = Some (drop 2 k.characters)
text_to Broadcast k = Some (drop 0 k.characters)
text_to Stranger k = None

abbrev pub text_in : ℕ → Kept → Option (List ℕ)
text_in a k = text_to (addressee_in a k) k

-- the phase that the words after the command name; a number that none can have is none
abbrev pub named_by : Line → Ahead → IntendedPhase
named_by l s = record { line = l; sequence = number_to 99 (unsigned s); phase = number_to 50 (unsigned (past s)); «record» = None }

-- the phase that a text means to store, where its first word is SP
abbrev pub phase_named : Line → List ℕ → Option IntendedPhase
phase_named l t = cond (is_tag (codes "SP") (upcoming (words t, 1))) (Some (named_by l (past (words t, 1)))) None

abbrev pub refused_phase : ℕ → Line → Option IntendedPhase
refused_phase a l = option_and_then (phase_named l) (text_in a (kept l))

-- an SP line puts its phase on the shelf, also where it is refused; SE takes a sequence off; the other lines do nothing
abbrev pub step_by : ℕ → Line → Option (Result (Option Intention) Fault) → Option Step
step_by a l (Some (Ok (Some (Erase n)))) = Some (TakeOff n)
step_by a l (Some (Ok (Some (Write at p)))) = Some (Put (record { line = l; sequence = Some at.sequence; phase = Some at.phase; «record» = Some p }))
step_by a l (Some (Err f)) = option_map Put (refused_phase a l)
step_by a l _ = None

abbrev pub step_of : ℕ → Line → Option Step
step_of a l = step_by a l (intended a (kept l))

-- the shelf of these lines, the first line first
abbrev pub shelf_of : ℕ → List Entry → List IntendedPhase
shelf_of a es = fold (λ ms e. stepped (step_of a e.line) ms) [] es

-- the shelf of a sheet's lines, where the unfinished one counts too
abbrev pub whole_shelf : ℕ → Sheet → List IntendedPhase
whole_shelf a s = stepped (step_of a s.held) (shelf_of a (vec_items s.entries))
