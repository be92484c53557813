-- A phase that is written reads back.
use Rattle.std.specs.Prelude.{◌≡◌, ℕ, ◌≤◌, true, List, IfSome, Ok, codes, Option, Result}
use Rattle.faults.specs.Faults.{and_then}
use Rattle.faults.specs.declared.Fault.{Fault}
use Rattle.words.specs.Words.{words}
use Rattle.phases.specs.declared.phase.Phase.{Phase}
use Rattle.phases.specs.declared.phase.Position.{Position}
use Rattle.fields.specs.Fields.{sp_form}
use Rattle.phases.specs.Phases.{Written}
use Rattle.texts.specs.Texts.{phase_text}
use Rattle.fields.specs.Values.{sp_values}

-- what SP takes from the text after its name: the form of each word first, then the values
abbrev pub sp_taken : List ℕ → Result (Position × Phase) Fault
sp_taken t = and_then (sp_form (words t, 2)) sp_values

-- the eight inputs and the eight outputs of a record are bytes
abbrev pub ByteOrNone : Option ℕ → Type 0
ByteOrNone o = IfSome o (λ n. n ≤ 255)

abbrev pub Bytes : Phase → Type 0
Bytes p = (p.inputs.named ≤ 255) × ByteOrNone p.outputs

-- SP takes back the text of the phase at a position, if it is written
abbrev pub TakenBack : Position → Phase → Type 0
TakenBack at p =
    (1 ≤ at.sequence) × (at.sequence ≤ 99) → (1 ≤ at.phase) × (at.phase ≤ 50) → Written p ≡ true →
    sp_taken (phase_text at.sequence at.phase p) ≡ Ok (at, p)

-- SP takes back what RS tells of each phase
abbrev pub ReadsBack : Type 0
ReadsBack = (at : Position) (p : Phase) → Bytes p → TakenBack at p

-- what SP takes counts as written
abbrev pub TakesWritten : Type 0
TakesWritten = (t : List ℕ) (at : Position) (p : Phase) → sp_taken t ≡ Ok (at, p) → Written p ≡ true

-- the text that RS tells of what SP took
abbrev pub phase_text_again : Result (Position × Phase) Fault → Result (List ℕ) Fault
phase_text_again r = and_then r (λ t. Ok (phase_text t.0.sequence t.0.phase t.1))

abbrev pub Example : Type 0
Example = phase_text_again (sp_taken (codes "2 3 S+ NP C150 NS 5")) ≡ Ok (codes "02 03 S+ NP C+0000150 NL XX NE XXXXXXXX NS 05 NO XX")
