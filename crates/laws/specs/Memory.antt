-- The phase memory over whole histories: what is stored is what the accepted SN, SE and SP lines say.
use Rattle.std.specs.Prelude.{◌≡◌, ℕ, ◌≤◌, true, false, List, [], ◌∷◌, ◌++◌, map, Some, None, Ok, Err, codes, Option, Result}
use Rattle.std.specs.List.{AllByRecursion}
use Rattle.std.specs.Option.{option_to_list}
use Rattle.faults.specs.declared.Fault.{Fault}
use Rattle.lines.specs.Characters.{Character}
use Rattle.lines.specs.Lines.{Kept, kept_of}
use Rattle.replies.specs.Replies.{digits_of}
use Rattle.phases.specs.declared.phase.Phase.{Phase}
use Rattle.phases.specs.declared.phase.Position.{Position}
use Rattle.phases.specs.Phases.{Written}
use Rattle.store.specs.Stores.{Store}
use Rattle.store.specs.Keeps.{Command as Stored, SN, SE, SP, Fit, Spares, run}
use Rattle.fields.specs.Values.{block_values, erase_value, sp_values}
use Rattle.texts.specs.Texts.{phase_text, rs_text}
use Rattle.texts.specs.ReadBack.{Bytes}
use Rattle.orders.specs.declared.command.Command.{Command}
use Rattle.orders.specs.declared.command.Command.TheVariants.{Create, Erase, Write}
use Rattle.orders.specs.declared.order.Order.{Order}
use Rattle.orders.specs.declared.order.Order.TheVariants.{ReadPhase}
use Rattle.orders.specs.declared.order.Judgement.{Judgement}
use Rattle.orders.specs.declared.order.Judgement.TheVariants.{Own, Broadcast, Stranger}
use Rattle.orders.specs.Reading.{command_after}
use Rattle.orders.specs.Values.{read_phase}
use Rattle.control.specs.States.{store_of, is_busy}
use Rattle.law.specs.Events.{Event}
use Rattle.law.specs.Events.Event.{ending}
use Rattle.law.specs.Events.Answer.{reply}
use Rattle.law.specs.History.{State, next, answer, after}
use Rattle.module.specs.Lines.{judged_line}
use Rattle.module.specs.Machine.{module_device}

-- the sequences and the records of a module
abbrev pub store_in : (cycle : ℕ) → State (module_device cycle) → Store
store_in cycle s = store_of s.core.rest.control s.core.rest.records

-- a command of the store, where its values are within their limits
abbrev pub with_values : {A : Type 0} → Result A Fault → (A → Stored) → Option Stored
with_values (Ok x) make = Some (make x)
with_values (Err f) make = None

-- SN, SE and SP are commands of the store, and no other command is
abbrev pub to_store : Command → Option Stored
to_store (Create a) = with_values (block_values a) (λ b. SN b.number b.reserve)
to_store (Erase n) = with_values (erase_value n) SE
to_store (Write p) = with_values (sp_values p) (λ a. SP a.0.sequence a.0.phase a.1)
to_store _ = None

-- the command of the store that a line gives, where it is accepted
abbrev pub given_by : Result Order Fault → Result Command Fault → Option Stored
given_by (Ok o) (Ok c) = to_store c
given_by _ _ = None

abbrev pub given_in : Judgement → Kept → Option Stored
given_in (Own r) k = given_by r (command_after 2 false k)
given_in (Broadcast r) k = given_by r (command_after 0 true k)
given_in Stranger k = None

abbrev pub given : (cycle : ℕ) → State (module_device cycle) → Option Stored
given cycle s = given_in (judged_line s.core.rest s.line) s.line

-- the same at a call: a line gives it at its end
abbrev pub stored_at : (cycle : ℕ) → State (module_device cycle) → Event → List Stored
stored_at cycle s ending = option_to_list (given cycle s)
stored_at cycle s _ = []

-- the accepted SN, SE and SP lines of a history, in order
abbrev pub stored_lines : (cycle : ℕ) → State (module_device cycle) → List Event → List Stored
stored_lines cycle s [] = []
stored_lines cycle s (e ∷ h) = stored_at cycle s e ++ stored_lines cycle (next (module_device cycle) s e) h

-- the sequences and the records at the end of a history are what these lines make of those at its beginning; nothing else changes them
abbrev pub StoresAcceptedLines : Type 0
StoresAcceptedLines =
    (cycle : ℕ) (s : State (module_device cycle)) (h : List Event) →
    store_in cycle (after (module_device cycle) s h) ≡ run (stored_lines cycle s h) (store_in cycle s)

-- the numbers of the sequences stay apart, and what is reserved within the 414 records, as with a new module
abbrev pub StaysFit : Type 0
StaysFit = (cycle : ℕ) (s : State (module_device cycle)) (h : List Event) → Fit (store_in cycle s) → Fit (store_in cycle (after (module_device cycle) s h))

-- once an SP line is accepted, an RS line tells the text of its phase at any later time, as long as no line is accepted that names its sequence, or all
abbrev pub TellsStoredPhase : Type 0
TellsStoredPhase =
    (cycle : ℕ) (s : State (module_device cycle)) (h : List Event) (at : Position) (p found : Phase) → Fit (store_in cycle s) →
    given cycle s ≡ Some (SP at.sequence at.phase p) →
    let first = next (module_device cycle) s ending in
    let later = after (module_device cycle) first h in
    AllByRecursion (Spares at.sequence) (stored_lines cycle first h) →
    judged_line later.core.rest later.line ≡ Own (Ok (ReadPhase at found)) →
    answer (module_device cycle) later ending ≡ reply (rs_text later.core.rest.control.address at.sequence at.phase p)

-- the line that stores again what RS tells of a written phase: the address, SP, and the text, with no character damaged
abbrev pub sp_line : ℕ → Position → Phase → List Character
sp_line address at p = map (λ b. (b, false)) (digits_of 2 address ++ (codes "SP " ++ phase_text at.sequence at.phase p))

-- at rest it is accepted and leaves every sequence and every record as it is
abbrev pub StoresItAgain : Type 0
StoresItAgain =
    (cycle : ℕ) (s : State (module_device cycle)) (at : Position) (p : Phase) → s.core.rest.control.address ≤ 63 → is_busy s.core.rest.control.activity ≡ false →
    (1 ≤ at.sequence) × (at.sequence ≤ 99) → (1 ≤ at.phase) × (at.phase ≤ 50) →
    read_phase (store_in cycle s) at ≡ Ok (ReadPhase at p) → Written p ≡ true → Bytes p →
    s.line ≡ kept_of (sp_line s.core.rest.control.address at p) →
    (answer (module_device cycle) s ending ≡ reply (0x06 ∷ 0x11 ∷ []))
    × (store_in cycle (next (module_device cycle) s ending) ≡ store_in cycle s)
