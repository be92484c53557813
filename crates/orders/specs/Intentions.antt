-- What a line means to store, whatever the module's state: the rows receiver, reader and values.
use Rattle.std.specs.Prelude.{ℕ, false, true, Some, None, Ok, Option, Result}
use Rattle.faults.specs.declared.Fault.{Fault}
use Rattle.faults.specs.Faults.{and_then}
use Rattle.lines.specs.declared.line.Addressee.{Addressee}
use Rattle.lines.specs.declared.line.Addressee.TheVariants as to
use Rattle.lines.specs.Lines.{Kept, addressee_in}
use Rattle.fields.specs.Values.{erase_value, sp_values}
use Rattle.orders.specs.declared.command.Command.{Command}
use Rattle.orders.specs.declared.command.Command.TheVariants.{Erase, Write}
use Rattle.orders.specs.declared.intention.Intention.{Intention}
use Rattle.orders.specs.declared.intention.Intention.TheVariants as i
use Rattle.orders.specs.Reading.{command_after}

-- SP means to write a phase, SE to erase; no other command means to store or to erase a phase
abbrev pub intention_of : Command → Result (Option Intention) Fault
intention_of (Write p) = and_then (sp_values p) (λ a. Ok (Some (i.Write a.0 a.1)))
intention_of (Erase n) = and_then (erase_value n) (λ m. Ok (Some (i.Erase m)))
intention_of _ = Ok None

-- none of a stranger's line
abbrev pub intended_by : Addressee → Kept → Option (Result (Option Intention) Fault)
intended_by to.Own k = Some (and_then (command_after 2 false k) intention_of)
intended_by to.Broadcast k = Some (and_then (command_after 0 true k) intention_of)
intended_by to.Stranger k = None

abbrev pub intended : ℕ → Kept → Option (Result (Option Intention) Fault)
intended address k = intended_by (addressee_in address k) k
