-- The row state: which commands a busy module takes.
use Rattle.std.specs.Prelude.{Bool, true, false, cond, not, ◌&&◌, Ok, Err, Result}
use Rattle.faults.specs.declared.Fault.{Fault}
use Rattle.faults.specs.Faults.{is_busy}
use Rattle.orders.specs.declared.command.Command.{Command}
use Rattle.orders.specs.declared.command.Command.TheVariants.{SlowStop, PowerOn, PowerOff, SetOutputs, Restart, ReadParameters, ReadPosition, ReadVersion, ReadFault}

-- taken when busy: GE, GM, GR, GL, MR and the questions but for RS
abbrev pub when_busy : Command → Bool
when_busy SlowStop = true
when_busy PowerOn = true
when_busy PowerOff = true
when_busy (SetOutputs n) = true
when_busy Restart = true
when_busy ReadParameters = true
when_busy ReadPosition = true
when_busy ReadVersion = true
when_busy ReadFault = true
when_busy _ = false

-- 7: busy, and the command is not taken then
abbrev pub state_row : Bool → Command → Result (Unit {0}) Fault
state_row busy c = cond (busy && not (when_busy c)) (Err is_busy) (Ok tt)
