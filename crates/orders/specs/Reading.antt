-- The command that the words of a line say. The leftmost word of wrong form, missing or surplus is at fault.
use Rattle.std.specs.Prelude.{ℕ, Bool, true, false, cond, ◌&&◌, List, ℤ, Some, None, Ok, Err, Option, Result}
use Rattle.std.specs.Option.{ok_or}
use Rattle.faults.specs.declared.Fault.{Fault}
use Rattle.faults.specs.Faults.{and_then, wrong_form, unknown_command}
use Rattle.lines.specs.Lines.{Kept, text_in}
use Rattle.words.specs.Words.{Ahead, words, upcoming, past}
use Rattle.words.specs.Readings.{alone as only, only_unsigned, only_signed, only_hexadecimal}
use Rattle.fields.specs.declared.fields.RawPosition.{RawPosition}
use Rattle.fields.specs.declared.fields.RawPhase.{RawPhase}
use Rattle.fields.specs.Fields.{position_in, sp_form}
use Rattle.orders.specs.declared.command.Command.{Command}
use Rattle.orders.specs.declared.command.Command.TheVariants as c
use Rattle.orders.specs.declared.names.Name.{Name}
use Rattle.orders.specs.declared.names.Name.TheVariants.{StartSpeed, PlateauSpeed, Slope, Distance, Forward, Back, ZeroCounter, SetCounter, Move, MoveToOrigin, MoveTo, SlowStop, PowerOn, PowerOff, SetOutputs, Create, Erase, Choose, Start, Write, ReadPhase, Restart, ReadParameters, ReadPosition, ReadVersion, ReadFault}
use Rattle.orders.specs.Names.{name_of}

abbrev pub name_in : Option (List ℕ) → Option Name
name_in None = None
name_in (Some w) = name_of w

abbrev pub known : Ahead → Result Name Fault
known s = ok_or (name_in (upcoming s)) unknown_command

-- the questions
abbrev pub is_question : Name → Bool
is_question ReadPhase = true
is_question ReadParameters = true
is_question ReadPosition = true
is_question ReadVersion = true
is_question ReadFault = true
is_question _ = false

-- a question as broadcast
abbrev pub asked : Bool → Name → Result Name Fault
asked broadcast n = cond (broadcast && is_question n) (Err (wrong_form 1)) (Ok n)

-- the words after a command: none, a number, a number with a sign, a hexadecimal number, two numbers, a phase
abbrev pub alone : Command → Ahead → Result Command Fault
alone c s = only (Ok c) s

abbrev pub number : (ℕ → Command) → Ahead → Result Command Fault
number make s = and_then (only_unsigned s) (λ n. Ok (make n))

abbrev pub with_sign : (ℤ → Command) → Ahead → Result Command Fault
with_sign make s = and_then (only_signed s) (λ n. Ok (make n))

abbrev pub pattern : (ℕ → Command) → Ahead → Result Command Fault
pattern make s = and_then (only_hexadecimal s) (λ n. Ok (make n))

abbrev pub raw_position : Ahead → Result RawPosition Fault
raw_position s = only (position_in s) (past (past s))

abbrev pub numbers : (RawPosition → Command) → Ahead → Result Command Fault
numbers make s = and_then (raw_position s) (λ a. Ok (make a))

abbrev pub phase : (RawPhase → Command) → Ahead → Result Command Fault
phase make s = and_then (sp_form s) (λ p. Ok (make p))

-- the words of each command
abbrev pub arguments : Name → Ahead → Result Command Fault
arguments StartSpeed = number c.StartSpeed
arguments PlateauSpeed = number c.PlateauSpeed
arguments Slope = number c.Slope
arguments Distance = number c.Distance
arguments Forward = alone c.Forward
arguments Back = alone c.Back
arguments ZeroCounter = alone c.ZeroCounter
arguments SetCounter = with_sign c.SetCounter
arguments Move = alone c.Move
arguments MoveToOrigin = alone c.MoveToOrigin
arguments MoveTo = with_sign c.MoveTo
arguments SlowStop = alone c.SlowStop
arguments PowerOn = alone c.PowerOn
arguments PowerOff = alone c.PowerOff
arguments SetOutputs = pattern c.SetOutputs
arguments Create = numbers c.Create
arguments Erase = number c.Erase
arguments Choose = number c.Choose
arguments Start = number c.Start
arguments Write = phase c.Write
arguments ReadPhase = numbers c.ReadPhase
arguments Restart = alone c.Restart
arguments ReadParameters = alone c.ReadParameters
arguments ReadPosition = alone c.ReadPosition
arguments ReadVersion = alone c.ReadVersion
arguments ReadFault = alone c.ReadFault

-- the command of these words: 6, then 0
unfoldable pub read_from : Bool → List (List ℕ) → Result Command Fault
read_from broadcast ws = and_then (known (ws, 1)) (λ n. and_then (asked broadcast n) (λ m. arguments m (past (ws, 1))))

-- the command after the first `from` characters of a line
unfoldable pub command_after : ℕ → Bool → Kept → Result Command Fault
command_after from broadcast k = and_then (text_in from k) (λ t. read_from broadcast (words t))
