-- The rows values and store: the limits of the numbers, the leftmost word first, then what a command names in the phase memory.
use Rattle.std.specs.Prelude.{ℕ, cond, List, ℤ, Some, None, Ok, Err, Option, Result, nat_lt, slice_index_or}
use Rattle.std.specs.Option.{ok_or}
use Rattle.steps.specs.Limits.{is_position}
use Rattle.faults.specs.declared.Fault.{Fault}
use Rattle.faults.specs.Faults.{and_then, past_limit, start_past_plateau, no_sequence}
use Rattle.orders.specs.declared.command.Command.{Command}
use Rattle.orders.specs.declared.command.Command.TheVariants.{StartSpeed, PlateauSpeed, Slope, Distance, Forward, Back, ZeroCounter, SetCounter, Move, MoveToOrigin, MoveTo, SlowStop, PowerOn, PowerOff, SetOutputs, Create, Erase, Choose, Start, Write, ReadPhase, Restart, ReadParameters, ReadPosition, ReadVersion, ReadFault}
use Rattle.phases.specs.declared.phase.Position.{Position}
use Rattle.phases.specs.Phases.{blank}
use Rattle.motion.specs.Limits.{speed_of, slope_of}
use Rattle.store.specs.declared.directory.Block.{Block}
use Rattle.store.specs.declared.directory.Span.{Span}
use Rattle.store.specs.Blocks.{placed}
use Rattle.store.specs.Records.{create_answer, located}
use Rattle.store.specs.Stores.{Store}
use Rattle.fields.specs.declared.fields.RawPhase.{RawPhase}
use Rattle.fields.specs.declared.fields.RawPosition.{RawPosition}
use Rattle.fields.specs.Values.{within as number_within, sequence_value, position_values, block_values, erase_value, sp_values}
use Rattle.orders.specs.declared.order.Situation.{Situation}
use Rattle.orders.specs.declared.order.Order.{Order}
use Rattle.orders.specs.declared.order.Order.TheVariants as o

-- the number in word 2, from low to high
abbrev pub within : ℕ → ℕ → ℕ → Result ℕ Fault
within low high n = number_within low high (past_limit 2) n

abbrev pub speed : ℕ → Result ℕ Fault
speed n = ok_or (speed_of n) (past_limit 2)

-- 9: the start speed would pass the plateau speed
abbrev pub in_order : ℕ → ℕ → Result (Unit {0}) Fault
in_order start plateau = cond (nat_lt plateau start) (Err start_past_plateau) (Ok tt)

abbrev pub start_speed : ℕ → ℕ → Result ℕ Fault
start_speed plateau n = and_then (speed n) (λ m. and_then (in_order m plateau) (λ _. Ok m))

abbrev pub plateau_speed : ℕ → ℕ → Result ℕ Fault
plateau_speed start n = and_then (speed n) (λ m. and_then (in_order start m) (λ _. Ok m))

abbrev pub slope : ℕ → Result ℕ Fault
slope n = ok_or (slope_of n) (past_limit 2)

abbrev pub distance : ℕ → Result ℕ Fault
distance n = within 0 999998 n

abbrev pub position : ℤ → Result ℤ Fault
position z = cond (is_position z) (Ok z) (Err (past_limit 2))

abbrev pub outputs : ℕ → Result ℕ Fault
outputs n = within 0 255 n

-- the order that a value within its limits makes
abbrev pub with_value : {A : Type 0} → Result A Fault → (A → Order) → Result Order Fault
with_value r make = and_then r (λ x. Ok (make x))

-- a sequence that exists; 3 where it is absent
abbrev pub present_at : Option Span → Result (Unit {0}) Fault
present_at None = Err no_sequence
present_at (Some s) = Ok tt

abbrev pub existing : List Block → ℕ → Result ℕ Fault
existing bs n = and_then (sequence_value n) (λ m. and_then (present_at (placed 0 0 bs m)) (λ _. Ok m))

-- SN: a sequence that can be created; 4, then 5
abbrev pub creatable : List Block → RawPosition → Result Block Fault
creatable bs a = and_then (block_values a) (λ b. and_then (create_answer bs b.number b.reserve) (λ _. Ok b))

-- SP: the record of the phase, and what it is to hold; 3, then 2
abbrev pub writing : List Block → RawPhase → Result Order Fault
writing bs p = and_then (sp_values p) (λ a. with_value (located bs a.0.sequence a.0.phase) (λ i. o.Write i a.1))

-- RS: the phase and its record; 3, then 2
abbrev pub read_phase : Store → Position → Result Order Fault
read_phase s p = with_value (located s.blocks p.sequence p.phase) (λ i. o.ReadPhase p (slice_index_or s.records i blank))

abbrev pub reading : Store → RawPosition → Result Order Fault
reading s a = and_then (position_values a) (read_phase s)

-- the order of a command: its values within their limits, then what it names in the phase memory
abbrev pub order_of : Situation → Store → Command → Result Order Fault
order_of at s (StartSpeed n) = with_value (start_speed at.plateau_speed n) o.StartSpeed
order_of at s (PlateauSpeed n) = with_value (plateau_speed at.start_speed n) o.PlateauSpeed
order_of at s (Slope n) = with_value (slope n) o.Slope
order_of at s (Distance n) = with_value (distance n) o.Distance
order_of at s Forward = Ok o.Forward
order_of at s Back = Ok o.Back
order_of at s ZeroCounter = Ok o.ZeroCounter
order_of at s (SetCounter z) = with_value (position z) o.SetCounter
order_of at s Move = Ok o.Move
order_of at s MoveToOrigin = Ok o.MoveToOrigin
order_of at s (MoveTo z) = with_value (position z) o.MoveTo
order_of at s SlowStop = Ok o.SlowStop
order_of at s PowerOn = Ok o.PowerOn
order_of at s PowerOff = Ok o.PowerOff
order_of at s (SetOutputs n) = with_value (outputs n) o.SetOutputs
order_of at s (Create a) = with_value (creatable s.blocks a) o.Create
order_of at s (Erase n) = with_value (erase_value n) o.Erase
order_of at s (Choose n) = with_value (existing s.blocks n) o.Choose
order_of at s (Start n) = with_value (existing s.blocks n) o.Start
order_of at s (Write p) = writing s.blocks p
order_of at s (ReadPhase a) = reading s a
order_of at s Restart = Ok o.Restart
order_of at s ReadParameters = Ok o.ReadParameters
order_of at s ReadPosition = Ok o.ReadPosition
order_of at s ReadVersion = Ok o.ReadVersion
order_of at s ReadFault = Ok o.ReadFault
