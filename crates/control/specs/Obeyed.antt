-- What each command does, once its order is accepted: to the settings, to what goes on, to the outputs, to the phase memory, to the
-- counter and to the power, and what it answers.
use Rattle.std.specs.Prelude.{ℕ, true, false, cond, List, ℤ, pos, Some, None, Option, ◌==◌, slice_set}
use Rattle.steps.specs.declared.direction.Direction.TheVariants as direction
use Rattle.steps.specs.declared.power.Power.{Power}
use Rattle.steps.specs.declared.power.Power.TheVariants.{On, Off}
use Rattle.phases.specs.declared.phase.Phase.{Phase}
use Rattle.store.specs.Blocks.{reserved}
use Rattle.store.specs.Records.{appended, blanked, erased_blocks, erased_records}
use Rattle.motion.specs.Motions.{begun, stopped}
use Rattle.motion.specs.declared.distance.Distance.{Distance as Steps}
use Rattle.motion.specs.Distances.{distance_to}
use Rattle.engine.specs.Ticks.{started, slow_stop}
use Rattle.orders.specs.declared.order.Order.{Order}
use Rattle.orders.specs.declared.order.Order.TheVariants.{StartSpeed, PlateauSpeed, Slope, Distance, Forward, Back, ZeroCounter, SetCounter, Move, MoveToOrigin, MoveTo, SlowStop, PowerOn, PowerOff, SetOutputs, Create, Erase, Choose, Start, Write, ReadPhase, Restart, ReadParameters, ReadPosition, ReadVersion, ReadFault}
use Rattle.control.specs.declared.change.Answer.{Answer}
use Rattle.control.specs.declared.change.Answer.TheVariants as answer
use Rattle.control.specs.declared.change.Change.{Change}
use Rattle.control.specs.States.{State, Activity, resting, moving, running, with_settings, with_values, with_activity, ended, moves_on, runs_on}

-- nothing is done outside, and 06h 11h is answered
abbrev pub accepted : Change
accepted = record { counter = None; power = None; clears_fault = false; answer = answer.Accepted }

abbrev pub counter_set : ℤ → Change
counter_set z = record accepted { counter = Some z }

abbrev pub power_set : Power → Change
power_set p = record accepted { power = Some p }

abbrev pub answers : Answer → Change
answers a = record accepted { answer = a }

-- RX tells the fault record, which is cleared then
abbrev pub fault_told : Change
fault_told = record (answers answer.Fault) { clears_fault = true }

-- power-up and MR: the counter is 0, power is cut and the fault record is cleared; a chosen sequence starts and switches power on
abbrev pub restart_change : Option ℕ → Change
restart_change None = record { counter = Some (pos 0); power = Some Off; clears_fault = true; answer = answer.Accepted }
restart_change (Some n) = record { counter = Some (pos 0); power = Some On; clears_fault = true; answer = answer.Accepted }

-- GO, GH and GA: a direct movement; one of zero steps has ended at once
unfoldable pub moves_to : State → Steps → State
moves_to s d = moves_on s (begun s.settings.values None d.direction d.steps false)

-- GE: at rest it does nothing
abbrev pub slowed : State → Activity → State
slowed s resting = s
slowed s (moving m) = moves_on s (stopped m)
slowed s (running r) = runs_on s (slow_stop r)

-- GR ends what goes on, and leaves the outputs at rest
abbrev pub cut_off : State → Activity → State
cut_off s resting = s
cut_off s _ = ended s

-- power-up and MR: all stops, and the chosen sequence starts
abbrev pub restarted : State → Option ℕ → State
restarted s None = ended s
restarted s (Some n) = with_activity (ended s) (running (started n))

-- SE drops the choice of the sequence; where it erases all, it drops every choice
abbrev pub choice_without : Option ℕ → Option ℕ → Option ℕ
choice_without None chosen = None
choice_without (Some n) None = None
choice_without (Some n) (Some c) = cond (c == n) None (Some c)

abbrev pub erased : State → Option ℕ → State
erased s n = record s { blocks = erased_blocks s.blocks n; chosen = choice_without n s.chosen }

-- what an order makes of the state and of the records, and what it does outside
pub record Done : Type 0 where
  pub state : State
  pub records : List Phase
  pub change : Change

-- an order that is accepted, and changes nothing but what is named beside it
abbrev pub done : State → List Phase → Done
done s m = record { state = s; records = m; change = accepted }

-- one row a command: VN, VX, TR, DR, D+, D-; DI, DP; GO, GH, GA, GE, GM, GR, GL; SN, SE, SD, SS; SP, RS; MR, RL, RP, RV, RX
abbrev pub obeyed : State → List Phase → ℤ → Order → Done
obeyed s m counter (StartSpeed v) = record (done s m) { state = with_values s (record s.settings.values { start_speed = v }) }
obeyed s m counter (PlateauSpeed v) = record (done s m) { state = with_values s (record s.settings.values { plateau_speed = v }) }
obeyed s m counter (Slope t) = record (done s m) { state = with_values s (record s.settings.values { slope_time = t }) }
obeyed s m counter (Distance n) = record (done s m) { state = with_settings s (record s.settings { distance = n }) }
obeyed s m counter Forward = record (done s m) { state = with_settings s (record s.settings { direction = direction.Forward }) }
obeyed s m counter Back = record (done s m) { state = with_settings s (record s.settings { direction = direction.Back }) }
obeyed s m counter ZeroCounter = record (done s m) { change = counter_set (pos 0) }
obeyed s m counter (SetCounter n) = record (done s m) { change = counter_set n }
obeyed s m counter Move = record (done s m) { state = moves_to s (record { direction = s.settings.direction; steps = s.settings.distance }); change = power_set On }
obeyed s m counter MoveToOrigin = record (done s m) { state = moves_to s (distance_to (pos 0) counter); change = power_set On }
obeyed s m counter (MoveTo n) = record (done s m) { state = moves_to s (distance_to n counter); change = power_set On }
obeyed s m counter SlowStop = record (done s m) { state = slowed s s.activity }
obeyed s m counter PowerOn = record (done s m) { change = power_set On }
obeyed s m counter PowerOff = record (done s m) { state = cut_off s s.activity; change = power_set Off }
obeyed s m counter (SetOutputs n) = record (done s m) { state = record s { outputs = n } }
obeyed s m counter (Create b) = record (done s m) { state = record s { blocks = appended s.blocks b.number b.reserve }; records = blanked (reserved s.blocks) b.reserve m }
obeyed s m counter (Erase n) = record (done s m) { state = erased s n; records = erased_records s.blocks n m }
obeyed s m counter (Choose n) = record (done s m) { state = record s { chosen = Some n } }
obeyed s m counter (Start n) = record (done s m) { state = with_activity s (running (started n)); change = power_set On }
obeyed s m counter (Write index p) = record (done s m) { records = slice_set m index p }
obeyed s m counter (ReadPhase at p) = record (done s m) { change = answers (answer.Phase at p) }
obeyed s m counter Restart = record (done s m) { state = restarted s s.chosen; change = restart_change s.chosen }
obeyed s m counter ReadParameters = record (done s m) { change = answers answer.Parameters }
obeyed s m counter ReadPosition = record (done s m) { change = answers answer.Position }
obeyed s m counter ReadVersion = record (done s m) { change = answers answer.Version }
obeyed s m counter ReadFault = record (done s m) { change = fault_told }
