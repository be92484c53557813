-- What the calls of a history are to the module and to the line.
use Rattle.std.specs.Prelude.{ℕ, Bool, true, false, cond, ◌||◌, List, ℤ, ◌==◌, nat_lt}
use Rattle.faults.specs.declared.Fault.{Fault}
use Rattle.faults.specs.Faults.{wrong_memory, short_reply}
use Rattle.lines.specs.Characters.{Character, is_own, is_broadcast}
use Rattle.law.specs.declared.Call.{Call}
use Rattle.law.specs.declared.Action.{Action}
use Rattle.law.specs.declared.Action.TheVariants as action

-- What a call is once it is checked.
pub data Event : Type 0 where
  stopped : Fault → Event  -- a caller's error, 101 or 102: nothing is done
  skipped : Event  -- an undamaged 0Ah
  letter : Character → Event  -- one more character of the line
  ending : Event  -- an undamaged 0Dh, the end of the line
  tick : Event
  levels : ℕ → Event
  power_up : Event

-- the records are counted first: other than 414 are 101; then a buffer that is too short is 102
abbrev pub handed : ℕ → Event → Event
handed lent e = cond (lent == 414) e (stopped wrong_memory)

abbrev pub with_room : ℕ → Event → Event
with_room room e = cond (nat_lt room 80) (stopped short_reply) e

abbrev pub received : ℕ → Bool → Event
received byte true = letter (byte, true)
received byte false =
    cond (byte == 0x0d) ending (cond (byte == 0x0a) skipped (letter (byte, false)))

-- how many phase records a call is handed, and what it is where these are 414
abbrev pub lent_to : Call → ℕ
lent_to c = c.lent

abbrev pub asked_by : Action → Event
asked_by (action.Character character room) = with_room room (received character.byte character.damaged)
asked_by action.Tick = tick
asked_by (action.Levels value) = levels value
asked_by action.PowerUp = power_up

abbrev pub asked : Call → Event
asked c = asked_by c.action

abbrev pub event : Call → Event
event c = handed (lent_to c) (asked c)

-- What a call answers.
pub data Answer : Type 0 where
  refused : Fault → Answer  -- the caller's error
  reply : List ℕ → Answer  -- the reply to a character, mostly empty
  ticked : ℤ → Bool → Answer  -- the step made, and whether the module is still busy
  done : Answer

-- whether a line concerns the module: by its address, or as one for all
abbrev pub for_module : ℕ → List Character → Bool
for_module address line = is_own address line || is_broadcast line
