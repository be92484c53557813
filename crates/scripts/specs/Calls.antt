-- The calls that a line of a script makes.
use Rattle.std.specs.Prelude.{ℕ, false, List, [], ◌∷◌, ◌++◌, map, replicate}
use Rattle.law.specs.declared.Action.TheVariants as action
use Rattle.law.specs.declared.Call.{Call}
use Rattle.scripts.specs.Asked.{Asked}
use Rattle.scripts.specs.Asked.Asked.{begins, sends, types, calls, ticks, fault, state}
use Rattle.scripts.specs.declared.section.LineKind.{LineKind}
use Rattle.scripts.specs.declared.section.LineKind.TheVariants.{Calls, Ticks, Fault, State}
use Rattle.scripts.specs.Reading.{lending, character}

-- an undamaged character, lent all records and a reply buffer of 80 bytes
abbrev pub typed : ℕ → Call
typed byte = lending 414 (character 80 byte false)

-- one tick, lent all records
abbrev pub one_tick : Call
one_tick = lending 414 action.Tick

-- each character of a line that is sent, and the 0Dh behind them
abbrev pub calls_of : Asked → List Call
calls_of (sends text) = map typed text ++ typed 13 ∷ []
calls_of (types text) = map typed text
calls_of (calls call) = call ∷ []
calls_of (ticks count) = replicate count one_tick
calls_of (begins output address) = []
calls_of fault = []
calls_of state = []

-- what is told under a line
abbrev pub kind_of : Asked → LineKind
kind_of (ticks count) = Ticks
kind_of fault = Fault
kind_of state = State
kind_of a = Calls
