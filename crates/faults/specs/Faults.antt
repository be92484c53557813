-- The causes of a refusal by number, the places by name, and each refusal with its place and word.
use Rattle.std.specs.Prelude.{ℕ, List, Ok, Err, Some, None, Option, codes, Result}
use Rattle.faults.specs.declared.Cause.{Cause}
use Rattle.faults.specs.declared.Fault.{Fault}
use Rattle.faults.specs.declared.Place.{Place}
use Rattle.faults.specs.declared.Place.TheVariants.{Caller, Receiver, Reader, State, Values, Store, Run}
use Rattle.faults.specs.declared.Cause.TheVariants.{WrongForm, PastLimit, NoSuchPhase, NoSequence, SequenceExists, MemoryFull, UnknownCommand, Busy, BadLine, StartPastPlateau, TooManyOpen, WrongMemory, ShortReply, WrongAddress}

-- the number of each cause
abbrev pub number_of : Cause → ℕ
number_of WrongForm = 0
number_of PastLimit = 1
number_of NoSuchPhase = 2
number_of NoSequence = 3
number_of SequenceExists = 4
number_of MemoryFull = 5
number_of UnknownCommand = 6
number_of Busy = 7
number_of BadLine = 8
number_of StartPastPlateau = 9
number_of TooManyOpen = 10
number_of WrongMemory = 101
number_of ShortReply = 102
number_of WrongAddress = 103

-- the name of each place, in the order in which a line passes them
abbrev pub name_of : Place → List ℕ
name_of Caller = codes "caller"
name_of Receiver = codes "receiver"
name_of Reader = codes "reader"
name_of State = codes "state"
name_of Values = codes "values"
name_of Store = codes "store"
name_of Run = codes "run"

-- the number of the word at fault, and 0 where there is none
abbrev pub word_of : Option ℕ → ℕ
word_of None = 0
word_of (Some n) = n

-- a refusal by its cause, place and word, if there is one
abbrev pub stopped : Cause → Place → Option ℕ → Fault
stopped cause place word = record { cause = cause; place = place; word = word }

-- 8: the line has over 64 characters, or one of them is damaged
abbrev pub bad_line : Fault
bad_line = stopped BadLine Receiver None

-- 6: the first word names no command
abbrev pub unknown_command : Fault
unknown_command = stopped UnknownCommand Reader (Some 1)

-- 0: word i is not there, is one too many, or does not read as it is due
abbrev pub wrong_form : ℕ → Fault
wrong_form i = stopped WrongForm Reader (Some i)

-- 7: the module is busy, and the command is not taken then
abbrev pub is_busy : Fault
is_busy = stopped Busy State None

-- 9: the start speed in word 2 would pass the plateau speed
abbrev pub start_past_plateau : Fault
start_past_plateau = stopped StartPastPlateau Values (Some 2)

-- 1: the value of word i is past its limit
abbrev pub past_limit : ℕ → Fault
past_limit i = stopped PastLimit Values (Some i)

-- 2: word i is no number that a phase can have
abbrev pub no_such_phase : ℕ → Fault
no_such_phase i = stopped NoSuchPhase Values (Some i)

-- 3: there is no sequence of the number in word 2
abbrev pub no_sequence : Fault
no_sequence = stopped NoSequence Store (Some 2)

-- 4: there is a sequence of the number in word 2 already
abbrev pub sequence_exists : Fault
sequence_exists = stopped SequenceExists Store (Some 2)

-- 5: the phases already reserved and those of word 3 pass 414
abbrev pub memory_full : Fault
memory_full = stopped MemoryFull Store (Some 3)

-- 2: the phase of word 3 is above the sequence's reserve
abbrev pub past_reserve : Fault
past_reserve = stopped NoSuchPhase Store (Some 3)

-- 101: the phase memory has not 414 records
abbrev pub wrong_memory : Fault
wrong_memory = stopped WrongMemory Caller None

-- 102: the reply buffer has under 80 bytes
abbrev pub short_reply : Fault
short_reply = stopped ShortReply Caller None

-- 103: the address is above 63
abbrev pub wrong_address : Fault
wrong_address = stopped WrongAddress Caller None

-- what follows a success; a refusal passes up as it is
abbrev pub and_then : {A B : Type 0} → Result A Fault → (A → Result B Fault) → Result B Fault
and_then (Ok x) f = f x
and_then (Err e) f = Err e
