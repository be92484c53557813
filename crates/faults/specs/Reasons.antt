-- Why a line or a call is refused, in plain words.
use Rattle.std.specs.Prelude.{ℕ, cond, List, ◌++◌, Some, None, codes, Option, ◌==◌}
use Rattle.std.specs.Fmt.{decimal}
use Rattle.faults.specs.declared.Cause.{Cause}
use Rattle.faults.specs.declared.Cause.TheVariants.{WrongForm, PastLimit, NoSuchPhase, NoSequence, SequenceExists, MemoryFull, UnknownCommand, Busy, BadLine, StartPastPlateau, TooManyOpen, WrongMemory, ShortReply, WrongAddress}
use Rattle.faults.specs.declared.Fault.{Fault}
use Rattle.faults.specs.declared.Place.{Place}
use Rattle.faults.specs.declared.Place.TheVariants.{Store}

-- the reason of a cause, no word being named
abbrev pub cause_reason : Cause → List ℕ
cause_reason WrongForm = codes "a word is missing, surplus or of wrong form"
cause_reason PastLimit = codes "a value is past its limit"
cause_reason NoSuchPhase = codes "there is no such phase"
cause_reason NoSequence = codes "there is no such sequence"
cause_reason SequenceExists = codes "there is such a sequence already"
cause_reason MemoryFull = codes "the phase memory has no room for the phases"
cause_reason UnknownCommand = codes "the first word names no command"
cause_reason Busy = codes "the module is busy"
cause_reason BadLine = codes "the line has more than 64 characters, or a damaged one"
cause_reason StartPastPlateau = codes "the start speed would be above the plateau speed"
cause_reason TooManyOpen = codes "a fifth sub-sequence would be open"
cause_reason WrongMemory = codes "the phase memory has not 414 records"
cause_reason ShortReply = codes "the reply buffer has under 80 bytes"
cause_reason WrongAddress = codes "the address is above 63"

-- a phase above the reserve is at fault in the store, and one that no sequence has before
abbrev pub phase_reason : Place → ℕ → List ℕ
phase_reason Store w = codes "the phase of word " ++ decimal w ++ codes " is above the sequence's reserve"
phase_reason _ w = codes "word " ++ decimal w ++ codes " numbers no phase of any sequence"

-- the reason where word w is at fault
abbrev pub word_reason : Cause → Place → ℕ → List ℕ
word_reason WrongForm p w = cond (w == 1) (codes "a question cannot be a broadcast") (codes "word " ++ decimal w ++ codes " is missing, surplus or of wrong form")
word_reason PastLimit p w = codes "the value of word " ++ decimal w ++ codes " is past its limit"
word_reason NoSuchPhase p w = phase_reason p w
word_reason NoSequence p w = codes "there is no sequence of the number in word " ++ decimal w
word_reason SequenceExists p w = codes "there is a sequence of the number in word " ++ decimal w ++ codes " already"
word_reason MemoryFull p w = codes "the phase memory has no room for the phases of word " ++ decimal w
word_reason cause p w = cause_reason cause

abbrev pub reason_in : Cause → Place → Option ℕ → List ℕ
reason_in cause p None = cause_reason cause
reason_in cause p (Some w) = word_reason cause p w

-- the reason of a refusal, which names the word at fault where that tells more
abbrev pub reason_of : Fault → List ℕ
reason_of fault = reason_in fault.cause fault.place fault.word
