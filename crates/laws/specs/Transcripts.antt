-- How an example is written: as a transcript of a new module, with what is done and what is answered.
use Prim.Native.String.{String}
use Rattle.std.specs.Prelude.{◌≡◌, ℕ, Bool, true, false, List, [], ◌∷◌, ◌++◌, map, replicate, pos, negsuc, Some, None, codes, Option}
use Rattle.faults.specs.declared.Fault.{Fault}
use Rattle.faults.specs.Faults.{wrong_memory, short_reply, number_of, name_of, word_of}
use Rattle.phases.specs.Phases.{blank}
use Rattle.outputs.specs.Meaning.{initial}
use Rattle.outputs.specs.Patterns.{full_cycle}
use Rattle.law.specs.declared.Call.{Call}
use Rattle.law.specs.declared.Action.{Action}
use Rattle.law.specs.declared.Action.TheVariants.{Character, Tick, Levels, PowerUp}
use Rattle.law.specs.Events.{Answer, event}
use Rattle.law.specs.Events.Answer.{reply, ticked, done, refused as not_made}
use Rattle.law.specs.Machine.{WithFault, keep}
use Rattle.law.specs.Law.{all_answers, at_end}
use Rattle.module.specs.Machine.{machine, module_device}
use Rattle.module.specs.Views.{new_state, addressed}

-- a new module of this address, over a new output with full steps and a memory of 414 blank records
abbrev pub new_module : ℕ → WithFault (machine full_cycle)
new_module address = keep (machine full_cycle) (addressed (new_state initial (replicate 414 blank)) address) None

-- what is done, and what is answered
pub record Entry : Type 0 where
  pub calls : List Call
  pub answers : List Answer

-- a call that is lent the whole memory
abbrev pub call : Action → Call
call a = record { lent = 414; action = a }

-- an undamaged character, with room for the longest reply
abbrev pub typed : ℕ → Call
typed byte = call (Character (record { byte = byte; damaged = false }) 80)

-- characters that end no line are not answered
abbrev pub silence : List ℕ → List Answer
silence bytes = map (λ b. reply []) bytes

-- a part of a line
abbrev pub part : String → Entry
part text = record { calls = map typed (codes text); answers = silence (codes text) }

-- a line with its 0Dh, and the reply to it
abbrev pub line : String → List ℕ → Entry
line text said = record { calls = map typed (codes text ++ 0x0D ∷ []); answers = silence (codes text) ++ reply said ∷ [] }

-- a line is accepted (06h 11h), refused (15h 11h), answered by a text with 0Dh 11h after it, or not answered
abbrev pub accepted : String → Entry
accepted text = line text (0x06 ∷ 0x11 ∷ [])

abbrev pub refused : String → Entry
refused text = line text (0x15 ∷ 0x11 ∷ [])

abbrev pub answered : String → String → Entry
answered text said = line text (codes said ++ 0x0D ∷ 0x11 ∷ [])

abbrev pub unanswered : String → Entry
unanswered text = line text []

-- a damaged character
abbrev pub damaged : ℕ → Entry
damaged byte = record { calls = call (Character (record { byte = byte; damaged = true }) 80) ∷ []; answers = reply [] ∷ [] }

abbrev pub busy : Bool
busy = true

abbrev pub at_rest : Bool
at_rest = false

-- so many ticks without a step; a tick that steps forward or back; and whether the module is busy after each
abbrev pub no_step : ℕ → Bool → Entry
no_step n after = record { calls = replicate n (call Tick); answers = replicate n (ticked (pos 0) after) }

abbrev pub forward : Bool → Entry
forward after = record { calls = call Tick ∷ []; answers = ticked (pos 1) after ∷ [] }

abbrev pub back : Bool → Entry
back after = record { calls = call Tick ∷ []; answers = ticked (negsuc 0) after ∷ [] }

-- the inputs are at these levels; the power comes back
abbrev pub levels : ℕ → Entry
levels n = record { calls = call (Levels n) ∷ []; answers = done ∷ [] }

abbrev pub power_up : Entry
power_up = record { calls = call PowerUp ∷ []; answers = done ∷ [] }

-- a tick that is lent so many records, and an undamaged character with room for so many bytes, both refused for that
abbrev pub tick_lent : ℕ → Entry
tick_lent n = record { calls = record { lent = n; action = Tick } ∷ []; answers = not_made wrong_memory ∷ [] }

abbrev pub character_with_room : ℕ → ℕ → Entry
character_with_room n byte = record { calls = call (Character (record { byte = byte; damaged = false }) n) ∷ []; answers = not_made short_reply ∷ [] }

abbrev pub calls_of : List Entry → List Call
calls_of [] = []
calls_of (e ∷ es) = e.calls ++ calls_of es

abbrev pub answers_of : List Entry → List Answer
answers_of [] = []
answers_of (e ∷ es) = e.answers ++ answers_of es

-- a new module of this address, to which nothing but this is done, answers each call as it stands here
abbrev pub IsTranscriptAt : ℕ → List Entry → Type 0
IsTranscriptAt address es = all_answers (module_device full_cycle) (new_module address) (map event (calls_of es)) ≡ answers_of es

-- the same of a new module 00
abbrev pub IsTranscript : List Entry → Type 0
IsTranscript es = IsTranscriptAt 0 es

-- the state of a new module 00 afterwards
abbrev pub end_of : List Entry → WithFault (machine full_cycle)
end_of es = at_end (module_device full_cycle) (new_module 0) (map event (calls_of es))

-- and its power is on then, or off
pub record LeavesPower (es : List Entry) (on : Bool) : Type 0 where
  pub transcript : IsTranscript es
  pub power : (end_of es).rest.axis.power ≡ on

-- a fault by the number of its cause, the name of its place and the number of the word at fault, which is 0 where there is none
abbrev pub told : Option Fault → Option (ℕ × List ℕ × ℕ)
told None = None
told (Some f) = Some (number_of f.cause, name_of f.place, word_of f.word)

-- and its fault record is this one then
pub record LeavesFault (es : List Entry) (cause : ℕ) (place : String) (word : ℕ) : Type 0 where
  pub transcript : IsTranscript es
  pub fault : told (end_of es).fault ≡ Some (cause, codes place, word)
