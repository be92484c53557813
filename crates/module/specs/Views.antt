-- The state of a module in the code, and what its calls answer.
use Rattle.std.specs.Prelude.{ℕ, Bool, List, length, take, ℤ, Ok, Err, Option, Result}
use Rattle.faults.specs.declared.Fault.{Fault}
use Rattle.lines.specs.Lines.{kept}
use Rattle.phases.specs.declared.phase.Phase.{Phase}
use Rattle.replies.specs.Replies.{over}
use Rattle.outputs.specs.Meaning.{Meaning}
use Rattle.axis.specs.Axes.{new_axis}
use Rattle.control.specs.States.{state, initial}
use Rattle.law.specs.Events.{Event, Answer}
use Rattle.law.specs.Events.Answer.{refused, reply, ticked, done}
use Rattle.law.specs.History.{State, at, next, answer, reply_in}
use Rattle.law.specs.Machine.{Outcome, WithFault, keep, done_by}
use Rattle.module.specs.declared.module.Module.{Module}
use Rattle.module.specs.States.{ModuleState}
use Rattle.module.specs.Machine.{machine, module_device}

module _ {O : Type 0} where
  abbrev pub module_in : Module O → List Phase → ModuleState
  module_in m records = record { control = state m.control; axis = m.axis.state; records = records }

  abbrev pub core_in : (cycle : ℕ) → Module O → List Phase → WithFault (machine cycle)
  core_in cycle m records = keep (machine cycle) (module_in m records) m.fault

  abbrev pub state_in : (cycle : ℕ) → Module O → List Phase → State (module_device cycle)
  state_in cycle m records = at (module_device cycle) (core_in cycle m records) (kept m.receiver.line)

  -- what an outcome makes of the core, and the reply
  abbrev pub done_in : (cycle : ℕ) → Module O → List Phase → Outcome ModuleState (Option Fault) → WithFault (machine cycle) × List ℕ
  done_in cycle m records o = done_by (machine cycle) (core_in cycle m records) o

  -- what a call makes of a module over these records, and what it answers
  abbrev pub state_after : (cycle : ℕ) → Module O → List Phase → Event → State (module_device cycle)
  state_after cycle m records e = next (module_device cycle) (state_in cycle m records) e

  abbrev pub answer_to : (cycle : ℕ) → Module O → List Phase → Event → Answer
  answer_to cycle m records e = answer (module_device cycle) (state_in cycle m records) e

  abbrev pub character_reply : (cycle : ℕ) → Module O → List Phase → Event → List ℕ
  character_reply cycle m records e = reply_in (module_device cycle) (state_in cycle m records) e

-- a new module over an output of this meaning: the output's power is cut, its place stays
abbrev pub new_state : Meaning → List Phase → ModuleState
new_state m records = record { control = initial; axis = new_axis m; records = records }

abbrev pub addressed : ModuleState → ℕ → ModuleState
addressed r n = record r { control = record r.control { address = n } }

-- the length of a reply, and the buffer with the reply in front
abbrev pub sent : List ℕ → List ℕ → Result ℕ Fault × List ℕ
sent t b = (Ok (length t), over t b)

-- what each call answers, as a history has it: the character call by the reply in the buffer
abbrev pub reply_shown : Result ℕ Fault → List ℕ → Answer
reply_shown (Ok n) b = reply (take n b)
reply_shown (Err f) b = refused f

abbrev pub tick_shown : Result (ℤ × Bool) Fault → Answer
tick_shown (Ok t) = ticked t.0 t.1
tick_shown (Err f) = refused f

abbrev pub plain_shown : Result (Unit {0}) Fault → Answer
plain_shown (Ok u) = done
plain_shown (Err f) = refused f

-- how much of the buffer is the reply's
abbrev pub reply_length : Result ℕ Fault → ℕ
reply_length (Ok n) = n
reply_length (Err f) = 0
