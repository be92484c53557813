-- The state of a host's module over its memory, and what is sent to it.
use Rattle.std.specs.Prelude.{ℕ, false, List, [], ◌++◌, map, Option}
use Rattle.phases.specs.declared.phase.Phase.{Phase}
use Rattle.phases.specs.declared.phase.Position.{Position}
use Rattle.store.specs.Records.{phase_at}
use Rattle.law.specs.Events.{Event, Answer, received}
use Rattle.law.specs.Events.Event.{ending}
use Rattle.lines.specs.Lines.{kept_of}
use Rattle.law.specs.Machine.{keep}
use Rattle.law.specs.History.{State, at, next, answer, after}
use Rattle.replies.specs.Replies.{digits_of}
use Rattle.module.specs.Machine.{machine, module_device}
use Rattle.module.specs.Views.{state_in, addressed}
use Rattle.history.specs.declared.host.Host.{Host}

module _ {O : Type 0} where
  abbrev pub state_of : (cycle : ℕ) → Host O → State (module_device cycle)
  state_of cycle h = state_in cycle h.module h.memory

  -- the module after a call, and what the call answers
  abbrev pub next_of : (cycle : ℕ) → Host O → Event → State (module_device cycle)
  next_of cycle h e = next (module_device cycle) (state_of cycle h) e

  abbrev pub answer_of : (cycle : ℕ) → Host O → Event → Answer
  answer_of cycle h e = answer (module_device cycle) (state_of cycle h) e

-- a module whose address is set anew: its unfinished line is dropped
abbrev pub set_anew : (cycle : ℕ) → ℕ → State (module_device cycle) → State (module_device cycle)
set_anew cycle address s = at (module_device cycle) (keep (machine cycle) (addressed s.core.rest address) s.core.fault) (kept_of [])

-- undamaged characters
abbrev pub typed : List ℕ → List Event
typed bytes = map (λ b. received b false) bytes

-- a module after these characters, then also after the 0Dh that ends their line, and the reply to that
abbrev pub after_text : (cycle : ℕ) → List ℕ → State (module_device cycle) → State (module_device cycle)
after_text cycle text s = after (module_device cycle) s (typed text)

abbrev pub after_line : (cycle : ℕ) → List ℕ → State (module_device cycle) → State (module_device cycle)
after_line cycle text s = next (module_device cycle) (after_text cycle text s) ending

abbrev pub reply_to : (cycle : ℕ) → List ℕ → State (module_device cycle) → Answer
reply_to cycle text s = answer (module_device cycle) (after_text cycle text s) ending

-- a line for the module itself: the two digits of its address, then the text
abbrev pub own_line : (cycle : ℕ) → List ℕ → State (module_device cycle) → List ℕ
own_line cycle text s = digits_of 2 s.core.rest.control.address ++ text

abbrev pub after_own : (cycle : ℕ) → List ℕ → State (module_device cycle) → State (module_device cycle)
after_own cycle text s = after_line cycle (own_line cycle text s) s

abbrev pub own_reply : (cycle : ℕ) → List ℕ → State (module_device cycle) → Answer
own_reply cycle text s = reply_to cycle (own_line cycle text s) s

-- the written phase at a position, if there is one
abbrev pub phase_in : (cycle : ℕ) → State (module_device cycle) → Position → Option Phase
phase_in cycle s at = phase_at s.core.rest.control.blocks s.core.rest.records at
