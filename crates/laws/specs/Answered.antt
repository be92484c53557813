-- Who is answered what, and what the fault record holds then.
use Rattle.std.specs.Prelude.{◌≡◌, ℕ, Bool, true, false, [], ◌∷◌, Some, None, Ok, Err, Option}
use Rattle.faults.specs.declared.Fault.{Fault}
use Rattle.orders.specs.declared.order.Order.{Order}
use Rattle.orders.specs.declared.order.Order.TheVariants.{ReadPhase, Restart, ReadParameters, ReadPosition, ReadVersion, ReadFault}
use Rattle.orders.specs.declared.order.Judgement.{Judgement}
use Rattle.orders.specs.declared.order.Judgement.TheVariants.{Own, Broadcast, Stranger}
use Rattle.law.specs.Events.{Event, Answer}
use Rattle.law.specs.Events.Event.{ending, tick, power_up}
use Rattle.law.specs.Events.Answer.{reply}
use Rattle.law.specs.History.{State, next, answer}
use Rattle.module.specs.States.{effects_of}
use Rattle.module.specs.Lines.{judged_line}
use Rattle.module.specs.Machine.{module_device}

-- the questions RS, RL, RP, RV and RX are answered by a text
abbrev pub asks : Order → Bool
asks (ReadPhase at p) = true
asks ReadParameters = true
asks ReadPosition = true
asks ReadVersion = true
asks ReadFault = true
asks _ = false

-- 06h 11h to an own line that is accepted and asks nothing, 15h 11h to one that is refused, nothing to a broadcast or a stranger's line
abbrev pub AnsweredAs : Judgement → Answer → Type 0
AnsweredAs (Own (Ok o)) a = asks o ≡ false → a ≡ reply (0x06 ∷ 0x11 ∷ [])
AnsweredAs (Own (Err f)) a = a ≡ reply (0x15 ∷ 0x11 ∷ [])
AnsweredAs (Broadcast r) a = a ≡ reply []
AnsweredAs Stranger a = a ≡ reply []

abbrev pub AnswersByAddress : Type 0
AnswersByAddress = (cycle : ℕ) (s : State (module_device cycle)) → AnsweredAs (judged_line s.core.rest s.line) (answer (module_device cycle) s ending)

-- RX and MR empty the fault record, a refused line leaves its fault there, and every other line leaves the record
abbrev pub fault_after_order : Option Fault → Order → Option Fault
fault_after_order f ReadFault = None
fault_after_order f Restart = None
fault_after_order f _ = f

abbrev pub fault_after_line : Option Fault → Judgement → Option Fault
fault_after_line f (Own (Ok o)) = fault_after_order f o
fault_after_line f (Own (Err g)) = Some g
fault_after_line f (Broadcast (Ok o)) = fault_after_order f o
fault_after_line f (Broadcast (Err g)) = Some g
fault_after_line f Stranger = f

abbrev pub latest : Option Fault → Option Fault → Option Fault
latest f None = f
latest f (Some g) = Some g

-- a power-up empties it too, and a fault that ends a run is kept in it
abbrev pub fault_after : (cycle : ℕ) → State (module_device cycle) → Event → Option Fault
fault_after cycle s ending = fault_after_line s.core.fault (judged_line s.core.rest s.line)
fault_after cycle s tick = latest s.core.fault (effects_of s.core.rest).fault
fault_after cycle s power_up = None
fault_after cycle s _ = s.core.fault

abbrev pub KeepsFaults : Type 0
KeepsFaults = (cycle : ℕ) (s : State (module_device cycle)) (e : Event) → (next (module_device cycle) s e).core.fault ≡ fault_after cycle s e
