-- A whole history: the module that it begins with, and what its calls answer.
use Rattle.std.specs.Prelude.{ℕ, Bool, ◌&&◌, List, take, None, Ok, Err, Result, ◌==◌, nat_le}
use Rattle.faults.specs.declared.Fault.{Fault}
use Rattle.phases.specs.declared.phase.Phase.{Phase}
use Rattle.outputs.specs.Meaning.{Meaning}
use Rattle.law.specs.Events.{Answer as Answered}
use Rattle.law.specs.Events.Answer.{refused, reply, ticked, done}
use Rattle.law.specs.Machine.{WithFault, keep}
use Rattle.law.specs.History.{State}
use Rattle.law.specs.Law.{new}
use Rattle.module.specs.Machine.{machine, module_device}
use Rattle.module.specs.Views.{new_state, addressed}
use Rattle.history.specs.declared.answer.Reply.{Reply as Written}
use Rattle.history.specs.declared.answer.Answer.{Answer}
use Rattle.history.specs.declared.answer.Answer.TheVariants.{Reply, Ticked, Done}

-- a module made new over an output of this meaning, and set to its address, over these records
abbrev pub begun : (cycle : ℕ) → ℕ → Meaning → List Phase → WithFault (machine cycle)
begun cycle address m records = keep (machine cycle) (addressed (new_state m records) address) None

abbrev pub started : (cycle : ℕ) → ℕ → Meaning → List Phase → State (module_device cycle)
started cycle address m records = new (module_device cycle) (begun cycle address m records)

-- the bytes of a reply
abbrev pub told : Written → List ℕ
told r = take r.length r.bytes

-- what the answers of the code mean
abbrev pub shown : Result Answer Fault → Answered
shown (Err f) = refused f
shown (Ok (Reply r)) = reply (told r)
shown (Ok (Ticked step busy)) = ticked step busy
shown (Ok Done) = done

-- the address is at most 63, the memory has 414 records, and there is room for every answer
abbrev pub acceptable : ℕ → ℕ → ℕ → ℕ → Bool
acceptable address records calls answers = nat_le address 63 && (records == 414 && nat_le calls answers)
