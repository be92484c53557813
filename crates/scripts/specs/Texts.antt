-- The lines of a transcript that tell a tick, the end of a line of ticks, a refusal and a fault record.
use Rattle.std.specs.Prelude.{ℕ, Bool, cond, List, [], ◌∷◌, ◌++◌, codes, ℤ, pos, Some, None, Option, int_lt}
use Rattle.std.specs.Fmt.{decimal, signed_decimal}
use Rattle.faults.specs.declared.Fault.{Fault}
use Rattle.faults.specs.Faults.{number_of, name_of, word_of}

-- 1 for busy, 0 for not busy
abbrev pub busy_text : Bool → List ℕ
busy_text busy = decimal (cond busy 1 0)

-- a step with its sign, and 0 where there is none
abbrev pub step_text : ℤ → List ℕ
step_text step = cond (int_lt (pos 0) step) (codes "+") [] ++ signed_decimal step

abbrev pub tick_of : ℕ → ℤ → Bool → List ℕ
tick_of number step busy = codes "t " ++ (decimal number ++ (codes " step " ++ (step_text step ++ (codes " busy " ++ (busy_text busy ++ 10 ∷ [])))))

abbrev pub after_of : ℕ → Bool → List ℕ
after_of count busy = codes "after " ++ (decimal count ++ (codes " ticks: busy " ++ (busy_text busy ++ 10 ∷ [])))

abbrev pub refused_of : Fault → List ℕ
refused_of f = codes "refused " ++ (decimal (number_of f.cause) ++ 10 ∷ [])

-- a fault record: its code, the place and the number of the word
abbrev pub record_text : Option Fault → List ℕ
record_text None = codes "none"
record_text (Some f) = decimal (number_of f.cause) ++ (codes " " ++ (name_of f.place ++ (codes " " ++ decimal (word_of f.word))))

abbrev pub fault_of : Option Fault → List ℕ
fault_of f = codes "fault " ++ (record_text f ++ 10 ∷ [])
