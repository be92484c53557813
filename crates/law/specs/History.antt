-- Runs of a module over a history, and what is struck out of one.
use Rattle.std.specs.Prelude.{ℕ, suc, Bool, true, false, cond, not, ◌&&◌, List, [], ◌∷◌, ◌++◌, ℤ, pos, Some, None, fold, Option}
use Rattle.law.specs.Events.{Event, Answer, for_module}
use Rattle.lines.specs.Characters.{Character}
use Rattle.law.specs.Events.Event.{stopped, skipped, letter, ending, tick, levels, power_up}
use Rattle.law.specs.Events.Answer.{refused, reply, ticked, done}
use Rattle.law.specs.Device.{Device}

-- The state between two calls: the core and the unfinished line.
pub record State (D : Device) : Type 0 where
  pub core : D.Core
  pub line : D.Line

abbrev pub at : (D : Device) → D.Core → D.Line → State D
at D c l = record { core = c; line = l }

-- What one call does, and what it answers.
abbrev pub next : (D : Device) → State D → Event → State D
next D s (stopped fault) = s
next D s skipped = s
next D s (letter x) = at D s.core (D.push s.line x)
next D s ending = at D (D.finish s.core s.line).0 D.empty
next D s tick = at D (D.tick s.core).0 s.line
next D s (levels v) = at D (D.set_levels s.core v) s.line
next D s power_up = at D (D.restart s.core) D.empty

abbrev pub answer : (D : Device) → State D → Event → Answer
answer D s (stopped fault) = refused fault
answer D s skipped = reply []
answer D s (letter x) = reply []
answer D s ending = reply (D.finish s.core s.line).1
answer D s tick = ticked (D.tick s.core).1 (D.tick s.core).2
answer D s (levels v) = done
answer D s power_up = done

-- the reply to a character: that of the line which it ends, and none to another
abbrev pub reply_in : (D : Device) → State D → Event → List ℕ
reply_in D s ending = (D.finish s.core s.line).1
reply_in D s _ = []

-- The state after a history, and the answers of its calls in order.
abbrev pub after : (D : Device) → State D → List Event → State D
after D s [] = s
after D s (e ∷ h) = after D (next D s e) h

abbrev pub answers : (D : Device) → State D → List Event → List Answer
answers D s [] = []
answers D s (e ∷ h) = answer D s e ∷ answers D (next D s e) h

-- the elements that the marks keep
abbrev pub those : {A : Type 0} → List Bool → List A → List A
those [] xs = []
those (keep ∷ marks) [] = []
those (keep ∷ marks) (x ∷ xs) = cond keep (x ∷ those marks xs) (those marks xs)

-- the unfinished line that holds these characters
abbrev pub line_of : (D : Device) → List Character → D.Line
line_of D xs = fold D.push D.empty xs

-- STRANGERS' LINES
-- Will the line that is open, with these characters so far, come to its end as an own line or a broadcast?
-- Not where a power-up drops it, or the history ends first.
abbrev pub will_be_for_module : ℕ → List Character → List Event → Bool
will_be_for_module address so_far [] = false
will_be_for_module address so_far (stopped fault ∷ h) = will_be_for_module address so_far h
will_be_for_module address so_far (skipped ∷ h) = will_be_for_module address so_far h
will_be_for_module address so_far (letter x ∷ h) = will_be_for_module address (so_far ++ (x ∷ [])) h
will_be_for_module address so_far (ending ∷ h) = for_module address so_far
will_be_for_module address so_far (tick ∷ h) = will_be_for_module address so_far h
will_be_for_module address so_far (levels v ∷ h) = will_be_for_module address so_far h
will_be_for_module address so_far (power_up ∷ h) = false

-- The calls that stay once strangers' lines are gone, and with them what belongs to no line:
-- skipped characters and calls that were not made.
abbrev pub stay_without_strangers : ℕ → List Character → List Event → List Bool
stay_without_strangers address so_far [] = []
stay_without_strangers address so_far (stopped fault ∷ h) = false ∷ stay_without_strangers address so_far h
stay_without_strangers address so_far (skipped ∷ h) = false ∷ stay_without_strangers address so_far h
stay_without_strangers address so_far (letter x ∷ h) =
    will_be_for_module address (so_far ++ (x ∷ [])) h ∷ stay_without_strangers address (so_far ++ (x ∷ [])) h
stay_without_strangers address so_far (ending ∷ h) = for_module address so_far ∷ stay_without_strangers address [] h
stay_without_strangers address so_far (tick ∷ h) = true ∷ stay_without_strangers address so_far h
stay_without_strangers address so_far (levels v ∷ h) = true ∷ stay_without_strangers address so_far h
stay_without_strangers address so_far (power_up ∷ h) = true ∷ stay_without_strangers address [] h

-- REFUSED LINES
-- Will the line that is open come to its end and be refused there?
abbrev pub will_be_refused : (D : Device) → State D → List Event → Bool
will_be_refused D s [] = false
will_be_refused D s (stopped fault ∷ h) = will_be_refused D (next D s (stopped fault)) h
will_be_refused D s (skipped ∷ h) = will_be_refused D (next D s skipped) h
will_be_refused D s (letter x ∷ h) = will_be_refused D (next D s (letter x)) h
will_be_refused D s (ending ∷ h) = D.refuses s.core s.line
will_be_refused D s (tick ∷ h) = will_be_refused D (next D s tick) h
will_be_refused D s (levels v ∷ h) = will_be_refused D (next D s (levels v)) h
will_be_refused D s (power_up ∷ h) = false

-- The calls that stay once the chosen ones among the refused lines are struck out. The lines are numbered from n.
abbrev pub stay_without_refused : (D : Device) → (ℕ → Bool) → ℕ → State D → List Event → List Bool
stay_without_refused D chosen n s [] = []
stay_without_refused D chosen n s (stopped fault ∷ h) = true ∷ stay_without_refused D chosen n (next D s (stopped fault)) h
stay_without_refused D chosen n s (skipped ∷ h) = true ∷ stay_without_refused D chosen n (next D s skipped) h
stay_without_refused D chosen n s (letter x ∷ h) =
    not (chosen n && will_be_refused D (next D s (letter x)) h) ∷ stay_without_refused D chosen n (next D s (letter x)) h
stay_without_refused D chosen n s (ending ∷ h) =
    not (chosen n && D.refuses s.core s.line) ∷ stay_without_refused D chosen (suc n) (next D s ending) h
stay_without_refused D chosen n s (tick ∷ h) = true ∷ stay_without_refused D chosen n (next D s tick) h
stay_without_refused D chosen n s (levels v ∷ h) = true ∷ stay_without_refused D chosen n (next D s (levels v)) h
stay_without_refused D chosen n s (power_up ∷ h) = true ∷ stay_without_refused D chosen (suc n) (next D s power_up) h

-- THE COUNTER
-- the value that the counter was last set to, and the step output's place at the end of that call
pub record Setting : Type 0 where
  pub value : ℤ
  pub place_then : ℕ

-- what a call sets the counter to
abbrev pub set_by : (D : Device) → State D → Event → Option ℤ
set_by D s (stopped fault) = None
set_by D s skipped = None
set_by D s (letter x) = None
set_by D s ending = D.sets s.core s.line
set_by D s tick = cond (D.zeroes s.core) (Some (pos 0)) None
set_by D s (levels v) = None
set_by D s power_up = Some (pos 0)

abbrev pub noted : Setting → ℕ → Option ℤ → Setting
noted old place None = old
noted old place (Some v) = record { value = v; place_then = place }

abbrev pub last_set : (D : Device) → State D → Setting → List Event → Setting
last_set D s old [] = old
last_set D s old (e ∷ h) = last_set D (next D s e) (noted old (D.place (next D s e).core) (set_by D s e)) h
