-- The rows of a run: its phases in the order in which they were entered.
use Rattle.std.specs.Prelude.{ℕ, zero, suc, ◌+◌, Bool, cond, ◌&&◌, List, [], ◌∷◌, ◌++◌, take, drop, ℤ, pos, ◌+ℤ◌, Option, ◌==◌, is_some, unwrap_or, sum_by}
use Rattle.std.specs.Option.{option_and_then, option_map, option_to_list}
use Rattle.phases.specs.declared.phase.Phase.{Phase}
use Rattle.phases.specs.declared.phase.Position.{Position}
use Rattle.law.specs.Events.{Answer}
use Rattle.law.specs.Events.Event.{tick}
use Rattle.law.specs.Events.Answer.{ticked}
use Rattle.law.specs.History.{State, next, answer}
use Rattle.control.specs.States.{upcoming_in}
use Rattle.module.specs.Machine.{module_device}
use Rattle.history.specs.Hosts.{phase_in}
use Rattle.runs.specs.Ticks.{run_for}
use Rattle.runs.specs.declared.row.Row.{Row}

-- the place that the next tick enters, with a written phase or without
abbrev pub entered_in : (cycle : ℕ) → State (module_device cycle) → Option Position
entered_in cycle s = upcoming_in s.core.rest.control.activity

-- the step that the next tick answers
abbrev pub step_told : Answer → ℤ
step_told (ticked step busy) = step
step_told _ = pos 0

abbrev pub step_in : (cycle : ℕ) → State (module_device cycle) → ℤ
step_in cycle s = step_told (answer (module_device cycle) s tick)

-- how many of the next ticks, of so many that are left, come before one enters a place
abbrev pub ticks_on : (cycle : ℕ) → ℕ → State (module_device cycle) → ℕ
ticks_on cycle zero s = 0
ticks_on cycle (suc left) s = cond (is_some (entered_in cycle s)) 0 (suc (ticks_on cycle left (next (module_device cycle) s tick)))

-- the steps of so many ticks, forward less back
abbrev pub steps_in : (cycle : ℕ) → ℕ → State (module_device cycle) → ℤ
steps_in cycle zero s = pos 0
steps_in cycle (suc ticks) s = step_in cycle s +ℤ steps_in cycle ticks (next (module_device cycle) s tick)

-- a phase p that came once, when the next tick entered it: its ticks are that one and those until a tick enters another place
abbrev pub phase_entered : (cycle left number : ℕ) → State (module_device cycle) → Position → Phase → Row
phase_entered cycle left number s at p =
    let ticks = suc (ticks_on cycle left (next (module_device cycle) s tick)) in record {
      at = at;
      times = 1;
      entered = number;
      ticks = ticks;
      steps = steps_in cycle ticks s;
      counter = (run_for cycle ticks s).core.rest.axis.counter;
      outputs = unwrap_or p.outputs s.core.rest.control.outputs;
    }

-- each phase that came in so many ticks, the next of which has this number: one for each tick that enters a written phase
abbrev pub phases_entered : (cycle left number : ℕ) → State (module_device cycle) → List Row
phases_entered cycle zero number s = []
phases_entered cycle (suc left) number s =
    option_to_list (option_and_then (λ at. option_map (phase_entered cycle left number s at) (phase_in cycle s at)) (entered_in cycle s))
    ++ phases_entered cycle left (suc number) (next (module_device cycle) s tick)

-- a phase that comes again, with no other between, is one row with the time before
abbrev pub same_place : Position → Position → Bool
same_place q r = q.sequence == r.sequence && q.phase == r.phase

abbrev pub together : Row → Row → Row
together r x = record {
  at = r.at;
  times = r.times + x.times;
  entered = r.entered;
  ticks = r.ticks + x.ticks;
  steps = r.steps +ℤ x.steps;
  counter = x.counter;
  outputs = r.outputs;
}

abbrev pub before : Row → List Row → List Row
before r [] = r ∷ []
before r (x ∷ xs) = cond (same_place r.at x.at) (together r x ∷ xs) (r ∷ x ∷ xs)

abbrev pub merged : List Row → List Row
merged [] = []
merged (r ∷ rs) = before r (merged rs)

-- the rows of a run of so many ticks from this state
abbrev pub rows_of : (cycle ticks : ℕ) → State (module_device cycle) → List Row
rows_of cycle ticks s = merged (phases_entered cycle ticks 1 s)

-- at most 1,000 rows are listed; of the others it is told how many times their phases came
abbrev pub listed : List Row → List Row
listed rs = take 1000 rs

abbrev pub times_in : List Row → ℕ
times_in rs = sum_by (λ r. r.times) rs

abbrev pub left_out_of : List Row → ℕ
left_out_of rs = times_in (drop 1000 rs)
