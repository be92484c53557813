-- What is noted of the phases of a run while it goes on.
use Rattle.std.specs.Prelude.{◌≤◌, ℕ, ◌+◌, Bool, true, false, cond, List, [], ◌∷◌, ◌++◌, length, ℤ, pos, ◌+ℤ◌, Some, None, Option, nat_lt, unwrap_or, neg_ℤ, ◌≤ℤ◌, vec_items}
use Rattle.std.specs.Option.{option_map}
use Rattle.phases.specs.declared.phase.Phase.{Phase}
use Rattle.phases.specs.declared.phase.Position.{Position}
use Rattle.law.specs.Events.Event.{tick}
use Rattle.law.specs.History.{State, next}
use Rattle.module.specs.Machine.{module_device}
use Rattle.history.specs.Hosts.{phase_in}
use Rattle.runs.specs.declared.notes.Notes.{Notes}
use Rattle.runs.specs.declared.row.Row.{Row}
use Rattle.runs.specs.Rows.{entered_in, step_in, same_place}

-- the rows that are complete, as far as they are listed; how many phases were left out; the row of the phase that was entered last, and
-- whether that phase goes on
pub record Noted : Type 0 where
  pub rows : List Row
  pub left_out : ℕ
  pub last : Option Row
  pub going : Bool

abbrev pub noted : Notes → Noted
noted n = record { rows = vec_items n.rows; left_out = n.left_out; last = n.last; going = n.going }

abbrev pub nothing : Noted
nothing = record { rows = []; left_out = 0; last = None; going = false }

-- the last row is complete
abbrev pub completed : Noted → Option Row → Noted
completed n None = n
completed n (Some r) =
    cond (nat_lt (length n.rows) 1000)
    (record n { rows = n.rows ++ r ∷ []; last = None })
    (record n { left_out = n.left_out + r.times; last = None })

-- a phase that has been entered in a tick of this number
abbrev pub begun_row : Position → ℕ → ℕ → Row
begun_row at number outputs = record { at = at; times = 1; entered = number; ticks = 0; steps = pos 0; counter = pos 0; outputs = outputs }

abbrev pub is_at : Option Row → Position → Bool
is_at None at = false
is_at (Some r) at = same_place r.at at

abbrev pub once_more : Row → Row
once_more r = record r { times = r.times + 1 }

-- that tick enters a place, with a phase or without; the outputs were these before
abbrev pub entering : Noted → ℕ → Position → Option Phase → ℕ → Noted
entering n number at None outputs = record n { going = false }
entering n number at (Some p) outputs =
    cond (is_at n.last at)
    (record n { last = option_map once_more n.last; going = true })
    (record (completed n n.last) { last = Some (begun_row at number (unwrap_or p.outputs outputs)); going = true })

-- a tick of the phase: the step that it made, and the counter then
abbrev pub counted : ℤ → ℤ → Row → Row
counted step counter r = record r { ticks = r.ticks + 1; steps = r.steps +ℤ step; counter = counter }

abbrev pub with_tick : Noted → ℤ → ℤ → Noted
with_tick n step counter = record n { last = cond n.going (option_map (counted step counter) n.last) n.last }

abbrev pub entered_by : (cycle : ℕ) → State (module_device cycle) → Noted → ℕ → Option Position → Noted
entered_by cycle s n number None = n
entered_by cycle s n number (Some at) = entering n number at (phase_in cycle s at) s.core.rest.control.outputs

-- the next tick, which has that number
abbrev pub ticked : (cycle : ℕ) → State (module_device cycle) → ℕ → Noted → Noted
ticked cycle s number n =
    with_tick (entered_by cycle s n number (entered_in cycle s)) (step_in cycle s) (next (module_device cycle) s tick).core.rest.axis.counter

-- nothing comes to more than there were ticks
abbrev pub times_of : Option Row → ℕ
times_of None = 0
times_of (Some r) = r.times

abbrev pub ticks_of : Option Row → ℕ
ticks_of None = 0
ticks_of (Some r) = r.ticks

abbrev pub steps_of : Option Row → ℤ
steps_of None = pos 0
steps_of (Some r) = r.steps

pub record Within (n : Noted) (ticks : ℕ) : Type 0 where
  pub times : n.left_out + times_of n.last ≤ ticks
  pub ticks_last : ticks_of n.last ≤ ticks
  pub back : neg_ℤ (pos ticks) ≤ℤ steps_of n.last
  pub forward : steps_of n.last ≤ℤ pos ticks
