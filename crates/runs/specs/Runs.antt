-- The run of a sequence as calls of a module, and what is told of its end.
use Rattle.std.specs.Prelude.{◌≡◌, ℕ, suc, ◌≤◌, Bool, true, false, List, [], ◌∷◌, ◌++◌, codes, vec_items, Some, None, Option, cond, ◌&&◌, ◌==◌, is_none}
use Rattle.faults.specs.declared.Fault.{Fault}
use Rattle.law.specs.History.{State}
use Rattle.replies.specs.Replies.{digits_of}
use Rattle.phases.specs.declared.phase.Position.{Position}
use Rattle.control.specs.States.{is_busy, upcoming_in, open_in}
use Rattle.module.specs.Machine.{module_device}
use Rattle.history.specs.Hosts.{after_own, phase_in}
use Rattle.runs.specs.Ticks.{run_for}
use Rattle.runs.specs.Rows.{rows_of, listed, left_out_of}
use Rattle.runs.specs.Endings.{is_started, EndsByTheRules}
use Rattle.runs.specs.declared.report.Report.{Report}
use Rattle.runs.specs.declared.report.Ending.{Ending}
use Rattle.runs.specs.declared.report.Ending.TheVariants.{Stop, NoPhase, Fault as Faulty, Endless}

-- SS and the sequence in two digits
abbrev pub start_line : ℕ → List ℕ
start_line sequence = codes "SS " ++ digits_of 2 sequence

-- what a run begins with: power off, no fault, the counter at 0, outputs FFh; then SS
abbrev pub prepared : (cycle : ℕ) → State (module_device cycle) → State (module_device cycle)
prepared cycle s = after_own cycle (codes "GL FF") (after_own cycle (codes "DI") (after_own cycle (codes "RX") (after_own cycle (codes "GR") s)))

abbrev pub called : (cycle : ℕ) → ℕ → State (module_device cycle) → State (module_device cycle)
called cycle sequence s = after_own cycle (start_line sequence) (prepared cycle s)

-- a run that has not ended, and the fault that ended one
abbrev pub is_endless : Ending → Bool
is_endless Endless = true
is_endless _ = false

abbrev pub fault_in : Ending → Option Fault
fault_in (Faulty f) = Some f
fault_in _ = None

abbrev pub busy_in : (cycle : ℕ) → State (module_device cycle) → Bool
busy_in cycle s = is_busy s.core.rest.control.activity

-- the place without a phase where the next tick ends the run: the one that it enters, unless it returns from a sub-sequence there
abbrev pub missing_at : (cycle : ℕ) → State (module_device cycle) → Option Position → Option Position
missing_at cycle s None = None
missing_at cycle s (Some at) = cond (open_in s.core.rest.control.activity == 0 && is_none (phase_in cycle s at)) (Some at) None

abbrev pub missing_in : (cycle : ℕ) → State (module_device cycle) → Option Position
missing_in cycle s = missing_at cycle s (upcoming_in s.core.rest.control.activity)

-- how a run ended that no fault ended
abbrev pub ended_by : Option Position → Ending
ended_by None = Stop
ended_by (Some at) = NoPhase at

-- what is told of the end is so: whether the module is still busy, its fault record, and the counter
pub record EndsAs (cycle : ℕ) (s : State (module_device cycle)) (r : Report) : Type 0 where
  pub endless : is_endless r.ending ≡ busy_in cycle s
  pub fault : is_endless r.ending ≡ false → fault_in r.ending ≡ s.core.fault
  pub counter : r.counter ≡ s.core.rest.axis.counter

-- what is told of a run that begins in this state is so: its end, that the module was busy before the last tick, whether that tick found no
-- phase where the run was to go on, that a run which is told as endless went on for 24,000,000 ticks, the most that are waited for,
-- its rows, whether the sequence was started, and how its run ended then
pub record WasRun (cycle : ℕ) (begun : State (module_device cycle)) (r : Report) : Type 0 where
  pub ended : EndsAs cycle (run_for cycle r.ticks begun) r
  pub last : (k : ℕ) → r.ticks ≡ suc k → busy_in cycle (run_for cycle k begun) ≡ true
  pub place : (k : ℕ) → r.ticks ≡ suc k → is_endless r.ending ≡ false → fault_in r.ending ≡ None → r.ending ≡ ended_by (missing_in cycle (run_for cycle k begun))
  pub cut : is_endless r.ending ≡ true → r.ticks ≡ 24000000
  pub most : r.ticks ≤ 24000000
  pub rows : vec_items r.rows ≡ listed (rows_of cycle r.ticks begun)
  pub left_out : r.left_out ≡ left_out_of (rows_of cycle r.ticks begun)
  pub started : r.started ≡ is_started cycle begun
  pub rules : r.started ≡ true → EndsByTheRules cycle begun r

-- each of the sequences run once, one after the other
abbrev pub RunInTurn : (cycle : ℕ) → State (module_device cycle) → List ℕ → List Report → Type 0
RunInTurn cycle s [] rs = rs ≡ []
RunInTurn cycle s (n ∷ ns) [] = ⊥
RunInTurn cycle s (n ∷ ns) (r ∷ rs) =
    (r.sequence ≡ n) × WasRun cycle (called cycle n s) r × RunInTurn cycle (run_for cycle r.ticks (called cycle n s)) ns rs
