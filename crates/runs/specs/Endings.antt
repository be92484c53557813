-- How a run that has been started ends, by the rules of runs.
use Rattle.std.specs.Prelude.{◌≡◌, ◌↔◌, ℕ, suc, Bool, ◌&&◌, [], ◌∷◌, List, is_some, is_none, Some, None, Option}
use Rattle.phases.specs.declared.phase.Phase.{Phase}
use Rattle.phases.specs.declared.phase.Position.{Position}
use Rattle.engine.specs.Surroundings.{Program, Moment}
use Rattle.engine.specs.Progress.{Progress}
use Rattle.engine.specs.Rules.{Event, event, unwritten, OverAgreeing}
use Rattle.control.specs.States.{running, upcoming_in}
use Rattle.law.specs.History.{State}
use Rattle.module.specs.Machine.{module_device}
use Rattle.runs.specs.Ticks.{run_for}
use Rattle.runs.specs.declared.report.Report.{Report}
use Rattle.runs.specs.declared.report.Ending.TheVariants.{Stop, NoPhase}

-- what the next tick of a run reads
abbrev pub program_in : (cycle : ℕ) → State (module_device cycle) → Program
program_in cycle s = record { blocks = s.core.rest.control.blocks; records = s.core.rest.records; values = s.core.rest.control.settings.values }

abbrev pub moment_in : (cycle : ℕ) → State (module_device cycle) → Moment
moment_in cycle s = record { counter = s.core.rest.axis.counter; levels = s.core.rest.control.levels }

-- what comes of the run's phase in the next tick
abbrev pub event_in : (cycle : ℕ) → State (module_device cycle) → Progress → Event
event_in cycle s c = event (program_in cycle s) (moment_in cycle s) c

-- the next tick brings the run to NS 54: a phase without a link ends, whose NE agrees with the levels; or a sub-sequence returns there
pub data ComesToStop (cycle : ℕ) (s : State (module_device cycle)) (c : Progress) : Type 0 where
  at_phase : (p : Phase) → OverAgreeing s.core.rest.control.levels (event_in cycle s c) p → p.link ≡ None → p.next ≡ Some 54 → ComesToStop cycle s c
  at_return : (earlier : List (Option Position)) → event_in cycle s c ≡ unwritten → c.returns ≡ None ∷ earlier → ComesToStop cycle s c

-- the next tick brings the run to that place, where there is no written phase, and no sub-sequence is open
pub record ComesToNoPhase (cycle : ℕ) (s : State (module_device cycle)) (c : Progress) (at : Position) : Type 0 where
  pub place : c.at ≡ at
  pub missing : event_in cycle s c ≡ unwritten
  pub none_open : c.returns ≡ []

-- a sequence has been started: the next tick enters a phase, and the fault record is empty
abbrev pub is_started : (cycle : ℕ) → State (module_device cycle) → Bool
is_started cycle s = is_some (upcoming_in s.core.rest.control.activity) && is_none s.core.fault

-- a run went on in the last tick; it is told as ended by the stop, or where there is no phase, exactly if that tick brought it there
abbrev pub EndsByTheRules : (cycle : ℕ) → State (module_device cycle) → Report → Type 0
EndsByTheRules cycle begun r =
    (k : ℕ) × (c : Progress) × (r.ticks ≡ suc k) × ((run_for cycle k begun).core.rest.control.activity ≡ running c)
    × ((r.ending ≡ Stop) ↔ ComesToStop cycle (run_for cycle k begun) c)
    × ((at : Position) → (r.ending ≡ NoPhase at) ↔ ComesToNoPhase cycle (run_for cycle k begun) c at)
