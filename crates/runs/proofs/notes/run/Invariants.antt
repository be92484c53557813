-- So many ticks have passed since the sequence was started, the module was busy before the last of them, and that one entered the place
-- without a phase that is noted; nothing that is noted comes to more than there were ticks, and with what is still to come it comes to the rows.
use Rattle.std.proofs.Common.{◌≡◌, ℕ, ◌+◌, suc, true}
use Rattle.history.specs.Hosts.{state_of}
use Rattle.runs.specs.Ticks.{run_for}
use Rattle.runs.specs.Notes.{noted, nothing, Within}
use Rattle.runs.specs.Runs.{busy_in, missing_in}
use Rattle.runs.proofs.RowLemmas.{in_the_end}
use Rattle.runs.proofs.notes.run.Given as goal

abbrev pub invariant-loop : goal.invariant-loop
invariant-loop g l =
    (l.notes.ticks ≡ l.counter)
    × (state_of g.O.StepOutput.CYCLE l.host ≡ run_for g.O.StepOutput.CYCLE l.counter (state_of g.O.StepOutput.CYCLE l.initial.host))
    × ((k : ℕ) → l.counter ≡ suc k → busy_in g.O.StepOutput.CYCLE (run_for g.O.StepOutput.CYCLE k (state_of g.O.StepOutput.CYCLE l.initial.host)) ≡ true)
    × ((k : ℕ) → l.counter ≡ suc k → l.notes.missing ≡ missing_in g.O.StepOutput.CYCLE (run_for g.O.StepOutput.CYCLE k (state_of g.O.StepOutput.CYCLE l.initial.host)))
    × Within (noted l.notes) l.notes.ticks
    × ((left : ℕ) →
    in_the_end g.O.StepOutput.CYCLE left (suc l.counter) (state_of g.O.StepOutput.CYCLE l.host) (noted l.notes)
    ≡ in_the_end g.O.StepOutput.CYCLE (l.counter + left) 1 (state_of g.O.StepOutput.CYCLE l.initial.host) nothing)
