-- What is still to be run completes what has been.
use Rattle.std.proofs.Common.{List, ◌++◌, drop, vec_items}
use Rattle.history.specs.Hosts.{state_of}
use Rattle.runs.specs.declared.report.Report.{Report}
use Rattle.runs.specs.Runs.{RunInTurn}
use Rattle.sheet.specs.Telling.{numbers_in}
use Rattle.sheet.proofs.reading.run_all.Given as goal

abbrev pub invariant-loop-block : goal.invariant-loop-block
invariant-loop-block g l =
    (rs : List Report) → RunInTurn g.O.StepOutput.CYCLE (state_of g.O.StepOutput.CYCLE l.host) (numbers_in (drop l.block-index l.blocks)) rs →
    RunInTurn g.O.StepOutput.CYCLE (state_of g.O.StepOutput.CYCLE l.initial.host) (numbers_in l.blocks) (vec_items l.reports ++ rs)
