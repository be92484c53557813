-- What is still to be compared completes what has been.
use Rattle.std.proofs.Common.{◌≡◌, List, ◌++◌, drop, vec_items}
use Rattle.history.specs.Hosts.{state_of}
use Rattle.sheet.specs.declared.verdict.ShelfPhase.{ShelfPhase}
use Rattle.sheet.specs.ReadBack.{Compared, after_shelf}
use Rattle.sheet.proofs.reading.compare.Given as goal

abbrev pub invariant-loop-intended : goal.invariant-loop-intended
invariant-loop-intended g l =
    ((ps : List ShelfPhase) → Compared g.O.StepOutput.CYCLE (state_of g.O.StepOutput.CYCLE l.host) (drop l.intended-index l.shelf) ps →
    Compared g.O.StepOutput.CYCLE (state_of g.O.StepOutput.CYCLE l.initial.host) l.shelf (vec_items l.compared ++ ps))
    × (after_shelf g.O.StepOutput.CYCLE (state_of g.O.StepOutput.CYCLE l.host) (drop l.intended-index l.shelf)
    ≡ after_shelf g.O.StepOutput.CYCLE (state_of g.O.StepOutput.CYCLE l.initial.host) l.shelf)
